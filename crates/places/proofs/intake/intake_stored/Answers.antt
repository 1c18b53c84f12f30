use Rattle.std.proofs.Common.{◌∙◌, ◌≡◌, inr, refl, subst, sym}
use Rattle.std.proofs.lemmas.Option.{MatchOption-at_some}
use Rattle.pl_base.specs.Store.{Store}
use Rattle.pl_base.specs.Live.{slot_limit}
use Rattle.pl_desk.specs.Shown.{ShowsOnly}
use Rattle.pl_desk.proofs.SettlingLaws.{settles_on}
use Rattle.pl_store.specs.Session.{session_store}
use Rattle.places.specs.Status.{done_or}
use Rattle.places.specs.Stops.{ShowsUnopened}
use Rattle.places.specs.TakingIn.{EndsIntake, ShowsIntake, intake_task}
use Rattle.places.proofs.IntakeLemmas.{ends_unopened, intake_may_end, intake_opened, opens, shows_opened}
use Rattle.places.proofs.OpeningLemmas.{fault_told, no_fault, opening_may_end}
use Rattle.places.proofs.intake.intake_stored.Goals as goal

pub returns-in-Ok-clause-ends : goal.returns-in-Ok-clause-ends
returns-in-Ok-clause-ends g c = λ file start held stands bytes before told begun.
    let desk = g.D.Desk in let old = c.args.desk.now in let new = c.take_in.new.desk in
    let left = g.S.Source.left c.take_in.new.input in
    let is : session_store c.in-Ok.session ≡ start =
    sym (MatchOption-at_some _ _ file held c.in-Ok.ensures.ends.1.only start stands) in
    rw c.status_of.ensures
    (subst (λ (s : Store). EndsIntake desk c.args.intake (done_or c.take_in.result) old s bytes before left new) is
    (c.take_in.ensures.ends bytes before told (c.reopen.ensures.calls.line.said ∙ begun) old
    (c.in-Ok.ensures.ends.1.settled file held)))

pub returns-in-Ok-clause-stops : goal.returns-in-Ok-clause-stops
returns-in-Ok-clause-stops g c = λ file start held stands bytes before told begun.
    let desk = g.D.Desk in let old = c.args.desk.now in let mid = c.reopen.new.desk in
    let new = c.take_in.new.desk in
    let is : session_store c.in-Ok.session ≡ start =
    sym (MatchOption-at_some _ _ file held c.in-Ok.ensures.ends.1.only start stands) in
    inr (settles_on desk old mid new (ShowsUnopened desk old before) (ShowsIntake desk c.args.intake start bytes before)
    (λ fault. fault)
    (shows_opened desk c.args.intake file start bytes before old mid stands begun (c.in-Ok.ensures.any_moment file held)
    (no_fault _))
    (subst (λ (s : Store). ShowsOnly desk mid new (ShowsIntake desk c.args.intake s bytes before)) is
    (c.take_in.ensures.shows bytes before told (c.reopen.ensures.calls.line.said ∙ begun) old
    (c.in-Ok.ensures.ends.1.settled file held))))

pub returns-in-Ok-clause-no_store : goal.returns-in-Ok-clause-no_store
returns-in-Ok-clause-no_store g c = λ file held none.
    absurd (none (session_store c.in-Ok.session) (MatchOption-at_some _ _ file held c.in-Ok.ensures.ends.1.stands))

pub returns-in-Ok-clause-status : goal.returns-in-Ok-clause-status
returns-in-Ok-clause-status g c =
    rw c.status_of.ensures (intake_may_end c.args.intake c.take_in.result c.take_in.ensures.stops)

pub returns-in-Ok-clause-refused : goal.returns-in-Ok-clause-refused
returns-in-Ok-clause-refused g c =
    λ none. absurd (intake_opened c.args.intake c.take_in.result c.take_in.ensures.stops (sym c.status_of.ensures ∙ none))

pub returns-in-Ok-clause-not_run : goal.returns-in-Ok-clause-not_run
returns-in-Ok-clause-not_run g c =
    λ none. absurd (intake_opened c.args.intake c.take_in.result c.take_in.ensures.stops (sym c.status_of.ensures ∙ none))

pub returns-in-Err-clause-stops : goal.returns-in-Err-clause-stops
returns-in-Err-clause-stops g c = λ file start held stands bytes before told begun.
    let desk = g.D.Desk in let old = c.args.desk.now in
    shows_opened desk c.args.intake file start bytes before old c.reopen.new.desk stands begun
    (c.in-Err.ensures.any_moment file held) (fault_told c.in-Err.ended c.from.result c.from.ensures)

pub returns-in-Err-clause-ends : goal.returns-in-Err-clause-ends
returns-in-Err-clause-ends g c = λ file start held stands bytes before told begun.
    let desk = g.D.Desk in let old = c.args.desk.now in let new = c.reopen.new.desk in
    ends_unopened desk c.args.intake c.in-Err.ended c.from.result file start bytes before (g.S.Source.left c.args.input.now) old new
    g.met.D.Desk.counts_now c.from.ensures held c.in-Err.ensures.ends stands told c.reopen.ensures.calls.line.said begun
    (c.in-Err.ensures.any_moment file held)

pub returns-in-Err-clause-status : goal.returns-in-Err-clause-status
returns-in-Err-clause-status g c =
    opening_may_end (intake_task c.args.intake) (opens c.args.intake) g.D.Desk slot_limit c.in-Err.ended c.from.result c.args.desk.now
    c.reopen.new.desk c.from.ensures c.in-Err.ensures.ends

use Rattle.std.proofs.Common.{◌∙◌, ◌≡◌, inr, refl, subst, sym}
use Rattle.std.proofs.lemmas.Option.{MatchOption-at_some}
use Rattle.pl_base.specs.Store.{Store}
use Rattle.pl_base.specs.Live.{slot_limit}
use Rattle.pl_desk.specs.Shown.{ShowsOnly}
use Rattle.pl_desk.proofs.SettlingLaws.{settles_on}
use Rattle.pl_store.specs.Session.{session_store}
use Rattle.pl_task.specs.declared.task.Task.TheVariants as tasks
use Rattle.places.specs.Drilling.{EndsDrill, ShowsDrill, drill_status}
use Rattle.places.specs.Stops.{ShowsUnopened}
use Rattle.places.proofs.DrillLemmas.{drill_may_end, drill_opened, ends_unopened, shows_opened}
use Rattle.places.proofs.OpeningLemmas.{fault_told, no_fault, opening_may_end}
use Rattle.places.proofs.drill.drill_stored.Goals as goal

pub returns-in-Ok-clause-ends : goal.returns-in-Ok-clause-ends
returns-in-Ok-clause-ends g c = λ file start before held stands begun.
    let desk = g.D.Desk in let old = c.args.desk.now in let new = c.drill.new.desk in
    let is : session_store c.in-Ok.session ≡ start =
    sym (MatchOption-at_some _ _ file held c.in-Ok.ensures.ends.1.only start stands) in
    rw c.status_of.ensures
    (subst (λ (s : Store). EndsDrill desk (drill_status c.drill.result) c.args.count c.args.seed old s before new) is
    (c.drill.ensures.ends old before (c.reopen.ensures.calls.line.said ∙ begun) (c.in-Ok.ensures.ends.1.settled file held)))

pub returns-in-Ok-clause-stops : goal.returns-in-Ok-clause-stops
returns-in-Ok-clause-stops g c = λ file start before held stands begun.
    let desk = g.D.Desk in let old = c.args.desk.now in let mid = c.reopen.new.desk in let new = c.drill.new.desk in
    let count = c.args.count in let seed = c.args.seed in
    let is : session_store c.in-Ok.session ≡ start =
    sym (MatchOption-at_some _ _ file held c.in-Ok.ensures.ends.1.only start stands) in
    inr (settles_on desk old mid new (ShowsUnopened desk old before) (ShowsDrill desk count seed start before)
    (λ fault. fault)
    (shows_opened desk file start count seed before old mid stands begun (c.in-Ok.ensures.any_moment file held)
    (no_fault _))
    (subst (λ (s : Store). ShowsOnly desk mid new (ShowsDrill desk count seed s before)) is
    (c.drill.ensures.shows old before (c.reopen.ensures.calls.line.said ∙ begun)
    (c.in-Ok.ensures.ends.1.settled file held))))

pub returns-in-Ok-clause-no_store : goal.returns-in-Ok-clause-no_store
returns-in-Ok-clause-no_store g c = λ file held none.
    absurd (none (session_store c.in-Ok.session) (MatchOption-at_some _ _ file held c.in-Ok.ensures.ends.1.stands))

pub returns-in-Ok-clause-status : goal.returns-in-Ok-clause-status
returns-in-Ok-clause-status g c =
    rw c.status_of.ensures (drill_may_end c.args.count c.args.seed c.drill.result)

pub returns-in-Ok-clause-refused : goal.returns-in-Ok-clause-refused
returns-in-Ok-clause-refused g c =
    λ none. absurd (drill_opened c.drill.result (sym c.status_of.ensures ∙ none))

pub returns-in-Ok-clause-not_said : goal.returns-in-Ok-clause-not_said
returns-in-Ok-clause-not_said g c =
    λ none. absurd (drill_opened c.drill.result (sym c.status_of.ensures ∙ none))

pub returns-in-Err-clause-stops : goal.returns-in-Err-clause-stops
returns-in-Err-clause-stops g c = λ file start before held stands begun.
    let desk = g.D.Desk in let old = c.args.desk.now in
    shows_opened desk file start c.args.count c.args.seed before old c.reopen.new.desk stands begun
    (c.in-Err.ensures.any_moment file held) (fault_told c.in-Err.ended c.from.result c.from.ensures)

pub returns-in-Err-clause-ends : goal.returns-in-Err-clause-ends
returns-in-Err-clause-ends g c = λ file start before held stands begun.
    let desk = g.D.Desk in let old = c.args.desk.now in let new = c.reopen.new.desk in
    ends_unopened desk c.in-Err.ended c.from.result file start c.args.count c.args.seed before old new
    g.met.D.Desk.counts_now c.from.ensures held c.in-Err.ensures.ends stands c.reopen.ensures.calls.line.said begun
    (c.in-Err.ensures.any_moment file held)

pub returns-in-Err-clause-status : goal.returns-in-Err-clause-status
returns-in-Err-clause-status g c =
    opening_may_end (tasks.Drill c.args.count c.args.seed) refl g.D.Desk slot_limit c.in-Err.ended c.from.result
    c.args.desk.now c.reopen.new.desk c.from.ensures c.in-Err.ensures.ends

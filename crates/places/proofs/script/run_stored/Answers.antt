use Rattle.std.proofs.Common.{◌∙◌, ◌+◌, ◌≡◌, inr, refl, subst, sym, true}
use Rattle.std.proofs.lemmas.Option.{MatchOption-at_some}
use Rattle.pl_base.specs.Store.{Store}
use Rattle.pl_base.specs.Live.{slot_limit}
use Rattle.pl_desk.specs.Shown.{ShowsOnly}
use Rattle.pl_desk.proofs.SettlingLaws.{settles_on}
use Rattle.pl_store.specs.Bounds.{reopening_bytes}
use Rattle.pl_store.specs.Session.{session_store}
use Rattle.pl_script.specs.Script.{script}
use Rattle.pl_task.specs.declared.task.Task.TheVariants as tasks
use Rattle.places.specs.Ending.{LeavesAtEnd, WritesRead}
use Rattle.places.specs.Stops.{ShowsAnswered, ShowsUnopened}
use Rattle.places.proofs.BoundLemmas.{writes_from, writes_unread}
use Rattle.places.proofs.OpeningLemmas.{ends_without, fault_told, no_fault, no_refusal, opening_may_end}
use Rattle.places.proofs.OpeningLemmas.{script_may_end, shows_opening}
use Rattle.places.proofs.script.run_stored.Goals as goal

pub returns-in-Ok-clause-ends : goal.returns-in-Ok-clause-ends
returns-in-Ok-clause-ends g c = λ file start held stands bytes before told begun.
    let desk = g.D.Desk in let old = c.args.desk.now in let new = c.run_script.new.desk in
    let left = g.S.Source.left c.run_script.new.input in
    let is : session_store c.in-Ok.session ≡ start =
    sym (MatchOption-at_some _ _ file held c.in-Ok.ensures.ends.1.only start stands) in
    subst (λ (s : Store). LeavesAtEnd desk c.status_of.result true old s bytes before left new) is
    (c.run_script.ensures.ends c.status_of.result c.status_of.ensures bytes before told
    (c.reopen.ensures.calls.line.said ∙ begun) old (c.in-Ok.ensures.ends.1.settled file held))

pub returns-in-Ok-clause-stops : goal.returns-in-Ok-clause-stops
returns-in-Ok-clause-stops g c = λ file start held stands bytes before told begun.
    let desk = g.D.Desk in let old = c.args.desk.now in let mid = c.reopen.new.desk in
    let new = c.run_script.new.desk in let first = old in
    let is : session_store c.in-Ok.session ≡ start =
    sym (MatchOption-at_some _ _ file held c.in-Ok.ensures.ends.1.only start stands) in
    inr (settles_on desk old mid new (ShowsUnopened desk first before)
    (ShowsAnswered desk true first slot_limit start (script bytes) before) (λ fault. fault)
    (shows_opening desk first file start (script bytes) before old mid stands begun
    (c.in-Ok.ensures.any_moment file held) (no_fault _))
    (subst (λ (s : Store). ShowsOnly desk mid new (ShowsAnswered desk true first slot_limit s (script bytes) before)) is
    (c.run_script.ensures.shows bytes before told (c.reopen.ensures.calls.line.said ∙ begun) old
    (c.in-Ok.ensures.ends.1.settled file held))))

pub returns-in-Ok-clause-no_store : goal.returns-in-Ok-clause-no_store
returns-in-Ok-clause-no_store g c = λ file held none.
    absurd (none (session_store c.in-Ok.session) (MatchOption-at_some _ _ file held c.in-Ok.ensures.ends.1.stands))

pub returns-in-Err-clause-stops : goal.returns-in-Err-clause-stops
returns-in-Err-clause-stops g c = λ file start held stands bytes before told begun.
    let desk = g.D.Desk in let old = c.args.desk.now in
    shows_opening desk old file start (script bytes) before old c.reopen.new.desk stands begun
    (c.in-Err.ensures.any_moment file held) (fault_told c.in-Err.ended c.from.result c.from.ensures)

pub returns-in-Err-clause-ends : goal.returns-in-Err-clause-ends
returns-in-Err-clause-ends g c = λ file start held stands bytes before told begun.
    let desk = g.D.Desk in let old = c.args.desk.now in let new = c.reopen.new.desk in
    ends_without desk c.in-Err.ended c.from.result file start bytes before (g.S.Source.left c.args.input.now) old new
    g.met.D.Desk.counts_now c.from.ensures held c.in-Err.ensures.ends stands told c.reopen.ensures.calls.line.said begun
    (c.in-Err.ensures.any_moment file held)

pub returns-in-Ok-clause-status : goal.returns-in-Ok-clause-status
returns-in-Ok-clause-status g c =
    script_may_end tasks.Run c.run_script.result c.status_of.result refl (λ fault same. absurd (cc)) c.status_of.ensures

pub returns-in-Err-clause-status : goal.returns-in-Err-clause-status
returns-in-Err-clause-status g c =
    opening_may_end tasks.Run refl g.D.Desk slot_limit c.in-Err.ended c.from.result c.args.desk.now
    c.reopen.new.desk c.from.ensures c.in-Err.ensures.ends

pub returns-in-Ok-clause-refused : goal.returns-in-Ok-clause-refused
returns-in-Ok-clause-refused g c =
    λ none. absurd (no_refusal c.run_script.result c.status_of.result c.status_of.ensures none)

pub returns-in-Ok-clause-not_run : goal.returns-in-Ok-clause-not_run
returns-in-Ok-clause-not_run g c =
    λ none. absurd (no_refusal c.run_script.result c.status_of.result c.status_of.ensures none)

pub returns-in-Ok-clause-bounded : goal.returns-in-Ok-clause-bounded
returns-in-Ok-clause-bounded g c = λ file start held stands bytes before told begun.
    let desk = g.D.Desk in let new = c.run_script.new.desk in let left = g.S.Source.left c.run_script.new.input in
    let is : session_store c.in-Ok.session ≡ start =
    sym (MatchOption-at_some _ _ file held c.in-Ok.ensures.ends.1.only start stands) in
    writes_from start bytes left (desk.written c.reopen.new.desk)
    (desk.written c.args.desk.now + reopening_bytes file) (desk.written new)
    (c.reopen.ensures.no_more file held)
    (subst (λ (s : Store). WritesRead s bytes left (desk.written c.reopen.new.desk) (desk.written new)) is
    (c.run_script.ensures.bounded bytes before told (c.reopen.ensures.calls.line.said ∙ begun)))

pub returns-in-Err-clause-bounded : goal.returns-in-Err-clause-bounded
returns-in-Err-clause-bounded g c = λ file start held stands bytes before told begun.
    writes_unread start (g.D.Desk.written c.args.desk.now + reopening_bytes file) bytes (g.S.Source.left c.args.input.now) (g.D.Desk.written c.reopen.new.desk) told
    (c.reopen.ensures.no_more file held)

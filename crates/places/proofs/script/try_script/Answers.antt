use Rattle.std.proofs.Common.{false, refl, subst, sym}
use Rattle.std.proofs.lemmas.Bool.{true≢false}
use Rattle.pl_base.specs.Store.{Store, opening}
use Rattle.pl_base.specs.Live.{slot_limit}
use Rattle.pl_desk.specs.Shown.{ShowsOnly}
use Rattle.pl_script.specs.Script.{script}
use Rattle.pl_task.specs.declared.task.Task.TheVariants as tasks
use Rattle.places.specs.Ending.{LeavesAtEnd}
use Rattle.places.specs.Stops.{ShowsAnswered}
use Rattle.places.proofs.OpeningLemmas.{ends_unread, script_may_end, shows_unrun}
use Rattle.places.proofs.script.try_script.Goals as goal

pub returns-in-Ok-clause-ends : goal.returns-in-Ok-clause-ends
returns-in-Ok-clause-ends g c = λ bytes before told begun.
    let desk = g.D.Desk in let old = c.args.desk.now in let new = c.run_script.new.desk in
    let left = g.S.Source.left c.run_script.new.input in
    subst (λ (start : Store). LeavesAtEnd desk c.status_of.result false old start bytes before left new)
    c.in-Ok.ensures.store
    (c.run_script.ensures.ends c.status_of.result c.status_of.ensures bytes before told begun old
    (λ file is_left. is_left))

pub returns-in-Ok-clause-stops : goal.returns-in-Ok-clause-stops
returns-in-Ok-clause-stops g c = λ bytes before told begun. let desk = g.D.Desk in let old = c.args.desk.now in
    subst (λ (start : Store). ShowsOnly desk old c.run_script.new.desk
    (ShowsAnswered desk false old slot_limit start (script bytes) before)) c.in-Ok.ensures.store
    (c.run_script.ensures.shows bytes before told begun old (λ file left. left))

pub returns-in-Err-clause-ends : goal.returns-in-Err-clause-ends
returns-in-Err-clause-ends g c = λ bytes before told begun. let desk = g.D.Desk in let old = c.args.desk.now in
    ends_unread desk false old opening bytes before (g.S.Source.left c.args.input.now) old told begun
    (λ file left. left)

pub returns-in-Err-clause-stops : goal.returns-in-Err-clause-stops
returns-in-Err-clause-stops g c = λ bytes before told begun. let desk = g.D.Desk in
    shows_unrun desk g.met.D.Desk.only_now c.args.desk.now opening (script bytes) before begun

pub returns-in-Ok-clause-status : goal.returns-in-Ok-clause-status
returns-in-Ok-clause-status g c =
    script_may_end tasks.Try c.run_script.result c.status_of.result refl
    (λ fault. absurd (true≢false (sym (c.run_script.ensures.in_file fault)))) c.status_of.ensures

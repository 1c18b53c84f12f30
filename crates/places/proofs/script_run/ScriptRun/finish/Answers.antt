use Rattle.std.proofs.Common.{◌++◌}
use Rattle.std.proofs.lemmas.Result.{IfOk-weaker, on_ok_weaker}
use Rattle.pl_base.specs.Live.{slot_limit}
use Rattle.pl_desk.proofs.Moments.{shows_less}
use Rattle.pl_step.specs.Run.{replies}
use Rattle.pl_store.specs.Keeper.{is_file, keeper_store}
use Rattle.pl_script.specs.Script.{script}
use Rattle.places.specs.Progress.{ended_entries}
use Rattle.places.specs.Said.{texts}
use Rattle.places.specs.Stops.{ShowsAnswered}
use Rattle.places.proofs.BoundLemmas.{last_writes}
use Rattle.places.proofs.EntryLemmas.{if_err_both, last_leaves}
use Rattle.places.proofs.ProgressLemmas.{finished, finished_store}
use Rattle.places.proofs.StopLemmas.{last_shows}
use Rattle.places.proofs.script_run.ScriptRun.finish.Goals as goal

pub returns-clause-ok : goal.returns-clause-ok
returns-clause-ok g c =
    on_ok_weaker c.answer.result
    (λ says. λ start bytes begun at. finished start bytes c.deref.result.now begun _ _ c.args.self
    at c.deref.ensures.value says) c.answer.ensures.answers.said

pub returns-clause-store : goal.returns-clause-store
returns-clause-store g c =
    IfOk-weaker c.answer.result _ _
    (λ keeper stepped. λ start bytes begun at. finished_store start bytes c.deref.result.now begun _ c.args.self
    (keeper_store keeper) at c.deref.ensures.value stepped) c.answer.ensures.answers.store

pub returns-clause-ends : goal.returns-clause-ends
returns-clause-ends g c = let desk = g.D.Desk in let new = c.answer.new.desk in
    if_err_both c.answer.result _ _ _ c.answer.ensures.answers.stopped c.answer.ensures.taking.left
    (λ error says left. λ start bytes begun first at kept.
    last_leaves desk error (is_file c.args.self.keeper) first start begun new bytes c.deref.result.now
    (desk.said c.args.desk.now) c.args.self at says (left first kept) c.deref.ensures.value)

pub returns-clause-shows : goal.returns-clause-shows
returns-clause-shows g c = λ start bytes begun first at kept. let desk = g.D.Desk in
    shows_less desk c.args.desk.now c.answer.new.desk _
    (ShowsAnswered desk (is_file c.args.self.keeper) first slot_limit start (script bytes) begun)
    (c.answer.ensures.taking.shows first (begun ++ texts (replies slot_limit start (ended_entries bytes))) at.text kept)
    (last_shows desk (is_file c.args.self.keeper) first start bytes c.deref.result.now begun _ c.args.self
    at c.deref.ensures.value)

pub returns-clause-writes : goal.returns-clause-writes
returns-clause-writes g c = λ start bytes begun before at few. let desk = g.D.Desk in
    last_writes start before bytes c.deref.result.now begun (desk.said c.args.desk.now) c.args.self
    (desk.written c.args.desk.now) (desk.written c.answer.new.desk) at c.deref.ensures.value few
    c.answer.ensures.bounded

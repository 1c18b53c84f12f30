use Rattle.std.specs.Str.Lines.{strip_carriage_return}
use Rattle.std.proofs.Common.{◌∙◌, ◌++◌, ◌∷◌, [], ap}
use Rattle.std.proofs.lemmas.Result.{err_from_is_err_and}
use Rattle.pl_base.specs.Live.{slot_limit}
use Rattle.pl_desk.proofs.Moments.{shows_less}
use Rattle.pl_step.specs.Run.{replies}
use Rattle.pl_store.specs.Keeper.{is_file}
use Rattle.places.specs.Progress.{ended_entries}
use Rattle.places.specs.Said.{texts}
use Rattle.places.specs.Stops.{ShowsAnswered}
use Rattle.places.proofs.BoundLemmas.{line_writes}
use Rattle.places.proofs.EntryLemmas.{line_leaves}
use Rattle.places.proofs.ProgressLemmas.{line_ended}
use Rattle.places.proofs.StopLemmas.{line_shows}
use Rattle.places.proofs.script_run.ScriptRun.end_line.Goals as goal

pub returns-clause-takes : goal.returns-clause-takes
returns-clause-takes g c = let desk = g.D.Desk in let line = c.without_carriage_return.result.now in
    let is_line = c.without_carriage_return.ensures ∙ ap strip_carriage_return c.deref.ensures.value in
    record {
      goes_on = λ start bytes begun at. let did = c.in_ok-keeper.ensures in
          line_ended start bytes line begun _ _ c.args.self _ at is_line did.limit did.answers.store
          c.clear.ensures.items did.answers.said;
      ends = tt;
      shows = λ start bytes begun first at kept. shows_less desk c.args.desk.now c.answer.new.desk _
          (ShowsAnswered desk (is_file c.args.self.keeper) first slot_limit start
          (ended_entries (bytes ++ 10 ∷ [])) begun)
          (c.answer.ensures.taking.shows first (begun ++ texts (replies slot_limit start (ended_entries bytes)))
          at.text kept)
          (line_shows desk (is_file c.args.self.keeper) first start bytes line begun _ c.args.self at is_line);
      writes = λ start bytes begun before at few. line_writes start before bytes line begun
          (desk.said c.args.desk.now) c.args.self (desk.written c.args.desk.now) (desk.written c.answer.new.desk) at is_line
          few c.answer.ensures.bounded;
    }

pub returns-in_err-keeper-clause-takes : goal.returns-in_err-keeper-clause-takes
returns-in_err-keeper-clause-takes g c = let desk = g.D.Desk in let line = c.without_carriage_return.result.now in
    let is_line = c.without_carriage_return.ensures ∙ ap strip_carriage_return c.deref.ensures.value in
    let p = err_from_is_err_and c.from_residual.result c.from_residual.ensures.1 in
    rw (p.1, p.2) (record {
      goes_on = tt;
      ends = λ start bytes begun first at kept. let did = c.in_err-keeper.ensures in
          line_leaves desk _ (is_file c.args.self.keeper) first start begun c.answer.new.desk bytes line
          (desk.said c.args.desk.now) c.args.self at did.answers.stopped (did.taking.left first kept) is_line;
      shows = λ start bytes begun first at kept. shows_less desk c.args.desk.now c.answer.new.desk _
          (ShowsAnswered desk (is_file c.args.self.keeper) first slot_limit start
          (ended_entries (bytes ++ 10 ∷ [])) begun)
          (c.answer.ensures.taking.shows first (begun ++ texts (replies slot_limit start (ended_entries bytes)))
          at.text kept)
          (line_shows desk (is_file c.args.self.keeper) first start bytes line begun _ c.args.self at is_line);
      writes = λ start bytes begun before at few. line_writes start before bytes line begun
          (desk.said c.args.desk.now) c.args.self (desk.written c.args.desk.now) (desk.written c.answer.new.desk) at is_line
          few c.answer.ensures.bounded;
    })

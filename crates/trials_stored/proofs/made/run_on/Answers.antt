use Rattle.std.proofs.Common.{◌++◌, inr, refl, true}
use Rattle.pl_base.specs.Live.{slot_limit}
use Rattle.pl_step.specs.Run.{after, replies}
use Rattle.pl_script.specs.Script.{script}
use Rattle.places.specs.Ending.{LeavesAtEnd, SaysAll}
use Rattle.places.specs.declared.status.Status.TheVariants as status
use Rattle.places.specs.Said.{texts}
use Rattle.trials_stored.proofs.made.run_on.Goals as goal

pub returns-in-Done : goal.returns-in-Done
returns-in-Done g c = record {
  said =
      λ done file start is stands one two before told told_too begun.
      let ends : LeavesAtEnd g.D.Desk status.Done true c.args.desk.now start one before
      (g.S.Source.left c.run.new.input) c.run.new.desk =
      rw c.in-Done.is at (c.run.ensures.ends true start (inr (refl, refl, (file, is, stands))) one before
      told begun) in
      let next =
      c.run-in-Done.ensures.replies true (after slot_limit start (script one))
      (inr (refl, refl, (ends.1.file, ends.1.is_held, ends.1.has))) two
      (before ++ texts (replies slot_limit start (script one))) told_too ends.0.all_said in
      let all : SaysAll (after slot_limit start (script one)) two
      (before ++ texts (replies slot_limit start (script one))) (g.S.Source.left c.run-in-Done.new.input)
      (g.D.Desk.said c.run-in-Done.new.desk) = rw done at next in
      all.all_said;
}

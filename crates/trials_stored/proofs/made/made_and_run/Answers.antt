use Rattle.std.specs.Option.{option_map}
use Rattle.std.proofs.Common.{◌∙◌, ◌++◌, ap, refl}
use Rattle.pl_base.specs.Store.{opening}
use Rattle.places.specs.Ending.{EndsNew, made_text}
use Rattle.places.specs.declared.status.Status.TheVariants as status
use Rattle.pl_task.specs.declared.task.Task.TheVariants as tasks
use Rattle.trials_stored.proofs.made.made_and_run.Goals as goal

pub returns-in-Done : goal.returns-in-Done
returns-in-Done g c = record {
  said =
      λ done one two before told told_too begun empty.
      let new = c.run.new.desk in
      let made : EndsNew g.D.Desk status.Done c.args.desk.now new =
      rw c.in-Done.is at (c.run.ensures.made refl) in
      let rest = (made.1 _ empty).1 in
      c.run_on.ensures.said done rest.file opening rest.is_held rest.has.1
      one two (before ++ made_text)
      (ap g.S.Source.left (c.run.ensures.unread tasks.New refl refl) ∙ told) told_too
      (made.0 ∙ ap (option_map (λ text. text ++ made_text)) begun);
}

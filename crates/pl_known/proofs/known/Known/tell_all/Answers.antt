use Rattle.std.proofs.Common.{◌∙◌}
use Rattle.std.specs.Option.{option_copied}
use Rattle.pl_known.specs.Changes.{after}
use Rattle.pl_known.proofs.KnownPages.{way_on}
use Rattle.pl_known.proofs.known.Known.tell_all.Goals as goal

pub loop-change-preserved : goal.loop-change-preserved
loop-change-preserved c = (
  c.in_ok-tell.ensures.views ∙ c.loop-change.invariant.0,
  way_on c.loop-change.self c.tell.new.self c.args.changes.now c.loop-change.change-index c.change-item.result
      (option_copied c.as_ref.result) (option_copied c.as_ref-in-loop-change.result)
      (after c.args.changes.now c.args.self.now.views.items) c.loop-change-test.true c.change-item.is
      c.as_ref.ensures.value c.as_ref-in-loop-change.ensures.value c.loop-change.invariant.1
      c.in_ok-tell.ensures.follows,
)

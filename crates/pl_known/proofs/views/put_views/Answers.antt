use Rattle.std.proofs.Common.{◌∙◌, ◌+◌, List, ap, drop, subst, sym}
use Rattle.pl_base.specs.declared.change.Change.{Change}
use Rattle.pl_follow.specs.Changes.{AreInOrder}
use Rattle.pl_known.specs.Passes.{all_put}
use Rattle.pl_known.proofs.InPasses.{put_in_order}
use Rattle.pl_known.proofs.KnownPages.{more}
use Rattle.pl_known.proofs.views.put_views.Goals as goal

pub loop-change-preserved : goal.loop-change-preserved
loop-change-preserved c =
    let changes = c.args.changes.now in
    let i = c.loop-change.change-index in
    let views = c.loop-change.views.items in
    let made = c.in_ok-put_new.ensures in (
      subst AreInOrder (sym made) (put_in_order c.change-item.result.new views c.loop-change.invariant.0),
      ap (all_put (drop (i + 1) changes)) made
          ∙ sym (ap (λ (cs : List Change). all_put cs views)
          (more changes i c.change-item.result c.loop-change-test.true c.change-item.is))
          ∙ c.loop-change.invariant.1,
    )

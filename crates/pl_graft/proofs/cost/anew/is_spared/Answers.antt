use Rattle.pl_base.specs.Removal.{is_standing}
use Rattle.pl_base.specs.Rows.{store_of}
use Rattle.pl_base.proofs.Truths.{or_first, or_second}
use Rattle.pl_keyed.specs.KnownPages.{names}
use Rattle.pl_graft.specs.Restored.{emptied}
use Rattle.pl_graft.proofs.SparedSteps.{stands_alone}
use Rattle.pl_graft.proofs.cost.anew.is_spared.Goals as goal

pub returns-then-is_some : goal.returns-then-is_some
returns-then-is_some g c =
    let kept = g.R.Rows.kept c.args.rows.now in
    record {
      spared =
          or_first (is_standing (emptied (store_of kept)) c.args.page) (names c.args.named.now c.args.url.now)
          c.is_some.result
          (stands_alone kept c.args.page c.latest.result c.is_some.result c.latest.ensures.latest c.is_some.ensures)
          c.if-is_some.true;
    }

pub returns-else-is_some : goal.returns-else-is_some
returns-else-is_some g c =
    let kept = g.R.Rows.kept c.args.rows.now in
    record {
      spared =
          or_second (is_standing (emptied (store_of kept)) c.args.page) (names c.args.named.now c.args.url.now)
          c.is_some.result c.in_ok-is_named.is_named
          (stands_alone kept c.args.page c.latest.result c.is_some.result c.latest.ensures.latest c.is_some.ensures)
          c.if-is_some.false c.in_ok-is_named.ensures.has;
    }

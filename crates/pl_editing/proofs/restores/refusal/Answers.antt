use Rattle.std.proofs.Common.{◌∙◌}
use Rattle.pl_base.specs.Rows.{store_of}
use Rattle.pl_base.specs.Store.{Store}
use Rattle.pl_graft.specs.Restored.{restored}
use Rattle.pl_editing.proofs.TreeRoom.{few_rows}
use Rattle.pl_editing.proofs.restores.refusal.Goals as goal

pub returns : goal.returns
returns g c =
    let old : Store = store_of (g.R.Rows.kept c.args.rows.now) in
    let after : Store = restored c.args.tree.now old in
    record {
      refusal =
          c.room_refusal.ensures.refusal after c.in_ok-cost.ensures.live c.in_ok-cost.ensures.pages
          c.in_ok-cost.ensures.items
          ∙ few_rows c.args.limit old c.args.tree.now after c.row_count-count.result c.row_count-count.ensures
          c.if-count-gt-MOST_ROWS.false;
      order = λ none. c.in_ok-cost.ensures.order;
    }

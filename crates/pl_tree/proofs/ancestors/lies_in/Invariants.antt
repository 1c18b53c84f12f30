use Rattle.std.proofs.Common.{◌≡◌}
use Rattle.pl_base.specs.Tree.{lies_in}
use Rattle.pl_tree.proofs.AncestorLaws.{left_above, lies_at}
use Rattle.pl_tree.proofs.ancestors.lies_in.Given as goal

abbrev pub invariant-loop-next : goal.invariant-loop-next
invariant-loop-next g l =
    lies_in (g.R.Rows.kept l.rows).items l.top l.fn.item ≡ lies_at (g.R.Rows.kept l.rows).items l.top l.next

abbrev pub decreases-loop-next : goal.decreases-loop-next
decreases-loop-next g l = left_above (g.R.Rows.kept l.rows).items l.next

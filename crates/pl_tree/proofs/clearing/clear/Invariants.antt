use Rattle.std.proofs.Common.{ℕ, List}
use Rattle.pl_tree.proofs.ClearingSteps.{IsClearing, left_to_clear}
use Rattle.pl_tree.proofs.clearing.clear.Given as goal

abbrev pub invariant-loop-child : goal.invariant-loop-child
invariant-loop-child g l =
    record {
      clearing : IsClearing (g.R.Rows.kept l.fn.rows) l.folder l.at l.pages.items (g.R.Rows.kept l.rows);
      base : (bytes : List ℕ) → g.R.Rows.base l.fn.rows bytes → g.R.Rows.base l.rows bytes;
    }

abbrev pub decreases-loop-child : goal.decreases-loop-child
decreases-loop-child g l = left_to_clear (g.R.Rows.kept l.fn.rows) (g.R.Rows.kept l.rows) l.folder l.at

use Rattle.std.proofs.Common.{◌≡◌, ◌++◌, ℕ, List, drop}
use Rattle.pl_base.specs.declared.id.PageId.{PageId}
use Rattle.pl_base.specs.Rows.{HaveSums, store_of}
use Rattle.pl_history.specs.Settled.{AreSettledBut}
use Rattle.pl_editing.proofs.gained.mark_new.Given as goal

abbrev pub invariant-loop-page : goal.invariant-loop-page
invariant-loop-page g l =
    record {
      store : store_of (g.R.Rows.kept l.rows) ≡ store_of (g.R.Rows.kept l.fn.rows);
      settled : (rest : List PageId) → AreSettledBut (l.pages ++ rest) (g.R.Rows.kept l.fn.rows)
          → AreSettledBut (drop l.page-index l.pages ++ rest) (g.R.Rows.kept l.rows);
      sums : HaveSums (g.R.Rows.kept l.rows);
      base : (bytes : List ℕ) → g.R.Rows.base l.fn.rows bytes → g.R.Rows.base l.rows bytes;
    }

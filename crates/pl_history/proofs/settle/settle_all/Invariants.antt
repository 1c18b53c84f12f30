use Rattle.std.proofs.Common.{◌≡◌, ◌+◌, ℕ, List, drop, length}
use Rattle.pl_base.specs.Rows.{store_of}
use Rattle.pl_history.specs.Addresses.{HaveAddresses}
use Rattle.pl_history.specs.Settled.{AreSettledBut}
use Rattle.pl_base.specs.Removal.{without_idle_pages}
use Rattle.pl_history.proofs.settle.settle_all.Given as goal

abbrev pub invariant-loop-page : goal.invariant-loop-page
invariant-loop-page g l =
    record {
      settled : AreSettledBut (drop l.page-index l.pages) (g.R.Rows.kept l.rows);
      store : without_idle_pages (store_of (g.R.Rows.kept l.rows))
          ≡ without_idle_pages (store_of (g.R.Rows.kept l.fn.rows));
      went : length (g.R.Rows.kept l.fn.rows).pages ≡ length (g.R.Rows.kept l.rows).pages + l.went;
      views : HaveAddresses l.views (g.R.Rows.kept l.rows);
      base : (bytes : List ℕ) → g.R.Rows.base l.fn.rows bytes → g.R.Rows.base l.rows bytes;
    }

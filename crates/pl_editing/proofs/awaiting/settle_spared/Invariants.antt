use Rattle.std.proofs.Common.{◌≡◌, ℕ, List, drop}
use Rattle.pl_base.specs.Rows.{store_of}
use Rattle.pl_graft.specs.Spared.{spared}
use Rattle.pl_history.specs.Addresses.{HaveAddresses}
use Rattle.pl_editing.specs.Waiting.{AreSettledOrWait}
use Rattle.pl_editing.proofs.awaiting.settle_spared.Given as goal

abbrev pub invariant-loop-page : goal.invariant-loop-page
invariant-loop-page g l =
    record {
      settled : AreSettledOrWait l.fn.tree (drop l.page-index l.pages) (g.R.Rows.kept l.rows);
      store : spared l.fn.tree (store_of (g.R.Rows.kept l.rows))
          ≡ spared l.fn.tree (store_of (g.R.Rows.kept l.fn.rows));
      views : HaveAddresses l.views (g.R.Rows.kept l.rows);
      base : (bytes : List ℕ) → g.R.Rows.base l.fn.rows bytes → g.R.Rows.base l.rows bytes;
    }

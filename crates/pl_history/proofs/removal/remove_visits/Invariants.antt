use Rattle.std.proofs.Common.{◌≡◌, ◌+◌, ℕ, List, length, take}
use Rattle.pl_base.specs.Removal.{visits_left}
use Rattle.pl_base.specs.Rows.{store_of}
use Rattle.pl_marks.specs.Alike.{AreOthersAlike}
use Rattle.pl_history.specs.Settled.{AreOthersSettled}
use Rattle.pl_history.proofs.removal.remove_visits.Given as goal

abbrev pub invariant-loop-visit : goal.invariant-loop-visit
invariant-loop-visit g l =
    record {
      settled : AreOthersSettled l.pages.items (g.R.Rows.kept l.rows);
      store : store_of (g.R.Rows.kept l.rows)
          ≡ record (store_of (g.R.Rows.kept l.fn.rows)) {
            visits = visits_left (take l.visit-index l.visits) (g.R.Rows.kept l.fn.rows).visits;
          };
      fewer : length (g.R.Rows.kept l.rows).visits + l.visit-index ≡ length (g.R.Rows.kept l.fn.rows).visits;
      alike : AreOthersAlike l.pages.items (store_of (g.R.Rows.kept l.fn.rows)) (store_of (g.R.Rows.kept l.rows));
      base : (bytes : List ℕ) → g.R.Rows.base l.fn.rows bytes → g.R.Rows.base l.rows bytes;
    }

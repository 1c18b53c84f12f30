use Rattle.std.proofs.Common.{◌≡◌, ℕ, List, drop, true}
use Rattle.pl_base.specs.Rows.{has_page, store_of}
use Rattle.pl_graft.specs.Import.{with_tags}
use Rattle.pl_graft.specs.Standing.{GoesOn, IsStanding, KeepsFolders, is_gained}
use Rattle.pl_graft.proofs.grafting.Grafting.tags.Given as goal

abbrev pub invariant-loop-name : goal.invariant-loop-name
invariant-loop-name g l =
    record {
      left : with_tags l.page l.date (drop l.name-index l.names) (store_of (g.R.Rows.kept l.rows))
          ≡ with_tags l.page l.date l.names (store_of (g.R.Rows.kept l.initial.rows));
      standing : IsStanding (store_of (g.R.Rows.kept l.rows)) l.self;
      page : has_page (g.R.Rows.kept l.rows) l.page ≡ true;
      gained : is_gained l.self l.page ≡ true;
      goes_on : GoesOn (g.R.Rows.kept l.initial.rows) (g.R.Rows.kept l.rows) l.initial.self l.self;
      folders : KeepsFolders (store_of (g.R.Rows.kept l.initial.rows)) (store_of (g.R.Rows.kept l.rows));
      base : (bytes : List ℕ) → g.R.Rows.base l.initial.rows bytes → g.R.Rows.base l.rows bytes;
    }

use Rattle.std.proofs.Common.{◌≡◌}
use Rattle.std.specs.List.{AllByRecursion, filter_map}
use Rattle.pl_told.proofs.Offered.{IsThere, row_at}
use Rattle.pl_told.proofs.address_bar.bar.Given as goal

abbrev pub invariant-loop-page : goal.invariant-loop-page
invariant-loop-page g l =
    record {
      there : AllByRecursion (IsThere (g.R.Rows.kept l.rows)) l.page-iterator.rest.items;
      told : l.offered.items ≡ filter_map (row_at (g.R.Rows.kept l.rows)) l.yielded;
    }

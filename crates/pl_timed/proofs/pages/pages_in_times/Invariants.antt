use Rattle.std.proofs.Common.{filter, take}
use Rattle.pl_base.specs.Rows.{store_of}
use Rattle.pl_indexed.specs.Found.{AreFound}
use Rattle.pl_timed.specs.Timed.{takes}
use Rattle.pl_timed.proofs.pages.pages_in_times.Given as goal

-- of the pages in front those are found that the query takes
abbrev pub invariant-loop-view : goal.invariant-loop-view
invariant-loop-view g l =
    AreFound l.timed.query.now.sort
    (filter (takes (store_of (g.R.Rows.kept l.rows)) l.timed.query.now) (take l.view-index l.known.views.items))
    l.found.items

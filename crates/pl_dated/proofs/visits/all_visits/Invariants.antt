use Rattle.std.proofs.Common.{take}
use Rattle.pl_dated.specs.Latest.{AreApart, Keeps}
use Rattle.pl_dated.specs.Listed.{parts_of}
use Rattle.pl_dated.proofs.visits.all_visits.Given as goal

-- the visits to the pages in front were added
abbrev pub invariant-loop-view : goal.invariant-loop-view
invariant-loop-view g l =
    AreApart (parts_of (g.R.Rows.kept l.rows) l.timed.query.now l.known.views.items)
    → Keeps l.timed.query.now.max_results l.first
    (parts_of (g.R.Rows.kept l.rows) l.timed.query.now (take l.view-index l.known.views.items))

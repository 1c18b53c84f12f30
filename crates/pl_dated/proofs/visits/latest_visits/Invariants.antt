use Rattle.std.specs.Option.{option_copied}
use Rattle.pl_base.proofs.Walk.{Walk}
use Rattle.pl_indexed.specs.declared.walk.KeptOrder.TheVariants.{LatestFirst}
use Rattle.pl_indexed.proofs.WalkOrder.{view_names, walked}
use Rattle.pl_dated.proofs.PagesJoined.{PagesJoin}
use Rattle.pl_dated.proofs.visits.latest_visits.Given as goal

-- the visits to the pages in front were added
abbrev pub invariant-loop : goal.invariant-loop
invariant-loop g l =
    Walk (view_names LatestFirst) (walked LatestFirst l.known.views.items)
    (PagesJoin (g.R.Rows.kept l.rows) l.timed.query.now l.known.views.items l.first) (option_copied l.next)

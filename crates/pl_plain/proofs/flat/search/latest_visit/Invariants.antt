use Rattle.std.proofs.Common.{◌≡◌, map}
use Rattle.std.specs.Option.{option_map}
use Rattle.pl_base.specs.Visits.{latest_first}
use Rattle.pl_stored.specs.Stored.{visit_of}
use Rattle.pl_plain.specs.Latest.{first_of}
use Rattle.pl_plain.proofs.LatestVisits.{walked}
use Rattle.pl_plain.proofs.flat.search.latest_visit.Given as goal

abbrev pub invariant-loop-visit : goal.invariant-loop-visit
invariant-loop-visit l = option_map visit_of l.latest ≡ first_of (latest_first (map visit_of (walked l.yielded)))

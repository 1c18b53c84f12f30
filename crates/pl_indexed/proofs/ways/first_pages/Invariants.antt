use Rattle.std.specs.Option.{option_copied}
use Rattle.pl_indexed.proofs.ViewsWalk.{OnWalk}
use Rattle.pl_indexed.proofs.ways.first_pages.Given as goal

-- of the pages in front in the order those are found that the query takes
abbrev pub invariant-loop : goal.invariant-loop
invariant-loop l = OnWalk l.order l.asked.query.now l.known.views.items l.found.items (option_copied l.next)

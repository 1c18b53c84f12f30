use Rattle.std.proofs.Common.{reverse}
use Rattle.std.specs.Iterator.Adapters.{rev_source}
use Rattle.pl_indexed.proofs.SketchedViews.{Awaits}
use Rattle.pl_indexed.proofs.sketched.covered_pages.Given as goal

-- the covered pages are kept, but for those that are to come
abbrev pub invariant-loop-rank : goal.invariant-loop-rank
invariant-loop-rank l =
    Awaits (reverse (rev_source l.initial.rank-iterator)) l.words (reverse (rev_source l.rank-iterator)) l.pages

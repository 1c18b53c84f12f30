use Rattle.pl_indexed.proofs.SketchedViews.{still_kept}
use Rattle.pl_indexed.proofs.sketched.keep_covered.Goals as goal

pub returns-in_ok-insert-clause-others : goal.returns-in_ok-insert-clause-others
returns-in_ok-insert-clause-others c =
    λ other kept.
    still_kept c.args.page other c.args.pages.now c.insert.new.self (c.in_ok-insert.ensures.updates.0 other) kept

use Rattle.std.proofs.Common.{◌∙◌, ap, arith, pos, refl, reverse}
use Rattle.std.specs.Iterator.Adapters.{rev_source}
use Rattle.pl_indexed.proofs.SketchedViews.{all_await, all_kept, next_kept}
use Rattle.pl_indexed.proofs.sketched.covered_pages.Goals as goal

pub loop-rank-init : goal.loop-rank-init
loop-rank-init c =
    all_await (reverse (rev_source c.into_iter-rank-iterator.result)) c.args.words c.new-pages.result

pub loop-rank-preserved : goal.loop-rank-preserved
loop-rank-preserved c =
    next_kept (reverse (rev_source c.into_iter-rank-iterator.result)) c.args.words
    (rev_source c.loop-rank.rank-iterator) (rev_source c.next.new.self) (c.in-Some.rank.now, c.in-Some.sketch.now)
    c.loop-rank.pages c.keep_covered.new.pages c.in-Some.ensures.steps c.in_ok-keep_covered.ensures.covered
    c.in_ok-keep_covered.ensures.others c.loop-rank.invariant

pub returns : goal.returns
returns c =
    all_kept c.args.known.now.views.items c.requires.fit (pos 9_223_372_036_854_775_807, record { 0 = 0 })
    9_223_372_036_854_775_807 refl (omega arith) c.args.words c.loop-rank.pages
    (reverse (rev_source c.into_iter-rank-iterator.result)) (rev_source c.loop-rank.rank-iterator)
    (ap (λ entries. reverse (rev_source entries)) c.into_iter-rank-iterator.ensures.into_iter_gives
    ∙ c.behind-entries.ensures.order c.args.known.now.views.items c.requires.ranks)
    c.in-None.ensures.steps.0 c.loop-rank.invariant

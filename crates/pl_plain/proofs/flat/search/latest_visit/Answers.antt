use Rattle.std.proofs.Common.{◌∙◌, rules, tests}
use Rattle.std.specs.Option.{option_map}
use Rattle.std.proofs.lemmas.Iterator.Adapters.{YieldsList-from_rev_slice}
use Rattle.std.proofs.lemmas.Iterator.Consumers.{YieldsList-at, YieldsList-end, YieldsList-from_filter}
use Rattle.pl_stored.specs.Stored.{visit_of}
use Rattle.pl_plain.proofs.LatestVisits.{is_row_within, latest_all, latest_more}
use Rattle.pl_plain.proofs.flat.search.latest_visit.Goals as goal

pub loop-visit-preserved : goal.loop-visit-preserved
loop-visit-preserved c =
    latest_more c.loop-visit.yielded c.in-Some.visit c.loop-visit.latest c.later_of.result c.loop-visit.invariant
    c.later_of.ensures

pub returns : goal.returns
returns c =
    let road = YieldsList-at c.filter-visit-items.ensures.source (YieldsList-from_rev_slice c.args.visits.now cc) in
    let all =
    YieldsList-end
    (YieldsList-at c.into_iter-visit-iterator.ensures.into_iter_gives
    (YieldsList-from_filter _ (is_row_within c.args.page (option_map visit_of c.args.limit)) road
    c.filter-visit-items.ensures.closure (λ x b q k. search (rules, tests))))
    c.loop-visit.yielded c.loop-visit.visit-iterator c.loop-visit.yielded_by c.next.result c.next.new.self c.in-None.is
    c.next.ensures.steps in
    c.loop-visit.invariant ∙ latest_all c.args.page (option_map visit_of c.args.limit) c.args.visits.now
    c.loop-visit.yielded all.0

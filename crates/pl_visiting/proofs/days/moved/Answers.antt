use Rattle.std.proofs.Common.{◌∙◌, rules, tests}
use Rattle.std.proofs.lemmas.Iterator.{YieldsList-from_slice}
use Rattle.std.proofs.lemmas.Iterator.Consumers.{YieldsList-from_filter, count_from_yields_List}
use Rattle.std.proofs.lemmas.List.Sums.{length-filter}
use Rattle.pl_visiting.specs.NewDay.{is_moved}
use Rattle.pl_visiting.proofs.days.moved.Goals as goal

pub returns : goal.returns
returns c =
    count_from_yields_List c.filter.result c.count.result c.count.ensures.ran
    (YieldsList-from_filter _ is_moved (YieldsList-from_slice c.args.changes.now cc) c.filter.ensures.closure
    (λ x b q k. search (rules, tests)))
    ∙ length-filter is_moved c.args.changes.now

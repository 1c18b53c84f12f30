use Rattle.pl_history.proofs.PlaceViews.{by_first, by_second}
use Rattle.pl_history.proofs.find.has_place_prefix.Goals as goal

pub returns-then-eq : goal.returns-then-eq
returns-then-eq c url own =
    by_first c.args.view.now c.as_str-prefix.result.now url c.eq.result c.as_str-prefix.ensures c.eq.ensures
    c.if-eq.true own

pub returns-else-eq : goal.returns-else-eq
returns-else-eq c url own =
    by_second c.args.view.now c.as_str-prefix.result.now url c.eq.result c.eq-else-eq.result c.as_str-prefix.ensures
    c.eq.ensures c.if-eq.false c.eq-else-eq.ensures own

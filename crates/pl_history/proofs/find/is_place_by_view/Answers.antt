use Rattle.std.proofs.Common.{◌∙◌, ap, sym}
use Rattle.std.specs.Option.{option_copied}
use Rattle.pl_base.proofs.Searches.{got_at}
use Rattle.pl_history.proofs.PlaceViews.{found_tells}
use Rattle.pl_history.proofs.find.is_place_by_view.Goals as goal

pub returns-then-eq : goal.returns-then-eq
returns-then-eq c kept has there =
    found_tells kept c.args.views.now c.partition_point-place.result c.in_ok-view.view.now c.args.page
    c.has_place_prefix.result
    (sym (got_at c.args.views.now c.partition_point-place.result c.get.result c.get.ensures.lookup.3)
    ∙ ap option_copied c.in_ok-view.was)
    (sym c.eq.ensures ∙ c.if-eq.true) c.has_place_prefix.ensures has there

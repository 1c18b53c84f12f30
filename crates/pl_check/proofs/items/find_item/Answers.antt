use Rattle.std.proofs.Common.{◌∙◌, ◌==◌, ap, sym}
use Rattle.std.specs.Option.{option_copied}
use Rattle.pl_base.specs.Store.{Item}
use Rattle.pl_base.proofs.Searches.{found_at, got_at, none_at}
use Rattle.pl_check.proofs.items.find_item.Goals as goal

pub returns-in_err-item_index : goal.returns-in_err-item_index
returns-in_err-item_index c =
    ap option_copied c.from_residual.ensures
    ∙ none_at (λ (i : Item). i.id.0 == c.args.id.0) c.args.items.now
    (sym c.item_index.ensures ∙ c.in_err-item_index.was)

pub returns : goal.returns
returns c =
    got_at c.args.items.now c.in_ok-item_index.field-0 c.get.result c.get.ensures.lookup.3
    ∙ found_at (λ (i : Item). i.id.0 == c.args.id.0) c.args.items.now c.in_ok-item_index.field-0
    (sym c.item_index.ensures ∙ c.in_ok-item_index.was)

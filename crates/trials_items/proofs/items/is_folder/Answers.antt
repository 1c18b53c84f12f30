use Rattle.std.proofs.Common.{◌∙◌, rules, sym}
use denote.Enum.Bare.{same_true}
use Rattle.pl_base.specs.contracts.item.ItemKind.{the_type}
use Rattle.trials_items.proofs.ItemLemmas.{folder_told}
use Rattle.trials_items.proofs.items.is_folder.Goals as goal

pub returns-in-Some : goal.returns-in-Some
returns-in-Some g c same =
    folder_told c.args.flat.now.items c.args.item c.in-Some.row (sym c.in-Some.is ∙ c.item_at.ensures.row)
    (same_true the_type (search rules) _ _ (sym c.eq.ensures ∙ same))

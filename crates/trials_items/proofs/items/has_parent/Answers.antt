use Rattle.std.proofs.Common.{◌∙◌, arith, sym}
use Rattle.pl_base.proofs.ItemLookUps.{parent_told}
use Rattle.trials_items.proofs.items.has_parent.Goals as goal

pub returns-in-Some : goal.returns-in-Some
returns-in-Some g c same =
    sym (parent_told c.args.flat.now.items c.args.child c.in-Some.row (sym c.in-Some.is ∙ c.item_at.ensures.row))
    ∙ grind (arith, c.eq.ensures, same)

-- What holds of the children of an item.
use Rattle.std.proofs.Common.{◌≡◌, ◌==◌, List, Some, get_or}
use Rattle.std.specs.List.{AllByRecursion}
use Rattle.std.proofs.lemmas.List.Elements.{recursion_from_All}
use Rattle.pl_base.specs.declared.id.ItemId.{ItemId}
use Rattle.pl_base.specs.Store.{Item}
use Rattle.pl_base.specs.Tree.{child_items, children_of, item_at}
use Rattle.pl_base.proofs.ItemLookUps.{hold_all}
use Rattle.pl_base.proofs.LookUps.{found_holds}

-- what holds of each item that is looked up holds of the children
pub children_hold : (P : Item → Type 0) (items : List Item) (id : ItemId)
    → ((c : ItemId) → (i : Item) → item_at items c ≡ Some i → P i) → AllByRecursion P (child_items items id)
children_hold P items id each =
    hold_all P (item_at items) (children_of items id)
    (recursion_from_All (λ (c : ItemId). (i : Item) → item_at items c ≡ Some i → P i) (children_of items id)
    (λ k d within. each (get_or (children_of items id) k d)))

-- and what holds of all items
pub children_too : (P : Item → Type 0) (items : List Item) (id : ItemId) → AllByRecursion P items
    → AllByRecursion P (child_items items id)
children_too P items id all =
    children_hold P items id (λ c i at. found_holds P (λ (j : Item). j.id.0 == c.0) items i all at)

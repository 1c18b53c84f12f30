-- What the rows tell of items, their parents and their kinds.
use Rattle.std.proofs.Common.{◌≡◌, ◌∙◌, ◌==◌, ◌<◌, Option, Some, None, List, [], ◌∷◌, ap, arith, length}
use Rattle.std.proofs.Common.{is_some, refl, sym, true}
use Rattle.std.specs.Option.{option_map}
use Rattle.std.proofs.lemmas.Bool.{false_from_ne_true, false≢true}
use Rattle.pl_base.specs.declared.id.ItemId.{ItemId}
use Rattle.pl_base.specs.declared.item.ItemRow.{ItemRow}
use Rattle.pl_base.specs.Good.{HasGoodItems, IsTree}
use Rattle.pl_base.specs.Rows.{Kept, store_of}
use Rattle.pl_base.specs.Store.{Item, item_id, root_folder, top_folders}
use Rattle.pl_base.specs.Tree.{has_item, item_at, item_row, parent_of}
use Rattle.pl_base.proofs.ListLaws.{found_in}
use Rattle.pl_base.proofs.LookUps.{found_some}
use Rattle.pl_tree.proofs.AncestorLaws.{child_there}

-- whether it is an item
pub told_there : (items : List Item) (id : ItemId) (o : Option ItemRow)
    → o ≡ option_map (item_row items) (item_at items id) → is_some o ≡ has_item items id
told_there items id o is = choose (item_at items id) refl is
  where
    choose : (at : Option Item) → item_at items id ≡ at → o ≡ option_map (item_row items) at
        → is_some o ≡ has_item items id
    choose None at is =
        ap is_some is ∙ sym (false_from_ne_true (has_item items id)
        (λ has. absurd (cc (found_in (λ (i : Item). i.id.0 == id.0) items has))))
    choose (Some i) at is = ap is_some is ∙ sym (found_some (λ (i : Item). i.id.0 == id.0) items i at)

-- what is no item has no parent
pub no_parent : (items : List Item) (id : ItemId) → IsTree items
    → None ≡ option_map (item_row items) (item_at items id) → parent_of items id ≡ None
no_parent items id tree is = choose (parent_of items id) refl
  where
    there : (o : Option Item) → item_at items id ≡ o → None ≡ option_map (item_row items) o
        → has_item items id ≡ true → parent_of items id ≡ None
    there None at is has = absurd (cc (found_in (λ (i : Item). i.id.0 == id.0) items has))
    there (Some i) at is has = absurd (cc)

    choose : (o : Option ItemId) → parent_of items id ≡ o → o ≡ None
    choose None at = refl
    choose (Some p) at = sym at ∙ there (item_at items id) refl is (child_there items id p tree at)

-- the root is an item
pub root_there : (kept : Kept) → HasGoodItems (store_of kept) → has_item kept.items (item_id 1) ≡ true
root_there kept good = found_some (λ (i : Item). i.id.0 == 1) kept.items (root_folder 1 top_folders) good.roots.root

pub some_items : (kept : Kept) → HasGoodItems (store_of kept) → 0 < length kept.items
some_items kept good = choose kept.items (root_there kept good)
  where
    choose : (items : List Item) → has_item items (item_id 1) ≡ true → 0 < length items
    choose [] has = absurd (false≢true has)
    choose (i ∷ items) has = omega arith

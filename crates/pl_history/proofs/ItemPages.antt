-- The pages of the items with a new one.
use Rattle.std.proofs.Common.{◌≡◌, ◌+◌, ◌∙◌, false, true, Bool, None, List, ap, if◌then◌else◌, refl, ℕ}
use Rattle.std.specs.Option.{is_none}
use Rattle.pl_base.specs.declared.date.Micros.{Micros}
use Rattle.pl_base.specs.declared.id.ItemId.{ItemId}
use Rattle.pl_base.specs.declared.id.PageId.{PageId}
use Rattle.pl_base.specs.Good.{HasGoodItems}
use Rattle.pl_base.specs.Rows.{IsSound, IsWellKept, Kept, store_of}
use Rattle.pl_base.specs.Store.{Item, item_id}
use Rattle.pl_base.specs.Tags.{tags_root}
use Rattle.pl_base.specs.Tree.{is_page}
use Rattle.pl_tree.specs.declared.new_item.NewItem.{NewItem}
use Rattle.pl_tree.specs.declared.place.Place.{Place}
use Rattle.pl_tree.specs.declared.place.Place.TheVariants.{End}
use Rattle.pl_tree.specs.Changes.{item_of, put, with_child, with_inserted, with_new}
use Rattle.pl_tree.specs.Tagged.{new_tag, tag_named, with_tag}
use Rattle.pl_history.proofs.ItemMarks.{has_reference, reference_changed, sound_alike}
use Rattle.pl_history.proofs.RightAfter.{any_last}

-- a page that the new item has not is among the items or not as before
pub reference_inserted : (id parent : ItemId) (place : Place) (new : NewItem) (items : List Item) (page : PageId)
    → is_page page new.page ≡ false
    → has_reference (with_new id parent place new items) page ≡ has_reference items page
reference_inserted id parent place new items page other =
    any_last (λ (i : Item). is_page page i.page) (with_child parent place id items) (item_of id new) other
    ∙ reference_changed parent (λ (i : Item). record i { children = put place id i.children }) items page (λ i. refl)

pub sound_inserted : (kept now : Kept) (parent : ItemId) (place : Place) (new : NewItem) → new.page ≡ None
    → now ≡ with_inserted parent place new kept → IsWellKept kept → IsWellKept now → HasGoodItems (store_of now)
    → IsSound kept → IsSound now
sound_inserted kept now parent place new none is well h good s =
    sound_alike kept now (record kept.ids { item = kept.ids.item + 1 })
    (with_new (item_id kept.ids.item) parent place new kept.items) is well h good
    (λ page. reference_inserted (item_id kept.ids.item) parent place new kept.items page (ap (is_page page) none))
    s

-- a tag folder has no page
pub folder_still : (next : ℕ) (name : List ℕ) (date : Micros) (items : List Item) (page : PageId)
    → has_reference (with_tag next name date items) page ≡ has_reference items page
folder_still next name date items page = choose (is_none (tag_named name items))
  where
    choose : (b : Bool)
        → has_reference (if b then with_new (item_id next) tags_root End (new_tag name date) items else items) page
        ≡ has_reference items page
    choose true = reference_inserted (item_id next) tags_root End (new_tag name date) items page refl
    choose false = refl

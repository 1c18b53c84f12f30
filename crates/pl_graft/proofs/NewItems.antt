-- Which pages new items have.
use Rattle.std.proofs.Common.{◌≡◌, ◌∙◌, ◌≤◌, ◌+◌, ◌-◌, ◌++◌, ◌==◌, ◌&&◌, ◌||◌, ℕ, Bool, true, false, List, [], ◌∷◌}
use Rattle.std.proofs.Common.{ap, arith, if◌then◌else◌, nat_le, refl, sym}
use Rattle.std.specs.Option.{is_none, is_some}
use Rattle.std.proofs.Math.Bool.{or-false}
use Rattle.std.proofs.lemmas.Bool.{le-leb}
use Rattle.std.proofs.lemmas.List.Folds.{list_any-append}
use Rattle.pl_base.specs.declared.date.Micros.{Micros}
use Rattle.pl_base.specs.declared.id.ItemId.{ItemId}
use Rattle.pl_base.specs.declared.id.PageId.{PageId}
use Rattle.pl_base.specs.declared.item.ItemRow.{ItemRow}
use Rattle.pl_base.specs.Store.{Item, Store, item_id}
use Rattle.pl_base.specs.Tags.{tags_root}
use Rattle.pl_base.specs.Tree.{is_page, new_item}
use Rattle.pl_base.proofs.IdsLaws.{same_page}
use Rattle.pl_base.proofs.ListLaws.{list_any-alike, list_any-map}
use Rattle.pl_tree.specs.declared.place.Place.{Place}
use Rattle.pl_tree.specs.declared.place.Place.TheVariants.{End}
use Rattle.pl_tree.specs.Changes.{item_of, put, with_child, with_new}
use Rattle.pl_tree.specs.Tagged.{new_entry, new_items, new_tag, tag_entry, tag_id, tag_named}
use Rattle.pl_tree.specs.Tagged as tagged
use Rattle.pl_graft.specs.Gained.{has_new_item}
use Rattle.pl_graft.specs.Import.{tagged_store, with_row, with_tag}

-- ---- an item

-- a child more changes no item's page
child : (first : ℕ) (parent : ItemId) (place : Place) (id : ItemId) (items : List Item) (page : PageId)
    → has_new_item first (with_child parent place id items) page ≡ has_new_item first items page
child first parent place id items page =
    list_any-map test grown items
    ∙ list_any-alike (λ (i : Item). test (grown i)) test items (λ i. same i (i.id.0 == parent.0))
  where
    test : Item → Bool
    test i = nat_le first i.id.0 && is_page page i.page

    grown : Item → Item
    grown i = if i.id.0 == parent.0 then record i { children = put place id i.children } else i

    same : (i : Item) (b : Bool)
        → (nat_le first (if b then record i { children = put place id i.children } else i).id.0
        && is_page page (if b then record i { children = put place id i.children } else i).page)
        ≡ (nat_le first i.id.0 && is_page page i.page)
    same i true = refl
    same i false = refl

more : (first : ℕ) (parent : ItemId) (place : Place) (new : Item) (items : List Item) (page : PageId)
    → first ≤ new.id.0
    → has_new_item first (with_child parent place new.id items ++ new ∷ []) page
    ≡ (has_new_item first items page || is_page page new.page)
more first parent place new items page least =
    let test : Item → Bool = λ (i : Item). nat_le first i.id.0 && is_page page i.page in
    list_any-append test (with_child parent place new.id items) (new ∷ [])
    ∙ ap (λ (b : Bool). b || (test new || false)) (child first parent place new.id items page)
    ∙ ap (λ (b : Bool). has_new_item first items page || b)
    (or-false (test new) ∙ ap (λ (b : Bool). b && is_page page new.page) (le-leb first new.id.0 least))

pub row_items : (first : ℕ) (store : Store) (parent : ItemId) (row : ItemRow) (title : List ℕ) (page : PageId)
    → first ≤ store.ids.item
    → has_new_item first (with_row parent row title store).items page
    ≡ (has_new_item first store.items page || is_page page row.page)
row_items first store parent row title page least =
    more first parent End (new_item (item_id store.ids.item) row title) store.items page least

-- ---- a tag

folder_items : (first next : ℕ) (name : List ℕ) (date : Micros) (items : List Item) (page : PageId) → first ≤ next
    → has_new_item first (tagged.with_tag next name date items) page ≡ has_new_item first items page
folder_items first next name date items page least = choose (is_none (tag_named name items))
  where
    choose : (b : Bool)
        → has_new_item first (if b then with_new (item_id next) tags_root End (new_tag name date) items else items) page
        ≡ has_new_item first items page
    choose true =
        more first tags_root End (item_of (item_id next) (new_tag name date)) items page least
        ∙ or-false (has_new_item first items page)
    choose false = refl

tagged_new : (first : ℕ) (store : Store) (page : PageId) (date : Micros) (name : List ℕ) (other : PageId)
    → first ≤ store.ids.item
    → has_new_item first (tagged_store page name date store).items other
    ≡ (has_new_item first store.items other || (page.0 == other.0))
tagged_new first store page date name other least =
    let next : ℕ = store.ids.item in
    let id : ItemId = item_id (next + (new_items name store.items - 1)) in
    more first (tag_id next name store.items) End (item_of id (new_entry page date))
    (tagged.with_tag next name date store.items) other (omega arith)
    ∙ ap (λ (b : Bool). b || (page.0 == other.0)) (folder_items first next name date store.items other least)

-- a page that has a new item gets no other page one
pub tag_items : (first : ℕ) (store : Store) (page : PageId) (date : Micros) (name : List ℕ) (other : PageId)
    → first ≤ store.ids.item → has_new_item first store.items page ≡ true
    → has_new_item first (with_tag page date name store).items other ≡ has_new_item first store.items other
tag_items first store page date name other least has = choose (is_some (tag_entry page name store.items))
  where
    either : (b : Bool) → (page.0 == other.0) ≡ b
        → (has_new_item first store.items other || b) ≡ has_new_item first store.items other
    either true same =
        let all : has_new_item first store.items other ≡ true =
        ap (has_new_item first store.items) (sym (same_page page other same)) ∙ has in
        ap (λ (b : Bool). b || true) all ∙ sym all
    either false apart = or-false (has_new_item first store.items other)

    choose : (b : Bool)
        → has_new_item first (if b then store else tagged_store page name date store).items other
        ≡ has_new_item first store.items other
    choose true = refl
    choose false = tagged_new first store page date name other least ∙ either (page.0 == other.0) refl

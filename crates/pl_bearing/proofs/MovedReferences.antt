-- The references of other pages where an item moves or has another title: no item enters a tag
-- folder or leaves one, and no tag folder has another title.
use Rattle.std.proofs.Common.{◌≡◌, ◌≢◌, ◌∙◌, ◌==◌, ◌||◌, ℕ, Bool, true, false, List, Option, Some, None}
use Rattle.std.proofs.Common.{IfSome, ap, find, if◌then◌else◌, inl, inr, length, map, refl, sym}
use Rattle.std.specs.Prelude.{not}
use Rattle.std.specs.Option.{option_and_then, option_map, option_or}
use Rattle.std.proofs.lemmas.Bool.{both_ways, cases_eq, ne_eqb, not-false, or_parts}
use Rattle.pl_base.specs.declared.date.Micros.{Micros}
use Rattle.pl_base.specs.declared.id.ItemId.{ItemId}
use Rattle.pl_base.specs.declared.id.PageId.{PageId}
use Rattle.pl_base.specs.declared.refusal.Refusal.{Refusal}
use Rattle.pl_base.specs.declared.refusal.Refusal.TheVariants.{Fixed, NoItem}
use Rattle.pl_base.specs.Rows.{IsWellKept, Kept}
use Rattle.pl_base.specs.Store.{Item}
use Rattle.pl_base.specs.Tags.{is_tags_root, tags_root}
use Rattle.pl_base.specs.Tree.{children_of, has_child, has_item, is_page, item_at, leaving, parent_of}
use Rattle.pl_base.specs.Tree.{retitled, without_id}
use Rattle.pl_base.proofs.Among.{In}
use Rattle.pl_base.proofs.ItemLookUps.{same_item, same_item_number}
use Rattle.pl_base.proofs.ListLaws.{find-map, map-map}
use Rattle.pl_base.proofs.LookUps.{found_passes}
use Rattle.pl_base.proofs.Truths.{neither}
use Rattle.pl_tree.specs.declared.place.Place.{Place}
use Rattle.pl_tree.specs.declared.tree_change.TreeChange.TheVariants.{Move, Retitle}
use Rattle.pl_tree.specs.Changes.{put, with_moved}
use Rattle.pl_tree.specs.Refused.{folder_refusal, inside_refusal, is_closed, is_entry, is_fixed, is_root, is_tag}
use Rattle.pl_tree.specs.Refused.{item_refusal, parent_refusal, place_refusal, refusal}
use Rattle.pl_tree.proofs.StoreItems.{if_none}
use Rattle.pl_marks.specs.Alike.{is_one_of}
use Rattle.pl_marks.specs.TagFolders.{tag_title}
use Rattle.pl_bearing.specs.References.{AreReferencesAlike, reference, references_of}
use Rattle.pl_bearing.proofs.MappedReferences.{any_without, changed_same, grown, grown_child, grown_same, none_left}
use Rattle.pl_bearing.proofs.MappedReferences.{other_item, parent_mapped, reference_alike, references_mapped}
use Rattle.pl_bearing.proofs.MappedReferences.{tag_title_alike, title_mapped}

-- ---- what is not refused

-- an item that may change is there, and is no tag folder
pub may_change : (items : List Item) (item : ItemId) → item_refusal items item ≡ None
    → (has_item items item ≡ true) × (is_tag items item ≡ false)
may_change items item none = choose (not (has_item items item)) refl none
  where
    choose : (b : Bool) → not (has_item items item) ≡ b
        → (if b then Some (NoItem item) else if is_fixed items item then Some (Fixed item) else None) ≡ None
        → (has_item items item ≡ true) × (is_tag items item ≡ false)
    choose true is none = absurd (cc)
    choose false is none =
        let free = if_none (is_fixed items item) (Fixed item) none in
        let first = or_parts (is_root item || is_tag items item) (is_entry items item) free in
        (not-false (has_item items item) is, (or_parts (is_root item) (is_tag items item) first.0).1)

-- a folder that takes items is not the tags root
not_tags : (items : List Item) (parent : ItemId) → parent_refusal items parent ≡ None
    → (parent.0 == tags_root.0) ≡ false
not_tags items parent none =
    let parts = neither (folder_refusal items parent) (if is_closed items parent then Some (Fixed parent) else None)
    none in
    let free = if_none (is_closed items parent) (Fixed parent) parts.1 in
    let first = or_parts ((parent.0 == 1) || (parent.0 == tags_root.0)) (is_tag items parent) free in
    (or_parts (parent.0 == 1) (parent.0 == tags_root.0) first.0).1

-- ---- a move

module _ (items : List Item) (item parent : ItemId) (place : Place) (date : Micros)
    (outside : (parent.0 == tags_root.0) ≡ false) (no_tag : is_tag items item ≡ false) where
  abbrev left : Item → Item
  left = leaving item

  abbrev grow : Item → Item
  grow = grown parent place item

  abbrev dated : Item → Item
  dated i = if i.id.0 == item.0 then record i { modified = date } else i

  abbrev move : Item → Item
  move i = dated (grow (left i))

  abbrev news : List Item
  news = map move items

  same_news : with_moved item parent place date items ≡ news
  same_news = map-map dated grow (map left items) ∙ map-map (λ (i : Item). dated (grow i)) left items

  -- an item

  dated_same : {A : Type 0} (tell : Item → A) → ((i : Item) → tell (record i { modified = date }) ≡ tell i)
      → (i : Item) → tell (dated i) ≡ tell i
  dated_same tell same i = changed_same (λ (j : Item). record j { modified = date }) tell item.0 same i

  dated_other : (i : Item) → (i.id.0 == item.0) ≡ false → (dated i).modified ≡ i.modified
  dated_other i other = ap (λ (b : Bool). (if b then record i { modified = date } else i).modified) other

  move_same : {A : Type 0} (tell : Item → A) → ((i : Item) → tell (record i { modified = date }) ≡ tell i)
      → ((i : Item) → tell (record i { children = put place item i.children }) ≡ tell i) → (i : Item)
      → tell (move i) ≡ tell (left i)
  move_same tell dates grows i =
      dated_same tell dates (grow (left i)) ∙ grown_same parent place item tell grows (left i)

  move_id : (i : Item) → (move i).id ≡ i.id
  move_id i = move_same (λ (j : Item). j.id) (λ j. refl) (λ j. refl) i

  move_title : (i : Item) → (move i).title ≡ i.title
  move_title i = move_same (λ (j : Item). j.title) (λ j. refl) (λ j. refl) i

  move_page : (i : Item) → (move i).page ≡ i.page
  move_page i = move_same (λ (j : Item). j.page) (λ j. refl) (λ j. refl) i

  move_modified : (i : Item) → i.id.0 ≢ item.0 → (move i).modified ≡ i.modified
  move_modified i other =
      dated_other (grow (left i))
      (ap (λ (d : ItemId). d.0 == item.0) (grown_same parent place item (λ (j : Item). j.id) (λ j. refl) (left i))
      ∙ ne_eqb i.id.0 item.0 other)
      ∙ grown_same parent place item (λ (j : Item). j.modified) (λ j. refl) (left i)

  move_child : (c : ItemId) → c.0 ≢ item.0 → (i : Item) → has_child c (move i) ≡ has_child c i
  move_child c other i =
      let apart : (item.0 == c.0) ≡ false = ne_eqb item.0 c.0 (λ same. other (sym same)) in
      dated_same (has_child c) (λ j. refl) (grow (left i)) ∙ grown_child parent place item c apart (left i)
      ∙ any_without (λ (d : ItemId). d.0 == c.0) item i.children apart

  -- only the new parent has the item
  moved_to : (i : Item) → has_child item (move i) ≡ true → (i.id.0 == parent.0) ≡ true
  moved_to i has = choose (i.id.0 == parent.0) refl (sym (dated_same (has_child item) (λ j. refl) (grow (left i))) ∙ has)
    where
      choose : (b : Bool) → (i.id.0 == parent.0) ≡ b
          → has_child item (if b then record (left i) { children = put place item (left i).children } else left i)
          ≡ true
          → b ≡ true
      choose true is has = refl
      choose false is has = absurd (both_ways (has_child item (left i)) (none_left item i.children) has)

  -- parents

  parent_moved : (c : ItemId) → c.0 ≢ item.0 → parent_of news c ≡ parent_of items c
  parent_moved c other = parent_mapped move c items move_id (move_child c other)

  item_no_tag : is_tags_root (parent_of news item) ≡ false
  item_no_tag =
      ap (λ (o : Option Item). is_tags_root (option_map (λ (i : Item). i.id) o))
      (find-map (has_child item) move items)
      ∙ choose (find (λ (i : Item). has_child item (move i)) items) refl
    where
      choose : (o : Option Item) → find (λ (i : Item). has_child item (move i)) items ≡ o
          → is_tags_root (option_map (λ (i : Item). i.id) (option_map move o)) ≡ false
      choose None found = refl
      choose (Some i) found =
          let to : (i.id.0 == parent.0) ≡ true =
          moved_to i (found_passes (λ (j : Item). has_child item (move j)) items i found) in
          ap (λ (d : ItemId). d.0 == tags_root.0) (move_id i ∙ same_item i.id parent to) ∙ outside

  tag_title_moved : (c : ItemId) → c.0 ≢ item.0 → tag_title news c ≡ tag_title items c
  tag_title_moved c other =
      tag_title_alike items news c (parent_moved c other) (λ p _. root p)
      (λ p _ _. title_mapped move p items move_id (λ i _. move_title i))
    where
      root : (p : ItemId) → is_tags_root (parent_of news p) ≡ is_tags_root (parent_of items p)
      root p =
          elim (cases_eq p.0 item.0) as (λ _. is_tags_root (parent_of news p) ≡ is_tags_root (parent_of items p)) [
            | inl e ↦
                ap (λ (q : ItemId). is_tags_root (parent_of news q)) (same_item_number p item e) ∙ item_no_tag
                ∙ sym no_tag
                ∙ ap (λ (q : ItemId). is_tags_root (parent_of items q)) (sym (same_item_number p item e))
            | inr apart ↦ ap is_tags_root (parent_moved p apart)
          ]

  move_alike : (page : PageId) → ((i : Item) → In i items → is_page page i.page ≡ true → i.id.0 ≢ item.0)
      → references_of (with_moved item parent place date items) page ≡ references_of items page
  move_alike page others =
      ap (λ (is : List Item). references_of is page) same_news
      ∙ references_mapped (reference news) (reference items) move (λ (i : Item). is_page page i.page) items
      (λ i h. ap (is_page page) (move_page i))
      (λ i h has.
      reference_alike items news i (move i) (move_id i) (move_title i) (move_modified i (others i h has))
      (tag_title_moved i.id (others i h has)))

pub moved_alike : (kept : Kept) (item parent : ItemId) (place : Place) (date : Micros) (ids : List PageId)
    → IsWellKept kept → refusal kept.items (Move item parent place) ≡ None
    → IfSome (option_and_then (λ (i : Item). i.page) (item_at kept.items item)) (λ page. is_one_of ids page ≡ true)
    → AreReferencesAlike ids kept.items (with_moved item parent place date kept.items)
moved_alike kept item parent place date ids h none within page out =
    let items : List Item = kept.items in
    let at_place : Option Refusal = place_refusal place (length (without_id item (children_of items parent))) in
    let all = neither (item_refusal items item)
    (option_or (parent_refusal items parent) (option_or (inside_refusal items item parent) at_place)) none in
    let parts = neither (parent_refusal items parent) (option_or (inside_refusal items item parent) at_place) all.1 in
    move_alike items item parent place date (not_tags items parent parts.0) (may_change items item all.0).1 page
    (other_item kept item ids page h within out)

-- ---- another title

module _ (items : List Item) (item : ItemId) (title : List ℕ) (date : Micros) (no_tag : is_tag items item ≡ false) where
  abbrev name : Item → Item
  name i = if i.id.0 == item.0 then record i { title = title; modified = date } else i

  abbrev titled : List Item
  titled = retitled item title date items

  name_same : {A : Type 0} (tell : Item → A)
      → ((i : Item) → tell (record i { title = title; modified = date }) ≡ tell i) → (i : Item)
      → tell (name i) ≡ tell i
  name_same tell same i = changed_same (λ (j : Item). record j { title = title; modified = date }) tell item.0 same i

  name_id : (i : Item) → (name i).id ≡ i.id
  name_id i = name_same (λ (j : Item). j.id) (λ j. refl) i

  name_other : (i : Item) → i.id.0 ≢ item.0 → name i ≡ i
  name_other i other =
      ap (λ (b : Bool). if b then record i { title = title; modified = date } else i) (ne_eqb i.id.0 item.0 other)

  parent_titled : (c : ItemId) → parent_of titled c ≡ parent_of items c
  parent_titled c = parent_mapped name c items name_id (λ i. name_same (has_child c) (λ j. refl) i)

  -- a tag folder is not the item
  tag_other : (p : ItemId) → is_tags_root (parent_of items p) ≡ true → p.0 ≢ item.0
  tag_other p tag same =
      both_ways (is_tag items item) no_tag (ap (is_tag items) (sym (same_item_number p item same)) ∙ tag)

  tag_title_titled : (c : ItemId) → tag_title titled c ≡ tag_title items c
  tag_title_titled c =
      tag_title_alike items titled c (parent_titled c) (λ p _. ap is_tags_root (parent_titled p))
      (λ p _ tag.
      title_mapped name p items name_id (λ i e.
      ap (λ (j : Item). j.title)
      (name_other i (λ same. tag_other p tag (ap (λ (d : ItemId). d.0) (sym e) ∙ same)))))

  title_alike : (page : PageId) → ((i : Item) → In i items → is_page page i.page ≡ true → i.id.0 ≢ item.0)
      → references_of titled page ≡ references_of items page
  title_alike page others =
      references_mapped (reference titled) (reference items) name (λ (i : Item). is_page page i.page) items
      (λ i h. name_same (λ (j : Item). is_page page j.page) (λ j. refl) i)
      (λ i h has.
      let same : name i ≡ i = name_other i (others i h has) in
      reference_alike items titled i (name i) (name_id i) (ap (λ (j : Item). j.title) same)
      (ap (λ (j : Item). j.modified) same) (tag_title_titled i.id))

pub retitled_alike : (kept : Kept) (item : ItemId) (title : List ℕ) (date : Micros) (ids : List PageId)
    → IsWellKept kept → refusal kept.items (Retitle item) ≡ None
    → IfSome (option_and_then (λ (i : Item). i.page) (item_at kept.items item)) (λ page. is_one_of ids page ≡ true)
    → AreReferencesAlike ids kept.items (retitled item title date kept.items)
retitled_alike kept item title date ids h none within page out =
    title_alike kept.items item title date (may_change kept.items item none).1 page
    (other_item kept item ids page h within out)

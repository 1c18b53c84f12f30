-- What is told of a tag where its folder was looked up.
use Rattle.std.proofs.Common.{◌≡◌, ◌∙◌, ◌+◌, ◌-◌, ◌<◌, ◌≤◌, ◌==◌, ℕ, List}
use Rattle.std.proofs.Common.{Option, Some, None, ap, arith, find, if◌then◌else◌, refl}
use Rattle.std.specs.Prelude.{bytes_eq, unwrap_or}
use Rattle.std.specs.Option.{is_none, option_and_then, option_map}
use Rattle.std.proofs.lemmas.List.{length-map, length_push}
use Rattle.std.proofs.lemmas.List.Elements.{recursion_from_All}
use Rattle.std.proofs.lemmas.List.Sums.{sum_by_push}
use Rattle.pl_base.specs.declared.date.Micros.{Micros}
use Rattle.pl_base.specs.declared.id.ItemId.{ItemId}
use Rattle.pl_base.specs.declared.id.PageId.{PageId}
use Rattle.pl_base.specs.Fold.{folded}
use Rattle.pl_base.specs.Good.{HasTags, IsTagFolder, end_of_ids}
use Rattle.pl_base.specs.Live.{chunks, live_slots, slot_limit}
use Rattle.pl_base.specs.Rows.{Kept, store_of}
use Rattle.pl_base.specs.Store.{Item, item_id}
use Rattle.pl_base.specs.Tags.{tags_root}
use Rattle.pl_base.specs.Tree.{IsFolder, child_items, children_of, is_page, item_at}
use Rattle.pl_base.proofs.Among.{at_in, from_filter_map, from_found}
use Rattle.pl_tree.specs.declared.new_item.NewItem.{NewItem}
use Rattle.pl_tree.specs.declared.place.Place.{Place}
use Rattle.pl_tree.specs.declared.place.Place.TheVariants.{End}
use Rattle.pl_tree.specs.Changes.{item_of, put, with_child, with_inserted, with_new}
use Rattle.pl_tree.specs.Refused.{tag_refusal}
use Rattle.pl_tree.specs.Tagged.{entry_in, new_entry, new_tag, tag_entry, tag_named, with_tagged}
use Rattle.pl_tree.proofs.ChildSlots.{slots_child}
use Rattle.pl_tree.proofs.LookedUp.{folder_at, found_at}

-- the id of an item
abbrev pub its_id : Option Item → Option ItemId
its_id item = option_map (λ (i : Item). i.id) item

-- the entry, where the folder is there
pub entry_told : (items : List Item) (page : PageId) (name : List ℕ) (folder : ItemId)
    → Some folder ≡ its_id (tag_named name items)
    → its_id (find (λ (i : Item). is_page page i.page) (child_items items folder)) ≡ its_id (tag_entry page name items)
entry_told items page name folder is = choose (tag_named name items) is
  where
    choose : (o : Option Item) → Some folder ≡ its_id o
        → its_id (find (λ (i : Item). is_page page i.page) (child_items items folder))
        ≡ its_id (option_and_then (entry_in items page) o)
    choose None is = absurd (cc)
    choose (Some t) is =
        let same : folder ≡ t.id = cc in
        ap (λ (id : ItemId). its_id (find (λ (i : Item). is_page page i.page) (child_items items id))) same

-- the folder is an item, and a folder
pub folder_there : (kept : Kept) (name : List ℕ) (folder : ItemId) → HasTags (store_of kept)
    → Some folder ≡ its_id (tag_named name kept.items) → IsFolder kept.items folder
folder_there kept name folder tags is = choose (tag_named name kept.items) refl is
  where
    items : List Item
    items = kept.items

    choose : (o : Option Item) → tag_named name items ≡ o → Some folder ≡ its_id o → IsFolder items folder
    choose None named is = absurd (cc)
    choose (Some t) named is =
        let same : folder ≡ t.id = cc in
        let found = from_found (λ (i : Item). bytes_eq (folded i.title) (folded name)) (child_items items tags_root) t
        named in
        let made = from_filter_map (item_at items) (children_of items tags_root) t found.0 in
        let at = found_at items made.0 t made.2 in
        let good : IsTagFolder (store_of kept) t =
        at_in (IsTagFolder (store_of kept)) (child_items items tags_root) t
        (recursion_from_All (IsTagFolder (store_of kept)) (child_items items tags_root) tags.folders) found.0 in
        folder_at items folder t (ap (item_at items) (same ∙ at.1) ∙ made.2) good.kind

-- ---- the ids that it wants

pub id_left : (kept : Kept) (page : PageId) (name : List ℕ) → tag_refusal page name kept ≡ None
    → kept.ids.item < end_of_ids
id_left kept page name none = grind arith

pub ids_left : (kept : Kept) (page : PageId) (name : List ℕ) → None ≡ its_id (tag_named name kept.items)
    → tag_refusal page name kept ≡ None → kept.ids.item + 1 < end_of_ids
ids_left kept page name is none = grind arith

-- ---- the rows where the page has the tag

-- as `with_tagged` has it
abbrev tagged_by : Kept → PageId → List ℕ → Micros → Option Item → Kept
tagged_by kept page name date tag =
    let next : ℕ = kept.ids.item in
    record kept {
      ids = record kept.ids { item = next + (if is_none tag then 2 else 1) };
      items =
          with_new (item_id (next + ((if is_none tag then 2 else 1) - 1)))
          (unwrap_or (its_id tag) (item_id next)) End (new_entry page date)
          (if is_none tag then with_new (item_id next) tags_root End (new_tag name date) kept.items else kept.items);
    }

pub tagged_there : (kept : Kept) (page : PageId) (name : List ℕ) (date : Micros) (folder : ItemId)
    → Some folder ≡ its_id (tag_named name kept.items)
    → with_inserted folder End (new_entry page date) kept ≡ with_tagged page name date kept
tagged_there kept page name date folder is = choose (tag_named name kept.items) is
  where
    choose : (o : Option Item) → Some folder ≡ its_id o
        → with_inserted folder End (new_entry page date) kept ≡ tagged_by kept page name date o
    choose None is = absurd (cc)
    choose (Some t) is =
        let same : folder ≡ t.id = cc in
        let next : ℕ = kept.ids.item in
        let same_next : next ≡ next + 0 = omega arith in
        ap (λ (id : ItemId). with_inserted id End (new_entry page date) kept) same
        ∙ ap (λ (n : ℕ).
        record kept {
          ids = record kept.ids { item = next + 1 };
          items = with_new (item_id n) t.id End (new_entry page date) kept.items;
        }) same_next

tagged_anew : (kept : Kept) (page : PageId) (name : List ℕ) (date : Micros)
    → None ≡ its_id (tag_named name kept.items)
    → with_inserted (item_id kept.ids.item) End (new_entry page date)
    (with_inserted tags_root End (new_tag name date) kept) ≡ with_tagged page name date kept
tagged_anew kept page name date is = choose (tag_named name kept.items) is
  where
    choose : (o : Option Item) → None ≡ its_id o
        → with_inserted (item_id kept.ids.item) End (new_entry page date)
        (with_inserted tags_root End (new_tag name date) kept) ≡ tagged_by kept page name date o
    choose (Some t) is = absurd (cc)
    choose None is =
        let next : ℕ = kept.ids.item in
        let two : next + 1 + 1 ≡ next + 2 = omega arith in
        ap (λ (n : ℕ).
        record kept {
          ids = record kept.ids { item = n };
          items =
              with_new (item_id (next + 1)) (item_id next) End (new_entry page date)
              (with_new (item_id next) tags_root End (new_tag name date) kept.items);
        }) two

-- the same where the title of the new folder is given
pub made_anew : (kept now : Kept) (page : PageId) (name title : List ℕ) (date : Micros)
    → now ≡ with_inserted (item_id kept.ids.item) End (new_entry page date)
    (with_inserted tags_root End (new_tag title date) kept) → title ≡ name
    → None ≡ its_id (tag_named name kept.items) → now ≡ with_tagged page name date kept
made_anew kept now page name title date made same is =
    made
    ∙ ap (λ (t : List ℕ).
    with_inserted (item_id kept.ids.item) End (new_entry page date)
    (with_inserted tags_root End (new_tag t date) kept)) same
    ∙ tagged_anew kept page name date is

-- ---- the slots that they take

live_of_inserted : (kept : Kept) (parent : ItemId) (place : Place) (new : NewItem)
    → live_slots (store_of (with_inserted parent place new kept))
    ≡ live_slots (store_of kept) + 1 + chunks new.title
live_of_inserted kept parent place new =
    let id : ItemId = item_id kept.ids.item in
    let grown : List Item = with_child parent place id kept.items in
    omega (
      arith,
      length_push grown (item_of id new),
      length-map kept.items
          (λ (i : Item). if i.id.0 == parent.0 then record i { children = put place id i.children } else i),
      sum_by_push (λ (i : Item). chunks i.title) grown (item_of id new),
      slots_child parent place id kept.items,
    )

-- a tag that is new takes two slots, and those of its name
pub live_anew : (kept : Kept) (page : PageId) (name title : List ℕ) (date : Micros)
    → None ≡ its_id (tag_named name kept.items) → title ≡ name
    → live_slots (store_of (with_tagged page name date kept)) ≤ slot_limit
    → live_slots (store_of kept) + 2 + chunks title ≤ slot_limit
live_anew kept page name title date is same live =
    let folder : Kept = with_inserted tags_root End (new_tag name date) kept in
    omega (
      arith,
      ap chunks same,
      ap (λ (k : Kept). live_slots (store_of k)) (tagged_anew kept page name date is),
      live_of_inserted folder (item_id kept.ids.item) End (new_entry page date),
      live_of_inserted kept tags_root End (new_tag name date),
    )

-- one that is there takes one
pub live_there : (kept : Kept) (page : PageId) (name : List ℕ) (date : Micros) (folder : ItemId)
    → Some folder ≡ its_id (tag_named name kept.items)
    → live_slots (store_of (with_tagged page name date kept)) ≤ slot_limit
    → live_slots (store_of kept) + 1 ≤ slot_limit
live_there kept page name date folder is live =
    omega (
      arith,
      ap (λ (k : Kept). live_slots (store_of k)) (tagged_there kept page name date folder is),
      live_of_inserted kept folder End (new_entry page date),
    )

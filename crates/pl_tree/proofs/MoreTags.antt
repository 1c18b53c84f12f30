-- The items where a page gets a tag, which is there already or is new.
use Rattle.std.proofs.Common.{◌≡◌, ◌≢◌, ◌<◌, ◌+◌, ◌-◌, ◌++◌, ◌∙◌, inl, inr, ℕ, Bool, List, [], ◌∷◌}
use Rattle.std.proofs.Common.{Option, Some, None, ap, arith, eq-eqb, if◌then◌else◌, map, refl, subst, sym}
use Rattle.std.specs.Prelude.{◌≤◌, bytes_eq, unwrap_or}
use Rattle.std.specs.Option.{is_none, option_map}
use Rattle.std.proofs.lemmas.Bool.{both_ways}
use Rattle.std.proofs.lemmas.List.{map_push}
use Rattle.pl_base.specs.declared.date.Micros.{Micros}
use Rattle.pl_base.specs.declared.id.ItemId.{ItemId}
use Rattle.pl_base.specs.declared.id.PageId.{PageId}
use Rattle.pl_base.specs.declared.item.ItemKind.TheVariants.{Folder}
use Rattle.pl_base.specs.Fold.{folded}
use Rattle.pl_base.specs.Good.{HasGoodItems, child_ids}
use Rattle.pl_base.specs.Store.{Item, Store, item_id}
use Rattle.pl_base.specs.Tags.{tags_root}
use Rattle.pl_base.specs.Tree.{child_items, children_of, item_at}
use Rattle.pl_base.proofs.Among.{In, from_found, in_either}
use Rattle.pl_base.proofs.ItemLookUps.{same_item_number}
use Rattle.pl_tree.specs.declared.place.Place.TheVariants.{End}
use Rattle.pl_tree.specs.Changes.{item_of, with_new}
use Rattle.pl_tree.specs.Refused.{is_tag}
use Rattle.pl_tree.specs.Tagged.{new_entry, new_items, new_tag, tag_named, tagged_items}
use Rattle.pl_base.proofs.KeyCounts.{Ascends, Once}
use Rattle.pl_tree.proofs.Causes.{Takes}
use Rattle.pl_tree.proofs.ChildLists.{grown}
use Rattle.pl_tree.proofs.GoodEntered.{no_tags_root}
use Rattle.pl_tree.proofs.GoodRows.{good_rows}
use Rattle.pl_tree.proofs.InsertedChildren.{ascends_new, at_new, ids_other, ids_parent}
use Rattle.pl_tree.proofs.KeptTags.{tag_is}
use Rattle.pl_tree.proofs.LookedUp.{children_in, found_at, id_key, in_child_ids, item_key}
use Rattle.pl_tree.proofs.MoreItems.{found_more, fresh_more, ids_more, kind_more, known_more, lists_apart, lists_entry}
use Rattle.pl_tree.proofs.MoreItems.{lists_folder, still_takes, tag_lists, takes_below, with_entry}
use Rattle.pl_tree.proofs.RootItems.{top_folder}
use Rattle.pl_tree.proofs.TagRows.{child_at, row_child}
use Rattle.pl_tree.proofs.TreeLaws.{child_below, child_once}

-- the new entry, which has this id
abbrev pub entry_at : ℕ → PageId → Micros → Item
entry_at n page date = item_of (item_id n) (new_entry page date)

-- with an entry more in a tag folder that is there
abbrev pub with_known : ℕ → PageId → Micros → Item → List Item → List Item
with_known next page date tag items = with_new (item_id next) tag.id End (new_entry page date) items

-- with a new tag folder, and with an entry in it
abbrev pub with_folder : ℕ → List ℕ → Micros → List Item → List Item
with_folder next name date items = with_new (item_id next) tags_root End (new_tag name date) items

abbrev pub with_anew : ℕ → PageId → List ℕ → Micros → List Item → List Item
with_anew next page name date items =
    with_new (item_id (next + 1)) (item_id next) End (new_entry page date) (with_folder next name date items)

-- as `tagged_items` has it
abbrev tagged_by : ℕ → PageId → List ℕ → Micros → List Item → Option Item → List Item
tagged_by next page name date items tag =
    with_new (item_id (next + ((if is_none tag then 2 else 1) - 1)))
    (unwrap_or (option_map (λ (i : Item). i.id) tag) (item_id next)) End (new_entry page date)
    (if is_none tag then with_folder next name date items else items)

module _ (old : Store) (next : ℕ) (page : PageId) (name : List ℕ) (date : Micros) (good : HasGoodItems old)
    (up : Ascends item_key old.items) (fresh : (i : Item) → In i old.items → i.id.0 < next) (late : 7 ≤ next) where
  abbrev items : List Item
  items = old.items

  known : (c : ItemId) → In c (child_ids items) → c.0 < next
  known = child_below items next good.tree fresh

  once : Once id_key (child_ids items)
  once = child_once items good.tree

  tags_top : (i : Item) × (item_at items tags_root ≡ Some i) × (i.kind ≡ Folder)
  tags_top = top_folder old 4 good.roots (inr (inr (inl refl)))

  apart : (c : ItemId) → In c (children_of items tags_root) → c.0 ≢ 4
  apart = no_tags_root old (good_rows old good)

  -- ---- the tag is there

  module _ (tag : Item) (there : In tag (child_items items tags_root)) where
    abbrev known_now : List Item
    known_now = with_known next page date tag items

    child : In tag.id (children_of items tags_root)
    child = (child_at items tags_root tag there).0

    not_root : 4 ≢ tag.id.0
    not_root same = apart tag.id child (sym same)

    other_tag : (folder : ItemId) → Takes items folder → folder.0 ≢ tag.id.0
    other_tag folder f same =
        both_ways (is_tag items folder) f.no_tag
        (ap (is_tag items) (same_item_number folder tag.id same) ∙ tag_is items once tag.id child)

    pub known_takes : (folder : ItemId) → Takes items folder → Takes known_now folder
    known_takes folder f =
        let id : ItemId = item_id next in
        let entry : Item = entry_at next page date in
        still_takes items known_now folder (grown tag.id End id f.folder) once
        (ascends_new items id tag.id entry refl refl up fresh known) f
        (found_more items id tag.id entry refl refl up fresh known folder f.folder
        (takes_below items id tag.id entry refl refl up fresh known folder f) f.there)
        (kind_more items id tag.id entry refl refl up fresh known f.folder ∙ f.kind)
        (λ h.
        subst (In folder)
        (ids_other items id tag.id entry refl refl up fresh known tags_root (omega arith) not_root) h)

    pub known_children : (folder : ItemId) → Takes items folder
        → children_of known_now folder ≡ children_of items folder
    known_children folder f =
        let id : ItemId = item_id next in
        ids_other items id tag.id (entry_at next page date) refl refl up fresh known folder
        (takes_below items id tag.id (entry_at next page date) refl refl up fresh known folder f) (other_tag folder f)

    pub known_lists : tag_lists known_now ≡ map (with_entry tag.id (entry_at next page date)) (tag_lists items)
    known_lists =
        lists_entry items (item_id next) tag.id (entry_at next page date) refl refl up fresh known tag (omega arith)
        not_root (child_at items tags_root tag there).1

    pub known_ids : map item_key known_now ≡ map item_key items ++ next ∷ []
    known_ids = ids_more items (item_id next) tag.id (entry_at next page date) refl refl up fresh known

    pub known_fresh : (i : Item) → In i known_now → i.id.0 < next + 1
    known_fresh = fresh_more items (item_id next) tag.id (entry_at next page date) refl fresh

  -- ---- the tag is new

  abbrev folder_id : ItemId
  folder_id = item_id next

  abbrev new_folder : Item
  new_folder = item_of folder_id (new_tag name date)

  abbrev mid : List Item
  mid = with_folder next name date items

  abbrev last : ItemId
  last = item_id (next + 1)

  abbrev new_now : List Item
  new_now = with_anew next page name date items

  mid_up : Ascends item_key mid
  mid_up = ascends_new items folder_id tags_root new_folder refl refl up fresh known

  mid_fresh : (i : Item) → In i mid → i.id.0 < next + 1
  mid_fresh = fresh_more items folder_id tags_root new_folder refl fresh

  mid_known : (c : ItemId) → In c (child_ids mid) → c.0 < next + 1
  mid_known = known_more items folder_id tags_root new_folder refl refl up fresh known

  mid_tags : children_of mid tags_root ≡ children_of items tags_root ++ folder_id ∷ []
  mid_tags =
      ids_parent items folder_id tags_root new_folder refl refl up fresh known tags_top.0 tags_top.1 (omega arith)

  back : (folder : ItemId) → folder.0 < next → In folder (children_of new_now tags_root)
      → In folder (children_of items tags_root)
  back folder within h =
      let g : In folder (children_of items tags_root ++ folder_id ∷ []) =
      subst (In folder)
      (ids_other mid last folder_id (entry_at (next + 1) page date) refl refl mid_up mid_fresh mid_known tags_root
      (omega arith) (λ same. omega arith) ∙ mid_tags) h in
      elim (in_either (children_of items tags_root) (folder_id ∷ []) folder g)
      as (λ _. In folder (children_of items tags_root)) [
        | inl f ↦ f
        | inr (inl e) ↦ absurd (omega (arith, ap id_key e))
        | inr (inr f) ↦ absurd f
      ]

  pub new_takes_still : (folder : ItemId) → Takes items folder → Takes new_now folder
  new_takes_still folder f =
      let entry : Item = entry_at (next + 1) page date in
      let within : folder.0 < next =
      takes_below items folder_id tags_root new_folder refl refl up fresh known folder f in
      let first : Item = grown tags_root End folder_id f.folder in
      still_takes items new_now folder (grown folder_id End last first) once
      (ascends_new mid last folder_id entry refl refl mid_up mid_fresh mid_known) f
      (found_more mid last folder_id entry refl refl mid_up mid_fresh mid_known folder first (omega arith)
      (found_more items folder_id tags_root new_folder refl refl up fresh known folder f.folder within f.there))
      (kind_more mid last folder_id entry refl refl mid_up mid_fresh mid_known first
      ∙ kind_more items folder_id tags_root new_folder refl refl up fresh known f.folder ∙ f.kind)
      (back folder within)

  pub new_children : (folder : ItemId) → Takes items folder → children_of new_now folder ≡ children_of items folder
  new_children folder f =
      let within : folder.0 < next =
      takes_below items folder_id tags_root new_folder refl refl up fresh known folder f in
      ids_other mid last folder_id (entry_at (next + 1) page date) refl refl mid_up mid_fresh mid_known folder
      (omega arith) (λ same. omega arith)
      ∙ ids_other items folder_id tags_root new_folder refl refl up fresh known folder within f.not_tags

  pub new_lists : tag_lists new_now ≡ tag_lists items ++ (new_folder, entry_at (next + 1) page date ∷ []) ∷ []
  new_lists =
      let entry : Item = entry_at (next + 1) page date in
      lists_entry mid last folder_id entry refl refl mid_up mid_fresh mid_known new_folder (omega arith)
      (λ same. omega arith) (at_new items folder_id tags_root new_folder refl refl up fresh known)
      ∙ ap (map (with_entry folder_id entry))
      (lists_folder items folder_id new_folder tags_top.0 refl refl up fresh known (omega arith) tags_top.1 apart)
      ∙ map_push (with_entry folder_id entry) (tag_lists items) (new_folder, [])
      ∙ ap (λ (ls : List (Item × List Item)). ls ++ with_entry folder_id entry (new_folder, []) ∷ [])
      (lists_apart items folder_id entry (λ k h same.
      let r = row_child items tags_root k h in
      omega (
        arith,
        known k.id (in_child_ids items tags_top.0 k.id (found_at items tags_root tags_top.0 tags_top.1).0
            (subst (In k.id) (ap children_in tags_top.1) r)),
      )))
      ∙ ap (λ (b : Bool).
      tag_lists items ++ (if b then (new_folder, entry ∷ []) else (new_folder, [])) ∷ []) (eq-eqb next next refl)

  pub new_ids : map item_key new_now ≡ (map item_key items ++ next ∷ []) ++ (next + 1) ∷ []
  new_ids =
      ids_more mid last folder_id (entry_at (next + 1) page date) refl refl mid_up mid_fresh mid_known
      ∙ ap (λ (ns : List ℕ). ns ++ (next + 1) ∷ [])
      (ids_more items folder_id tags_root new_folder refl refl up fresh known)

  pub new_fresh : (i : Item) → In i new_now → i.id.0 < next + 1 + 1
  new_fresh = fresh_more mid last folder_id (entry_at (next + 1) page date) refl mid_fresh

-- ---- either

known_is : (next : ℕ) (page : PageId) (name : List ℕ) (date : Micros) (tag : Item) (items : List Item)
    → tagged_by next page name date items (Some tag) ≡ with_known next page date tag items
known_is next page name date tag items =
    let same : next + 0 ≡ next = omega arith in
    ap (λ (n : ℕ). with_new (item_id n) tag.id End (new_entry page date) items) same

-- it is among the tags
pub tag_among : (name : List ℕ) (items : List Item) (tag : Item) → tag_named name items ≡ Some tag
    → In tag (child_items items tags_root)
tag_among name items tag is =
    (from_found (λ (i : Item). bytes_eq (folded i.title) (folded name)) (child_items items tags_root) tag is).0

-- what holds where the tag is there and where it is new
pub each_tag : (next : ℕ) (page : PageId) (name : List ℕ) (date : Micros) (items : List Item)
    (P : ℕ → List Item → Type 0)
    → ((tag : Item) → tag_named name items ≡ Some tag → P 1 (with_known next page date tag items))
    → (tag_named name items ≡ None → P 2 (with_anew next page name date items))
    → P (new_items name items) (tagged_items next page name date items)
each_tag next page name date items P there new = choose (tag_named name items) refl
  where
    choose : (o : Option Item) → tag_named name items ≡ o
        → P (if is_none o then 2 else 1) (tagged_by next page name date items o)
    choose None is = new is
    choose (Some tag) is = subst (P 1) (sym (known_is next page name date tag items)) (there tag is)

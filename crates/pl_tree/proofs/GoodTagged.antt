-- A page that gets or loses a tag keeps the items those of a good store.
use Rattle.std.proofs.Common.{◌≡◌, ◌≢◌, ◌<◌, ◌+◌, ◌-◌, ◌∷◌, ◌∙◌, inl, inr, ℕ, Bool, true, false, List, []}
use Rattle.std.proofs.Common.{Option, Some, None, ap, arith, eq-eqb, if◌then◌else◌, is_some, map, refl, subst, sym}
use Rattle.std.specs.Prelude.{◌≤◌, IsTrue, bytes_eq, nat_lt, unwrap_or}
use Rattle.std.specs.Option.{is_none, option_and_then, option_map}
use Rattle.std.proofs.lemmas.Bool.{both_ways, ne_eqb}
use Rattle.std.proofs.lemmas.Slice.Eq.{bytes_eq-Decides}
use Rattle.pl_base.specs.declared.date.Micros.{Micros}
use Rattle.pl_base.specs.declared.id.Ids.{Ids}
use Rattle.pl_base.specs.declared.id.ItemId.{ItemId}
use Rattle.pl_base.specs.declared.id.PageId.{PageId}
use Rattle.pl_base.specs.declared.id.IdKind.TheVariants.{Item as ItemIds}
use Rattle.pl_base.specs.declared.item.ItemKind.TheVariants.{Folder}
use Rattle.pl_base.specs.declared.refusal.Refusal.TheVariants.{DupTag, NoIds, NoTag}
use Rattle.pl_base.specs.Date.{IsDate}
use Rattle.pl_base.specs.Fold.{folded}
use Rattle.pl_base.specs.Good.{HasGoodItems, IsTagName, IsTitle, child_ids, end_of_ids, has_page_at}
use Rattle.pl_base.specs.Rows.{IsWellKept, Kept, has_page, store_of, with_items}
use Rattle.pl_base.specs.Store.{Item, Store, item_id}
use Rattle.pl_base.specs.Tags.{tags_root}
use Rattle.pl_base.specs.Tree.{child_items, is_page, item_at}
use Rattle.pl_base.proofs.ItemLaws.{bare}
use Rattle.pl_base.proofs.Among.{In, from_found, from_map, in_back, in_either, in_front, in_map}
use Rattle.pl_base.proofs.Truths.{is_none_at}
use Rattle.pl_tree.specs.declared.place.Place.TheVariants.{End}
use Rattle.pl_tree.specs.Changes.{item_of, put, with_new}
use Rattle.pl_tree.specs.Refused.{tag_refusal, untag_refusal}
use Rattle.pl_tree.specs.Tagged.{entry_in, new_entry, new_items, new_tag, tag_entry, tag_named, untagged_items}
use Rattle.pl_tree.specs.Tagged.{with_tagged, without_entry}
use Rattle.pl_base.proofs.KeyCounts.{Ascends}
use Rattle.pl_tree.proofs.Causes.{if_none}
use Rattle.pl_tree.proofs.ChildLists.{grown, grown_id, grown_new}
use Rattle.pl_tree.proofs.EntryRemoved.{unused_good}
use Rattle.pl_tree.proofs.GoodChanges.{below_next, page_there}
use Rattle.pl_tree.proofs.GoodEntered.{entered_good, no_tags_root}
use Rattle.pl_tree.proofs.GoodRows.{HasGoodRows, good_rows}
use Rattle.pl_tree.proofs.InsertedChildren.{ascends_new, from_children, rows_new}
use Rattle.pl_tree.proofs.InsertedRows.{inserted_rows}
use Rattle.pl_tree.proofs.LookedUp.{found_at, id_key, item_key, none_found}
use Rattle.pl_tree.proofs.MappedItems.{changed_other}
use Rattle.pl_tree.proofs.PutPlaces.{row_of_new}
use Rattle.pl_tree.proofs.RootItems.{top_folder}
use Rattle.pl_tree.proofs.TagItems.{among_children}
use Rattle.pl_tree.proofs.TaggedRows.{rows_with_folder}
use Rattle.pl_tree.proofs.TagRows.{HasTagRows, are_used, child_at, child_rows, tag_rows}
use Rattle.pl_tree.proofs.TreeLaws.{child_below, ids_ascend}

is_title : (name : List ℕ) → IsTagName name → IsTitle name
is_title name named = (named.text, omega (arith, named.few))

first_none : {A : Type 0} (b : Bool) (x : A) (rest : Option A) → (if b then Some x else rest) ≡ None → b ≡ false
first_none true x rest none = absurd (cc)
first_none false x rest none = refl

-- no child has the page where no entry has it
no_page : (items : List Item) (page : PageId) (tag : Item) → entry_in items page tag ≡ None
    → (i : Item) → In i (child_rows items tag.id) → i.page ≢ Some page
no_page items page tag none i h same =
    let r = from_map bare (child_items items tag.id) i h in
    let j : Item = r.0 in
    both_ways (is_page page j.page)
    (none_found (λ (k : Item). is_page page k.page) (child_items items tag.id) j none r.1)
    (ap (is_page page) (sym (ap (λ (k : Item). k.page) r.2) ∙ same) ∙ eq-eqb page.0 page.0 refl)

-- no tag has the name where none is found by it
no_name : (items : List Item) (name : List ℕ) → tag_named name items ≡ None
    → (t : Item) → In t (child_rows items tags_root) → folded t.title ≢ folded name
no_name items name none t h same =
    let r = from_map bare (child_items items tags_root) t h in
    let s : Item = r.0 in
    both_ways (bytes_eq (folded s.title) (folded name))
    (none_found (λ (k : Item). bytes_eq (folded k.title) (folded name)) (child_items items tags_root) s none r.1)
    ((bytes_eq-Decides (folded s.title) (folded name)).1 (ap (λ (k : Item). folded k.title) (sym r.2) ∙ same))

-- ---- a page gets a tag

module _ (old : Store) (ids : Ids) (next : ℕ) (page : PageId) (name : List ℕ) (date : Micros)
    (up : Ascends item_key old.items) (good : HasGoodItems old)
    (fresh : (i : Item) → In i old.items → i.id.0 < next) (late : 7 ≤ next) (named : IsTagName name)
    (dated : IsDate date) (has : IsTrue (has_page_at old page)) where
  abbrev items : List Item
  items = old.items

  -- ---- the tag is there

  entered : (tag : Item) → tag_named name items ≡ Some tag → entry_in items page tag ≡ None → (id : ItemId)
      → next ≤ id.0
      → HasGoodItems (record old { ids = ids; items = with_new id tag.id End (new_entry page date) items })
  entered tag is none id above =
      entered_good old ids id page date tag up (good_rows old good) (tag_rows old good.tags)
      (λ i h. let below = fresh i h in omega arith) (omega arith)
      (from_found (λ (t : Item). bytes_eq (folded t.title) (folded name)) (child_items items tags_root) tag is).0
      (no_page items page tag none) (λ t h _. are_used old good.tags t h) dated has

  -- ---- the tag is new

  abbrev id : ItemId
  id = item_id next

  abbrev folder : Item
  folder = item_of id (new_tag name date)

  abbrev grow : Item → Item
  grow = grown tags_root End id

  abbrev mid : Store
  mid = record old { items = with_new id tags_root End (new_tag name date) items }

  known : (c : ItemId) → In c (child_ids items) → c.0 < next
  known = child_below items next good.tree fresh

  root : (i : Item) × (item_at items tags_root ≡ Some i) × (i.kind ≡ Folder)
  root = top_folder old 4 good.roots (inr (inr (inl refl)))

  mid_up : Ascends item_key mid.items
  mid_up = ascends_new items id tags_root folder refl refl up fresh known

  mid_good : HasGoodRows mid
  mid_good =
      inserted_rows old old.ids id tags_root End (row_of_new tags_root (new_tag name date)) name up
      (good_rows old good)
      (record { folder = root.0; there = root.1; kind = root.2; not_first = λ same. omega arith })
      fresh late (is_title name named) dated dated (λ some. absurd (cc), λ same. absurd (cc)) tt

  mid_rows : tag_named name items ≡ None → HasTagRows mid.items
  mid_rows none =
      rows_with_folder items id date up fresh known (tag_rows old good.tags) root.0 root.1 (omega arith)
      (no_tags_root old (good_rows old good)) name named (no_name items name none)

  mid_below : (i : Item) → In i mid.items → i.id.0 < next + 1
  mid_below i h =
      elim (in_either (map grow items) (folder ∷ []) i h) as (λ _. i.id.0 < next + 1) [
        | inl g ↦
            let r = from_map grow items i g in
            let below = fresh r.0 r.1 in
            omega (arith, ap item_key r.2, ap id_key (grown_id tags_root End id r.0))
        | inr (inl e) ↦ omega (arith, ap item_key e)
        | inr (inr g) ↦ absurd g
      ]

  mid_tag : In folder (child_items mid.items tags_root)
  mid_tag =
      let found = found_at items tags_root root.0 root.1 in
      let top : Item = grow root.0 in
      subst (λ (p : ItemId). In folder (child_items mid.items p)) (grown_id tags_root End id root.0 ∙ found.1)
      (among_children mid.items top folder mid_up
      (in_front (map grow items) (folder ∷ []) top (in_map grow items root.0 found.0))
      (in_back (map grow items) (folder ∷ []) folder (inl refl))
      (grown_new tags_root End id root.0 found.1))

  mid_used : (t : Item) → In t (child_items mid.items tags_root) → t.id.0 ≢ next → t.children ≢ []
  mid_used t h other =
      elim (from_children items id tags_root folder refl refl up fresh known tags_root t (omega arith) h)
      as (λ _. t.children ≢ []) [
        | inl (i, g, e) ↦
            let apart = no_tags_root old (good_rows old good) i.id (child_at items tags_root i g).0 in
            subst (λ (k : Item). k.children ≢ [])
            (sym (changed_other tags_root (λ (k : Item). record k { children = put End id k.children }) i
            (ne_eqb i.id.0 4 apart)) ∙ sym e)
            (are_used old good.tags i g)
        | inr (same, e) ↦ absurd (other (ap item_key e))
      ]

  with_folder : tag_named name items ≡ None → (entry : ItemId) → next + 1 ≤ entry.0
      → HasGoodItems (record old { ids = ids; items = with_new entry id End (new_entry page date) mid.items })
  with_folder none entry above =
      entered_good mid ids entry page date folder mid_up mid_good (mid_rows none)
      (λ i h. let below = mid_below i h in omega arith) (omega arith) mid_tag
      (λ i h. absurd (subst (In i) (rows_new items id tags_root folder refl refl up fresh known) h))
      mid_used dated has

  -- ---- either

  -- as `tagged_items` has it
  abbrev tagged_by : Option Item → List Item
  tagged_by tag =
      with_new (item_id (next + ((if is_none tag then 2 else 1) - 1)))
      (unwrap_or (option_map (λ (t : Item). t.id) tag) (item_id next)) End (new_entry page date)
      (if is_none tag then with_new (item_id next) tags_root End (new_tag name date) items else items)

  pub tagged_good : (tag : Option Item) → tag_named name items ≡ tag
      → is_some (option_and_then (entry_in items page) tag) ≡ false
      → HasGoodItems (record old { ids = ids; items = tagged_by tag })
  tagged_good None is none = with_folder is (item_id (next + (2 - 1))) (omega arith)
  tagged_good (Some tag) is none =
      entered tag is (is_none_at (entry_in items page tag) none) (item_id (next + (1 - 1))) (omega arith)

pub good_tagged : (kept : Kept) (page : PageId) (name : List ℕ) (date : Micros) → IsWellKept kept
    → HasGoodItems (store_of kept) → IsTagName name → IsDate date → has_page kept page ≡ true
    → tag_refusal page name kept ≡ None → HasGoodItems (store_of (with_tagged page name date kept))
good_tagged kept page name date h good named dated has none =
    let items : List Item = kept.items in
    tagged_good (store_of kept) (record kept.ids { item = kept.ids.item + new_items name items }) kept.ids.item page
    name date (ids_ascend items h.item_ids.ascending) good (below_next kept h) h.item_ids.next_first named dated
    (page_there kept (Some page) has) (tag_named name items) refl
    (first_none (is_some (tag_entry page name items)) DupTag
    (if nat_lt end_of_ids (kept.ids.item + new_items name items) then Some (NoIds ItemIds) else None) none)

-- ---- a page loses a tag

pub good_untagged : (kept : Kept) (page : PageId) (name : List ℕ) → IsWellKept kept → HasGoodItems (store_of kept)
    → untag_refusal page name kept.items ≡ None
    → HasGoodItems (store_of (with_items (untagged_items page name kept.items) kept))
good_untagged kept page name h good none =
    choose (tag_named name kept.items) refl (if_none (is_none (tag_entry page name kept.items)) NoTag none)
  where
    items : List Item
    items = kept.items

    found : (tag : Item) → tag_named name items ≡ Some tag → (e : Option Item) → entry_in items page tag ≡ e
        → is_none e ≡ false
        → HasGoodItems (record (store_of kept) { items = without_entry (Some tag) e items })
    found tag is None at some = absurd (both_ways true some refl)
    found tag is (Some entry) at some =
        unused_good (store_of kept) (ids_ascend items h.item_ids.ascending) good tag entry
        (from_found (λ (t : Item). bytes_eq (folded t.title) (folded name)) (child_items items tags_root) tag is).0
        (from_found (λ (i : Item). is_page page i.page) (child_items items tag.id) entry at).0

    choose : (o : Option Item) → tag_named name items ≡ o
        → is_none (option_and_then (entry_in items page) o) ≡ false
        → HasGoodItems (record (store_of kept) {
          items = without_entry o (option_and_then (entry_in items page) o) items;
        })
    choose None is some = absurd (both_ways true some refl)
    choose (Some tag) is some = found tag is (entry_in items page tag) refl some

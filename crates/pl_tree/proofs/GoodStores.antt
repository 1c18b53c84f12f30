-- What an item at the end of a folder and a tag for a page keep of a good store, whatever id is
-- next.
use Rattle.std.proofs.Common.{◌≡◌, ◌≢◌, ◌<◌, ◌+◌, ◌++◌, ◌==◌, ◌∙◌, ◌⊎◌, inl, inr, ℕ, All, true, false}
use Rattle.std.proofs.Common.{List, [], ◌∷◌, Some, None, ap, arith, eq-eqb, if◌then◌else◌, is_some}
use Rattle.std.proofs.Common.{length, map, refl, subst, sym}
use Rattle.std.specs.Prelude.{◌↔◌, ◌≤◌, IsTrue}
use Rattle.std.specs.List.{filter_map}
use Rattle.std.specs.List.Sorted.{IsStrictlyIncreasing}
use Rattle.std.specs.Option.{IfSome, IsSome}
use Rattle.std.proofs.lemmas.Bool.{both_ways, cases_eq, cases_lt, ne_eqb}
use Rattle.std.proofs.lemmas.List.{get_or_append_left, get_or_push, length_push}
use Rattle.std.proofs.lemmas.List.Elements.{All-from_recursion, All-map, All-push, All-weaker, recursion_from_All}
use Rattle.std.proofs.lemmas.Option.{none-some, same_Some}
use Rattle.pl_base.specs.declared.date.Micros.{Micros}
use Rattle.pl_base.specs.declared.id.Ids.{Ids}
use Rattle.pl_base.specs.declared.id.ItemId.{ItemId}
use Rattle.pl_base.specs.declared.id.PageId.{PageId}
use Rattle.pl_base.specs.declared.item.ItemKind.TheVariants.{Bookmark, Folder}
use Rattle.pl_base.specs.declared.item.ItemRow.{ItemRow}
use Rattle.pl_base.specs.Date.{IsDate}
use Rattle.pl_base.specs.Good.{HasGoodItems, IsTagName, IsTitle, child_ids, has_page_at}
use Rattle.pl_base.specs.Store.{Item, Store, item_id}
use Rattle.pl_base.specs.Tags.{is_tags_root, tags_root}
use Rattle.pl_base.specs.Tree.{child_items, children_of, has_item, item_at, new_item}
use Rattle.pl_base.proofs.Among.{In, all_from_in, at_in}
use Rattle.pl_base.proofs.ItemLookUps.{same_item_number}
use Rattle.pl_tree.specs.declared.place.Place.TheVariants.{End}
use Rattle.pl_tree.specs.Changes.{item_of, with_child}
use Rattle.pl_tree.specs.Refused.{is_tag, parent_refusal}
use Rattle.pl_tree.specs.Tagged.{new_entry, new_items, new_tag, tag_entry, tag_named, tagged_items}
use Rattle.pl_base.proofs.KeyCounts.{Ascends, Once}
use Rattle.pl_tree.proofs.Causes.{Takes, not_refused, takes}
use Rattle.pl_tree.proofs.ChildLists.{grown}
use Rattle.pl_tree.proofs.GoodInserted.{inserted_good}
use Rattle.pl_tree.proofs.GoodTagged.{tagged_good}
use Rattle.pl_tree.proofs.InsertedChildren.{ascends_new, ids_new, ids_other, ids_parent}
use Rattle.pl_tree.proofs.KeptRoots.{tops}
use Rattle.pl_tree.proofs.KeptTags.{tag_is}
use Rattle.pl_tree.proofs.LookedUp.{at_id, child_of, children_in, found_at, id_key, in_child_ids, in_has}
use Rattle.pl_tree.proofs.LookedUp.{item_key}
use Rattle.pl_tree.proofs.MoreItems.{found_more, fresh_more, ids_more, kind_more}
use Rattle.pl_tree.proofs.MoreTags.{each_tag, known_children, known_fresh, known_ids, known_lists, known_takes}
use Rattle.pl_tree.proofs.MoreTags.{new_children, new_fresh, new_ids, new_lists, new_takes_still, tag_among}
use Rattle.pl_tree.proofs.MoreTags.{with_anew, with_known}
use Rattle.pl_tree.proofs.MoreItems.{lists_other, new_takes, still_takes, takes_below}
use Rattle.pl_tree.proofs.RootItems.{parent_of_top, top_folder}
use Rattle.pl_tree.proofs.TagRows.{child_at, row_child}
use Rattle.pl_tree.proofs.TreeLaws.{child_below, child_known, child_once, ids_ascend}
pub use Rattle.pl_tree.proofs.MoreItems.{tag_lists, with_entry}

-- ---- ids

pub ascends_push : (ns : List ℕ) (n : ℕ) → IsStrictlyIncreasing ns → All (λ m. m < n) ns
    → IsStrictlyIncreasing (ns ++ n ∷ [])
ascends_push ns n ascending below k within =
    let whole : k + 1 < length ns + 1 = rw (length_push ns n) at within in
    let first : k < length ns = omega arith in
    elim (cases_lt (k + 1) (length ns)) [
      | inl inside ↦
          rw (get_or_append_left ns (n ∷ []) 0 k first, get_or_append_left ns (n ∷ []) 0 (k + 1) inside)
          (ascending k inside)
      | inr past ↦
          let last : length ns ≡ k + 1 = omega arith in
          rw (get_or_append_left ns (n ∷ []) 0 k first, get_or_push ns n 0 (k + 1) last) (below k 0 first)
    ]

-- the items with one more, which has the next id, at the end of a folder
abbrev pub with_last : ℕ → ItemId → ItemRow → List ℕ → List Item → List Item
with_last next parent row title items =
    with_child parent End (item_id next) items ++ new_item (item_id next) row title ∷ []

module _ (old : Store) (next : ℕ) (good : HasGoodItems old)
    (ascending : IsStrictlyIncreasing (map (λ (i : Item). i.id.0) old.items))
    (below : All (λ (i : Item). i.id.0 < next) old.items) (late : 7 ≤ next) where
  abbrev items : List Item
  items = old.items

  up : Ascends item_key items
  up = ids_ascend items ascending

  fresh : (i : Item) → In i items → i.id.0 < next
  fresh i h =
      at_in (λ (j : Item). j.id.0 < next) items i (recursion_from_All (λ (j : Item). j.id.0 < next) items below) h

  all_below : All (λ m. m < next) (map item_key items)
  all_below = All-map (λ m. m < next) item_key items below

  known : (c : ItemId) → In c (child_ids items) → c.0 < next
  known = child_below items next good.tree fresh

  once : Once id_key (child_ids items)
  once = child_once items good.tree

  -- ---- looking up

  -- each child is an item
  pub child_list : (p : ItemId) → map (λ (i : Item). i.id) (child_items old.items p) ≡ children_of old.items p
  child_list p = made (children_of items p) child_there
    where
      child_there : (c : ItemId) → In c (children_of items p) → has_item items c ≡ true
      child_there c h =
          let r = child_of items p c h in
          child_known items good.tree c (in_child_ids items r.0 c r.1 r.3)

      made : (cs : List ItemId) → ((c : ItemId) → In c cs → has_item items c ≡ true)
          → map (λ (i : Item). i.id) (filter_map (item_at items) cs) ≡ cs
      made [] there = refl
      made (c ∷ cs) there =
          let r = in_has items c (there c (inl refl)) in
          rw (at_id items r.0 c up r.1 r.2, made cs (λ d h. there d (inr h)))
          (ap (λ (d : ItemId). d ∷ cs) r.2)

  -- and is found by its id
  pub children_own : (p : ItemId)
      → All (λ (i : Item). children_of old.items i.id ≡ i.children) (child_items old.items p)
  children_own p =
      All-from_recursion (λ (i : Item). children_of items i.id ≡ i.children) (child_items items p)
      (all_from_in (λ (i : Item). children_of items i.id ≡ i.children) (child_items items p)
      (λ i h. ap children_in (child_at items p i h).1))

  pub children_below : (p : ItemId) → All (λ (i : Item). i.id.0 < next) (child_items old.items p)
  children_below p =
      All-from_recursion (λ (i : Item). i.id.0 < next) (child_items items p)
      (all_from_in (λ (i : Item). i.id.0 < next) (child_items items p)
      (λ i h. fresh i (found_at items i.id i (child_at items p i h).1).0))

  -- the menu, the toolbar, the unfiled bookmarks and the mobile ones take items
  pub root_takes : (n : ℕ) → (n ≡ 2) ⊎ (n ≡ 3) ⊎ (n ≡ 5) ⊎ (n ≡ 6) → parent_refusal old.items (item_id n) ≡ None
  root_takes n is =
      let top : In n tops =
      elim is as (λ _. In n tops) [
        | inl e ↦ inl e
        | inr (inl e) ↦ inr (inl e)
        | inr (inr (inl e)) ↦ inr (inr (inr (inl e)))
        | inr (inr (inr e)) ↦ inr (inr (inr (inr (inl e))))
      ] in
      let r = top_folder old n good.roots top in
      not_refused items (item_id n)
      (record {
        folder = r.0;
        there = r.1;
        kind = r.2;
        not_first = λ same. grind arith;
        not_tags = λ same. grind arith;
        no_tag = ap is_tags_root (parent_of_top old n good.roots good.tree top);
      })

  -- ---- an item more at the end of a folder that takes items

  module _ (parent : ItemId) (row : ItemRow) (title : List ℕ) (free : parent_refusal old.items parent ≡ None) where
    abbrev id : ItemId
    id = item_id next

    abbrev new : Item
    new = new_item id row title

    t : Takes items parent
    t = takes items parent free

    not_tags : 4 ≢ parent.0
    not_tags same = t.not_tags (sym same)

    pub put_good : (ids : Ids) → IsTitle title → IsDate row.added → IsDate row.modified
        → (IsSome row.page ↔ (row.kind ≡ Bookmark)) → IfSome row.page (λ page. IsTrue (has_page_at old page))
        → HasGoodItems (record old { ids = ids; items = with_last next parent row title old.items })
    put_good ids named added modified bookmark page =
        inserted_good old ids id parent End row title up good t fresh late named added modified bookmark page

    pub put_ascends : IsStrictlyIncreasing (map (λ (i : Item). i.id.0) (with_last next parent row title old.items))
    put_ascends =
        subst IsStrictlyIncreasing (sym (ids_more items id parent new refl refl up fresh known))
        (ascends_push (map item_key items) next ascending all_below)

    pub put_below : All (λ (i : Item). i.id.0 < next + 1) (with_last next parent row title old.items)
    put_below =
        All-from_recursion (λ (i : Item). i.id.0 < next + 1) (with_last next parent row title items)
        (all_from_in (λ (i : Item). i.id.0 < next + 1) (with_last next parent row title items)
        (fresh_more items id parent new refl fresh))

    pub put_takes : (folder : ItemId) → parent_refusal old.items folder ≡ None
        → parent_refusal (with_last next parent row title old.items) folder ≡ None
    put_takes folder takes_too =
        let f : Takes items folder = takes items folder takes_too in
        let within : folder.0 < next = takes_below items id parent new refl refl up fresh known folder f in
        not_refused (with_last next parent row title items) folder
        (still_takes items (with_last next parent row title items) folder (grown parent End id f.folder) once
        (ascends_new items id parent new refl refl up fresh known) f
        (found_more items id parent new refl refl up fresh known folder f.folder within f.there)
        (kind_more items id parent new refl refl up fresh known f.folder ∙ f.kind)
        (λ h.
        subst (In folder)
        (ids_other items id parent new refl refl up fresh known tags_root (omega arith) not_tags) h))

    pub put_takes_new : row.kind ≡ Folder
        → parent_refusal (with_last next parent row title old.items) (item_id next) ≡ None
    put_takes_new kind =
        not_refused (with_last next parent row title items) id
        (new_takes items id parent new refl refl up fresh known (omega arith) not_tags kind)

    pub put_children : (folder : ItemId) → parent_refusal old.items folder ≡ None
        → children_of (with_last next parent row title old.items) folder
        ≡ (if folder.0 == parent.0 then children_of old.items folder ++ item_id next ∷ []
        else children_of old.items folder)
    put_children folder takes_too =
        let f : Takes items folder = takes items folder takes_too in
        let within : folder.0 < next = takes_below items id parent new refl refl up fresh known folder f in
        elim (cases_eq folder.0 parent.0)
        as (λ _. children_of (with_last next parent row title items) folder
        ≡ (if folder.0 == parent.0 then children_of items folder ++ id ∷ [] else children_of items folder)) [
          | inl same ↦
              let e : folder ≡ parent = same_item_number folder parent same in
              let here : parent.0 < next = subst (λ (c : ItemId). c.0 < next) e within in
              rw (eq-eqb folder.0 parent.0 same)
              (ap (children_of (with_last next parent row title items)) e
              ∙ ids_parent items id parent new refl refl up fresh known t.folder t.there here
              ∙ ap (λ (c : ItemId). children_of items c ++ id ∷ []) (sym e))
          | inr other ↦
              rw (ne_eqb folder.0 parent.0 other)
              (ids_other items id parent new refl refl up fresh known folder within other)
        ]

    pub put_children_new : children_of (with_last next parent row title old.items) (item_id next) ≡ []
    put_children_new = ids_new items id parent new refl refl up fresh known

    pub put_lists : tag_lists (with_last next parent row title old.items) ≡ tag_lists old.items
    put_lists =
        lists_other items id parent new refl refl up fresh known (omega arith) not_tags (λ k h same.
        both_ways (is_tag items parent) t.no_tag
        (ap (is_tag items) (sym (same_item_number k.id parent same))
        ∙ tag_is items once k.id (row_child items tags_root k h)))

  -- ---- a tag more for a page

  module _ (page : PageId) (name : List ℕ) (date : Micros) where
    pub tag_good : (ids : Ids) → IsTagName name → IsDate date → IsTrue (has_page_at old page)
        → is_some (tag_entry page name old.items) ≡ false
        → HasGoodItems (record old { ids = ids; items = tagged_items next page name date old.items })
    tag_good ids named dated has none =
        tagged_good old ids next page name date up good fresh late named dated has (tag_named name items) refl none

    pub tag_ascends : IsStrictlyIncreasing (map (λ (i : Item). i.id.0) (tagged_items next page name date old.items))
    tag_ascends =
        let first : IsStrictlyIncreasing (map item_key items ++ next ∷ []) =
        ascends_push (map item_key items) next ascending all_below in
        each_tag next page name date items (λ n is. IsStrictlyIncreasing (map item_key is))
        (λ tag is.
        subst IsStrictlyIncreasing
        (sym (known_ids old next page name date good up fresh late tag (tag_among name items tag is))) first)
        (λ is.
        subst IsStrictlyIncreasing (sym (new_ids old next page name date good up fresh late))
        (ascends_push (map item_key items ++ next ∷ []) (next + 1) first
        (All-push (λ m. m < next + 1) (map item_key items) next
        (All-weaker (λ m. m < next) (λ m. m < next + 1) (λ m lt. omega arith) (map item_key items) all_below)
        (omega arith))))

    pub tag_below : All (λ (i : Item). i.id.0 < next + new_items name old.items)
        (tagged_items next page name date old.items)
    tag_below =
        each_tag next page name date items (λ n is. All (λ (i : Item). i.id.0 < next + n) is)
        (λ tag is.
        All-from_recursion (λ (i : Item). i.id.0 < next + 1) (with_known next page date tag items)
        (all_from_in (λ (i : Item). i.id.0 < next + 1) (with_known next page date tag items)
        (known_fresh old next page name date good up fresh late tag (tag_among name items tag is))))
        (λ is.
        All-from_recursion (λ (i : Item). i.id.0 < next + 2) (with_anew next page name date items)
        (all_from_in (λ (i : Item). i.id.0 < next + 2) (with_anew next page name date items) (λ i h.
        let lt = new_fresh old next page name date good up fresh late i h in
        omega arith)))

    pub tag_takes : (folder : ItemId) → parent_refusal old.items folder ≡ None
        → parent_refusal (tagged_items next page name date old.items) folder ≡ None
    tag_takes folder free =
        let f : Takes items folder = takes items folder free in
        each_tag next page name date items (λ n is. parent_refusal is folder ≡ None)
        (λ tag is.
        not_refused (with_known next page date tag items) folder
        (known_takes old next page name date good up fresh late tag (tag_among name items tag is) folder f))
        (λ is.
        not_refused (with_anew next page name date items) folder
        (new_takes_still old next page name date good up fresh late folder f))

    pub tag_children : (folder : ItemId) → parent_refusal old.items folder ≡ None
        → children_of (tagged_items next page name date old.items) folder ≡ children_of old.items folder
    tag_children folder free =
        let f : Takes items folder = takes items folder free in
        each_tag next page name date items (λ n is. children_of is folder ≡ children_of items folder)
        (λ tag is. known_children old next page name date good up fresh late tag (tag_among name items tag is) folder f)
        (λ is. new_children old next page name date good up fresh late folder f)

    -- an entry more in its folder, where it is there
    pub lists_known : (tag : Item) → tag_named name old.items ≡ Some tag
        → tag_lists (tagged_items next page name date old.items)
        ≡ map (with_entry tag.id (item_of (item_id next) (new_entry page date))) (tag_lists old.items)
    lists_known tag is =
        each_tag next page name date items (λ n js.
        tag_lists js ≡ map (with_entry tag.id (item_of (item_id next) (new_entry page date))) (tag_lists items))
        (λ other found.
        known_lists old next page name date good up fresh late other (tag_among name items other found)
        ∙ ap (λ (k : Item). map (with_entry k.id (item_of (item_id next) (new_entry page date))) (tag_lists items))
        (same_Some other tag (sym found ∙ is)))
        (λ none. absurd (none-some tag (sym none ∙ is)))

    -- a folder more with one entry, where it is new
    pub lists_new : tag_named name old.items ≡ None
        → tag_lists (tagged_items next page name date old.items)
        ≡ tag_lists old.items
        ++ (item_of (item_id next) (new_tag name date), item_of (item_id (next + 1)) (new_entry page date) ∷ []) ∷ []
    lists_new none =
        each_tag next page name date items (λ n js.
        tag_lists js
        ≡ tag_lists items
        ++ (item_of (item_id next) (new_tag name date), item_of (item_id (next + 1)) (new_entry page date) ∷ []) ∷ [])
        (λ tag is. absurd (none-some tag (sym none ∙ is)))
        (λ is. new_lists old next page name date good up fresh late)

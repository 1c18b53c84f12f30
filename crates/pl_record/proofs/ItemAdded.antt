-- Rows with an item more stay rows of a store: the item is a child of its parent, and stands behind
-- all items of its page. Nothing else changes.
use Rattle.std.proofs.Common.{◌≡◌, ◌≢◌, ◌+◌, ◌<◌, ◌≤◌, ◌==◌, ◌||◌, ◌++◌, ◌∙◌, ℕ, All, Bool, true, false, IfSome}
use Rattle.std.proofs.Common.{List, [], ◌∷◌, Option, None, Some, ap, append-nil, arith, eq-eqb, eqb-true, filter}
use Rattle.std.proofs.Common.{find, if◌then◌else◌, map, refl, subst, sym}
use Rattle.std.specs.List.{AllPairs, list_any}
use Rattle.std.specs.Option.{IsSomeAnd, option_map}
use Rattle.std.proofs.lemmas.Bool.{false≢true, ne_eqb}
use Rattle.std.proofs.lemmas.Grind.{flat_map-append}
use Rattle.std.proofs.lemmas.List.{map_push}
use Rattle.std.proofs.lemmas.List.Elements.{All-map, All-nil, All-push, All-weaker, recursion_from_All}
use Rattle.std.proofs.lemmas.List.Folds.{Any-from_list_any}
use Rattle.pl_base.specs.declared.id.ItemId.{ItemId}
use Rattle.pl_base.specs.declared.id.PageId.{PageId}
use Rattle.pl_base.specs.declared.id.VisitId.{VisitId}
use Rattle.pl_base.specs.declared.item.ItemKind.TheVariants.{Folder}
use Rattle.pl_base.specs.declared.item.ItemRow.{ItemRow}
use Rattle.pl_base.specs.Good.{AreIds, IsTitle, child_ids, end_of_ids}
use Rattle.pl_base.specs.Live.{chunks, live_slots, slot_limit}
use Rattle.pl_base.specs.Rows.{IsWellKept, Kept, has_page, live_with_item, store_of, with_item}
use Rattle.pl_base.specs.Store.{Item, Visit, item_id}
use Rattle.pl_base.specs.Tree.{IsFolder, children_of, has_child, has_item, is_page, item_at}
use Rattle.pl_base.specs.Tree.{new_item, parent_of, references}
use Rattle.pl_base.proofs.ItemLaws.{count_inserted, ids_inserted, slots_inserted, titles_inserted}
use Rattle.pl_base.proofs.ItemLookUps.{same_item}
use Rattle.pl_base.proofs.ListLaws.{All-from_map, list_any_last, list_any_push, map-map, weaker}
use Rattle.pl_base.proofs.LookUps.{any_none, found_passes}
use Rattle.pl_base.proofs.OneParent.{any_child, is_among}
use Rattle.pl_base.proofs.Truths.{no_test}
use Rattle.pl_record.specs.Form.{AreRows}
use Rattle.pl_record.proofs.ItemPut.{adopted_is, children_all, children_grown, grown, grown_ids, is_parent, item_still}
use Rattle.pl_record.proofs.ItemPut.{once_grown, parent_new, parent_still, references_still, there_still}
use Rattle.pl_record.proofs.PageAdded.{next_pushed}
use Rattle.pl_record.proofs.VisitAdded.{joins, stays_out}

-- ---- what is found in a list with one more

module _ {X : Type 0} (test : X → Bool) where
  pub found_before : (xs : List X) (x : X) → test x ≡ false → find test (xs ++ x ∷ []) ≡ find test xs
  found_before [] x fails = rw fails refl
  found_before (y ∷ ys) x fails = choose (test y) (found_before ys x fails)
    where
      choose : (b : Bool) → find test (ys ++ x ∷ []) ≡ find test ys
          → (if b then Some y else find test (ys ++ x ∷ [])) ≡ (if b then Some y else find test ys)
      choose true rest = refl
      choose false rest = rest

  pub found_last : (xs : List X) (x : X) → list_any test xs ≡ false → test x ≡ true
      → find test (xs ++ x ∷ []) ≡ Some x
  found_last [] x none passes = rw passes refl
  found_last (y ∷ ys) x none passes = choose (test y) none (found_last ys x)
    where
      choose : (b : Bool) → (b || list_any test ys) ≡ false
          → (list_any test ys ≡ false → test x ≡ true → find test (ys ++ x ∷ []) ≡ Some x)
          → (if b then Some y else find test (ys ++ x ∷ [])) ≡ Some x
      choose true none rest = absurd (false≢true (sym none))
      choose false none rest = rest none passes

-- ---- the new id

module _ (kept : Kept) (h : IsWellKept kept) where
  -- those that are there have smaller ids
  pub item_below : (id : ItemId) → has_item kept.items id ≡ true → id.0 < kept.ids.item
  item_below id there =
      let below : All (λ (i : Item). i.id.0 < kept.ids.item) kept.items =
      All-weaker (λ (i : Item). (0 < i.id.0) × (i.id.0 < kept.ids.item)) (λ (i : Item). i.id.0 < kept.ids.item)
      (λ i given. given.1) kept.items
      (All-from_map (λ n. (0 < n) × (n < kept.ids.item)) (λ (i : Item). i.id.0) kept.items h.item_ids.given)
      in
      let at = Any-from_list_any (λ (i : Item). i.id.0 == id.0) kept.items there in
      let here : at.1.id.0 < kept.ids.item =
      subst (λ (i : Item). i.id.0 < kept.ids.item) at.3 (below at.0 at.1 at.2) in
      omega (arith, here, eqb-true at.1.id.0 id.0 at.4)

  pub not_there : has_item kept.items (item_id kept.ids.item) ≡ false
  not_there =
      no_test (has_item kept.items (item_id kept.ids.item))
      (λ there. omega (arith, item_below (item_id kept.ids.item) there))

  -- the new id is another than that of each that is there
  pub is_new : (id : ItemId) → has_item kept.items id ≡ true → (kept.ids.item == id.0) ≡ false
  is_new id there = ne_eqb kept.ids.item id.0 (λ same. omega (arith, same, item_below id there))

  -- it is no child yet
  pub no_child : All (λ (i : Item). All (λ c. has_item kept.items c ≡ true) i.children) kept.items
      → is_among (item_id kept.ids.item) (child_ids kept.items) ≡ false
  no_child children =
      sym (any_child (item_id kept.ids.item) kept.items)
      ∙ any_none (has_child (item_id kept.ids.item)) kept.items
      (weaker (λ (i : Item). All (λ c. has_item kept.items c ≡ true) i.children)
      (λ (i : Item). has_child (item_id kept.ids.item) i ≡ false) kept.items
      (λ i each.
      any_none (λ (c : ItemId). c.0 == kept.ids.item) i.children
      (weaker (λ c. has_item kept.items c ≡ true) (λ (c : ItemId). (c.0 == kept.ids.item) ≡ false) i.children
      (λ c there. ne_eqb c.0 kept.ids.item (λ same. omega (arith, same, item_below c there)))
      (recursion_from_All (λ c. has_item kept.items c ≡ true) i.children each)))
      (recursion_from_All (λ (i : Item). All (λ c. has_item kept.items c ≡ true) i.children) kept.items children))

-- the slots of the item and of its title come
pub item_live : (row : ItemRow) (title : List ℕ) (after : Option ItemId) (kept : Kept)
    → live_slots (store_of (with_item row title after kept)) ≡ live_slots (store_of kept) + 1 + chunks title
item_live row title after kept =
    omega (
      arith,
      count_inserted (item_id kept.ids.item) row title after kept.items,
      slots_inserted (item_id kept.ids.item) row title after kept.items,
    )

module _ (row : ItemRow) (title : List ℕ) (after : Option ItemId) (kept : Kept) where
  abbrev id : ItemId
  id = item_id kept.ids.item

  abbrev new : Item
  new = new_item id row title

  abbrev whole : Kept
  whole = with_item row title after kept

  -- an item of before, which may have the child
  abbrev still : Item → Item
  still = grown row.parent after id

  -- the items are those of before, of which the parent has the new one as a child, and the new one
  pub items_added : whole.items ≡ map still kept.items ++ new ∷ []
  items_added = ap (λ (is : List Item). is ++ new ∷ []) (adopted_is row.parent after id kept.items)

  pub all_added : (P : Item → Type 0) → All (λ (i : Item). P (still i)) kept.items → P new → All P whole.items
  all_added P all own =
      subst (All P) (sym items_added) (All-push P (map still kept.items) new (All-map P still kept.items all) own)

  pub item_ids_added : map (λ (i : Item). i.id) whole.items ≡ map (λ (i : Item). i.id) kept.items ++ id ∷ []
  item_ids_added =
      ap (map (λ (i : Item). i.id)) items_added ∙ map_push (λ (i : Item). i.id) (map still kept.items) new
      ∙ ap (λ (ids : List ItemId). ids ++ id ∷ []) (map-map (λ (i : Item). i.id) still kept.items)

  -- the items of a page, behind which the new one stands if it has the page
  pub references_added : (page : PageId)
      → references whole.items page
      ≡ (if is_page page row.page then references kept.items page ++ id ∷ [] else references kept.items page)
  references_added page = ap (λ (is : List Item). references is page) items_added ∙ choose (is_page page row.page) refl
    where
      choose : (b : Bool) → is_page page row.page ≡ b
          → references (map still kept.items ++ new ∷ []) page
          ≡ (if b then references kept.items page ++ id ∷ [] else references kept.items page)
      choose true has =
          ap (map (λ (i : Item). i.id)) (joins (λ (i : Item). is_page page i.page) (map still kept.items) new has)
          ∙ map_push (λ (i : Item). i.id) (filter (λ (i : Item). is_page page i.page) (map still kept.items)) new
          ∙ ap (λ (ids : List ItemId). ids ++ id ∷ []) (references_still row.parent after id kept.items page)
      choose false has =
          ap (map (λ (i : Item). i.id)) (stays_out (λ (i : Item). is_page page i.page) (map still kept.items) new has)
          ∙ references_still row.parent after id kept.items page

  -- ---- parents

  parent_pushed : (other : ItemId) → parent_of whole.items other ≡ parent_of (map still kept.items) other
  parent_pushed other =
      ap (λ (is : List Item). parent_of is other) items_added
      ∙ ap (option_map (λ (i : Item). i.id)) (found_before (has_child other) (map still kept.items) new refl)

  pub parents_still : (other : ItemId) → other.0 ≢ kept.ids.item
      → parent_of whole.items other ≡ parent_of kept.items other
  parents_still other apart =
      parent_pushed other
      ∙ parent_still row.parent after id kept.items other
      (ne_eqb kept.ids.item other.0 (λ same. apart (sym same)))

  pub parent_of_old : IsWellKept kept → (other : ItemId) → has_item kept.items other ≡ true
      → parent_of whole.items other ≡ parent_of kept.items other
  parent_of_old h other there =
      parent_pushed other ∙ parent_still row.parent after id kept.items other (is_new kept h other there)

  pub each_parent_still : IsWellKept kept
      → All (λ (i : Item). parent_of whole.items i.id ≡ parent_of kept.items i.id) kept.items
  each_parent_still h =
      All-weaker (λ (i : Item). (0 < i.id.0) × (i.id.0 < kept.ids.item))
      (λ (i : Item). parent_of whole.items i.id ≡ parent_of kept.items i.id)
      (λ i given. parents_still i.id (λ same. omega (arith, same, given.1))) kept.items
      (All-from_map (λ n. (0 < n) × (n < kept.ids.item)) (λ (i : Item). i.id.0) kept.items h.item_ids.given)

  -- ---- what is there

  pub there_added : (other : ItemId) → has_item kept.items other ≡ true → has_item whole.items other ≡ true
  there_added other there =
      ap (λ (is : List Item). has_item is other) items_added
      ∙ list_any_push (λ (i : Item). i.id.0 == other.0) (map still kept.items) new
      (there_still row.parent after id kept.items other ∙ there)

  pub new_there : has_item whole.items id ≡ true
  new_there =
      ap (λ (is : List Item). has_item is id) items_added
      ∙ list_any_last (λ (i : Item). i.id.0 == kept.ids.item) (map still kept.items) new
      (eq-eqb kept.ids.item kept.ids.item refl)

  pub item_added_still : (other : ItemId) → other.0 ≢ kept.ids.item
      → item_at whole.items other ≡ option_map still (item_at kept.items other)
  item_added_still other apart =
      ap (λ (is : List Item). item_at is other) items_added
      ∙ found_before (λ (i : Item). i.id.0 == other.0) (map still kept.items) new
      (ne_eqb kept.ids.item other.0 (λ same. apart (sym same)))
      ∙ item_still row.parent after id kept.items other

  module _ (h : IsWellKept kept) where
    pub new_item_at : item_at whole.items id ≡ Some new
    new_item_at =
        ap (λ (is : List Item). item_at is id) items_added
        ∙ found_last (λ (i : Item). i.id.0 == kept.ids.item) (map still kept.items) new
        (there_still row.parent after id kept.items id ∙ not_there kept h)
        (eq-eqb kept.ids.item kept.ids.item refl)

    -- the children of an item, with the new one where it is the parent
    pub children_added : (other : ItemId) → has_item kept.items other ≡ true
        → children_of whole.items other ≡ grown_ids row.parent after id other (children_of kept.items other)
    children_added other there =
        ap (λ (is : List Item). children_of is other) items_added
        ∙ pushed (found_before (λ (i : Item). i.id.0 == other.0) (map still kept.items) new (is_new kept h other there))
        ∙ children_grown row.parent after id kept.items other there
      where
        pushed : item_at (map still kept.items ++ new ∷ []) other ≡ item_at (map still kept.items) other
            → children_of (map still kept.items ++ new ∷ []) other ≡ children_of (map still kept.items) other
        pushed same = rw same refl

    pub no_children_added : children_of whole.items id ≡ []
    no_children_added = rw new_item_at refl

    module _ (children : All (λ (i : Item). All (λ c. has_item kept.items c ≡ true) i.children) kept.items) where
      pub parent_added : IsSomeAnd row.parent (IsFolder kept.items) → parent_of whole.items id ≡ row.parent
      parent_added folder =
          parent_pushed id ∙ parent_new row.parent after id kept.items (no_child kept h children)
          ∙ choose row.parent folder
        where
          found : (parent : ItemId) (o : Option Item) → item_at kept.items parent ≡ o
              → IsSomeAnd o (λ (i : Item). i.kind ≡ Folder)
              → option_map (λ (i : Item). i.id) (item_at kept.items parent) ≡ Some parent
          found parent None here folder = absurd folder
          found parent (Some i) here folder =
              ap (option_map (λ (i : Item). i.id)) here
              ∙ ap (λ (c : ItemId). Some c)
              (same_item i.id parent (found_passes (λ (j : Item). j.id.0 == parent.0) kept.items i here))

          choose : (o : Option ItemId) → IsSomeAnd o (IsFolder kept.items)
              → option_map (λ (i : Item). i.id) (find (λ (i : Item). is_parent o i.id) kept.items) ≡ o
          choose None folder = absurd folder
          choose (Some parent) folder = found parent (item_at kept.items parent) refl folder

  -- ---- the rows

  well_added : IsTitle title → kept.ids.item < end_of_ids → live_with_item row title after kept ≤ slot_limit
      → IsWellKept kept → IsWellKept whole
  well_added own room fits h =
      record {
        day = h.day;
        page_ids = h.page_ids;
        visit_ids = h.visit_ids;
        item_ids =
            subst (AreIds 7 (kept.ids.item + 1)) (sym (ids_inserted id row title after kept.items))
            (next_pushed 7 kept.ids.item (map (λ (i : Item). i.id.0) kept.items) (omega arith) room h.item_ids);
        urls = h.urls;
        distinct_urls = h.distinct_urls;
        titles = h.titles;
        visits = h.visits;
        sources = h.sources;
        origins =
            record {
              distinct = h.origins.distinct;
              some = h.origins.some;
              known = h.origins.known;
              used = h.origins.used;
              same = h.origins.same;
            };
        live = fits;
      }

  child_ids_added : child_ids whole.items ≡ child_ids (map still kept.items)
  child_ids_added =
      ap child_ids items_added
      ∙ flat_map-append (λ (i : Item). i.children) (map still kept.items) (new ∷ [])
      ∙ append-nil (child_ids (map still kept.items))

  pub item_added : (targets : VisitId → List Visit) → AreRows kept targets
      → IfSome row.page (λ page. has_page kept page ≡ true) → IsTitle title → kept.ids.item < end_of_ids
      → live_with_item row title after kept ≤ slot_limit → AreRows whole targets
  item_added targets h page own room fits =
      record {
        well = well_added own room fits h.well;
        targeted =
            λ source.
            let t = h.targeted source in
            record {
              redirects = t.redirects;
              others = t.others;
              is = t.is;
              all_redirects = t.all_redirects;
              all_others = t.all_others;
            };
        titles = titles_inserted IsTitle id row title after kept.items own h.titles;
        own = all_added (λ (i : Item). IfSome i.page (λ page. has_page kept page ≡ true)) h.own page;
        children =
            subst (All (λ (i : Item). All (λ c. has_item whole.items c ≡ true) i.children)) (sym items_added)
            (All-push (λ (i : Item). All (λ c. has_item whole.items c ≡ true) i.children) (map still kept.items) new
            (children_all row.parent after id (λ c. has_item whole.items c ≡ true) kept.items new_there
            (All-weaker (λ (i : Item). All (λ c. has_item kept.items c ≡ true) i.children)
            (λ (i : Item). All (λ c. has_item whole.items c ≡ true) i.children)
            (λ i each.
            All-weaker (λ c. has_item kept.items c ≡ true) (λ c. has_item whole.items c ≡ true) there_added i.children
            each) kept.items h.children))
            (All-nil (λ c. has_item whole.items c ≡ true)));
        once =
            subst (AllPairs (λ (a b : ItemId). a ≢ b)) (sym child_ids_added)
            (once_grown row.parent after id kept.items h.well.item_ids.ascending (no_child kept h.well h.children)
            h.once);
      }

-- Rows without an item that has no children stay rows of a store: it is no child, and none of the
-- items of its page. Nothing else changes.
use Rattle.std.proofs.Common.{◌≡◌, ◌≢◌, ◌+◌, ◌<◌, ◌==◌, ◌++◌, ◌∙◌, ℕ, All, Bool, true, false, IfSome}
use Rattle.std.proofs.Common.{List, [], ◌∷◌, Option, None, Some, ap, arith, eq-eqb, eqb-true, filter, find}
use Rattle.std.proofs.Common.{if◌then◌else◌, map, not, refl, subst, sym}
use Rattle.std.specs.List.{AllByRecursion, AllPairs}
use Rattle.std.specs.Option.{option_map}
use Rattle.std.proofs.lemmas.Bool.{false≢true, ne_eqb}
use Rattle.std.proofs.lemmas.List.Elements.{All-filter, All-from_recursion, All-map, All-weaker, recursion_from_All}
use Rattle.std.proofs.lemmas.List.Kept.{IsStrictlyIncreasing-filter}
use Rattle.std.proofs.lemmas.Map.Views.{any-filter_same}
use Rattle.pl_base.specs.declared.id.ItemId.{ItemId}
use Rattle.pl_base.specs.declared.id.PageId.{PageId}
use Rattle.pl_base.specs.declared.id.VisitId.{VisitId}
use Rattle.pl_base.specs.Good.{AreIds, IsTitle, child_ids}
use Rattle.pl_base.specs.Live.{chunks, live_slots}
use Rattle.pl_base.specs.Rows.{IsWellKept, Kept, has_page, store_of, with_items}
use Rattle.pl_base.specs.Store.{Item, Visit}
use Rattle.pl_base.specs.Tree.{children_of, has_child, has_item, is_page, item_at, leaving, parent_of, references}
use Rattle.pl_base.specs.Tree.{removed, without_id}
use Rattle.pl_base.proofs.ItemLaws.{count_removed, ids_removed, slots_removed, titles_removed}
use Rattle.pl_base.proofs.ListLaws.{everyone, filter-map, map-map, weaker}
use Rattle.pl_base.proofs.LookUps.{apart_increasing, found_one, where_passes}
use Rattle.pl_base.proofs.OneParent.{is_among}
use Rattle.pl_record.specs.Form.{AreRows}
use Rattle.pl_record.proofs.NamedSlots.{found_of}
use Rattle.pl_record.proofs.ItemLeft.{children_left, item_left, once_left, others_all, parent_left, references_left}
use Rattle.pl_record.proofs.ItemLeft.{there_left}
use Rattle.pl_record.proofs.VisitGone.{part_of_part}
use Rattle.pl_base.proofs.Truths.{not_false}

-- ---- what is found in a part of a list

-- what goes is not what is looked for
find_kept : {X : Type 0} (p keep : X → Bool) (xs : List X) → AllByRecursion (λ x. keep x ≡ false → p x ≡ false) xs
    → find p (filter keep xs) ≡ find p xs
find_kept p keep [] goes = refl
find_kept {X} p keep (x ∷ xs) goes = choose (keep x) refl (find_kept p keep xs goes.1)
  where
    choose : (b : Bool) → keep x ≡ b → find p (filter keep xs) ≡ find p xs
        → find p (if b then x ∷ filter keep xs else filter keep xs) ≡ find p (x ∷ xs)
    choose true stays rest = ap (λ (o : Option X). if p x then Some x else o) rest
    choose false falls rest = rest ∙ sym (ap (λ (b : Bool). if b then Some x else find p xs) (goes.0 falls))

module _ (id : ItemId) where
  -- another item
  abbrev pub is_rest : Item → Bool
  is_rest i = not (i.id.0 == id.0)

  -- ---- items of which the one has no children

  -- the one has no children
  abbrev pub IsLeaf : List Item → Type 0
  IsLeaf items = AllByRecursion (λ (i : Item). is_rest i ≡ false → i.children ≡ []) items

  child_ids_rest : (items : List Item) → IsLeaf items → child_ids (filter is_rest items) ≡ child_ids items
  child_ids_rest [] leaf = refl
  child_ids_rest (i ∷ items) leaf = choose (is_rest i) refl (child_ids_rest items leaf.1)
    where
      choose : (b : Bool) → is_rest i ≡ b → child_ids (filter is_rest items) ≡ child_ids items
          → child_ids (if b then i ∷ filter is_rest items else filter is_rest items) ≡ child_ids (i ∷ items)
      choose true stays rest = ap (λ (cs : List ItemId). i.children ++ cs) rest
      choose false goes rest = rest ∙ sym (ap (λ (cs : List ItemId). cs ++ child_ids items) (leaf.0 goes))

  parent_rest : (items : List Item) (other : ItemId) → IsLeaf items
      → parent_of (filter is_rest items) other ≡ parent_of items other
  parent_rest items other leaf =
      ap (option_map (λ (i : Item). i.id))
      (find_kept (has_child other) is_rest items
      (weaker (λ (i : Item). is_rest i ≡ false → i.children ≡ [])
      (λ (i : Item). is_rest i ≡ false → has_child other i ≡ false) items
      (λ i alone goes. ap (is_among other) (alone goes)) leaf))

  item_rest : (items : List Item) (other : ItemId) → other.0 ≢ id.0
      → item_at (filter is_rest items) other ≡ item_at items other
  item_rest items other apart =
      find_kept (λ (i : Item). i.id.0 == other.0) is_rest items
      (everyone (λ (i : Item). is_rest i ≡ false → (i.id.0 == other.0) ≡ false) items
      (λ i goes.
      ne_eqb i.id.0 other.0
      (λ same. apart (sym same ∙ eqb-true i.id.0 id.0 (not_false (i.id.0 == id.0) goes)))))

  there_rest : (items : List Item) (other : ItemId) → other.0 ≢ id.0
      → has_item (filter is_rest items) other ≡ has_item items other
  there_rest items other apart =
      any-filter_same (λ (i : Item). i.id.0 == other.0) is_rest true
      (λ i same. ap not (ne_eqb i.id.0 id.0 (λ is. apart (sym (eqb-true i.id.0 other.0 same) ∙ is)))) items

  none_rest : (items : List Item) → item_at (filter is_rest items) id ≡ None
  none_rest [] = refl
  none_rest (i ∷ items) = choose (i.id.0 == id.0) refl (none_rest items)
    where
      choose : (b : Bool) → (i.id.0 == id.0) ≡ b → item_at (filter is_rest items) id ≡ None
          → item_at (if not b then i ∷ filter is_rest items else filter is_rest items) id ≡ None
      choose true is rest = rest
      choose false is rest = rw is rest

-- ---- without the item

module _ (id : ItemId) (items : List Item) where
  -- what holds of each other item without the child
  pub all_gone : (P : Item → Type 0) → All (λ (i : Item). i.id.0 ≢ id.0 → P (leaving id i)) items
      → All P (removed id items)
  all_gone P all =
      All-map P (leaving id) (filter (is_rest id) items)
      (All-from_recursion (λ (i : Item). P (leaving id i)) (filter (is_rest id) items)
      (where_passes (λ (i : Item). P (leaving id i)) (is_rest id) items
      (weaker (λ (i : Item). i.id.0 ≢ id.0 → P (leaving id i)) (λ (i : Item). is_rest id i ≡ true → P (leaving id i))
      items (λ i holds stays. holds (λ same. differ (i.id.0 == id.0) (eq-eqb i.id.0 id.0 same) stays))
      (recursion_from_All (λ (i : Item). i.id.0 ≢ id.0 → P (leaving id i)) items all))))
    where
      differ : (b : Bool) → b ≡ true → not b ≡ true → ⊥
      differ true is stays = false≢true stays
      differ false is stays = false≢true is

  pub item_ids_gone : map (λ (i : Item). i.id) (removed id items) ≡ without_id id (map (λ (i : Item). i.id) items)
  item_ids_gone =
      map-map (λ (i : Item). i.id) (leaving id) (filter (is_rest id) items)
      ∙ sym (filter-map (λ (c : ItemId). not (c.0 == id.0)) (λ (i : Item). i.id) items)

  -- the items of a page but for the one
  pub references_gone : (page : PageId) → references (removed id items) page ≡ without_id id (references items page)
  references_gone page =
      let of : Item → Bool = λ (i : Item). is_page page i.page in
      references_left id (filter (is_rest id) items) page
      ∙ ap (map (λ (i : Item). i.id)) (part_of_part of (is_rest id) items)
      ∙ sym (filter-map (λ (c : ItemId). not (c.0 == id.0)) (λ (i : Item). i.id) (filter of items))

  -- ---- what is there

  pub there_gone : (other : ItemId) → other.0 ≢ id.0 → has_item (removed id items) other ≡ has_item items other
  there_gone other apart = there_left id (filter (is_rest id) items) other ∙ there_rest id items other apart

  pub item_gone_still : (other : ItemId) → other.0 ≢ id.0
      → item_at (removed id items) other ≡ option_map (leaving id) (item_at items other)
  item_gone_still other apart =
      item_left id (filter (is_rest id) items) other
      ∙ ap (option_map (leaving id)) (item_rest id items other apart)

  pub not_gone : item_at (removed id items) id ≡ None
  not_gone =
      item_left id (filter (is_rest id) items) id ∙ ap (option_map (leaving id)) (none_rest id items)

  -- the children of another item but for the one
  pub children_gone : (other : ItemId) → other.0 ≢ id.0
      → children_of (removed id items) other ≡ without_id id (children_of items other)
  children_gone other apart =
      children_left id (filter (is_rest id) items) other
      ∙ ap (without_id id) (same_children (item_rest id items other apart))
    where
      same_children : item_at (filter (is_rest id) items) other ≡ item_at items other
          → children_of (filter (is_rest id) items) other ≡ children_of items other
      same_children same = rw same refl

  -- the parents of others are those of before, where the one has no children
  pub parents_gone : IsLeaf id items → (other : ItemId) → other.0 ≢ id.0
      → parent_of (removed id items) other ≡ parent_of items other
  parents_gone leaf other apart =
      parent_left id (filter (is_rest id) items) other (ne_eqb other.0 id.0 apart) ∙ parent_rest id items other leaf

  pub once_gone : IsLeaf id items → AllPairs (λ (a b : ItemId). a ≢ b) (child_ids items)
      → AllPairs (λ (a b : ItemId). a ≢ b) (child_ids (removed id items))
  once_gone leaf pairs =
      once_left id (filter (is_rest id) items)
      (subst (AllPairs (λ (a b : ItemId). a ≢ b)) (sym (child_ids_rest id items leaf)) pairs)

-- ---- the rows

module _ (id : ItemId) (kept : Kept) where
  abbrev whole : Kept
  whole = with_items (removed id kept.items) kept

  pub leaf : IsWellKept kept → has_item kept.items id ≡ true → children_of kept.items id ≡ [] → IsLeaf id kept.items
  leaf h there none =
      let found = found_of (λ (i : Item). i.id.0 == id.0) kept.items there in
      let i : Item = found.0 in
      let here : item_at kept.items id ≡ Some i = found.1 in
      let alone : i.children ≡ [] = rw here at none in
      weaker (λ (j : Item). (j.id.0 == id.0) ≡ true → j ≡ i) (λ (j : Item). is_rest id j ≡ false → j.children ≡ [])
      kept.items (λ j same goes. ap (λ (k : Item). k.children) (same (not_false (j.id.0 == id.0) goes)) ∙ alone)
      (found_one (λ (j : Item). j.id.0) id.0 kept.items i
      (apart_increasing (λ (j : Item). j.id.0) kept.items h.item_ids.ascending) here)

  -- the slots of the item and of its title go
  pub item_gone_live : (i : Item) → IsWellKept kept → item_at kept.items id ≡ Some i
      → live_slots (store_of whole) + 1 + chunks i.title ≡ live_slots (store_of kept)
  item_gone_live i h here =
      omega (
        arith,
        count_removed id kept.items i h.item_ids.ascending here,
        slots_removed id kept.items i h.item_ids.ascending here,
      )

  well_left : IsWellKept kept → has_item kept.items id ≡ true → IsWellKept whole
  well_left h there =
      let found = found_of (λ (i : Item). i.id.0 == id.0) kept.items there in
      let ids : List ℕ = map (λ (i : Item). i.id.0) kept.items in
      let other : ℕ → Bool = λ n. not (n == id.0) in
      record {
        day = h.day;
        page_ids = h.page_ids;
        visit_ids = h.visit_ids;
        item_ids =
            subst (AreIds 7 kept.ids.item) (sym (ids_removed id kept.items))
            (record {
              ascending = IsStrictlyIncreasing-filter other ids h.item_ids.ascending;
              given = All-filter other (λ n. (0 < n) × (n < kept.ids.item)) ids h.item_ids.given;
              next_first = h.item_ids.next_first;
              next_last = h.item_ids.next_last;
            });
        urls = h.urls;
        distinct_urls = h.distinct_urls;
        titles = h.titles;
        visits = h.visits;
        sources = h.sources;
        origins =
            record {
              distinct = h.origins.distinct;
              some = h.origins.some;
              known = h.origins.known;
              used = h.origins.used;
              same = h.origins.same;
            };
        live = omega (arith, h.live, item_gone_live found.0 h found.1);
      }

  -- each child that is left is there
  children_there : All (λ (i : Item). All (λ c. has_item kept.items c ≡ true) i.children) kept.items
      → All (λ (i : Item). All (λ c. has_item whole.items c ≡ true) i.children) whole.items
  children_there all =
      others_all id (λ c. has_item whole.items c ≡ true) (filter (is_rest id) kept.items)
      (All-filter (is_rest id)
      (λ (i : Item). All (λ (c : ItemId). not (c.0 == id.0) ≡ true → has_item whole.items c ≡ true) i.children)
      kept.items
      (All-weaker (λ (i : Item). All (λ c. has_item kept.items c ≡ true) i.children)
      (λ (i : Item). All (λ (c : ItemId). not (c.0 == id.0) ≡ true → has_item whole.items c ≡ true) i.children)
      (λ i each.
      All-weaker (λ c. has_item kept.items c ≡ true)
      (λ (c : ItemId). not (c.0 == id.0) ≡ true → has_item whole.items c ≡ true)
      (λ c there stays. there_gone id kept.items c (apart c stays) ∙ there) i.children each)
      kept.items all))
    where
      apart : (c : ItemId) → not (c.0 == id.0) ≡ true → c.0 ≢ id.0
      apart c stays same = false≢true (sym (ap not (eq-eqb c.0 id.0 same)) ∙ stays)

  pub item_gone : (targets : VisitId → List Visit) → AreRows kept targets → has_item kept.items id ≡ true
      → children_of kept.items id ≡ [] → AreRows whole targets
  item_gone targets h there none =
      record {
        well = well_left h.well there;
        targeted =
            λ source.
            let t = h.targeted source in
            record {
              redirects = t.redirects;
              others = t.others;
              is = t.is;
              all_redirects = t.all_redirects;
              all_others = t.all_others;
            };
        titles = titles_removed IsTitle id kept.items h.titles;
        own =
            all_gone id kept.items (λ (i : Item). IfSome i.page (λ page. has_page kept page ≡ true))
            (All-weaker (λ (i : Item). IfSome i.page (λ page. has_page kept page ≡ true))
            (λ (i : Item). i.id.0 ≢ id.0 → IfSome i.page (λ page. has_page kept page ≡ true))
            (λ i own apart. own) kept.items h.own);
        children = children_there h.children;
        once = once_gone id kept.items (leaf h.well there none) h.once;
      }

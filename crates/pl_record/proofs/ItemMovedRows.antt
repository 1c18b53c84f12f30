-- Rows where an item is a child of another one than before stay rows of a store: it leaves its
-- parent, and stands among the children of the other. Nothing else changes.
use Rattle.std.proofs.Common.{◌≡◌, ◌≢◌, ◌==◌, ◌∙◌, All, Bool, true, IfSome, List, Option, None, Some, ap, arith}
use Rattle.std.proofs.Common.{find, if◌then◌else◌, map, not, refl, subst, sym}
use Rattle.std.specs.List.{AllPairs}
use Rattle.std.specs.List.Sorted.{IsStrictlyIncreasing}
use Rattle.std.specs.Option.{IsSomeAnd, option_map}
use Rattle.std.proofs.lemmas.Bool.{eq-eqb, ne_eqb}
use Rattle.std.proofs.lemmas.List.Elements.{All-map, All-weaker}
use Rattle.pl_base.specs.declared.id.ItemId.{ItemId}
use Rattle.pl_base.specs.declared.id.PageId.{PageId}
use Rattle.pl_base.specs.declared.id.VisitId.{VisitId}
use Rattle.pl_base.specs.declared.item.ItemKind.TheVariants.{Folder}
use Rattle.pl_base.specs.Good.{AreIds, IsTitle, child_ids}
use Rattle.pl_base.specs.Live.{live_slots}
use Rattle.pl_base.specs.Rows.{IsWellKept, Kept, has_page, store_of, with_items}
use Rattle.pl_base.specs.Store.{Item, Visit}
use Rattle.pl_base.specs.Tree.{IsFolder, children_of, has_child, has_item, item_at, leaving, moved, parent_of}
use Rattle.pl_base.specs.Tree.{put_behind, references, without_id}
use Rattle.pl_base.proofs.ItemLaws.{count_moved, ids_moved, slots_moved, titles_moved}
use Rattle.pl_base.proofs.ItemLookUps.{same_item, same_item_number}
use Rattle.pl_base.proofs.ListLaws.{map-map}
use Rattle.pl_base.proofs.LookUps.{found_holds, found_passes, found_some}
use Rattle.pl_base.proofs.OneParent.{is_among}
use Rattle.pl_base.proofs.ReferencesRun.{items_found}
use Rattle.pl_record.specs.Form.{AreRows}
use Rattle.pl_record.proofs.NamedSlots.{found_of}
use Rattle.pl_record.proofs.ItemLeft.{among_left, children_left, item_left, once_left, orphaned, others_all}
use Rattle.pl_record.proofs.ItemLeft.{parent_left, references_left, there_left}
use Rattle.pl_record.proofs.ItemPut.{adopted_is, children_all, children_grown, grown, grown_ids, item_still, once_grown}
use Rattle.pl_record.proofs.ItemPut.{parent_new, parent_still, references_still, there_still}

module _ (id parent : ItemId) (after : Option ItemId) (kept : Kept) where
  abbrev pub whole : Kept
  whole = with_items (moved id parent after kept.items) kept

  -- the items without the child
  abbrev left : List Item
  left = map (leaving id) kept.items

  -- an item, which leaves the one out, and has it behind the other where it is the parent
  abbrev pub placed : Item → Item
  placed i = grown (Some parent) after id (leaving id i)

  moved_is : whole.items ≡ map (grown (Some parent) after id) left
  moved_is = adopted_is (Some parent) after id left

  pub items_moved : whole.items ≡ map placed kept.items
  items_moved = moved_is ∙ map-map (grown (Some parent) after id) (leaving id) kept.items

  -- what holds of each item as it is placed
  pub all_moved : (P : Item → Type 0) → All (λ (i : Item). P (placed i)) kept.items → All P whole.items
  all_moved P all = subst (All P) (sym items_moved) (All-map P placed kept.items all)

  -- ---- what is told of items

  pub item_ids_moved : map (λ (i : Item). i.id) whole.items ≡ map (λ (i : Item). i.id) kept.items
  item_ids_moved = ap (map (λ (i : Item). i.id)) items_moved ∙ map-map (λ (i : Item). i.id) placed kept.items

  pub titles_same : map (λ (i : Item). i.title) whole.items ≡ map (λ (i : Item). i.title) kept.items
  titles_same = ap (map (λ (i : Item). i.title)) items_moved ∙ map-map (λ (i : Item). i.title) placed kept.items

  pub there_moved : (other : ItemId) → has_item whole.items other ≡ has_item kept.items other
  there_moved other =
      ap (λ (is : List Item). has_item is other) moved_is ∙ there_still (Some parent) after id left other
      ∙ there_left id kept.items other

  pub item_moved_at : (other : ItemId) → item_at whole.items other ≡ option_map placed (item_at kept.items other)
  item_moved_at other =
      ap (λ (is : List Item). item_at is other) moved_is ∙ item_still (Some parent) after id left other
      ∙ ap (option_map (grown (Some parent) after id)) (item_left id kept.items other)
      ∙ twice (item_at kept.items other)
    where
      twice : (o : Option Item)
          → option_map (grown (Some parent) after id) (option_map (leaving id) o) ≡ option_map placed o
      twice None = refl
      twice (Some i) = refl

  pub references_moved : (page : PageId) → references whole.items page ≡ references kept.items page
  references_moved page =
      ap (λ (is : List Item). references is page) moved_is ∙ references_still (Some parent) after id left page
      ∙ references_left id kept.items page

  -- ---- parents

  -- those of others are as before
  pub parents_moved : (other : ItemId) → other.0 ≢ id.0 → parent_of whole.items other ≡ parent_of kept.items other
  parents_moved other apart =
      ap (λ (is : List Item). parent_of is other) moved_is
      ∙ parent_still (Some parent) after id left other (ne_eqb id.0 other.0 (λ same. apart (sym same)))
      ∙ parent_left id kept.items other (ne_eqb other.0 id.0 apart)

  pub folder_there : IsFolder kept.items parent → has_item kept.items parent ≡ true
  folder_there folder = choose (item_at kept.items parent) refl folder
    where
      choose : (o : Option Item) → item_at kept.items parent ≡ o → IsSomeAnd o (λ (i : Item). i.kind ≡ Folder)
          → has_item kept.items parent ≡ true
      choose None is some = absurd some
      choose (Some p) is some = found_some (λ (i : Item). i.id.0 == parent.0) kept.items p is

  -- the item has the other as its parent
  pub parent_moved : IsFolder kept.items parent → parent_of whole.items id ≡ Some parent
  parent_moved folder =
      let found = found_of (λ (i : Item). i.id.0 == parent.0) kept.items (folder_there folder) in
      let p : Item = found.0 in
      let here : item_at kept.items parent ≡ Some p = found.1 in
      let same : p.id ≡ parent =
      same_item p.id parent (found_passes (λ (i : Item). i.id.0 == parent.0) kept.items p here) in
      ap (λ (is : List Item). parent_of is id) moved_is
      ∙ parent_new (Some parent) after id left (orphaned id kept.items)
      ∙ ap (option_map (λ (i : Item). i.id))
      (item_left id kept.items parent ∙ ap (option_map (leaving id)) here)
      ∙ ap (λ (c : ItemId). Some c) same

  -- ---- children

  children_of_each : (other : ItemId) → has_item kept.items other ≡ true
      → children_of whole.items other
      ≡ grown_ids (Some parent) after id other (without_id id (children_of kept.items other))
  children_of_each other there =
      ap (λ (is : List Item). children_of is other) moved_is
      ∙ children_grown (Some parent) after id left other (there_left id kept.items other ∙ there)
      ∙ ap (grown_ids (Some parent) after id other) (children_left id kept.items other)

  -- the parent has the item behind the other one
  pub children_moved : IsFolder kept.items parent
      → children_of whole.items parent ≡ put_behind after id (without_id id (children_of kept.items parent))
  children_moved folder =
      let ids : List ItemId = without_id id (children_of kept.items parent) in
      children_of_each parent (folder_there folder)
      ∙ ap (λ (b : Bool). if b then put_behind after id ids else ids) (eq-eqb parent.0 parent.0 refl)

  -- another item has not
  pub children_beside : (other : ItemId) → has_item kept.items other ≡ true → other.0 ≢ parent.0
      → children_of whole.items other ≡ without_id id (children_of kept.items other)
  children_beside other there apart =
      let ids : List ItemId = without_id id (children_of kept.items other) in
      children_of_each other there
      ∙ ap (λ (b : Bool). if b then put_behind after id ids else ids) (ne_eqb other.0 parent.0 apart)

  -- the one that it stands behind is left among those of the parent
  pub after_left : IsWellKept kept → (other : ItemId) → other ≢ id → parent_of kept.items other ≡ Some parent
      → is_among other (without_id id (children_of kept.items parent)) ≡ true
  after_left well other apart is = choose (find (has_child other) kept.items) refl is
    where
      choose : (o : Option Item) → find (has_child other) kept.items ≡ o
          → option_map (λ (i : Item). i.id) o ≡ Some parent
          → is_among other (without_id id (children_of kept.items parent)) ≡ true
      choose None found same = absurd (cc)
      choose (Some p) found same =
          let own : p.id ≡ parent = cc in
          let here : item_at kept.items parent ≡ Some p =
          ap (item_at kept.items) (sym own)
          ∙ found_holds (λ (i : Item). item_at kept.items i.id ≡ Some i) (has_child other) kept.items p
          (items_found kept well) found in
          rw here (among_left id other p.children
          (ne_eqb other.0 id.0 (λ equal. apart (same_item_number other id equal)))
          ∙ found_passes (has_child other) kept.items p found)

  -- ---- the rows

  -- as many slots are live
  pub live_moved : live_slots (store_of whole) ≡ live_slots (store_of kept)
  live_moved = omega (arith, count_moved id parent after kept.items, slots_moved id parent after kept.items)

  well_moved : IsWellKept kept → IsWellKept whole
  well_moved h =
      record {
        day = h.day;
        page_ids = h.page_ids;
        visit_ids = h.visit_ids;
        item_ids = subst (AreIds 7 kept.ids.item) (sym (ids_moved id parent after kept.items)) h.item_ids;
        urls = h.urls;
        distinct_urls = h.distinct_urls;
        titles = h.titles;
        visits = h.visits;
        sources = h.sources;
        origins =
            record {
              distinct = h.origins.distinct;
              some = h.origins.some;
              known = h.origins.known;
              used = h.origins.used;
              same = h.origins.same;
            };
        live = omega (arith, h.live, live_moved);
      }

  once_moved : IsWellKept kept → AllPairs (λ (a b : ItemId). a ≢ b) (child_ids kept.items)
      → AllPairs (λ (a b : ItemId). a ≢ b) (child_ids whole.items)
  once_moved h pairs =
      subst (λ (is : List Item). AllPairs (λ (a b : ItemId). a ≢ b) (child_ids is)) (sym moved_is)
      (once_grown (Some parent) after id left
      (subst IsStrictlyIncreasing (sym (map-map (λ (i : Item). i.id.0) (leaving id) kept.items)) h.item_ids.ascending)
      (orphaned id kept.items) (once_left id kept.items pairs))

  -- each child is there
  children_there : has_item kept.items id ≡ true
      → All (λ (i : Item). All (λ c. has_item kept.items c ≡ true) i.children) kept.items
      → All (λ (i : Item). All (λ c. has_item whole.items c ≡ true) i.children) whole.items
  children_there there all =
      subst (All (λ (i : Item). All (λ c. has_item whole.items c ≡ true) i.children)) (sym moved_is)
      (children_all (Some parent) after id (λ c. has_item whole.items c ≡ true) left (there_moved id ∙ there)
      (others_all id (λ c. has_item whole.items c ≡ true) kept.items
      (All-weaker (λ (i : Item). All (λ c. has_item kept.items c ≡ true) i.children)
      (λ (i : Item). All (λ (c : ItemId). not (c.0 == id.0) ≡ true → has_item whole.items c ≡ true) i.children)
      (λ i each.
      All-weaker (λ c. has_item kept.items c ≡ true)
      (λ (c : ItemId). not (c.0 == id.0) ≡ true → has_item whole.items c ≡ true)
      (λ c here stays. there_moved c ∙ here) i.children each)
      kept.items all)))

  pub item_moved : (targets : VisitId → List Visit) → AreRows kept targets → has_item kept.items id ≡ true
      → AreRows whole targets
  item_moved targets h there =
      record {
        well = well_moved h.well;
        targeted =
            λ source.
            let t = h.targeted source in
            record {
              redirects = t.redirects;
              others = t.others;
              is = t.is;
              all_redirects = t.all_redirects;
              all_others = t.all_others;
            };
        titles = titles_moved IsTitle id parent after kept.items h.titles;
        own = all_moved (λ (i : Item). IfSome i.page (λ page. has_page kept page ≡ true)) h.own;
        children = children_there there h.children;
        once = once_moved h.well h.once;
      }

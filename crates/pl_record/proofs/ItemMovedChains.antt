-- The chains of a store's slots where an item becomes a child of another: its slot leaves the
-- children of the parent that it had, and stands among those of the other.
use Rattle.std.proofs.Common.{◌≡◌, ◌∙◌, ◌∷◌, ◌==◌, ◌&&◌, [], All, Bool, IfSome, List, None, Option, Some, ap}
use Rattle.std.proofs.Common.{eq-eqb, eqb-true, false, find, if◌then◌else◌, ne_eqb, not, refl, subst, sym}
use Rattle.std.proofs.Common.{true}
use Rattle.std.specs.List.{AllByRecursion, slice_index_or}
use Rattle.std.specs.Option.{option_map}
use Rattle.std.proofs.lemmas.Bool.{true≢false}
use Rattle.std.proofs.lemmas.List.Elements.{All-from_recursion, recursion_from_All}
use Rattle.pl_base.specs.declared.id.ItemId.{ItemId}
use Rattle.pl_base.specs.declared.id.Slot.{Slot}
use Rattle.pl_base.specs.declared.id.VisitId.{VisitId}
use Rattle.pl_base.specs.Good.{child_ids}
use Rattle.pl_base.specs.Rows.{Kept, KeptPage, with_items}
use Rattle.pl_base.specs.Store.{Item, Visit}
use Rattle.pl_base.specs.Tree.{has_child, has_item, item_at, moved, parent_of, put_behind, without_id}
use Rattle.pl_base.proofs.IdsLaws.{same_slot}
use Rattle.pl_base.proofs.ItemLookUps.{same_item}
use Rattle.pl_base.proofs.ListLaws.{all_stay, weaker}
use Rattle.pl_base.proofs.LookUps.{found_any, found_holds, found_passes, found_some, none_pass, where_passes}
use Rattle.pl_base.proofs.OneParent.{IsParent, once}
use Rattle.pl_base.proofs.ReferencesRun.{items_found}
use Rattle.pl_base.proofs.Truths.{no_test, same_tests}
use Rattle.pl_record.specs.declared.rows.Item.{Item as Row}
use Rattle.pl_record.specs.ChainMap.{AreApart, ChainMap, IsLoose, is_owner}
use Rattle.pl_record.specs.Chains.{item_slots}
use Rattle.pl_record.specs.Form.{AreRows}
use Rattle.pl_record.specs.ItemChanges.{put_behind as slot_behind, with_moved_slot, without_child_slot}
use Rattle.pl_record.proofs.NamedSlots.{found_all, found_of, item_named, item_row_is, some_slot}
use Rattle.pl_record.specs.Records.{HoldsRows, Layout, item_record, slot_or_none}
use Rattle.pl_record.specs.Rows.{item_in}
use Rattle.pl_record.specs.VisitChanges.{without_member, without_slot}
use Rattle.pl_record.proofs.ChainMaps.{apart_beside, chain_beside}
use Rattle.pl_record.proofs.ItemChains.{slotted_item}
use Rattle.pl_record.proofs.ItemMovedRows.{all_moved, item_ids_moved, placed, references_moved}
use Rattle.pl_record.proofs.LaidChains.{NamesChains}
use Rattle.pl_base.proofs.OneParent.{parents_found}
use Rattle.pl_rail.specs.declared.owner.Owner.{Owner}
use Rattle.pl_rail.specs.declared.owner.Owner.TheVariants.{At, Header}
use Rattle.pl_rail.specs.Rails.{none}
use Rattle.pl_sheets.specs.Sheets.{Pages}
use Rattle.pl_slot.specs.declared.kind.LiveKind.TheVariants as kinds
use Rattle.pl_slot.specs.declared.links.Rail.{Rail}
use Rattle.pl_slot.specs.declared.links.Rail.TheVariants.{Children, Live, OriginPages, PageVisits, References, Targets}
use Rattle.pl_slot.specs.Links.{is_rail}
use Rattle.pl_record.proofs.OwnedChains.{owned_apart, owned_beside}

-- ---- maps

-- a map with a child less has the chains of other rails that it had
pub child_less_beside : (i : Row) (slot : Slot) (chains : ChainMap) (r : Rail) (o : Owner) → is_rail r Children ≡ false
    → without_child_slot i slot chains r o ≡ chains r o
child_less_beside i slot chains = owned_beside Children i.parent slot chains

pub child_less_apart : (i : Row) (slot : Slot) (chains : ChainMap) (r : Rail) → is_rail r Children ≡ false
    → AreApart r chains → AreApart r (without_child_slot i slot chains)
child_less_apart i slot chains = owned_apart Children i.parent slot chains

-- so has one where a child moved
pub moved_beside : (i : Row) (slot parent : Slot) (after : Option Slot) (chains : ChainMap) (r : Rail) (o : Owner)
    → is_rail r Children ≡ false → with_moved_slot i slot parent after chains r o ≡ chains r o
moved_beside i slot parent after chains r o other =
    chain_beside Children (At parent)
    (slot_behind after slot (without_child_slot i slot chains Children (At parent))) (without_child_slot i slot chains)
    r o (ap (λ b. b && is_owner o (At parent)) other)
    ∙ child_less_beside i slot chains r o other

pub moved_apart : (i : Row) (slot parent : Slot) (after : Option Slot) (chains : ChainMap) (r : Rail)
    → is_rail r Children ≡ false → AreApart r chains → AreApart r (with_moved_slot i slot parent after chains)
moved_apart i slot parent after chains r other apart =
    apart_beside Children (At parent)
    (slot_behind after slot (without_child_slot i slot chains Children (At parent))) (without_child_slot i slot chains)
    r other (child_less_apart i slot chains r other apart)

-- ---- parents

-- an item that has a parent is there, and so is the parent
pub child_there : (kept : Kept) → All (λ (i : Item). All (λ c. has_item kept.items c ≡ true) i.children) kept.items
    → (child parent : ItemId) → parent_of kept.items child ≡ Some parent
    → (has_item kept.items child ≡ true) × (has_item kept.items parent ≡ true)
child_there kept children child parent is = choose (find (has_child child) kept.items) refl is
  where
    Here : ItemId → Type 0
    Here c = has_item kept.items c ≡ true

    choose : (o : Option Item) → find (has_child child) kept.items ≡ o
        → option_map (λ (i : Item). i.id) o ≡ Some parent
        → (has_item kept.items child ≡ true) × (has_item kept.items parent ≡ true)
    choose None found same = absurd (cc)
    choose (Some p) found same =
        let own : p.id ≡ parent = cc in
        let all : All Here p.children =
        found_holds (λ (i : Item). All Here i.children) (has_child child) kept.items p
        (recursion_from_All (λ (i : Item). All Here i.children) kept.items children) found in
        let c =
        found_of (λ (d : ItemId). d.0 == child.0) p.children (found_passes (has_child child) kept.items p found) in (
          ap (has_item kept.items)
              (sym (same_item c.0 child (found_passes (λ (d : ItemId). d.0 == child.0) p.children c.0 c.1)))
              ∙ found_holds Here (λ (d : ItemId). d.0 == child.0) p.children c.0
              (recursion_from_All Here p.children all) c.1,
          found_any (has_child child) (λ (i : Item). i.id.0 == parent.0) kept.items p found
              (eq-eqb p.id.0 parent.0 (ap (λ (d : ItemId). d.0) own)),
        )

module _ (at : Layout) (kept : Kept) (targets : VisitId → List Visit) (old : Pages) (rows : AreRows kept targets)
    (held : HoldsRows at kept old) where
  abbrev pub IsThere : ItemId → Type 0
  IsThere item = has_item kept.items item ≡ true

  pub each_found : AllByRecursion (λ (j : Item). item_at kept.items j.id ≡ Some j) kept.items
  each_found = items_found kept rows.well

  pub found_there : (j : Item) → item_at kept.items j.id ≡ Some j → IsThere j.id
  found_there j found = found_some (λ (k : Item). k.id.0 == j.id.0) kept.items j found

  -- items in one slot are one
  pub one_item : (a b : ItemId) → IsThere a → IsThere b → at.item a ≡ at.item b → a ≡ b
  one_item a b first second same =
      let both : Some a ≡ Some b =
      sym (item_named at kept old held a first) ∙ ap (item_in old) same ∙ item_named at kept old held b second in
      cc

  pub one_test : (a b : ItemId) → IsThere a → IsThere b → ((at.item a).0 == (at.item b).0) ≡ (a.0 == b.0)
  one_test a b first second = same_tests ((at.item a).0 == (at.item b).0) (a.0 == b.0) by_slot by_id
    where
      by_slot : ((at.item a).0 == (at.item b).0) ≡ true → (a.0 == b.0) ≡ true
      by_slot same =
          eq-eqb a.0 b.0 (ap (λ (c : ItemId). c.0)
          (one_item a b first second (same_slot (at.item a) (at.item b) (eqb-true (at.item a).0 (at.item b).0 same))))

      by_id : (a.0 == b.0) ≡ true → ((at.item a).0 == (at.item b).0) ≡ true
      by_id same =
          eq-eqb (at.item a).0 (at.item b).0 (ap (λ n. (at.item (record { 0 = n })).0) (eqb-true a.0 b.0 same))

  -- the slot of an item is one
  pub some_item : (item : ItemId) → IsThere item → ((at.item item).0 == 0) ≡ false
  some_item item there =
      let j = found_of (λ (k : Item). k.id.0 == item.0) kept.items there in
      let same : j.0.id ≡ item =
      same_item j.0.id item (found_passes (λ (k : Item). k.id.0 == item.0) kept.items j.0 j.1) in
      ne_eqb (at.item item).0 0 (λ zero.
      some_slot (item_record at kept.items j.0) old (item_row_is at kept old held item j.0 j.1)
      (ap at.item same ∙ same_slot (at.item item) none zero))

  -- an item with the child is its parent
  each_parent : AllByRecursion (IsParent kept.items) kept.items
  each_parent = parents_found kept.items (once (child_ids kept.items) rows.once)

  module _ (id : ItemId) (id_there : IsThere id) (chains : ChainMap) where
    abbrev slot : Slot
    slot = at.item id

    -- ---- the slots of children without it

    pub slots_without : (cs : List ItemId) → AllByRecursion IsThere cs
        → without_slot slot (item_slots at cs) ≡ item_slots at (without_id id cs)
    slots_without [] all = refl
    slots_without (c ∷ cs) all =
        ap (λ (b : Bool). if not b then at.item c ∷ without_slot slot (item_slots at cs)
        else without_slot slot (item_slots at cs)) (one_test c id all.0 id_there)
        ∙ choose (c.0 == id.0) (slots_without cs all.1)
      where
        choose : (b : Bool) → without_slot slot (item_slots at cs) ≡ item_slots at (without_id id cs)
            → (if not b then at.item c ∷ without_slot slot (item_slots at cs)
            else without_slot slot (item_slots at cs))
            ≡ item_slots at (if not b then c ∷ without_id id cs else without_id id cs)
        choose true rest = rest
        choose false rest = ap (λ (slots : List Slot). at.item c ∷ slots) rest

    -- where it is no child, all stay
    none_left : (j : Item) → has_child id j ≡ false → without_id id j.children ≡ j.children
    none_left j none =
        all_stay (λ (c : ItemId). not (c.0 == id.0)) j.children
        (weaker (λ (c : ItemId). (c.0 == id.0) ≡ false) (λ (c : ItemId). not (c.0 == id.0) ≡ true) j.children
        (λ c differs. ap not differs) (none_pass (λ (c : ItemId). c.0 == id.0) j.children none))

    left_there : (cs : List ItemId) → AllByRecursion IsThere cs → AllByRecursion IsThere (without_id id cs)
    left_there cs all =
        where_passes IsThere (λ (c : ItemId). not (c.0 == id.0)) cs
        (weaker IsThere (λ (c : ItemId). not (c.0 == id.0) ≡ true → IsThere c) cs (λ c there _. there) all)

    -- the children of a slot without the child, by whether it is the parent's
    abbrev by_parent : Slot → Slot → Bool → List Slot
    by_parent p x is =
        if is then without_slot slot (chains Children (At p)) else chains Children (At x)

    abbrev cut_at : Slot → Owner → List Slot
    cut_at p owner = (if p.0 == 0 then chains else without_member Children (At p) slot chains) Children owner

    module _ (j : Item) (there : IsThere j.id) (is_parent : IsParent kept.items j)
        (known : AllByRecursion IsThere j.children)
        (is : chains Children (At (at.item j.id)) ≡ item_slots at j.children) where
      only_parent : has_child id j ≡ true → parent_of kept.items id ≡ Some j.id
      only_parent has = ap (option_map (λ (i : Item). i.id)) (is_parent id has)

      stays : (has_child id j ≡ true → ⊥)
          → chains Children (At (at.item j.id)) ≡ item_slots at (without_id id j.children)
      stays never = is ∙ sym (ap (item_slots at) (none_left j (no_test (has_child id j) never)))

      cut_from : (o : Option ItemId) → parent_of kept.items id ≡ o → IfSome o IsThere
          → cut_at (slot_or_none at.item o) (At (at.item j.id)) ≡ item_slots at (without_id id j.children)
      cut_from None none known_parent =
          stays (λ has.
          let never : None ≡ Some j.id = sym none ∙ only_parent has in
          absurd (cc))
      cut_from (Some p) own known_parent =
          ap (λ (b : Bool). (if b then chains else without_member Children (At (at.item p)) slot chains)
          Children (At (at.item j.id))) (some_item p known_parent)
          ∙ ap (by_parent (at.item p) (at.item j.id)) (one_test j.id p there known_parent)
          ∙ choose (j.id.0 == p.0) refl
        where
          choose : (b : Bool) → (j.id.0 == p.0) ≡ b
              → by_parent (at.item p) (at.item j.id) b ≡ item_slots at (without_id id j.children)
          choose true same =
              ap (λ n. without_slot slot (chains Children (At (at.item (record { 0 = n })))))
              (sym (eqb-true j.id.0 p.0 same))
              ∙ ap (without_slot slot) is ∙ slots_without j.children known
          choose false differs =
              stays (λ has.
              let both : Some p ≡ Some j.id = sym own ∙ only_parent has in
              let one : p ≡ j.id = cc in
              true≢false (sym (eq-eqb j.id.0 p.0 (ap (λ (c : ItemId). c.0) (sym one))) ∙ differs))

    -- the parent of the item is there
    pub own_parent_there : IfSome (parent_of kept.items id) IsThere
    own_parent_there = choose (parent_of kept.items id) refl
      where
        choose : (o : Option ItemId) → parent_of kept.items id ≡ o → IfSome o IsThere
        choose None is = tt
        choose (Some p) is = (child_there kept rows.children id p is).1

    -- where its row names none, it is in no chain of children
    pub root_loose
        : All (λ (j : Item). parent_of kept.items j.id ≡ None → IsLoose Children (at.item j.id) chains) kept.items
        → (slot_or_none at.item (parent_of kept.items id)).0 ≡ 0 → IsLoose Children slot chains
    root_loose lone zero =
        choose (parent_of kept.items id) refl zero own_parent_there
      where
        choose : (o : Option ItemId) → parent_of kept.items id ≡ o → (slot_or_none at.item o).0 ≡ 0 → IfSome o IsThere
            → IsLoose Children slot chains
        choose None is none_named known =
            let j = found_of (λ (m : Item). m.id.0 == id.0) kept.items id_there in
            let same : j.0.id ≡ id =
            same_item j.0.id id (found_passes (λ (m : Item). m.id.0 == id.0) kept.items j.0 j.1) in
            subst (λ (c : ItemId). IsLoose Children (at.item c) chains) same
            (found_all (λ (m : Item). parent_of kept.items m.id ≡ None → IsLoose Children (at.item m.id) chains)
            (λ (m : Item). m.id.0 == id.0) kept.items j.0 lone j.1 (ap (parent_of kept.items) same ∙ is))
        choose (Some p) is none_named known =
            absurd (true≢false (sym (eq-eqb (at.item p).0 0 none_named) ∙ some_item p known))

    -- ---- the slot among the children of another

    module _ (i : Item) (own_id : i.id ≡ id) (parent : ItemId) (parent_there : IsThere parent) (after : Option ItemId)
        (after_there : IfSome after IsThere) (named : NamesChains at kept targets chains) where
      abbrev made : Row
      made = slotted_item at kept.items i

      abbrev put : Option Slot
      put = option_map at.item after

      abbrev cut : ChainMap
      cut = without_child_slot made slot chains

      abbrev pub moved_chains : ChainMap
      moved_chains = with_moved_slot made slot (at.item parent) put chains

      abbrev now : Kept
      now = with_items (moved id parent after kept.items) kept

      cut_children : (j : Item) → IsThere j.id → IsParent kept.items j → AllByRecursion IsThere j.children
          → chains Children (At (at.item j.id)) ≡ item_slots at j.children
          → cut Children (At (at.item j.id)) ≡ item_slots at (without_id id j.children)
      cut_children j there is_parent known is =
          ap (λ (c : ItemId). cut_at (slot_or_none at.item (parent_of kept.items c)) (At (at.item j.id))) own_id
          ∙ cut_from j there is_parent known is (parent_of kept.items id) refl own_parent_there

      put_slots : (o : Option ItemId) → IfSome o IsThere → (cs : List ItemId) → AllByRecursion IsThere cs
          → slot_behind (option_map at.item o) slot (item_slots at cs) ≡ item_slots at (put_behind o id cs)
      put_slots None known cs there = refl
      put_slots (Some a) known [] there = refl
      put_slots (Some a) known (c ∷ cs) there =
          ap (λ b. if b then at.item c ∷ slot ∷ item_slots at cs
          else at.item c ∷ slot_behind (Some (at.item a)) slot (item_slots at cs)) (one_test c a there.0 known)
          ∙ choose (c.0 == a.0) (put_slots (Some a) known cs there.1)
        where
          choose : (b : Bool)
              → slot_behind (Some (at.item a)) slot (item_slots at cs) ≡ item_slots at (put_behind (Some a) id cs)
              → (if b then at.item c ∷ slot ∷ item_slots at cs
              else at.item c ∷ slot_behind (Some (at.item a)) slot (item_slots at cs))
              ≡ item_slots at (if b then c ∷ id ∷ cs else c ∷ put_behind (Some a) id cs)
          choose true rest = refl
          choose false rest = ap (λ (slots : List Slot). at.item c ∷ slots) rest

      -- the children of a slot, by whether it is the new parent's
      abbrev by_new : Slot → Bool → List Slot
      by_new x is =
          if is then slot_behind put slot (cut Children (At (at.item parent))) else cut Children (At x)

      placed_children : (j : Item) → IsThere j.id → IsParent kept.items j → AllByRecursion IsThere j.children
          → chains Children (At (at.item j.id)) ≡ item_slots at j.children
          → moved_chains Children (At (at.item j.id)) ≡ item_slots at (placed id parent after kept j).children
      placed_children j there is_parent known is =
          ap (by_new (at.item j.id)) (one_test j.id parent there parent_there) ∙ choose (j.id.0 == parent.0) refl
        where
          left : cut Children (At (at.item j.id)) ≡ item_slots at (without_id id j.children)
          left = cut_children j there is_parent known is

          choose : (b : Bool) → (j.id.0 == parent.0) ≡ b
              → by_new (at.item j.id) b
              ≡ item_slots at (if b then put_behind after id (without_id id j.children) else without_id id j.children)
          choose true same =
              ap (λ n. slot_behind put slot (cut Children (At (at.item (record { 0 = n })))))
              (sym (eqb-true j.id.0 parent.0 same))
              ∙ ap (slot_behind put slot) left
              ∙ put_slots after after_there (without_id id j.children) (left_there j.children known)
          choose false differs = left

      -- ---- all chains

      pub moved_named : NamesChains at now targets moved_chains
      moved_named =
          record {
            live_origins =
                moved_beside made slot (at.item parent) put chains Live (Header kinds.Origin) refl ∙ named.live_origins;
            live_places =
                moved_beside made slot (at.item parent) put chains Live (Header kinds.Place) refl ∙ named.live_places;
            live_visits =
                moved_beside made slot (at.item parent) put chains Live (Header kinds.Visit) refl ∙ named.live_visits;
            live_items =
                moved_beside made slot (at.item parent) put chains Live (Header kinds.Item) refl ∙ named.live_items
                ∙ sym (ap (item_slots at) (item_ids_moved id parent after kept));
            origins = λ k d within.
                moved_beside made slot (at.item parent) put chains OriginPages
                (At (slice_index_or kept.origins k d).origin) refl
                ∙ named.origins k d within;
            visits = λ k d within.
                moved_beside made slot (at.item parent) put chains PageVisits
                (At (at.page (slice_index_or kept.pages k d).page.id)) refl
                ∙ named.visits k d within;
            references = λ k d within.
                let p : KeptPage = slice_index_or kept.pages k d in
                moved_beside made slot (at.item parent) put chains References (At (at.page p.page.id)) refl
                ∙ named.references k d within
                ∙ sym (ap (item_slots at) (references_moved id parent after kept p.page.id));
            targeted = λ k d within.
                moved_beside made slot (at.item parent) put chains Targets
                (At (at.visit (slice_index_or kept.visits k d).id)) refl
                ∙ named.targeted k d within;
            children =
                all_moved id parent after kept
                (λ (j : Item). moved_chains Children (At (at.item j.id)) ≡ item_slots at j.children)
                (λ k d within.
                let j : Item = slice_index_or kept.items k d in
                placed_children j
                (found_there j
                (All-from_recursion (λ (m : Item). item_at kept.items m.id ≡ Some m) kept.items each_found k d within))
                (All-from_recursion (IsParent kept.items) kept.items each_parent k d within)
                (recursion_from_All IsThere j.children (rows.children k d within)) (named.children k d within));
          }

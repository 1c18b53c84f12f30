-- What the slots of a store hold, and how they are chained, without an item that has no children.
use Rattle.std.proofs.Common.{◌≡◌, ◌≢◌, ◌∙◌, ◌∷◌, ◌==◌, ◌+◌, ◌≤◌, [], ℕ, All, Bool, List, None, Option, Some, ap}
use Rattle.std.proofs.Common.{arith, eq-eqb, eqb, eqb-true, false, filter, find, IfSome, if◌then◌else◌, length, map}
use Rattle.std.proofs.Common.{not, refl, subst, sym, true}
use Rattle.std.specs.List.{AllByRecursion, list_any, slice_index_or, sum_by}
use Rattle.std.specs.Option.{option_map}
use Rattle.std.proofs.lemmas.Bool.{ne_eqb, true≢false}
use Rattle.std.proofs.lemmas.List.Elements.{All-from_recursion, recursion_from_All}
use Rattle.std.proofs.lemmas.List.Sums.{sum_by-append, sum_by-cons}
use Rattle.std.proofs.lemmas.Option.{same_Some}
use Rattle.pl_base.specs.declared.id.ItemId.{ItemId}
use Rattle.pl_base.specs.declared.id.PageId.{PageId}
use Rattle.pl_base.specs.declared.id.Slot.{Slot}
use Rattle.pl_base.specs.declared.id.VisitId.{VisitId}
use Rattle.pl_base.specs.Good.{child_ids}
use Rattle.pl_base.specs.Rows.{Kept, KeptPage, has_page, with_items}
use Rattle.pl_base.specs.Store.{Item, Visit}
use Rattle.pl_base.specs.Tree.{children_of, has_child, has_item, is_page, item_at, leaving, parent_of, references}
use Rattle.pl_base.specs.Tree.{removed, without_id}
use Rattle.pl_base.proofs.IdsLaws.{same_slot}
use Rattle.pl_base.proofs.ItemLookUps.{same_item}
use Rattle.pl_base.proofs.KeyCounts.{count, count-append, count-cons, tick}
use Rattle.pl_base.proofs.ListLaws.{all_stay, list_any-map, sum_by-map, to_map, weaker}
use Rattle.pl_base.proofs.LookUps.{found_any, found_holds, found_passes, found_some, none_pass}
use Rattle.pl_base.proofs.OneParent.{IsParent, is_among, once}
use Rattle.pl_base.proofs.PageLaws.{id_at}
use Rattle.pl_base.proofs.ReferencesRun.{IsItemOf, having, items_found, items_stand}
use Rattle.pl_base.proofs.Truths.{no_test, same_tests}
use Rattle.pl_record.specs.declared.rows.Item.{Item as Row}
use Rattle.pl_record.specs.ChainMap.{AreApart, AreChains, ChainMap, IsLoose}
use Rattle.pl_record.specs.Chains.{HasAlone, IsAlone, item_slots}
use Rattle.pl_record.specs.Form.{AreRows}
use Rattle.pl_record.specs.ItemChanges.{RemovesItem, without_child_slot, without_item_slot}
use Rattle.pl_record.specs.ItemChanges.{without_reference_slot}
use Rattle.pl_record.proofs.NamedSlots.{found_all, found_of, item_named, item_row_is, one_row, page_row_is, some_slot}
use Rattle.pl_record.specs.Records.{HoldsRow, HoldsRows, HoldsTexts, Layout, Record, item_record, page_record}
use Rattle.pl_record.specs.Records.{slot_or_none, visit_record}
use Rattle.pl_record.specs.Rows.{item_in, record_at}
use Rattle.pl_record.specs.VisitChanges.{without_slot}
use Rattle.pl_record.proofs.ChainMaps.{apart_beside}
use Rattle.pl_record.proofs.Filled.{IsFilled}
use Rattle.pl_record.proofs.ItemChains.{slotted_item}
use Rattle.pl_record.proofs.ItemGone.{all_gone, is_rest, item_ids_gone, leaf, parents_gone, references_gone}
use Rattle.pl_record.proofs.LaidChains.{NamesChains}
use Rattle.pl_record.proofs.OwnedChains.{owned_apart, owned_beside, owned_chain}
use Rattle.pl_record.proofs.RowsBeside.{kinds_times, once_fewer, rows_beside, same_left, texts_beside}
use Rattle.pl_record.proofs.SlotCounts.{few_once, slot_times, times}
use Rattle.pl_record.proofs.Splits.{Only, only_slot}
use Rattle.pl_base.proofs.OneParent.{parents_found as base_parents}
use Rattle.pl_base.proofs.ReferencesRun.{page_is}
use Rattle.pl_rail.specs.declared.owner.Owner.{Owner}
use Rattle.pl_rail.specs.declared.owner.Owner.TheVariants.{At, Header}
use Rattle.pl_rail.specs.Rails.{none}
use Rattle.pl_sheets.specs.Sheets.{Pages}
use Rattle.pl_slot.specs.declared.kind.LiveKind.TheVariants as kinds
use Rattle.pl_slot.specs.declared.links.Rail.{Rail}
use Rattle.pl_slot.specs.declared.links.Rail.TheVariants.{Children, Live, OriginPages, PageVisits, References, Targets}
use Rattle.pl_slot.specs.declared.row.SlotRow.TheVariants as slot_rows
use Rattle.pl_slot.specs.Arena.{first_in}
use Rattle.pl_slot.specs.Links.{is_rail}
use Rattle.pl_text.specs.Chunks.{Hold}

-- ids without one that is not among them
without_none : (id : ItemId) (cs : List ItemId) → is_among id cs ≡ false → without_id id cs ≡ cs
without_none id cs none =
    all_stay (λ (c : ItemId). not (c.0 == id.0)) cs
    (weaker (λ (c : ItemId). (c.0 == id.0) ≡ false) (λ (c : ItemId). not (c.0 == id.0) ≡ true) cs
    (λ c apart. ap not apart) (none_pass (λ (c : ItemId). c.0 == id.0) cs none))

module _ (at : Layout) (kept : Kept) (targets : VisitId → List Visit) (id : ItemId) (i : Item)
    (found : item_at kept.items id ≡ Some i) (bare : children_of kept.items id ≡ []) (old new : Pages)
    (rows : AreRows kept targets) (filled : IsFilled at kept targets old)
    (lone_roots : All (λ (j : Item). parent_of kept.items j.id ≡ None → IsLoose Children (at.item j.id) filled.chains)
    kept.items)
    (lone_others : All (λ (j : Item). j.page ≡ None → IsLoose References (at.item j.id) filled.chains) kept.items)
    (children_apart : AreApart Children filled.chains) (references_apart : AreApart References filled.chains)
    (removes : RemovesItem (slotted_item at kept.items i) (at.item_title id) (at.item id) old new) where
  abbrev slot : Slot
  slot = at.item id

  abbrev made : Row
  made = slotted_item at kept.items i

  abbrev now : Kept
  now = with_items (removed id kept.items) kept

  -- ---- items that are there

  there : has_item kept.items id ≡ true
  there = found_some (λ (j : Item). j.id.0 == id.0) kept.items i found

  own_id : i.id ≡ id
  own_id = same_item i.id id (found_passes (λ (j : Item). j.id.0 == id.0) kept.items i found)

  all_there : AllByRecursion (λ (j : Item). item_at kept.items j.id ≡ Some j) kept.items
  all_there = items_found kept rows.well

  -- the slot of the item is that of no other
  one_test : (c : ItemId) → has_item kept.items c ≡ true → ((at.item c).0 == slot.0) ≡ (c.0 == id.0)
  one_test c is_there = same_tests ((at.item c).0 == slot.0) (c.0 == id.0) by_slot by_id
    where
      by_slot : ((at.item c).0 == slot.0) ≡ true → (c.0 == id.0) ≡ true
      by_slot same =
          eq-eqb c.0 id.0
          (ap (λ (d : ItemId). d.0)
          (same_Some c id
          (sym (item_named at kept old filled.rows c is_there)
          ∙ ap (item_in old) (same_slot (at.item c) slot (eqb-true (at.item c).0 slot.0 same))
          ∙ item_named at kept old filled.rows id there)))

      by_id : (c.0 == id.0) ≡ true → ((at.item c).0 == slot.0) ≡ true
      by_id same = eq-eqb (at.item c).0 slot.0 (ap (λ (d : ItemId). (at.item d).0) (same_item c id same))

  there_at : All (λ (j : Item). has_item kept.items j.id ≡ true) kept.items
  there_at =
      All-from_recursion (λ (j : Item). has_item kept.items j.id ≡ true) kept.items
      (weaker (λ (j : Item). item_at kept.items j.id ≡ Some j) (λ (j : Item). has_item kept.items j.id ≡ true)
      kept.items (λ j is. found_some (λ (k : Item). k.id.0 == j.id.0) kept.items j is) all_there)

  other_slot : (c : ItemId) → has_item kept.items c ≡ true → c.0 ≢ id.0 → at.item c ≢ slot
  other_slot c is_there apart same =
      apart (eqb-true c.0 id.0
      (sym (one_test c is_there) ∙ eq-eqb (at.item c).0 slot.0 (ap (λ (s : Slot). s.0) same)))

  visit_apart : (v : Visit) → HoldsRow (visit_record at v) old → at.visit v.id ≢ slot
  visit_apart v held same =
      let row : (visit_record at v).row ≡ (item_record at kept.items i).row =
      one_row (visit_record at v) (item_record at kept.items i) old held
      (item_row_is at kept old filled.rows id i found) (same ∙ sym (ap at.item own_id)) in
      absurd (cc)

  parents_are : (c : ItemId) → c.0 ≢ id.0 → parent_of now.items c ≡ parent_of kept.items c
  parents_are c apart = parents_gone id kept.items (leaf id kept rows.well there bare) c apart

  -- ---- the slots of items without it

  slots_without : (cs : List ItemId) → AllByRecursion (λ (c : ItemId). has_item kept.items c ≡ true) cs
      → without_slot slot (item_slots at cs) ≡ item_slots at (without_id id cs)
  slots_without [] all = refl
  slots_without (c ∷ cs) all =
      ap (λ (b : Bool). if not b then at.item c ∷ without_slot slot (item_slots at cs)
      else without_slot slot (item_slots at cs)) (one_test c all.0)
      ∙ choose (c.0 == id.0) (slots_without cs all.1)
    where
      choose : (b : Bool) → without_slot slot (item_slots at cs) ≡ item_slots at (without_id id cs)
          → (if not b then at.item c ∷ without_slot slot (item_slots at cs)
          else without_slot slot (item_slots at cs))
          ≡ item_slots at (if not b then c ∷ without_id id cs else without_id id cs)
      choose true rest = rest
      choose false rest = ap (λ (slots : List Slot). at.item c ∷ slots) rest

  abbrev first : ChainMap
  first = without_child_slot made slot filled.chains

  abbrev second : ChainMap
  second = without_reference_slot made slot first

  abbrev chains : ChainMap
  chains = without_item_slot made slot filled.chains

  untouched : (r : Rail) (o : Owner) → is_rail r Children ≡ false → is_rail r References ≡ false
      → second r o ≡ filled.chains r o
  untouched r o no_child no_reference =
      owned_beside References made.page slot first r o no_reference
      ∙ owned_beside Children made.parent slot filled.chains r o no_child

  -- ---- children

  some_item : (c : ItemId) → has_item kept.items c ≡ true → ((at.item c).0 == 0) ≡ false
  some_item c is_there =
      ne_eqb (at.item c).0 0 (λ zero.
      let j = found_of (λ (k : Item). k.id.0 == c.0) kept.items is_there in
      some_slot (item_record at kept.items j.0) old (item_row_is at kept old filled.rows c j.0 j.1)
      (ap at.item (same_item j.0.id c (found_passes (λ (k : Item). k.id.0 == c.0) kept.items j.0 j.1))
      ∙ same_slot (at.item c) none zero))

  parent_there : (q : ItemId) → parent_of kept.items i.id ≡ Some q → has_item kept.items q ≡ true
  parent_there q is = choose (find (has_child i.id) kept.items) refl is
    where
      choose : (o : Option Item) → find (has_child i.id) kept.items ≡ o → option_map (λ (j : Item). j.id) o ≡ Some q
          → has_item kept.items q ≡ true
      choose None none is = absurd (cc)
      choose (Some p) here is =
          found_any (has_child i.id) (λ (j : Item). j.id.0 == q.0) kept.items p here
          (eq-eqb p.id.0 q.0 (ap (λ (c : ItemId). c.0) (same_Some p.id q is)))

  no_parent : made.parent.0 ≡ 0 → parent_of kept.items i.id ≡ None
  no_parent = choose (parent_of kept.items i.id) refl
    where
      choose : (o : Option ItemId) → parent_of kept.items i.id ≡ o → (slot_or_none at.item o).0 ≡ 0
          → parent_of kept.items i.id ≡ None
      choose None is zero = is
      choose (Some q) is zero =
          absurd (true≢false (sym (eq-eqb (at.item q).0 0 zero) ∙ some_item q (parent_there q is)))

  parents_found : AllByRecursion (IsParent kept.items) kept.items
  parents_found = base_parents kept.items (once (child_ids kept.items) rows.once)

  child_stays : (j : Item) → IsParent kept.items j → parent_of kept.items i.id ≢ Some j.id
      → without_id id j.children ≡ j.children
  child_stays j parent differs =
      without_none id j.children (no_test (is_among id j.children) (λ among.
      differs (ap (option_map (λ (k : Item). k.id))
      (parent i.id (ap (λ (c : ItemId). is_among c j.children) own_id ∙ among)))))

  child_named : (j : Item) → IsParent kept.items j
      → AllByRecursion (λ (c : ItemId). has_item kept.items c ≡ true) j.children
      → filled.chains Children (At (at.item j.id)) ≡ item_slots at j.children
      → chains Children (At (at.item j.id)) ≡ item_slots at (without_id id j.children)
  child_named j parent all is =
      owned_beside References made.page slot first Children (At (at.item j.id)) refl
      ∙ owned_chain Children made.parent slot filled.chains (at.item j.id) (item_slots at (without_id id j.children))
      (λ zero. stays (λ some.
      let never : None ≡ Some j.id = sym (no_parent (eqb-true made.parent.0 0 zero)) ∙ some in
      absurd (cc)))
      (λ differs. stays (λ some.
      true≢false (sym (eq-eqb (at.item j.id).0 made.parent.0
      (ap (λ (o : Option ItemId). (slot_or_none at.item o).0) (sym some))) ∙ differs)))
      (λ same. ap (without_slot slot) is ∙ slots_without j.children all)
    where
      stays : parent_of kept.items i.id ≢ Some j.id
          → filled.chains Children (At (at.item j.id)) ≡ item_slots at (without_id id j.children)
      stays differs = is ∙ sym (ap (item_slots at) (child_stays j parent differs))

  -- ---- the items of pages

  no_page : made.page.0 ≡ 0 → i.page ≡ None
  no_page = choose i.page refl
    where
      known : IfSome i.page (λ page. has_page kept page ≡ true)
      known =
          found_all (λ (j : Item). IfSome j.page (λ page. has_page kept page ≡ true)) (λ (j : Item). j.id.0 == id.0)
          kept.items i rows.own found

      choose : (o : Option PageId) → i.page ≡ o → (slot_or_none at.page o).0 ≡ 0 → i.page ≡ None
      choose None is zero = is
      choose (Some page) is zero =
          let has : has_page kept page ≡ true =
          subst (λ (o : Option PageId). IfSome o (λ page. has_page kept page ≡ true)) is known in
          let p = found_of (λ (q : KeptPage). q.page.id.0 == page.0) kept.pages has in
          absurd (some_slot (page_record at p.0) old (page_row_is at kept old filled.rows page p.0 p.1)
          (ap at.page (id_at kept page p.0 p.1) ∙ same_slot (at.page page) none zero))

  reference_stays : (page : PageId) → i.page ≢ Some page
      → without_id id (references kept.items page) ≡ references kept.items page
  reference_stays page differs =
      without_none id (references kept.items page) (no_test (is_among id (references kept.items page)) (λ among.
      let any : list_any (λ (j : Item). j.id.0 == id.0) (having kept.items page) ≡ true =
      sym (list_any-map (λ (c : ItemId). c.0 == id.0) (λ (j : Item). j.id) (having kept.items page)) ∙ among in
      let j = found_of (λ (k : Item). k.id.0 == id.0) (having kept.items page) any in
      let of = found_holds (IsItemOf kept page) (λ (k : Item). k.id.0 == id.0) (having kept.items page) j.0
      (items_stand kept page rows.well) j.1 in
      let one : j.0 ≡ i =
      same_Some j.0 i
      (sym of.0
      ∙ ap (item_at kept.items)
      (same_item j.0.id id (found_passes (λ (k : Item). k.id.0 == id.0) (having kept.items page) j.0 j.1))
      ∙ found) in
      differs (page_is page i.page (ap (λ (k : Item). is_page page k.page) (sym one) ∙ of.1))))

  references_there : (page : PageId)
      → AllByRecursion (λ (c : ItemId). has_item kept.items c ≡ true) (references kept.items page)
  references_there page =
      to_map (λ (c : ItemId). has_item kept.items c ≡ true) (λ (j : Item). j.id) (having kept.items page)
      (weaker (IsItemOf kept page) (λ (j : Item). has_item kept.items j.id ≡ true) (having kept.items page)
      (λ j is. found_some (λ (k : Item). k.id.0 == j.id.0) kept.items j is.0) (items_stand kept page rows.well))

  reference_named : (page : PageId)
      → filled.chains References (At (at.page page)) ≡ item_slots at (references kept.items page)
      → chains References (At (at.page page)) ≡ item_slots at (references now.items page)
  reference_named page is =
      owned_chain References made.page slot first (at.page page)
      (item_slots at (without_id id (references kept.items page)))
      (λ zero. stays (λ some.
      let never : None ≡ Some page = sym (no_page (eqb-true made.page.0 0 zero)) ∙ some in
      absurd (cc)))
      (λ differs. stays (λ some.
      true≢false (sym (eq-eqb (at.page page).0 made.page.0
      (ap (λ (o : Option PageId). (slot_or_none at.page o).0) (sym some))) ∙ differs)))
      (λ same. ap (without_slot slot) were ∙ slots_without (references kept.items page) (references_there page))
      ∙ sym (ap (item_slots at) (references_gone id kept.items page))
    where
      were : first References (At (at.page page)) ≡ item_slots at (references kept.items page)
      were = owned_beside Children made.parent slot filled.chains References (At (at.page page)) refl ∙ is

      stays : i.page ≢ Some page
          → first References (At (at.page page)) ≡ item_slots at (without_id id (references kept.items page))
      stays differs = were ∙ sym (ap (item_slots at) (reference_stays page differs))

  -- ---- all chains

  abbrev IsNamed : Item → Type 0
  IsNamed j = chains Children (At (at.item j.id)) ≡ item_slots at j.children

  named : NamesChains at now targets chains
  named =
      record {
        live_origins = untouched Live (Header kinds.Origin) refl refl ∙ filled.named.live_origins;
        live_places = untouched Live (Header kinds.Place) refl refl ∙ filled.named.live_places;
        live_visits = untouched Live (Header kinds.Visit) refl refl ∙ filled.named.live_visits;
        live_items =
            ap (without_slot slot) (untouched Live (Header kinds.Item) refl refl ∙ filled.named.live_items)
            ∙ slots_without (map (λ (j : Item). j.id) kept.items)
            (to_map (λ (c : ItemId). has_item kept.items c ≡ true) (λ (j : Item). j.id) kept.items
            (recursion_from_All (λ (j : Item). has_item kept.items j.id ≡ true) kept.items there_at))
            ∙ sym (ap (item_slots at) (item_ids_gone id kept.items));
        origins = λ k d within.
            untouched OriginPages (At (slice_index_or kept.origins k d).origin) refl refl
            ∙ filled.named.origins k d within;
        visits = λ k d within.
            untouched PageVisits (At (at.page (slice_index_or kept.pages k d).page.id)) refl refl
            ∙ filled.named.visits k d within;
        references = λ k d within.
            reference_named (slice_index_or kept.pages k d).page.id (filled.named.references k d within);
        targeted = λ k d within.
            untouched Targets (At (at.visit (slice_index_or kept.visits k d).id)) refl refl
            ∙ filled.named.targeted k d within;
        children =
            all_gone id kept.items IsNamed
            (λ k d within apart.
            let j : Item = slice_index_or kept.items k d in
            child_named j (All-from_recursion (IsParent kept.items) kept.items parents_found k d within)
            (recursion_from_All (λ (c : ItemId). has_item kept.items c ≡ true) j.children (rows.children k d within))
            (filled.named.children k d within));
      }

  still_apart : AreApart OriginPages chains
  still_apart =
      apart_beside Live (Header kinds.Item) (without_slot slot (second Live (Header kinds.Item))) second OriginPages
      refl (owned_apart References made.page slot first OriginPages refl
      (owned_apart Children made.parent slot filled.chains OriginPages refl filled.apart))

  are : AreChains chains new
  are =
      removes.chains filled.chains filled.are children_apart references_apart
      (λ zero. ap_loose Children
      (found_all (λ (j : Item). parent_of kept.items j.id ≡ None → IsLoose Children (at.item j.id) filled.chains)
      (λ (j : Item). j.id.0 == id.0) kept.items i lone_roots found (no_parent zero)))
      (λ zero. ap_loose References
      (found_all (λ (j : Item). j.page ≡ None → IsLoose References (at.item j.id) filled.chains)
      (λ (j : Item). j.id.0 == id.0) kept.items i lone_others found (no_page zero)))
    where
      ap_loose : (r : Rail) → IsLoose r (at.item i.id) filled.chains → IsLoose r slot filled.chains
      ap_loose r loose = subst (λ (c : ItemId). IsLoose r (at.item c) filled.chains) own_id loose

  -- ---- slots that stand alone

  never : {P : Type 0} → false ≡ true → P
  never is = absurd (true≢false (sym is))

  alone : HasAlone at now new
  alone =
      record {
        visits = λ k d within none.
            let v : Visit = slice_index_or kept.visits k d in
            removes.alone filled.chains filled.are Targets (at.visit v.id)
            (visit_apart v (filled.rows.visits k d within)) refl never never (filled.alone.visits k d within none);
        roots =
            all_gone id kept.items (λ (j : Item). parent_of now.items j.id ≡ None → IsAlone Children (at.item j.id) new)
            (λ k d within apart none.
            let j : Item = slice_index_or kept.items k d in
            let was : parent_of kept.items j.id ≡ None = sym (parents_are j.id apart) ∙ none in
            removes.alone filled.chains filled.are Children (at.item j.id)
            (other_slot j.id (there_at k d within) apart) refl (λ _. lone_roots k d within was) never
            (filled.alone.roots k d within was));
        others =
            all_gone id kept.items (λ (j : Item). j.page ≡ None → IsAlone References (at.item j.id) new)
            (λ k d within apart none.
            let j : Item = slice_index_or kept.items k d in
            removes.alone filled.chains filled.are References (at.item j.id)
            (other_slot j.id (there_at k d within) apart) refl never (λ _. lone_others k d within none)
            (filled.alone.others k d within none));
      }

  -- ---- its slots are free

  abbrev gone_slots : List ℕ
  gone_slots = slot.0 ∷ at.item_title id

  parts : Only (λ (j : Item). j.id.0 == id.0) kept.items i
  parts =
      only_slot (λ (j : Item). j.id.0) (λ (j : Item). (at.item j.id).0) id.0 kept.items i
      (λ n. omega (arith, kinds_times at kept n, few_once at kept old filled.slots n))
      (λ a b one. ap (λ (n : ℕ). (at.item (record { 0 = n })).0) one) found

  fewer : (n : ℕ) → slot_times at now n + times n gone_slots ≡ slot_times at kept n
  fewer n =
      let rest : List Item = filter (is_rest id) kept.items in
      let of = λ (j : Item). (at.item j.id).0 in
      let text = λ (j : Item). times n (at.item_title j.id) in
      omega (
        arith,
        kinds_times at kept n,
        kinds_times at now n,
        sum_by-map (λ (j : Item). tick (eqb (of j) n)) (leaving id) rest,
        sum_by-map text (leaving id) rest,
        ap (count of n) parts.whole,
        ap (count of n) parts.others,
        count-append of n parts.front (i ∷ parts.back),
        count-append of n parts.front parts.back,
        count-cons of n i parts.back,
        ap (λ (c : ItemId). tick (eqb (at.item c).0 n)) own_id,
        ap (sum_by text) parts.whole,
        ap (sum_by text) parts.others,
        sum_by-append text parts.front (i ∷ parts.back),
        sum_by-append text parts.front parts.back,
        sum_by-cons text i parts.back,
        ap (λ (c : ItemId). times n (at.item_title c)) own_id,
        count-cons (λ (m : ℕ). m) n slot.0 (at.item_title id),
      )

  still : (n : ℕ) → 1 ≤ slot_times at now n → record_at n new ≡ record_at n old
  still = same_left at kept now gone_slots old new filled.slots removes.gone removes.others fewer

  -- the record of an item with this parent
  abbrev with_own : Item → Option ItemId → Record
  with_own j parent =
      record {
        slot = at.item j.id;
        row = slot_rows.Item j.kind none none j.id (slot_or_none at.item parent) none none none none
            (slot_or_none at.page j.page) none none (first_in (at.item_title j.id)) (length j.title) j.added j.modified;
      }

  held : HoldsRows at now new
  held =
      rows_beside at now old new still
      (record {
        origins = filled.rows.origins;
        places = filled.rows.places;
        visits = filled.rows.visits;
        items =
            all_gone id kept.items (λ (j : Item). HoldsRow (item_record at now.items j) old)
            (λ k d within apart.
            let j : Item = slice_index_or kept.items k d in
            subst (λ (o : Option ItemId). HoldsRow (with_own j o) old) (sym (parents_are j.id apart))
            (filled.rows.items k d within));
      })

  texts : HoldsTexts at now new
  texts =
      texts_beside at now old new still
      (record {
        urls = filled.texts.urls;
        titles = filled.texts.titles;
        item_titles =
            all_gone id kept.items (λ (j : Item). Hold (at.item_title j.id) j.title old)
            (λ k d within apart. filled.texts.item_titles k d within);
      })

  pub item_goes : IsFilled at (with_items (removed id kept.items) kept) targets new
  item_goes =
      record {
        chains = chains;
        are = are;
        named = named;
        apart = still_apart;
        rows = held;
        texts = texts;
        slots = once_fewer at kept now gone_slots old new filled.slots removes.gone removes.others fewer;
        alone = alone;
      }

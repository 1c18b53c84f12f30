-- What the chains of items tell.
use Rattle.std.proofs.Common.{◌≡◌, ◌∙◌, ◌==◌, ◌∷◌, ◌++◌, [], List, Option, Some, None, ap, eq-eqb, false}
use Rattle.std.proofs.Common.{find, inl, inr, is_some, map, refl, subst, sym, true}
use Rattle.std.specs.List.{All, AllByRecursion, list_any}
use Rattle.std.specs.Option.{IfSome, IsSome, option_and_then, option_map, option_or}
use Rattle.std.proofs.lemmas.Bool.{cases_Bool, true≢false}
use Rattle.std.proofs.lemmas.List.{map-append}
use Rattle.std.proofs.lemmas.List.Elements.{recursion_from_All}
use Rattle.pl_base.specs.declared.id.ItemId.{ItemId}
use Rattle.pl_base.specs.declared.id.PageId.{PageId}
use Rattle.pl_base.specs.declared.id.Slot.{Slot}
use Rattle.pl_base.specs.declared.id.VisitId.{VisitId}
use Rattle.pl_base.specs.Rows.{Kept, KeptPage, has_page, page_at}
use Rattle.pl_base.specs.Store.{Item, Visit}
use Rattle.pl_base.specs.Tree.{children_of, first_item, has_child, has_item, item_at, item_behind, last_item}
use Rattle.pl_base.specs.Tree.{is_page, parent_of, reference_behind, references, sibling_behind}
use Rattle.pl_base.proofs.IdsLaws.{same_page}
use Rattle.pl_base.proofs.ItemLookUps.{same_item}
use Rattle.pl_base.proofs.ListLaws.{list_any-map, to_map, weaker}
use Rattle.pl_base.proofs.LookUps.{found_holds, found_passes, found_some, none_kept, rest_of}
use Rattle.pl_base.proofs.PageLaws.{id_at}
use Rattle.pl_base.proofs.ReferencesRun.{IsItemOf, having, items_found, items_stand}
use Rattle.pl_record.specs.declared.rows.Item.{Item as Row}
use Rattle.pl_record.specs.Chains.{item_slots}
use Rattle.pl_record.specs.LinkedRows.{AreLinked, Entries, slot_at}
use Rattle.pl_record.specs.Rows.{item_in, page_in, row_in}
use Rattle.pl_record.specs.Rows as spec
use Rattle.pl_record.proofs.LookUps.{Found}
use Rattle.pl_record.proofs.NamedSlots.{found_all, found_of, item_named}
use Rattle.pl_record.proofs.PagesTold.{page_found}
use Rattle.pl_record.proofs.Splits.{any_kept, behind_item, not_there, split}
use Rattle.pl_rail.specs.declared.owner.Owner.{Owner}
use Rattle.pl_rail.specs.declared.owner.Owner.TheVariants.{At}
use Rattle.pl_rail.specs.Rails.{Lists, first_of, last_from, last_of, named, none}
use Rattle.pl_sheets.specs.Sheets.{Pages}
use Rattle.pl_slot.specs.declared.kind.SlotKind.TheVariants as kinds
use Rattle.pl_slot.specs.declared.links.Rail.TheVariants.{Children, References}
use Rattle.pl_slot.specs.Links.{kind_at}
use Rattle.pl_record.proofs.ItemRowsTold as rows_told

module _ (kept : Kept) (targets : VisitId → List Visit) (sheets : Pages) (pages visits items : Entries)
    (l : AreLinked kept targets sheets pages visits items) where
  abbrev item_place : Item → Slot
  item_place i = l.at.item i.id

  -- ---- rows

  abbrev item_found : (id : ItemId) (slot : Slot) → slot_at items id.0 ≡ Some slot
      → Found item_place (item_at kept.items id) slot
  item_found = rows_told.item_found kept targets sheets pages visits items l

  no_item : (id : ItemId) → slot_at items id.0 ≡ None → item_at kept.items id ≡ None
  no_item = rows_told.no_item kept targets sheets pages visits items l

  id_is : (id : ItemId) (i : Item) → item_at kept.items id ≡ Some i → i.id ≡ id
  id_is = rows_told.id_is kept targets sheets pages visits items l

  slot_kind_of : (id : ItemId) → has_item kept.items id ≡ true → kind_at (l.at.item id).0 sheets ≡ Some kinds.Item
  slot_kind_of = rows_told.slot_kind_of kept targets sheets pages visits items l

  parent_found : (id parent : ItemId) → parent_of kept.items id ≡ Some parent
      → (p : Item) × (find (has_child id) kept.items ≡ Some p) × (p.id ≡ parent)
  parent_found = rows_told.parent_found kept targets sheets pages visits items l

  own_there : (id : ItemId) (i : Item) → item_at kept.items id ≡ Some i → (page : PageId) → i.page ≡ Some page
      → has_page kept page ≡ true
  own_there = rows_told.own_there kept targets sheets pages visits items l

  -- the row of an item, as it was read
  module _ (id : ItemId) (slot : Slot) (row : Row) (some : slot_at items id.0 ≡ Some slot)
      (read : row_in slot sheets ≡ Some (spec.item_row row)) where
    abbrev found : Found item_place (item_at kept.items id) slot
    found = rows_told.found kept targets sheets pages visits items l id slot row some read

    parent_cases : (s : Option ItemId) → parent_of kept.items id ≡ s
        → (named row.parent ≡ option_map l.at.item s)
        × (option_and_then (item_in sheets) (option_map l.at.item s) ≡ s)
        × IfSome (option_map l.at.item s) (λ t. kind_at t.0 sheets ≡ Some kinds.Item)
    parent_cases = rows_told.parent_cases kept targets sheets pages visits items l id slot row some read

    page_cases : (s : Option PageId) → found.row.page ≡ s
        → (named row.page ≡ option_map l.at.page s)
        × (option_and_then (page_in sheets) (option_map l.at.page s) ≡ s)
        × IfSome (option_map l.at.page s) (λ t. kind_at t.0 sheets ≡ Some kinds.Place)
    page_cases = rows_told.page_cases kept targets sheets pages visits items l id slot row some read

  -- ---- chains

  -- the items of a list are there
  abbrev AreThere : List ItemId → Type 0
  AreThere ids = AllByRecursion (λ (c : ItemId). has_item kept.items c ≡ true) ids

  first_named : (ids : List ItemId) → AreThere ids
      → option_and_then (item_in sheets) (first_of (item_slots l.at ids)) ≡ first_item ids
  first_named [] all = refl
  first_named (c ∷ ids) all = item_named l.at kept sheets l.laid.rows c all.0

  first_kind : (ids : List ItemId) → AreThere ids
      → IfSome (first_of (item_slots l.at ids)) (λ s. kind_at s.0 sheets ≡ Some kinds.Item)
  first_kind [] all = tt
  first_kind (c ∷ ids) all = slot_kind_of c all.0

  -- what a first, a last or a next slot names
  pub record Tells (slot : Option Slot) (id : Option ItemId) : Type 0 where
    pub named : option_and_then (item_in sheets) slot ≡ id
    pub kind : IfSome slot (λ s. kind_at s.0 sheets ≡ Some kinds.Item)

  told_first : (ids : List ItemId) (slot : Option Slot) → AreThere ids → slot ≡ first_of (item_slots l.at ids)
      → Tells slot (first_item ids)
  told_first ids slot all is =
      record {
        named = ap (option_and_then (item_in sheets)) is ∙ first_named ids all;
        kind =
            subst (λ (o : Option Slot). IfSome o (λ s. kind_at s.0 sheets ≡ Some kinds.Item)) (sym is)
            (first_kind ids all);
      }

  -- the last one
  last_id : ItemId → List ItemId → ItemId
  last_id c [] = c
  last_id c (d ∷ ids) = last_id d ids

  last_item_is : (c : ItemId) (ids : List ItemId) → last_item (c ∷ ids) ≡ Some (last_id c ids)
  unfolding last_id
  last_item_is c [] = refl
  last_item_is c (d ∷ ids) = ap (λ o. option_or o (Some c)) (last_item_is d ids)

  last_slot_is : (c : ItemId) (ids : List ItemId)
      → last_from (l.at.item c) (item_slots l.at ids) ≡ l.at.item (last_id c ids)
  unfolding last_id
  last_slot_is c [] = refl
  last_slot_is c (d ∷ ids) = last_slot_is d ids

  last_there : (c : ItemId) (ids : List ItemId) → AreThere (c ∷ ids) → has_item kept.items (last_id c ids) ≡ true
  unfolding last_id
  last_there c [] all = all.0
  last_there c (d ∷ ids) all = last_there d ids all.1

  told_last : (ids : List ItemId) (slot : Option Slot) → AreThere ids → slot ≡ last_of (item_slots l.at ids)
      → Tells slot (last_item ids)
  told_last [] slot all is =
      record {
        named = ap (option_and_then (item_in sheets)) is;
        kind = subst (λ (o : Option Slot). IfSome o (λ s. kind_at s.0 sheets ≡ Some kinds.Item)) (sym is) tt;
      }
  told_last (c ∷ ids) slot all is =
      let there : has_item kept.items (last_id c ids) ≡ true = last_there c ids all in
      let slot_is : slot ≡ Some (l.at.item (last_id c ids)) = is ∙ ap Some (last_slot_is c ids) in
      record {
        named =
            ap (option_and_then (item_in sheets)) slot_is ∙ item_named l.at kept sheets l.laid.rows (last_id c ids) there
            ∙ sym (last_item_is c ids);
        kind =
            subst (λ (o : Option Slot). IfSome o (λ s. kind_at s.0 sheets ≡ Some kinds.Item)) (sym slot_is)
            (slot_kind_of (last_id c ids) there);
      }

  -- ---- children

  children_there : (id : ItemId) (i : Item) → item_at kept.items id ≡ Some i → AreThere i.children
  children_there id i found =
      recursion_from_All (λ (c : ItemId). has_item kept.items c ≡ true) i.children
      (found_all (λ (j : Item). All (λ c. has_item kept.items c ≡ true) j.children) (λ (j : Item). j.id.0 == id.0)
      kept.items i l.rows.children found)

  children_chain : (id : ItemId) (i : Item) → item_at kept.items id ≡ Some i
      → Lists Children (At (l.at.item i.id)) (item_slots l.at i.children) sheets
  children_chain id i found =
      found_all (λ (j : Item). Lists Children (At (l.at.item j.id)) (item_slots l.at j.children) sheets)
      (λ (j : Item). j.id.0 == id.0) kept.items i l.laid.chains.children found

  chain_here : (id : ItemId) (slot : Slot) (f : Found item_place (item_at kept.items id) slot)
      → Lists Children (At slot) (item_slots l.at f.row.children) sheets
  chain_here id slot f =
      subst (λ (s : Slot). Lists Children (At s) (item_slots l.at f.row.children) sheets) f.here
      (children_chain id f.row f.there)

  children_are : (id : ItemId) (i : Item) → item_at kept.items id ≡ Some i → children_of kept.items id ≡ i.children
  children_are id i found = rw found refl

  pub first_child_told : (id : ItemId) (slot : Slot) (first : Option Slot) → slot_at items id.0 ≡ Some slot
      → ((slots : List Slot) → Lists Children (At slot) slots sheets → first ≡ first_of slots)
      → Tells first (first_item (children_of kept.items id))
  first_child_told id slot first some told =
      let f = item_found id slot some in
      subst (λ (ids : List ItemId). Tells first (first_item ids)) (sym (children_are id f.row f.there))
      (told_first f.row.children first (children_there id f.row f.there)
      (told (item_slots l.at f.row.children) (chain_here id slot f)))

  pub last_child_told : (id : ItemId) (slot : Slot) (last : Option Slot) → slot_at items id.0 ≡ Some slot
      → ((slots : List Slot) → Lists Children (At slot) slots sheets → last ≡ last_of slots)
      → Tells last (last_item (children_of kept.items id))
  last_child_told id slot last some told =
      let f = item_found id slot some in
      subst (λ (ids : List ItemId). Tells last (last_item ids)) (sym (children_are id f.row f.there))
      (told_last f.row.children last (children_there id f.row f.there)
      (told (item_slots l.at f.row.children) (chain_here id slot f)))

  -- the slot behind an item of a list
  behind_told : (id : ItemId) (slot : Slot) (ids : List ItemId) (next : Option Slot) → AreThere ids
      → l.at.item id ≡ slot → list_any (λ (c : ItemId). c.0 == id.0) ids ≡ true
      → ((front back : List Slot) → item_slots l.at ids ≡ front ++ slot ∷ back → next ≡ first_of back)
      → Tells next (item_behind id ids)
  behind_told id slot ids next all here among told =
      let s = split (λ (c : ItemId). c.0 == id.0) ids among in
      let rest : AreThere (s.element ∷ s.rest) =
      rest_of (λ (c : ItemId). has_item kept.items c ≡ true) s.front (s.element ∷ s.rest) (subst AreThere s.whole all) in
      let same : s.element ≡ id = same_item s.element id s.passes in
      let slots : item_slots l.at ids ≡ item_slots l.at s.front ++ slot ∷ item_slots l.at s.rest =
      ap (item_slots l.at) s.whole ∙ map-append l.at.item s.front (s.element ∷ s.rest)
      ∙ ap (λ (t : Slot). item_slots l.at s.front ++ t ∷ item_slots l.at s.rest) (ap l.at.item same ∙ here) in
      let behind : Tells next (first_item s.rest) =
      told_first s.rest next rest.1 (told (item_slots l.at s.front) (item_slots l.at s.rest) slots) in
      subst (Tells next)
      (sym (ap (item_behind id) s.whole ∙ behind_item id s.front s.element s.rest s.none s.passes)) behind

  pub no_children : (id : ItemId) → slot_at items id.0 ≡ None → children_of kept.items id ≡ []
  no_children id none = rw (no_item id none) refl

  -- an item that has a parent is among its children
  sibling_told : (id parent : ItemId) (slot : Slot) (next : Option Slot)
      → Found item_place (item_at kept.items id) slot → parent_of kept.items id ≡ Some parent
      → ((owner : Owner) (front back : List Slot) → Lists Children owner (front ++ slot ∷ back) sheets
      → next ≡ first_of back) → Tells next (sibling_behind kept.items id)
  sibling_told id parent slot next f is told =
      let p = parent_found id parent is in
      let itself : item_at kept.items p.0.id ≡ Some p.0 =
      found_holds (λ (i : Item). item_at kept.items i.id ≡ Some i) (has_child id) kept.items p.0
      (items_found kept l.rows.well) p.1 in
      let here : item_at kept.items parent ≡ Some p.0 = ap (item_at kept.items) (sym p.2) ∙ itself in
      let slot_is : l.at.item id ≡ slot = ap l.at.item (sym (id_is id f.row f.there)) ∙ f.here in
      subst (Tells next)
      (sym (ap (option_and_then (λ c. item_behind id (children_of kept.items c))) is
      ∙ ap (item_behind id) (children_are parent p.0 here)))
      (behind_told id slot p.0.children next (children_there parent p.0 here) slot_is
      (found_passes (has_child id) kept.items p.0 p.1) (λ front back whole.
      told (At (l.at.item p.0.id)) front back
      (subst (λ (slots : List Slot). Lists Children (At (l.at.item p.0.id)) slots sheets) whole
      (children_chain parent p.0 here))))

  pub next_sibling_told : (id : ItemId) (slot : Slot) (row : Row) (next : Option Slot)
      → (some : slot_at items id.0 ≡ Some slot) → row_in slot sheets ≡ Some (spec.item_row row)
      → IsSome (named row.parent)
      → ((owner : Owner) (front back : List Slot) → Lists Children owner (front ++ slot ∷ back) sheets
      → next ≡ first_of back) → Tells next (sibling_behind kept.items id)
  next_sibling_told id slot row next some read there told = choose (parent_of kept.items id) refl
    where
      choose : (s : Option ItemId) → parent_of kept.items id ≡ s → Tells next (sibling_behind kept.items id)
      choose None is =
          let none_named : named row.parent ≡ None = (parent_cases id slot row some read None is).0 in
          absurd (true≢false (sym there ∙ ap is_some none_named))
      choose (Some parent) is = sibling_told id parent slot next (item_found id slot some) is told

  pub no_sibling : (id : ItemId) (slot : Slot) (row : Row) → (some : slot_at items id.0 ≡ Some slot)
      → row_in slot sheets ≡ Some (spec.item_row row) → named row.parent ≡ None → sibling_behind kept.items id ≡ None
  no_sibling id slot row some read none_named = choose (parent_of kept.items id) refl
    where
      choose : (s : Option ItemId) → parent_of kept.items id ≡ s → sibling_behind kept.items id ≡ None
      choose None is = ap (option_and_then (λ c. item_behind id (children_of kept.items c))) is
      choose (Some parent) is =
          let never : Some (l.at.item parent) ≡ None =
          sym (parent_cases id slot row some read (Some parent) is).0 ∙ none_named in
          absurd (cc)

  -- an item that is not there has no parent
  pub no_item_sibling : (id : ItemId) → slot_at items id.0 ≡ None → sibling_behind kept.items id ≡ None
  no_item_sibling id none = choose (parent_of kept.items id) refl
    where
      choose : (s : Option ItemId) → parent_of kept.items id ≡ s → sibling_behind kept.items id ≡ None
      choose None is = ap (option_and_then (λ c. item_behind id (children_of kept.items c))) is
      choose (Some parent) is =
          let p = parent_found id parent is in
          let itself : item_at kept.items p.0.id ≡ Some p.0 =
          found_holds (λ (i : Item). item_at kept.items i.id ≡ Some i) (has_child id) kept.items p.0
          (items_found kept l.rows.well) p.1 in
          let child : list_any (λ (c : ItemId). c.0 == id.0) p.0.children ≡ true =
          found_passes (has_child id) kept.items p.0 p.1 in
          let s = split (λ (c : ItemId). c.0 == id.0) p.0.children child in
          let rest : AreThere (s.element ∷ s.rest) =
          rest_of (λ (c : ItemId). has_item kept.items c ≡ true) s.front (s.element ∷ s.rest)
          (subst AreThere s.whole (children_there p.0.id p.0 itself)) in
          let there : has_item kept.items id ≡ true =
          ap (has_item kept.items) (sym (same_item s.element id s.passes)) ∙ rest.0 in
          absurd (true≢false (sym there ∙ not_there (λ (i : Item). i.id.0 == id.0) kept.items (no_item id none)))

  -- ---- the items of a page

  references_there : (page : PageId) → AreThere (references kept.items page)
  references_there page =
      to_map (λ (c : ItemId). has_item kept.items c ≡ true) (λ (i : Item). i.id) (having kept.items page)
      (weaker (IsItemOf kept page) (λ (i : Item). has_item kept.items i.id ≡ true) (having kept.items page)
      (λ i is. found_some (λ (j : Item). j.id.0 == i.id.0) kept.items i is.0) (items_stand kept page l.rows.well))

  references_chain : (page : PageId) (p : KeptPage) → page_at kept page ≡ Some p
      → Lists References (At (l.at.page page)) (item_slots l.at (references kept.items page)) sheets
  references_chain page p found =
      subst (λ (i : PageId). Lists References (At (l.at.page i)) (item_slots l.at (references kept.items i)) sheets)
      (id_at kept page p found)
      (found_all (λ (q : KeptPage).
      Lists References (At (l.at.page q.page.id)) (item_slots l.at (references kept.items q.page.id)) sheets)
      (λ (q : KeptPage). q.page.id.0 == page.0) kept.pages p l.laid.chains.references found)

  pub first_reference_told : (page : PageId) (slot : Slot) (first : Option Slot) → slot_at pages page.0 ≡ Some slot
      → ((slots : List Slot) → Lists References (At slot) slots sheets → first ≡ first_of slots)
      → Tells first (first_item (references kept.items page))
  first_reference_told page slot first some told =
      let f = page_found kept targets sheets pages visits items l page slot some in
      let here : l.at.page page ≡ slot = ap l.at.page (sym (id_at kept page f.row f.there)) ∙ f.here in
      told_first (references kept.items page) first (references_there page)
      (told (item_slots l.at (references kept.items page))
      (subst (λ (s : Slot). Lists References (At s) (item_slots l.at (references kept.items page)) sheets) here
      (references_chain page f.row f.there)))

  pub no_references : (page : PageId) → page_at kept page ≡ None → references kept.items page ≡ []
  no_references page none =
      ap (map (λ (i : Item). i.id))
      (none_kept (λ (i : Item). is_page page i.page) kept.items
      (weaker (λ (i : Item). IfSome i.page (λ p. has_page kept p ≡ true)) (λ (i : Item). is_page page i.page ≡ false)
      kept.items (λ i own. other_page i.page own)
      (recursion_from_All (λ (i : Item). IfSome i.page (λ p. has_page kept p ≡ true)) kept.items l.rows.own)))
    where
      other_page : (own : Option PageId) → IfSome own (λ p. has_page kept p ≡ true) → is_page page own ≡ false
      other_page None there = refl
      other_page (Some p) there = elim (cases_Bool (p.0 == page.0)) [
        | inl same ↦
            absurd (true≢false (sym there
            ∙ ap (has_page kept) (same_page p page same)
            ∙ not_there (λ (q : KeptPage). q.page.id.0 == page.0) kept.pages none))
        | inr differs ↦ differs
      ]

  reference_told : (id : ItemId) (page : PageId) (slot : Slot) (next : Option Slot)
      → (f : Found item_place (item_at kept.items id) slot) → f.row.page ≡ Some page
      → ((owner : Owner) (front back : List Slot) → Lists References owner (front ++ slot ∷ back) sheets
      → next ≡ first_of back) → Tells next (reference_behind kept.items id)
  reference_told id page slot next f is told =
      let p = found_of (λ (q : KeptPage). q.page.id.0 == page.0) kept.pages (own_there id f.row f.there page is) in
      let slot_is : l.at.item id ≡ slot = ap l.at.item (sym (id_is id f.row f.there)) ∙ f.here in
      let of_page : is_page page f.row.page ≡ true = ap (is_page page) is ∙ eq-eqb page.0 page.0 refl in
      let among : list_any (λ (c : ItemId). c.0 == id.0) (references kept.items page) ≡ true =
      list_any-map (λ (c : ItemId). c.0 == id.0) (λ (i : Item). i.id) (having kept.items page)
      ∙ any_kept (λ (i : Item). i.id.0 == id.0) (λ (i : Item). is_page page i.page) kept.items f.row f.there of_page in
      subst (Tells next)
      (sym (ap (option_and_then (λ (i : Item). option_and_then (λ q. item_behind id (references kept.items q)) i.page))
      f.there ∙ ap (option_and_then (λ q. item_behind id (references kept.items q))) is))
      (behind_told id slot (references kept.items page) next (references_there page) slot_is among (λ front back whole.
      told (At (l.at.page page)) front back
      (subst (λ (slots : List Slot). Lists References (At (l.at.page page)) slots sheets) whole
      (references_chain page p.0 p.1))))

  pub next_reference_told : (id : ItemId) (slot : Slot) (row : Row) (next : Option Slot)
      → (some : slot_at items id.0 ≡ Some slot) → row_in slot sheets ≡ Some (spec.item_row row)
      → IsSome (named row.page)
      → ((owner : Owner) (front back : List Slot) → Lists References owner (front ++ slot ∷ back) sheets
      → next ≡ first_of back) → Tells next (reference_behind kept.items id)
  next_reference_told id slot row next some read there told = choose (found id slot row some read).row.page refl
    where
      choose : (s : Option PageId) → (found id slot row some read).row.page ≡ s
          → Tells next (reference_behind kept.items id)
      choose None is =
          let none_named : named row.page ≡ None = (page_cases id slot row some read None is).0 in
          absurd (true≢false (sym there ∙ ap is_some none_named))
      choose (Some page) is = reference_told id page slot next (found id slot row some read) is told

  pub no_reference : (id : ItemId) (slot : Slot) (row : Row) → (some : slot_at items id.0 ≡ Some slot)
      → row_in slot sheets ≡ Some (spec.item_row row) → named row.page ≡ None → reference_behind kept.items id ≡ None
  no_reference id slot row some read none_named = choose (found id slot row some read).row.page refl
    where
      choose : (s : Option PageId) → (found id slot row some read).row.page ≡ s → reference_behind kept.items id ≡ None
      choose None is =
          ap (option_and_then (λ (i : Item). option_and_then (λ q. item_behind id (references kept.items q)) i.page))
          (found id slot row some read).there
          ∙ ap (option_and_then (λ q. item_behind id (references kept.items q))) is
      choose (Some page) is =
          let never : Some (l.at.page page) ≡ None =
          sym (page_cases id slot row some read (Some page) is).0 ∙ none_named in
          absurd (cc)

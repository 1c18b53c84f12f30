-- The chains of a layout as one map: those of a store's rows, and back from a map to its rows.
use Rattle.std.proofs.Common.{◌≡◌, ◌∙◌, ◌==◌, [], ℕ, List, Option, Some, None, ap, eq-eqb, eqb-true}
use Rattle.std.proofs.Common.{false, find, is_some, map, refl, subst, sym, true}
use Rattle.std.specs.List.{All, AllByRecursion, list_any}
use Rattle.std.specs.Option.{IsSome, option_and_then, option_map}
use Rattle.std.proofs.lemmas.Bool.{true≢false}
use Rattle.std.proofs.lemmas.List.Elements.{All-from_recursion, recursion_from_All}
use Rattle.std.proofs.lemmas.Option.{same_Some}
use Rattle.pl_base.specs.declared.id.PageId.{PageId}
use Rattle.pl_base.specs.declared.id.Slot.{Slot}
use Rattle.pl_base.specs.declared.id.VisitId.{VisitId}
use Rattle.pl_base.specs.Rows.{IsWellKept, Kept, KeptOrigin, KeptPage, page_visits}
use Rattle.pl_base.specs.Store.{Item, Visit}
use Rattle.pl_base.specs.Tree.{item_at, references}
use Rattle.pl_base.proofs.Among.{In, all_from_in, any_from_in, at_in}
use Rattle.pl_base.proofs.ListLaws.{list_any-map, weaker}
use Rattle.pl_base.proofs.LookUps.{both, found_holds, found_passes, none_kept, where_passes}
use Rattle.pl_base.proofs.ReferencesRun.{items_found}
use Rattle.pl_base.proofs.Truths.{no_test}
use Rattle.pl_record.specs.ChainMap.{AreApart, AreChains, ChainMap}
use Rattle.pl_record.specs.Chains.{HasChains, HasLive, item_slots, page_slots, pages_in, visit_slots}
use Rattle.pl_record.specs.Form.{AreRows, IsLaid}
use Rattle.pl_record.proofs.NamedSlots.{found_all, found_of, one_row}
use Rattle.pl_record.specs.Records.{HoldsRow, HoldsRows, Layout, item_record, page_record, visit_record}
use Rattle.pl_record.proofs.LaidSlots.{SlotOf, item_kinds, item_slot_is, named_kinds, origin_kinds, origin_slot_is}
use Rattle.pl_record.proofs.LaidSlots.{place_kinds, place_slot_is, visit_kinds, visit_slot_is}
use Rattle.pl_record.proofs.RowKinds.{link_there}
use Rattle.pl_rail.specs.declared.owner.Owner.{Owner}
use Rattle.pl_rail.specs.declared.owner.Owner.TheVariants.{At, Header}
use Rattle.pl_rail.specs.declared.owner.Side.TheVariants.{Behind}
use Rattle.pl_rail.specs.Rails.{Lists, end_at, is_in}
use Rattle.pl_sheets.specs.Sheets.{Pages}
use Rattle.pl_slot.specs.declared.kind.LiveKind.TheVariants as live
use Rattle.pl_slot.specs.declared.kind.SlotKind.{SlotKind}
use Rattle.pl_slot.specs.declared.kind.SlotKind.TheVariants as kinds
use Rattle.pl_slot.specs.declared.links.Link.TheVariants.{First}
use Rattle.pl_slot.specs.declared.links.Rail.{Rail}
use Rattle.pl_slot.specs.declared.links.Rail.TheVariants.{Children, Live, OriginPages, PageVisits, References, Targets}
use Rattle.pl_slot.specs.declared.row.SlotRow.{SlotRow}
use Rattle.pl_slot.specs.Arena.{row_at}
use Rattle.pl_slot.specs.Links.{ends_at, kind_at, link_at, link_in, link_place}
use Rattle.pl_slot.specs.Slot.{slot_bytes, slot_kind}
use Rattle.pl_slot.specs.SlotReading.{slot_in}

-- ---- the chains of rows

-- the chain of what is found, none where nothing is
abbrev pub chain_or_none : {X : Type 0} → (X → List Slot) → Option X → List Slot
chain_or_none chain None = []
chain_or_none chain (Some x) = chain x

-- which list each owner has in each rail
abbrev pub chains_of : Layout → Kept → (VisitId → List Visit) → ChainMap
chains_of at kept targets Live (Header live.Origin) = map (λ (o : KeptOrigin). o.origin) kept.origins
chains_of at kept targets Live (Header live.Place) = page_slots at kept.pages
chains_of at kept targets Live (Header live.Visit) = visit_slots at kept.visits
chains_of at kept targets Live (Header live.Item) = item_slots at (map (λ (i : Item). i.id) kept.items)
chains_of at kept targets OriginPages (At slot) = page_slots at (pages_in kept slot)
chains_of at kept targets PageVisits (At slot) =
    chain_or_none (λ (p : KeptPage). visit_slots at (page_visits kept p.page.id))
    (find (λ (p : KeptPage). (at.page p.page.id).0 == slot.0) kept.pages)
chains_of at kept targets References (At slot) =
    chain_or_none (λ (p : KeptPage). item_slots at (references kept.items p.page.id))
    (find (λ (p : KeptPage). (at.page p.page.id).0 == slot.0) kept.pages)
chains_of at kept targets Targets (At slot) =
    chain_or_none (λ (v : Visit). visit_slots at (targets v.id))
    (find (λ (v : Visit). (at.visit v.id).0 == slot.0) kept.visits)
chains_of at kept targets Children (At slot) =
    chain_or_none (λ (i : Item). item_slots at i.children)
    (find (λ (i : Item). (at.item i.id).0 == slot.0) kept.items)
chains_of at kept targets rail owner = []

-- in this map the owners have the chains of these rows
pub record NamesChains (at : Layout) (kept : Kept) (targets : VisitId → List Visit) (chains : ChainMap) : Type 0 where
  pub live_origins : chains Live (Header live.Origin) ≡ map (λ (o : KeptOrigin). o.origin) kept.origins
  pub live_places : chains Live (Header live.Place) ≡ page_slots at kept.pages
  pub live_visits : chains Live (Header live.Visit) ≡ visit_slots at kept.visits
  pub live_items : chains Live (Header live.Item) ≡ item_slots at (map (λ (i : Item). i.id) kept.items)
  pub origins : All (λ (o : KeptOrigin). chains OriginPages (At o.origin)
      ≡ page_slots at (pages_in kept o.origin)) kept.origins
  pub visits : All (λ (p : KeptPage). chains PageVisits (At (at.page p.page.id))
      ≡ visit_slots at (page_visits kept p.page.id)) kept.pages
  pub references : All (λ (p : KeptPage). chains References (At (at.page p.page.id))
      ≡ item_slots at (references kept.items p.page.id)) kept.pages
  pub targeted : All (λ (v : Visit). chains Targets (At (at.visit v.id)) ≡ visit_slots at (targets v.id)) kept.visits
  pub children : All (λ (i : Item). chains Children (At (at.item i.id)) ≡ item_slots at i.children) kept.items

-- ---- owners

-- what owns chains of a rail, but for the header
abbrev owning : Rail → Option SlotKind
owning Live = None
owning OriginPages = Some kinds.Origin
owning PageVisits = Some kinds.Place
owning Targets = Some kinds.Visit
owning Children = Some kinds.Item
owning References = Some kinds.Place

ends_kind : (rail : Rail) (kind : SlotKind) → IsSome (ends_at rail kind) → owning rail ≡ Some kind
ends_kind OriginPages kinds.Origin some = refl
ends_kind PageVisits kinds.Place some = refl
ends_kind Targets kinds.Visit some = refl
ends_kind Children kinds.Item some = refl
ends_kind References kinds.Place some = refl
ends_kind rail kind some = absurd (true≢false (sym some))

owner_kind : (rail : Rail) (n : ℕ) (pages : Pages) → IsSome (link_at rail First n pages)
    → (kind : SlotKind) × (owning rail ≡ Some kind) × (kind_at n pages ≡ Some kind)
unfolding kind_at link_at
owner_kind rail n pages some = choose (row_at n pages) some
  where
    of_place : (row : SlotRow) (place : Option ℕ) → IsSome (option_map (λ k. slot_in k (slot_bytes row)) place)
        → IsSome place
    of_place row None none = absurd (cc)
    of_place row (Some k) there = refl

    choose : (o : Option SlotRow) → IsSome (option_and_then (link_in rail First) o)
        → (kind : SlotKind) × (owning rail ≡ Some kind) × (option_map slot_kind o ≡ Some kind)
    choose None none = absurd (cc)
    choose (Some row) there =
        (slot_kind row, ends_kind rail (slot_kind row) (of_place row (ends_at rail (slot_kind row)) there), refl)

owner_is : (rail : Rail) (n : ℕ) (kind : SlotKind) (pages : Pages) → owning rail ≡ Some kind
    → IsSome (link_at rail First n pages) → kind_at n pages ≡ Some kind
owner_is rail n kind pages own some =
    let found = owner_kind rail n pages some in
    found.2 ∙ sym found.1 ∙ own

-- ---- the lists of a layout

-- the list of the row that is found
found_lists : {X : Type 0} (rail : Rail) (at : X → Slot) (chain : X → List Slot) (xs : List X) (slot : Slot)
    (pages : Pages) → SlotOf at xs slot → All (λ x. Lists rail (At (at x)) (chain x) pages) xs
    → Lists rail (At slot) (chain_or_none chain (find (λ x. (at x).0 == slot.0) xs)) pages
found_lists rail at chain xs slot pages of all =
    subst (λ o. Lists rail (At slot) (chain_or_none chain o) pages) (sym of.there)
    (subst (λ (s : Slot). Lists rail (At s) (chain of.row) pages) of.here
    (found_all (λ x. Lists rail (At (at x)) (chain x) pages) (λ x. (at x).0 == slot.0) xs of.row all of.there))

-- none is found where the slot owns none
none_found : {X : Type 0} (rail : Rail) (kind : SlotKind) (place : ℕ) (at : X → Slot) (chain : X → List Slot)
    (xs : List X) (slot : Slot) (pages : Pages) → link_place rail First kind ≡ Some place
    → AllByRecursion (λ x. kind_at (at x).0 pages ≡ Some kind) xs → link_at rail First slot.0 pages ≡ None
    → chain_or_none chain (find (λ x. (at x).0 == slot.0) xs) ≡ []
none_found {X} rail kind place at chain xs slot pages has all none = choose (find (λ x. (at x).0 == slot.0) xs) refl
  where
    choose : (o : Option X) → find (λ x. (at x).0 == slot.0) xs ≡ o → chain_or_none chain o ≡ []
    choose None is = refl
    choose (Some x) is =
        let here : (at x).0 ≡ slot.0 =
        eqb-true (at x).0 slot.0 (found_passes (λ y. (at y).0 == slot.0) xs x is) in
        let kind_is : kind_at slot.0 pages ≡ Some kind =
        ap (λ n. kind_at n pages) (sym here)
        ∙ found_holds (λ y. kind_at (at y).0 pages ≡ Some kind) (λ y. (at y).0 == slot.0) xs x all is in
        absurd (true≢false (sym (link_there rail First slot.0 kind place pages kind_is has) ∙ ap is_some none))

module _ (at : Layout) (kept : Kept) (targets : VisitId → List Visit) (pages : Pages) (rows : AreRows kept targets)
    (laid : IsLaid at kept targets pages) where
  laid_lists : (rail : Rail) (owner : Owner) → IsSome (end_at Behind rail owner pages)
      → Lists rail owner (chains_of at kept targets rail owner) pages
  laid_lists Live (Header live.Origin) some = laid.live.origins
  laid_lists Live (Header live.Place) some = laid.live.places
  laid_lists Live (Header live.Visit) some = laid.live.visits
  laid_lists Live (Header live.Item) some = laid.live.items
  laid_lists Live (At slot) some =
      let never : None ≡ Some (owner_kind Live slot.0 pages some).0 = (owner_kind Live slot.0 pages some).1 in
      absurd (cc)
  laid_lists OriginPages (At slot) some =
      let of =
      origin_slot_is at kept targets pages laid slot (owner_is OriginPages slot.0 kinds.Origin pages refl some) in
      subst (λ (s : Slot). Lists OriginPages (At s) (page_slots at (pages_in kept s)) pages) of.here
      (found_all (λ (o : KeptOrigin). Lists OriginPages (At o.origin) (page_slots at (pages_in kept o.origin)) pages)
      (λ (o : KeptOrigin). o.origin.0 == slot.0) kept.origins of.row laid.chains.origins of.there)
  laid_lists PageVisits (At slot) some =
      found_lists PageVisits (λ (p : KeptPage). at.page p.page.id)
      (λ (p : KeptPage). visit_slots at (page_visits kept p.page.id)) kept.pages slot pages
      (place_slot_is at kept targets pages laid slot (owner_is PageVisits slot.0 kinds.Place pages refl some))
      laid.chains.visits
  laid_lists References (At slot) some =
      found_lists References (λ (p : KeptPage). at.page p.page.id)
      (λ (p : KeptPage). item_slots at (references kept.items p.page.id)) kept.pages slot pages
      (place_slot_is at kept targets pages laid slot (owner_is References slot.0 kinds.Place pages refl some))
      laid.chains.references
  laid_lists Targets (At slot) some =
      found_lists Targets (λ (v : Visit). at.visit v.id) (λ (v : Visit). visit_slots at (targets v.id)) kept.visits slot
      pages
      (visit_slot_is at kept targets pages laid slot (owner_is Targets slot.0 kinds.Visit pages refl some))
      laid.chains.targeted
  laid_lists Children (At slot) some =
      found_lists Children (λ (i : Item). at.item i.id) (λ (i : Item). item_slots at i.children) kept.items slot pages
      (item_slot_is at kept targets pages laid slot (owner_is Children slot.0 kinds.Item pages refl some))
      laid.chains.children
  laid_lists rail owner some = absurd (true≢false (sym some))

  -- no page has an origin where none is
  no_pages : (slot : Slot) → link_at OriginPages First slot.0 pages ≡ None → pages_in kept slot ≡ []
  no_pages slot none =
      none_kept (λ (p : KeptPage). p.origin.0 == slot.0) kept.pages
      (weaker (λ (p : KeptPage). kind_at p.origin.0 pages ≡ Some kinds.Origin)
      (λ (p : KeptPage). (p.origin.0 == slot.0) ≡ false) kept.pages
      (λ p kind.
      no_test (p.origin.0 == slot.0) (λ same.
      true≢false (sym (link_there OriginPages First slot.0 kinds.Origin 12 pages
      (ap (λ n. kind_at n pages) (sym (eqb-true p.origin.0 slot.0 same)) ∙ kind) refl) ∙ ap is_some none)))
      (named_kinds at kept pages laid.rows rows.well))

  laid_none : (rail : Rail) (owner : Owner) → end_at Behind rail owner pages ≡ None
      → chains_of at kept targets rail owner ≡ []
  laid_none Live (Header kind) none = absurd (cc)
  laid_none OriginPages (At slot) none = ap (page_slots at) (no_pages slot none)
  laid_none PageVisits (At slot) none =
      none_found PageVisits kinds.Place 28 (λ (p : KeptPage). at.page p.page.id)
      (λ (p : KeptPage). visit_slots at (page_visits kept p.page.id)) kept.pages slot pages refl
      (place_kinds at kept pages laid.rows) none
  laid_none References (At slot) none =
      none_found References kinds.Place 36 (λ (p : KeptPage). at.page p.page.id)
      (λ (p : KeptPage). item_slots at (references kept.items p.page.id)) kept.pages slot pages refl
      (place_kinds at kept pages laid.rows) none
  laid_none Targets (At slot) none =
      none_found Targets kinds.Visit 40 (λ (v : Visit). at.visit v.id)
      (λ (v : Visit). visit_slots at (targets v.id)) kept.visits slot pages refl
      (visit_kinds at kept pages laid.rows) none
  laid_none Children (At slot) none =
      none_found Children kinds.Item 28 (λ (i : Item). at.item i.id) (λ (i : Item). item_slots at i.children) kept.items
      slot pages refl
      (item_kinds at kept pages laid.rows) none
  laid_none rail owner none = refl

  -- the chains of the rows are all chains
  pub laid_chains : AreChains (chains_of at kept targets) pages
  laid_chains = record { lists = laid_lists; none = laid_none }

-- ---- no page is in the chains of two origins

-- a page of the origin, whose row stands in its slot
abbrev IsPageOf : Layout → Pages → Slot → KeptPage → Type 0
IsPageOf at pages origin p = HoldsRow (page_record at p) pages × ((p.origin.0 == origin.0) ≡ true)

-- what is in a chain of an origin is the slot of a page whose row says so
origin_said : (at : Layout) (kept : Kept) (pages : Pages) → HoldsRows at kept pages → (origin slot : Slot)
    → is_in slot (page_slots at (pages_in kept origin)) ≡ true
    → (p : KeptPage) × (HoldsRow (page_record at p) pages) × (at.page p.page.id ≡ slot) × (p.origin ≡ origin)
origin_said at kept pages held origin slot among =
    let there : list_any (λ (p : KeptPage). (at.page p.page.id).0 == slot.0) (pages_in kept origin) ≡ true =
    sym (list_any-map (λ (s : Slot). s.0 == slot.0) (λ (p : KeptPage). at.page p.page.id) (pages_in kept origin))
    ∙ among in
    let found = found_of (λ (p : KeptPage). (at.page p.page.id).0 == slot.0) (pages_in kept origin) there in
    let of : IsPageOf at pages origin found.0 =
    found_holds (IsPageOf at pages origin) (λ (p : KeptPage). (at.page p.page.id).0 == slot.0) (pages_in kept origin)
    found.0
    (where_passes (IsPageOf at pages origin) (λ (p : KeptPage). p.origin.0 == origin.0) kept.pages
    (weaker (λ (p : KeptPage). HoldsRow (page_record at p) pages)
    (λ (p : KeptPage). (p.origin.0 == origin.0) ≡ true → IsPageOf at pages origin p) kept.pages
    (λ p row own. (row, own))
    (recursion_from_All (λ (p : KeptPage). HoldsRow (page_record at p) pages) kept.pages held.places))) found.1 in
    let here : at.page found.0.page.id ≡ slot =
    ap (λ (n : ℕ). record { 0 = n })
    (eqb-true (at.page found.0.page.id).0 slot.0
    (found_passes (λ (p : KeptPage). (at.page p.page.id).0 == slot.0) (pages_in kept origin) found.0 found.1)) in
    let origin_is : found.0.origin ≡ origin =
    ap (λ (n : ℕ). record { 0 = n }) (eqb-true found.0.origin.0 origin.0 of.1) in
    (found.0, of.0, here, origin_is)

pub origins_apart : (at : Layout) (kept : Kept) (targets : VisitId → List Visit) (pages : Pages)
    → HoldsRows at kept pages → AreApart OriginPages (chains_of at kept targets)
origins_apart at kept targets pages held (At one) (At other) slot first second =
    let p = origin_said at kept pages held one slot first in
    let q = origin_said at kept pages held other slot second in
    let row : (page_record at p.0).row ≡ (page_record at q.0).row =
    one_row (page_record at p.0) (page_record at q.0) pages p.1 q.1 (p.2 ∙ sym q.2) in
    let same : p.0.origin ≡ q.0.origin = cc in
    ap At (sym p.3 ∙ same ∙ q.3)
origins_apart at kept targets pages held (Header kind) other slot first second = absurd (true≢false (sym first))
origins_apart at kept targets pages held (At one) (Header kind) slot first second = absurd (true≢false (sym second))

-- ---- the map has the chains of the rows

-- each row is found by its slot, or one with the same chain
own_chains : {X : Type 0} (at : X → Slot) (chain : X → List Slot) (P : X → Type 0) (xs : List X)
    → ((x y : X) → P x → P y → at x ≡ at y → chain x ≡ chain y) → AllByRecursion P xs
    → All (λ x. chain_or_none chain (find (λ y. (at y).0 == (at x).0) xs) ≡ chain x) xs
own_chains {X} at chain P xs same all =
    All-from_recursion (λ x. chain_or_none chain (find (λ y. (at y).0 == (at x).0) xs) ≡ chain x) xs
    (all_from_in (λ x. chain_or_none chain (find (λ y. (at y).0 == (at x).0) xs) ≡ chain x) xs own)
  where
    own : (x : X) → In x xs → chain_or_none chain (find (λ y. (at y).0 == (at x).0) xs) ≡ chain x
    own x within =
        let found =
        found_of (λ y. (at y).0 == (at x).0) xs
        (any_from_in (λ y. (at y).0 == (at x).0) xs x within (eq-eqb (at x).0 (at x).0 refl)) in
        let here : at found.0 ≡ at x =
        ap (λ (n : ℕ). record { 0 = n })
        (eqb-true (at found.0).0 (at x).0 (found_passes (λ y. (at y).0 == (at x).0) xs found.0 found.1)) in
        ap (chain_or_none chain) found.1
        ∙ same found.0 x (found_holds P (λ y. (at y).0 == (at x).0) xs found.0 all found.1) (at_in P xs x all within)
        here

module _ (at : Layout) (kept : Kept) (targets : VisitId → List Visit) (pages : Pages)
    (held : HoldsRows at kept pages) where
  one_page : (p q : KeptPage) → HoldsRow (page_record at p) pages → HoldsRow (page_record at q) pages
      → at.page p.page.id ≡ at.page q.page.id → p.page.id ≡ q.page.id
  one_page p q first second same =
      let row : (page_record at p).row ≡ (page_record at q).row =
      one_row (page_record at p) (page_record at q) pages first second same in
      cc

  one_visit : (v w : Visit) → HoldsRow (visit_record at v) pages → HoldsRow (visit_record at w) pages
      → at.visit v.id ≡ at.visit w.id → v.id ≡ w.id
  one_visit v w first second same =
      let row : (visit_record at v).row ≡ (visit_record at w).row =
      one_row (visit_record at v) (visit_record at w) pages first second same in
      cc

  -- an item whose row stands in its slot, and which is found by its id
  abbrev IsItem : Item → Type 0
  IsItem i = HoldsRow (item_record at kept.items i) pages × (item_at kept.items i.id ≡ Some i)

  one_item : (i j : Item) → IsItem i → IsItem j → at.item i.id ≡ at.item j.id → i ≡ j
  one_item i j first second same =
      let row : (item_record at kept.items i).row ≡ (item_record at kept.items j).row =
      one_row (item_record at kept.items i) (item_record at kept.items j) pages first.0 second.0 same in
      let id : i.id ≡ j.id = cc in
      same_Some i j (sym first.1 ∙ ap (item_at kept.items) id ∙ second.1)

  places_held : AllByRecursion (λ (p : KeptPage). HoldsRow (page_record at p) pages) kept.pages
  places_held = recursion_from_All (λ (p : KeptPage). HoldsRow (page_record at p) pages) kept.pages held.places

  -- the chains of the rows are their owners'
  pub chains_named : IsWellKept kept → NamesChains at kept targets (chains_of at kept targets)
  chains_named well =
      record {
        live_origins = refl;
        live_places = refl;
        live_visits = refl;
        live_items = refl;
        origins = λ k d within. refl;
        visits =
            own_chains (λ (p : KeptPage). at.page p.page.id)
            (λ (p : KeptPage). visit_slots at (page_visits kept p.page.id))
            (λ (p : KeptPage). HoldsRow (page_record at p) pages) kept.pages
            (λ p q first second same.
            ap (λ (id : PageId). visit_slots at (page_visits kept id)) (one_page p q first second same)) places_held;
        references =
            own_chains (λ (p : KeptPage). at.page p.page.id)
            (λ (p : KeptPage). item_slots at (references kept.items p.page.id))
            (λ (p : KeptPage). HoldsRow (page_record at p) pages) kept.pages
            (λ p q first second same.
            ap (λ (id : PageId). item_slots at (references kept.items id)) (one_page p q first second same))
            places_held;
        targeted =
            own_chains (λ (v : Visit). at.visit v.id) (λ (v : Visit). visit_slots at (targets v.id))
            (λ (v : Visit). HoldsRow (visit_record at v) pages) kept.visits
            (λ v w first second same.
            ap (λ (id : VisitId). visit_slots at (targets id)) (one_visit v w first second same))
            (recursion_from_All (λ (v : Visit). HoldsRow (visit_record at v) pages) kept.visits held.visits);
        children =
            own_chains (λ (i : Item). at.item i.id) (λ (i : Item). item_slots at i.children) IsItem kept.items
            (λ i j first second same.
            ap (λ (k : Item). item_slots at k.children) (one_item i j first second same))
            (both (λ (i : Item). HoldsRow (item_record at kept.items i) pages)
            (λ (i : Item). item_at kept.items i.id ≡ Some i) IsItem kept.items (λ i row found. (row, found))
            (recursion_from_All (λ (i : Item). HoldsRow (item_record at kept.items i) pages) kept.items held.items)
            (items_found kept well));
      }

-- ---- from a map back to the rows

named_list : (chains : ChainMap) (pages : Pages) → AreChains chains pages → (rail : Rail) (owner : Owner)
    (slots : List Slot) → IsSome (end_at Behind rail owner pages) → chains rail owner ≡ slots
    → Lists rail owner slots pages
named_list chains pages are rail owner slots some is =
    subst (λ (l : List Slot). Lists rail owner l pages) is (are.lists rail owner some)

-- the lists of the owners in a rail
named_lists : {X : Type 0} (chains : ChainMap) (pages : Pages) → AreChains chains pages → (rail : Rail)
    (kind : SlotKind) (place : ℕ) (at : X → Slot) (chain : X → List Slot) (xs : List X)
    → link_place rail First kind ≡ Some place → AllByRecursion (λ x. kind_at (at x).0 pages ≡ Some kind) xs
    → All (λ x. chains rail (At (at x)) ≡ chain x) xs → All (λ x. Lists rail (At (at x)) (chain x) pages) xs
named_lists chains pages are rail kind place at chain xs has all named =
    All-from_recursion (λ x. Lists rail (At (at x)) (chain x) pages) xs
    (both (λ x. kind_at (at x).0 pages ≡ Some kind) (λ x. chains rail (At (at x)) ≡ chain x)
    (λ x. Lists rail (At (at x)) (chain x) pages) xs
    (λ x kind_is is.
    named_list chains pages are rail (At (at x)) (chain x) (link_there rail First (at x).0 kind place pages kind_is has)
    is) all
    (recursion_from_All (λ x. chains rail (At (at x)) ≡ chain x) xs named))

module _ (at : Layout) (kept : Kept) (targets : VisitId → List Visit) (chains : ChainMap) (pages : Pages)
    (are : AreChains chains pages) (named : NamesChains at kept targets chains) where
  pub live_laid : HasLive at kept pages
  live_laid =
      record {
        origins =
            named_list chains pages are Live (Header live.Origin) (map (λ (o : KeptOrigin). o.origin) kept.origins) refl
            named.live_origins;
        places =
            named_list chains pages are Live (Header live.Place) (page_slots at kept.pages) refl named.live_places;
        visits =
            named_list chains pages are Live (Header live.Visit) (visit_slots at kept.visits) refl named.live_visits;
        items =
            named_list chains pages are Live (Header live.Item) (item_slots at (map (λ (i : Item). i.id) kept.items))
            refl named.live_items;
      }

  pub chains_laid : HoldsRows at kept pages → HasChains at kept targets pages
  chains_laid held =
      record {
        origins =
            named_lists chains pages are OriginPages kinds.Origin 12 (λ (o : KeptOrigin). o.origin)
            (λ (o : KeptOrigin). page_slots at (pages_in kept o.origin)) kept.origins refl
            (origin_kinds at kept pages held) named.origins;
        visits =
            named_lists chains pages are PageVisits kinds.Place 28 (λ (p : KeptPage). at.page p.page.id)
            (λ (p : KeptPage). visit_slots at (page_visits kept p.page.id)) kept.pages refl
            (place_kinds at kept pages held) named.visits;
        references =
            named_lists chains pages are References kinds.Place 36 (λ (p : KeptPage). at.page p.page.id)
            (λ (p : KeptPage). item_slots at (references kept.items p.page.id)) kept.pages refl
            (place_kinds at kept pages held) named.references;
        targeted =
            named_lists chains pages are Targets kinds.Visit 40 (λ (v : Visit). at.visit v.id)
            (λ (v : Visit). visit_slots at (targets v.id)) kept.visits refl (visit_kinds at kept pages held)
            named.targeted;
        children =
            named_lists chains pages are Children kinds.Item 28 (λ (i : Item). at.item i.id)
            (λ (i : Item). item_slots at i.children) kept.items refl (item_kinds at kept pages held) named.children;
      }

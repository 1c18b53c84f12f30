-- The visits that came from one, in the slots of a layout: which slots name its slot as their
-- source, and which hold redirects.
use Rattle.std.proofs.Common.{◌≡◌, ◌≢◌, ◌<◌, ◌∙◌, ◌∷◌, ◌==◌, [], ℕ, List, Option, Some, None, ap, filter, map}
use Rattle.std.proofs.Common.{All, eq-eqb, refl, sym, true}
use Rattle.std.specs.Prelude.{IsTrue}
use Rattle.std.specs.List.{AllByRecursion, list_any, zip}
use Rattle.std.specs.Option.{IfSome, option_and_then, option_map}
use Rattle.std.proofs.lemmas.Bool.{or_left, or_right}
use Rattle.std.proofs.lemmas.List.Elements.{recursion_from_All}
use Rattle.pl_base.specs.declared.id.Slot.{Slot}
use Rattle.pl_base.specs.declared.id.VisitId.{VisitId}
use Rattle.pl_base.specs.Redirects.{is_redirect, is_source}
use Rattle.pl_base.specs.Rows.{HasSource, IsWellKept, Kept, has_visit}
use Rattle.pl_base.specs.Store.{Visit}
use Rattle.pl_base.proofs.IdsLaws.{same_slot}
use Rattle.pl_base.proofs.ListLaws.{filter-where, map-map, weaker}
use Rattle.pl_base.proofs.LookUps.{Apart, both}
use Rattle.pl_base.proofs.VisitsLaws.{Differ}
use Rattle.pl_base.proofs.VisitsRun.{visit_is}
use Rattle.pl_load.specs.Members.{source_member, source_members}
use Rattle.pl_load.specs.Reads.{visit_at}
use Rattle.pl_load.proofs.Lists.{owned_map, zip_maps}
use Rattle.pl_load.proofs.SlotNames as names
use Rattle.pl_owned.specs.declared.owned.Member.{Member}
use Rattle.pl_owned.specs.Owned.{owned_by}
use Rattle.pl_owned.specs.Redirects.{holds_redirect, is_redirect_row}
use Rattle.pl_record.specs.declared.rows.Visit.{Visit as VisitRow}
use Rattle.pl_record.specs.Chains.{visit_slots}
use Rattle.pl_record.specs.Records.{HoldsRow, Layout, slot_or_none, unlinked, visit_record}
use Rattle.pl_record.specs.Rows.{visit_id, visit_in}
use Rattle.pl_record.proofs.NamedSlots.{found_all, found_of}
use Rattle.pl_rail.specs.Rails.{none}
use Rattle.pl_sheets.specs.Sheets.{Pages}
use Rattle.pl_slot.proofs.SlotPlaces.{no_slot}

-- the visits that came from the one with this id
abbrev pub came_from : Kept → VisitId → List Visit
came_from kept id = filter (λ (v : Visit). is_source id v.source) kept.visits

-- each visit has the id of one
pub all_there : (kept : Kept) → AllByRecursion (λ (v : Visit). has_visit kept v.id ≡ true) kept.visits
all_there kept = among kept.visits
  where
    later : (v : Visit) (vs us : List Visit)
        → AllByRecursion (λ (u : Visit). list_any (λ (w : Visit). w.id.0 == u.id.0) vs ≡ true) us
        → AllByRecursion (λ (u : Visit). list_any (λ (w : Visit). w.id.0 == u.id.0) (v ∷ vs) ≡ true) us
    later v vs us =
        weaker (λ (u : Visit). list_any (λ (w : Visit). w.id.0 == u.id.0) vs ≡ true)
        (λ (u : Visit). list_any (λ (w : Visit). w.id.0 == u.id.0) (v ∷ vs) ≡ true) us
        (λ u there. or_right (v.id.0 == u.id.0) (list_any (λ (w : Visit). w.id.0 == u.id.0) vs) there)

    among : (vs : List Visit)
        → AllByRecursion (λ (u : Visit). list_any (λ (w : Visit). w.id.0 == u.id.0) vs ≡ true) vs
    among [] = tt
    among (v ∷ vs) = (
      or_left (v.id.0 == v.id.0) (list_any (λ (w : Visit). w.id.0 == v.id.0) vs) (eq-eqb v.id.0 v.id.0 refl),
      later v vs vs (among vs),
    )

-- in a store that is well kept each visit came from none, or from one that is there
pub sources_there : (kept : Kept) → IsWellKept kept
    → AllByRecursion (λ (v : Visit). IfSome v.source (λ s. has_visit kept s ≡ true)) kept.visits
sources_there kept well =
    weaker (HasSource kept) (λ (v : Visit). IfSome v.source (λ s. has_visit kept s ≡ true)) kept.visits
    (λ v has. known v v.source has) (recursion_from_All (HasSource kept) kept.visits well.sources)
  where
    known : (v : Visit) (o : Option VisitId) → IfSome o (λ s. (s.0 < v.id.0) × IsTrue (has_visit kept s))
        → IfSome o (λ s. has_visit kept s ≡ true)
    known v None has = tt
    known v (Some s) has = has.1

-- slot 0 is that of no visit
pub no_visit : (pages : Pages) → visit_in pages none ≡ None
no_visit pages = ap (λ o. option_and_then visit_id (option_map unlinked o)) (no_slot 0 pages refl)

module _ (pages : Pages) (at : Layout) (kept : Kept)
    (held : All (λ (v : Visit). HoldsRow (visit_record at v) pages) kept.visits) where
  -- ---- what slots say

  -- the visit in a slot, and the id that it says
  abbrev pub Says : VisitId → Type 0
  Says id = visit_in pages (at.visit id) ≡ Some id

  pub says : (id : VisitId) → has_visit kept id ≡ true → Says id
  says id there =
      let found = found_of (λ (v : Visit). v.id.0 == id.0) kept.visits there in
      let here : found.0.id ≡ id = visit_is kept id found.0 found.1 in
      ap (λ (i : VisitId). visit_in pages (at.visit i)) (sym here)
      ∙ ap (option_and_then visit_id)
      (found_all (λ (w : Visit). HoldsRow (visit_record at w) pages) (λ (w : Visit). w.id.0 == id.0) kept.visits found.0
      held found.1)
      ∙ ap (λ (i : VisitId). Some i) here

  pub all_say : AllByRecursion (λ (v : Visit). Says v.id) kept.visits
  all_say =
      weaker (λ (v : Visit). has_visit kept v.id ≡ true) (λ (v : Visit). Says v.id) kept.visits
      (λ v there. says v.id there) (all_there kept)

  -- the slot of a visit holds a redirect exactly where that is one
  pub redirects_told : AllByRecursion (λ (v : Visit). holds_redirect pages (at.visit v.id) ≡ is_redirect v.transition)
      kept.visits
  redirects_told =
      weaker (λ (v : Visit). HoldsRow (visit_record at v) pages)
      (λ (v : Visit). holds_redirect pages (at.visit v.id) ≡ is_redirect v.transition) kept.visits
      (λ v holds. ap is_redirect_row holds)
      (recursion_from_All (λ (v : Visit). HoldsRow (visit_record at v) pages) kept.visits held)

  -- no two visits stand in one slot
  abbrev pub slot_number : Visit → ℕ
  slot_number v = (at.visit v.id).0

  apart_in : (vs : List Visit) → AllByRecursion (λ (v : Visit). Says v.id) vs → Differ vs → Apart slot_number vs
  apart_in [] say differ = tt
  apart_in (v ∷ vs) say differ = (
    both (λ (w : Visit). w.id.0 ≢ v.id.0) (λ (w : Visit). Says w.id) (λ (w : Visit). slot_number w ≢ slot_number v) vs
        (λ w other says_w same.
        let ids : Some w.id ≡ Some v.id =
        sym says_w ∙ ap (visit_in pages) (same_slot (at.visit w.id) (at.visit v.id) same) ∙ say.0 in
        let one : w.id ≡ v.id = cc in
        other (ap (λ (i : VisitId). i.0) one)) differ.0 say.1,
    apart_in vs say.1 differ.1,
  )

  pub slots_apart : Differ kept.visits → Apart slot_number kept.visits
  slots_apart differ = apart_in kept.visits all_say differ

  -- ---- the slots that name one as their source

  own_alike : (id : VisitId) → has_visit kept id ≡ true → (own : Option VisitId)
      → IfSome own (λ s. has_visit kept s ≡ true)
      → ((slot_or_none at.visit own).0 == (at.visit id).0) ≡ is_source id own
  own_alike id there None has =
      names.no_owner (λ (v : VisitId). v.0) (λ a b same. ap (λ n. record { 0 = n }) same) at.visit (visit_in pages)
      (no_visit pages) id (says id there)
  own_alike id there (Some s) has =
      names.same_owner (λ (v : VisitId). v.0) (λ a b same. ap (λ n. record { 0 = n }) same) at.visit (visit_in pages)
      (no_visit pages) s id (says s has) (says id there)

  pub sources_owned : (slots : List Slot) (rows : List VisitRow) → slots ≡ visit_slots at kept.visits
      → rows ≡ map (visit_at at) kept.visits
      → AllByRecursion (λ (v : Visit). IfSome v.source (λ s. has_visit kept s ≡ true)) kept.visits
      → (id : VisitId) → has_visit kept id ≡ true
      → owned_by (source_members slots rows) (at.visit id) ≡ visit_slots at (came_from kept id)
  sources_owned slots rows slots_are rows_are sources id there =
      ap (λ (ms : List Member). owned_by ms (at.visit id)) members
      ∙ owned_map (λ (v : Visit). slot_or_none at.visit v.source) (λ (v : Visit). at.visit v.id) kept.visits
      (at.visit id)
      ∙ ap (map (λ (v : Visit). at.visit v.id))
      (filter-where (λ (v : Visit). (slot_or_none at.visit v.source).0 == (at.visit id).0)
      (λ (v : Visit). is_source id v.source) kept.visits
      (weaker (λ (v : Visit). IfSome v.source (λ s. has_visit kept s ≡ true))
      (λ (v : Visit). ((slot_or_none at.visit v.source).0 == (at.visit id).0) ≡ is_source id v.source) kept.visits
      (λ v has. own_alike id there v.source has) sources))
    where
      members : source_members slots rows
          ≡ map (λ (v : Visit). record { owner = slot_or_none at.visit v.source; slot = at.visit v.id }) kept.visits
      members =
          (λ i. map source_member (zip (slots_are i) (rows_are i)))
          ∙ ap (map source_member) (zip_maps (λ (v : Visit). at.visit v.id) (visit_at at) kept.visits)
          ∙ map-map source_member (λ (v : Visit). (at.visit v.id, visit_at at v)) kept.visits

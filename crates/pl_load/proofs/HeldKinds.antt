-- What the header lists are slots of its kinds, and what they hold is what any reading of the file
-- has.
use Rattle.std.proofs.Common.{◌≡◌, ◌∙◌, true, List, Option, Some, None, ap, eqb-true, refl, sym}
use Rattle.std.proofs.lemmas.List.Elements.{All-from_recursion}
use Rattle.std.specs.List.{All}
use Rattle.pl_base.specs.declared.id.Slot.{Slot}
use Rattle.pl_base.proofs.ListLaws.{weaker}
use Rattle.pl_load.specs.declared.held.LiveRows.{LiveRows}
use Rattle.pl_load.specs.Held.{AreHeld}
use Rattle.pl_load.specs.Reads.{AreReadFrom, Reads}
use Rattle.pl_load.proofs.ListParts.{all_pass}
use Rattle.pl_load.proofs.OneReads.{one_item, one_place, one_right, one_total, one_visit}
use Rattle.pl_rail.specs.declared.owner.Owner.TheVariants.{Header}
use Rattle.pl_rail.specs.Rails.{Lists, is_kind, is_member, live_slots}
use Rattle.pl_rail.proofs.ListLaws.{one_list}
use Rattle.pl_reading.specs.Live.{HoldsItem, HoldsPlace, HoldsTotal, HoldsVisit}
use Rattle.pl_sheets.specs.Sheets.{Pages}
use Rattle.pl_slot.specs.declared.kind.LiveKind.{LiveKind}
use Rattle.pl_slot.specs.declared.kind.LiveKind.TheVariants as live
use Rattle.pl_slot.specs.declared.kind.SlotKind.{SlotKind}
use Rattle.pl_slot.specs.declared.kind.SlotKind.TheVariants.{Free, Origin, Place as PlaceKind, Visit as VisitKind}
use Rattle.pl_slot.specs.declared.kind.SlotKind.TheVariants.{Item as ItemKind, Text}
use Rattle.pl_slot.specs.declared.links.Rail.TheVariants.{Live}
use Rattle.pl_slot.specs.Links.{kind_at}
use Rattle.pl_slot.specs.SlotKind.{slot_kind_at, slot_kind_number}

-- ---- kinds

at_number : (kind : SlotKind) → slot_kind_at (slot_kind_number kind) ≡ Some kind
at_number Free = refl
at_number Origin = refl
at_number PlaceKind = refl
at_number VisitKind = refl
at_number ItemKind = refl
at_number Text = refl

same_kind : (kind : Option SlotKind) (wanted : SlotKind) → is_kind kind (Some wanted) ≡ true → kind ≡ Some wanted
same_kind None wanted is = absurd (cc)
same_kind (Some kind) wanted is =
    sym (at_number kind)
    ∙ ap slot_kind_at (eqb-true (slot_kind_number kind) (slot_kind_number wanted) is) ∙ at_number wanted

pub kinds_listed : (kind : LiveKind) (slots : List Slot) (pages : Pages) → Lists Live (Header kind) slots pages
    → All (λ (s : Slot). kind_at s.0 pages ≡ Some (live_slots kind)) slots
kinds_listed kind slots pages lists =
    All-from_recursion (λ (s : Slot). kind_at s.0 pages ≡ Some (live_slots kind)) slots
    (weaker (λ (s : Slot). is_member Live (Header kind) pages s ≡ true)
    (λ (s : Slot). kind_at s.0 pages ≡ Some (live_slots kind)) slots
    (λ s member. same_kind (kind_at s.0 pages) (live_slots kind) member)
    (all_pass (is_member Live (Header kind) pages) slots lists.members))

-- ---- the same rows

-- what any reading of the file has of slots and rows
pub record SameHeld (h : LiveRows) (reads : Reads) : Type 0 where
  pub origins : reads.origins ≡ h.live.origins.items
  pub place_slots : reads.place_slots ≡ h.live.places.items
  pub visit_slots : reads.visit_slots ≡ h.live.visits.items
  pub item_slots : reads.item_slots ≡ h.live.items.items
  pub totals : reads.totals ≡ h.totals.items
  pub places : reads.places ≡ h.places.items
  pub visits : reads.visits ≡ h.visits.items
  pub items : reads.items ≡ h.items.items

pub same_held : (pages : Pages) (h : LiveRows) (reads : Reads) → AreHeld pages h → AreReadFrom pages reads
    → SameHeld h reads
same_held pages h reads held from =
    let origins : reads.origins ≡ h.live.origins.items =
    one_list Live (Header live.Origin) reads.origins h.live.origins.items pages from.listed.origins held.listed.origins
    in
    let place_slots : reads.place_slots ≡ h.live.places.items =
    one_list Live (Header live.Place) reads.place_slots h.live.places.items pages from.listed.places held.listed.places
    in
    let visit_slots : reads.visit_slots ≡ h.live.visits.items =
    one_list Live (Header live.Visit) reads.visit_slots h.live.visits.items pages from.listed.visits held.listed.visits
    in
    let item_slots : reads.item_slots ≡ h.live.items.items =
    one_list Live (Header live.Item) reads.item_slots h.live.items.items pages from.listed.items held.listed.items in
    record {
      origins = origins;
      place_slots = place_slots;
      visit_slots = visit_slots;
      item_slots = item_slots;
      totals =
          one_right (HoldsTotal pages) (HoldsTotal pages) (one_total pages) reads.origins h.live.origins.items
          reads.totals h.totals.items origins from.totals held.totals;
      places =
          one_right (HoldsPlace pages) (HoldsPlace pages) (one_place pages) reads.place_slots h.live.places.items
          reads.places h.places.items place_slots from.places held.places;
      visits =
          one_right (HoldsVisit pages) (HoldsVisit pages) (one_visit pages) reads.visit_slots h.live.visits.items
          reads.visits h.visits.items visit_slots from.visits held.visits;
      items =
          one_right (HoldsItem pages) (HoldsItem pages) (one_item pages) reads.item_slots h.live.items.items
          reads.items h.items.items item_slots from.items held.items;
    }

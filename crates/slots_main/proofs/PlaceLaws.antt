-- What follows where slots hold the rows of pages, and what keeps them so.
use Rattle.std.proofs.Common.{◌≡◌, ◌∙◌, ◌==◌, ◌+◌, ◌<◌, ℕ, Option, Some, None, IsSome, is_some, ap, cond, eqb-true, inl}
use Rattle.std.proofs.Common.{inr, refl, sym, true}
use Rattle.std.specs.Option.{option_and_then, option_map}
use Rattle.std.proofs.lemmas.Bool.{cases_Bool}
use Rattle.pl_sheets.specs.Sheets.{Pages}
use Rattle.pl_slot.specs.declared.kind.SlotKind.{SlotKind}
use Rattle.pl_slot.specs.declared.kind.SlotKind.TheVariants as kinds
use Rattle.pl_slot.specs.declared.links.Link.TheVariants.{First}
use Rattle.pl_slot.specs.declared.links.Rail.TheVariants.{PageVisits}
use Rattle.pl_slot.specs.declared.row.SlotRow.{SlotRow}
use Rattle.pl_slot.specs.declared.row.SlotRow.TheVariants.{Free, Origin, Place, Visit, Item, Text}
use Rattle.pl_slot.specs.Arena.{IsSet, KeepsRows, is_live, is_slot, live_row, row_at}
use Rattle.pl_slot.specs.Links.{kind_at, link_at, link_in, link_place}
use Rattle.pl_slot.specs.Slot.{slot_bytes, slot_kind}
use Rattle.pl_slot.specs.SlotReading.{slot_in}
use Rattle.pl_slot.proofs.SlotPlaces.{row_slot}
use Rattle.slots_main.specs.Places.{ArePlaces, IsPlace, KeepsKinds}

-- ---- the row that such a slot holds

record HeldPlace (n : ℕ) (pages : Pages) : Type 0 where
  row : SlotRow
  is : row_at n pages ≡ Some row
  kind : slot_kind row ≡ kinds.Place

held_place : (n : ℕ) (pages : Pages) → IsPlace n pages → HeldPlace n pages
unfolding kind_at
held_place n pages place = of_row (row_at n pages) refl place
  where
    nothing : None ≡ Some kinds.Place → ⊥
    nothing same = cc

    unwrapped : (kind : SlotKind) → Some kind ≡ Some kinds.Place → kind ≡ kinds.Place
    unwrapped kind same = cc

    of_row : (held : Option SlotRow) → row_at n pages ≡ held → option_map slot_kind held ≡ Some kinds.Place
        → HeldPlace n pages
    of_row None is place = absurd (nothing place)
    of_row (Some row) is place = record { row = row; is = is; kind = unwrapped (slot_kind row) place }

pub held_kind : (n : ℕ) (row : SlotRow) (pages : Pages) → row_at n pages ≡ Some row → slot_kind row ≡ kinds.Place
    → IsPlace n pages
unfolding kind_at
held_kind n row pages is kind = ap (option_map slot_kind) is ∙ ap Some kind

pub kind_held : (n : ℕ) (row : SlotRow) (pages : Pages) → IsPlace n pages → row_at n pages ≡ Some row
    → slot_kind row ≡ kinds.Place
unfolding kind_at
kind_held n row pages place is = unwrapped (slot_kind row) (sym (ap (option_map slot_kind) is) ∙ place)
  where
    unwrapped : (kind : SlotKind) → Some kind ≡ Some kinds.Place → kind ≡ kinds.Place
    unwrapped kind same = cc

-- ---- what such a slot is

pub place_slot : (n : ℕ) (pages : Pages) → IsPlace n pages → is_slot n pages ≡ true
place_slot n pages place = row_slot n pages (ap is_some (held_place n pages place).is)

live_kind : (row : SlotRow) → slot_kind row ≡ kinds.Place → is_some (live_row row) ≡ true
live_kind (Free next) kind = absurd (apart kind)
  where
    apart : kinds.Free ≡ kinds.Place → ⊥
    apart same = cc
live_kind (Origin live_previous live_next first_page last_page total) kind = refl
live_kind
    (Place typed hidden live_previous live_next id origin origin_previous origin_next first_visit
    last_visit first_reference last_reference url_text url_length title_text title_length frecency
    count) kind = refl
live_kind
    (Visit transition live_previous live_next id page page_previous page_next source
    target_previous target_next first_target last_target date) kind = refl
live_kind
    (Item item live_previous live_next id parent sibling_previous sibling_next first_child
    last_child page reference_previous reference_next title_text title_length added modified) kind = refl
live_kind (Text used next payload) kind = refl

pub place_live : (n : ℕ) (pages : Pages) → IsPlace n pages → is_live n pages ≡ true
place_live n pages place =
    let held = held_place n pages place in
    ap (λ r. is_some (option_and_then live_row r)) held.is ∙ live_kind held.row held.kind

-- it has a first visit
pub place_link : (n : ℕ) (pages : Pages) → IsPlace n pages → IsSome (link_at PageVisits First n pages)
unfolding link_at
place_link n pages place =
    let held = held_place n pages place in
    ap (λ r. is_some (option_and_then (link_in PageVisits First) r)) held.is
    ∙ ap (λ k. is_some (option_map (λ at. slot_in at (slot_bytes held.row)) (link_place PageVisits First k))) held.kind

-- ---- what keeps kinds

pub put_kinds : (slot : ℕ) (row : SlotRow) (old new : Pages) → IsPlace slot old → slot_kind row ≡ kinds.Place
    → IsSet slot row old new → KeepsKinds old new
unfolding kind_at
put_kinds slot row old new place kind set n =
    ap (option_map slot_kind) (set n)
    ∙ elim (cases_Bool (n == slot)) [
      | inl here ↦
          ap (λ b. option_map slot_kind (cond b (Some row) (row_at n old))) here ∙ ap Some kind
          ∙ sym (ap (λ k. option_map slot_kind (row_at k old)) (eqb-true n slot here) ∙ place)
      | inr other ↦ ap (λ b. option_map slot_kind (cond b (Some row) (row_at n old))) other
    ]

pub rows_kinds : (old new : Pages) → KeepsRows old new → KeepsKinds old new
unfolding kind_at
rows_kinds old new rows n = ap (option_map slot_kind) (rows n)

pub still_places : (count : ℕ) (old new : Pages) → KeepsKinds old new → ArePlaces count old → ArePlaces count new
still_places count old new kinds places n below = kinds (n + 1) ∙ places n below

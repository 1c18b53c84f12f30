-- Rails: the six kinds of chain that link slots. Which slots have their links, and where.
use Rattle.std.specs.Prelude.{◌≡◌, ℕ, ◌+◌, ◌&&◌, ◌==◌, Bool, true, false, not, List, [], ◌∷◌}
use Rattle.std.specs.Prelude.{Option, Some, None, if◌then◌else◌}
use Rattle.std.specs.List.{filter, list_any}
use Rattle.std.specs.Option.{option_and_then, option_map}
use Rattle.pl_base.specs.declared.id.Slot.{Slot}
use Rattle.pl_sheets.specs.Sheets.{Pages, page_count}
use Rattle.pl_slot.specs.declared.kind.SlotKind.{SlotKind}
use Rattle.pl_slot.specs.declared.kind.SlotKind.TheVariants as kinds
use Rattle.pl_slot.specs.declared.links.Link.{Link}
use Rattle.pl_slot.specs.declared.links.Link.TheVariants.{First, Last, Previous, Next}
use Rattle.pl_slot.specs.declared.links.Rail.{Rail}
use Rattle.pl_slot.specs.declared.links.Rail.TheVariants.{Live, OriginPages, PageVisits, Targets}
use Rattle.pl_slot.specs.declared.links.Rail.TheVariants.{Children, References}
use Rattle.pl_slot.specs.declared.row.SlotRow.{SlotRow}
use Rattle.pl_slot.specs.Arena.{ChangesOnly, KeepsOthers, header_of, live_count, row_at, slot_page}
use Rattle.pl_slot.specs.Slot.{Field, slot_bytes, slot_fields, slot_kind}
use Rattle.pl_slot.specs.SlotReading.{slot_in}

-- ---- where links stand

-- the place of the first member in a slot that owns such chains; the last one is 4 bytes behind.
-- The header owns the chains of live slots.
abbrev pub ends_at : Rail → SlotKind → Option ℕ
ends_at OriginPages kinds.Origin = Some 12
ends_at PageVisits kinds.Place = Some 28
ends_at Targets kinds.Visit = Some 40
ends_at Children kinds.Item = Some 28
ends_at References kinds.Place = Some 36
ends_at rail kind = None

-- the place of the one before in a slot that may be a member; the one behind is 4 bytes further
abbrev pub sides_at : Rail → SlotKind → Option ℕ
sides_at Live kinds.Origin = Some 4
sides_at Live kinds.Place = Some 4
sides_at Live kinds.Visit = Some 4
sides_at Live kinds.Item = Some 4
sides_at OriginPages kinds.Place = Some 20
sides_at PageVisits kinds.Visit = Some 20
sides_at Targets kinds.Visit = Some 32
sides_at Children kinds.Item = Some 20
sides_at References kinds.Item = Some 40
sides_at rail kind = None

-- the place of a link in the slots of a kind, if they have it
abbrev pub link_place : Rail → Link → SlotKind → Option ℕ
link_place rail First kind = ends_at rail kind
link_place rail Last kind = option_map (λ n. n + 4) (ends_at rail kind)
link_place rail Previous kind = sides_at rail kind
link_place rail Next kind = option_map (λ n. n + 4) (sides_at rail kind)

-- ---- what they name

-- the slot that a link of a row names, if it has that link
abbrev pub link_in : Rail → Link → SlotRow → Option Slot
link_in rail link row =
    option_map (λ place. slot_in place (slot_bytes row)) (link_place rail link (slot_kind row))

-- the slot that a link of a slot names, if it has that link
unfoldable pub link_at : Rail → Link → ℕ → Pages → Option Slot
link_at rail link n pages = option_and_then (link_in rail link) (row_at n pages)

-- what a slot is, if it holds a row
unfoldable pub kind_at : ℕ → Pages → Option SlotKind
kind_at n pages = option_map slot_kind (row_at n pages)

-- ---- what is no link of a rail

abbrev pub is_there : ℕ → Option ℕ → Bool
is_there n None = false
is_there n (Some place) = n == place

-- a link of the rail has this place in the slots of a kind
abbrev pub is_link_place : Rail → SlotKind → ℕ → Bool
is_link_place rail kind n =
    list_any (λ link. is_there n (link_place rail link kind)) (First ∷ Last ∷ Previous ∷ Next ∷ [])

-- the fields of a row but for the links of a rail
abbrev pub other_fields : Rail → SlotRow → List Field
other_fields rail row =
    filter (λ (field : Field). not (is_link_place rail (slot_kind row) field.0)) (slot_fields row)

-- those of the row that a slot holds
unfoldable pub others_at : Rail → ℕ → Pages → Option (List Field)
others_at rail n pages = option_map (other_fields rail) (row_at n pages)

-- ---- what a set changes

abbrev pub is_rail : Rail → Rail → Bool
is_rail Live Live = true
is_rail OriginPages OriginPages = true
is_rail PageVisits PageVisits = true
is_rail Targets Targets = true
is_rail Children Children = true
is_rail References References = true
is_rail rail other = false

abbrev pub is_link : Link → Link → Bool
is_link First First = true
is_link Last Last = true
is_link Previous Previous = true
is_link Next Next = true
is_link link other = false

-- a link of a slot names another slot. Every other link of it, its other fields, and all other
-- slots are as they were
pub record SetsLink (rail : Rail) (link : Link) (slot to : Slot) (old new : Pages) : Type 0 where
  pub links : (r : Rail) (l : Link) (n : ℕ) → link_at r l n new
      ≡ (if is_link l link && is_rail r rail && n == slot.0 then Some to else link_at r l n old)
  pub fields : (n : ℕ) → others_at rail n new ≡ others_at rail n old
  pub kinds : (n : ℕ) → kind_at n new ≡ kind_at n old
  pub rows : KeepsOthers slot.0 old new
  pub header : header_of new ≡ header_of old
  pub count : live_count new ≡ live_count old
  pub pages : ChangesOnly (slot_page slot.0 ∷ []) old new
  pub as_many : page_count new ≡ page_count old

-- That the redirects stand before all other visits of a list.
use Rattle.std.specs.Prelude.{◌≡◌, Bool, true, false, List, ◌++◌, Option, Some}
use Rattle.std.specs.List.{list_all, list_any}
use Rattle.pl_base.specs.declared.id.Slot.{Slot}
use Rattle.pl_base.specs.Redirects.{is_redirect}
use Rattle.pl_record.specs.Rows.{row_in}
use Rattle.pl_sheets.specs.Sheets.{Pages}
use Rattle.pl_slot.specs.declared.row.SlotRow.{SlotRow}
use Rattle.pl_slot.specs.declared.row.SlotRow.TheVariants as rows

-- the row is that of a visit which a redirect made
abbrev pub is_redirect_row : Option SlotRow → Bool
is_redirect_row
    (Some (rows.Visit transition live_previous live_next id page page_previous page_next source
    target_previous target_next first_target last_target date)) =
    is_redirect transition
is_redirect_row row = false

-- the slot holds such a visit
abbrev pub holds_redirect : Pages → Slot → Bool
holds_redirect pages slot = is_redirect_row (row_in slot pages)

-- all slots of a front hold redirects, and none behind it does
pub record HasRedirectsFirst (slots : List Slot) (pages : Pages) : Type 0 where
  pub front : List Slot
  pub back : List Slot
  pub whole : slots ≡ front ++ back
  pub redirects : list_all (holds_redirect pages) front ≡ true
  pub others : list_any (holds_redirect pages) back ≡ false

-- The pages of a store before its first command: the roots stand in the first six slots, by their
-- ids, and two slots are free.
use Rattle.std.specs.Prelude.{ℕ, ◌+◌, ◌*◌, List, [], ◌∷◌, ◌++◌, map, replicate}
use Rattle.std.specs.Int.{w32, to_le_bytes}
use Rattle.std.specs.List.{flat_map}
use Rattle.pl_base.specs.declared.id.Slot.{Slot}
use Rattle.pl_base.specs.declared.item.ItemKind.TheVariants.{Folder}
use Rattle.pl_base.specs.Live.{slot_size}
use Rattle.pl_base.specs.Touched.{page_size}
use Rattle.pl_record.specs.Form.{form_name}
use Rattle.pl_rail.specs.Rails.{none}
use Rattle.pl_sheets.specs.Sheets.{Pages, unchanged, with_blank, with_bytes}
use Rattle.pl_slot.specs.declared.row.SlotRow.{SlotRow}
use Rattle.pl_slot.specs.declared.row.SlotRow.TheVariants.{Free, Item}
use Rattle.pl_slot.specs.Slot.{slot_bytes}

abbrev pub slot : ℕ → Slot
slot n = record { 0 = n }

-- a root, with the slots beside it among all items, its parent, the slots beside it among the
-- parent's children, and its first child and its last one
abbrev pub root_row : ℕ → ℕ → ℕ → ℕ → ℕ → ℕ → ℕ → ℕ → SlotRow
root_row id before behind parent previous next first last =
    Item Folder (slot before) (slot behind) (record { 0 = id }) (slot parent) (slot previous)
    (slot next) (slot first) (slot last) none none none none 0 (record { 0 = 0 })
    (record { 0 = 0 })

abbrev pub opening_rows : List SlotRow
opening_rows =
    root_row 1 0 2 0 0 0 2 6 ∷ root_row 2 1 3 1 0 3 0 0 ∷ root_row 3 2 4 1 2 4 0 0
    ∷ root_row 4 3 5 1 3 5 0 0 ∷ root_row 5 4 6 1 4 6 0 0 ∷ root_row 6 5 0 1 5 0 0 0
    ∷ Free (slot 8) ∷ Free none ∷ []

-- the header: its text, three pages, day 0, the next ids, the first free slot, the chains of
-- origins, pages, visits and items, and six live slots
abbrev pub opening_header : List ℕ
opening_header =
    form_name
    ++ flat_map (to_le_bytes w32)
    (3 ∷ 0 ∷ 1 ∷ 1 ∷ 7 ∷ 7 ∷ 0 ∷ 0 ∷ 0 ∷ 0 ∷ 0 ∷ 0 ∷ 1 ∷ 6 ∷ 6 ∷ [])

-- rows in the slots of page 2, from one on
abbrev pub with_rows : ℕ → List SlotRow → Pages → Pages
with_rows n [] pages = pages
with_rows n (row ∷ rows) pages =
    with_rows (n + 1) rows (with_bytes 2 (slot_size * n) (slot_bytes row) pages)

-- made over page 0 alone
abbrev pub opening_pages : Pages
opening_pages =
    with_rows 0 opening_rows
    (with_bytes 1 0 opening_header (with_blank (with_blank (unchanged (replicate page_size 0)))))

-- the slots of the roots by their ids
abbrev pub opening_items : List (ℕ × Slot)
opening_items = map (λ n. (n, slot n)) (1 ∷ 2 ∷ 3 ∷ 4 ∷ 5 ∷ 6 ∷ [])

-- Texts in slots of which nothing is known but that they hold rows.
use Rattle.std.specs.Prelude.{ℕ, zero, suc, List, [], ◌∷◌, ◌++◌, map, Option, Some, None}
use Rattle.std.specs.List.{flat_map, sum_by}
use Rattle.std.specs.Option.{option_and_then}
use Rattle.pl_base.specs.declared.id.Slot.{Slot}
use Rattle.pl_record.specs.declared.rows.Item.{Item}
use Rattle.pl_record.specs.declared.rows.Place.{Place}
use Rattle.pl_record.specs.declared.rows.TextAt.{TextAt}
use Rattle.pl_sheets.specs.Sheets.{Pages}
use Rattle.pl_slot.specs.declared.row.SlotRow.{SlotRow}
use Rattle.pl_slot.specs.declared.row.SlotRow.TheVariants.{Text}
use Rattle.pl_slot.specs.Arena.{live_at}
use Rattle.pl_text.specs.Chunks.{HasText, chunk_count}

-- the slot that a part of a text names
abbrev pub next_part : SlotRow → Option Slot
next_part (Text used next payload) = Some next
next_part row = None

-- so many slots along the parts of a text, from a slot on
abbrev pub parts_from : ℕ → Option Slot → Pages → List ℕ
parts_from zero slot pages = []
parts_from (suc n) None pages = []
parts_from (suc n) (Some slot) pages =
    slot.0 ∷ parts_from n (option_and_then next_part (live_at slot.0 pages)) pages

-- the slots of a text
abbrev pub text_parts : Pages → TextAt → List ℕ
text_parts pages text = parts_from (chunk_count text.length) (Some text.slot) pages

-- a text is there
abbrev pub IsHeld : Pages → TextAt → Type 0
IsHeld pages text = HasText text.slot text.length pages

-- how many slots texts want by their lengths
abbrev pub wanted : List TextAt → ℕ
wanted texts = sum_by (λ (t : TextAt). chunk_count t.length) texts

-- the texts of pages and of items: the URL and the title of each page, then the title of each item
abbrev pub page_texts : Place → List TextAt
page_texts p = p.url ∷ p.title ∷ []

abbrev pub row_texts : List Place → List Item → List TextAt
row_texts places items = flat_map page_texts places ++ map (λ (i : Item). i.title) items

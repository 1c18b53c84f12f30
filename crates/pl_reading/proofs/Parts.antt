-- The slots of a text are those that its parts name.
use Rattle.std.proofs.Common.{◌≡◌, ◌∙◌, ◌∷◌, ◌++◌, ◌+◌, ◌<◌, [], ℕ, List, Option, Some, ap, append-nil, drop, get_or}
use Rattle.std.proofs.Common.{length, refl, sym, take}
use Rattle.std.proofs.lemmas.Grind.{flat_map-append}
use Rattle.std.proofs.lemmas.List.{take_more}
use Rattle.std.specs.List.{flat_map}
use Rattle.std.specs.Option.{option_and_then}
use Rattle.pl_base.specs.declared.id.Slot.{Slot}
use Rattle.pl_reading.specs.Texts.{IsHeld, next_part, parts_from, text_parts}
use Rattle.pl_record.specs.declared.rows.TextAt.{TextAt}
use Rattle.pl_sheets.specs.Sheets.{Pages}
use Rattle.pl_slot.specs.Arena.{first_in}
use Rattle.pl_slot.specs.Slot.{payload_size}
use Rattle.pl_text.specs.Chunks.{AreChunks, Hold, chunk_count}
use Rattle.pl_text.proofs.HeldTexts.{held_count}

pub held_parts : (ns text : List ℕ) (pages : Pages) → Hold ns text pages
    → parts_from (length ns) (Some (first_in ns)) pages ≡ ns
held_parts [] text pages held = refl
held_parts (n ∷ ns) text pages held =
    ap (λ (o : Option Slot). n ∷ parts_from (length ns) o pages) (ap (option_and_then next_part) held.1)
    ∙ ap (λ (ms : List ℕ). n ∷ ms) (held_parts ns (drop payload_size text) pages held.2)

-- the slots that hold a text are found along them
pub parts_are : (ns text : List ℕ) (at : TextAt) (pages : Pages) → Hold ns text pages → at.slot ≡ first_in ns
    → length text ≡ at.length → text_parts pages at ≡ ns
parts_are ns text at pages held first size =
    let count : chunk_count at.length ≡ length ns = sym (held_count ns text pages held ∙ ap chunk_count size) in
    ap (λ (k : ℕ). parts_from k (Some at.slot) pages) count
    ∙ ap (λ (s : Slot). parts_from (length ns) (Some s) pages) first ∙ held_parts ns text pages held

pub chunks_are : (ns : List ℕ) (at : TextAt) (pages : Pages) → AreChunks ns at.slot at.length pages
    → ns ≡ text_parts pages at
chunks_are ns at pages are = sym (parts_are ns are.text at pages are.held are.first are.size_is)

-- slots of which these are the parts hold a text
pub held_there : (ns : List ℕ) (at : TextAt) (pages : Pages) → AreChunks ns at.slot at.length pages
    → IsHeld pages at
held_there ns at pages are =
    (are.text, record { slots = ns; first = are.first; held = are.held }, are.size_is)

-- one text more
pub parts_more : (pages : Pages) (texts : List TextAt) (k : ℕ) (d : TextAt) (old new parts : List ℕ)
    → k < length texts → old ≡ flat_map (text_parts pages) (take k texts) → new ≡ old ++ parts → parts ≡ text_parts pages (get_or texts k d)
    → new ≡ flat_map (text_parts pages) (take (k + 1) texts)
parts_more pages texts k d old new parts within so_far more these =
    more ∙ (λ i. so_far i ++ these i)
    ∙ ap (λ (ns : List ℕ). flat_map (text_parts pages) (take k texts) ++ ns)
    (sym (append-nil (text_parts pages (get_or texts k d))))
    ∙ sym (flat_map-append (text_parts pages) (take k texts) (get_or texts k d ∷ []))
    ∙ ap (flat_map (text_parts pages)) (sym (take_more texts k d within))

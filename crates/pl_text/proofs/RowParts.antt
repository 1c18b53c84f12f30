-- The row of a part of a text, made and read.
use Rattle.std.proofs.Common.{◌≡◌, ◌∙◌, ◌==◌, ◌+◌, ◌-◌, ◌^◌, ◌<◌, ◌≤◌, ◌∷◌, ◌++◌, ◌&&◌, [], ℕ, List, ap, arith}
use Rattle.std.proofs.Common.{drop, is_some, leb-true, length, length-append, length-drop, nat_le, refl, replicate}
use Rattle.std.proofs.Common.{Some, suc, sym, take, true, zero}
use Rattle.std.proofs.lemmas.Bool.{and_from, and_parts, le-leb}
use Rattle.std.proofs.lemmas.List.{length-replicate, length-take-le, take-append-drop}
use Rattle.std.proofs.Math.Seq.{drop-append_seam}
use Rattle.std.specs.List.{list_all}
use Rattle.std.specs.Option.{option_and_then}
use Rattle.pl_base.specs.declared.id.Slot.{Slot}
use Rattle.pl_base.proofs.ListLaws.{all_zeros, zeros_are}
use Rattle.pl_sheets.specs.Sheets.{Pages}
use Rattle.pl_slot.specs.declared.row.SlotRow.{SlotRow}
use Rattle.pl_slot.specs.declared.row.SlotRow.TheVariants.{Free, Origin, Place, Visit, Item, Text}
use Rattle.pl_slot.specs.Arena.{is_live, is_slot, IsLiveRow, live_row, row_at}
use Rattle.pl_slot.specs.Slot.{IsSlotRow, payload_size}
use Rattle.pl_slot.proofs.ArenaLaws.{live_slot}
use Rattle.pl_text.specs.Chunks.{chunk_row, HoldsPart, IsPart}

-- ---- made

pub row_fits : (part : List ℕ) (next : Slot) → 1 ≤ length part → length part ≤ payload_size → next.0 < 2 ^ 32
    → IsLiveRow (chunk_row part next)
row_fits part next some few there =
    let rest : List ℕ = replicate (payload_size - length part) 0 in
    let long : length (part ++ rest) ≡ payload_size =
    length-append part rest ∙ ap (λ n. length part + n) (length-replicate (payload_size - length part) 0) ∙ filled few in
    let behind : list_all (λ b. b == 0) (drop (length part) (part ++ rest)) ≡ true =
    ap (λ (l : List ℕ). list_all (λ b. b == 0) l) (drop-append_seam part rest) ∙ all_zeros (payload_size - length part) in
    let bounds =
    and_from (nat_le 1 (length part)) (nat_le (length part) payload_size) (le-leb 1 (length part) some)
    (le-leb (length part) payload_size few) in (
      refl,
      (
        (there, tt),
        long,
        and_from (nat_le 1 (length part) && nat_le (length part) payload_size)
            (list_all (λ b. b == 0) (drop (length part) (part ++ rest))) bounds behind,
      ),
    )
  where
    filled : length part ≤ payload_size → length part + (payload_size - length part) ≡ payload_size
    filled within = omega arith

-- what is written over zeros
pub over_zeros : (part : List ℕ) (n : ℕ)
    → drop (length part) (replicate {A = ℕ} n 0) ≡ replicate (n - length part) 0
over_zeros [] n = ap (λ (k : ℕ). replicate k 0) (all n)
  where
    all : (n : ℕ) → n ≡ n - 0
    all n = omega arith
over_zeros (b ∷ part) zero = ap (λ (k : ℕ). replicate k 0) (none (length part))
  where
    none : (k : ℕ) → 0 ≡ 0 - suc k
    none k = omega arith
over_zeros (b ∷ part) (suc n) = over_zeros part n ∙ ap (λ (k : ℕ). replicate k 0) (less n (length part))
  where
    less : (n k : ℕ) → n - k ≡ suc n - suc k
    less n k = omega arith

-- ---- read

whole_row : (used : ℕ) (next : Slot) (payload : List ℕ) → IsSlotRow (Text used next payload)
    → chunk_row (take used payload) next ≡ Text used next payload
whole_row used next payload fits =
    let tests =
    and_parts (nat_le 1 used && nat_le used payload_size) (list_all (λ b. b == 0) (drop used payload)) fits.2 in
    let bounds = and_parts (nat_le 1 used) (nat_le used payload_size) tests.0 in
    let few : used ≤ payload_size = leb-true used payload_size bounds.1 in
    let within : used ≤ length payload = omega (arith, few, fits.1) in
    let long : length (take used payload) ≡ used = length-take-le used payload within in
    let behind : payload_size - used ≡ length (drop used payload) = omega (arith, length-drop used payload, fits.1) in
    let filled : take used payload ++ replicate (payload_size - length (take used payload)) 0 ≡ payload =
    ap (λ (k : ℕ). take used payload ++ replicate (payload_size - k) 0) long
    ∙ ap (λ (k : ℕ). take used payload ++ replicate k 0) behind
    ∙ ap (λ (l : List ℕ). take used payload ++ l) (sym (zeros_are (drop used payload) tests.1))
    ∙ take-append-drop used payload in
    λ i. Text (long i) next (filled i)

pub row_read : (n used : ℕ) (next : Slot) (payload : List ℕ) (pages : Pages)
    → row_at n pages ≡ Some (Text used next payload) → IsSlotRow (Text used next payload)
    → HoldsPart n (take used payload) next pages
row_read n used next payload pages row fits =
    ap (option_and_then live_row) row ∙ ap Some (sym (whole_row used next payload fits))

pub used_fits : (used : ℕ) (next : Slot) (payload : List ℕ) → IsSlotRow (Text used next payload)
    → (used ≤ length payload) × (length (take used payload) ≡ used)
used_fits used next payload fits =
    let tests =
    and_parts (nat_le 1 used && nat_le used payload_size) (list_all (λ b. b == 0) (drop used payload)) fits.2 in
    let bounds = and_parts (nat_le 1 used) (nat_le used payload_size) tests.0 in
    let few : used ≤ payload_size = leb-true used payload_size bounds.1 in
    let within : used ≤ length payload = omega (arith, few, fits.1) in
    (within, length-take-le used payload within)

-- a slot with a part is one, and holds the row of a part
pub part_slot : (n : ℕ) (pages : Pages) → IsPart n pages → is_slot n pages ≡ true
part_slot n pages part = live_slot n pages (ap is_some part.2)

pub part_live : (n : ℕ) (pages : Pages) → IsPart n pages → is_live n pages ≡ true
part_live n pages part = ap is_some part.2

live_is : (row other : SlotRow) → live_row row ≡ Some other → row ≡ other
live_is (Free next) other same = cc
live_is (Origin _ _ _ _ _) other same = cc
live_is (Place _ _ _ _ _ _ _ _ _ _ _ _ _ _ _ _ _ _) other same = cc
live_is (Visit _ _ _ _ _ _ _ _ _ _ _ _ _) other same = cc
live_is (Item _ _ _ _ _ _ _ _ _ _ _ _ _ _ _ _) other same = cc
live_is (Text _ _ _) other same = cc

pub part_row : (n : ℕ) (row : SlotRow) (part : List ℕ) (next : Slot) (pages : Pages) → row_at n pages ≡ Some row
    → HoldsPart n part next pages → row ≡ chunk_row part next
part_row n row part next pages is holds =
    live_is row (chunk_row part next) (sym (ap (option_and_then live_row) is) ∙ holds)

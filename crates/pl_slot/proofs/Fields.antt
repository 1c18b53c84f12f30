-- Fields put to their places in bytes that are 0.
use Rattle.std.proofs.Common.{◌≡◌, ◌∙◌, ◌+◌, ◌-◌, ◌≤◌, ◌&&◌, ℕ, Bool, true, List, [], ◌∷◌, ◌++◌, length, take, drop}
use Rattle.std.proofs.Common.{replicate, sym, ap, refl, arith, append_assoc, nat_le}
use Rattle.std.proofs.Math.Seq.{take-append-add, drop-append-add}
use Rattle.std.proofs.lemmas.Bool.{and_parts, leb-true}
use Rattle.std.proofs.lemmas.List.{drop-replicate, length-append, length-replicate, take-replicate}
use Rattle.pl_base.specs.declared.id.Slot.{Slot}
use Rattle.pl_base.specs.Live.{slot_size}
use Rattle.pl_slot.specs.declared.row.SlotRow.{SlotRow}
use Rattle.pl_slot.specs.declared.row.SlotRow.TheVariants.{Text}
use Rattle.pl_slot.specs.Slot.{Field, byte_at, eight_at, laid, payload_size, slot_bytes, slot_fields}
use Rattle.pl_slot.specs.SlotWriting.{put, written}

-- from a byte on the fields lie one behind another, and within so many bytes
abbrev pub are_apart : ℕ → ℕ → List Field → Bool
are_apart size from [] = nat_le from size
are_apart size from (field ∷ fields) =
    nat_le from field.0 && are_apart size (field.0 + length field.1) fields

are_within : (size from : ℕ) (fields : List Field) → are_apart size from fields ≡ true → from ≤ size
are_within size from [] apart = leb-true from size apart
are_within size from (field ∷ fields) apart =
    let parts = and_parts (nat_le from field.0) (are_apart size (field.0 + length field.1) fields) apart in
    omega (arith, leb-true from field.0 parts.0, are_within size (field.0 + length field.1) fields parts.1)

-- the bytes before and behind a field
put_zeros : (front part : List ℕ) (at n : ℕ) → length front ≤ at → at + length part ≤ n
    → put (at, part) (front ++ replicate (n - length front) 0)
    ≡ front ++ replicate (at - length front) 0 ++ part ++ replicate (n - (at + length part)) 0
unfolding put
put_zeros front part at n behind within =
    let gap = at - length front in
    let far = at + length part in
    let zeros : List ℕ = replicate (n - length front) 0 in
    let start : at ≡ length front + gap = omega arith in
    let next : far ≡ length front + (gap + length part) = omega arith in
    let before : take at (front ++ zeros) ≡ front ++ replicate gap 0 =
    ap (λ (k : ℕ). take k (front ++ zeros)) start ∙ take-append-add front zeros gap
    ∙ ap (λ l. front ++ l) (take-replicate gap (n - length front) 0 (omega arith)) in
    let left : n - length front - (gap + length part) ≡ n - far = omega arith in
    let after : drop far (front ++ zeros) ≡ replicate (n - far) 0 =
    ap (λ (k : ℕ). drop k (front ++ zeros)) next ∙ drop-append-add front zeros (gap + length part)
    ∙ drop-replicate (gap + length part) (n - length front) 0
    ∙ ap (λ (k : ℕ). replicate k 0) left in
    ap (λ l. l ++ part ++ drop far (front ++ zeros)) before ∙ ap (λ l. front ++ replicate gap 0 ++ part ++ l) after

-- fields that are put one after another lie as they are laid
written_behind : (size from : ℕ) (fields : List Field) (front : List ℕ) → length front ≡ from
    → are_apart size from fields ≡ true
    → written fields (front ++ replicate (size - from) 0) ≡ front ++ laid size from fields
written_behind size from [] front len apart = refl
written_behind size from (field ∷ fields) front len apart =
    let at = field.0 in
    let part = field.1 in
    let far = at + length part in
    let parts = and_parts (nat_le from at) (are_apart size far fields) apart in
    let behind : length front ≤ at = omega (arith, len, leb-true from at parts.0) in
    let within = are_within size far fields parts.1 in
    let gap : List ℕ = replicate (at - from) 0 in
    let more = front ++ gap ++ part in
    let zeros : put field (front ++ replicate (size - from) 0) ≡ more ++ replicate (size - far) 0 =
    ap (λ (k : ℕ). put field (front ++ replicate (size - k) 0)) (sym len)
    ∙ put_zeros front part at size behind within
    ∙ ap (λ (k : ℕ). front ++ replicate (at - k) 0 ++ part ++ replicate (size - far) 0) len in
    let long : length more ≡ far =
    length-append (front ++ gap) part
    ∙ ap (λ (k : ℕ). k + length part)
    (length-append front gap ∙ ap (λ (k : ℕ). length front + k) (length-replicate (at - from) 0))
    ∙ omega (arith, len, leb-true from at parts.0) in
    ap (written fields) zeros
    ∙ written_behind size far fields more long parts.1
    ∙ ap (λ l. l ++ laid size far fields) (append_assoc front gap part)
    ∙ append_assoc front (gap ++ part) (laid size far fields)

written_laid : (size : ℕ) (fields : List Field) → are_apart size 0 fields ≡ true
    → written fields (replicate size 0) ≡ laid size 0 fields
written_laid size fields apart =
    ap (λ (k : ℕ). written fields (replicate k 0)) (omega arith) ∙ written_behind size 0 fields [] refl apart

-- the bytes of a row are its fields, put one after another
pub laid_as : (bytes : List ℕ) (given row : SlotRow) → given ≡ row
    → are_apart slot_size 0 (slot_fields row) ≡ true
    → bytes ≡ written (slot_fields row) (replicate slot_size 0) → bytes ≡ slot_bytes given
laid_as bytes given row same apart put_there =
    put_there ∙ written_laid slot_size (slot_fields row) apart ∙ ap slot_bytes (sym same)

-- ---- a field more

pub and_one : (field : Field) (new old from : List ℕ) → new ≡ put field old → old ≡ from → new ≡ put field from
and_one field new old from more so_far = more ∙ ap (put field) so_far

pub and_two : (first second : Field) (new old from : List ℕ) → new ≡ put second (put first old) → old ≡ from
    → new ≡ put second (put first from)
and_two first second new old from more so_far = more ∙ ap (λ l. put second (put first l)) so_far

pub and_byte : (at n m : ℕ) (new old from : List ℕ) → new ≡ put (byte_at at n) old → n ≡ m → old ≡ from
    → new ≡ put (byte_at at m) from
and_byte at n m new old from more same so_far =
    more ∙ ap (λ (k : ℕ). put (byte_at at k) old) same ∙ ap (put (byte_at at m)) so_far

pub and_eight : (at n m : ℕ) (new old from : List ℕ) → new ≡ put (eight_at at n) old → n ≡ m → old ≡ from
    → new ≡ put (eight_at at m) from
and_eight at n m new old from more same so_far =
    more ∙ ap (λ (k : ℕ). put (eight_at at k) old) same ∙ ap (put (eight_at at m)) so_far

pub text_apart : (used : ℕ) (next : Slot) (payload : List ℕ) → length payload ≡ payload_size
    → are_apart slot_size 0 (slot_fields (Text used next payload)) ≡ true
text_apart used next payload len = ap (λ (k : ℕ). nat_le (8 + k) slot_size) len

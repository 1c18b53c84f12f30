-- A row is read back from the bytes that it has.
use Rattle.std.proofs.Common.{◌≡◌, ◌∙◌, ◌==◌, ◌||◌, ◌++◌, ◌+◌, ◌-◌, ◌≤◌, ◌&&◌, ℕ, ℤ, Bool, true, false, List, []}
use Rattle.std.proofs.Common.{◌∷◌, arith, cond, map, Option, slice_range, take}
use Rattle.std.specs.Str.{bytes_eq}
use Rattle.std.proofs.lemmas.Slice.Eq.{bytes_eq-Decides}
use Rattle.std.specs.List.{list_all}
use Rattle.std.proofs.Common.{IsSome, None, Some, ap, drop, inl, inr, length, refl, replicate, slice_index, sym, w32, w64, if◌then◌else◌}
use Rattle.std.specs.Int.{cast_signed, cast_unsigned, from_le_bytes, to_le_bytes}
use Rattle.std.specs.Option.{option_and_then, option_map}
use Rattle.std.specs.Int.RustNames.{FitsSigned}
use Rattle.std.proofs.Math.Facts.{Fits-lt-pow, Fits-of_z}
use Rattle.std.proofs.lemmas.Int.{to_z-of_z}
use Rattle.std.proofs.Math.Seq.{take-length}
use Rattle.std.proofs.lemmas.Bool.{cases_Bool, le-leb, true≢false}
use Rattle.std.proofs.lemmas.List.{append-nil, length-append, length-drop}
use Rattle.std.proofs.lemmas.Nat.{from_le_bytes-to_le_bytes_4, from_le_bytes-to_le_bytes_8}
use Rattle.pl_base.specs.declared.date.Micros.{Micros}
use Rattle.pl_base.specs.declared.id.Slot.{Slot}
use Rattle.pl_base.specs.declared.item.ItemKind.{ItemKind}
use Rattle.pl_base.specs.declared.transition.Transition.{Transition}
use Rattle.pl_base.specs.ItemKind.{item_kind_at}
use Rattle.pl_base.specs.Live.{slot_size}
use Rattle.pl_base.specs.Transition.{transition_at}
use Rattle.pl_base.proofs.KindNumbers.{kind_again, transition_again}
use Rattle.pl_slot.specs.declared.kind.SlotKind.TheVariants as kinds
use Rattle.pl_slot.specs.declared.row.SlotRow.{SlotRow}
use Rattle.pl_slot.specs.declared.row.SlotRow.TheVariants.{Free, Origin, Place, Visit, Item, Text}
use Rattle.pl_slot.specs.Slot.{AreFours, IsSlotRow, is_payload, marks_byte, payload_size, slot_bytes}
use Rattle.pl_slot.specs.SlotReading.{item_in, mark_in, row_in, row_of, row_of_kind, slot_in, text_in, visit_in}

-- numbers as they are read from their 4 bytes
again : List ℕ → List ℕ
again ns = map (λ n. from_le_bytes w32 (to_le_bytes w32 n)) ns

again_is : (ns : List ℕ) → AreFours ns → again ns ≡ ns
unfolding again
again_is [] fits = refl
again_is (n ∷ ns) fits =
    let head = from_le_bytes-to_le_bytes_4 n fits.0 in
    let rest = again_is ns fits.1 in
    ap (λ m. m ∷ again ns) head ∙ ap (λ l. n ∷ l) rest

-- a number of 8 bytes with its sign
signed_again : (z : ℤ) → FitsSigned w64 z
    → cast_signed w64 (from_le_bytes w64 (to_le_bytes w64 (cast_unsigned w64 z))) ≡ z
signed_again z fits =
    let small = Fits-lt-pow {w = w64} {n = cast_unsigned w64 z} (Fits-of_z {w = w64} {z = z} fits) in
    ap (cast_signed w64) (from_le_bytes-to_le_bytes_8 (cast_unsigned w64 z) small) ∙ to_z-of_z w64 z fits

-- the slot among numbers that were read
abbrev named : List ℕ → ℕ → Slot
named ns i = record { 0 = slice_index ns i }

abbrev micros : ℕ → Micros
micros n = record { 0 = n }

abbrev place_of : Bool → Bool → ℤ → List ℕ → SlotRow
place_of typed hidden frecency ns =
    Place typed hidden (named ns 0) (named ns 1) (record { 0 = slice_index ns 2 }) (named ns 3) (named ns 4)
    (named ns 5) (named ns 6) (named ns 7) (named ns 8) (named ns 9) (named ns 10) (slice_index ns 11) (named ns 12)
    (slice_index ns 13) frecency (slice_index ns 14)

abbrev visit_of : Transition → ℕ → List ℕ → SlotRow
visit_of transition date ns =
    Visit transition (named ns 0) (named ns 1) (record { 0 = slice_index ns 2 }) (named ns 3) (named ns 4) (named ns 5)
    (named ns 6) (named ns 7) (named ns 8) (named ns 9) (named ns 10) (micros date)

abbrev item_of : ItemKind → ℕ → ℕ → List ℕ → SlotRow
item_of kind added modified ns =
    Item kind (named ns 0) (named ns 1) (record { 0 = slice_index ns 2 }) (named ns 3) (named ns 4) (named ns 5)
    (named ns 6) (named ns 7) (named ns 8) (named ns 9) (named ns 10) (named ns 11) (slice_index ns 12) (micros added)
    (micros modified)

-- each mark of a page by the byte of both
marks_again : (typed hidden : Bool)
    → (((marks_byte typed hidden == 1) || (marks_byte typed hidden == 3)) ≡ typed)
    × (((marks_byte typed hidden == 2) || (marks_byte typed hidden == 3)) ≡ hidden)
marks_again false false = (refl, refl)
marks_again true false = (refl, refl)
marks_again false true = (refl, refl)
marks_again true true = (refl, refl)

-- what lies behind the first 8 bytes of a text's slot
payload_again : (payload : List ℕ) → length payload ≡ payload_size
    → payload ++ replicate (slot_size - (8 + length payload)) 0 ≡ payload
payload_again payload len =
    ap (λ (k : ℕ). payload ++ replicate (slot_size - (8 + k)) 0) len ∙ append-nil payload

pub row_back : (row : SlotRow) → IsSlotRow row → row_in (slot_bytes row) ≡ Some row
unfolding again
row_back (Free next) fits = ap (λ ns. Some (Free (named ns 0))) (again_is (next.0 ∷ []) fits)
row_back (Origin live_previous live_next first_page last_page total) fits =
    let ns = live_previous.0 ∷ live_next.0 ∷ first_page.0 ∷ last_page.0 ∷ [] in
    ap (λ l. Some (Origin (named l 0) (named l 1) (named l 2) (named l 3)
    (from_le_bytes w64 (to_le_bytes w64 total)))) (again_is ns fits.0)
    ∙ ap (λ n. Some (Origin live_previous live_next first_page last_page n)) (from_le_bytes-to_le_bytes_8 total fits.1)
row_back
    (Place typed hidden live_previous live_next id origin origin_previous origin_next first_visit
    last_visit first_reference last_reference url_text url_length title_text title_length frecency
    count) fits =
    let ns =
    live_previous.0 ∷ live_next.0 ∷ id.0 ∷ origin.0 ∷ origin_previous.0 ∷ origin_next.0 ∷ first_visit.0
    ∷ last_visit.0 ∷ first_reference.0 ∷ last_reference.0 ∷ url_text.0 ∷ url_length ∷ title_text.0
    ∷ title_length ∷ count ∷ [] in
    let marks = marks_again typed hidden in
    let byte = marks_byte typed hidden in
    let read = cast_signed w64 (from_le_bytes w64 (to_le_bytes w64 (cast_unsigned w64 frecency))) in
    ap (λ t. Some (place_of t ((byte == 2) || (byte == 3)) read (again ns))) marks.0
    ∙ ap (λ h. Some (place_of typed h read (again ns))) marks.1
    ∙ ap (λ z. Some (place_of typed hidden z (again ns))) (signed_again frecency fits.1)
    ∙ ap (λ l. Some (place_of typed hidden frecency l)) (again_is ns fits.0)
row_back
    (Visit transition live_previous live_next id page page_previous page_next source target_previous
    target_next first_target last_target date) fits =
    let ns =
    live_previous.0 ∷ live_next.0 ∷ id.0 ∷ page.0 ∷ page_previous.0 ∷ page_next.0 ∷ source.0 ∷ target_previous.0
    ∷ target_next.0 ∷ first_target.0 ∷ last_target.0 ∷ [] in
    let read = from_le_bytes w64 (to_le_bytes w64 date.0) in
    ap (option_map (λ t. visit_of t read (again ns))) (transition_again transition)
    ∙ ap (λ n. Some (visit_of transition n (again ns))) (from_le_bytes-to_le_bytes_8 date.0 fits.1)
    ∙ ap (λ l. Some (visit_of transition date.0 l)) (again_is ns fits.0)
row_back
    (Item kind live_previous live_next id parent sibling_previous sibling_next first_child last_child page
    reference_previous reference_next title_text title_length added modified) fits =
    let ns =
    live_previous.0 ∷ live_next.0 ∷ id.0 ∷ parent.0 ∷ sibling_previous.0 ∷ sibling_next.0 ∷ first_child.0
    ∷ last_child.0 ∷ page.0 ∷ reference_previous.0 ∷ reference_next.0 ∷ title_text.0 ∷ title_length ∷ [] in
    let first = from_le_bytes w64 (to_le_bytes w64 added.0) in
    let last = from_le_bytes w64 (to_le_bytes w64 modified.0) in
    ap (option_map (λ k. item_of k first last (again ns))) (kind_again kind)
    ∙ ap (λ n. Some (item_of kind n last (again ns))) (from_le_bytes-to_le_bytes_8 added.0 fits.1)
    ∙ ap (λ n. Some (item_of kind added.0 n (again ns))) (from_le_bytes-to_le_bytes_8 modified.0 fits.2)
    ∙ ap (λ l. Some (item_of kind added.0 modified.0 l)) (again_is ns fits.0)
row_back (Text used next payload) fits =
    let read = again (next.0 ∷ []) in
    ap (λ p. if is_payload used p then Some (Text used (named read 0) p) else None) (payload_again payload fits.1)
    ∙ ap (λ ok. if ok then Some (Text used (named read 0) payload) else None) fits.2
    ∙ ap (λ l. Some (Text used (named l 0) payload)) (again_is (next.0 ∷ []) fits.0)

-- the one row that bytes may have is the one that has them
pub row_is : (bytes : List ℕ) (read row : SlotRow) → Some read ≡ row_in bytes → IsSlotRow row
    → bytes ≡ slot_bytes row → read ≡ row
row_is bytes read row found fits spelled =
    let same : Some read ≡ Some row = found ∙ ap row_in spelled ∙ row_back row fits in
    cc

-- bytes are those of one row at most
pub one_row : (a b : SlotRow) → IsSlotRow a → IsSlotRow b → slot_bytes a ≡ slot_bytes b → a ≡ b
one_row a b fits other same = row_is (slot_bytes a) a b (sym (row_back a fits)) other same

-- ---- what is read of bytes

pub visit_read : (b : List ℕ) (t : Transition) (row : SlotRow) → Some t ≡ transition_at (mark_in b) → row ≡ visit_in b t
    → Some row ≡ row_of_kind b kinds.Visit
visit_read b t row known read = ap Some read ∙ ap (option_map (visit_in b)) known

pub item_read : (b : List ℕ) (k : ItemKind) (row : SlotRow) → Some k ≡ item_kind_at (mark_in b) → row ≡ item_in b k
    → Some row ≡ row_of_kind b kinds.Item
item_read b k row known read = ap Some read ∙ ap (option_map (item_in b)) known

-- the bytes from one up to the last
rest_of : (n from : ℕ) (b : List ℕ) → length b ≡ n → slice_range b from n ≡ drop from b
rest_of n from b len =
    let long : n - from ≡ length (drop from b) = omega (arith, len, length-drop from b) in
    ap (λ (k : ℕ). take k (drop from b)) long ∙ take-length (drop from b)

pub text_not : (b payload : List ℕ) → length b ≡ slot_size → payload ≡ slice_range b 8 slot_size
    → is_payload (mark_in b) payload ≡ false → None ≡ text_in b
text_not b payload len part bad =
    let found = sym bad ∙ ap (is_payload (mark_in b)) (part ∙ rest_of slot_size 8 b len) in
    ap (λ ok. if ok then Some (Text (mark_in b) (slot_in 4 b) (drop 8 b)) else None) found

pub text_read : (b payload : List ℕ) (next : Slot) → length b ≡ slot_size → payload ≡ slice_range b 8 slot_size
    → is_payload (mark_in b) payload ≡ true → next ≡ slot_in 4 b → Some (Text (mark_in b) next payload) ≡ text_in b
text_read b payload next len part good named_there =
    let same = part ∙ rest_of slot_size 8 b len in
    let found = sym good ∙ ap (is_payload (mark_in b)) same in
    let row : Some (Text (mark_in b) next payload) ≡ Some (Text (mark_in b) (slot_in 4 b) (drop 8 b)) =
    λ i. Some (Text (mark_in b) (named_there i) (same i)) in
    row ∙ ap (λ ok. if ok then Some (Text (mark_in b) (slot_in 4 b) (drop 8 b)) else None) found

pub payload_with : (used from : ℕ) (payload : List ℕ) (ok : Bool) → length payload ≡ payload_size → from ≡ used
    → 1 ≤ used → used ≤ payload_size → ok ≡ list_all (λ b. b == 0) (slice_range payload from payload_size)
    → ok ≡ is_payload used payload
payload_with used from payload ok len same some few zeros =
    let first = le-leb 1 used some in
    let last = le-leb used payload_size few in
    let rest = rest_of payload_size from payload len ∙ ap (λ (k : ℕ). drop k payload) same in
    zeros ∙ ap (list_all (λ b. b == 0)) rest
    ∙ λ i. (sym first i) && (sym last i) && list_all (λ b. b == 0) (drop used payload)

-- ---- the row whose bytes these are

abbrev spelled_as : List ℕ → SlotRow → Option SlotRow
spelled_as bytes row = if bytes_eq (slot_bytes row) bytes then Some row else None

pub row_told : (bytes : List ℕ) (row : SlotRow) → Some row ≡ row_in bytes
    → bytes_eq (slot_bytes row) bytes ≡ true → Some row ≡ row_of bytes
unfolding row_of
row_told bytes row found same =
    sym (ap (option_and_then (spelled_as bytes)) (sym found) ∙ ap (λ b. cond b (Some row) None) same)

pub row_refused : (bytes : List ℕ) (row : SlotRow) → Some row ≡ row_in bytes
    → bytes_eq (slot_bytes row) bytes ≡ false → None ≡ row_of bytes
unfolding row_of
row_refused bytes row found other =
    sym (ap (option_and_then (spelled_as bytes)) (sym found) ∙ ap (λ b. cond b (Some row) None) other)

pub row_missing : (bytes : List ℕ) → None ≡ row_in bytes → None ≡ row_of bytes
unfolding row_of
row_missing bytes none = sym (ap (option_and_then (spelled_as bytes)) (sym none))

pub row_spelled : (row : SlotRow) → IsSlotRow row → row_of (slot_bytes row) ≡ Some row
row_spelled row fits =
    sym (row_told (slot_bytes row) row (sym (row_back row fits)) ((bytes_eq-Decides (slot_bytes row) (slot_bytes row)).1 refl))

-- bytes of a row are those that it has, and give it when they are read
found_in : (bytes : List ℕ) (read : Option SlotRow) (row : SlotRow)
    → option_and_then (spelled_as bytes) read ≡ Some row
    → (bytes ≡ slot_bytes row) × (read ≡ Some row)
found_in bytes None row is = absurd (nothing row is)
  where
    nothing : (b : SlotRow) → None ≡ Some b → ⊥
    nothing b same = cc
found_in bytes (Some read) row is = elim (cases_Bool (bytes_eq (slot_bytes read) bytes)) [
  | inl same ↦
      let here : Some read ≡ Some row = sym (ap (λ b. cond b (Some read) None) same) ∙ is in
      (sym ((bytes_eq-Decides (slot_bytes read) bytes).0 same) ∙ ap slot_bytes (unwrapped read row here), here)
  | inr other ↦ absurd (nothing row (sym (ap (λ b. cond b (Some read) None) other) ∙ is))
]
  where
    unwrapped : (a b : SlotRow) → Some a ≡ Some b → a ≡ b
    unwrapped a b same = cc

    nothing : (b : SlotRow) → None ≡ Some b → ⊥
    nothing b same = cc

pub row_bytes : (bytes : List ℕ) (row : SlotRow) → row_of bytes ≡ Some row
    → (bytes ≡ slot_bytes row) × (row_in bytes ≡ Some row)
unfolding row_of
row_bytes bytes row is = found_in bytes (row_in bytes) row is

-- bytes of a row are read without comparing
pub row_known : (bytes : List ℕ) → IsSome (row_of bytes) → row_of bytes ≡ row_in bytes
row_known bytes some = known (row_of bytes) refl some
  where
    known : (found : Option SlotRow) → row_of bytes ≡ found → IsSome found → row_of bytes ≡ row_in bytes
    known None is some = absurd (true≢false (sym some))
    known (Some row) is some = is ∙ sym (row_bytes bytes row is).1

pub length-slot_bytes : (row : SlotRow) → IsSlotRow row → length (slot_bytes row) ≡ slot_size
length-slot_bytes (Free next) fits = refl
length-slot_bytes (Origin live_previous live_next first_page last_page total) fits = refl
length-slot_bytes
    (Place typed hidden live_previous live_next id origin origin_previous origin_next first_visit
    last_visit first_reference last_reference url_text url_length title_text title_length frecency
    count) fits = refl
length-slot_bytes
    (Visit transition live_previous live_next id page page_previous page_next source
    target_previous target_next first_target last_target date) fits = refl
length-slot_bytes
    (Item kind live_previous live_next id parent sibling_previous sibling_next first_child
    last_child page reference_previous reference_next title_text title_length added modified) fits = refl
length-slot_bytes (Text used next payload) fits =
    let head : List ℕ = 5 ∷ used ∷ 0 ∷ 0 ∷ to_le_bytes w32 next.0 in
    ap (λ (l : List ℕ). length (head ++ l)) (payload_again payload fits.1)
    ∙ length-append head payload
    ∙ ap (λ (n : ℕ). 8 + n) fits.1

-- Entries that are written, and read back.
use Rattle.std.specs.Int.{w64, from_le_bytes, to_le_bytes}
use Rattle.std.proofs.Common.{◌≡◌, ℕ, ◌+◌, ◌-◌, ◌*◌, ◌≤◌, ◌<◌, ◌^◌, min, List, [], ◌∷◌, ◌++◌, length, take, drop}
use Rattle.std.proofs.Common.{replicate, slice_range, refl, sym, ◌∙◌, ap, subst, arith}
use Rattle.std.proofs.Common.{append_assoc, length-append}
use Rattle.std.proofs.lemmas.List.{take-take, drop-drop, drop-take, length-take, length-replicate}
use Rattle.std.proofs.lemmas.Nat.{from_le_bytes-to_le_bytes_8}
use Rattle.std.proofs.Math.Seq.{take-append_seam, drop-append_seam}
use Rattle.pl_base.specs.Touched.{PageImage, page_size}
use Rattle.pl_desk.specs.Desk.{Torn, overwritten}
use Rattle.pl_desk.specs.Overwritten.{torn_overwritten}
use Rattle.pl_gate.specs.Device.{TornIn, entry_bytes, entry_ranges, with_entries}
use Rattle.pl_gate.specs.Gate.{entries, entry_at, entry_size}
use Rattle.pl_gate.proofs.Bytes.{same_in_front}

-- an entry that can be written
pub record IsEntry (p : PageImage) : Type 0 where
  pub number : p.page < 2 ^ 64
  pub whole : length p.image ≡ page_size

abbrev pub AreEntries : List PageImage → Type 0
AreEntries [] = Unit {0}
AreEntries (p ∷ pages) = IsEntry p × AreEntries pages

length-entry : (p : PageImage) → IsEntry p → length (entry_bytes p) ≡ entry_size
length-entry p is = omega (arith, length-append (to_le_bytes w64 p.page) p.image, is.whole)

-- what the bytes of a write are, and how long the file is then
pub overwritten_range : (at : ℕ) (bytes file : List ℕ)
    → (slice_range (overwritten 0 at bytes file) at (at + length bytes) ≡ bytes)
    × (at + length bytes ≤ length (overwritten 0 at bytes file))
overwritten_range at bytes file =
    let gap = replicate (at - length file) 0 in
    let head = take at file ++ gap in
    let len : length head ≡ at =
    omega (
      arith,
      length-append (take at file) gap,
      length-take at file,
      length-replicate {A = ℕ} (at - length file) 0,
    ) in
    let back = drop (at + length bytes) file in
    let split : overwritten 0 at bytes file ≡ head ++ (bytes ++ back) = append_assoc head bytes back in
    let size : (at + length bytes) - at ≡ length bytes = omega arith in
    let behind : drop at (overwritten 0 at bytes file) ≡ bytes ++ back =
    ap (drop at) split ∙ ap (λ (k : ℕ). drop k (head ++ (bytes ++ back))) (sym len)
    ∙ drop-append_seam head (bytes ++ back) in (
      ap (λ (k : ℕ). take k (drop at (overwritten 0 at bytes file))) size ∙ ap (take (length bytes)) behind
          ∙ take-append_seam bytes back,
      omega (arith, len, length-append (head ++ bytes) back, length-append head bytes),
    )

-- writes behind a front leave it
pub front_kept : (pages : List PageImage) (at m : ℕ) (old new : List ℕ) → m ≤ at → m ≤ length old
    → TornIn (entry_ranges at pages) old new → take m new ≡ take m old
front_kept [] at m old new le long torn = ap (take m) torn
front_kept (p ∷ pages) at m old new le long (mid, torn, rest) =
    front_kept pages (at + entry_size) m mid new (omega (arith, le)) (omega (arith, long, torn.no_shorter)) rest
    ∙ sym (take-take m (min at (length old)) mid (omega (arith, le, long))) ∙ ap (take m) torn.before
    ∙ take-take m at old le

-- the writes that go through are writes that a stop may leave
pub torn_entries : (pages : List PageImage) (at : ℕ) (file : List ℕ) → AreEntries pages
    → TornIn (entry_ranges at pages) file (with_entries at pages file)
torn_entries [] at file are = refl
torn_entries (p ∷ pages) at file (is, are) =
    let next = overwritten 0 at (entry_bytes p) file in (
      next,
      subst (λ (n : ℕ). Torn at n file next) (length-entry p is) (torn_overwritten 0 at (entry_bytes p) file),
      torn_entries pages (at + entry_size) next are,
    )

-- an entry is read back
read_entry : (p : PageImage) (at : ℕ) (file : List ℕ) → IsEntry p
    → slice_range file at (at + entry_size) ≡ entry_bytes p → entry_at at file ≡ p
read_entry p at file is same =
    let number = to_le_bytes w64 p.page in
    let rest = drop at file in
    let all : entry_size ≡ (at + entry_size) - at = omega arith in
    let eight : (at + 8) - at ≡ 8 = omega arith in
    let behind : (at + entry_size) - (at + 8) ≡ page_size = omega arith in
    let whole : take entry_size rest ≡ entry_bytes p = ap (λ (k : ℕ). take k rest) all ∙ same in
    let first : slice_range file at (at + 8) ≡ number =
    ap (λ (k : ℕ). take k rest) eight ∙ sym (take-take 8 entry_size rest (omega arith)) ∙ ap (take 8) whole
    ∙ take-append_seam number p.image in
    let second : slice_range file (at + 8) (at + entry_size) ≡ p.image =
    ap (λ (k : ℕ). take k (drop (at + 8) file)) behind ∙ ap (take page_size) (sym (drop-drop 8 at file))
    ∙ sym (drop-take 8 page_size rest) ∙ ap (drop 8) whole ∙ drop-append_seam number p.image in
    ap (λ (l : List ℕ). record { page = from_le_bytes w64 l; image = slice_range file (at + 8) (at + entry_size) })
    first
    ∙ ap (λ (n : ℕ). record { page = n; image = slice_range file (at + 8) (at + entry_size) })
    (from_le_bytes-to_le_bytes_8 p.page is.number)
    ∙ ap (λ (l : List ℕ). record { page = p.page; image = l }) second

pub entries_written : (pages : List PageImage) (at : ℕ) (file : List ℕ) → AreEntries pages
    → entries (length pages) at (with_entries at pages file) ≡ pages
entries_written [] at file are = refl
entries_written (p ∷ pages) at file (is, are) =
    let next = overwritten 0 at (entry_bytes p) file in
    let last = with_entries (at + entry_size) pages next in
    let reach = overwritten_range at (entry_bytes p) file in
    let len = length-entry p is in
    let here : slice_range last at (at + entry_size) ≡ entry_bytes p =
    same_in_front next last at (at + entry_size) (at + entry_size) (omega arith) (omega arith)
    (front_kept pages (at + entry_size) (at + entry_size) next last (omega arith) (omega (arith, reach.1, len))
    (torn_entries pages (at + entry_size) next are))
    ∙ ap (λ (n : ℕ). slice_range next at (at + n)) (sym len) ∙ reach.0 in
    ap (λ (q : PageImage). q ∷ entries (length pages) (at + entry_size) last) (read_entry p at last is here)
    ∙ ap (λ (l : List PageImage). p ∷ l) (entries_written pages (at + entry_size) next are)

-- the file reaches behind them
pub entries_long : (pages : List PageImage) (at : ℕ) (file : List ℕ) → AreEntries pages → at ≤ length file
    → at + entry_size * length pages ≤ length (with_entries at pages file)
entries_long [] at file are le = omega (arith, le)
entries_long (p ∷ pages) at file (is, are) le =
    let next = overwritten 0 at (entry_bytes p) file in
    let reach = overwritten_range at (entry_bytes p) file in
    omega (arith, entries_long pages (at + entry_size) next are (omega (arith, reach.1, length-entry p is)))

-- whether they begin within it or not, if there are some
pub entries_reach : (pages : List PageImage) (at : ℕ) (file : List ℕ) → AreEntries pages
    → (length pages ≡ 0 → at ≤ length file) → at + entry_size * length pages ≤ length (with_entries at pages file)
entries_reach [] at file are within = omega (arith, within refl)
entries_reach (p ∷ pages) at file (is, are) within =
    let next = overwritten 0 at (entry_bytes p) file in
    let reach = overwritten_range at (entry_bytes p) file in
    omega (arith, entries_long pages (at + entry_size) next are (omega (arith, reach.1, length-entry p is)))

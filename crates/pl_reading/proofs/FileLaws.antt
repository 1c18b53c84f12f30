-- Which pages the bytes of a file make, and that its header is theirs.
use Rattle.std.proofs.Common.{◌≡◌, ◌∙◌, ◌+◌, ◌*◌, ◌/◌, ◌%◌, ◌≤◌, ◌++◌, ℕ, List, ap, arith, drop, false, length}
use Rattle.std.proofs.Common.{Err, Ok, Result}
use Rattle.std.specs.Result.{IfOk, OnErr, OnOk}
use Rattle.std.proofs.Common.{length-append, replicate, subst, sym, take}
use Rattle.std.proofs.Math.Seq.{drop-append_seam, take-append_seam}
use Rattle.std.proofs.lemmas.List.{drop-take, length-drop, length-replicate, length-take, length-take-le, take-take}
use Rattle.pl_base.specs.declared.check_error.CheckError.{CheckError}
use Rattle.pl_base.specs.declared.check_error.CheckError.TheVariants.{NotAStore}
use Rattle.pl_base.specs.Touched.{behind_gate, bytes_before, page_size}
use Rattle.pl_base.specs.Live.{slot_limit}
use Rattle.pl_reading.specs.File.{HasSlots, IsNamed, file_header, most_pages, stored_bytes, stored_pages}
use Rattle.pl_record.specs.Form.{pages_of}
use Rattle.pl_sheets.specs.Sheets.{Pages, page_count, unchanged}
use Rattle.pl_slot.specs.Arena.{IsArena, KeepsSlots, header_of, slot_count}
use Rattle.pl_slot.specs.Header.{Header, header_in}

abbrev blank : List ℕ
blank = replicate page_size 0

-- how many bytes these are
pub laid_bytes : (bytes : List ℕ) → length (blank ++ bytes) ≡ page_size + length bytes
laid_bytes bytes =
    length-append blank bytes ∙ ap (λ (n : ℕ). n + length bytes) (length-replicate {A = ℕ} page_size 0)

pub counted : (bytes : List ℕ) → page_count (unchanged bytes) ≡ length bytes / page_size
counted bytes = length-replicate (length bytes / page_size) false

-- the header of pages with so many bytes behind page 0
pub header_is : (bytes : List ℕ) → header_of (pages_of bytes) ≡ header_in (take page_size bytes)
unfolding header_of
header_is bytes =
    ap (λ (bs : List ℕ). header_in (take page_size bs))
    (subst (λ (n : ℕ). drop n (blank ++ bytes) ≡ bytes) (length-replicate {A = ℕ} page_size 0)
    (drop-append_seam blank bytes))

-- ---- a file that is long enough

module _ (file : List ℕ) (pages : ℕ) (some : 2 ≤ pages) (told : pages ≡ (file_header file).pages)
    (whole : page_size * pages ≤ length file) where
  abbrev bytes : List ℕ
  bytes = take (bytes_before pages) (behind_gate file)

  long : length bytes ≡ bytes_before pages
  long =
      length-take-le (bytes_before pages) (behind_gate file)
      (omega (arith, whole, some, length-drop page_size file))

  pub these : bytes ≡ stored_bytes file
  these = ap (λ (n : ℕ). take (bytes_before n) (behind_gate file)) told

  pub as_long : length (blank ++ bytes) ≡ page_size * pages
  as_long = omega (arith, laid_bytes bytes, long, some)

  pub as_many : page_count (pages_of bytes) ≡ pages
  as_many = omega (arith, counted (blank ++ bytes), as_long)

  pub same_header : header_of (pages_of bytes) ≡ file_header file
  same_header =
      header_is bytes
      ∙ ap header_in (take-take page_size (bytes_before pages) (behind_gate file) (omega (arith, some)))

-- ---- a file that has slots is long enough

module _ (file : List ℕ) (has : HasSlots file) where
  abbrev count : ℕ
  count = page_count (stored_pages file)

  abbrev most : ℕ
  most = (file_header file).pages

  stored_long : page_size + length (stored_bytes file) ≡ page_size * count
  stored_long = sym (laid_bytes (stored_bytes file)) ∙ has.arena.whole.whole

  -- the bytes are no more than the header says, and no more than there are
  no_more : page_size * count ≤ length file
  no_more =
      omega (
        arith,
        stored_long,
        has.arena.some_page,
        length-take (bytes_before most) (behind_gate file),
        length-drop page_size file,
      )

  within : bytes_before count ≤ bytes_before most
  within = omega (arith, stored_long, has.arena.some_page, length-take (bytes_before most) (behind_gate file))

  pub own_header : header_of (stored_pages file) ≡ file_header file
  own_header =
      header_is (stored_bytes file)
      ∙ ap header_in
      (take-take page_size (bytes_before most) (behind_gate file) (omega (arith, within, has.arena.some_page)))

  pub is_named : IsNamed (file_header file)
  is_named = subst IsNamed own_header has.named

  as_told : most ≡ count
  as_told = sym (ap (λ (h : Header). h.pages) own_header) ∙ has.arena.told

  pub two_pages : 2 * page_size ≤ length file
  two_pages = omega (arith, no_more, has.arena.some_page)

  pub all_there : page_size * (file_header file).pages ≤ length file
  all_there = subst (λ (n : ℕ). page_size * n ≤ length file) (sym as_told) no_more

-- ---- page 0 is blank

pub blanked : (file old new : List ℕ) (pages size : ℕ) → 1 ≤ pages → page_size * pages ≤ length file
    → old ≡ take (page_size * pages) file → size ≡ length old → new ≡ blank ++ drop page_size old
    → take size (new ++ drop (length new) old) ≡ blank ++ take (bytes_before pages) (behind_gate file)
blanked file old new pages size some whole is sized blank_is =
    ap (λ (n : ℕ). take n (new ++ drop (length new) old)) as_many
    ∙ take-append_seam new (drop (length new) old) ∙ made
  where
    parts : page_size * pages ≡ page_size + bytes_before pages
    parts = omega (arith, some)

    made : new ≡ blank ++ take (bytes_before pages) (behind_gate file)
    made =
        blank_is
        ∙ ap (λ (bs : List ℕ). blank ++ bs)
        (ap (drop page_size) (is ∙ ap (λ (n : ℕ). take n file) parts)
        ∙ drop-take page_size (bytes_before pages) file)

    as_many : size ≡ length new
    as_many =
        omega (
          arith,
          ap length made ∙ laid_bytes (take (bytes_before pages) (behind_gate file)),
          length-take (bytes_before pages) (behind_gate file),
          length-drop page_size file,
          sized ∙ ap length is ∙ length-take-le (page_size * pages) file whole,
          whole,
          some,
        )

-- ---- the pages that are made of a file

pub whole_pages : (file held items : List ℕ) (pages : ℕ) → held ≡ file → pages ≡ (file_header held).pages
    → IsNamed (file_header held) → page_size * pages ≤ length held
    → items ≡ replicate page_size 0 ++ take (bytes_before pages) (behind_gate file)
    → length items % page_size ≡ 0
whole_pages file held items pages read its_length its_name its_size is =
    let some : 2 ≤ pages = subst (λ (n : ℕ). 2 ≤ n) (sym its_length) its_name.some in
    let whole : page_size * pages ≤ length file =
    subst (λ (bs : List ℕ). page_size * pages ≤ length bs) read its_size in
    let told : pages ≡ (file_header file).pages = its_length ∙ ap (λ (bs : List ℕ). (file_header bs).pages) read in
    omega (arith, ap length is, as_long file pages some told whole)

pub record Laid (file : List ℕ) (sheets : Pages) : Type 0 where
  pub stored : sheets ≡ stored_pages file
  pub some : 2 ≤ page_count sheets
  pub few : slot_count sheets ≤ slot_limit
  pub told : (header_of sheets).pages ≡ page_count sheets
  pub named : IsNamed (header_of (stored_pages file))

pub laid : (file held items : List ℕ) (pages : ℕ) (sheets : Pages) → held ≡ file → pages ≡ (file_header held).pages
    → IsNamed (file_header held) → page_size * pages ≤ length held
    → items ≡ replicate page_size 0 ++ take (bytes_before pages) (behind_gate file) → sheets ≡ unchanged items
    → Laid file sheets
laid file held items pages sheets read its_length its_name its_size is made =
    let told : pages ≡ (file_header file).pages = its_length ∙ ap (λ (bs : List ℕ). (file_header bs).pages) read in
    let named : IsNamed (file_header file) = subst (λ (bs : List ℕ). IsNamed (file_header bs)) read its_name in
    let whole : page_size * pages ≤ length file =
    subst (λ (bs : List ℕ). page_size * pages ≤ length bs) read its_size in
    let some : 2 ≤ pages = subst (λ (n : ℕ). 2 ≤ n) (sym told) named.some in
    let few : pages ≤ most_pages = subst (λ (n : ℕ). n ≤ most_pages) (sym told) named.few in
    let same : sheets ≡ stored_pages file =
    made ∙ ap unchanged is ∙ ap (λ (bs : List ℕ). pages_of bs) (these file pages some told whole) in
    let header : header_of (stored_pages file) ≡ file_header file =
    sym (ap (λ (bs : List ℕ). header_of (pages_of bs)) (these file pages some told whole))
    ∙ same_header file pages some told whole in
    let count : page_count sheets ≡ pages =
    ap page_count (made ∙ ap unchanged is) ∙ as_many file pages some told whole in
    record {
      stored = same;
      some = omega (arith, count, some);
      few = omega (arith, count, few, some);
      told = ap (λ (p : Pages). (header_of p).pages) same ∙ ap (λ (h : Header). h.pages) header ∙ sym told ∙ sym count;
      named = subst IsNamed (sym header) named;
    }

-- an arena over them tells that the file has slots, and none that it has not
pub opened : (file : List ℕ) (sheets : Pages) (r : Result Pages CheckError) → Laid file sheets
    → OnOk r (IsArena sheets) → IfOk r (λ _. HasSlots file)
opened file sheets (Err e) l arena = tt
opened file sheets (Ok p) l arena = record { arena = subst IsArena l.stored arena; named = l.named }

pub refused : (file : List ℕ) (sheets : Pages) (r : Result Pages CheckError) → Laid file sheets → HasSlots file
    → OnErr r (KeepsSlots sheets → ⊥) → r ≡ Err NotAStore → ⊥
refused file sheets (Ok p) l has none is = absurd (cc)
refused file sheets (Err e) l has none is = none (subst KeepsSlots (sym l.stored) has.arena.slots)

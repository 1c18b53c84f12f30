-- What a page more makes of an arena that has no free slot.
use Rattle.std.proofs.Common.{◌≡◌, ◌≢◌, ◌∙◌, ◌==◌, ◌+◌, ◌-◌, ◌*◌, ◌^◌, ◌<◌, ◌≤◌, ◌&&◌, ◌||◌, ◌++◌, ◌∷◌, [], ℕ, List, Bool, ap}
use Rattle.std.proofs.Common.{arith, cond, drop, eq-eqb, false, inl, inr, length, ltb, leb}
use Rattle.std.proofs.Common.{Option, refl, replicate, Some, subst, sym, take, true, w32}
use Rattle.std.specs.Int.{to_le_bytes}
use Rattle.std.proofs.Math.Seq.{drop-append-add}
use Rattle.std.proofs.lemmas.Bool.{and_from, and_parts, cases_Bool, cases_eq, cases_lt, le-leb, le-ltb, leb-true, lt-ltb, ltb-true}
use Rattle.std.proofs.lemmas.Bool.{ne_eqb, true≢false}
use Rattle.std.proofs.lemmas.List.{drop-append-le, drop-replicate, get_or_append_left, get_or_past}
use Rattle.std.proofs.lemmas.List.{length-drop, length_push, take-append-le, take-replicate}
use Rattle.pl_base.specs.Live.{slot_size}
use Rattle.pl_base.specs.Touched.{page_size}
use Rattle.pl_sheets.specs.Sheets.{ArePages, Pages, bytes_at, image_of, page_count, place_in, with_blank}
use Rattle.pl_sheets.specs.Sheets.{with_bytes}
use Rattle.pl_slot.specs.declared.row.SlotRow.{SlotRow}
use Rattle.pl_slot.specs.declared.row.SlotRow.TheVariants.{Free}
use Rattle.pl_slot.specs.Arena.{ChangesOnly, header_of, header_page, is_among}
use Rattle.pl_slot.specs.Arena.{is_slot, row_at, slot_byte, slot_count}
use Rattle.pl_slot.specs.Arena.{slot_page}
use Rattle.pl_slot.specs.Header.{Header, header_in}
use Rattle.pl_slot.specs.SlotReading.{row_of}
use Rattle.pl_slot.specs.Taking.{IsGrown, IsLinked}
use Rattle.pl_slot.proofs.ArenaLaws.{PutRow, PutWord, beside_header, only_itself, row_put, then_only}
use Rattle.pl_slot.proofs.ArenaLaws.{word_put}
use Rattle.pl_slot.proofs.HeaderLaws.{first_free_set, pages_set}
use Rattle.pl_slot.proofs.RowLaws.{with_row}
use Rattle.pl_slot.proofs.RowsRead.{row_spelled}
use Rattle.pl_slot.proofs.SlotPlaces.{held, place_is, place_within, slot_bounds, slot_within}

-- ---- a page of zeros more

at_front : (p c : ℕ) (bytes more : List ℕ) → p + c ≤ length bytes → bytes_at p c (bytes ++ more) ≡ bytes_at p c bytes
at_front p c bytes more within =
    ap (take c) (drop-append-le p bytes more (omega arith))
    ∙ take-append-le c (drop p bytes) more (omega (arith, length-drop p bytes))

pub blank_count : (pages : Pages) → page_count (with_blank pages) ≡ page_count pages + 1
blank_count pages = length_push pages.changed true

still_slot : (n : ℕ) (pages : Pages) → is_slot n pages ≡ true → is_slot n (with_blank pages) ≡ true
still_slot n pages there =
    let bounds = slot_bounds n pages there in
    slot_within n (with_blank pages) bounds.0 (longer n pages bounds.1)
  where
    longer : (n : ℕ) (pages : Pages) → n ≤ slot_count pages → n ≤ slot_count (with_blank pages)
    longer n pages within = rw blank_count (omega arith)

blank_old : (n : ℕ) (pages : Pages) → ArePages pages → is_slot n pages ≡ true
    → row_at n (with_blank pages) ≡ row_at n pages
blank_old n pages are there =
    held n (with_blank pages) (still_slot n pages there)
    ∙ ap row_of
    (at_front (place_in (slot_page n) (slot_byte n)) slot_size pages.bytes (replicate page_size 0)
    (place_within n pages are there))
    ∙ sym (held n pages there)

zeros_in : (place : ℕ) (bytes : List ℕ) → length bytes ≤ place → place + slot_size ≤ length bytes + page_size
    → bytes_at place slot_size (bytes ++ replicate page_size 0) ≡ replicate slot_size 0
zeros_in place bytes behind within =
    let gap : ℕ = place - length bytes in
    let place_is : place ≡ length bytes + gap = omega arith in
    ap (λ k. take slot_size (drop k (bytes ++ replicate page_size 0))) place_is
    ∙ ap (take slot_size) (drop-append-add bytes (replicate page_size 0) gap ∙ drop-replicate gap page_size 0)
    ∙ take-replicate slot_size (page_size - gap) 0 (omega arith)

zeros_free : row_of (replicate slot_size 0) ≡ Some (Free (record { 0 = 0 }))
zeros_free = row_spelled (Free (record { 0 = 0 })) (omega arith, tt)

blank_new : (n : ℕ) (pages : Pages) → ArePages pages → 2 ≤ page_count pages → slot_count pages < n
    → n ≤ slot_count pages + 8 → row_at n (with_blank pages) ≡ Some (Free (record { 0 = 0 }))
blank_new n pages are some above within =
    let whole : length pages.bytes ≡ page_size * page_count pages = are.whole in
    let first : 1 ≤ n = omega arith in
    let inside : n ≤ slot_count (with_blank pages) = longer n pages some within in
    held n (with_blank pages) (slot_within n (with_blank pages) first inside)
    ∙ ap row_of
    (zeros_in (place_in (slot_page n) (slot_byte n)) pages.bytes (omega (arith, place_is n first))
    (omega (arith, place_is n first)))
    ∙ zeros_free
  where
    longer : (n : ℕ) (pages : Pages) → 2 ≤ page_count pages → n ≤ slot_count pages + 8
        → n ≤ slot_count (with_blank pages)
    longer n pages some within = rw blank_count (omega arith)

blank_header : (pages : Pages) → ArePages pages → 2 ≤ page_count pages
    → header_of (with_blank pages) ≡ header_of pages
unfolding header_of
blank_header pages are some =
    let whole : length pages.bytes ≡ page_size * page_count pages = are.whole in
    ap header_in (at_front page_size page_size pages.bytes (replicate page_size 0) (omega arith))

blank_only : (pages : Pages) → ArePages pages → ChangesOnly (page_count pages ∷ []) pages (with_blank pages)
blank_only pages are =
    record {
      before = refl;
      marks = λ p other. elim (cases_lt p (page_count pages)) [
        | inl there ↦ get_or_append_left pages.changed (true ∷ []) false p there
        | inr past ↦
            get_or_past (pages.changed ++ true ∷ []) p false
            (rw length_push (behind p (page_count pages) past (apart p (page_count pages) other)))
            ∙ sym (get_or_past pages.changed p false past)
      ];
      images = λ p other there. image p there;
      unmarked = λ p there none.
          (sym (get_or_append_left pages.changed (true ∷ []) false p there) ∙ none, image p there);
    }
  where
    apart : (p page : ℕ) → is_among p (page ∷ []) ≡ false → p ≢ page
    apart p page other same = true≢false (sym (ap (λ b. b || false) (eq-eqb p page same)) ∙ other)

    behind : (p count : ℕ) → count ≤ p → p ≢ count → count + 1 ≤ p
    behind p count past other = elim (cases_lt count p) [ inl less ↦ omega arith | inr more ↦ absurd (other (omega arith)) ]

    inside : (p count size : ℕ) → size ≡ page_size * count → p < count → page_size * p + page_size ≤ size
    inside p count size whole there = omega arith

    image : (p : ℕ) → p < page_count pages → image_of (with_blank pages) p ≡ image_of pages p
    image p there =
        ap (λ (l : List ℕ). record { page = p; image = l })
        (at_front (page_size * p) page_size pages.bytes (replicate page_size 0)
        (inside p (page_count pages) (length pages.bytes) are.whole there))

-- ---- its slots are linked

abbrev is_linked : ℕ → ℕ → ℕ → Bool
is_linked count first n = leb first n && ltb n (first + count)

abbrev linked_row : ℕ → ℕ → ℕ → Option SlotRow → Option SlotRow
linked_row count first n row = cond (is_linked count first n) (Some (Free (record { 0 = n + 1 }))) row

pub none_linked : (first : ℕ) (pages : Pages) → IsGrown first pages → IsLinked 0 first pages pages
none_linked first pages grown =
    record {
      whole = grown.whole;
      rows = λ n. sym (ap (λ b. cond b (Some (Free (record { 0 = n + 1 }))) (row_at n pages)) (no_one n first));
      header = refl;
      as_many = refl;
      pages = only_itself ((page_count pages - 1) ∷ []) pages;
    }
  where
    never : (n first : ℕ) → first ≤ n → n < first + 0 → ⊥
    never n first above below = omega arith

    no_one : (n first : ℕ) → is_linked 0 first n ≡ false
    no_one n first = elim (cases_Bool (is_linked 0 first n)) [
      | inl both ↦
          let parts = and_parts (leb first n) (ltb n (first + 0)) both in
          absurd (never n first (leb-true first n parts.0) (ltb-true n (first + 0) parts.1))
      | inr neither ↦ neither
    ]

pub one_linked : (count first : ℕ) (old middle new : Pages) → IsGrown first old → count < 8
    → IsLinked count first old middle → PutRow (first + count) (Free (record { 0 = first + count + 1 })) middle new
    → IsLinked (count + 1) first old new
one_linked count first old middle new grown few before put =
    record {
      whole = put.whole;
      rows = λ n. put.rows n ∙ each n;
      header = put.header ∙ before.header;
      as_many = put.as_many ∙ before.as_many;
      pages =
          then_only ((page_count old - 1) ∷ []) (slot_page (first + count) ∷ []) ((page_count old - 1) ∷ []) old middle new
          (λ p other. (other, ap (λ k. (p == k) || false) (page_is count first (page_count old) few grown.some_slot grown.starts) ∙ other))
          (as_long (page_count old) (page_count middle) before.as_many) before.pages put.pages;
    }
  where
    as_long : (a b : ℕ) → b ≡ a → a ≤ b
    as_long a b same = omega arith

    page_is : (count first pages : ℕ) → count < 8 → 3 ≤ pages → first ≡ 8 * (pages - 3) + 1
        → slot_page (first + count) ≡ pages - 1
    page_is count first pages few some starts = omega arith

    more : (n : ℕ) → n ≢ first + count → first + count ≤ n → first + (count + 1) ≤ n
    more n apart above = elim (cases_lt (first + count) n) [ inl less ↦ omega arith | inr other ↦ absurd (apart (omega arith)) ]

    one_further : (n : ℕ) → n ≢ first + count → is_linked (count + 1) first n ≡ is_linked count first n
    one_further n apart = ap (λ b. leb first n && b) (elim (cases_lt n (first + count)) [
      | inl below ↦ lt-ltb n (first + (count + 1)) (omega arith) ∙ sym (lt-ltb n (first + count) below)
      | inr above ↦ le-ltb n (first + (count + 1)) (more n apart above) ∙ sym (le-ltb n (first + count) above)
    ])

    each : (n : ℕ) → cond (n == (first + count)) (Some (Free (record { 0 = first + count + 1 }))) (row_at n middle)
        ≡ linked_row (count + 1) first n (row_at n old)
    each n = elim (cases_eq n (first + count)) [
      | inl here ↦
          ap (λ b. cond b (Some (Free (record { 0 = first + count + 1 }))) (row_at n middle)) (eq-eqb n (first + count) here)
          ∙ ap (λ k. Some (Free (record { 0 = k + 1 }))) (sym here)
          ∙ sym (ap (λ b. cond b (Some (Free (record { 0 = n + 1 }))) (row_at n old))
          (and_from (leb first n) (ltb n (first + (count + 1))) (le-leb first n (omega arith))
          (lt-ltb n (first + (count + 1)) (omega arith))))
      | inr apart ↦
          ap (λ b. cond b (Some (Free (record { 0 = first + count + 1 }))) (row_at n middle)) (ne_eqb n (first + count) apart)
          ∙ before.rows n
          ∙ ap (λ b. cond b (Some (Free (record { 0 = n + 1 }))) (row_at n old)) (sym (one_further n apart))
    ]

-- ---- the pages then

pub record GrownPages (first : ℕ) (old new : Pages) : Type 0 where
  pub whole : ArePages new
  pub longer : page_count new ≡ page_count old + 1
  pub starts : first ≡ 8 * (page_count old - 2) + 1
  pub header : header_of new ≡ record (header_of old) { pages = page_count old + 1; first_free = record { 0 = first } }
  pub kept : (n : ℕ) → is_slot n old ≡ true → row_at n new ≡ row_at n old
  pub linked : (n : ℕ) → first ≤ n → n < first + 7 → row_at n new ≡ Some (Free (record { 0 = n + 1 }))
  pub last : row_at (first + 7) new ≡ Some (Free (record { 0 = 0 }))
  pub pages : ChangesOnly (header_page ∷ page_count old ∷ []) old new

pub grown_pages : (first count : ℕ) (old blank linked longer new : Pages) → ArePages old → 2 ≤ page_count old
    → blank ≡ with_blank old → ArePages blank → count ≡ page_count blank → count < 2 ^ 32 → first < 2 ^ 32
    → first ≡ 8 * (count - 3) + 1 → IsLinked 7 first blank linked
    → longer ≡ with_bytes header_page (8 + 4 * 0) (to_le_bytes w32 count) linked
    → new ≡ with_bytes header_page (8 + 4 * 5) (to_le_bytes w32 first) longer → GrownPages first old new
grown_pages first count old blank linked longer new are some is whole count_is count_fits first_fits starts link
    longer_is new_is =
    let more : page_count blank ≡ page_count old + 1 = ap page_count is ∙ blank_count old in
    let two : 2 ≤ page_count linked = omega (arith, link.as_many) in
    let one : PutWord 0 count linked longer = word_put 0 count linked longer link.whole two (omega arith) count_fits longer_is in
    let still : 2 ≤ page_count longer = omega (arith, one.as_many) in
    let other : PutWord 5 first longer new = word_put 5 first longer new one.whole still (omega arith) first_fits new_is in
    let rows : (n : ℕ) → row_at n new ≡ linked_row 7 first n (row_at n blank) =
    λ n. other.rows n ∙ one.rows n ∙ link.rows n in
    let header_one : header_of longer ≡ record (header_of linked) { pages = count } = one.header ∙ pages_set count linked in
    let header_two : header_of new ≡ record (header_of longer) { first_free = record { 0 = first } } =
    other.header ∙ first_free_set first longer in
    let header_old : header_of linked ≡ header_of old =
    link.header ∙ ap header_of is ∙ blank_header old are some in
    let last_page : page_count blank - 1 ≡ page_count old = omega (arith, more) in
    let first_is : first ≡ 8 * (page_count old - 2) + 1 = omega (arith, more, count_is) in
    let count_more : count ≡ page_count old + 1 = count_is ∙ more in
    record {
      whole = other.whole;
      longer = other.as_many ∙ one.as_many ∙ link.as_many ∙ more;
      starts = first_is;
      header =
          header_two
          ∙ ap (λ (h : Header). record h { first_free = record { 0 = first } }) header_one
          ∙ ap (λ (h : Header). record h { pages = count; first_free = record { 0 = first } }) header_old
          ∙ ap (λ k. record (header_of old) { pages = k; first_free = record { 0 = first } }) count_more;
      kept = λ n there.
          rows n ∙ ap (λ b. cond b (Some (Free (record { 0 = n + 1 }))) (row_at n blank))
          (before n first (page_count old) first_is (slot_bounds n old there).1)
          ∙ ap (row_at n) is ∙ blank_old n old are there;
      linked = λ n above below.
          rows n ∙ ap (λ b. cond b (Some (Free (record { 0 = n + 1 }))) (row_at n blank))
          (and_from (leb first n) (ltb n (first + 7)) (le-leb first n above) (lt-ltb n (first + 7) below));
      last =
          rows (first + 7)
          ∙ ap (λ b. cond b (Some (Free (record { 0 = first + 7 + 1 }))) (row_at (first + 7) blank)) (not_last first)
          ∙ ap (row_at (first + 7)) is
          ∙ blank_new (first + 7) old are some (omega (arith, first_is)) (omega (arith, first_is));
      pages =
          then_only (header_page ∷ page_count old ∷ []) (header_page ∷ []) (header_page ∷ page_count old ∷ []) old longer new
          (λ p apart. (apart, (beside_header (page_count old) p apart).1))
          (omega (arith, one.as_many, link.as_many, more))
          (then_only (page_count old ∷ []) (header_page ∷ []) (header_page ∷ page_count old ∷ []) old linked longer
          (beside_header (page_count old)) (omega (arith, link.as_many, more))
          (then_only (page_count old ∷ []) (page_count old ∷ []) (page_count old ∷ []) old blank linked
          (λ p apart. (apart, apart)) (omega (arith, more))
          (subst (ChangesOnly (page_count old ∷ []) old) (sym is) (blank_only old are))
          (subst (λ k. ChangesOnly (k ∷ []) blank linked) last_page link.pages))
          one.pages)
          other.pages;
    }
  where
    never : (n first count : ℕ) → first ≡ count + 1 → n ≤ count → first ≤ n → ⊥
    never n first count starts within above = omega arith

    before : (n first count : ℕ) → first ≡ 8 * (count - 2) + 1 → n ≤ 8 * (count - 2) → is_linked 7 first n ≡ false
    before n first count starts within = elim (cases_Bool (is_linked 7 first n)) [
      | inl both ↦
          let parts = and_parts (leb first n) (ltb n (first + 7)) both in
          absurd (never n first (8 * (count - 2)) starts within (leb-true first n parts.0))
      | inr neither ↦ neither
    ]

    same : (n : ℕ) → n < n → ⊥
    same n less = omega arith

    not_last : (first : ℕ) → is_linked 7 first (first + 7) ≡ false
    not_last first = elim (cases_Bool (is_linked 7 first (first + 7))) [
      | inl both ↦
          let parts = and_parts (leb first (first + 7)) (ltb (first + 7) (first + 7)) both in
          absurd (same (first + 7) (ltb-true (first + 7) (first + 7) parts.1))
      | inr neither ↦ neither
    ]

-- one slot more is linked
pub link_on : (slot first : ℕ) (old middle new : Pages) → IsGrown first old → first ≤ slot → slot < first + 7
    → IsLinked (slot - first) first old middle → slot + 1 < 2 ^ 32
    → new ≡ with_row slot (Free (record { 0 = slot + 1 })) middle → IsLinked (slot + 1 - first) first old new
link_on slot first old middle new grown above below before small is =
    let there : is_slot slot middle ≡ true =
    slot_within slot middle (some slot first (page_count old) grown.starts above)
    (within slot first (page_count old) (page_count middle) grown.some_slot grown.starts below before.as_many) in
    let put : PutRow slot (Free (record { 0 = slot + 1 })) middle new =
    row_put slot (Free (record { 0 = slot + 1 })) middle new before.whole there (small, tt) is in
    let place : slot ≡ first + (slot - first) = omega arith in
    subst (λ k. IsLinked k first old new) (size slot first above)
    (one_linked (slot - first) first old middle new grown (omega arith) before
    (subst (λ k. PutRow k (Free (record { 0 = k + 1 })) middle new) place put))
  where
    some : (slot first count : ℕ) → first ≡ 8 * (count - 3) + 1 → first ≤ slot → 1 ≤ slot
    some slot first count starts above = omega arith

    within : (slot first a b : ℕ) → 3 ≤ a → first ≡ 8 * (a - 3) + 1 → slot < first + 7 → b ≡ a → slot ≤ 8 * (b - 2)
    within slot first a b some starts below same = omega arith

    size : (slot first : ℕ) → first ≤ slot → slot - first + 1 ≡ slot + 1 - first
    size slot first above = omega arith

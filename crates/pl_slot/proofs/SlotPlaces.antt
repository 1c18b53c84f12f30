-- Where slots lie, and what bytes that are put into a page leave of the others.
use Rattle.std.proofs.Common.{◌≡◌, ◌≢◌, ◌∙◌, ◌+◌, ◌-◌, ◌*◌, ◌<◌, ◌≤◌, ◌∷◌, [], ℕ, List, Bool}
use Rattle.std.proofs.Common.{◌&&◌, ◌||◌, ap, arith, cond, false, get_or, inl, inr, IsSome, is_some, leb-true, length, nat_le, None}
use Rattle.std.proofs.Common.{refl, set, sym, true}
use Rattle.std.proofs.lemmas.Bool.{and_from, and_parts, cases_Bool, cases_eq, cases_lt, le-leb, true≢false}
use Rattle.std.proofs.Common.{eq-eqb}
use Rattle.std.proofs.lemmas.List.{get_or-set_other, get_or-set_same}
use Rattle.std.proofs.Math.ListN.{length-set}
use Rattle.pl_base.specs.Live.{slot_size}
use Rattle.pl_base.specs.Touched.{page_size}
use Rattle.pl_sheets.specs.Sheets.{ArePages, Pages, bytes_at, has_changed, image_of, page_count, place_in}
use Rattle.pl_sheets.specs.Sheets.{stand_at, with_bytes}
use Rattle.pl_sheets.proofs.PagesLaws.{same_put}
use Rattle.pl_slot.specs.Arena.{ChangesOnly, is_among, is_slot, row_at, slot_byte, slot_count, slot_page}
use Rattle.pl_slot.specs.SlotReading.{row_in, row_of}
use Rattle.pl_slot.proofs.BytesAt.{before_place, behind_place, length-overwritten}
use Rattle.pl_slot.proofs.RowsRead.{row_known}

-- what a slot holds is read from its bytes
pub held : (n : ℕ) (pages : Pages) → is_slot n pages ≡ true
    → row_at n pages ≡ row_of (bytes_at (place_in (slot_page n) (slot_byte n)) slot_size pages.bytes)
unfolding row_at
held n pages there =
    ap (λ b. cond b (row_of (bytes_at (place_in (slot_page n) (slot_byte n)) slot_size pages.bytes)) None) there

pub no_slot : (n : ℕ) (pages : Pages) → is_slot n pages ≡ false → row_at n pages ≡ None
unfolding row_at
no_slot n pages missing =
    ap (λ b. cond b (row_of (bytes_at (place_in (slot_page n) (slot_byte n)) slot_size pages.bytes)) None) missing

-- a slot that holds a row is one
pub row_slot : (n : ℕ) (pages : Pages) → IsSome (row_at n pages) → is_slot n pages ≡ true
row_slot n pages some = elim (cases_Bool (is_slot n pages)) [
  | inl there ↦ there
  | inr missing ↦ absurd (true≢false (sym some ∙ ap is_some (no_slot n pages missing)))
]

-- its row is read without comparing the bytes
pub read_known : (n : ℕ) (pages : Pages) → IsSome (row_at n pages)
    → row_at n pages ≡ row_in (bytes_at (place_in (slot_page n) (slot_byte n)) slot_size pages.bytes)
read_known n pages some =
    let is = held n pages (row_slot n pages some) in
    is ∙ row_known (bytes_at (place_in (slot_page n) (slot_byte n)) slot_size pages.bytes) (ap is_some (sym is) ∙ some)

-- ---- numbers of slots

pub slot_bounds : (n : ℕ) (pages : Pages) → is_slot n pages ≡ true → (1 ≤ n) × (n ≤ slot_count pages)
slot_bounds n pages there =
    let parts = and_parts (nat_le 1 n) (nat_le n (slot_count pages)) there in
    (leb-true 1 n parts.0, leb-true n (slot_count pages) parts.1)

pub slot_within : (n : ℕ) (pages : Pages) → 1 ≤ n → n ≤ slot_count pages → is_slot n pages ≡ true
slot_within n pages some within =
    and_from (nat_le 1 n) (nat_le n (slot_count pages)) (le-leb 1 n some) (le-leb n (slot_count pages) within)

-- there are as many slots
pub same_slots : (n : ℕ) (old new : Pages) → page_count new ≡ page_count old → is_slot n new ≡ is_slot n old
same_slots n old new same = ap (λ count. nat_le 1 n && nat_le n (8 * (count - 2))) same

-- where a slot begins among all bytes
pub place_is : (n : ℕ) → 1 ≤ n → place_in (slot_page n) (slot_byte n) ≡ 1920 + 128 * n
place_is n some = omega arith

pub place_within : (n : ℕ) (pages : Pages) → ArePages pages → is_slot n pages ≡ true
    → place_in (slot_page n) (slot_byte n) + slot_size ≤ length pages.bytes
place_within n pages are there =
    let bounds = slot_bounds n pages there in
    let whole : length pages.bytes ≡ page_size * page_count pages = are.whole in
    let within : n ≤ 8 * (page_count pages - 2) = bounds.1 in
    omega (arith, place_is n bounds.0)

pub page_there : (n : ℕ) (pages : Pages) → is_slot n pages ≡ true → slot_page n < page_count pages
page_there n pages there =
    let bounds = slot_bounds n pages there in
    let some : 1 ≤ n = bounds.0 in
    let within : n ≤ 8 * (page_count pages - 2) = bounds.1 in
    omega arith

pub inside_page : (n : ℕ) → slot_byte n + slot_size ≤ page_size
inside_page n = omega arith

-- ---- bytes that are put into a page

marked_or_not : (flags : List Bool) (page : ℕ) (kept : Bool)
    → length (cond kept flags (set flags page true)) ≡ length flags
marked_or_not flags page true = refl
marked_or_not flags page false = length-set flags page true

pub count_put : (page at : ℕ) (new : List ℕ) (pages : Pages)
    → page_count (with_bytes page at new pages) ≡ page_count pages
count_put page at new pages = marked_or_not pages.changed page (stand_at (place_in page at) new pages.bytes)

other_mark : (flags : List Bool) (page other : ℕ) (kept : Bool) → other ≢ page
    → get_or (cond kept flags (set flags page true)) other false ≡ get_or flags other false
other_mark flags page other true apart = refl
other_mark flags page other false apart = get_or-set_other flags page other true false apart

still_marked : (flags : List Bool) (page other : ℕ) (kept : Bool) → page < length flags
    → get_or flags other false ≡ true
    → get_or (cond kept flags (set flags page true)) other false ≡ true
still_marked flags page other true there had = had
still_marked flags page other false there had = elim (cases_eq other page) [
  | inl same ↦ ap (λ k. get_or (set flags page true) k false) same ∙ get_or-set_same flags page true false there
  | inr apart ↦ get_or-set_other flags page other true false apart ∙ had
]

put_within : (page at : ℕ) (new : List ℕ) (pages : Pages) → ArePages pages → page < page_count pages
    → at + length new ≤ page_size → place_in page at + length new ≤ length pages.bytes
put_within page at new pages are there within =
    let whole : length pages.bytes ≡ page_size * page_count pages = are.whole in
    let below : page < page_count pages = there in
    omega arith

pub put_are : (page at : ℕ) (new : List ℕ) (pages : Pages) → ArePages pages → 1 ≤ page → page < page_count pages
    → at + length new ≤ page_size → ArePages (with_bytes page at new pages)
put_are page at new pages are some there within =
    let kept : Bool = stand_at (place_in page at) new pages.bytes in
    let count = count_put page at new pages in
    let no_gate : 0 ≢ page = apart page some in
    record {
      some_page = rw count are.some_page;
      few = rw count are.few;
      whole =
          length-overwritten (place_in page at) new pages.bytes (put_within page at new pages are there within)
          ∙ are.whole ∙ ap (λ n. page_size * n) (sym count);
      gate = other_mark pages.changed page 0 kept no_gate ∙ are.gate;
      some_before = are.some_before;
      before = rw count are.before;
      added = λ p above below.
          still_marked pages.changed page p kept there (are.added p above (rw count at below));
    }
  where
    apart : (page : ℕ) → 1 ≤ page → 0 ≢ page
    apart page some same = absurd (omega arith)

not_among : (page other : ℕ) → is_among other (page ∷ []) ≡ false → other ≢ page
not_among page other apart same =
    absurd (true≢false (sym (ap (λ b. b || false) (eq-eqb other page same)) ∙ apart))

pub put_only : (page at : ℕ) (new : List ℕ) (pages : Pages) → ArePages pages → page < page_count pages
    → at + length new ≤ page_size → ChangesOnly (page ∷ []) pages (with_bytes page at new pages)
put_only page at new pages are there within =
    record {
      before = refl;
      marks = λ p other. mark p (not_among page p other);
      images = λ p other below. image p (not_among page p other);
      unmarked = λ p below none. elim (cases_Bool (stand_at (place_in page at) new pages.bytes)) [
        | inl same ↦
            let is : pages ≡ with_bytes page at new pages = same_put page at new pages same in
            (ap (has_changed p) is ∙ none, ap (λ q. image_of q p) (sym is))
        | inr differs ↦ elim (cases_eq p page) [
          | inl here ↦ absurd (true≢false (sym (marked p differs here) ∙ none))
          | inr apart ↦ (sym (mark p apart) ∙ none, image p apart)
        ]
      ];
    }
  where
    past : (p page at : ℕ) (new : List ℕ) → page ≤ p → p ≢ page → at + length new ≤ page_size
        → place_in page at + length new ≤ page_size * p
    past p page at new back apart within =
        let more : page < p = elim (cases_lt page p) [ inl more ↦ more | inr less ↦ absurd (apart (omega arith)) ] in
        omega arith

    mark : (p : ℕ) → p ≢ page → has_changed p (with_bytes page at new pages) ≡ has_changed p pages
    mark p apart = other_mark pages.changed page p (stand_at (place_in page at) new pages.bytes) apart

    marked : (p : ℕ) → stand_at (place_in page at) new pages.bytes ≡ false → p ≡ page
        → has_changed p (with_bytes page at new pages) ≡ true
    marked p differs here =
        ap (λ b. get_or (cond b pages.changed (set pages.changed page true)) p false) differs
        ∙ ap (λ k. get_or (set pages.changed page true) k false) here
        ∙ get_or-set_same pages.changed page true false there

    image : (p : ℕ) → p ≢ page → image_of (with_bytes page at new pages) p ≡ image_of pages p
    image p apart =
        let reach = put_within page at new pages are there within in
        ap (λ (l : List ℕ). record { page = p; image = l })
        (elim (cases_lt p page) [
          | inl front ↦
              before_place (page_size * p) page_size (place_in page at) new pages.bytes (omega arith) (omega (arith, reach))
          | inr back ↦
              behind_place (page_size * p) page_size (place_in page at) new pages.bytes
              (past p page at new back apart within) (omega (arith, reach))
        ])

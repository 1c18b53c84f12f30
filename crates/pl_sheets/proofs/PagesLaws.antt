-- What changes leave of pages.
use Rattle.std.proofs.Common.{◌≡◌, ◌∙◌, ◌+◌, ◌*◌, ◌^◌, ◌<◌, ◌≤◌, ◌++◌, ◌∷◌, [], ap, append_assoc, arith, Bool}
use Rattle.std.proofs.Common.{cond, drop, drop-drop, false, inl, inr, length, length-append, length-drop, length-take}
use Rattle.std.proofs.Common.{List, replicate, set, sym, take, take-append-drop, true, ℕ}
use Rattle.std.specs.Str.{bytes_eq}
use Rattle.std.proofs.lemmas.Bool.{cases_lt}
use Rattle.std.proofs.lemmas.List.{get_or_append_left, get_or_push, length-replicate, length_push}
use Rattle.std.proofs.lemmas.Slice.Eq.{bytes_eq-Decides}
use Rattle.pl_base.specs.Touched.{page_size}
use Rattle.pl_sheets.specs.Sheets.{ArePages, bytes_at, image_of, overwritten, page_count, Pages, place_in, stand_at}
use Rattle.pl_sheets.specs.Sheets.{with_blank, with_bytes}

-- ---- bytes at a place

overwritten_same : (place : ℕ) (new bytes : List ℕ) → stand_at place new bytes ≡ true
    → overwritten place new bytes ≡ bytes
overwritten_same place new bytes same =
    let is : bytes_at place (length new) bytes ≡ new = (bytes_eq-Decides _ new).0 same in
    ap (λ part. take place bytes ++ part ++ drop (place + length new) bytes) (sym is)
    ∙ ap (λ rest. take place bytes ++ bytes_at place (length new) bytes ++ rest)
    (sym (drop-drop (length new) place bytes))
    ∙ append_assoc (take place bytes) (bytes_at place (length new) bytes) (drop (length new) (drop place bytes))
    ∙ ap (λ rest. take place bytes ++ rest) (take-append-drop (length new) (drop place bytes))
    ∙ take-append-drop place bytes

-- ---- all pages

pub with_blank-are : (pages : Pages) → ArePages pages → page_count pages + 1 < 2 ^ 32 → ArePages (with_blank pages)
with_blank-are pages are few =
    let size : length (pages.changed ++ true ∷ []) ≡ page_count pages + 1 = length_push pages.changed true in
    let bytes : length (pages.bytes ++ replicate page_size 0) ≡ length pages.bytes + page_size =
    length-append pages.bytes (replicate page_size 0)
    ∙ ap (λ n. length pages.bytes + n) (length-replicate {A = ℕ} page_size 0) in
    let some : 1 ≤ page_count pages = are.some_page in
    let whole : length pages.bytes ≡ page_size * page_count pages = are.whole in
    let before : pages.before ≤ page_count pages = are.before in
    record {
      some_page = rw size (omega arith);
      few = rw size few;
      whole = rw size (omega arith);
      gate = get_or_append_left pages.changed (true ∷ []) false 0 some ∙ are.gate;
      some_before = are.some_before;
      before = rw size (omega arith);
      added = λ p above below. elim (cases_lt p (page_count pages)) [
        | inl there ↦ get_or_append_left pages.changed (true ∷ []) false p there ∙ are.added p above there
        | inr past ↦
            get_or_push pages.changed true false p (last p (page_count pages) past (rw size at below))
      ];
    }
  where
    last : (p count : ℕ) → count ≤ p → p < count + 1 → count ≡ p
    last p count past below = omega arith

-- ---- bytes put into a page

pub same_put : (page at : ℕ) (new : List ℕ) (pages : Pages) → stand_at (place_in page at) new pages.bytes ≡ true
    → pages ≡ with_bytes page at new pages
same_put page at new pages same =
    let bytes : pages.bytes ≡ overwritten (place_in page at) new pages.bytes =
    sym (overwritten_same (place_in page at) new pages.bytes same) in
    let changed : pages.changed ≡ cond (stand_at (place_in page at) new pages.bytes) pages.changed
    (set pages.changed page true) = ap (λ b. cond b pages.changed (set pages.changed page true)) (sym same) in
    λ i. record { bytes = bytes i; changed = changed i; before = pages.before }

-- what a comparison of the bytes of a part with others has told
pub stand_told : (place size : ℕ) (new bytes part : List ℕ) (told : Bool) → size ≡ length new → part ≡ bytes
    → told ≡ bytes_eq (take size (drop place part)) new → told ≡ true → stand_at place new bytes ≡ true
stand_told place size new bytes part told size_is part_is told_is same =
    ap (λ n. bytes_eq (take n (drop place bytes)) new) (sym size_is)
    ∙ ap (λ l. bytes_eq (take size (drop place l)) new) (sym part_is)
    ∙ sym told_is ∙ same

-- ---- a page more

pub blank_added : (old : Pages) (bytes : List ℕ) (changed : List Bool) → bytes ≡ old.bytes ++ replicate page_size 0
    → changed ≡ old.changed ++ true ∷ [] → record old { bytes = bytes; changed = changed } ≡ with_blank old
blank_added old bytes changed bytes_is changed_is =
    λ i. record { bytes = bytes_is i; changed = changed_is i; before = old.before }

-- ---- a page's bytes

pub length-image : (page : ℕ) (pages : Pages) → ArePages pages → page < page_count pages
    → length (image_of pages page).image ≡ page_size
length-image page pages are there =
    let whole : length pages.bytes ≡ page_size * page_count pages = are.whole in
    omega (
      arith,
      length-take page_size (drop (page_size * page) pages.bytes),
      length-drop (page_size * page) pages.bytes,
    )

-- What the journal of a change is told by.
use Rattle.std.specs.List.{list_all}
use Rattle.std.proofs.Common.{◌≡◌, ℕ, suc, ◌+◌, ◌*◌, ◌≤◌, ◌<◌, ◌^◌, true, max, Contains, List, [], ◌∷◌, length, nat_lt}
use Rattle.std.proofs.Common.{inl, inr, refl, sym, ap, subst, arith}
use Rattle.std.proofs.lemmas.Bool.{and_parts, cases_lt, lt-ltb, ltb-true}
use Rattle.std.proofs.lemmas.List.{length-map}
use Rattle.std.proofs.lemmas.List.Sums.{list_all-from_AllPass}
use Rattle.pl_base.specs.Touched.{AreImages, Change, IsWithin, PageImage, ascends_above, bytes_before, page_numbers}
use Rattle.pl_base.specs.Touched.{page_size}
use Rattle.pl_desk.specs.Desk.{overwritten}
use Rattle.pl_gate.specs.Device.{entry_bytes, place_bytes, start_of, with_entries}
use Rattle.pl_gate.specs.Gate.{entry_size}
use Rattle.pl_gate.specs.States.{IsClosed, IsStaged}
use Rattle.pl_gate.proofs.ClosedFiles.{closed_empty, closed_entries, room}
use Rattle.pl_gate.proofs.Entries.{AreEntries, entries_reach, entries_written, torn_entries}
use Rattle.pl_gate.proofs.JournalFiles.{AreWhole}
use Rattle.pl_gate.proofs.Pages.{ascends_first, has_in, none_contains}
use Rattle.pl_gate.proofs.StagedFiles.{IsTold, staged}

-- there are no more ascending numbers than their bound
few : (ns : List ℕ) (last after : ℕ) → ascends_above last ns ≡ true → list_all (λ k. nat_lt k after) ns ≡ true
    → last + length ns < max after (last + 1)
few [] last after ascends below = omega arith
few (n ∷ ns) last after ascends below =
    let first = ascends_first last n ns ascends in
    let both = and_parts (nat_lt n after) (list_all (λ k. nat_lt k after) ns) below in
    omega (arith, first.0, ltb-true n after both.0, few ns n after first.1 both.1)

whole_of : (pages : List PageImage) → AreImages pages → AreWhole pages
whole_of [] are = tt
whole_of (p ∷ pages) are = (are 0 p (omega arith), whole_of pages (λ k d lt. are (suc k) d (omega (arith, lt))))

entries_of : (pages : List PageImage) (after : ℕ) → AreWhole pages
    → list_all (λ k. nat_lt k after) (page_numbers pages) ≡ true → after < 2 ^ 32 → AreEntries pages
entries_of [] after whole below bound = tt
entries_of (p ∷ pages) after (whole, rest) below bound =
    let both = and_parts (nat_lt p.page after) (list_all (λ k. nat_lt k after) (page_numbers pages)) below in (
      record { number = omega (arith, ltb-true p.page after both.0, bound); whole = whole },
      entries_of pages after rest both.1 bound,
    )

module _ (change : Change) (within : IsWithin change) (ascending : ascends_above 0 (page_numbers change.pages) ≡ true)
    (images : AreImages change.pages) (before : change.before < 2 ^ 32) (after : change.after < 2 ^ 32) where
  below : list_all (λ k. nat_lt k change.after) (page_numbers change.pages) ≡ true
  below =
      list_all-from_AllPass (λ k. nat_lt k change.after) (page_numbers change.pages)
      (λ k d lt. lt-ltb _ change.after (within.below k d lt))

  pub count : length change.pages < 2 ^ 32
  count =
      omega (
        arith,
        after,
        within.some_page,
        length-map change.pages (λ (p : PageImage). p.page),
        few (page_numbers change.pages) 0 change.after ascending below,
      )

  pub told : IsTold change
  told = record {
    within = within;
    ascending = ascending;
    whole = whole_of change.pages images;
    below = below;
    start = omega (arith, before, after);
    count = count;
    after = after;
  }

  pub are_entries : AreEntries change.pages
  are_entries = entries_of change.pages change.after (whole_of change.pages images) below after

  -- the entries reach behind the journal's start, wherever the file ends that held the pages before
  reaches : (pages file : List ℕ) → IsClosed pages file → length pages ≡ bytes_before change.before → 1 ≤ change.before
      → start_of change + entry_size * length change.pages ≤ length (with_entries (start_of change) change.pages file)
  reaches pages file closed len some =
      entries_reach change.pages (start_of change) file are_entries (λ (none : length change.pages ≡ 0).
      elim (cases_lt change.before change.after) [
        | inl less ↦ absurd (lacks none
            (has_in change.before change.pages (within.added change.before (omega arith) less)))
        | inr more ↦ omega (arith, room pages file closed, len, more, some)
      ])
    where
      lacks : length change.pages ≡ 0 → Contains (page_numbers change.pages) change.before → ⊥
      lacks none (k, lt, is) = omega (arith, lt, none, length-map change.pages (λ (p : PageImage). p.page))

  -- a file with the journal and its place is staged
  pub staged_file : (pages file : List ℕ) → IsClosed pages file → length pages ≡ bytes_before change.before
      → 1 ≤ change.before
      → IsStaged change pages (overwritten 0 8 (place_bytes (start_of change) (length change.pages) change.after)
      (with_entries (start_of change) change.pages file))
  staged_file pages file closed len some =
      let start = start_of change in
      let behind : page_size + length pages ≤ start = omega (arith, len, some) in
      staged change told pages (with_entries start change.pages file)
      (closed_entries change.pages pages start file (with_entries start change.pages file) behind closed
      (torn_entries change.pages start file are_entries)) len some
      (entries_written change.pages start file are_entries) (reaches pages file closed len some)

-- the same on an empty file, which counts as a store of the gate's page alone
pub staged_empty : (change : Change) → IsWithin change → ascends_above 0 (page_numbers change.pages) ≡ true
    → AreImages change.pages → change.after < 2 ^ 32 → change.before ≡ 1 → 1 < change.after
    → IsStaged change [] (overwritten 0 8 (place_bytes (start_of change) (length change.pages) change.after)
    (with_entries (start_of change) change.pages []))
staged_empty change within ascending images after one some = by change.pages refl
  where
    start : ℕ
    start = start_of change

    before : change.before < 2 ^ 32
    before = omega (arith, one)

    are : AreEntries change.pages
    are = are_entries change within ascending images before after

    by : (pages : List PageImage) → change.pages ≡ pages
        → IsStaged change [] (overwritten 0 8 (place_bytes start (length change.pages) change.after)
        (with_entries start change.pages []))
    by [] is =
        absurd
        (none_contains 1 (subst (λ (l : List PageImage). Contains (page_numbers l) 1) is
        (has_in 1 change.pages (within.added 1 (omega (arith, one)) some))))
    by (p ∷ pages) is =
        let first = overwritten 0 start (entry_bytes p) [] in
        let file = with_entries start change.pages [] in
        let are_rest = (subst AreEntries is are).1 in
        let closed_first : IsClosed [] first = closed_empty start (entry_bytes p) (omega (arith, one)) in
        let rest = with_entries (start + entry_size) pages first in
        let closed_rest : IsClosed [] rest =
        closed_entries pages [] (start + entry_size) first rest (omega (arith, one)) closed_first
        (torn_entries pages (start + entry_size) first are_rest) in
        let closed : IsClosed [] file =
        subst (λ (l : List PageImage). IsClosed [] (with_entries start l [])) (sym is) closed_rest in
        staged change (told change within ascending images before after) [] file closed (omega (arith, one))
        (omega (arith, one)) (entries_written change.pages start [] are)
        (entries_reach change.pages start [] are
        (λ (none : length change.pages ≡ 0). omega (arith, none, ap length is)))

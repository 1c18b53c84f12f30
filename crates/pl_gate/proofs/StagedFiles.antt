-- The gate's byte, and files before and after it is set.
use Rattle.std.specs.List.{list_all}
use Rattle.std.specs.Int.{w32, w64, from_le_bytes}
use Rattle.std.proofs.Common.{◌≡◌, ◌⊎◌, ℕ, ◌+◌, ◌*◌, ◌≤◌, ◌<◌, ◌^◌, true, false, List, [], ◌∷◌, length, take, drop}
use Rattle.std.proofs.Common.{slice_index, nat_lt, inl, inr, refl, sym, ◌∙◌, ap, subst, arith}
use Rattle.std.proofs.lemmas.Bool.{cases_eq, cases_lt, ne_eqb}
use Rattle.std.proofs.lemmas.Map.Views.{exact_unsigned_eq}
use Rattle.std.proofs.lemmas.List.{take-take, drop-drop, drop-take, drop_more, length-take, length-drop, take_all}
use Rattle.std.proofs.lemmas.Nat.{from_le_bytes-to_le_bytes_4, from_le_bytes-to_le_bytes_8}
use Rattle.pl_base.specs.Touched.{Change, IsWithin, PageImage, ascends_above, changed, bytes_before, page_numbers}
use Rattle.pl_base.specs.Touched.{page_size, with_pages}
use Rattle.pl_desk.specs.Desk.{Torn, overwritten}
use Rattle.pl_desk.specs.Overwritten.{overwritten_within, torn_overwritten}
use Rattle.pl_gate.specs.Device.{place_bytes, start_of, with_gate}
use Rattle.pl_gate.specs.Gate.{Holds, entries, entry_size, is_set, journal, journal_len, journal_start, laid}
use Rattle.pl_gate.specs.Gate.{pages_after}
use Rattle.pl_gate.specs.States.{IsArmed, IsClosed, IsInstalled, IsStaged}
use Rattle.pl_gate.proofs.ArmedFiles.{laid_set}
use Rattle.pl_gate.proofs.Bytes.{drop_further, same_in_back}
use Rattle.pl_gate.proofs.ClosedFiles.{begins, closed_as, closed_torn_place, gate_closed, has_long, laid_closed, long}
use Rattle.pl_gate.proofs.Entries.{overwritten_range}
use Rattle.pl_gate.proofs.JournalFiles.{AreWhole, HasJournal, all_fit, entries_behind, gate_set}
use Rattle.pl_gate.proofs.Pages.{AllFit, grown, has_in, length-with_pages, with_pages_take}

pub with_gate_is : (byte : ℕ) (file : List ℕ) → with_gate byte file ≡ byte ∷ drop 1 file
with_gate_is byte file = overwritten_within 0 0 (byte ∷ []) file (omega arith)

-- a write of the gate's byte that a stop cuts short leaves some byte there
pub torn_gate : (file new : List ℕ) → 1 ≤ length file → Torn 0 1 file new
    → (new ≡ slice_index new 0 ∷ drop 1 file) × (length new ≡ length file)
torn_gate file new le torn = (
  drop_more new 0 0 (omega (arith, le, torn.no_shorter)) ∙ ap (λ (l : List ℕ). slice_index new 0 ∷ l) torn.after,
  omega (arith, le, torn.no_shorter, torn.no_longer),
)

pub unset : (byte : ℕ) (rest : List ℕ) → (byte ≡ 1 → ⊥) → is_set (byte ∷ rest) ≡ false
unset byte rest other = ne_eqb byte 1 other

pub behind_gate : (byte : ℕ) (file : List ℕ) (n : ℕ) → 1 ≤ n → drop n (byte ∷ drop 1 file) ≡ drop n file
behind_gate byte file n le = drop_further file (byte ∷ drop 1 file) 1 n le refl

-- ---- setting the gate

pub torn_staged : (change : Change) (pages file new : List ℕ) → IsStaged change pages file → Torn 0 1 file new
    → Holds pages new ⊎ Holds (changed change pages) new
torn_staged change pages file new staged torn =
    let some : 1 ≤ length file = omega (arith, has_long pages file staged.closed) in
    let is = torn_gate file new some torn in
    elim (cases_eq (slice_index new 0) 1) [
      | inl set ↦ inr (subst (Holds (changed change pages))
          (with_gate_is 1 file ∙ ap (λ (b : ℕ). b ∷ drop 1 file) (sym set) ∙ sym is.0) staged.ready.holds)
      | inr other ↦
          let closed : is_set new ≡ false = ap is_set is.0 ∙ unset (slice_index new 0) (drop 1 file) other in
          let same : drop page_size new ≡ drop page_size file =
          ap (drop page_size) is.0 ∙ behind_gate (slice_index new 0) file page_size (omega arith) in
          inl (closed_as pages file staged.closed new (closed ∙ sym staged.closed.closed)
          (omega (arith, has_long pages file staged.closed, is.1)) (ap (take (length pages)) same)).holds
    ]

-- ---- clearing it

cleared : (change : Change) (pages file new : List ℕ) (byte : ℕ) → IsInstalled change pages file → (byte ≡ 1 → ⊥)
    → new ≡ byte ∷ drop 1 file → length new ≡ length file → IsClosed pages new
cleared change pages file new byte installed other is len =
    let closed : is_set new ≡ false = ap is_set is ∙ unset byte (drop 1 file) other in
    let same : drop page_size new ≡ drop page_size file =
    ap (drop page_size) is ∙ behind_gate byte file page_size (omega arith) in
    record {
      closed = closed;
      holds = record {
        gate = gate_closed new (omega (arith, len, long file installed.armed.holds.gate)) closed;
        begins =
            ap (take (length pages)) (laid_closed new closed ∙ same ∙ installed.in_place)
            ∙ installed.armed.holds.begins;
      };
    }

pub torn_installed : (change : Change) (pages file new : List ℕ) → IsInstalled change pages file → Torn 0 1 file new
    → Holds pages new
torn_installed change pages file new installed torn =
    let le = long file installed.armed.holds.gate in
    let is = torn_gate file new (omega (arith, le)) torn in
    let byte = exact_unsigned_eq (slice_index file 0) 1 installed.armed.set in
    elim (cases_eq (slice_index new 0) 1) [
      | inl set ↦
          let whole : file ≡ 1 ∷ drop 1 file =
          drop_more file 0 0 (omega (arith, le)) ∙ ap (λ (b : ℕ). b ∷ drop 1 file) byte in
          subst (Holds pages) (whole ∙ ap (λ (b : ℕ). b ∷ drop 1 file) (sym set) ∙ sym is.0) installed.armed.holds
      | inr other ↦ (cleared change pages file new (slice_index new 0) installed other is.0 is.1).holds
    ]

pub cleared_gate : (change : Change) (pages file : List ℕ) → IsInstalled change pages file
    → IsClosed pages (with_gate 0 file)
cleared_gate change pages file installed =
    let le = long file installed.armed.holds.gate in
    let is = torn_gate file (with_gate 0 file) (omega (arith, le)) (torn_overwritten 0 0 (0 ∷ []) file) in
    cleared change pages file (with_gate 0 file) 0 installed (λ (one : 0 ≡ 1). omega (arith, one)) (with_gate_is 0 file)
    is.1

-- ---- staging

-- the change's shape, and the numbers that its journal is told by
pub record IsTold (change : Change) : Type 0 where
  pub within : IsWithin change
  pub ascending : ascends_above 0 (page_numbers change.pages) ≡ true
  pub whole : AreWhole change.pages
  pub below : list_all (λ k. nat_lt k change.after) (page_numbers change.pages) ≡ true
  pub start : start_of change < 2 ^ 64
  pub count : length change.pages < 2 ^ 32
  pub after : change.after < 2 ^ 32

module _ (change : Change) (told : IsTold change) (pages file : List ℕ) (closed : IsClosed pages file)
    (len : length pages ≡ bytes_before change.before) (some : 1 ≤ change.before)
    (written : entries (length change.pages) (start_of change) file ≡ change.pages)
    (reaches : start_of change + entry_size * length change.pages ≤ length file) where
  abbrev place : List ℕ
  place = place_bytes (start_of change) (length change.pages) change.after

  abbrev told_file : List ℕ
  told_file = overwritten 0 8 place file

  abbrev set_file : List ℕ
  set_file = 1 ∷ drop 1 told_file

  torn_place : Torn 8 16 file told_file
  torn_place = torn_overwritten 0 8 place file

  len_told : length told_file ≡ length file
  len_told = omega (arith, torn_place.no_shorter, torn_place.no_longer, has_long pages file closed)

  len_set : length set_file ≡ length file
  len_set = omega (arith, len_told, length-drop 1 told_file, has_long pages file closed)

  from_place : take 16 (drop 8 told_file) ≡ place
  from_place = (overwritten_range 8 place file).0

  start_told : journal_start told_file ≡ start_of change
  start_told =
      ap (from_le_bytes w64) (sym (take-take 8 16 (drop 8 told_file) (omega arith)) ∙ ap (take 8) from_place)
      ∙ from_le_bytes-to_le_bytes_8 (start_of change) told.start

  start_is : journal_start set_file ≡ start_of change
  start_is = ap (from_le_bytes w64) (same_in_back told_file set_file 8 16 1 (omega arith) refl) ∙ start_told

  count_is : journal_len set_file ≡ length change.pages
  count_is =
      ap (from_le_bytes w32) (same_in_back told_file set_file 16 20 1 (omega arith) refl
      ∙ ap (take 4) (sym (drop-drop 8 8 told_file)) ∙ sym (drop-take 8 4 (drop 8 told_file))
      ∙ ap (drop 8) (sym (take-take 12 16 (drop 8 told_file) (omega arith)) ∙ ap (take 12) from_place))
      ∙ from_le_bytes-to_le_bytes_4 (length change.pages) told.count

  after_is : pages_after set_file ≡ change.after
  after_is =
      ap (from_le_bytes w32) (same_in_back told_file set_file 20 24 1 (omega arith) refl
      ∙ ap (take 4) (sym (drop-drop 12 8 told_file)) ∙ sym (drop-take 12 4 (drop 8 told_file))
      ∙ ap (drop 12) from_place)
      ∙ from_le_bytes-to_le_bytes_4 change.after told.after

  behind_is : (n : ℕ) → 24 ≤ n → drop n set_file ≡ drop n file
  behind_is n le = behind_gate 1 told_file n (omega (arith, le)) ∙ drop_further file told_file 24 n le torn_place.after

  journal_is : journal set_file ≡ change.pages
  journal_is =
      ap (λ (n : ℕ). entries n (journal_start set_file) set_file) count_is
      ∙ ap (λ (n : ℕ). entries (length change.pages) n set_file) start_is
      ∙ entries_behind (length change.pages) (start_of change) 24 file set_file (omega (arith, some))
      (behind_is 24 (omega arith))
      ∙ written

  has_journal : HasJournal set_file
  has_journal = record {
    within = omega (arith, start_is, count_is, reaches, len_set);
    behind = omega (arith, start_is, after_is);
    ascending = ap (λ (l : List PageImage). ascends_above 0 (page_numbers l)) journal_is ∙ told.ascending;
    below =
        ap (λ (l : List PageImage). list_all (λ k. nat_lt k (pages_after set_file)) (page_numbers l)) journal_is
        ∙ ap (λ (n : ℕ). list_all (λ k. nat_lt k n) (page_numbers change.pages)) after_is ∙ told.below;
  }

  abbrev bytes : List ℕ
  bytes = drop page_size set_file

  abbrev kept : List ℕ
  kept = take (bytes_before change.after) bytes

  len_bytes : bytes_before change.after ≤ length bytes
  len_bytes = omega (arith, length-drop page_size set_file, len_set, reaches, told.within.some_page)

  len_kept : length kept ≡ bytes_before change.after
  len_kept = omega (arith, length-take (bytes_before change.after) bytes, len_bytes)

  begins_bytes : take (length pages) bytes ≡ pages
  begins_bytes = ap (take (length pages)) (behind_is page_size (omega arith)) ∙ begins pages file closed

  fit_kept : AllFit change.pages (bytes_before change.after)
  fit_kept =
      all_fit change.pages 0 change.after (bytes_before change.after) told.whole told.ascending told.below (omega arith)

  kept_is : with_pages change.pages kept ≡ changed change pages
  kept_is = elim (cases_lt change.after change.before) [
    | inl less ↦
        let le : bytes_before change.after ≤ length pages = omega (arith, len, less) in
        ap (with_pages change.pages)
        (sym (take-take (bytes_before change.after) (length pages) bytes le)
        ∙ ap (take (bytes_before change.after)) begins_bytes)
    | inr more ↦
        let le : length pages ≤ bytes_before change.after = omega (arith, len, more) in
        grown change.pages 0 change.before change.after pages kept len len_kept some more
        (take-take (length pages) (bytes_before change.after) bytes le ∙ begins_bytes)
        told.ascending (subst (AllFit change.pages) (sym len_kept) fit_kept)
        (λ n above below. has_in n change.pages (told.within.added n above below))
        ∙ ap (with_pages change.pages) (sym (take_all (bytes_before change.after) pages le))
  ]

  len_changed : length (changed change pages) ≡ bytes_before change.after
  len_changed =
      ap length (sym kept_is) ∙ length-with_pages change.pages kept
      (subst (AllFit change.pages) (sym len_kept) fit_kept) ∙ len_kept

  armed : IsArmed change (changed change pages) set_file
  armed = record {
    set = refl;
    journal = journal_is;
    after = after_is;
    holds = record {
      gate = gate_set set_file (omega (arith, len_set, has_long pages file closed)) refl has_journal;
      begins =
          ap (λ (n : ℕ). take n (laid set_file)) len_changed
          ∙ ap (take (bytes_before change.after))
          (laid_set set_file refl ∙ ap (λ (l : List PageImage). with_pages l bytes) journal_is)
          ∙ with_pages_take change.pages bytes (bytes_before change.after) fit_kept len_bytes ∙ kept_is;
    };
  }

  pub staged : IsStaged change pages told_file
  staged = record {
    closed = closed_torn_place pages file closed told_file torn_place;
    start = start_told;
    ready = subst (IsArmed change (changed change pages)) (sym (with_gate_is 1 told_file)) armed;
  }

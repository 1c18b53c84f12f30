-- What a file's journal depends on.
use Rattle.std.specs.List.{list_all}
use Rattle.std.specs.Int.{w64, from_le_bytes}
use Rattle.std.proofs.Common.{◌≡◌, ℕ, zero, suc, ◌+◌, ◌-◌, ◌*◌, ◌≤◌, ◌<◌, Bool, true, false, ◌&&◌, ◌||◌, not, ◌⊎◌, inl}
use Rattle.std.proofs.Common.{inr, List, [], ◌∷◌, length, drop, slice_range, nat_le, nat_lt, Option, Some, None}
use Rattle.std.proofs.Common.{refl, sym, ◌∙◌, ap, subst, arith}
use Rattle.std.proofs.lemmas.Bool.{and_cases, and_from, and_left, and_parts, and_right, le-leb, le-ltb, leb-true}
use Rattle.std.proofs.lemmas.Bool.{lt-ltb, ltb-true}
use Rattle.std.proofs.lemmas.List.{length-take, length-drop}
use Rattle.pl_base.specs.Touched.{PageImage, bytes_before, page_size, page_numbers, ascends_above}
use Rattle.pl_gate.specs.Gate.{entries, entry_at, entry_size, has_gate, is_journal, is_set, journal, journal_len}
use Rattle.pl_gate.specs.Gate.{journal_start, pages_after}
use Rattle.pl_gate.proofs.Bytes.{same_in_back}
use Rattle.pl_gate.proofs.Pages.{AllFit, ascends_first}

-- the parts of the journal's format
pub record HasJournal (file : List ℕ) : Type 0 where
  pub within : journal_start file + entry_size * journal_len file ≤ length file
  pub behind : page_size * pages_after file ≤ journal_start file
  pub ascending : ascends_above 0 (page_numbers (journal file)) ≡ true
  pub below : list_all (λ n. nat_lt n (pages_after file)) (page_numbers (journal file)) ≡ true

pub journal_parts : (file : List ℕ) → is_journal file ≡ true → HasJournal file
journal_parts file is =
    let front = nat_le (journal_start file + entry_size * journal_len file) (length file) in
    let behind = nat_le (page_size * pages_after file) (journal_start file) in
    let ascending = ascends_above 0 (page_numbers (journal file)) in
    let below = list_all (λ n. nat_lt n (pages_after file)) (page_numbers (journal file)) in
    let three = and_parts (front && behind && ascending) below is in
    let two = and_parts (front && behind) ascending three.0 in
    let one = and_parts front behind two.0 in
    record {
      within = leb-true (journal_start file + entry_size * journal_len file) (length file) one.0;
      behind = leb-true (page_size * pages_after file) (journal_start file) one.1;
      ascending = two.1;
      below = three.1;
    }

pub is_journal_by : (file : List ℕ) → HasJournal file → is_journal file ≡ true
is_journal_by file has =
    let front = nat_le (journal_start file + entry_size * journal_len file) (length file) in
    let behind = nat_le (page_size * pages_after file) (journal_start file) in
    let ascending = ascends_above 0 (page_numbers (journal file)) in
    let below = list_all (λ n. nat_lt n (pages_after file)) (page_numbers (journal file)) in
    let one = le-leb (journal_start file + entry_size * journal_len file) (length file) has.within in
    let two = le-leb (page_size * pages_after file) (journal_start file) has.behind in
    and_from (front && behind && ascending) below
    (and_from (front && behind) ascending (and_from front behind one two) has.ascending) has.below

pub gate_journal : (file : List ℕ) → has_gate file ≡ true → is_set file ≡ true → HasJournal file
gate_journal file gate set =
    let both = and_parts (nat_le page_size (length file)) (not (is_set file) || is_journal file) gate in
    journal_parts file (subst (λ (b : Bool). (not b || is_journal file) ≡ true) set both.1)

pub gate_set : (file : List ℕ) → page_size ≤ length file → is_set file ≡ true → HasJournal file → has_gate file ≡ true
gate_set file le set has =
    and_from (nat_le page_size (length file)) (not (is_set file) || is_journal file) (le-leb page_size (length file) le)
    (subst (λ (b : Bool). (not b || is_journal file) ≡ true) (sym set) (is_journal_by file has))

-- ---- entries

-- entries behind an offset from which on files are the same
pub entries_behind : (n at k : ℕ) (old new : List ℕ) → k ≤ at → drop k new ≡ drop k old
    → entries n at new ≡ entries n at old
entries_behind zero at k old new le same = refl
entries_behind (suc n) at k old new le same =
    let number = same_in_back old new at (at + 8) k le same in
    let image = same_in_back old new (at + 8) (at + entry_size) k (omega (arith, le)) same in
    ap (λ (l : List ℕ). record { page = from_le_bytes w64 l; image = slice_range new (at + 8) (at + entry_size) }
    ∷ entries n (at + entry_size) new) number
    ∙ ap (λ (l : List ℕ). record { page = from_le_bytes w64 (slice_range old at (at + 8)); image = l }
    ∷ entries n (at + entry_size) new) image
    ∙ ap (λ (l : List PageImage). entry_at at old ∷ l)
    (entries_behind n (at + entry_size) k old new (omega (arith, le)) same)

-- entries within the file have whole images
abbrev pub AreWhole : List PageImage → Type 0
AreWhole [] = Unit {0}
AreWhole (p ∷ pages) = (length p.image ≡ page_size) × AreWhole pages

pub entries_whole : (n at : ℕ) (file : List ℕ) → at + entry_size * n ≤ length file → AreWhole (entries n at file)
entries_whole zero at file le = tt
entries_whole (suc n) at file le =
    let bytes = drop (at + 8) file in
    let size : (at + entry_size) - (at + 8) ≡ page_size = omega arith in (
      omega (arith, le, size, length-take ((at + entry_size) - (at + 8)) bytes, length-drop (at + 8) file),
      entries_whole n (at + entry_size) file (omega (arith, le)),
    )

-- pages of the store fit into its bytes
pub all_fit : (pages : List PageImage) (last after n : ℕ) → AreWhole pages
    → ascends_above last (page_numbers pages) ≡ true
    → list_all (λ k. nat_lt k after) (page_numbers pages) ≡ true → bytes_before after ≤ n → AllFit pages n
all_fit [] last after n whole ascends below room = tt
all_fit (p ∷ pages) last after n (whole, rest) ascends below room =
    let first = ascends_first last p.page (page_numbers pages) ascends in
    let both = and_parts (nat_lt p.page after) (list_all (λ k. nat_lt k after) (page_numbers pages)) below in
    let less = ltb-true p.page after both.0 in (
      record { within = omega (arith, first.0, less, room); whole = whole },
      omega (arith, first.0),
      all_fit pages p.page after n rest first.1 both.1 room,
    )

-- ---- the journal's numbers, one after another

-- the numbers ascend above this one, and lie below the other
abbrev pub numbers_fit : ℕ → ℕ → List ℕ → Bool
numbers_fit last after ns = ascends_above last ns && list_all (λ k. nat_lt k after) ns

pub numbers_next : (last after n : ℕ) (ns : List ℕ) → last < n → n < after
    → numbers_fit last after (n ∷ ns) ≡ numbers_fit n after ns
numbers_next last after n ns above below =
    ap (λ (b : Bool). b && ascends_above n ns && (nat_lt n after && list_all (λ k. nat_lt k after) ns))
    (lt-ltb last n above)
    ∙ ap (λ (b : Bool). ascends_above n ns && (b && list_all (λ k. nat_lt k after) ns)) (lt-ltb n after below)

pub numbers_stop : (last after n : ℕ) (ns : List ℕ) → (n ≤ last) ⊎ (after ≤ n) → numbers_fit last after (n ∷ ns) ≡ false
numbers_stop last after n ns (inl le) =
    and_left (ascends_above last (n ∷ ns)) (list_all (λ k. nat_lt k after) (n ∷ ns))
    (and_left (nat_lt last n) (ascends_above n ns) (le-ltb last n le))
numbers_stop last after n ns (inr le) =
    and_right (ascends_above last (n ∷ ns)) (list_all (λ k. nat_lt k after) (n ∷ ns))
    (and_left (nat_lt n after) (list_all (λ k. nat_lt k after) ns) (le-ltb n after le))

pub numbers_true : (last after n : ℕ) (ns : List ℕ) → numbers_fit last after (n ∷ ns) ≡ true
    → (last < n) × (n < after) × (numbers_fit n after ns ≡ true)
numbers_true last after n ns fit =
    let both = and_parts (ascends_above last (n ∷ ns)) (list_all (λ k. nat_lt k after) (n ∷ ns)) fit in
    let first = ascends_first last n ns both.0 in
    let second = and_parts (nat_lt n after) (list_all (λ k. nat_lt k after) ns) both.1 in (
      first.0,
      ltb-true n after second.0,
      and_from (ascends_above n ns) (list_all (λ k. nat_lt k after) ns) first.1 second.1,
    )

-- the entry at a place
pub entries_at : (n at k : ℕ) (file : List ℕ) → k < n
    → drop k (entries n at file) ≡ entry_at (at + entry_size * k) file ∷ drop (k + 1) (entries n at file)
entries_at zero at k file lt = absurd (omega (arith, lt))
entries_at (suc n) at zero file lt =
    let same : at ≡ at + entry_size * 0 = omega arith in
    ap (λ (m : ℕ). entry_at m file ∷ entries n (at + entry_size) file) same
entries_at (suc n) at (suc k) file lt =
    let more : suc (k + 1) ≡ suc k + 1 = omega arith in
    let same : at + entry_size + entry_size * k ≡ at + entry_size * suc k = omega arith in
    entries_at n (at + entry_size) k file (omega (arith, lt))
    ∙ ap (λ (m : ℕ). entry_at m file ∷ drop (k + 1) (entries n (at + entry_size) file)) same
    ∙ ap (λ (m : ℕ). entry_at (at + entry_size * suc k) file
    ∷ drop m (entry_at at file ∷ entries n (at + entry_size) file)) more

pub length-entries : (n at : ℕ) (file : List ℕ) → length (entries n at file) ≡ n
length-entries zero at file = refl
length-entries (suc n) at file = ap suc (length-entries n (at + entry_size) file)

pub is_no_journal : (file : List ℕ) → numbers_fit 0 (pages_after file) (page_numbers (journal file)) ≡ false
    → is_journal file ≡ false
is_no_journal file unfit =
    let front = nat_le (journal_start file + entry_size * journal_len file) (length file) in
    let behind = nat_le (page_size * pages_after file) (journal_start file) in
    let ascending = ascends_above 0 (page_numbers (journal file)) in
    let below = list_all (λ n. nat_lt n (pages_after file)) (page_numbers (journal file)) in
    elim (and_cases ascending below unfit) [
      | inl none ↦ and_left (front && behind && ascending) below (and_right (front && behind) ascending none)
      | inr none ↦ and_right (front && behind && ascending) below none
    ]

pub journal_fits : (file : List ℕ) → journal_start file + entry_size * journal_len file ≤ length file
    → page_size * pages_after file ≤ journal_start file
    → numbers_fit 0 (pages_after file) (page_numbers (journal file)) ≡ true → is_journal file ≡ true
journal_fits file within behind fit =
    let both =
    and_parts (ascends_above 0 (page_numbers (journal file)))
    (list_all (λ n. nat_lt n (pages_after file)) (page_numbers (journal file))) fit in
    is_journal_by file (record { within = within; behind = behind; ascending = both.0; below = both.1 })

-- ---- what holds of a value that may be there

pub none_of : {A : Type 0} (o : Option A) → ((x : A) → o ≡ Some x → ⊥) → o ≡ None
none_of None lacks = refl
none_of (Some x) lacks = absurd (lacks x refl)

-- Files whose gate is set, and what writes of their pages leave of them.
use Rattle.std.specs.List.{list_all}
use Rattle.std.specs.Int.{w32, w64, from_le_bytes}
use Rattle.std.proofs.Common.{◌≡◌, ℕ, zero, suc, ◌+◌, ◌*◌, ◌≤◌, ◌<◌, ◌==◌, true, Contains, min, List, [], ◌∷◌, ◌++◌}
use Rattle.std.proofs.Common.{length, take, drop, slice_index_or, nat_lt, inl, inr, refl, sym, ◌∙◌, ap, subst, arith}
use Rattle.std.proofs.lemmas.Bool.{cases_lt, ltb-true}
use Rattle.std.proofs.lemmas.List.{drop-drop, drop-take, length-take, length-drop, drop-append-le}
use Rattle.std.proofs.lemmas.List.Sums.{AllPass-from_list_all}
use Rattle.std.proofs.Common.{append_assoc}
use Rattle.pl_base.specs.Touched.{Change, PageImage, bytes_before, page_size, page_numbers, ascends_above, with_page}
use Rattle.pl_base.specs.Touched.{with_pages}
use Rattle.pl_desk.specs.Desk.{Torn, overwritten}
use Rattle.pl_desk.specs.Overwritten.{overwritten_within, torn_overwritten}
use Rattle.pl_gate.specs.Device.{TornIn, image_ranges, with_images}
use Rattle.pl_gate.specs.Gate.{entries, entry_at, entry_size, has_gate, is_set, journal, journal_len, journal_start}
use Rattle.pl_gate.specs.Gate.{laid, pages_after}
use Rattle.pl_gate.specs.States.{IsArmed, IsInstalled}
use Rattle.pl_gate.proofs.Bytes.{first_same, inside_same, same_in_front}
use Rattle.pl_gate.proofs.ClosedFiles.{long}
use Rattle.pl_gate.proofs.JournalFiles.{AreWhole, HasJournal, all_fit, entries_at, entries_behind, entries_whole}
use Rattle.pl_gate.proofs.JournalFiles.{gate_journal, gate_set}
use Rattle.pl_gate.proofs.Pages.{AllFit, TornPage, length-with_page, none_below, torn_pages}

pub laid_set : (file : List ℕ) → is_set file ≡ true → laid file ≡ with_pages (journal file) (drop page_size file)
laid_set file set = rw set refl

-- a number in a list whose numbers are below another
below_of : (n after : ℕ) (ns : List ℕ) → list_all (λ k. nat_lt k after) ns ≡ true → Contains ns n → n < after
below_of n after ns all (k, lt, is) =
    subst (λ (m : ℕ). m < after) is
    (ltb-true (slice_index_or ns k n) after (AllPass-from_list_all (λ m. nat_lt m after) ns all k n lt))

-- ---- a page of the journal is torn in its place

pub record StaysSet (old new : List ℕ) : Type 0 where
  pub set : is_set new ≡ true
  pub gate : has_gate new ≡ true
  pub start : journal_start new ≡ journal_start old
  pub count : journal_len new ≡ journal_len old
  pub journal : journal new ≡ journal old
  pub after : pages_after new ≡ pages_after old
  pub laid : laid new ≡ laid old
  pub len : length new ≡ length old

pub stays_same : (file : List ℕ) → is_set file ≡ true → has_gate file ≡ true → StaysSet file file
stays_same file set gate =
    record { set = set; gate = gate; start = refl; count = refl; journal = refl; after = refl; laid = refl; len = refl }

module _ (file : List ℕ) (set : is_set file ≡ true) (gate : has_gate file ≡ true) where
  has : HasJournal file
  has = gate_journal file gate set

  pub page_range : (page : ℕ) → Contains (page_numbers (journal file)) page
      → (1 ≤ page) × (page_size * page + page_size ≤ journal_start file) × (journal_start file ≤ length file)
  page_range page contains =
      let positive : 1 ≤ page = elim (cases_lt 0 page) [
        | inl some ↦ some
        | inr none ↦ absurd (none_below 0 page (page_numbers (journal file)) has.ascending none contains)
      ] in
      let less = below_of page (pages_after file) (page_numbers (journal file)) has.below contains in
      (positive, omega (arith, less, has.behind), omega (arith, has.within))

  pub fit : AllFit (journal file) (length (drop page_size file))
  fit =
      all_fit (journal file) 0 (pages_after file) (length (drop page_size file))
      (entries_whole (journal_len file) (journal_start file) file has.within) has.ascending has.below
      (omega (arith, has.within, has.behind, length-drop page_size file))

  pub torn_set : (page : ℕ) (new : List ℕ) → Contains (page_numbers (journal file)) page
      → Torn (page_size * page) page_size file new → StaysSet file new
  torn_set page new contains torn =
      let at = page_size * page in
      let range = page_range page contains in
      let start = journal_start file in
      let short : min at (length file) ≡ at = omega (arith, range.1, range.2) in
      let front : take at new ≡ take at file = ap (λ (k : ℕ). take k new) (sym short) ∙ torn.before in
      let len : length new ≡ length file = omega (arith, torn.no_shorter, torn.no_longer, range.1, range.2) in
      let some : 24 ≤ at = omega (arith, range.0) in
      let first = first_same file new at (omega (arith, some)) front in
      let set_new : is_set new ≡ true = ap (λ (b : ℕ). b == 1) first ∙ set in
      let start_is : journal_start new ≡ start =
      ap (from_le_bytes w64) (same_in_front file new 8 16 at (omega arith) (omega (arith, some)) front) in
      let len_is : journal_len new ≡ journal_len file =
      ap (from_le_bytes w32) (same_in_front file new 16 20 at (omega arith) (omega (arith, some)) front) in
      let after_is : pages_after new ≡ pages_after file =
      ap (from_le_bytes w32) (same_in_front file new 20 24 at (omega arith) (omega (arith, some)) front) in
      let journal_is : journal new ≡ journal file =
      ap (λ (n : ℕ). entries n (journal_start new) new) len_is
      ∙ ap (λ (n : ℕ). entries (journal_len file) n new) start_is
      ∙ entries_behind (journal_len file) start (at + page_size) file new range.1 torn.after in
      let has_new : HasJournal new = record {
        within = omega (arith, has.within, start_is, len_is, len);
        behind = omega (arith, has.behind, start_is, after_is);
        ascending = ap (λ (l : List PageImage). ascends_above 0 (page_numbers l)) journal_is ∙ has.ascending;
        below =
            ap (λ (l : List PageImage). list_all (λ k. nat_lt k (pages_after new)) (page_numbers l)) journal_is
            ∙ ap (λ (n : ℕ). list_all (λ k. nat_lt k n) (page_numbers (journal file))) after_is ∙ has.below;
      } in
      let behind : page_size + (bytes_before page + page_size) ≡ at + page_size = omega (arith, range.0) in
      let torn_page : TornPage page (drop page_size file) (drop page_size new) = record {
        len = omega (arith, length-drop page_size file, length-drop page_size new, len);
        before = inside_same file new page_size (bytes_before page) at (omega (arith, range.0)) front;
        after =
            drop-drop (bytes_before page + page_size) page_size new ∙ ap (λ (n : ℕ). drop n new) behind ∙ torn.after
            ∙ ap (λ (n : ℕ). drop n file) (sym behind) ∙ sym (drop-drop (bytes_before page + page_size) page_size file);
      } in
      record {
        set = set_new;
        gate = gate_set new (omega (arith, long file gate, len)) set_new has_new;
        start = start_is;
        count = len_is;
        journal = journal_is;
        after = after_is;
        laid =
            laid_set new set_new ∙ ap (λ (l : List PageImage). with_pages l (drop page_size new)) journal_is
            ∙ torn_pages (journal file) page (drop page_size file) (drop page_size new) fit range.0 contains torn_page
            ∙ sym (laid_set file set);
        len = len;
      }

pub stays_through : (old mid new : List ℕ) → StaysSet old mid → StaysSet mid new → StaysSet old new
stays_through old mid new first second = record {
  set = second.set;
  gate = second.gate;
  start = second.start ∙ first.start;
  count = second.count ∙ first.count;
  journal = second.journal ∙ first.journal;
  after = second.after ∙ first.after;
  laid = second.laid ∙ first.laid;
  len = second.len ∙ first.len;
}

-- each of the pages is one of the journal's
abbrev pub AllIn : List PageImage → List ℕ → Type 0
AllIn [] ns = Unit {0}
AllIn (p ∷ pages) ns = Contains ns p.page × AllIn pages ns

pub torn_all : (pages : List PageImage) (file new : List ℕ) → is_set file ≡ true → has_gate file ≡ true
    → AllIn pages (page_numbers (journal file)) → TornIn (image_ranges pages) file new → StaysSet file new
torn_all [] file new set gate within torn = subst (StaysSet file) (sym torn) (stays_same file set gate)
torn_all (p ∷ pages) file new set gate (contains, within) (mid, torn, rest) =
    let first = torn_set file set gate p.page mid contains torn in
    let within_mid = subst (λ (l : List PageImage). AllIn pages (page_numbers l)) (sym first.journal) within in
    stays_through file mid new first (torn_all pages mid new first.set first.gate within_mid rest)

-- ---- images in their places

-- the gate's page apart, a write of a page is that page put into its place
with_image : (p : PageImage) (file : List ℕ) → 1 ≤ p.page → length p.image ≡ page_size
    → page_size * p.page ≤ length file
    → drop page_size (overwritten 0 (page_size * p.page) p.image file) ≡ with_page p (drop page_size file)
with_image p file one whole le =
    let at = page_size * p.page in
    let place : page_size + bytes_before p.page ≡ at = omega (arith, one) in
    let end : at + length p.image ≡ page_size + (bytes_before p.page + page_size) = omega (arith, place, whole) in
    ap (drop page_size) (overwritten_within 0 at p.image file le
    ∙ append_assoc (take at file) p.image (drop (at + length p.image) file))
    ∙ drop-append-le page_size (take at file) (p.image ++ drop (at + length p.image) file)
    (omega (arith, le, place, length-take at file))
    ∙ ap (λ (l : List ℕ). l ++ (p.image ++ drop (at + length p.image) file))
    (ap (λ (n : ℕ). drop page_size (take n file)) (sym place) ∙ drop-take page_size (bytes_before p.page) file)
    ∙ ap (λ (n : ℕ). take (bytes_before p.page) (drop page_size file) ++ (p.image ++ drop n file)) end
    ∙ ap (λ (l : List ℕ). take (bytes_before p.page) (drop page_size file) ++ (p.image ++ l))
    (sym (drop-drop (bytes_before p.page + page_size) page_size file))
    ∙ sym (append_assoc (take (bytes_before p.page) (drop page_size file)) p.image
    (drop (bytes_before p.page + page_size) (drop page_size file)))

same_length : (p : PageImage) (file : List ℕ) → length p.image ≡ page_size
    → page_size * p.page + page_size ≤ length file
    → length (overwritten 0 (page_size * p.page) p.image file) ≡ length file
same_length p file whole le =
    let torn = torn_overwritten 0 (page_size * p.page) p.image file in
    omega (arith, torn.no_shorter, torn.no_longer, whole, le)

pub images_in_place : (pages : List PageImage) (file : List ℕ) → page_size ≤ length file
    → AllFit pages (length (drop page_size file))
    → drop page_size (with_images pages file) ≡ with_pages pages (drop page_size file)
images_in_place [] file long fit = refl
images_in_place (p ∷ pages) file long (fits, one, fit) =
    let next = overwritten 0 (page_size * p.page) p.image file in
    let room : page_size * p.page + page_size ≤ length file =
    omega (arith, fits.within, one, length-drop page_size file, long) in
    let same = with_image p file one fits.whole (omega (arith, room)) in
    let len = same_length p file fits.whole room in
    images_in_place pages next (omega (arith, long, len))
    (subst (AllFit pages) (sym (ap length same ∙ length-with_page p (drop page_size file) fits)) fit)
    ∙ ap (with_pages pages) same

-- the writes that go through are writes that a stop may leave
pub torn_images : (pages : List PageImage) (file : List ℕ) → AreWhole pages
    → TornIn (image_ranges pages) file (with_images pages file)
torn_images [] file whole = refl
torn_images (p ∷ pages) file (whole, rest) =
    let next = overwritten 0 (page_size * p.page) p.image file in (
      next,
      subst (λ (n : ℕ). Torn (page_size * p.page) n file next) whole
          (torn_overwritten 0 (page_size * p.page) p.image file),
      torn_images pages next rest,
    )

all_in_more : (pages : List PageImage) (n : ℕ) (ns : List ℕ) → AllIn pages ns → AllIn pages (n ∷ ns)
all_in_more [] n ns within = tt
all_in_more (p ∷ pages) n ns ((k, lt, is), within) = ((suc k, omega (arith, lt), is), all_in_more pages n ns within)

pub all_in_self : (pages : List PageImage) → AllIn pages (page_numbers pages)
all_in_self [] = tt
all_in_self (p ∷ pages) = ((0, omega arith, refl), all_in_more pages p.page (page_numbers pages) (all_in_self pages))

all_in_take : (k : ℕ) (pages : List PageImage) (ns : List ℕ) → AllIn pages ns → AllIn (take k pages) ns
all_in_take zero pages ns within = tt
all_in_take (suc k) [] ns within = tt
all_in_take (suc k) (p ∷ pages) ns (contains, within) = (contains, all_in_take k pages ns within)

whole_take : (k : ℕ) (pages : List PageImage) → AreWhole pages → AreWhole (take k pages)
whole_take zero pages whole = tt
whole_take (suc k) [] whole = tt
whole_take (suc k) (p ∷ pages) (whole, rest) = (whole, whole_take k pages rest)

-- the first images of a file's own journal in their places
pub stays_front : (file : List ℕ) (k : ℕ) → is_set file ≡ true → has_gate file ≡ true
    → StaysSet file (with_images (take k (journal file)) file)
stays_front file k set gate =
    let whole = entries_whole (journal_len file) (journal_start file) file (gate_journal file gate set).within in
    torn_all (take k (journal file)) file (with_images (take k (journal file)) file) set gate
    (all_in_take k (journal file) (page_numbers (journal file)) (all_in_self (journal file)))
    (torn_images (take k (journal file)) file (whole_take k (journal file) whole))

-- the next entry of the journal, read from it then
pub next_entry : (file : List ℕ) (k : ℕ) → is_set file ≡ true → has_gate file ≡ true → k < journal_len file
    → drop k (journal file) ≡ entry_at (journal_start file + entry_size * k) (with_images (take k (journal file)) file)
    ∷ drop (k + 1) (journal file)
next_entry file k set gate lt =
    let now = with_images (take k (journal file)) file in
    let stays = stays_front file k set gate in
    ap (drop k) (sym stays.journal)
    ∙ entries_at (journal_len now) (journal_start now) k now (omega (arith, lt, stays.count))
    ∙ ap (λ (n : ℕ). entry_at (n + entry_size * k) now ∷ drop (k + 1) (journal now)) stays.start
    ∙ ap (λ (l : List PageImage). entry_at (journal_start file + entry_size * k) now ∷ drop (k + 1) l) stays.journal

-- ---- armed, and installed

module _ (change : Change) (pages file : List ℕ) (armed : IsArmed change pages file) where
  within : AllIn change.pages (page_numbers (journal file))
  within =
      subst (λ (l : List PageImage). AllIn change.pages (page_numbers l)) (sym armed.journal) (all_in_self change.pages)

  armed_as : (new : List ℕ) → StaysSet file new → IsArmed change pages new
  armed_as new stays = record {
    set = stays.set;
    journal = stays.journal ∙ armed.journal;
    after = stays.after ∙ armed.after;
    holds = record { gate = stays.gate; begins = ap (take (length pages)) stays.laid ∙ armed.holds.begins };
  }

  pub armed_torn : (new : List ℕ) → TornIn (image_ranges change.pages) file new → IsArmed change pages new
  armed_torn new torn = armed_as new (torn_all change.pages file new armed.set armed.holds.gate within torn)

  pub installed : IsInstalled change pages (with_images change.pages file)
  installed =
      let new = with_images change.pages file in
      let fit_pages : AllFit change.pages (length (drop page_size file)) =
      subst (λ (l : List PageImage). AllFit l (length (drop page_size file))) armed.journal
      (fit file armed.set armed.holds.gate) in
      let whole : AreWhole change.pages =
      subst AreWhole armed.journal
      (entries_whole (journal_len file) (journal_start file) file
      (gate_journal file armed.holds.gate armed.set).within) in
      let stays =
      torn_all change.pages file new armed.set armed.holds.gate within (torn_images change.pages file whole) in
      record {
        armed = armed_as new stays;
        in_place =
            images_in_place change.pages file (long file armed.holds.gate) fit_pages
            ∙ ap (λ (l : List PageImage). with_pages l (drop page_size file)) (sym armed.journal)
            ∙ sym (laid_set file armed.set) ∙ sym stays.laid;
      }

-- The gate's page, the journal, and the pages that a file stands for.
--
-- Byte 0 of the file is the gate: 1 says that the journal is to be installed. Bytes 8 to 15 are
-- where the journal begins, 16 to 19 how many entries it has, and 20 to 23 the store's length in
-- pages once it is installed. An entry is the number of a page, in 8 bytes, and the page's image.
-- Numbers have their lowest byte first.
use Rattle.std.specs.Prelude.{◌≡◌, ℕ, zero, suc, ◌+◌, ◌*◌, ◌==◌, ◌&&◌, ◌||◌, not, Bool, true, List}
use Rattle.std.specs.Prelude.{[], ◌∷◌, length, take, drop, slice_index, slice_range, nat_le, nat_lt}
use Rattle.std.specs.Prelude.{if◌then◌else◌}
use Rattle.std.specs.Int.{w32, w64, from_le_bytes}
use Rattle.std.specs.List.{list_all}
use Rattle.pl_base.specs.Touched.{PageImage, page_size, page_numbers, ascends_above, with_pages}

-- the bytes of an entry
abbrev pub entry_size : ℕ
entry_size = 1032

-- how many bytes a commit of so many pages writes: an entry and an image for each, the journal's
-- place, and the gate set and cleared
abbrev pub commit_bytes : ℕ → ℕ
commit_bytes pages = (entry_size + page_size) * pages + 18

-- whether the gate is set
abbrev pub is_set : List ℕ → Bool
is_set file = slice_index file 0 == 1

-- where the journal begins
abbrev pub journal_start : List ℕ → ℕ
journal_start file = from_le_bytes w64 (slice_range file 8 16)

-- how many entries it has
abbrev pub journal_len : List ℕ → ℕ
journal_len file = from_le_bytes w32 (slice_range file 16 20)

-- the length of the store in pages once it is installed
abbrev pub pages_after : List ℕ → ℕ
pages_after file = from_le_bytes w32 (slice_range file 20 24)

-- the entry at an offset
abbrev pub entry_at : ℕ → List ℕ → PageImage
entry_at at file =
    record {
      page = from_le_bytes w64 (slice_range file at (at + 8));
      image =
          slice_range file (at + 8) (at + entry_size);
    }

-- so many entries from an offset on
abbrev pub entries : ℕ → ℕ → List ℕ → List PageImage
entries zero at file = []
entries (suc n) at file = entry_at at file ∷ entries n (at + entry_size) file

-- the pages of the journal
abbrev pub journal : List ℕ → List PageImage
journal file = entries (journal_len file) (journal_start file) file

-- The journal lies within the file and behind the store's pages, and its entries are pages of the
-- store, by ascending number and without the gate's.
abbrev pub is_journal : List ℕ → Bool
is_journal file =
    nat_le (journal_start file + entry_size * journal_len file) (length file)
    && nat_le (page_size * pages_after file) (journal_start file)
    && ascends_above 0 (page_numbers (journal file))
    && list_all (λ n. nat_lt n (pages_after file)) (page_numbers (journal file))

-- the file has a gate's page, and a journal where the gate is set
abbrev pub has_gate : List ℕ → Bool
has_gate file = nat_le page_size (length file) && (not (is_set file) || is_journal file)

-- the bytes from page 1 on, with the journal laid over them where the gate is set
abbrev pub laid : List ℕ → List ℕ
laid file =
    if is_set file then with_pages (journal file) (drop page_size file) else drop page_size file

-- the file stands for these bytes from page 1 on; what lies behind them is free
pub record Holds (pages file : List ℕ) : Type 0 where
  pub gate : has_gate file ≡ true
  pub begins : take (length pages) (laid file) ≡ pages

-- Pages in memory, and which of them have changed.
use Rattle.std.specs.Prelude.{◌≡◌, ℕ, ◌+◌, ◌*◌, ◌/◌, ◌^◌, ◌<◌, ◌≤◌, Bool, true, false}
use Rattle.std.specs.Prelude.{List, [], ◌∷◌, ◌++◌, length, take, drop, map, replicate}
use Rattle.std.specs.Prelude.{if◌then◌else◌}
use Rattle.std.specs.Prelude.{bytes_eq, slice_index_or, slice_set}
use Rattle.std.specs.List.{filter, range_with_len}
use Rattle.pl_base.specs.Touched.{Change, PageImage, page_size}

-- all bytes; of each page, whether it has changed since the changed pages were last listed; and how
-- many pages there were then
pub record Pages : Type 0 where
  pub bytes : List ℕ
  pub changed : List Bool
  pub before : ℕ

-- how many pages there are
abbrev pub page_count : Pages → ℕ
page_count pages = length pages.changed

-- the page has changed
abbrev pub has_changed : ℕ → Pages → Bool
has_changed page pages = slice_index_or pages.changed page false

-- what holds of all pages: there is one, each is whole, the first never changes, and each that was
-- added has changed
pub record ArePages (pages : Pages) : Type 0 where
  pub some_page : 1 ≤ page_count pages
  pub few : page_count pages < 2 ^ 32
  pub whole : length pages.bytes ≡ page_size * page_count pages
  pub gate : has_changed 0 pages ≡ false
  pub some_before : 1 ≤ pages.before
  pub before : pages.before ≤ page_count pages
  pub added : (page : ℕ) → pages.before ≤ page → page < page_count pages
      → has_changed page pages ≡ true

-- where a place of a page lies among all bytes
abbrev pub place_in : ℕ → ℕ → ℕ
place_in page at = page_size * page + at

-- so many bytes from a place on
abbrev pub bytes_at : ℕ → ℕ → List ℕ → List ℕ
bytes_at place count bytes = take count (drop place bytes)

-- the bytes with others at a place
abbrev pub overwritten : ℕ → List ℕ → List ℕ → List ℕ
overwritten place new bytes = take place bytes ++ new ++ drop (place + length new) bytes

-- these bytes stand at a place
abbrev pub stand_at : ℕ → List ℕ → List ℕ → Bool
stand_at place new bytes = bytes_eq (bytes_at place (length new) bytes) new

-- the pages that bytes make, none of which has changed
abbrev pub unchanged : List ℕ → Pages
unchanged bytes =
    let count = length bytes / page_size in
    record { bytes = bytes; changed = replicate count false; before = count }

-- bytes put into a page, which has changed unless they stood there
abbrev pub with_bytes : ℕ → ℕ → List ℕ → Pages → Pages
with_bytes page at new pages =
    record pages {
      bytes = overwritten (place_in page at) new pages.bytes;
      changed = if stand_at (place_in page at) new pages.bytes then pages.changed
          else slice_set pages.changed page true;
    }

-- a page of zeros more, which has changed
abbrev pub with_blank : Pages → Pages
with_blank pages =
    record pages {
      bytes = pages.bytes ++ replicate page_size 0;
      changed = pages.changed ++ true ∷ [];
    }

-- a page with what it holds
abbrev pub image_of : Pages → ℕ → PageImage
image_of pages page =
    record { page = page; image = bytes_at (page_size * page) page_size pages.bytes }

-- the pages below a number that have changed, by ascending number
abbrev pub changed_below : ℕ → Pages → List ℕ
changed_below count pages = filter (λ page. has_changed page pages) (range_with_len 0 count)

-- the pages that have changed, with what they hold, and the numbers of pages then and now
abbrev pub change_of : Pages → Change
change_of pages =
    record {
      before = pages.before;
      after = page_count pages;
      pages = map (image_of pages) (changed_below (page_count pages) pages);
    }

-- the same bytes, of which no page has changed
abbrev pub settled : Pages → Pages
settled pages =
    record pages { changed = replicate (page_count pages) false; before = page_count pages }

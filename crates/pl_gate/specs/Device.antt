-- What the calls of a commit and of a recovery make of a file, and what a stop within them may
-- leave.
use Rattle.std.specs.Prelude.{◌≡◌, ℕ, ◌+◌, ◌*◌, max, List, [], ◌∷◌, ◌++◌, map}
use Rattle.std.specs.Int.{w32, w64, to_le_bytes}
use Rattle.pl_base.specs.Touched.{Change, PageImage, page_size}
use Rattle.pl_desk.specs.Desk.{overwritten, Torn}
use Rattle.pl_gate.specs.Gate.{entry_size}

-- the bytes of an entry: its page in 8 bytes, and the image
abbrev pub entry_bytes : PageImage → List ℕ
entry_bytes p = to_le_bytes w64 p.page ++ p.image

-- where the journal of a change begins: behind the store's pages, old and new
abbrev pub start_of : Change → ℕ
start_of change = page_size * max change.before change.after

-- bytes 8 to 23 of the gate's page
abbrev pub place_bytes : ℕ → ℕ → ℕ → List ℕ
place_bytes start count after =
    to_le_bytes w64 start ++ to_le_bytes w32 count ++ to_le_bytes w32 after

-- the file with entries of these pages from an offset on
abbrev pub with_entries : ℕ → List PageImage → List ℕ → List ℕ
with_entries at [] file = file
with_entries at (p ∷ pages) file =
    with_entries (at + entry_size) pages (overwritten 0 at (entry_bytes p) file)

-- the file with the images of these pages in their places
abbrev pub with_images : List PageImage → List ℕ → List ℕ
with_images [] file = file
with_images (p ∷ pages) file = with_images pages (overwritten 0 (page_size * p.page) p.image file)

-- the file with its gate set to this byte
abbrev pub with_gate : ℕ → List ℕ → List ℕ
with_gate byte file = overwritten 0 0 (byte ∷ []) file

-- a range of a file: where it begins, and how many bytes it has
abbrev pub Range : Type 0
Range = ℕ × ℕ

-- the ranges of entries from an offset on
abbrev pub entry_ranges : ℕ → List PageImage → List Range
entry_ranges at [] = []
entry_ranges at (p ∷ pages) = (at, entry_size) ∷ entry_ranges (at + entry_size) pages

-- the ranges of these pages' images
abbrev pub image_ranges : List PageImage → List Range
image_ranges pages = map (λ (p : PageImage). (page_size * p.page, page_size)) pages

-- what writes of these ranges, one after another, may leave where a stop cuts them short
abbrev pub TornIn : List Range → List ℕ → List ℕ → Type 0
TornIn [] old new = new ≡ old
TornIn (range ∷ ranges) old new =
    (mid : List ℕ) × Torn range.0 range.1 old mid × TornIn ranges mid new

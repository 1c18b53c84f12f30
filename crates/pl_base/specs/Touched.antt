-- Pages of a store's bytes, and a change of some of them. Page 0 is the gate's, and the store's own
-- begin with page 1.
use Rattle.std.specs.Prelude.{ℕ, ◌+◌, ◌-◌, ◌*◌, ◌≤◌, ◌<◌, ◌≡◌, ◌==◌, ◌&&◌, Bool, true}
use Rattle.std.specs.Prelude.{List, [], ◌∷◌, ◌++◌, map, take, drop, length, nat_lt}
use Rattle.std.specs.Prelude.{Option, Some, None, IsSomeAnd}
use Rattle.std.specs.List.{All, list_any}

-- the bytes of a page
abbrev pub page_size : ℕ
page_size = 1024

-- a page's number, and what it is to hold
pub record PageImage : Type 0 where
  pub page : ℕ
  pub image : List ℕ

-- the pages that a change touched, and the store's lengths in pages before and after it
pub record Change : Type 0 where
  pub before : ℕ
  pub after : ℕ
  pub pages : List PageImage

-- the numbers of the pages
abbrev pub page_numbers : List PageImage → List ℕ
page_numbers pages = map (λ (p : PageImage). p.page) pages

-- what the pages are to hold
abbrev pub page_images : List PageImage → List (List ℕ)
page_images pages = map (λ (p : PageImage). p.image) pages

-- the numbers ascend strictly, and lie above this one
abbrev pub ascends_above : ℕ → List ℕ → Bool
ascends_above last [] = true
ascends_above last (n ∷ ns) = nat_lt last n && ascends_above n ns

-- each image is a page long
abbrev pub AreImages : List PageImage → Type 0
AreImages pages = All (λ (p : PageImage). length p.image ≡ page_size) pages

-- the change with one page more at its end
abbrev pub with_one_more : ℕ → List ℕ → Change → Change
with_one_more page image change =
    record change { pages = change.pages ++ record { page = page; image = image } ∷ [] }

-- the bytes of a file from page 1 on
abbrev pub behind_gate : List ℕ → List ℕ
behind_gate file = drop page_size file

-- how many bytes from page 1 on lie before a page: where it lies, and the length of the pages
-- before it
abbrev pub bytes_before : ℕ → ℕ
bytes_before page = page_size * (page - 1)

-- the bytes from page 1 on with a page's image in its place
abbrev pub with_page : PageImage → List ℕ → List ℕ
with_page p bytes =
    take (bytes_before p.page) bytes ++ p.image ++ drop (bytes_before p.page + page_size) bytes

-- the same with several images
abbrev pub with_pages : List PageImage → List ℕ → List ℕ
with_pages [] bytes = bytes
with_pages (p ∷ pages) bytes = with_pages pages (with_page p bytes)

-- the store's bytes from page 1 on after a change
abbrev pub changed : Change → List ℕ → List ℕ
changed change bytes = with_pages change.pages (take (bytes_before change.after) bytes)

-- one of the pages has this number
abbrev pub has_number : ℕ → List PageImage → Bool
has_number n pages = list_any (λ m. m == n) (page_numbers pages)

-- no touched page lies past the store's end, and each page that the change adds is touched
pub record IsWithin (change : Change) : Type 0 where
  pub some_page : 1 ≤ change.after
  pub below : All (λ n. n < change.after) (page_numbers change.pages)
  pub added : (n : ℕ) → change.before ≤ n → n < change.after → has_number n change.pages ≡ true

-- what a page of these bytes holds
abbrev pub page_of : ℕ → List ℕ → List ℕ
page_of page bytes = take page_size (drop (bytes_before page) bytes)

-- the page is not the same in all bytes that there may have been before
abbrev pub MayDiffer : (List ℕ → Type 0) → List ℕ → ℕ → Type 0
MayDiffer base bytes page =
    ((before : List ℕ) → base before → page_of page before ≡ page_of page bytes) → ⊥

-- ---- how many pages

-- the most pages that a row more touches, but for those of its texts
abbrev pub row_pages : ℕ
row_pages = 12

-- where a number of pages was told, it is told again, and at most by so many more
abbrev pub IsAtMostMore : ℕ → Option ℕ → Option ℕ → Type 0
IsAtMostMore more None new = Unit {0}
IsAtMostMore more (Some old) new = IsSomeAnd new (λ count. count ≤ old + more)

-- Which pages change where a page of a store comes, and what that tells of the bytes.
use Rattle.std.proofs.Common.{◌≡◌, ◌+◌, ◌++◌, ◌≤◌, ◌∷◌, [], ℕ, List, Some, arith, length, map}
use Rattle.std.proofs.lemmas.List.{length-append, length-map}
use Rattle.pl_base.specs.declared.id.PageId.{PageId}
use Rattle.pl_base.specs.declared.id.Slot.{Slot}
use Rattle.pl_base.specs.Live.{chunks}
use Rattle.pl_base.specs.Touched.{IsAtMostMore, row_pages}
use Rattle.pl_record.specs.LinkedRows.{IsBaseOf, changes}
use Rattle.pl_record.specs.SlotChanges.{CountsPage, InsertsOrigin, InsertsPlace}
use Rattle.pl_record.proofs.Bases.{at_most, base_kept, both_only}
use Rattle.pl_sheets.specs.Sheets.{ArePages, Pages, page_count}
use Rattle.pl_slot.specs.Arena.{ChangesOnly, header_page, slot_page}
use Rattle.pl_text.specs.Chunks.{pages_of}
use Rattle.pl_text.proofs.HeldTexts.{held_count}

module _ (page : PageId) (url : List ℕ) (origin slot : Slot) (more : ℕ) (old a c : Pages)
    (comes : InsertsPlace page url origin slot old a) (counts : CountsPage more a c) where
  -- those of its slots, and of the slots beside them
  abbrev placed : List ℕ
  placed =
      pages_of comes.text ++ header_page ∷ slot_page slot.0 ∷ slot_page origin.0 ∷ comes.before ∷ comes.beside ∷ []

  texts : length placed ≡ 6 + chunks url
  texts =
      omega (
        arith,
        length-append (map slot_page comes.text)
            (header_page ∷ slot_page slot.0 ∷ slot_page origin.0 ∷ comes.before ∷ comes.beside ∷ []),
        length-map comes.text slot_page,
        held_count comes.text url a comes.held,
      )

  pub placed_only : ChangesOnly (placed ++ header_page ∷ []) old c
  placed_only = both_only placed (header_page ∷ []) old a c comes.longer comes.pages counts.pages

  pub placed_long : length (placed ++ header_page ∷ []) ≡ 7 + chunks url
  placed_long = omega (arith, length-append placed (header_page ∷ []), texts)

  pub placed_longer : page_count old ≤ page_count c
  placed_longer = omega (arith, comes.longer, counts.as_many)

  -- in an origin that was there
  pub known_pages : IsAtMostMore (row_pages + chunks url) (Some (changes old)) (Some (changes c))
  known_pages =
      at_most (placed ++ header_page ∷ []) (row_pages + chunks url) old c placed_longer placed_only
      (omega (arith, placed_long))

  pub known_base : ArePages old → (bytes : List ℕ) → IsBaseOf old bytes → IsBaseOf c bytes
  known_base are = base_kept (placed ++ header_page ∷ []) old c are placed_only

  -- in a new one
  module _ (first : Pages) (starts : InsertsOrigin origin first old) where
    abbrev all : List ℕ
    all =
        (header_page ∷ slot_page origin.0 ∷ starts.before ∷ [])
        ++ placed ++ header_page ∷ []

    all_only : ChangesOnly all first c
    all_only =
        both_only (header_page ∷ slot_page origin.0 ∷ starts.before ∷ [])
        (placed ++ header_page ∷ []) first old c starts.longer starts.pages placed_only

    pub apart_pages : IsAtMostMore (row_pages + chunks url) (Some (changes first)) (Some (changes c))
    apart_pages =
        at_most all (row_pages + chunks url) first c (omega (arith, starts.longer, placed_longer)) all_only
        (omega (
          arith,
          length-append (header_page ∷ slot_page origin.0 ∷ starts.before ∷ [])
              (placed ++ header_page ∷ []),
          placed_long,
        ))

    pub apart_base : ArePages first → (bytes : List ℕ) → IsBaseOf first bytes → IsBaseOf c bytes
    apart_base are = base_kept all first c are all_only

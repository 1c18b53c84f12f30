-- A text in UTF-8 is a title once it is cut.
use Rattle.std.proofs.Common.{◌≡◌, ◌≤◌, ℕ, Bool, true, false, List, arith, if◌then◌else◌, leb, length, refl}
use Rattle.std.proofs.Common.{slice_index, suc, take, zero}
use Rattle.std.specs.Fmt.{is_char_start}
use Rattle.std.specs.Fmt.Cut.{floor_char_boundary}
use Rattle.std.specs.Str.{IsCharBoundary, IsUtf8}
use Rattle.std.proofs.lemmas.Bool.{leb-false}
use Rattle.std.proofs.lemmas.Str.{IsCharBoundary-start, IsUtf8-take}
use Rattle.pl_base.specs.Good.{IsTitle, longest_title}
use Rattle.pl_base.specs.Title.{cut_title}
use Rattle.pl_base.proofs.TitleCuts.{cut_title-le, starts}

floor_boundary : (text : List ℕ) (i : ℕ) → IsUtf8 text → i ≤ length text
    → IsCharBoundary text (floor_char_boundary text i)
unfolding floor_char_boundary
floor_boundary text zero utf8 within = IsCharBoundary-start text utf8
floor_boundary text (suc i) utf8 within =
    choose (is_char_start (slice_index text (suc i))) refl (floor_boundary text i utf8 (omega arith))
  where
    choose : (b : Bool) → is_char_start (slice_index text (suc i)) ≡ b
        → IsCharBoundary text (floor_char_boundary text i)
        → IsCharBoundary text (if b then suc i else floor_char_boundary text i)
    choose true is rest = (within, λ inside high. starts (slice_index text (suc i)) is high)
    choose false is rest = rest

cut_utf8 : (text : List ℕ) → IsUtf8 text → IsUtf8 (cut_title text)
cut_utf8 text utf8 = choose (leb (length text) longest_title) refl
  where
    choose : (b : Bool) → leb (length text) longest_title ≡ b
        → IsUtf8 (if b then text else take (floor_char_boundary text longest_title) text)
    choose true few = utf8
    choose false many =
        IsUtf8-take text (floor_char_boundary text longest_title) utf8
        (floor_boundary text longest_title utf8 (omega (arith, leb-false (length text) longest_title many)))

pub cut_is_title : (text : List ℕ) → IsUtf8 text → IsTitle (cut_title text)
cut_is_title text utf8 = (cut_utf8 text utf8, cut_title-le text)

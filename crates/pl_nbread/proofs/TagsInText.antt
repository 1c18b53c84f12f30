-- The tags in a text: each is the name of a tag, once, and there are few.
use Rattle.std.proofs.Common.{◌≡◌, ◌≤◌, ◌+◌, ◌==◌, ℕ, suc, Bool, true, false, List, [], ◌∷◌}
use Rattle.std.proofs.Common.{Some, None, arith, if◌then◌else◌, length, refl}
use Rattle.std.specs.List.{cons_option, filter_map, list_all, slice_split}
use Rattle.std.proofs.lemmas.Bool.{and_from}
use Rattle.std.proofs.lemmas.List.Splits.{length-slice_split}
use Rattle.std.proofs.lemmas.List.Sums.{count_by-le-length}
use Rattle.pl_words.specs.TagLists.{each_once, is_same_tag}
use Rattle.pl_words.specs.TagName.{is_tag_name, tag_named, trimmed}
use Rattle.pl_words.proofs.TagListLaws.{firsts-all, firsts-le, once-firsts}
use Rattle.pl_nbread.specs.BookmarkTree.{tags_in}

pieces_named : (pieces : List (List ℕ)) → list_all is_tag_name (filter_map tag_named pieces) ≡ true
pieces_named [] = refl
pieces_named (piece ∷ pieces) = choose (is_tag_name (trimmed piece)) refl (pieces_named pieces)
  where
    choose : (v : Bool) → is_tag_name (trimmed piece) ≡ v
        → list_all is_tag_name (filter_map tag_named pieces) ≡ true
        → list_all is_tag_name (cons_option (if v then Some (trimmed piece) else None)
        (filter_map tag_named pieces)) ≡ true
    choose true is rest = and_from _ _ is rest
    choose false is rest = rest

pub tags_named : (text : List ℕ) → list_all is_tag_name (tags_in text) ≡ true
tags_named text = firsts-all is_same_tag is_tag_name (filter_map tag_named (slice_split _ text)) (pieces_named _)

pub tags_once : (text : List ℕ) → each_once is_same_tag (tags_in text) ≡ true
tags_once text = once-firsts is_same_tag (filter_map tag_named (slice_split _ text))

pieces-le : (pieces : List (List ℕ)) → length (filter_map tag_named pieces) ≤ length pieces
pieces-le [] = omega arith
pieces-le (piece ∷ pieces) = choose (is_tag_name (trimmed piece)) (pieces-le pieces)
  where
    choose : (v : Bool) → length (filter_map tag_named pieces) ≤ length pieces
        → length (cons_option (if v then Some (trimmed piece) else None) (filter_map tag_named pieces))
        ≤ suc (length pieces)
    choose true rest = omega arith
    choose false rest = omega arith

pub tags_in-le : (text : List ℕ) → length (tags_in text) ≤ length text + 1
tags_in-le text =
    let pieces : List (List ℕ) = slice_split (λ b. b == 44) text in
    omega (
      arith,
      firsts-le is_same_tag (filter_map tag_named pieces),
      pieces-le pieces,
      length-slice_split (λ b. b == 44) text,
      count_by-le-length (λ b. b == 44) text,
    )

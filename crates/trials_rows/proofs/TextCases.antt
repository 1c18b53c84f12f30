-- Cases of numbers in texts, of titles, of words and of the numbers of refusals, worked out by
-- hand.
use Rattle.std.proofs.Common.{◌≡◌, ◌++◌, List, [], ◌∷◌, map, Some, None, true, false, refl}
use Rattle.std.specs.Prelude.{codes, length, replicate}
use Rattle.std.specs.Fmt.Cut.{floor_char_boundary}
use Rattle.std.specs.List.{range_with_len}
use lib.Utf8.{encode}
use Rattle.std.specs.Str.{chars, is_utf8}
use Rattle.std.specs.Str.Lossy.{utf8_error_len, utf8_lossy, utf8_valid_len}
use Rattle.caseless.proofs.Computing.{caseless}
use Rattle.percent_encoding.specs.Percent.{percent_decode}
use Rattle.url.proofs.OnLiterals.{url_on_literals}
use Rattle.pl_base.specs.declared.id.IdKind.TheVariants.{Page, Visit, Item}
use Rattle.pl_base.specs.declared.refusal.Refusal.{Refusal}
use Rattle.pl_base.specs.declared.refusal.Refusal.TheVariants.{BadUrl, NotRecorded, NoVisit, NoPage, NoItem}
use Rattle.pl_base.specs.declared.refusal.Refusal.TheVariants.{NotAFolder, Fixed, BadPlace, Inside, DayBack}
use Rattle.pl_base.specs.declared.refusal.Refusal.TheVariants.{BadQuery, Full, NoIds, BadLine, DupTag, BadDate}
use Rattle.pl_base.specs.declared.refusal.Refusal.TheVariants.{BadTag, NoTag, TooMany}
use Rattle.pl_base.specs.NumberText.{number_32_of, number_of}
use Rattle.pl_base.specs.Refusal.{refusal_number, refusal_values}
use Rattle.pl_base.specs.Title.{cut_title}
use Rattle.pl_words.specs.Pieces.{found, in_address}
use Rattle.pl_words.specs.TagLists.{each_once, firsts, is_same_tag}
use Rattle.pl_words.specs.TagName.{tag_named}

-- ---- numbers

-- the least, the greatest, and one more
numbers : map number_of (codes "0" ∷ codes "7" ∷ codes "18446744073709551615" ∷ codes "18446744073709551616" ∷ [])
    ≡ Some 0 ∷ Some 7 ∷ Some 18_446_744_073_709_551_615 ∷ None ∷ []
numbers = refl

-- nothing, zeros in front, signs, a blank, a point, a letter
no_numbers :
    map number_of
    ([] ∷ codes "00" ∷ codes "07" ∷ codes "+7" ∷ codes "-7" ∷ codes "-0" ∷ codes " 7" ∷ codes "7 " ∷ codes "7.0"
    ∷ codes "7a" ∷ codes "0x7" ∷ [])
    ≡ replicate 11 None
no_numbers = refl

ids : map number_32_of (codes "0" ∷ codes "4294967295" ∷ codes "4294967296" ∷ codes "01" ∷ [])
    ≡ Some 0 ∷ Some 4_294_967_295 ∷ None ∷ None ∷ []
ids = refl

-- ---- titles

no_title : cut_title [] ≡ []
unfolding floor_char_boundary
no_title = refl

-- é ends with the last byte that a title may have, and stays; 😀 would end behind it, and goes whole
character_at_its_end : length (cut_title (replicate 4_094 97 ++ 195 ∷ 169 ∷ 97 ∷ [])) ≡ 4_096
unfolding floor_char_boundary
character_at_its_end = refl

four_bytes_over_its_end : cut_title (replicate 4_093 97 ++ 240 ∷ 159 ∷ 152 ∷ 128 ∷ []) ≡ replicate 4_093 97
unfolding floor_char_boundary
four_bytes_over_its_end = refl

-- ---- words

-- what is asked: on a boundary, or anywhere
asked : found true (codes "cat") (codes "scat") ∷ found false (codes "cat") (codes "scat")
    ∷ found true (codes "cat") (codes "s cat") ∷ found false (codes "cat") (codes "dog") ∷ []
    ≡ false ∷ true ∷ true ∷ false ∷ []
asked = refl

-- behind the prefix, on a boundary or anywhere; user names are part of it, and a text that is no
-- URL has none
in_addresses :
    in_address false (codes "https") (codes "https://a.example/")
    ∷ in_address true (codes "a.ex") (codes "https://a.example/")
    ∷ in_address true (codes "xam") (codes "https://a.example/")
    ∷ in_address false (codes "xam") (codes "https://a.example/")
    ∷ in_address true (codes "me") (codes "https://me@a.example/") ∷ in_address false (codes "a") (codes "no url") ∷ []
    ≡ false ∷ true ∷ false ∷ true ∷ true ∷ false ∷ []
unfolding caseless chars encode is_utf8 percent_decode url_on_literals utf8_error_len utf8_lossy utf8_valid_len
in_addresses = refl

-- ---- tag names

-- blanks at both ends count for nothing; a comma, no byte at all, 101 bytes, and what is no text
-- name no tag
tags_of_texts :
    map tag_named
    (codes " a b\t" ∷ (32 ∷ replicate 100 97) ∷ replicate 101 97 ∷ codes "a,b" ∷ [] ∷ codes " \n" ∷ (255 ∷ []) ∷ [])
    ≡ Some (codes "a b") ∷ Some (replicate 100 97) ∷ None ∷ None ∷ None ∷ None ∷ None ∷ []
unfolding is_utf8 chars encode
tags_of_texts = refl

-- by their folds, Ä and ä among them
same_tags :
    is_same_tag (codes "Red") (codes "rED") ∷ is_same_tag (195 ∷ 132 ∷ []) (195 ∷ 164 ∷ [])
    ∷ is_same_tag (codes "a") (codes "ab") ∷ []
    ≡ true ∷ true ∷ false ∷ []
unfolding caseless chars encode
same_tags = refl

-- the first spelling stays
first_spellings : firsts is_same_tag (codes "Red" ∷ codes "blue" ∷ codes "RED" ∷ codes "Blue" ∷ [])
    ≡ codes "Red" ∷ codes "blue" ∷ []
unfolding caseless chars encode
first_spellings = refl

once_each :
    map (each_once is_same_tag)
    ([] ∷ (codes "a" ∷ codes "b" ∷ []) ∷ (codes "a" ∷ codes "b" ∷ codes "A" ∷ []) ∷ [])
    ≡ true ∷ true ∷ false ∷ []
unfolding caseless chars encode
once_each = refl

-- ---- refusals

abbrev refusals : List Refusal
refusals =
    BadUrl ∷ NotRecorded ∷ NoVisit (record { 0 = 31 }) ∷ NoPage ∷ NoItem (record { 0 = 51 })
    ∷ NotAFolder (record { 0 = 61 }) ∷ Fixed (record { 0 = 71 }) ∷ BadPlace 81 82 ∷ Inside (record { 0 = 91 })
    ∷ DayBack (record { 0 = 101 }) ∷ BadQuery 111 ∷ Full 121 ∷ NoIds Visit ∷ BadLine 141 ∷ DupTag ∷ BadDate ∷ BadTag
    ∷ NoTag ∷ TooMany 191 ∷ []

numbers_of_refusals : map refusal_number refusals ≡ range_with_len 1 19
numbers_of_refusals = refl

-- what each tells besides
values_of_refusals : map refusal_values refusals
    ≡ [] ∷ [] ∷ (31 ∷ []) ∷ [] ∷ (51 ∷ []) ∷ (61 ∷ []) ∷ (71 ∷ []) ∷ (81 ∷ 82 ∷ []) ∷ (91 ∷ []) ∷ (101 ∷ [])
    ∷ (111 ∷ []) ∷ (121 ∷ []) ∷ (2 ∷ []) ∷ (141 ∷ []) ∷ [] ∷ [] ∷ [] ∷ [] ∷ (191 ∷ []) ∷ []
values_of_refusals = refl

kinds_of_ids : map (λ kind. refusal_values (NoIds kind)) (Page ∷ Visit ∷ Item ∷ [])
    ≡ (1 ∷ []) ∷ (2 ∷ []) ∷ (3 ∷ []) ∷ []
kinds_of_ids = refl

-- Worked rows of words, of where a word stands in a text, and of URLs as they are searched.
use Rattle.std.proofs.Common.{◌≡◌, ◌++◌, true, false, [], ◌∷◌, map, refl}
use Rattle.std.specs.Prelude.{codes}
use lib.Utf8.{encode}
use Rattle.std.specs.Str.{chars, is_utf8}
use Rattle.std.specs.Str.Lossy.{utf8_error_len, utf8_lossy, utf8_valid_len}
use Rattle.caseless.proofs.Computing.{caseless}
use Rattle.percent_encoding.specs.Percent.{percent_decode}
use Rattle.pl_words.specs.declared.stands.Standing.TheVariants.{Boundary, Inside, Nowhere}
use Rattle.pl_words.specs.Pieces.{occurs, on_boundary, pieces, searched, standing}

-- ---- words

-- nothing, a blank, TAB to CR, U+0085, U+00A0 and U+3000
blanks_alone :
    map pieces
    ([] ∷ codes " " ∷ (9 ∷ 10 ∷ 11 ∷ 12 ∷ 13 ∷ []) ∷ (194 ∷ 133 ∷ []) ∷ (194 ∷ 160 ∷ []) ∷ (227 ∷ 128 ∷ 128 ∷ [])
    ∷ [])
    ≡ [] ∷ [] ∷ [] ∷ [] ∷ [] ∷ [] ∷ []
unfolding chars encode
blanks_alone = refl

words : pieces (codes "  a bc " ++ 9 ∷ codes "d") ≡ codes "a" ∷ codes "bc" ∷ codes "d" ∷ []
unfolding chars encode
words = refl

-- U+00A0 and U+3000 between the letters of é, ü and 日
no_break_space : pieces (195 ∷ 169 ∷ 194 ∷ 160 ∷ 195 ∷ 188 ∷ []) ≡ (195 ∷ 169 ∷ []) ∷ (195 ∷ 188 ∷ []) ∷ []
unfolding chars encode
no_break_space = refl

ideographic_space : pieces (230 ∷ 151 ∷ 165 ∷ 227 ∷ 128 ∷ 128 ∷ codes "a") ≡ (230 ∷ 151 ∷ 165 ∷ []) ∷ codes "a" ∷ []
unfolding chars encode
ideographic_space = refl

-- U+200B and U+FEFF are no white space
no_white_space : pieces (226 ∷ 128 ∷ 139 ∷ 239 ∷ 187 ∷ 191 ∷ []) ≡ (226 ∷ 128 ∷ 139 ∷ 239 ∷ 187 ∷ 191 ∷ []) ∷ []
unfolding chars encode
no_white_space = refl

-- ---- where a word stands

-- within, at the end, not at all, in a text that is shorter, and in none
anywhere :
    map (occurs (codes "cat")) (codes "scats" ∷ codes "scat" ∷ codes "cut" ∷ codes "ca" ∷ [] ∷ [])
    ≡ true ∷ true ∷ false ∷ false ∷ false ∷ []
anywhere = refl

at_the_front : map (on_boundary (codes "cat")) (codes "cat" ∷ codes "catch" ∷ []) ≡ true ∷ true ∷ []
at_the_front = refl

-- behind a digit, a full stop, a low line and é, and behind letters
behind :
    map (on_boundary (codes "cat"))
    (codes "1cat" ∷ codes "a.cat" ∷ codes "_cat" ∷ (195 ∷ 169 ∷ codes "cat") ∷ codes "scat" ∷ codes "SCAT"
    ∷ codes "Zcat" ∷ [])
    ≡ true ∷ true ∷ true ∷ true ∷ false ∷ false ∷ false ∷ []
behind = refl

-- the second place alone is on a boundary, and it may begin within the first
twice : on_boundary (codes "cat") (codes "scat cat") ≡ true
twice = refl

overlapping : on_boundary (codes "a-a") (codes "xa-a-a") ≡ true
overlapping = refl

-- the empty word, and one that begins with no letter
empty_word : map (on_boundary []) ([] ∷ codes "ab" ∷ []) ≡ true ∷ true ∷ []
empty_word = refl

no_letter_first : map (on_boundary (codes ".b")) (codes "a.b" ∷ codes "a..b" ∷ []) ≡ false ∷ true ∷ []
no_letter_first = refl

-- the best place tells
standings :
    map (standing (codes "cat"))
    (codes "cut" ∷ codes "scat" ∷ codes "cats" ∷ codes "scat cat" ∷ codes "cat scat" ∷ [])
    ≡ Nowhere ∷ Inside ∷ Boundary ∷ Boundary ∷ Boundary ∷ []
standings = refl

nothing_stands_well : map (standing []) ([] ∷ codes "ab" ∷ []) ≡ Boundary ∷ Boundary ∷ []
nothing_stands_well = refl

-- ---- URLs

escape_of_a_letter : searched (codes "https://www.a.test/%41b") (codes "https://www.") ≡ codes "a.test/ab"
unfolding caseless chars encode is_utf8 percent_decode utf8_error_len utf8_lossy utf8_valid_len
escape_of_a_letter = refl

no_escapes : map (λ url. searched url []) (codes "%zz" ∷ codes "a%" ∷ codes "a%4" ∷ codes "%%41" ∷ [])
    ≡ codes "%zz" ∷ codes "a%" ∷ codes "a%4" ∷ codes "%a" ∷ []
unfolding caseless chars encode is_utf8 percent_decode utf8_error_len utf8_lossy utf8_valid_len
no_escapes = refl

-- É by its two bytes
escapes_of_one_letter : searched (codes "%C3%89") [] ≡ 195 ∷ 169 ∷ []
unfolding caseless chars encode is_utf8 percent_decode utf8_error_len utf8_lossy utf8_valid_len
escapes_of_one_letter = refl

-- U+FFFD stands for a byte that begins no character
no_character : searched (codes "a%FFb") [] ≡ codes "a" ++ 239 ∷ 191 ∷ 189 ∷ codes "b"
unfolding caseless chars encode is_utf8 percent_decode utf8_error_len utf8_lossy utf8_valid_len
no_character = refl

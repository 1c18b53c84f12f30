-- Worked rows of what is typed into the address bar.
use Rattle.std.proofs.Common.{◌≡◌, ◌++◌, true, false, [], ◌∷◌, refl}
use Rattle.std.specs.Prelude.{codes}
use lib.Utf8.{encode}
use Rattle.std.specs.Str.{chars}
use Rattle.pl_words.specs.Bar.{marks_of, words_of}

each_mark : marks_of (codes "^ * + # $")
    ≡ record { history = true; bookmark = true; tag = true; title = true; address = true }
unfolding chars encode
each_mark = refl

no_marks : marks_of [] ≡ record { history = false; bookmark = false; tag = false; title = false; address = false }
unfolding chars encode
no_marks = refl

-- a mark that stands at a word, within one or twice in a piece is none
glued : marks_of (codes "*a a^ a+b ## $$")
    ≡ record { history = false; bookmark = false; tag = false; title = false; address = false }
unfolding chars encode
glued = refl

glued_words : words_of (codes "*a a^ a+b ##") ≡ codes "*a" ∷ codes "a^" ∷ codes "a+b" ∷ codes "##" ∷ []
unfolding chars encode
glued_words = refl

-- a mark may stand anywhere and twice, and the words keep their order
among_words : marks_of (codes "b # a #")
    ≡ record { history = false; bookmark = false; tag = false; title = true; address = false }
unfolding chars encode
among_words = refl

words_among : words_of (codes "b # a # b") ≡ codes "b" ∷ codes "a" ∷ codes "b" ∷ []
unfolding chars encode
words_among = refl

-- U+3000 around a mark, and other signs
between_wide_spaces : marks_of (227 ∷ 128 ∷ 128 ∷ codes "+" ++ 227 ∷ 128 ∷ 128 ∷ [])
    ≡ record { history = false; bookmark = false; tag = true; title = false; address = false }
unfolding chars encode
between_wide_spaces = refl

other_signs : words_of (codes "% @ ! ? -") ≡ codes "%" ∷ codes "@" ∷ codes "!" ∷ codes "?" ∷ codes "-" ∷ []
unfolding chars encode
other_signs = refl

-- Worked rows of tag names.
use Rattle.std.proofs.Common.{◌≡◌, ◌++◌, [], ◌∷◌, arith, map, refl, replicate, sym}
use Rattle.std.specs.Prelude.{codes}
use lib.Utf8.{encode}
use Rattle.std.proofs.lemmas.Bool.{true≢false}
use Rattle.pl_base.specs.Good.{IsTagName}
use Rattle.pl_words.specs.TagName.{trimmed}
use Rattle.pl_words.proofs.TagNames.{no_commas}

blank_at_each_end : map trimmed (codes " a" ∷ codes "a " ∷ codes "  a  " ∷ []) ≡ codes "a" ∷ codes "a" ∷ codes "a" ∷ []
blank_at_each_end = refl

-- TAB, LF, FF and CR
other_blanks : trimmed (9 ∷ 10 ∷ 97 ∷ 12 ∷ 13 ∷ []) ≡ codes "a"
other_blanks = refl

blank_in_the_middle : trimmed (codes " a b ") ≡ codes "a b"
blank_in_the_middle = refl

-- U+000B and U+00A0 are no blanks
no_blanks : map trimmed ((11 ∷ 97 ∷ []) ∷ (97 ∷ 194 ∷ 160 ∷ []) ∷ []) ≡ (11 ∷ 97 ∷ []) ∷ (97 ∷ 194 ∷ 160 ∷ []) ∷ []
no_blanks = refl

comma_stays : trimmed (codes " a,b ") ≡ codes "a,b"
comma_stays = refl

only_blanks : map trimmed ([] ∷ codes " " ∷ codes "   " ∷ (9 ∷ 10 ∷ 12 ∷ 13 ∷ 32 ∷ []) ∷ []) ≡ [] ∷ [] ∷ [] ∷ [] ∷ []
only_blanks = refl

-- blanks do not count among the 100 bytes
long_one : trimmed (32 ∷ replicate 100 97 ++ 32 ∷ []) ≡ replicate 100 97
long_one = refl

-- ---- names

blank_within : IsTagName (codes "a b")
unfolding encode
blank_within =
    record {
      text = (codes "a b", (refl, refl));
      some = omega arith;
      few = omega arith;
      no_comma = no_commas (codes "a b") refl;
      no_blank_before = refl;
      no_blank_after = refl;
    }

hundred_bytes : IsTagName (replicate 100 97)
unfolding encode
hundred_bytes =
    record {
      text = (replicate 100 97, (refl, refl));
      some = omega arith;
      few = omega arith;
      no_comma = no_commas (replicate 100 97) refl;
      no_blank_before = refl;
      no_blank_after = refl;
    }

one_byte_more : ¬ (IsTagName (replicate 101 97))
one_byte_more tag = let few = tag.few in omega arith

nothing : ¬ (IsTagName [])
nothing tag = let some = tag.some in omega arith

comma_within : ¬ (IsTagName (codes "a,b"))
comma_within tag = tag.no_comma 1 0 (omega arith) refl

blank_before : ¬ (IsTagName (codes " a"))
blank_before tag = true≢false (sym tag.no_blank_before)

blank_behind : ¬ (IsTagName (codes "a "))
blank_behind tag = true≢false (sym tag.no_blank_after)

-- A word that comes off the front of a text.
use Rattle.std.proofs.Common.{◌≡◌, ◌∙◌, ◌<◌, ◌==◌, ◌++◌, ℕ, true, false, not, List, [], ◌∷◌, ap}
use Rattle.std.proofs.Common.{append-nil, append_assoc, arith, chars, filter, length, map, refl, subst, sym}
use Rattle.std.specs.Char.{is_not_whitespace, is_whitespace}
use Rattle.std.specs.List.{All, slice_split}
use Rattle.std.specs.Str.{EmptyOrStartsWithPassing, IsUtf8, NoCharPasses, NonePass, all_scalars, encode_utf8_all}
use Rattle.std.proofs.lemmas.Bool.{and_parts, cond-true, ne_eqb, not-false}
use Rattle.std.proofs.lemmas.List.Elements.{All-cons}
use Rattle.std.proofs.lemmas.List.Splits.{slice_split-cons_yes, slice_split_at, slice_split_none}
use Rattle.std.proofs.lemmas.Str.{chars-nil, chars_from_encodes, chars_past_char, cons_from_encodes}
use lib.Utf8.{encode}
use Rattle.pl_words.specs.Pieces.{pieces}

-- ---- of characters

-- what stands between the white space
abbrev words_of_chars : List ℕ → List (List ℕ)
words_of_chars cs = filter (λ (word : List ℕ). not (length word == 0)) (slice_split is_whitespace cs)

-- white space at the front is dropped
gap_dropped : (gap rest : List ℕ) → NonePass is_not_whitespace gap
    → words_of_chars (gap ++ rest) ≡ words_of_chars rest
gap_dropped [] rest none = refl
gap_dropped (c ∷ gap) rest none =
    ap (filter (λ (word : List ℕ). not (length word == 0)))
    (slice_split-cons_yes is_whitespace c (gap ++ rest) (not-false (is_whitespace c) none.0))
    ∙ gap_dropped gap rest none.1

none_white : (word : List ℕ) → NonePass is_whitespace word → All (λ c. is_whitespace c ≡ false) word
none_white [] none = λ k d within. absurd (omega arith)
none_white (c ∷ word) none = All-cons (λ c. is_whitespace c ≡ false) c word none.0 (none_white word none.1)

kept : (word : List ℕ) (words : List (List ℕ)) → 0 < length word
    → filter (λ (word : List ℕ). not (length word == 0)) (word ∷ words)
    ≡ word ∷ filter (λ (word : List ℕ). not (length word == 0)) words
kept [] words some = absurd (omega arith)
kept (c ∷ word) words some =
    cond-true _ _ _ (ap not (ne_eqb (length (c ∷ word)) 0 (λ same. absurd (omega arith))))

-- the characters are none, or the first is white space
abbrev Breaks : List ℕ → Type 0
Breaks rest = 0 < length rest → (c : ℕ) × (more : List ℕ) × (is_whitespace c ≡ true) × (rest ≡ c ∷ more)

word_first : (word rest : List ℕ) → 0 < length word → NonePass is_whitespace word → Breaks rest
    → words_of_chars (word ++ rest) ≡ word ∷ words_of_chars rest
word_first word [] some none breaks =
    let split : slice_split is_whitespace (word ++ []) ≡ word ∷ [] =
    ap (slice_split is_whitespace) (append-nil word) ∙ slice_split_none is_whitespace word (none_white word none) in
    ap (filter (λ (word : List ℕ). not (length word == 0))) split ∙ kept word [] some
word_first word (c ∷ rest) some none breaks =
    let first = breaks (omega arith) in
    let split : slice_split is_whitespace (word ++ first.0 ∷ first.1) ≡ word ∷ slice_split is_whitespace first.1 =
    slice_split_at is_whitespace word first.0 first.1 (none_white word none) first.2 in
    subst (λ (rest : List ℕ). words_of_chars (word ++ rest) ≡ word ∷ words_of_chars rest) (sym first.3)
    (ap (filter (λ (word : List ℕ). not (length word == 0))) split
    ∙ kept word (slice_split is_whitespace first.1) some
    ∙ ap (λ words. word ∷ words) (sym (gap_dropped (first.0 ∷ []) first.1 (ap not first.2, tt))))

-- ---- of bytes

-- the characters with which a text begins are the first of its own
front_chars : (front cs : List ℕ) (rest : List ℕ) → encode_utf8_all cs ≡ encode_utf8_all front ++ rest
    → (more : List ℕ) × (cs ≡ front ++ more) × (encode_utf8_all more ≡ rest)
front_chars [] cs rest same = (cs, refl, same)
front_chars (c ∷ front) cs rest same =
    let first = cons_from_encodes cs (encode_utf8_all front ++ rest) c
    (same ∙ append_assoc (encode c) (encode_utf8_all front) rest) in
    let more = front_chars front first.0 rest first.2 in
    (more.0, first.1 ∙ ap (λ xs. c ∷ xs) more.1, more.2)

back_scalars : (front rest : List ℕ) → all_scalars (front ++ rest) ≡ true → all_scalars rest ≡ true
back_scalars [] rest is = is
back_scalars (c ∷ front) rest is = back_scalars front rest (and_parts _ _ is).1

-- a word came off the front of the text, and the rest is a text too
pub record ComesOff (text word rest : List ℕ) : Type 0 where
  pub utf8 : IsUtf8 rest
  pub pieces : pieces text ≡ word ∷ pieces rest

-- the part of a text behind a front that is one
back_utf8 : (text front rest : List ℕ) → IsUtf8 text → text ≡ encode_utf8_all front ++ rest
    → IsUtf8 rest × (chars text ≡ front ++ chars rest)
back_utf8 text front rest utf8 same =
    let more = front_chars front utf8.0 rest (utf8.1.1 ∙ same) in
    let scalars = back_scalars front more.0 (subst (λ cs. all_scalars cs ≡ true) more.1 utf8.1.0) in
    let back : IsUtf8 rest = (more.0, (scalars, more.2)) in (
      back,
      sym (chars_from_encodes utf8.0 text utf8 utf8.1.1) ∙ more.1
          ∙ ap (λ cs. front ++ cs) (chars_from_encodes more.0 rest back more.2),
    )

breaks : (rest more : List ℕ) → IsUtf8 rest → EmptyOrStartsWithPassing is_whitespace rest more → Breaks (chars rest)
breaks [] more utf8 begins some = absurd (omega (arith, ap length chars-nil))
breaks (b ∷ rest) more utf8 begins some =
    let first = begins (omega arith) in
    (first.0, chars more, first.1, chars_past_char (b ∷ rest) more first.0 utf8 first.2)

some_chars : (cs bs : List ℕ) → encode_utf8_all cs ≡ bs → 0 < length bs → 0 < length cs
some_chars [] bs same some = absurd (omega (arith, ap length same))
some_chars (c ∷ cs) bs same some = omega arith

pub none_left : (rest : List ℕ) → IsUtf8 rest → NoCharPasses is_not_whitespace rest → pieces rest ≡ []
none_left rest utf8 none =
    ap (λ cs. map encode_utf8_all (words_of_chars cs))
    (sym (chars_from_encodes none.0 rest utf8 none.1) ∙ sym (append-nil none.0))
    ∙ ap (map encode_utf8_all) (gap_dropped none.0 [] none.2)

pub comes_off : (text word rest gap more : List ℕ) → IsUtf8 text → text ≡ gap ++ (word ++ rest) → 0 < length word
    → NoCharPasses is_not_whitespace gap → NoCharPasses is_whitespace word
    → EmptyOrStartsWithPassing is_whitespace rest more → ComesOff text word rest
comes_off text word rest gap more utf8 same some blank own begins =
    let front = back_utf8 text blank.0 (word ++ rest) utf8 (same ∙ ap (λ xs. xs ++ (word ++ rest)) (sym blank.1)) in
    let back = back_utf8 (word ++ rest) own.0 rest front.0 (ap (λ xs. xs ++ rest) (sym own.1)) in
    let split : words_of_chars (chars text) ≡ own.0 ∷ words_of_chars (chars rest) =
    ap words_of_chars (front.1 ∙ ap (λ cs. blank.0 ++ cs) back.1)
    ∙ gap_dropped blank.0 (own.0 ++ chars rest) blank.2
    ∙ word_first own.0 (chars rest) (some_chars own.0 word own.1 some) own.2 (breaks rest more back.0 begins) in
    record {
      utf8 = back.0;
      pieces = ap (map encode_utf8_all) split ∙ ap (λ w. w ∷ pieces rest) own.1;
    }

-- one more word of a text, of which some came off before
pub one_more : (text word rest new : List ℕ) (words : List (List ℕ)) → pieces text ≡ words ++ pieces rest
    → ComesOff rest word new → pieces text ≡ (words ++ word ∷ []) ++ pieces new
one_more text word rest new words before off =
    before ∙ ap (λ more. words ++ more) off.pieces ∙ sym (append_assoc words (word ∷ []) (pieces new))

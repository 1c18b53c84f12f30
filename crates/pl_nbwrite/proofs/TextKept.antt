-- What is written of texts is a text: it is UTF-8.
use Rattle.std.proofs.Common.{◌≡◌, ◌≢◌, ◌∙◌, ◌<◌, ℕ, zero, suc, true, List, [], ◌∷◌, ◌++◌}
use Rattle.std.proofs.Common.{◌⊎◌, inl, inr, ⊎_elim, ap, append-nil, arith, get_or, length}
use Rattle.std.proofs.Common.{nat_lt, refl, replicate, subst, sym}
use Rattle.std.specs.Prelude.{codes, encode_utf8, encode_utf8_all}
use Rattle.std.specs.Char.{is_ascii_digit}
use Rattle.std.specs.List.{list_all}
use Rattle.std.specs.Str.{IsAscii, IsUtf8}
use Rattle.std.proofs.lemmas.Bool.{and_from, and_parts, cases_eq, cases_lt, lt-ltb, ltb-true}
use Rattle.std.proofs.lemmas.Bool.Decides.{nat_tests}
use Rattle.std.proofs.lemmas.Grind.{flat_map-append}
use Rattle.std.proofs.Math.Seq.{get_or-append_seam, take-append_seam}
use Rattle.std.proofs.lemmas.List.{length-append}
use Rattle.std.proofs.lemmas.Str.{IsCharBoundary-after_ascii, IsCharBoundary-before_ascii, IsUtf8-append, IsUtf8-drop}
use Rattle.std.proofs.lemmas.Str.{IsUtf8-from_ascii, IsUtf8-nil, IsUtf8-take}
use Rattle.std.proofs.lemmas.Str.Ascii.{IsAscii-cons, IsAscii-nil}
use lib.Utf8.{scalar, scalars}
use Rattle.pl_nbwrite.specs.BookmarkText.{escape, escaped, title_end, title_text}
use Rattle.pl_nbwrite.proofs.DecodedBack.{each_byte, stands}
use Rattle.pl_nbwrite.proofs.EscapeSteps.{escape-high, escaped-low, escaped-plain, title-other, title_end-other, title_end-space}

-- ---- ASCII

abbrev pub are_low : List ℕ → Type 0
are_low text = list_all (λ b. nat_lt b 128) text ≡ true

ascii : (text : List ℕ) → are_low text → IsAscii text
ascii [] low = IsAscii-nil
ascii (b ∷ text) low =
    let parts = and_parts (nat_lt b 128) (list_all (λ b. nat_lt b 128) text) low in
    IsAscii-cons b text (ltb-true b 128 parts.0) (ascii text parts.1)

pub low_text : (text : List ℕ) → are_low text → IsUtf8 text
low_text text low = IsUtf8-from_ascii text (ascii text low)

pub low_spaces : (n : ℕ) → are_low (replicate n 32)
low_spaces zero = refl
low_spaces (suc n) = low_spaces n

digit_low : (b : ℕ) → is_ascii_digit b ≡ true → nat_lt b 128 ≡ true
digit_low b digit = grind (arith, nat_tests)

pub low_digits : (text : List ℕ) → list_all is_ascii_digit text ≡ true → are_low text
low_digits [] digits = refl
low_digits (b ∷ text) digits =
    let parts = and_parts (is_ascii_digit b) (list_all is_ascii_digit text) digits in
    and_from (nat_lt b 128) (list_all (λ b. nat_lt b 128) text) (digit_low b parts.0) (low_digits text parts.1)

pub text_both : (a b : List ℕ) → IsUtf8 a → IsUtf8 b → IsUtf8 (a ++ b)
text_both a b first second = IsUtf8-append a b first second

-- ---- escaped texts

escape_low : (b : ℕ) → b < 128 → are_low (escape b)
escape_low b =
    each_byte (λ (x : ℕ). x < 128 → are_low (escape x)) (λ _. refl) (λ _. refl) (λ _. refl) (λ _. refl) (λ _. refl)
    (λ _. refl) (λ _. refl) (λ _. refl) (λ _. refl)
    (λ x own low. ap (list_all (λ b. nat_lt b 128)) (stands x own) ∙ and_from (nat_lt x 128) true (lt-ltb x 128 low) refl)
    b

one_char : (c : ℕ) → scalar c ≡ true → IsUtf8 (escaped (encode_utf8 c))
one_char c is =
    ⊎_elim (λ low. subst IsUtf8 (sym (escaped-low c low)) (low_text (escape c) (escape_low c low)))
    (λ high. subst IsUtf8 (sym (escaped-plain c (escape-high c high)))
    (c ∷ [], (and_from (scalar c) true is refl, append-nil (encode_utf8 c))))
    (cases_lt c 128)

all_chars : (cs : List ℕ) → scalars cs ≡ true → IsUtf8 (escaped (encode_utf8_all cs))
all_chars [] own = IsUtf8-nil
all_chars (c ∷ cs) own =
    let parts = and_parts (scalar c) (scalars cs) own in
    subst IsUtf8 (sym (flat_map-append escape (encode_utf8 c) (encode_utf8_all cs)))
    (text_both (escaped (encode_utf8 c)) (escaped (encode_utf8_all cs)) (one_char c parts.0) (all_chars cs parts.1))

pub escaped_text : (text : List ℕ) → IsUtf8 text → IsUtf8 (escaped text)
escaped_text text utf8 = subst (λ (t : List ℕ). IsUtf8 (escaped t)) utf8.1.1 (all_chars utf8.0 utf8.1.0)

-- ---- titles

abbrev EndsInSpace : List ℕ → Type 0
EndsInSpace text = (front : List ℕ) × (text ≡ front ++ 32 ∷ [])

abbrev EndsElse : List ℕ → Type 0
EndsElse text = (front : List ℕ) → text ≢ front ++ 32 ∷ []

never_empty : (front : List ℕ) → [] ≢ front ++ 32 ∷ []
never_empty [] = λ is. cc
never_empty (x ∷ front) = λ is. cc

else_alone : (b : ℕ) → b ≢ 32 → EndsElse (b ∷ [])
else_alone b other [] = λ is. other (cc)
else_alone b other (x ∷ front) = λ is. never_empty front (cc)

else_more : (b c : ℕ) (text : List ℕ) → EndsElse (c ∷ text) → EndsElse (b ∷ c ∷ text)
else_more b c text none [] = λ is. cc
else_more b c text none (x ∷ front) = λ is. none front (cc)

last_of : (text : List ℕ) → EndsInSpace text ⊎ EndsElse text
last_of [] = inr never_empty
last_of (b ∷ []) =
    ⊎_elim (λ is. inl ([], ap (λ (x : ℕ). x ∷ []) is)) (λ other. inr (else_alone b other)) (cases_eq b 32)
last_of (b ∷ c ∷ text) =
    ⊎_elim (λ more. inl (b ∷ more.0, ap (λ (l : List ℕ). b ∷ l) more.1)) (λ none. inr (else_more b c text none))
    (last_of (c ∷ text))

-- a text in front of a space
front_text : (text front : List ℕ) → text ≡ front ++ 32 ∷ [] → IsUtf8 text → IsUtf8 front
front_text text front is utf8 =
    let seam : get_or (front ++ 32 ∷ []) (length front) 0 ≡ 32 = get_or-append_seam front 32 [] 0 in
    let whole : IsUtf8 (front ++ 32 ∷ []) = subst IsUtf8 is utf8 in
    subst IsUtf8 (take-append_seam front (32 ∷ []))
    (IsUtf8-take (front ++ 32 ∷ []) (length front) whole
    (IsCharBoundary-before_ascii (front ++ 32 ∷ []) (length front) (omega (arith, length-append front (32 ∷ [])))
    (omega arith)))

end_text : (text : List ℕ) → IsUtf8 text → IsUtf8 (title_end text)
end_text text utf8 =
    ⊎_elim
    (λ space. subst IsUtf8 (sym (ap title_end space.1 ∙ title_end-space space.0))
    (text_both (escaped space.0) (codes "&#32;") (escaped_text space.0 (front_text text space.0 space.1 utf8))
    (low_text (codes "&#32;") refl)))
    (λ none. subst IsUtf8 (sym (title_end-other text none)) (escaped_text text utf8)) (last_of text)

behind_text : (text : List ℕ) → IsUtf8 (32 ∷ text) → IsUtf8 text
behind_text text utf8 =
    IsUtf8-drop (32 ∷ text) 1 utf8 (IsCharBoundary-after_ascii (32 ∷ text) 0 utf8 (omega arith) (omega arith))

pub title_kept : (title : List ℕ) → IsUtf8 title → IsUtf8 (title_text title)
title_kept [] utf8 = IsUtf8-nil
title_kept (b ∷ text) utf8 =
    ⊎_elim
    (λ is. subst (λ (x : ℕ). IsUtf8 (title_text (x ∷ text))) (sym is)
    (text_both (codes "&#32;") (title_end text) (low_text (codes "&#32;") refl)
    (end_text text (behind_text text (subst (λ (x : ℕ). IsUtf8 (x ∷ text)) is utf8)))))
    (λ other. subst IsUtf8 (sym (title-other (b ∷ text) (λ rest is. other (cc)))) (end_text (b ∷ text) utf8))
    (cases_eq b 32)

-- A text stays one where its letters of ASCII are put in lower case.
use Rattle.std.proofs.Common.{◌≡◌, ◌∙◌, ◌<◌, ◌≤◌, ℕ, true, List, [], ◌∷◌, ◌++◌, ap, arith, map, nat_lt, refl}
use Rattle.std.proofs.Common.{sym, ⊎_elim}
use Rattle.std.specs.Char.{to_ascii_lowercase}
use Rattle.std.specs.List.{AllByRecursion as ByRecursion}
use Rattle.std.specs.Prelude.{encode_utf8_all}
use Rattle.std.specs.Str.{IsUtf8}
use Rattle.std.proofs.lemmas.Bool.{and_from, and_parts, cases_lt, cond-true, cond_both, lt-ltb}
use Rattle.std.proofs.lemmas.List.{map-append}
use Rattle.std.proofs.lemmas.Str.Ascii.{lowercase_ascii, lowercase_is}
use lib.Utf8.{encode, low_scalar, scalar, scalars}

abbrev lower : ℕ → ℕ
lower b = to_ascii_lowercase b

high_stays : (b : ℕ) → 128 ≤ b → lower b ≡ b
high_stays b high = (lowercase_is b).2 (omega arith)

one_byte : (c : ℕ) → c < 128 → encode c ≡ c ∷ []
unfolding encode
one_byte c small = cond-true (nat_lt c 128) (c ∷ []) _ (lt-ltb c 128 small)

high_bytes : (bytes : List ℕ) → ByRecursion (λ b. 128 ≤ b) bytes → map lower bytes ≡ bytes
high_bytes [] high = refl
high_bytes (b ∷ bytes) high = λ i. high_stays b high.0 i ∷ high_bytes bytes high.1 i

-- the bytes of a character that is not of ASCII are none of its letters
wide_bytes : (c : ℕ) → 128 ≤ c → ByRecursion (λ b. 128 ≤ b) (encode c)
unfolding encode
wide_bytes c wide =
    cond_both (nat_lt c 128) _ _ (ByRecursion (λ b. 128 ≤ b)) (λ one. (wide, tt)) (λ more.
    cond_both (nat_lt c 2048) _ _ (ByRecursion (λ b. 128 ≤ b))
    (λ two. (omega arith, (omega arith, tt))) (λ more.
    cond_both (nat_lt c 65536) _ _ (ByRecursion (λ b. 128 ≤ b))
    (λ three. (omega arith, (omega arith, (omega arith, tt))))
    (λ four. (omega arith, (omega arith, (omega arith, (omega arith, tt)))))))

wide_stays : (c : ℕ) → 128 ≤ c → map lower (encode c) ≡ encode c
wide_stays c wide = high_bytes (encode c) (wide_bytes c wide)

char_lowered : (c : ℕ) → map lower (encode c) ≡ encode (lower c)
char_lowered c =
    ⊎_elim
    (λ small. ap (map lower) (one_byte c small) ∙ sym (one_byte (lower c) (lowercase_ascii c small)))
    (λ wide. wide_stays c wide ∙ ap encode (sym (high_stays c wide))) (cases_lt c 128)

char_stays : (c : ℕ) → scalar c ≡ true → scalar (lower c) ≡ true
char_stays c is =
    ⊎_elim (λ small. low_scalar (lower c) (omega (arith, lowercase_ascii c small)))
    (λ wide. ap scalar (high_stays c wide) ∙ is) (cases_lt c 128)

chars_stay : (cs : List ℕ) → scalars cs ≡ true → scalars (map lower cs) ≡ true
chars_stay [] are = refl
chars_stay (c ∷ cs) are =
    let both = and_parts (scalar c) (scalars cs) are in
    and_from (scalar (lower c)) (scalars (map lower cs)) (char_stays c both.0) (chars_stay cs both.1)

chars_lowered : (cs : List ℕ) → encode_utf8_all (map lower cs) ≡ map lower (encode_utf8_all cs)
chars_lowered [] = refl
chars_lowered (c ∷ cs) =
    ap (λ front. front ++ encode_utf8_all (map lower cs)) (sym (char_lowered c))
    ∙ ap (λ rest. map lower (encode c) ++ rest) (chars_lowered cs)
    ∙ sym (map-append lower (encode c) (encode_utf8_all cs))

pub lowered : (text : List ℕ) → IsUtf8 text → IsUtf8 (map to_ascii_lowercase text)
lowered text utf8 =
    (map lower utf8.0, (chars_stay utf8.0 utf8.1.0, chars_lowered utf8.0 ∙ ap (map lower) utf8.1.1))

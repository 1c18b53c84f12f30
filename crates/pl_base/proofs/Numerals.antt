-- Numbers in texts.
use Rattle.std.proofs.Common.{◌≡◌, ◌≢◌, ◌∙◌, ◌<◌, ◌^◌, ◌==◌, ℕ, true, List, [], ◌∷◌, length, Result, Ok, Err}
use Rattle.std.proofs.Common.{Some, ap, arith, decimal, get_or, refl, rules, suc, zero}
use Rattle.std.specs.Char.{is_ascii_digit}
use Rattle.std.specs.List.{list_all}
use Rattle.std.specs.Result.{result_ok, OkIff}
use Rattle.std.specs.Str.{IsUtf8}
use Rattle.std.specs.Str.Parse.{AllDigits, IsNumeral, digits_value, ParsesUnsigned}
use Rattle.std.proofs.lemmas.Bool.{and_from, cond-false, cond-true, lt-ltb, ne_eqb}
use Rattle.std.proofs.lemmas.Fmt.{IsAscii-from_digits, decimal_digit, decimal_is_IsNumeral, first_decimal}
use Rattle.std.proofs.lemmas.Grind.{common_steps}
use Rattle.std.proofs.lemmas.Bool.Decides.{nat_tests}
use Rattle.std.proofs.lemmas.Str.{IsUtf8-from_ascii}
use Rattle.std.proofs.lemmas.Str.Parse.{IsNumeralModel, digit_from_value, numerals_by_value, parse_digits}
use Rattle.pl_base.specs.NumberText.{is_numeral, number_of}

own : IsNumeralModel (λ ds. list_all is_ascii_digit ds ≡ true) (digits_value 10)
own = numerals_by_value _ (search rules)

pub digits_from_numeral : (bs : List ℕ) → is_numeral bs ≡ true → (list_all is_ascii_digit bs ≡ true) × (0 < length bs)
digits_from_numeral [] numeral = absurd (cc)
digits_from_numeral (d ∷ rest) numeral = (grind (arith, common_steps, nat_tests), omega arith)

pub numeral_is_text : (bs : List ℕ) → is_numeral bs ≡ true → IsUtf8 bs
numeral_is_text bs numeral =
    IsUtf8-from_ascii bs (IsAscii-from_digits bs (own.to bs (digits_from_numeral bs numeral).0))

-- what a parse of a numeral answers
read_or_not : {E : Type 0} (bs : List ℕ) (r : Result ℕ E) → is_numeral bs ≡ true
    → OkIff r ((0 < length bs) × (digits_value 10 bs < 2 ^ 64)) (digits_value 10 bs) → result_ok r ≡ number_of bs
read_or_not bs (Ok n) numeral read = rw (numeral, read.1) (grind (arith, nat_tests))
read_or_not bs (Err e) numeral unread = rw numeral (grind (arith, nat_tests))

pub number_of-numeral : {E : Type 0} (bs : List ℕ) (r : Result ℕ E) → ParsesUnsigned 64 10 bs r → is_numeral bs ≡ true
    → result_ok r ≡ number_of bs
number_of-numeral bs r parsed numeral =
    read_or_not bs r numeral (parse_digits own 64 bs r parsed (digits_from_numeral bs numeral).0)

-- ---- decimal numbers

pub all_digits : (text : List ℕ) → AllDigits 10 text → list_all is_ascii_digit text ≡ true
all_digits [] digits = refl
all_digits (b ∷ text) digits =
    let digit = digit_from_value b digits.0 in
    and_from (is_ascii_digit b) (list_all is_ascii_digit text) (grind (arith, nat_tests)) (all_digits text digits.1)

-- a text of digits whose first is not `0`
digits_numeral : (text : List ℕ) → IsNumeral 10 text → 48 < get_or text 0 0 → is_numeral text ≡ true
digits_numeral [] digits first = absurd (omega arith)
digits_numeral (b ∷ text) digits first =
    let other : b ≢ 48 = (λ is. omega arith) in
    cond-false (b == 48) _ _ (ne_eqb b 48 other) ∙ all_digits (b ∷ text) digits.1

pub decimal_numeral : (n : ℕ) → n < 2 ^ 64 → is_numeral (decimal n) ≡ true
decimal_numeral zero fits = ap is_numeral (decimal_digit 0 (omega arith))
decimal_numeral (suc n) fits =
    digits_numeral (decimal (suc n)) (decimal_is_IsNumeral (suc n) fits).0 (first_decimal (suc n) (omega arith) fits)

-- a number is read back from its decimal text
pub number_back : (n : ℕ) → n < 2 ^ 64 → number_of (decimal n) ≡ Some n
number_back n fits =
    let value : digits_value 10 (decimal n) ≡ n = (decimal_is_IsNumeral n fits).1 in
    cond-true _ _ _
    (and_from _ _ (decimal_numeral n fits) (lt-ltb (digits_value 10 (decimal n)) (2 ^ 64) (omega arith)))
    ∙ ap Some value

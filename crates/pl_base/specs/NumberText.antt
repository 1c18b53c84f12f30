-- The number that a text is, in decimal digits.
use Rattle.std.specs.Prelude.{ℕ, ◌^◌, ◌==◌, ◌&&◌, Bool, false, List, [], ◌∷◌, length, nat_lt}
use Rattle.std.specs.Prelude.{Option, Some, None, if◌then◌else◌}
use Rattle.std.specs.Char.{is_ascii_digit}
use Rattle.std.specs.List.{list_all}
use Rattle.std.specs.Option.{option_and_then}
use Rattle.std.specs.Str.Parse.{digits_value}

-- `0`, or digits of which the first is not `0`
abbrev pub is_numeral : List ℕ → Bool
is_numeral [] = false
is_numeral (digit ∷ rest) =
    if digit == 48 then length rest == 0 else list_all is_ascii_digit (digit ∷ rest)

-- the number of a text, of at most 64 bits
abbrev pub number_of : List ℕ → Option ℕ
number_of text =
    if is_numeral text && nat_lt (digits_value 10 text) (2 ^ 64)
    then Some (digits_value 10 text) else None

-- the number, where it is one of 32 bits
abbrev pub if_32_bits : ℕ → Option ℕ
if_32_bits n = if nat_lt n (2 ^ 32) then Some n else None

-- a number of at most 32 bits
abbrev pub number_32_of : List ℕ → Option ℕ
number_32_of text = option_and_then if_32_bits (number_of text)

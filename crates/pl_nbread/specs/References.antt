-- Character references in texts and values: some by name, all by number.
use Rattle.std.specs.Prelude.{ℕ, zero, suc, ◌+◌, ◌-◌, ◌==◌, ◌&&◌, ◌||◌, not, Bool, List, [], ◌∷◌}
use Rattle.std.specs.Prelude.{◌++◌, codes, drop, length, nat_eq, nat_lt, Option, Some, None}
use Rattle.std.specs.Prelude.{if◌then◌else◌}
use Rattle.std.specs.Char.{encode_utf8, is_ascii_digit, is_ascii_hexdigit}
use Rattle.std.specs.List.{before_first, find, starts_with}
use Rattle.std.specs.Option.{option_map}
use Rattle.std.specs.Str.Parse.{digits_value}

-- a reference: the character that it stands for, and its length in bytes
pub record Reference : Type 0 where
  pub char : ℕ
  pub size : ℕ

-- the names that are known
abbrev pub named : List (List ℕ × ℕ)
named =
    (codes "&amp;", 38) ∷ (codes "&lt;", 60) ∷ (codes "&gt;", 62) ∷ (codes "&quot;", 34)
    ∷ (codes "&apos;", 39) ∷ []

-- one of them at the front of a text
abbrev pub named_at : List ℕ → Option Reference
named_at text =
    option_map (λ row. record { char = row.1; size = length row.0 })
    (find (λ row. starts_with nat_eq text row.0) named)

-- a Unicode scalar value
abbrev pub is_scalar : ℕ → Bool
is_scalar n = nat_lt n 55_296 || (nat_lt 57_343 n && nat_lt n 1_114_112)

-- a reference by number: what it begins with, one digit or more, and `;`
abbrev pub number_at : List ℕ → ℕ → (ℕ → Bool) → List ℕ → Option Reference
number_at sign radix is_digit text =
    let digits = before_first (λ b. not (is_digit b)) (drop (length sign) text) in
    let behind = drop (length sign + length digits) text in
    if starts_with nat_eq text sign && not (length digits == 0)
    && starts_with nat_eq behind (59 ∷ []) && is_scalar (digits_value radix digits)
    then Some (record {
      char = digits_value radix digits;
      size = length sign + length digits + 1;
    })
    else None

-- the first that there is
abbrev pub first_of_two : Option Reference → Option Reference → Option Reference
first_of_two None other = other
first_of_two (Some reference) other = Some reference

-- a reference at the front of a text
abbrev pub reference_at : List ℕ → Option Reference
reference_at text =
    first_of_two (named_at text)
    (first_of_two (number_at (codes "&#") 10 is_ascii_digit text)
    (number_at (codes "&#x") 16 is_ascii_hexdigit text))

-- what a byte stands for with what follows it, and how many bytes more belong to that
abbrev pub meant : ℕ → Option Reference → List ℕ × ℕ
meant b None = (b ∷ [], 0)
meant b (Some reference) = (encode_utf8 reference.char, reference.size - 1)

-- a text with its references decoded, of which `n` bytes more belong to the last one
abbrev pub decoded_from : ℕ → List ℕ → List ℕ
decoded_from n [] = []
decoded_from (suc n) (b ∷ text) = decoded_from n text
decoded_from zero (b ∷ text) =
    let this = meant b (reference_at (b ∷ text)) in this.0 ++ decoded_from this.1 text

-- a text with its references decoded; any other `&` stands for itself
abbrev pub decoded : List ℕ → List ℕ
decoded text = decoded_from 0 text

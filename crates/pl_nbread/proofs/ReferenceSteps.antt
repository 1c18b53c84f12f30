-- How a text with references is decoded from its front on.
use Rattle.std.proofs.Common.{◌≡◌, ◌≢◌, ◌∙◌, ◌+◌, ◌-◌, ◌^◌, ◌<◌, ◌≤◌, ◌&&◌, ℕ, zero, suc, Bool, true, false, not}
use Rattle.std.proofs.Common.{List, [], ◌∷◌, ◌++◌, Option, Some, None, Result, Ok, Err, add-one, ap, append_assoc, arith}
use Rattle.std.proofs.Common.{drop, eqb, eqb-true, get_or, if◌then◌else◌, inl, inr, length, length-append, lit<, nat_eq}
use Rattle.std.proofs.Common.{nat_lt, refl, subst, sym, take}
use Rattle.std.specs.Borrow.{Bor}
use Rattle.std.specs.Char.{InScalarRange, OutOfScalarRange, encode_utf8, is_ascii_digit, is_ascii_hexdigit, is_digit}
use Rattle.std.specs.List.{before_first, position_or_len, starts_with}
use Rattle.std.specs.Option.{option_map, unwrap_or}
use Rattle.std.specs.Result.{result_ok}
use Rattle.std.specs.Str.{IsCharBoundary, IsUtf8}
use Rattle.std.specs.Str.Parse.{AllDigits, IsNumeral, ParsesUnsigned, digits_value, without_leading_plus}
use Rattle.std.proofs.lemmas.Bool.{lt-ltb, ltb-true}
use Rattle.std.proofs.lemmas.Bool.Decides.{nat_tests}
use Rattle.std.proofs.lemmas.List.{drop-drop, length-drop}
use Rattle.std.proofs.lemmas.List.Folds.{length-prefix_len}
use Rattle.std.proofs.lemmas.List.Sums.{fails_before_first, position_or_len_is, prefix_len-le-length}
use Rattle.std.proofs.lemmas.Str.{IsCharBoundary-after_ascii, IsCharBoundary-start, encode_ascii}
use Rattle.pl_nbread.specs.References.{Reference, decoded, decoded_from, first_of_two, is_scalar, named_at, number_at}
use Rattle.pl_nbread.specs.References.{reference_at}
use Rattle.pl_base.proofs.Truths.{not_false}

-- ---- without a reference

pub none_at : (b : ℕ) (text : List ℕ) → eqb 38 b ≡ false → reference_at (b ∷ text) ≡ None
none_at b text other = simp other

-- what belongs to the last reference is passed over
pub passes : (n : ℕ) (text : List ℕ) → decoded_from n text ≡ decoded_from 0 (drop n text)
passes zero text = refl
passes (suc n) [] = refl
passes (suc n) (b ∷ text) = passes n text

-- ---- a number, of the same digits

pub decimal : (b : ℕ) → is_digit b 10 ≡ is_ascii_digit b
decimal b = grind (arith, nat_tests)

pub hexadecimal : (b : ℕ) → is_digit b 16 ≡ is_ascii_hexdigit b
hexadecimal b = grind (arith, nat_tests)

-- digits and what stands behind them, as a reference by number
read : ℕ → List ℕ → List ℕ → Option Reference
read radix digits behind =
    if not (eqb (length digits) 0) && starts_with nat_eq behind (59 ∷ []) && is_scalar (digits_value radix digits)
    then Some (record { char = digits_value radix digits; size = length digits + 1 }) else None

-- the same with what it begins with
grown : ℕ → Reference → Reference
grown n reference = record { char = reference.char; size = n + reference.size }

digits_at : (ℕ → Bool) → List ℕ → List ℕ
digits_at is_digit text = before_first (λ b. not (is_digit b)) text

-- a sign makes a reference longer
grown_if : (v : Bool) (n char size all : ℕ) → all ≡ n + size
    → (if v then Some (record { char = char; size = all }) else None)
    ≡ option_map (grown n) (if v then Some (record { char = char; size = size }) else None)
unfolding grown
grown_if true n char size all is = ap (λ (k : ℕ). Some (record { char = char; size = k })) is
grown_if false n char size all is = refl

-- a reference by number begins with its sign
signed : (sign : List ℕ) (radix : ℕ) (is_digit : ℕ → Bool) (text : List ℕ) → starts_with nat_eq text sign ≡ true
    → number_at sign radix is_digit text
    ≡ option_map (grown (length sign)) (read radix (digits_at is_digit (drop (length sign) text))
    (drop (length (digits_at is_digit (drop (length sign) text))) (drop (length sign) text)))
unfolding read digits_at
signed sign radix is_digit text starts =
    let digits : List ℕ = digits_at is_digit (drop (length sign) text) in
    rw (starts, drop-drop (length digits) (length sign) text)
    (grown_if _ (length sign) (digits_value radix digits) (length digits + 1) _ (omega arith))

-- what is read in a radix, with a sign of this length
pub numbered_by : ℕ → ℕ → List ℕ → Option Reference
numbered_by size radix text =
    option_map (grown size) (number_at [] radix (λ b. is_digit b radix) text)

zero_more : (n : ℕ) → 0 + n ≡ n
zero_more n = omega arith

-- without a sign
bare : (radix : ℕ) (text : List ℕ) → number_at [] radix (λ b. is_digit b radix) text
    ≡ read radix (digits_at (λ b. is_digit b radix) text)
    (drop (length (digits_at (λ b. is_digit b radix) text)) text)
unfolding grown
bare radix text = signed [] radix (λ b. is_digit b radix) text refl ∙ same _
  where
    same : (found : Option Reference) → option_map (grown 0) found ≡ found
    same None = refl
    same (Some reference) =
        ap (λ (n : ℕ). Some (record { char = reference.char; size = n })) (zero_more reference.size)

-- with one, by another test of the same digits
number_from : (sign : List ℕ) (radix : ℕ) (is_one : ℕ → Bool) → ((b : ℕ) → is_digit b radix ≡ is_one b)
    → (text rest : List ℕ) → starts_with nat_eq text sign ≡ true → drop (length sign) text ≡ rest
    → number_at sign radix is_one text ≡ numbered_by (length sign) radix rest
unfolding numbered_by
number_from sign radix is_one same text rest starts behind =
    ap (λ (t : ℕ → Bool). number_at sign radix t text) (λ i b. sym (same b) i)
    ∙ signed sign radix (λ b. is_digit b radix) text starts
    ∙ ap (λ (t : List ℕ). option_map (grown (length sign)) (read radix (digits_at (λ b. is_digit b radix) t)
    (drop (length (digits_at (λ b. is_digit b radix) t)) t))) behind
    ∙ ap (option_map (grown (length sign))) (sym (bare radix rest))

-- behind `&#x` there are hexadecimal digits
pub hex_at : (text : List ℕ) → reference_at (38 ∷ 35 ∷ 120 ∷ text) ≡ numbered_by 3 16 text
hex_at text = number_from (38 ∷ 35 ∷ 120 ∷ []) 16 is_ascii_hexdigit hexadecimal (38 ∷ 35 ∷ 120 ∷ text) text refl refl

first_alone : (found : Option Reference) → first_of_two found None ≡ found
first_alone None = refl
first_alone (Some reference) = refl

no_hex : (text : List ℕ) → ((rest : List ℕ) → text ≢ 120 ∷ rest)
    → number_at (38 ∷ 35 ∷ 120 ∷ []) 16 is_ascii_hexdigit (38 ∷ 35 ∷ text) ≡ None
no_hex [] other = refl
no_hex (b ∷ text) other = choose (eqb 120 b) refl
  where
    choose : (v : Bool) → eqb 120 b ≡ v
        → number_at (38 ∷ 35 ∷ 120 ∷ []) 16 is_ascii_hexdigit (38 ∷ 35 ∷ b ∷ text) ≡ None
    choose true is = absurd (other text (ap (λ (x : ℕ). x ∷ text) (sym (eqb-true 120 b is))))
    choose false is = simp is

-- and behind another `&#` decimal digits
pub decimal_at : (text : List ℕ) → ((rest : List ℕ) → text ≢ 120 ∷ rest)
    → reference_at (38 ∷ 35 ∷ text) ≡ numbered_by 2 10 text
decimal_at text other =
    ap (first_of_two (number_at (38 ∷ 35 ∷ []) 10 is_ascii_digit (38 ∷ 35 ∷ text))) (no_hex text other)
    ∙ first_alone _
    ∙ number_from (38 ∷ 35 ∷ []) 10 is_ascii_digit decimal (38 ∷ 35 ∷ text) text refl refl

-- a reference that is no number has a name
pub named_alone : (text : List ℕ) → ((rest : List ℕ) → text ≢ 35 ∷ rest)
    → reference_at (38 ∷ text) ≡ named_at (38 ∷ text)
named_alone [] other = refl
named_alone (b ∷ text) other = choose (eqb 35 b) refl
  where
    choose : (v : Bool) → eqb 35 b ≡ v → reference_at (38 ∷ b ∷ text) ≡ named_at (38 ∷ b ∷ text)
    choose true is = absurd (other text (ap (λ (x : ℕ). x ∷ text) (sym (eqb-true 35 b is))))
    choose false is = simp is (first_alone _)

-- ---- what is found there

module _ (size radix : ℕ) (text : List ℕ) where
  pub numbered_char : option_map (λ (r : Reference). r.char) (numbered_by size radix text)
      ≡ option_map (λ (r : Reference). r.char) (number_at [] radix (λ b. is_digit b radix) text)
  unfolding numbered_by grown
  numbered_char = each (number_at [] radix (λ b. is_digit b radix) text)
    where
      each : (found : Option Reference) → option_map (λ (r : Reference). r.char) (option_map (grown size) found)
          ≡ option_map (λ (r : Reference). r.char) found
      each None = refl
      each (Some reference) = refl

  pub numbered_behind : (rest : List ℕ) → drop (size - 1) rest ≡ text → 0 < size
      → option_map (λ (r : Reference). drop (r.size - 1) rest) (numbered_by size radix text)
      ≡ option_map (λ (r : Reference). drop r.size text) (number_at [] radix (λ b. is_digit b radix) text)
  unfolding numbered_by grown
  numbered_behind rest is some = each (number_at [] radix (λ b. is_digit b radix) text)
    where
      each : (found : Option Reference)
          → option_map (λ (r : Reference). drop (r.size - 1) rest) (option_map (grown size) found)
          ≡ option_map (λ (r : Reference). drop r.size text) found
      each None = refl
      each (Some reference) =
          let sum : size + reference.size - 1 ≡ (size - 1) + reference.size = omega arith in
          ap Some (ap (λ n. drop n rest) sum ∙ sym (drop-drop reference.size (size - 1) rest) ∙ ap (drop reference.size) is)

-- ---- the same of what follows `&`

module _ (text digits : List ℕ) (is : text ≡ 120 ∷ digits) where
  pub hex_char : option_map (λ (r : Reference). r.char) (number_at [] 16 (λ b. is_digit b 16) digits)
      ≡ option_map (λ (r : Reference). r.char) (reference_at (38 ∷ 35 ∷ text))
  hex_char =
      sym (numbered_char 3 16 digits) ∙ ap (option_map (λ (r : Reference). r.char)) (sym (hex_at digits))
      ∙ ap (λ (t : List ℕ). option_map (λ (r : Reference). r.char) (reference_at (38 ∷ 35 ∷ t))) (sym is)

  pub hex_behind : option_map (λ (r : Reference). drop r.size digits) (number_at [] 16 (λ b. is_digit b 16) digits)
      ≡ option_map (λ (r : Reference). drop (r.size - 1) (35 ∷ text)) (reference_at (38 ∷ 35 ∷ text))
  hex_behind =
      sym (numbered_behind 3 16 digits (35 ∷ 120 ∷ digits) refl (lit< tt))
      ∙ ap (option_map (λ (r : Reference). drop (r.size - 1) (35 ∷ 120 ∷ digits))) (sym (hex_at digits))
      ∙ ap (λ (t : List ℕ). option_map (λ (r : Reference). drop (r.size - 1) (35 ∷ t)) (reference_at (38 ∷ 35 ∷ t)))
      (sym is)

module _ (text : List ℕ) (other : (rest : List ℕ) → text ≢ 120 ∷ rest) where
  pub decimal_char : option_map (λ (r : Reference). r.char) (number_at [] 10 (λ b. is_digit b 10) text)
      ≡ option_map (λ (r : Reference). r.char) (reference_at (38 ∷ 35 ∷ text))
  decimal_char =
      sym (numbered_char 2 10 text) ∙ ap (option_map (λ (r : Reference). r.char)) (sym (decimal_at text other))

  pub decimal_behind : option_map (λ (r : Reference). drop r.size text) (number_at [] 10 (λ b. is_digit b 10) text)
      ≡ option_map (λ (r : Reference). drop (r.size - 1) (35 ∷ text)) (reference_at (38 ∷ 35 ∷ text))
  decimal_behind =
      sym (numbered_behind 2 10 text (35 ∷ text) refl (lit< tt))
      ∙ ap (option_map (λ (r : Reference). drop (r.size - 1) (35 ∷ text))) (sym (decimal_at text other))

-- ---- digits

-- bytes up to the first that is no digit
pub counted : (text : List ℕ) (radix n : ℕ) → n ≤ length text
    → ((k : ℕ) → k < n → is_digit (get_or text k 0) radix ≡ true)
    → (n < length text → not (is_digit (get_or text n 0) radix) ≡ true)
    → n ≡ position_or_len (λ b. not (is_digit b radix)) text
counted text radix n within digits ends =
    sym (position_or_len_is (λ b. not (is_digit b radix)) text n 0 within (λ k below. ap not (digits k below)) ends)

-- no byte of a character with more
digit_is_ascii : (b radix : ℕ) → radix ≤ 36 → is_digit b radix ≡ true → b < 128
digit_is_ascii b radix high is = grind (arith, nat_tests)

no_digit : (b radix : ℕ) → radix ≤ 36 → is_digit b radix ≡ true → eqb b 43 ≡ false
no_digit b radix high is = grind (arith, nat_tests)

-- a text may be cut behind the digits at its front
pub cut_behind : (text : List ℕ) (radix n : ℕ) → radix ≤ 36
    → n ≡ position_or_len (λ b. not (is_digit b radix)) text → IsUtf8 text → IsCharBoundary text n
cut_behind text radix zero high count utf8 = IsCharBoundary-start text utf8
cut_behind text radix (suc n) high count utf8 =
    let within = prefix_len-le-length (λ b. not (not (is_digit b radix))) text in
    let last : is_digit (get_or text n 0) radix ≡ true =
    not_false _ (fails_before_first (λ b. not (is_digit b radix)) text n 0 (omega arith)) in
    subst (IsCharBoundary text) (add-one n)
    (IsCharBoundary-after_ascii text n utf8 (omega arith) (digit_is_ascii (get_or text n 0) radix high last))

one_more : (n : ℕ) → 1 + n ≡ suc n
one_more n = omega arith

all_digits : (radix : ℕ) (text : List ℕ) → AllDigits radix (digits_at (λ b. is_digit b radix) text)
unfolding digits_at
all_digits radix [] = tt
all_digits radix (b ∷ text) = choose (is_digit b radix) refl (all_digits radix text)
  where
    choose : (v : Bool) → is_digit b radix ≡ v → AllDigits radix (digits_at (λ b. is_digit b radix) text)
        → AllDigits radix (digits_at (λ b. is_digit b radix) (b ∷ text))
    choose true is rest = rw (is, one_more) (ltb-true _ _ is, rest)
    choose false is rest = rw is tt

-- no digits begin with `+`
without_plus : (radix : ℕ) (digits : List ℕ) → radix ≤ 36 → AllDigits radix digits → without_leading_plus digits ≡ digits
without_plus radix [] high all = refl
without_plus radix (b ∷ digits) high all = rw (no_digit b radix high (lt-ltb _ _ all.0))

no_end : (a b : Bool) (x : Option Reference) → (if a && false && b then x else None) ≡ None
no_end true b x = refl
no_end false b x = refl

no_scalar : (a b : Bool) (x : Option Reference) → (if a && b && false then x else None) ≡ None
no_scalar true true x = refl
no_scalar true false x = refl
no_scalar false b x = refl

no_end_at : (behind : List ℕ) → ((rest : List ℕ) → behind ≢ 59 ∷ rest) → starts_with nat_eq behind (59 ∷ []) ≡ false
no_end_at [] other = refl
no_end_at (b ∷ behind) other = choose (eqb 59 b) refl
  where
    choose : (v : Bool) → eqb 59 b ≡ v → starts_with nat_eq (b ∷ behind) (59 ∷ []) ≡ false
    choose true is = absurd (other behind (ap (λ (x : ℕ). x ∷ behind) (sym (eqb-true 59 b is))))
    choose false is = simp is

not_scalar : (number : ℕ) → OutOfScalarRange number → is_scalar number ≡ false
not_scalar number (inl surrogate) = grind (arith, nat_tests)
not_scalar number (inr great) = grind (arith, nat_tests)

is_scalar_in : (number : ℕ) → InScalarRange number → is_scalar number ≡ true
is_scalar_in number (inl small) = grind (arith, nat_tests)
is_scalar_in number (inr great) = grind (arith, nat_tests)

out_of_range : (radix : ℕ) (digits behind : List ℕ) → OutOfScalarRange (digits_value radix digits)
    → read radix digits behind ≡ None
unfolding read
out_of_range radix digits behind out =
    rw (not_scalar (digits_value radix digits) out)
    (no_scalar (not (eqb (length digits) 0)) (starts_with nat_eq behind (59 ∷ []))
    (Some (record { char = digits_value radix digits; size = length digits + 1 })))

-- ---- what is read of digits that were cut off

module _ (radix : ℕ) (high : radix ≤ 36) (text digits behind : List ℕ) (n : ℕ)
    (count : n ≡ position_or_len (λ b. not (is_digit b radix)) text)
    (front : digits ≡ take n text) (back : behind ≡ drop n text) where
  front_digits : digits_at (λ b. is_digit b radix) text ≡ digits
  unfolding digits_at
  front_digits = ap (λ k. take k text) (sym count) ∙ sym front

  counts : length digits ≡ n
  counts =
      ap length (front ∙ ap (λ k. take k text) count) ∙ length-prefix_len (λ b. not (not (is_digit b radix))) text
      ∙ sym count

  found_there : number_at [] radix (λ b. is_digit b radix) text ≡ read radix digits behind
  found_there =
      bare radix text
      ∙ ap (λ (d : List ℕ). read radix d (drop (length d) text)) front_digits
      ∙ ap (read radix digits) (ap (λ k. drop k text) counts ∙ sym back)

  plain : AllDigits radix digits
  plain = subst (AllDigits radix) front_digits (all_digits radix text)

  -- without a `;` behind them there is no reference
  pub no_end_there : ((rest : List ℕ) → behind ≢ 59 ∷ rest) → number_at [] radix (λ b. is_digit b radix) text ≡ None
  unfolding read
  no_end_there other = found_there ∙ rw (no_end_at behind other) (no_end _ _ _)

  without_sign : without_leading_plus digits ≡ digits
  without_sign = without_plus radix digits high plain

  -- nor is there for no digits, or for a number of more than 32 bits
  pub unread : {E : Type 0} (r : Result ℕ E) → ParsesUnsigned 32 radix digits r → None ≡ result_ok r
      → number_at [] radix (λ b. is_digit b radix) text ≡ None
  unfolding read
  unread (Ok number) parsed is = absurd (cc)
  unread (Err error) parsed is = choose (eqb (length digits) 0) (nat_lt (digits_value radix digits) (2 ^ 32)) refl refl
    where
      choose : (v w : Bool) → eqb (length digits) 0 ≡ v → nat_lt (digits_value radix digits) (2 ^ 32) ≡ w
          → number_at [] radix (λ b. is_digit b radix) text ≡ None
      choose true w empty small = found_there ∙ rw empty
      choose false true empty small =
          let some : 0 < length digits = grind (arith, nat_tests) in
          absurd (parsed (subst (λ (d : List ℕ). IsNumeral radix d × (digits_value radix d < 2 ^ 32)) (sym without_sign)
          ((some, plain), ltb-true _ _ small)))
      choose false false empty large =
          let great : 1_114_112 ≤ digits_value radix digits = grind (arith, nat_tests) in
          found_there ∙ out_of_range radix digits behind (inr great)

  -- nor for a number that is no character
  pub unscalar : {E : Type 0} (r : Result ℕ E) (number : ℕ) → ParsesUnsigned 32 radix digits r → Some number ≡ result_ok r
      → OutOfScalarRange number → number_at [] radix (λ b. is_digit b radix) text ≡ None
  unfolding read
  unscalar (Ok value) number parsed is out =
      let same : number ≡ value = cc in
      let whole : number ≡ digits_value radix digits = same ∙ parsed.1 ∙ ap (digits_value radix) without_sign in
      found_there ∙ out_of_range radix digits behind (subst OutOfScalarRange whole out)
  unscalar (Err error) number parsed is out = absurd (cc)

  -- for any other there is
  pub read_there : {E : Type 0} (r : Result ℕ E) (number : ℕ) (rest : List ℕ) → ParsesUnsigned 32 radix digits r
      → Some number ≡ result_ok r → InScalarRange number → behind ≡ 59 ∷ rest
      → number_at [] radix (λ b. is_digit b radix) text ≡ Some (record { char = number; size = n + 1 })
  unfolding read
  read_there (Ok value) number rest parsed is scalar ends =
      let same : number ≡ value = cc in
      let whole : number ≡ digits_value radix digits = same ∙ parsed.1 ∙ ap (digits_value radix) without_sign in
      let some : 0 < length (without_leading_plus digits) = parsed.0.0.0 in
      let any : eqb (length digits) 0 ≡ false = grind (arith, nat_tests, ap length without_sign) in
      found_there
      ∙ rw (any, ends, is_scalar_in (digits_value radix digits) (subst InScalarRange whole scalar), sym whole, counts)
  read_there (Err error) number rest parsed is scalar ends = absurd (cc)

  pub behind_there : (rest : List ℕ) → behind ≡ 59 ∷ rest → drop (n + 1) text ≡ rest
  behind_there rest ends = sym (drop-drop 1 n text) ∙ ap (drop 1) (sym back ∙ ends)

-- ---- a text from its front on

-- up to the first `&` it stays as it is
pub stays : (front rest : List ℕ) → ((i : ℕ) → i < length front → get_or front i 0 ≢ 38)
    → decoded (front ++ rest) ≡ front ++ decoded rest
stays [] rest none = refl
stays (b ∷ front) rest none =
    rw (none_at b (front ++ rest) (other (eqb 38 b) refl))
    (ap (λ (t : List ℕ). b ∷ t) (stays front rest (λ i within. none (suc i) (omega arith))))
  where
    other : (v : Bool) → eqb 38 b ≡ v → v ≡ false
    other true is = absurd (none 0 (omega arith) (sym (eqb-true 38 b is)))
    other false is = refl

-- what stands behind the first `&` was looked at
module _ (found : Option (ℕ × Bor (List ℕ))) (behind : Bor (List ℕ))
    (char : option_map (λ (f : ℕ × Bor (List ℕ)). f.0) found
    ≡ option_map (λ (r : Reference). r.char) (reference_at (38 ∷ behind.now)))
    (rest : option_map (λ (f : ℕ × Bor (List ℕ)). f.1.now) found
    ≡ option_map (λ (r : Reference). drop (r.size - 1) behind.now) (reference_at (38 ∷ behind.now))) where
  -- then it is what `&` stands for, or `&`
  pub turned : decoded (38 ∷ behind.now)
      ≡ encode_utf8 (unwrap_or found (38, behind)).0 ++ decoded (unwrap_or found (38, behind)).1.now
  turned = each found (reference_at (38 ∷ behind.now)) refl char rest
    where
      each : (f : Option (ℕ × Bor (List ℕ))) (o : Option Reference) → reference_at (38 ∷ behind.now) ≡ o
          → option_map (λ (f : ℕ × Bor (List ℕ)). f.0) f ≡ option_map (λ (r : Reference). r.char) o
          → option_map (λ (f : ℕ × Bor (List ℕ)). f.1.now) f
          ≡ option_map (λ (r : Reference). drop (r.size - 1) behind.now) o
          → decoded (38 ∷ behind.now) ≡ encode_utf8 (unwrap_or f (38, behind)).0 ++ decoded (unwrap_or f (38, behind)).1.now
      each None None is c r = rw (is, encode_ascii 38 (lit< tt))
      each (Some f) (Some o) is c r =
          let same : f.0 ≡ o.char = cc in
          let left : f.1.now ≡ drop (o.size - 1) behind.now = cc in
          rw (is, same, left, passes (o.size - 1) behind.now)
      each None (Some o) is c r = absurd (cc)
      each (Some f) None is c r = absurd (cc)

  -- what is left is not longer
  pub shorter : length (unwrap_or found (38, behind)).1.now ≤ length behind.now
  shorter = each found (reference_at (38 ∷ behind.now)) rest
    where
      each : (f : Option (ℕ × Bor (List ℕ))) (o : Option Reference)
          → option_map (λ (f : ℕ × Bor (List ℕ)). f.1.now) f
          ≡ option_map (λ (r : Reference). drop (r.size - 1) behind.now) o
          → length (unwrap_or f (38, behind)).1.now ≤ length behind.now
      each None None r = omega arith
      each (Some f) (Some o) r =
          let left : f.1.now ≡ drop (o.size - 1) behind.now = cc in
          rw left (omega (arith, length-drop (o.size - 1) behind.now))
      each None (Some o) r = absurd (cc)
      each (Some f) None r = absurd (cc)

  module _ (left front : List ℕ) (parts : (left ≡ front ++ (38 ∷ behind.now))
      × ((i : ℕ) → i < length front → get_or front i 0 ≢ 38))
      (next : ℕ × Bor (List ℕ)) (is : next ≡ unwrap_or found (38, behind)) where
    -- what is decoded so far, and what is still to be, make the whole
    pub goes_on : (text before now : List ℕ) → before ++ decoded left ≡ decoded text
        → now ≡ (before ++ front) ++ encode_utf8 next.0 → now ++ decoded next.1.now ≡ decoded text
    goes_on text before now so_far more =
        let this : encode_utf8 next.0 ++ decoded next.1.now ≡ decoded (38 ∷ behind.now) =
        ap (λ (n : ℕ × Bor (List ℕ)). encode_utf8 n.0 ++ decoded n.1.now) is ∙ sym turned in
        ap (λ (t : List ℕ). t ++ decoded next.1.now) more
        ∙ append_assoc (before ++ front) (encode_utf8 next.0) (decoded next.1.now)
        ∙ append_assoc before front (encode_utf8 next.0 ++ decoded next.1.now)
        ∙ ap (λ (t : List ℕ). before ++ (front ++ t)) this
        ∙ ap (λ (t : List ℕ). before ++ t) (sym (stays front (38 ∷ behind.now) parts.1) ∙ ap decoded (sym parts.0))
        ∙ so_far

    -- and there is less of it each time
    pub falls : length next.1.now < length left
    falls =
        let less = shorter in
        let size : length next.1.now ≡ length (unwrap_or found (38, behind)).1.now =
        ap (λ (n : ℕ × Bor (List ℕ)). length n.1.now) is in
        omega (arith, ap length parts.0, length-append front (38 ∷ behind.now))

-- The bytes that a string in JSON stands for are no more than those that the lexer passes.
use Rattle.std.proofs.Common.{◌≡◌, ◌≤◌, ◌∙◌, ◌+◌, ◌==◌, ◌&&◌, ℕ, Bool, true, false, List, [], ◌∷◌}
use Rattle.std.proofs.Common.{ap, arith, cond, length, nat_lt, option_and_then, refl, sym}
use Rattle.std.proofs.Common.{Option, Some, None}
use Rattle.std.specs.Prelude.{⊤}
use Rattle.std.specs.Char.{encode_utf8, is_digit}
use Rattle.std.proofs.lemmas.Bool.{and_parts, eqb-true, false≢true}
use Rattle.std.proofs.lemmas.List.{length-append}
use Rattle.json.specs.Align.{span, span_byte}
use Rattle.json.specs.Lex.{Mode, backslash, in_escape, in_string, operator, other, quote, space}
use Rattle.json.specs.Text.{Within, after_backslash, after_high, after_u, code_unit, content}
use Rattle.json.specs.Text.{is_high_surrogate, is_low_surrogate, plain, prepend, short_escape}
use Rattle.json.specs.Text.{surrogate_pair}
use Rattle.json.specs.Word.{is_operator, is_space}

-- ---- what is at most so long, where there is something

abbrev pub AtMost : ℕ → Option (List ℕ) → Type 0
AtMost n None = ⊤
AtMost n (Some s) = length s ≤ n

both : (n : ℕ) (v : Bool) (x y : Option (List ℕ)) → (v ≡ true → AtMost n x) → (v ≡ false → AtMost n y)
    → AtMost n (cond v x y)
both n true x y first second = first refl
both n false x y first second = second refl

abbrev is_found : Option ℕ → Bool
is_found None = false
is_found (Some u) = true

then : (n : ℕ) (f : ℕ → Option (List ℕ)) (o : Option ℕ) → (is_found o ≡ true → (u : ℕ) → AtMost n (f u))
    → AtMost n (option_and_then f o)
then n f None step = tt
then n f (Some u) step = step refl u

more : (n m : ℕ) (r : Option (List ℕ)) → AtMost m r → m ≤ n → AtMost n r
more n m None small room = tt
more n m (Some s) small room = omega arith

longer : (n m : ℕ) (a : List ℕ) (r : Option (List ℕ)) → AtMost m r → length a + m ≤ n → AtMost n (prepend a r)
longer n m a None small room = tt
longer n m a (Some s) small room = omega (arith, length-append a s)

encoded_few : (u : ℕ) → length (encode_utf8 u) ≤ 4
unfolding encode_utf8
encoded_few u = grind arith

-- ---- what the lexer passes

passes : (o s : Bool) (spare : Mode → ℕ)
    → span_byte in_string (cond o operator (cond s space other)) spare ≡ 1 + spare in_string
passes true s spare = refl
passes false true spare = refl
passes false false spare = refl

past_plain : (x : ℕ) (xs : List ℕ) → (x == 34) ≡ false → (x == 92) ≡ false
    → span in_string (x ∷ xs) ≡ 1 + span in_string xs
unfolding span
past_plain x xs no_quote no_backslash =
    (λ i. span_byte in_string
    (cond (no_quote i) quote
    (cond (no_backslash i) backslash (cond (is_operator x) operator (cond (is_space x) space other))))
    (λ next. span next xs))
    ∙ passes (is_operator x) (is_space x) (λ next. span next xs)

past_backslash : (x : ℕ) (xs : List ℕ) → (x == 92) ≡ true → span in_string (x ∷ xs) ≡ 1 + span in_escape xs
unfolding span
past_backslash x xs is = ap (λ y. span in_string (y ∷ xs)) (eqb-true x 92 is)

past_escape : (x : ℕ) (xs : List ℕ) → span in_escape (x ∷ xs) ≡ 1 + span in_string xs
unfolding span
past_escape x xs = refl

no_digit : (c x : ℕ) (v : Bool) → (v ≡ true → x ≡ c) → is_digit c 16 ≡ false → is_digit x 16 ≡ true → v ≡ false
no_digit c x false is never digit = refl
no_digit c x true is never digit =
    absurd (false≢true (sym never ∙ ap (λ y. is_digit y 16) (sym (is refl)) ∙ digit))

past_digit : (x : ℕ) (xs : List ℕ) → is_digit x 16 ≡ true → span in_string (x ∷ xs) ≡ 1 + span in_string xs
past_digit x xs digit =
    past_plain x xs (no_digit 34 x (x == 34) (eqb-true x 34) refl digit)
    (no_digit 92 x (x == 92) (eqb-true x 92) refl digit)

all_digits : (v : Bool) (u : ℕ) → is_found (cond v (Some u) None) ≡ true → v ≡ true
all_digits true u found = refl
all_digits false u found = found

past_unit : (a b c d : ℕ) (xs : List ℕ) → is_found (code_unit a b c d) ≡ true
    → span in_string (a ∷ b ∷ c ∷ d ∷ xs) ≡ 4 + span in_string xs
unfolding code_unit
past_unit a b c d xs found =
    let p = and_parts (is_digit a 16 && is_digit b 16 && is_digit c 16) (is_digit d 16) (all_digits _ _ found) in
    let q = and_parts (is_digit a 16 && is_digit b 16) (is_digit c 16) p.0 in
    let r = and_parts (is_digit a 16) (is_digit b 16) q.0 in
    omega (
      arith,
      past_digit a (b ∷ c ∷ d ∷ xs) r.0,
      past_digit b (c ∷ d ∷ xs) r.1,
      past_digit c (d ∷ xs) q.1,
      past_digit d xs p.1,
    )

-- ---- strings

abbrev mode : Within → Mode
mode plain = in_string
mode after_backslash = in_escape
mode after_u = in_string
mode (after_high h) = in_string

pub string_bytes_few : (within : Within) (xs : List ℕ) → AtMost (span (mode within) xs) (content within xs)
unfolding content
string_bytes_few plain [] = tt
string_bytes_few plain (x ∷ xs) =
    let n = span in_string (x ∷ xs) in
    both n (x == 34) _ _ (λ q. omega arith) (λ q.
    both n (x == 92) _ _ (λ b. more n _ _ (string_bytes_few after_backslash xs) (omega (arith, past_backslash x xs b)))
    (λ b. both n (nat_lt x 32) _ _ (λ l. tt)
    (λ l. longer n _ (x ∷ []) _ (string_bytes_few plain xs) (omega (arith, past_plain x xs q b)))))
string_bytes_few after_backslash [] = tt
string_bytes_few after_backslash (x ∷ xs) =
    let n = span in_escape (x ∷ xs) in
    both n (x == 117) _ _ (λ u. more n _ _ (string_bytes_few after_u xs) (omega (arith, past_escape x xs)))
    (λ u. then n _ (short_escape x)
    (λ f c. longer n _ (c ∷ []) _ (string_bytes_few plain xs) (omega (arith, past_escape x xs))))
string_bytes_few after_u [] = tt
string_bytes_few after_u (a ∷ []) = tt
string_bytes_few after_u (a ∷ b ∷ []) = tt
string_bytes_few after_u (a ∷ b ∷ c ∷ []) = tt
string_bytes_few after_u (a ∷ b ∷ c ∷ d ∷ xs) =
    let n = span in_string (a ∷ b ∷ c ∷ d ∷ xs) in
    then n _ (code_unit a b c d) (λ f u.
    both n (is_high_surrogate u) _ _
    (λ h. more n _ _ (string_bytes_few (after_high u) xs) (omega (arith, past_unit a b c d xs f)))
    (λ h. both n (is_low_surrogate u) _ _ (λ l. tt)
    (λ l. longer n _ (encode_utf8 u) _ (string_bytes_few plain xs)
    (omega (arith, past_unit a b c d xs f, encoded_few u)))))
string_bytes_few (after_high h) [] = tt
string_bytes_few (after_high h) (s ∷ []) = tt
string_bytes_few (after_high h) (s ∷ u ∷ []) = tt
string_bytes_few (after_high h) (s ∷ u ∷ a ∷ []) = tt
string_bytes_few (after_high h) (s ∷ u ∷ a ∷ b ∷ []) = tt
string_bytes_few (after_high h) (s ∷ u ∷ a ∷ b ∷ c ∷ []) = tt
string_bytes_few (after_high h) (s ∷ u ∷ a ∷ b ∷ c ∷ d ∷ xs) =
    let n = span in_string (s ∷ u ∷ a ∷ b ∷ c ∷ d ∷ xs) in
    both n ((s == 92) && (u == 117)) _ _
    (λ e. then n _ (code_unit a b c d) (λ f l.
    both n (is_low_surrogate l) _ _
    (λ y. longer n _ (encode_utf8 (surrogate_pair h l)) _ (string_bytes_few plain xs)
    (omega (
      arith,
      past_backslash s (u ∷ a ∷ b ∷ c ∷ d ∷ xs) (and_parts _ _ e).0,
      past_escape u (a ∷ b ∷ c ∷ d ∷ xs),
      past_unit a b c d xs f,
      encoded_few (surrogate_pair h l),
    ))) (λ y. tt))) (λ e. tt)

-- The next field of a line.
use Rattle.std.proofs.Common.{◌≡◌, not, leb, ◌≤◌, ◌+◌, ◌-◌, ℕ, Bool, cond, eqb, List, [], ◌∷◌}
use Rattle.std.proofs.Common.{length, take, drop, None, ap, sym, ◌∙◌, arith, length-drop, ⊎_elim}
use Rattle.std.specs.List.{position, position_or_len, slice_split}
use Rattle.std.proofs.lemmas.Bool.{cases_lt, cond-true, cond-false, le-leb, lt-leb, lt-ltb}
use Rattle.std.proofs.lemmas.Bool.Decides.{nat_tests}
use Rattle.std.proofs.lemmas.List.{drop-drop, length-take-le, take_all}
use Rattle.std.proofs.Math.Seq.{take-length}
use Rattle.std.proofs.lemmas.List.Splits.{slice_split_first, slice_split_none}
use Rattle.std.proofs.lemmas.List.Sums.{fails_before_first, prefix_len-le-length}
use Rattle.pl_script.specs.Fields.{fields_from, TakesField}
use Rattle.pl_script.specs.Script.{Fields}

abbrev is_tab : ℕ → Bool
is_tab b = eqb b 9

pub no_tab : (bytes : List ℕ) → None ≡ position is_tab bytes → length bytes ≡ position_or_len is_tab bytes
no_tab bytes none =
    ⊎_elim (λ some. let found = none ∙ cond-true _ _ _ (lt-ltb _ _ some) in absurd (cc))
    (λ long. let most = prefix_len-le-length (λ b. not (is_tab b)) bytes in omega arith)
    (cases_lt (position_or_len is_tab bytes) (length bytes))

-- the parts at TABs, the first apart
split_field : (bytes : List ℕ)
    → slice_split is_tab bytes ≡ take (position_or_len is_tab bytes) bytes
    ∷ cond (leb (position_or_len is_tab bytes + 1) (length bytes))
    (slice_split is_tab (drop (position_or_len is_tab bytes + 1) bytes)) []
split_field bytes =
    ⊎_elim
    (λ some. slice_split_first is_tab bytes 0 some
    ∙ ap (λ rest. take (position_or_len is_tab bytes) bytes ∷ rest)
    (sym (cond-true _ _ _ (le-leb (position_or_len is_tab bytes + 1) (length bytes) (omega arith)))))
    (λ all.
    let whole : length bytes ≡ position_or_len is_tab bytes =
    (let most = prefix_len-le-length (λ b. not (is_tab b)) bytes in omega arith) in
    let first : take (position_or_len is_tab bytes) bytes ≡ bytes =
    ap (λ n. take n bytes) (sym whole) ∙ take-length bytes in
    slice_split_none is_tab bytes (λ k d below. fails_before_first is_tab bytes k d (omega arith))
    ∙ ap (λ front. front ∷ []) (sym first)
    ∙ ap (λ rest. take (position_or_len is_tab bytes) bytes ∷ rest)
    (sym (cond-false _ _ _ (lt-leb (position_or_len is_tab bytes + 1) (length bytes) (omega arith)))))
    (cases_lt (position_or_len is_tab bytes) (length bytes))

pub next_field_at : (line : List ℕ) (next : ℕ) → next ≤ length line
    → (fields_from line next).left ≡ take (position_or_len is_tab (drop next line)) (drop next line)
    ∷ (fields_from line (next + (position_or_len is_tab (drop next line) + 1))).left
next_field_at line next within =
    let len = position_or_len is_tab (drop next line) in
    let shorter = length-drop next line in
    let bound : leb (len + 1) (length (drop next line)) ≡ leb (next + (len + 1)) (length line) =
    grind (arith, nat_tests) in
    cond-true _ _ _ (le-leb _ _ within) ∙ split_field (drop next line)
    ∙ ap (λ rest. take len (drop next line) ∷ rest) (rw (bound, drop-drop))

-- what `take` answers and leaves, with the rest of the line as a slice gives it
pub takes_field : (line : List ℕ) (next len : ℕ) (old : Fields) → fields_from line next ≡ old → next ≤ length line
    → len ≡ position_or_len is_tab (take (length line - next) (drop next line))
    → TakesField old (take len (take (length line - next) (drop next line))) (fields_from line (next + (len + 1)))
takes_field line next len old shown within is =
    let shorter = length-drop next line in
    let whole : take (length line - next) (drop next line) ≡ drop next line = take_all _ _ (omega arith) in
    let place : len ≡ position_or_len is_tab (drop next line) = is ∙ ap (position_or_len is_tab) whole in
    let most = prefix_len-le-length (λ b. not (is_tab b)) (drop next line) in
    let long : length (take len (drop next line)) ≡ len = length-take-le len (drop next line) (omega arith) in
    let left = next_field_at line next within in
    rw (← shown, whole) (rw (← place) at left, omega arith)

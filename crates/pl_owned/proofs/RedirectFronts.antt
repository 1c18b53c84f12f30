-- Lists whose first members pass a test, and no others behind them.
use Rattle.std.proofs.Common.{◌≡◌, ◌∙◌, ◌&&◌, ◌||◌, ◌+◌, ◌<◌, ◌∷◌, [], ◌++◌, ℕ, List, Bool, ap, false}
use Rattle.std.proofs.Common.{drop, get_or, length, refl, sym, take, true}
use Rattle.std.specs.List.{list_all, list_any}
use Rattle.std.proofs.lemmas.Bool.{and_from, and_parts, or_parts, true≢false}
use Rattle.std.proofs.lemmas.List.{append-nil, append_assoc, drop_more, take-append-drop, take_more}

any_last : {X : Type 0} (p : X → Bool) (xs : List X) (x : X) (ys : List X) → p x ≡ true
    → list_any p (xs ++ x ∷ ys) ≡ false → ⊥
any_last p [] x ys passes none = true≢false (sym passes ∙ (or_parts (p x) (list_any p ys) none).0)
any_last p (y ∷ xs) x ys passes none = any_last p xs x ys passes (or_parts (p y) (list_any p (xs ++ x ∷ ys)) none).1

-- what passes behind one that does not
never_split : {X : Type 0} (p : X → Bool) (xs : List X) (x : X) (ys front back : List X)
    → xs ++ x ∷ ys ≡ front ++ back → list_all p xs ≡ false → p x ≡ true → list_all p front ≡ true
    → list_any p back ≡ false → ⊥
never_split p [] x ys front back whole some passes all none = true≢false some
never_split p (a ∷ xs) x ys [] back whole some passes all none =
    any_last p (a ∷ xs) x ys passes (ap (list_any p) whole ∙ none)
never_split p (a ∷ xs) x ys (c ∷ front) back whole some passes all none =
    let same : a ≡ c = cc in
    let rest : xs ++ x ∷ ys ≡ front ++ back = cc in
    let parts = and_parts (p c) (list_all p front) all in
    let first : p a ≡ true = ap p same ∙ parts.0 in
    never_split p xs x ys front back rest
    (sym (ap (λ b. b && list_all p xs) first) ∙ some) passes parts.1 none

-- the members so far: all pass, or one did not
pub record IsSplit {X : Type 0} (p : X → Bool) (xs : List X) (all : Bool) : Type 0 where
  pub front : List X
  pub back : List X
  pub whole : xs ≡ front ++ back
  pub passing : list_all p front ≡ true
  pub others : list_any p back ≡ false
  pub none : all ≡ true → back ≡ []
  pub some : all ≡ false → list_all p xs ≡ false

all_push : {X : Type 0} (p : X → Bool) (xs : List X) (x : X) → list_all p xs ≡ true → p x ≡ true
    → list_all p (xs ++ x ∷ []) ≡ true
all_push p [] x all passes = and_from (p x) true passes refl
all_push p (a ∷ xs) x all passes =
    let parts = and_parts (p a) (list_all p xs) all in
    and_from (p a) (list_all p (xs ++ x ∷ [])) parts.0 (all_push p xs x parts.1 passes)

none_push : {X : Type 0} (p : X → Bool) (xs : List X) (x : X) → list_any p xs ≡ false → p x ≡ false
    → list_any p (xs ++ x ∷ []) ≡ false
none_push p [] x none fails = ap (λ b. b || false) fails
none_push p (a ∷ xs) x none fails =
    let parts = or_parts (p a) (list_any p xs) none in
    ap (λ b. b || list_any p (xs ++ x ∷ [])) parts.0 ∙ none_push p xs x parts.1 fails

not_all_push : {X : Type 0} (p : X → Bool) (xs : List X) (x : X) → p x ≡ false → list_all p (xs ++ x ∷ []) ≡ false
not_all_push p [] x fails = ap (λ b. b && true) fails
not_all_push p (a ∷ xs) x fails =
    ap (λ b. p a && b) (not_all_push p xs x fails) ∙ never (p a)
  where
    never : (b : Bool) → (b && false) ≡ false
    never true = refl
    never false = refl

module _ {X : Type 0} (p : X → Bool) (xs : List X) (i : ℕ) (x : X) (all : Bool) (within : i < length xs)
    (is : x ≡ get_or xs i x) (split : IsSplit p (take i xs) all) where
  more : take (i + 1) xs ≡ take i xs ++ x ∷ []
  more = take_more xs i x within ∙ ap (λ k. take i xs ++ k ∷ []) (sym is)

  passes_too : p x ≡ true → all ≡ true → IsSplit p (take (i + 1) xs) true
  passes_too passes all_so_far =
      let whole : take i xs ≡ split.front =
      split.whole ∙ ap (λ l. split.front ++ l) (split.none all_so_far) ∙ append-nil split.front in
      record {
        front = split.front ++ x ∷ [];
        back = [];
        whole = more ∙ ap (λ l. l ++ x ∷ []) whole ∙ sym (append-nil (split.front ++ x ∷ []));
        passing = all_push p split.front x split.passing passes;
        others = refl;
        none = λ all. refl;
        some = λ not_all. absurd (true≢false not_all);
      }

  fails_too : p x ≡ false → IsSplit p (take (i + 1) xs) false
  fails_too fails =
      record {
        front = split.front;
        back = split.back ++ x ∷ [];
        whole = more ∙ ap (λ l. l ++ x ∷ []) split.whole ∙ append_assoc split.front split.back (x ∷ []);
        passing = split.passing;
        others = none_push p split.back x split.others fails;
        none = λ all. absurd (true≢false (sym all));
        some = λ not_all. ap (list_all p) more ∙ not_all_push p (take i xs) x fails;
      }

  -- the member passes or not, and where one did not, this one doesn't either
  pub split_on : (b : Bool) → b ≡ p x → (b ≡ true → all ≡ true) → IsSplit p (take (i + 1) xs) b
  split_on true told only = passes_too (sym told) (only refl)
  split_on false told only = fails_too (sym told)

  -- the member passes behind one that did not
  pub past_split : p x ≡ true → all ≡ false → (front back : List X) → xs ≡ front ++ back
      → list_all p front ≡ true → list_any p back ≡ false → ⊥
  past_split passes not_all front back whole =
      never_split p (take i xs) x (drop (i + 1) xs) front back
      (ap (λ l. take i xs ++ l) (sym (drop_more xs i x within ∙ ap (λ k. k ∷ drop (i + 1) xs) (sym is)))
      ∙ take-append-drop i xs ∙ whole)
      (split.some not_all) passes

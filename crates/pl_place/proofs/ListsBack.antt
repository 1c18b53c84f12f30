-- Lists that stay as they are where each member stands once.
use Rattle.std.proofs.Common.{◌≡◌, ◌∙◌, ◌==◌, ◌||◌, ℕ, Bool, true, false, not, cond, List, [], ◌∷◌, Option, Some}
use Rattle.std.proofs.Common.{ap, arith, map, nat_lt, refl, subst, sym, ⊎_elim}
use Rattle.std.specs.List.{AllByRecursion as ByRecursion, cons_option, filter, filter_map, list_all, list_any}
use Rattle.std.proofs.lemmas.Bool.{and_from, and_parts, cases_Bool, cond-false, cond-true, eq-eqb, eqb-true, lt-ltb}
use Rattle.std.proofs.lemmas.Bool.{ltb-true}
use Rattle.std.proofs.lemmas.Bool.{ne_eqb, not-true, or_cases, or_from, or_left, or_parts, true≢false}
use Rattle.std.proofs.lemmas.Option.{same_Some}
use Rattle.pl_base.specs.declared.transition.Transition.TheVariants.{Link}
use Rattle.pl_base.specs.declared.transition.Transition.{Transition}
use Rattle.pl_base.specs.Transition.{transition_at, transition_number, transitions}
use Rattle.pl_place.specs.Canonical.{ReadsBack}
use Rattle.pl_words.specs.TagLists.{each_once, firsts}
use Rattle.pl_place.specs.PlaceText.{by_number}
use Rattle.pl_place.specs.QueryForm.{ascend}

pub read_back : {A : Type 0} (form : List ℕ → Option A) (text : A → List ℕ) (xs : List A)
    → ByRecursion (ReadsBack form text) xs
    → filter_map form (map text xs) ≡ xs
read_back form text [] back = refl
read_back form text (x ∷ xs) back =
    ap (λ y. cons_option y (filter_map form (map text xs))) back.0 ∙ ap (λ ys. x ∷ ys) (read_back form text xs back.1)

-- ---- each once

others_kept : {A : Type 0} (same : A → A → Bool) (x : A) (xs : List A) → list_any (same x) xs ≡ false
    → filter (λ y. not (same x y)) xs ≡ xs
others_kept same x [] none = refl
others_kept same x (y ∷ xs) none =
    let both = or_parts (same x y) (list_any (same x) xs) none in
    cond-true (not (same x y)) _ _ (ap not both.0) ∙ ap (λ ys. y ∷ ys) (others_kept same x xs both.1)

pub once_kept : {A : Type 0} (same : A → A → Bool) (xs : List A) → each_once same xs ≡ true → firsts same xs ≡ xs
once_kept same [] once = refl
once_kept same (x ∷ xs) once =
    let both = and_parts (not (list_any (same x) xs)) (each_once same xs) once in
    ap (λ ys. x ∷ filter (λ y. not (same x y)) ys) (once_kept same xs both.1)
    ∙ ap (λ ys. x ∷ ys) (others_kept same x xs (not-true (list_any (same x) xs) both.0))

-- ---- by their numbers

abbrev among : List Transition → Transition → Bool
among ts t = list_any (λ u. transition_number u == transition_number t) ts

abbrev is_below : Transition → List Transition → Bool
is_below t ts = list_all (λ u. nat_lt (transition_number t) (transition_number u)) ts

abbrev AreAmong : List Transition → List Transition → Type 0
AreAmong all ts = ByRecursion (λ t. among all t ≡ true) ts

not_same : (a b : Transition) → nat_lt (transition_number a) (transition_number b) ≡ true
    → (transition_number a == transition_number b) ≡ false
not_same a b less =
    ne_eqb (transition_number a) (transition_number b)
    (λ is. omega (arith, ltb-true (transition_number a) (transition_number b) less))

not_same_back : (a b : Transition) → nat_lt (transition_number a) (transition_number b) ≡ true
    → (transition_number b == transition_number a) ≡ false
not_same_back a b less =
    ne_eqb (transition_number b) (transition_number a)
    (λ is. omega (arith, ltb-true (transition_number a) (transition_number b) less))

not_among : (a : Transition) (ts : List Transition) → is_below a ts ≡ true → among ts a ≡ false
not_among a [] below = refl
not_among a (t ∷ ts) below =
    let both = and_parts (nat_lt (transition_number a) (transition_number t)) (is_below a ts) below in
    or_from (transition_number t == transition_number a) (among ts a) (not_same_back a t both.0) (not_among a ts both.1)

below_more : (a t : Transition) (ts : List Transition) → nat_lt (transition_number a) (transition_number t) ≡ true
    → is_below t ts ≡ true → is_below a ts ≡ true
below_more a t [] less below = refl
below_more a t (u ∷ ts) less below =
    let both = and_parts (nat_lt (transition_number t) (transition_number u)) (is_below t ts) below in
    and_from (nat_lt (transition_number a) (transition_number u)) (is_below a ts)
    (lt-ltb (transition_number a) (transition_number u)
    (omega (
      arith,
      ltb-true (transition_number a) (transition_number t) less,
      ltb-true (transition_number t) (transition_number u) both.0,
    )))
    (below_more a t ts less both.1)

-- a member of a list whose members are above is above
above : (a t : Transition) (ts : List Transition) → is_below a ts ≡ true → among ts t ≡ true
    → nat_lt (transition_number a) (transition_number t) ≡ true
above a t [] below is = absurd (true≢false (sym is))
above a t (u ∷ ts) below is =
    let both = and_parts (nat_lt (transition_number a) (transition_number u)) (is_below a ts) below in
    ⊎_elim
    (λ same. subst (λ n. nat_lt (transition_number a) n ≡ true)
    (eqb-true (transition_number u) (transition_number t) same) both.0)
    (λ later. above a t ts both.1 later) (or_cases (transition_number u == transition_number t) (among ts t) is)

-- what lies above the first is told by the others
told_behind : (t : Transition) (ts all : List Transition) → is_below t all ≡ true
    → filter (among (t ∷ ts)) all ≡ filter (among ts) all
told_behind t ts [] below = refl
told_behind t ts (a ∷ all) below =
    let both = and_parts (nat_lt (transition_number t) (transition_number a)) (is_below t all) below in
    ap (λ x. cond (x || among ts a) (a ∷ filter (among (t ∷ ts)) all) (filter (among (t ∷ ts)) all))
    (not_same t a both.0)
    ∙ ap (λ x. cond (among ts a) (a ∷ x) x) (told_behind t ts all both.1)

found_behind : (a : Transition) (all ts : List Transition) → is_below a ts ≡ true → AreAmong (a ∷ all) ts
    → AreAmong all ts
found_behind a all [] below are = tt
found_behind a all (t ∷ ts) below are =
    let both = and_parts (nat_lt (transition_number a) (transition_number t)) (is_below a ts) below in
    (sym (ap (λ x. x || among all t) (not_same a t both.0)) ∙ are.0, found_behind a all ts both.1 are.1)

same_number : (a b : Transition) → transition_number a ≡ transition_number b → a ≡ b
same_number a b is =
    same_Some a b (sym (at_number a) ∙ ap transition_at is ∙ at_number b)
  where
    at_number : (t : Transition) → transition_at (transition_number t) ≡ Some t
    at_number Link = refl
    at_number t = refl

picked : (all ts : List Transition) → ascend all ≡ true → ascend ts ≡ true → AreAmong all ts
    → filter (among ts) all ≡ ts
picked [] [] up rise are = refl
picked [] (t ∷ ts) up rise are = absurd (true≢false (sym are.0))
picked (a ∷ all) [] up rise are = picked all [] (and_parts (is_below a all) (ascend all) up).1 refl tt
picked (a ∷ all) (t ∷ ts) up rise are =
    let ups = and_parts (is_below a all) (ascend all) up in
    let rises = and_parts (is_below t ts) (ascend ts) rise in
    ⊎_elim
    (λ same.
    let is : t ≡ a = same_number t a (eqb-true (transition_number t) (transition_number a) same) in
    let below : is_below a ts ≡ true = subst (λ x. is_below x ts ≡ true) is rises.0 in
    cond-true (among (t ∷ ts) a) _ _ (or_left (transition_number t == transition_number a) (among ts a) same)
    ∙ ap (λ x. a ∷ x) (told_behind t ts all (subst (λ x. is_below x all ≡ true) (sym is) ups.0)
    ∙ picked all ts ups.1 rises.1 (found_behind a all ts below are.1))
    ∙ ap (λ x. x ∷ ts) (sym is))
    (λ other.
    let less = above a t all ups.0 (behind a t all other are.0) in
    let below : is_below a (t ∷ ts) ≡ true =
    and_from (nat_lt (transition_number a) (transition_number t)) (is_below a ts) less
    (below_more a t ts less rises.0) in
    cond-false (among (t ∷ ts) a) _ _ (not_among a (t ∷ ts) below)
    ∙ picked all (t ∷ ts) ups.1 rise (found_behind a all (t ∷ ts) below are))
    (cases_Bool (transition_number t == transition_number a))
  where
    behind : (a t : Transition) (all : List Transition) → (transition_number t == transition_number a) ≡ false
        → among (a ∷ all) t ≡ true → among all t ≡ true
    behind a t all other is =
        ⊎_elim
        (λ same. absurd (true≢false (sym (eq-eqb (transition_number t) (transition_number a)
        (sym (eqb-true (transition_number a) (transition_number t) same))) ∙ other)))
        (λ later. later) (or_cases (transition_number a == transition_number t) (among all t) is)

all_among : (ts : List Transition) → AreAmong transitions ts
all_among [] = tt
all_among (t ∷ ts) = (one t, all_among ts)
  where
    one : (t : Transition) → among transitions t ≡ true
    one Link = refl
    one t = refl

-- transitions that stand by their numbers
pub in_order : (ts : List Transition) → ascend ts ≡ true → by_number ts ≡ ts
in_order ts rise = picked transitions ts refl rise (all_among ts)

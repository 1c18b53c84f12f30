-- Elements that two tests tell apart, and the first of each kind.
use Rattle.std.proofs.Common.{◌≡◌, ◌∙◌, ◌||◌, ◌++◌, ◌+◌, ℕ, Bool, true, false, cond, not, List, []}
use Rattle.std.proofs.Common.{◌∷◌, ap, All, arith, get_or, if◌then◌else◌, refl, subst, suc, sym}
use Rattle.std.specs.List.{Any, Contains, list_any, position_or_len}
use Rattle.std.proofs.lemmas.List.Elements.{All-contains, All-contains_itself, All-head, All-push}
use Rattle.std.proofs.lemmas.List.Elements.{All-tail, All-weaker, Contains-append_left}
use Rattle.std.proofs.lemmas.List.Elements.{Contains-append_right}
use Rattle.std.proofs.lemmas.List.Folds.{Any-from_list_any, list_any-from_Any}
use Rattle.pl_base.proofs.ListLaws.{list_any_last, list_any_push}
use Rattle.pl_base.proofs.Truths.{same_tests}

-- ---- the first that passes

pub places_alike : {X : Type 0} (p q : X → Bool) (xs : List X) → All (λ x. p x ≡ q x) xs
    → position_or_len p xs ≡ position_or_len q xs
places_alike p q [] alike = refl
places_alike p q (x ∷ xs) alike =
    ap (λ b. cond (not b) (1 + position_or_len p xs) 0) (All-head (λ y. p y ≡ q y) x xs alike)
    ∙ ap (λ n. cond (not (q x)) (1 + n) 0) (places_alike p q xs (All-tail (λ y. p y ≡ q y) x xs alike))

any_at : (a b c d : Bool) (m n : ℕ) → cond (not a) (1 + m) 0 ≡ cond (not b) (1 + n) 0 → (m ≡ n → c ≡ d)
    → (a || c) ≡ (b || d)
any_at true true c d m n places rest = refl
any_at true false c d m n places rest = absurd (omega (arith, places))
any_at false true c d m n places rest = absurd (omega (arith, places))
any_at false false c d m n places rest = rest (omega (arith, places))

pub same_any : {X : Type 0} (p q : X → Bool) (xs : List X) → position_or_len p xs ≡ position_or_len q xs
    → list_any p xs ≡ list_any q xs
same_any p q [] places = refl
same_any p q (x ∷ xs) places =
    any_at (p x) (q x) (list_any p xs) (list_any q xs) (position_or_len p xs) (position_or_len q xs) places
    (same_any p q xs)

-- an element passes both tests
abbrev pub PassesBoth : {X : Type 0} → (X → Bool) → (X → Bool) → X → Type 0
PassesBoth p q x = (p x ≡ true) × (q x ≡ true)

both_at : {X : Type 0} (p q : X → Bool) (x : X) (xs : List X) (a b : Bool) → p x ≡ a → q x ≡ b
    → cond (not a) (1 + position_or_len p xs) 0 ≡ cond (not b) (1 + position_or_len q xs) 0
    → (a || list_any p xs) ≡ true
    → (position_or_len p xs ≡ position_or_len q xs → list_any p xs ≡ true → Any (PassesBoth p q) xs)
    → Any (PassesBoth p q) (x ∷ xs)
both_at p q x xs true true first second places some rest = (0, x, omega arith, refl, (first, second))
both_at p q x xs true false first second places some rest = absurd (omega (arith, places))
both_at p q x xs false true first second places some rest = absurd (omega (arith, places))
both_at p q x xs false false first second places some rest =
    let r = rest (omega (arith, places)) some in
    (suc r.0, r.1, omega (arith, r.2), r.3, r.4)

-- where the first that passes stands at the same place for both tests, one passes both
pub passes_both : {X : Type 0} (p q : X → Bool) (xs : List X) → position_or_len p xs ≡ position_or_len q xs
    → list_any p xs ≡ true → Any (PassesBoth p q) xs
passes_both p q [] places some = absurd (cc)
passes_both p q (x ∷ xs) places some =
    both_at p q x xs (p x) (q x) refl refl places some (passes_both p q xs)

-- ---- two tests

-- the test is symmetric and transitive
pub record IsKind {X : Type 0} (p : X → X → Bool) : Type 0 where
  pub back : (a b : X) → p a b ≡ true → p b a ≡ true
  pub on : (a b c : X) → p a b ≡ true → p b c ≡ true → p a c ≡ true

-- both tests answer the same of any two elements
abbrev pub Agree : {X : Type 0} → (X → X → Bool) → (X → X → Bool) → List X → Type 0
Agree p q xs = All (λ a. All (λ b. p a b ≡ q a b) xs) xs

-- the first of each kind among the seen ones, which both tests tell apart alike
pub record AreFirsts {X : Type 0} (p q : X → X → Bool) (firsts seen : List X) : Type 0 where
  pub among : All (Contains seen) firsts
  pub covered : All (λ b. list_any (p b) firsts ≡ true) seen
  pub agree : Agree p q seen

pub agree_at : {X : Type 0} (p q : X → X → Bool) (xs : List X) (a b : X) → Agree p q xs → Contains xs a
    → Contains xs b → p a b ≡ q a b
agree_at p q xs a b agree first second =
    All-contains (λ y. p a y ≡ q a y) xs b (All-contains (λ x. All (λ y. p x y ≡ q x y) xs) xs a agree first) second

-- a place that the tests disagree on
pub same_place : {X : Type 0} (p q : X → X → Bool) (firsts seen : List X) (a : X) → AreFirsts p q firsts seen
    → Agree p q (seen ++ a ∷ []) → position_or_len (p a) firsts ≡ position_or_len (q a) firsts
same_place p q firsts seen a h agree =
    places_alike (p a) (q a) firsts (λ k d within.
    agree_at p q (seen ++ a ∷ []) a (get_or firsts k d) agree
    (Contains-append_right seen (a ∷ []) a (0, omega arith, refl))
    (Contains-append_left seen (a ∷ []) (get_or firsts k d) (h.among k d within)))

-- an element that passes is of the kind of one of the firsts
pub seen_before : {X : Type 0} (p q : X → X → Bool) (firsts seen : List X) (a : X) → IsKind p → AreFirsts p q firsts seen
    → list_any (p a) seen ≡ list_any (p a) firsts
seen_before p q firsts seen a kind h =
    same_tests (list_any (p a) seen) (list_any (p a) firsts)
    (λ some.
    let b = Any-from_list_any (p a) seen some in
    let f = Any-from_list_any (p b.1) firsts (subst (λ x. list_any (p x) firsts ≡ true) b.3 (h.covered b.0 b.1 b.2)) in
    list_any-from_Any (p a) firsts (f.0, f.1, f.2, f.3, kind.on a b.1 f.1 b.4 f.4))
    (λ some.
    let f = Any-from_list_any (p a) firsts some in
    let inside : Contains seen f.1 = subst (Contains seen) f.3 (h.among f.0 f.1 f.2) in
    list_any-from_Any (p a) seen (inside.0, f.1, inside.1, inside.2, f.4))

-- ---- one more element

-- one of the firsts that both tests find of a
record Both {X : Type 0} (p q : X → X → Bool) (seen : List X) (a : X) : Type 0 where
  of : X
  inside : Contains seen of
  first : p a of ≡ true
  second : q a of ≡ true

both_of : {X : Type 0} (p q : X → X → Bool) (firsts seen : List X) (a : X) → AreFirsts p q firsts seen
    → position_or_len (p a) firsts ≡ position_or_len (q a) firsts → list_any (p a) firsts ≡ true → Both p q seen a
both_of p q firsts seen a h places some =
    let g = passes_both (p a) (q a) firsts places some in
    record {
      of = g.1;
      inside = subst (Contains seen) g.3 (h.among g.0 g.1 g.2);
      first = g.4.0;
      second = g.4.1;
    }

there : {X : Type 0} (p q : X → X → Bool) (firsts seen : List X) (a b : X) → IsKind p → IsKind q
    → AreFirsts p q firsts seen → position_or_len (p a) firsts ≡ position_or_len (q a) firsts → Contains seen b
    → p a b ≡ true → q a b ≡ true
there p q firsts seen a b first second h places inside passes =
    let some : list_any (p a) seen ≡ true = list_any-from_Any (p a) seen (inside.0, b, inside.1, inside.2, passes) in
    let g = both_of p q firsts seen a h places (sym (seen_before p q firsts seen a first h) ∙ some) in
    let same : p b g.of ≡ true = first.on b a g.of (first.back a b passes) g.first in
    let other : q b g.of ≡ true = sym (agree_at p q seen b g.of h.agree inside g.inside) ∙ same in
    second.on a g.of b g.second (second.back b g.of other)

back : {X : Type 0} (p q : X → X → Bool) (firsts seen : List X) (a b : X) → IsKind p → IsKind q
    → AreFirsts p q firsts seen → position_or_len (p a) firsts ≡ position_or_len (q a) firsts → Contains seen b
    → q a b ≡ true → p a b ≡ true
back p q firsts seen a b first second h places inside passes =
    let f = Any-from_list_any (p b) firsts (All-contains (λ x. list_any (p x) firsts ≡ true) seen b h.covered inside) in
    let of : Contains seen f.1 = subst (Contains seen) f.3 (h.among f.0 f.1 f.2) in
    let near : q a f.1 ≡ true =
    second.on a b f.1 passes (sym (agree_at p q seen b f.1 h.agree inside of) ∙ f.4) in
    let some : list_any (q a) firsts ≡ true = list_any-from_Any (q a) firsts (f.0, f.1, f.2, f.3, near) in
    let g = both_of p q firsts seen a h places (same_any (p a) (q a) firsts places ∙ some) in
    let other : q b g.of ≡ true = second.on b a g.of (second.back a b passes) g.second in
    let same : p b g.of ≡ true = agree_at p q seen b g.of h.agree inside g.inside ∙ other in
    first.on a g.of b g.first (first.back b g.of same)

flipped : {X : Type 0} (p q : X → X → Bool) (a b : X) → IsKind p → IsKind q → p a b ≡ q a b → p b a ≡ q b a
flipped p q a b first second same =
    same_tests (p b a) (q b a) (λ passes. second.back a b (sym same ∙ first.back b a passes))
    (λ passes. first.back a b (same ∙ second.back b a passes))

-- the tests agree on one more element whose kind stands at the same place for both
pub agree_more : {X : Type 0} (p q : X → X → Bool) (firsts seen : List X) (a : X) → IsKind p → IsKind q
    → AreFirsts p q firsts seen → position_or_len (p a) firsts ≡ position_or_len (q a) firsts → p a a ≡ q a a
    → Agree p q (seen ++ a ∷ [])
agree_more p q firsts seen a first second h places own =
    let alike : All (λ b. p a b ≡ q a b) seen =
    λ k d within.
    let inside : Contains seen (get_or seen k d) = All-contains_itself seen k d within in
    same_tests (p a (get_or seen k d)) (q a (get_or seen k d))
    (there p q firsts seen a (get_or seen k d) first second h places inside)
    (back p q firsts seen a (get_or seen k d) first second h places inside) in
    All-push (λ x. All (λ y. p x y ≡ q x y) (seen ++ a ∷ [])) seen a
    (λ k d within.
    All-push (λ y. p (get_or seen k d) y ≡ q (get_or seen k d) y) seen a (h.agree k d within)
    (flipped p q a (get_or seen k d) first second (alike k d within)))
    (All-push (λ y. p a y ≡ q a y) seen a alike own)

pub firsts_more : {X : Type 0} (p q : X → X → Bool) (firsts seen : List X) (a : X) (b : Bool) → list_any (p a) firsts ≡ b
    → p a a ≡ true → AreFirsts p q firsts seen → Agree p q (seen ++ a ∷ [])
    → AreFirsts p q (if b then firsts else firsts ++ a ∷ []) (seen ++ a ∷ [])
firsts_more p q firsts seen a true some own h agree =
    record {
      among = All-weaker (Contains seen) (Contains (seen ++ a ∷ [])) (Contains-append_left seen (a ∷ [])) firsts h.among;
      covered = All-push (λ b. list_any (p b) firsts ≡ true) seen a h.covered some;
      agree = agree;
    }
firsts_more p q firsts seen a false none own h agree =
    record {
      among =
          All-push (Contains (seen ++ a ∷ [])) firsts a
          (All-weaker (Contains seen) (Contains (seen ++ a ∷ [])) (Contains-append_left seen (a ∷ [])) firsts h.among)
          (Contains-append_right seen (a ∷ []) a (0, omega arith, refl));
      covered =
          All-push (λ b. list_any (p b) (firsts ++ a ∷ []) ≡ true) seen a
          (All-weaker (λ b. list_any (p b) firsts ≡ true) (λ b. list_any (p b) (firsts ++ a ∷ []) ≡ true)
          (λ b some. list_any_push (p b) firsts a some) seen h.covered) (list_any_last (p a) firsts a own);
      agree = agree;
    }

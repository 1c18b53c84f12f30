-- What is an element of a list: by a number that stands once, and of lists without repeats. Two
-- such lists that have the same elements are one another in another order.
use Rattle.std.proofs.Common.{◌≡◌, ◌≢◌, ◌∙◌, ◌∷◌, ◌++◌, [], ℕ, Bool, List, ap, false, filter}
use Rattle.std.proofs.Common.{if◌then◌else◌, inl, inr, map, refl, subst, sym, true}
use Rattle.std.specs.List.Sorted.{IsPermutation}
use Rattle.std.proofs.lemmas.List.Sorted.{IsPermutation-cons, IsPermutation-middle, IsPermutation-refl}
use Rattle.std.proofs.lemmas.List.Sorted.{IsPermutation-sym, IsPermutation-trans}
use Rattle.pl_base.proofs.Among.{In, around, at_in, from_filter, from_map, in_map}
use Rattle.pl_base.proofs.LookUps.{Apart}

-- ---- by a number that stands once

pub same_key : {X : Type 0} (key : X → ℕ) (xs : List X) (x y : X) → Apart key xs → In x xs → In y xs
    → key x ≡ key y → x ≡ y
same_key key [] x y apart first second same = absurd first
same_key key (z ∷ zs) x y apart (inl here) (inl there) same = here ∙ sym there
same_key key (z ∷ zs) x y apart (inl here) (inr there) same =
    absurd (at_in (λ w. key w ≢ key z) zs y apart.0 there (sym same ∙ ap key here))
same_key key (z ∷ zs) x y apart (inr here) (inl there) same =
    absurd (at_in (λ w. key w ≢ key z) zs x apart.0 here (same ∙ ap key there))
same_key key (z ∷ zs) x y apart (inr here) (inr there) same = same_key key zs x y apart.1 here there same

-- ---- lists without repeats

-- no element stands again behind itself
abbrev pub EachOnce : {X : Type 0} → List X → Type 0
EachOnce [] = Unit {0}
EachOnce (x ∷ xs) = (In x xs → ⊥) × EachOnce xs

-- what differs by its number differs
pub once_keyed : {X Y : Type 0} (key : X → ℕ) (f : X → Y) (number : Y → ℕ) → ((x : X) → number (f x) ≡ key x)
    → (xs : List X) → Apart key xs → EachOnce (map f xs)
once_keyed key f number is [] apart = tt
once_keyed key f number is (x ∷ xs) apart = (
  λ within.
      let r = from_map f xs (f x) within in
      at_in (λ y. key y ≢ key x) xs r.0 apart.0 r.1 (sym (is r.0) ∙ sym (ap number r.2) ∙ is x),
  once_keyed key f number is xs apart.1,
)

-- those that pass a test
pub once_kept : {X Y : Type 0} (f : X → Y) (test : X → Bool) (xs : List X) → EachOnce (map f xs)
    → EachOnce (map f (filter test xs))
once_kept f test [] one = tt
once_kept {X} {Y} f test (x ∷ xs) one = choose (test x) (once_kept f test xs one.1)
  where
    never : In (f x) (map f (filter test xs)) → ⊥
    never within =
        let r = from_map f (filter test xs) (f x) within in
        one.0 (subst (λ (y : Y). In y (map f xs)) (sym r.2) (in_map f xs r.0 (from_filter test xs r.0 r.1).0))

    choose : (b : Bool) → EachOnce (map f (filter test xs))
        → EachOnce (map f (if b then x ∷ filter test xs else filter test xs))
    choose true rest = (never, rest)
    choose false rest = rest

-- ---- a list at one of its elements

module _ {X : Type 0} where
  in_with : (front : List X) (z : X) (back : List X) (x : X) → In x (front ++ back) → In x (front ++ z ∷ back)
  in_with [] z back x within = inr within
  in_with (y ∷ front) z back x (inl same) = inl same
  in_with (y ∷ front) z back x (inr within) = inr (in_with front z back x within)

  in_middle : (front : List X) (z : X) (back : List X) → In z (front ++ z ∷ back)
  in_middle [] z back = inl refl
  in_middle (y ∷ front) z back = inr (in_middle front z back)

  in_without : (front : List X) (z : X) (back : List X) (x : X) → In x (front ++ z ∷ back) → x ≢ z
      → In x (front ++ back)
  in_without [] z back x (inl same) other = absurd (other same)
  in_without [] z back x (inr within) other = within
  in_without (y ∷ front) z back x (inl same) other = inl same
  in_without (y ∷ front) z back x (inr within) other = inr (in_without front z back x within other)

  -- without it the list is one without repeats, in which it does not stand
  once_without : (front : List X) (z : X) (back : List X) → EachOnce (front ++ z ∷ back)
      → EachOnce (front ++ back) × (In z (front ++ back) → ⊥)
  once_without [] z back one = (one.1, one.0)
  once_without (x ∷ front) z back one =
      let rest = once_without front z back one.1 in (
        (λ within. one.0 (in_with front z back x within), rest.0),
        never rest.1,
      )
    where
      never : (In z (front ++ back) → ⊥) → In z (x ∷ (front ++ back)) → ⊥
      never rest (inl same) = one.0 (subst (λ (y : X). In y (front ++ z ∷ back)) same (in_middle front z back))
      never rest (inr within) = rest within

  -- ---- the same elements

  pub same_members : (xs ys : List X) → EachOnce xs → EachOnce ys → ((z : X) → In z xs → In z ys)
      → ((z : X) → In z ys → In z xs) → IsPermutation xs ys
  same_members [] [] once_xs once_ys there back = IsPermutation-refl []
  same_members [] (y ∷ ys) once_xs once_ys there back = absurd (back y (inl refl))
  same_members (x ∷ xs) ys once_xs once_ys there back =
      let a = around x ys (there x (inl refl)) in
      let apart = once_without a.front x a.back (subst EachOnce a.whole once_ys) in
      let rest : IsPermutation xs (a.front ++ a.back) =
      same_members xs (a.front ++ a.back) once_xs.1 apart.0
      (λ z within.
      in_without a.front x a.back z (subst (In z) a.whole (there z (inr within)))
      (λ same. once_xs.0 (subst (λ (y : X). In y xs) same within)))
      (λ z within.
      behind z (back z (subst (In z) (sym a.whole) (in_with a.front x a.back z within)))
      (λ same. apart.1 (subst (λ (y : X). In y (a.front ++ a.back)) same within))) in
      subst (IsPermutation (x ∷ xs)) (sym a.whole)
      (IsPermutation-trans (x ∷ xs) (x ∷ (a.front ++ a.back)) (a.front ++ x ∷ a.back)
      (IsPermutation-cons x xs (a.front ++ a.back) rest)
      (IsPermutation-sym (a.front ++ x ∷ a.back) (x ∷ (a.front ++ a.back)) (IsPermutation-middle a.front x a.back)))
    where
      behind : (z : X) → In z (x ∷ xs) → (z ≡ x → ⊥) → In z xs
      behind z (inl same) other = absurd (other same)
      behind z (inr within) other = within

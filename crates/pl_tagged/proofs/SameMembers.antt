-- Two lists of the same members, each once, differ in their order alone.
use Rattle.std.proofs.Common.{◌≢◌, ◌++◌, ◌⊎◌, inl, inr, ℕ, List, [], ◌∷◌, ap, refl, subst, sym}
use Rattle.std.specs.List.{AllByRecursion}
use Rattle.std.specs.List.Sorted.{IsPermutation}
use Rattle.std.proofs.lemmas.List.Sorted.{IsPermutation-cons, IsPermutation-refl, IsPermutation-trans}
use Rattle.pl_base.proofs.Among.{Around, In, around, at_in, in_back, in_either, in_front}
use Rattle.pl_base.proofs.ListLaws.{all_append}
use Rattle.pl_base.proofs.LookUps.{Apart, front, part, rest_of}
use Rattle.pl_query.proofs.PartLists.{to_front}

module _ {X : Type 0} (key : X → ℕ) where
  all_others : (P : X → Type 0) (xs : List X) (x : X) (ys : List X) → AllByRecursion P (xs ++ x ∷ ys)
      → AllByRecursion P (xs ++ ys)
  all_others P xs x ys all = all_append P xs ys (front P xs (x ∷ ys) all) (rest_of P xs (x ∷ ys) all).1

  apart_others : (xs : List X) (x : X) (ys : List X) → Apart key (xs ++ x ∷ ys) → Apart key (xs ++ ys)
  apart_others [] x ys apart = apart.1
  apart_others (y ∷ xs) x ys apart =
      (all_others (λ z. key z ≢ key y) xs x ys apart.0, apart_others xs x ys apart.1)

  none_alike : (xs : List X) (x : X) (ys : List X) → Apart key (xs ++ x ∷ ys)
      → AllByRecursion (λ z. key z ≢ key x) (xs ++ ys)
  none_alike [] x ys apart = apart.0
  none_alike (y ∷ xs) x ys apart = (
    λ same. part (λ z. key z ≢ key y) xs x ys apart.0 (sym same),
    none_alike xs x ys apart.1,
  )

  pub same_members : (xs ys : List X) → Apart key xs → Apart key ys → ((z : X) → In z xs → In z ys)
      → ((z : X) → In z ys → In z xs) → IsPermutation xs ys
  same_members [] [] one two to from = IsPermutation-refl []
  same_members [] (y ∷ ys) one two to from = absurd (from y (inl refl))
  same_members (x ∷ xs) ys one two to from =
      subst (IsPermutation (x ∷ xs)) (sym a.whole)
      (IsPermutation-trans (x ∷ xs) (x ∷ (a.front ++ a.back)) (a.front ++ x ∷ a.back)
      (IsPermutation-cons x xs (a.front ++ a.back)
      (same_members xs (a.front ++ a.back) one.1 (apart_others a.front x a.back apart) there back))
      (to_front (x ∷ []) a.front a.back))
    where
      a : Around x ys
      a = around x ys (to x (inl refl))

      apart : Apart key (a.front ++ x ∷ a.back)
      apart = subst (Apart key) a.whole two

      there : (z : X) → In z xs → In z (a.front ++ a.back)
      there z h =
          choose (in_either a.front (x ∷ a.back) z (subst (In z) a.whole (to z (inr h))))
        where
          choose : In z a.front ⊎ In z (x ∷ a.back) → In z (a.front ++ a.back)
          choose (inl g) = in_front a.front a.back z g
          choose (inr (inl e)) = absurd (at_in (λ y. key y ≢ key x) xs z one.0 h (ap key e))
          choose (inr (inr g)) = in_back a.front a.back z g

      back : (z : X) → In z (a.front ++ a.back) → In z xs
      back z h = choose (from z (subst (In z) (sym a.whole) (more (in_either a.front a.back z h))))
        where
          more : In z a.front ⊎ In z a.back → In z (a.front ++ x ∷ a.back)
          more (inl g) = in_front a.front (x ∷ a.back) z g
          more (inr g) = in_back a.front (x ∷ a.back) z (inr g)

          choose : In z (x ∷ xs) → In z xs
          choose (inl e) =
              absurd
              (at_in (λ y. key y ≢ key x) (a.front ++ a.back) z (none_alike a.front x a.back apart) h (ap key e))
          choose (inr g) = g

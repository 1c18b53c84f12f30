-- What stands first when a list is sorted: the member that no other comes before.
use Rattle.std.proofs.Common.{◌≡◌, ◌∙◌, Bool, true, false, List, [], ◌∷◌, Some, None, ap, inl, inr}
use Rattle.std.proofs.Common.{if◌then◌else◌, refl, sym}
use Rattle.std.specs.Cmp.{IsStrictWeakOrder}
use Rattle.std.specs.List.{slice_get}
use Rattle.std.specs.List.Sorted.{ties}
use Rattle.std.proofs.lemmas.Bool.{cases_Bool}
use Rattle.pl_base.specs.Sorting.{put_in_place, sorted_by}
use Rattle.pl_base.proofs.Among.{In}

-- the first of the sorted list is a member of the list, and none comes before it
abbrev Leads : {A : Type 0} → (A → A → Bool) → List A → List A → Type 0
Leads {A} before xs [] = (z : A) → In z xs → ⊥
Leads {A} before xs (h ∷ t) = In h xs × ((z : A) → In z xs → before z h ≡ false)

module _ {A : Type 0} (before : A → A → Bool) (ranks : IsStrictWeakOrder before) where
  pub itself : (x : A) → before x x ≡ false
  itself x =
      elim (cases_Bool (before x x)) as (λ _. before x x ≡ false) [
        | inl is ↦ ranks.one_way x x is
        | inr not_so ↦ not_so
      ]

  leads_alone : (x : A) (xs : List A) → ((z : A) → In z xs → ⊥) → (z : A) → In z (x ∷ xs) → before z x ≡ false
  leads_alone x xs none z (inl e) = ap (λ y. before y x) e ∙ itself x
  leads_alone x xs none z (inr h) = absurd (none z h)

  leads_before : (x h : A) (xs : List A) → before x h ≡ true → ((z : A) → In z xs → before z h ≡ false) → (z : A)
      → In z (x ∷ xs) → before z x ≡ false
  leads_before x h xs first none z (inl e) = ap (λ y. before y x) e ∙ itself x
  leads_before x h xs first none z (inr g) = ranks.chain z h x (none z g) (ranks.one_way x h first)

  leads_still : (x h : A) (xs : List A) → before x h ≡ false → ((z : A) → In z xs → before z h ≡ false) → (z : A)
      → In z (x ∷ xs) → before z h ≡ false
  leads_still x h xs behind none z (inl e) = ap (λ y. before y h) e ∙ behind
  leads_still x h xs behind none z (inr g) = none z g

  leads_placed : (x : A) (xs s : List A) → Leads before xs s → Leads before (x ∷ xs) (put_in_place before x s)
  leads_placed x xs [] none = (inl refl, leads_alone x xs none)
  leads_placed x xs (h ∷ t) led = choose (before x h) refl
    where
      choose : (b : Bool) → before x h ≡ b
          → Leads before (x ∷ xs) (if b then x ∷ h ∷ t else h ∷ put_in_place before x t)
      choose true first = (inl refl, leads_before x h xs first led.1)
      choose false behind = (inr led.0, leads_still x h xs behind led.1)

  leads_sorted : (xs : List A) → Leads before xs (sorted_by before xs)
  leads_sorted [] = λ z h. h
  leads_sorted (x ∷ xs) = leads_placed x xs (sorted_by before xs) (leads_sorted xs)

  pub none_sorted : (xs : List A) → ((z : A) → In z xs → ⊥) → slice_get (sorted_by before xs) 0 ≡ None
  none_sorted xs none = choose (sorted_by before xs) (leads_sorted xs)
    where
      choose : (s : List A) → Leads before xs s → slice_get s 0 ≡ None
      choose [] led = refl
      choose (h ∷ t) led = absurd (none h led.0)

  pub first_sorted : ((x y : A) → ties before x y ≡ true → x ≡ y) → (xs : List A) (x : A) → In x xs
      → ((z : A) → In z xs → before z x ≡ false) → slice_get (sorted_by before xs) 0 ≡ Some x
  first_sorted same xs x member none = choose (sorted_by before xs) (leads_sorted xs)
    where
      tied : (y : A) → before x y ≡ false → before y x ≡ false → ties before x y ≡ true
      tied y one two = rw (one, two) refl

      choose : (s : List A) → Leads before xs s → slice_get s 0 ≡ Some x
      choose [] led = absurd (led x member)
      choose (h ∷ t) led = ap (λ y. Some y) (sym (same x h (tied h (led.1 x member) (none h led.0))))

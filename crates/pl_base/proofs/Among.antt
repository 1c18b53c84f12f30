-- What is an element of a list.
use Rattle.std.proofs.Common.{◌≡◌, ◌≢◌, ◌++◌, ◌||◌, ◌⊎◌, ◌∙◌, inl, inr, ℕ, zero, suc, Bool, true, false, arith}
use Rattle.std.proofs.Common.{List, [], ◌∷◌, Option, None, Some, ap, sym, subst, refl, drop, filter, find}
use Rattle.std.proofs.Common.{if◌then◌else◌, map, take}
use Rattle.std.specs.List.{AllByRecursion, Contains, filter_map, flat_map, list_any}
use Rattle.std.specs.List.Sorted.{IsPermutation}
use Rattle.std.proofs.lemmas.Bool.{false≢true, or_left, or_right}
use Rattle.std.proofs.lemmas.List.{take-append-drop}
use Rattle.std.proofs.lemmas.List.Sorted.{Contains-permutation}
use Rattle.pl_base.proofs.LookUps.{found_holds, found_passes}

module _ {X : Type 0} where
  abbrev pub In : X → List X → Type 0
  In z [] = ⊥
  In z (y ∷ ys) = (z ≡ y) ⊎ In z ys

  pub at_in : (P : X → Type 0) (xs : List X) (z : X) → AllByRecursion P xs → In z xs → P z
  at_in P [] z all h = absurd h
  at_in P (x ∷ xs) z all (inl e) = subst P (sym e) all.0
  at_in P (x ∷ xs) z all (inr h) = at_in P xs z all.1 h

  pub all_from_in : (P : X → Type 0) (xs : List X) → ((z : X) → In z xs → P z) → AllByRecursion P xs
  all_from_in P [] each = tt
  all_from_in P (x ∷ xs) each = (each x (inl refl), all_from_in P xs (λ z h. each z (inr h)))

  pub not_empty : (xs : List X) (z : X) → In z xs → xs ≢ []
  not_empty [] z h same = absurd h
  not_empty (x ∷ xs) z h same = absurd (cc)

  pub contains_from_in : (xs : List X) (z : X) → In z xs → Contains xs z
  contains_from_in [] z h = absurd h
  contains_from_in (x ∷ xs) z (inl e) = (0, omega arith, sym e)
  contains_from_in (x ∷ xs) z (inr h) = let r = contains_from_in xs z h in (suc r.0, omega arith, r.2)

  pub in_from_contains : (xs : List X) (z : X) → Contains xs z → In z xs
  in_from_contains [] z has = absurd (let within = has.1 in omega arith)
  in_from_contains (x ∷ xs) z (zero, within, is) = inl (sym is)
  in_from_contains (x ∷ xs) z (suc k, within, is) = inr (in_from_contains xs z (k, omega arith, is))

  pub in_permutation : (xs ys : List X) (z : X) → IsPermutation xs ys → In z xs → In z ys
  in_permutation xs ys z moves h =
      in_from_contains ys z (Contains-permutation xs ys z moves (contains_from_in xs z h))

  pub in_front : (xs ys : List X) (z : X) → In z xs → In z (xs ++ ys)
  in_front [] ys z h = absurd h
  in_front (x ∷ xs) ys z (inl e) = inl e
  in_front (x ∷ xs) ys z (inr h) = inr (in_front xs ys z h)

  pub in_back : (xs ys : List X) (z : X) → In z ys → In z (xs ++ ys)
  in_back [] ys z h = h
  in_back (x ∷ xs) ys z h = inr (in_back xs ys z h)

  pub in_either : (xs ys : List X) (z : X) → In z (xs ++ ys) → In z xs ⊎ In z ys
  in_either [] ys z h = inr h
  in_either (x ∷ xs) ys z (inl e) = inl (inl e)
  in_either (x ∷ xs) ys z (inr h) =
      elim (in_either xs ys z h) as (λ _. In z (x ∷ xs) ⊎ In z ys) [ inl g ↦ inl (inr g) | inr g ↦ inr g ]

  pub in_take : (n : ℕ) (xs : List X) (z : X) → In z (take n xs) → In z xs
  in_take n xs z h = subst (In z) (take-append-drop n xs) (in_front (take n xs) (drop n xs) z h)

  pub in_drop : (n : ℕ) (xs : List X) (z : X) → In z (drop n xs) → In z xs
  in_drop n xs z h = subst (In z) (take-append-drop n xs) (in_back (take n xs) (drop n xs) z h)

  pub in_filter : (q : X → Bool) (xs : List X) (z : X) → In z xs → q z ≡ true → In z (filter q xs)
  in_filter q [] z h passes = absurd h
  in_filter q (x ∷ xs) z (inl e) passes = here (q x) (ap q (sym e) ∙ passes)
    where
      here : (b : Bool) → b ≡ true → In z (if b then x ∷ filter q xs else filter q xs)
      here true is = inl e
      here false is = absurd (cc)
  in_filter q (x ∷ xs) z (inr h) passes = later (q x) (in_filter q xs z h passes)
    where
      later : (b : Bool) → In z (filter q xs) → In z (if b then x ∷ filter q xs else filter q xs)
      later true g = inr g
      later false g = g

  pub from_filter : (q : X → Bool) (xs : List X) (z : X) → In z (filter q xs) → In z xs × (q z ≡ true)
  from_filter q [] z h = absurd h
  from_filter q (x ∷ xs) z h = choose (q x) refl h (from_filter q xs z)
    where
      choose : (b : Bool) → q x ≡ b → In z (if b then x ∷ filter q xs else filter q xs)
          → (In z (filter q xs) → In z xs × (q z ≡ true)) → In z (x ∷ xs) × (q z ≡ true)
      choose true is (inl e) rest = (inl e, ap q e ∙ is)
      choose true is (inr g) rest = let r = rest g in (inr r.0, r.1)
      choose false is g rest = let r = rest g in (inr r.0, r.1)

  -- some passes the test, and which one
  pub any_from_in : (q : X → Bool) (xs : List X) (z : X) → In z xs → q z ≡ true → list_any q xs ≡ true
  any_from_in q [] z h passes = absurd h
  any_from_in q (x ∷ xs) z (inl e) passes = or_left (q x) (list_any q xs) (ap q (sym e) ∙ passes)
  any_from_in q (x ∷ xs) z (inr h) passes = or_right (q x) (list_any q xs) (any_from_in q xs z h passes)

  pub from_any : (q : X → Bool) (xs : List X) → list_any q xs ≡ true → (z : X) × In z xs × (q z ≡ true)
  from_any q [] some = absurd (false≢true some)
  from_any q (x ∷ xs) some = choose (q x) refl some (from_any q xs)
    where
      choose : (b : Bool) → q x ≡ b → (b || list_any q xs) ≡ true
          → (list_any q xs ≡ true → (z : X) × In z xs × (q z ≡ true)) → (z : X) × In z (x ∷ xs) × (q z ≡ true)
      choose true is here rest = (x, inl refl, is)
      choose false is here rest = let r = rest here in (r.0, inr r.1, r.2)

  pub from_found : (q : X → Bool) (xs : List X) (z : X) → find q xs ≡ Some z → In z xs × (q z ≡ true)
  from_found q xs z found = (
    found_holds (λ (x : X). In x xs) q xs z (all_from_in (λ (x : X). In x xs) xs (λ x h. h)) found,
    found_passes q xs z found,
  )

module _ {X Y : Type 0} where
  pub in_map : (f : X → Y) (xs : List X) (z : X) → In z xs → In (f z) (map f xs)
  in_map f [] z h = absurd h
  in_map f (x ∷ xs) z (inl e) = inl (ap f e)
  in_map f (x ∷ xs) z (inr h) = inr (in_map f xs z h)

  pub from_map : (f : X → Y) (xs : List X) (y : Y) → In y (map f xs) → (x : X) × In x xs × (y ≡ f x)
  from_map f [] y h = absurd h
  from_map f (x ∷ xs) y (inl e) = (x, inl refl, e)
  from_map f (x ∷ xs) y (inr h) = let r = from_map f xs y h in (r.0, inr r.1, r.2)

  pub in_filter_map : (f : X → Option Y) (xs : List X) (x : X) (y : Y) → In x xs → f x ≡ Some y
      → In y (filter_map f xs)
  in_filter_map f [] x y h is = absurd h
  in_filter_map f (z ∷ xs) x y (inl e) is =
      let here : f z ≡ Some y = ap f (sym e) ∙ is in
      rw here (inl refl)
  in_filter_map f (z ∷ xs) x y (inr h) is = choose (f z) refl (in_filter_map f xs x y h is)
    where
      choose : (o : Option Y) → f z ≡ o → In y (filter_map f xs) → In y (filter_map f (z ∷ xs))
      choose None here rest = rw here rest
      choose (Some w) here rest = rw here (inr rest)

  pub from_filter_map : (f : X → Option Y) (xs : List X) (y : Y) → In y (filter_map f xs)
      → (x : X) × In x xs × (f x ≡ Some y)
  from_filter_map f [] y h = absurd h
  from_filter_map f (x ∷ xs) y h = choose (f x) refl (from_filter_map f xs y)
    where
      Made : List X → Type 0
      Made us = (u : X) × In u us × (f u ≡ Some y)

      first : (z : Y) → f x ≡ Some z → In y (z ∷ filter_map f xs) → (In y (filter_map f xs) → Made xs)
          → Made (x ∷ xs)
      first z here (inl e) rest = (x, inl refl, here ∙ ap (λ (w : Y). Some w) (sym e))
      first z here (inr g) rest = let r = rest g in (r.0, inr r.1, r.2)

      choose : (o : Option Y) → f x ≡ o → (In y (filter_map f xs) → Made xs) → Made (x ∷ xs)
      choose None here rest = let r = rest (rw here at h) in (r.0, inr r.1, r.2)
      choose (Some z) here rest = first z here (rw here at h) rest

  pub in_flat_map : (f : X → List Y) (xs : List X) (x : X) (y : Y) → In x xs → In y (f x) → In y (flat_map f xs)
  in_flat_map f [] x y h g = absurd h
  in_flat_map f (z ∷ xs) x y (inl e) g = in_front (f z) (flat_map f xs) y (subst (λ w. In y (f w)) e g)
  in_flat_map f (z ∷ xs) x y (inr h) g = in_back (f z) (flat_map f xs) y (in_flat_map f xs x y h g)

  pub from_flat_map : (f : X → List Y) (xs : List X) (y : Y) → In y (flat_map f xs) → (x : X) × In x xs × In y (f x)
  from_flat_map f [] y h = absurd h
  from_flat_map f (x ∷ xs) y h =
      elim (in_either (f x) (flat_map f xs) y h) as (λ _. (z : X) × In z (x ∷ xs) × In y (f z)) [
        | inl g ↦ (x, inl refl, g)
        | inr g ↦ let r = from_flat_map f xs y g in (r.0, inr r.1, r.2)
      ]

-- ---- a list around one of its elements

module _ {X : Type 0} where
  pub record Around (z : X) (xs : List X) : Type 0 where
    pub front : List X
    pub back : List X
    pub whole : xs ≡ front ++ z ∷ back

  pub around : (z : X) (xs : List X) → In z xs → Around z xs
  around z [] within = absurd within
  around z (x ∷ xs) (inl same) =
      record { front = []; back = xs; whole = ap (λ (y : X). y ∷ xs) (sym same) }
  around z (x ∷ xs) (inr within) =
      let a = around z xs within in
      record { front = x ∷ a.front; back = a.back; whole = ap (λ (ys : List X). x ∷ ys) a.whole }

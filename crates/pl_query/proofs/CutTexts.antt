-- A list that is cut, and one in which each element stands for some.
use Rattle.std.proofs.Common.{◌≡◌, ◌∙◌, ◌++◌, Bool, true, false, List, [], ◌∷◌, ap, append-nil}
use Rattle.std.proofs.Common.{if◌then◌else◌, map, refl, sym}
use Rattle.std.specs.List.{AllByRecursion, flat_map, onto_first, slice_split}
use Rattle.std.proofs.lemmas.List.Splits.{slice_split-cons_no, slice_split-cons_yes}

-- the test fails at an element
abbrev pub Fails : {A : Type 0} → (A → Bool) → A → Type 0
Fails p x = p x ≡ false

-- elements in front of the first part
abbrev put : {A : Type 0} → List A → List (List A) → List (List A)
put xs [] = xs ∷ []
put xs (part ∷ parts) = (xs ++ part) ∷ parts

put_more : {A : Type 0} (x : A) (xs : List A) (parts : List (List A))
    → onto_first x (put xs parts) ≡ put (x ∷ xs) parts
put_more x xs [] = refl
put_more x xs (part ∷ parts) = refl

some_part : {A : Type 0} (p : A → Bool) (xs : List A) → put [] (slice_split p xs) ≡ slice_split p xs
some_part p [] = refl
some_part p (x ∷ xs) = choose (p x) (slice_split p xs)
  where
    choose : (b : Bool) (parts : List (List _))
        → put [] (if b then [] ∷ parts else onto_first x parts)
        ≡ (if b then [] ∷ parts else onto_first x parts)
    choose true parts = refl
    choose false [] = refl
    choose false (part ∷ parts) = refl

-- where the test fails nothing is cut
not_cut : {A : Type 0} (p : A → Bool) (xs rest : List A) → AllByRecursion (Fails p) xs
    → slice_split p (xs ++ rest) ≡ put xs (slice_split p rest)
not_cut p [] rest none = sym (some_part p rest)
not_cut p (x ∷ xs) rest none =
    slice_split-cons_no p x (xs ++ rest) none.0 ∙ ap (onto_first x) (not_cut p xs rest none.1)
    ∙ put_more x xs (slice_split p rest)

in_first : {A B : Type 0} (f : A → List B) (x : A) (parts : List (List A))
    → map (flat_map f) (onto_first x parts) ≡ put (f x) (map (flat_map f) parts)
in_first f x [] = ap (λ ys. ys ∷ []) (append-nil (f x))
in_first f x (part ∷ parts) = refl

-- an element at which a list is cut stands for one such element, and any other for none
pub record Cuts {A B : Type 0} (p : A → Bool) (q : B → Bool) (f : A → List B) (x : A) : Type 0 where
  pub there : p x ≡ true → (y : B) × (f x ≡ y ∷ []) × (q y ≡ true)
  pub elsewhere : p x ≡ false → AllByRecursion (Fails q) (f x)

-- then what the elements stand for is cut where they are
pub cut_alike : {A B : Type 0} (p : A → Bool) (q : B → Bool) (f : A → List B) (xs : List A)
    → AllByRecursion (Cuts p q f) xs
    → slice_split q (flat_map f xs) ≡ map (flat_map f) (slice_split p xs)
cut_alike p q f [] cuts = refl
cut_alike p q f (x ∷ xs) cuts = choose (p x) refl (cut_alike p q f xs cuts.1)
  where
    choose : (b : Bool) → p x ≡ b
        → slice_split q (flat_map f xs) ≡ map (flat_map f) (slice_split p xs)
        → slice_split q (f x ++ flat_map f xs) ≡ map (flat_map f) (slice_split p (x ∷ xs))
    choose true is rest =
        let one = cuts.0.there is in
        ap (λ ys. slice_split q (ys ++ flat_map f xs)) one.1
        ∙ slice_split-cons_yes q one.0 (flat_map f xs) one.2 ∙ ap (λ parts. [] ∷ parts) rest
        ∙ sym (ap (map (flat_map f)) (slice_split-cons_yes p x xs is))
    choose false is rest =
        not_cut q (f x) (flat_map f xs) (cuts.0.elsewhere is) ∙ ap (put (f x)) rest
        ∙ sym (in_first f x (slice_split p xs))
        ∙ sym (ap (map (flat_map f)) (slice_split-cons_no p x xs is))

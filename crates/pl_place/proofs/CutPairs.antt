-- Pairs in a row, and the row cut again.
use Rattle.std.proofs.Common.{◌≡◌, ◌∙◌, ◌+◌, ◌<◌, ℕ, ◌==◌, All, Bool, false, List, [], ◌∷◌, ◌++◌, ap, append-nil}
use Rattle.std.proofs.Common.{append_assoc, get_or, length, map}
use Rattle.std.proofs.Common.{refl, sym, take}
use Rattle.std.specs.List.{AllByRecursion as ByRecursion, join_by, join_with_byte, slice_split}
use Rattle.std.proofs.lemmas.List.Splits.{slice_split_at, slice_split_none}
use Rattle.std.proofs.lemmas.List.{map-append, take_more}
use Rattle.pl_place.specs.declared.key.Key.{Key}
use Rattle.pl_place.specs.Canonical.{for_each, pair}

pub joined : {S : Type 0} (view : S → List ℕ) (texts : List S)
    → join_by view (38 ∷ []) texts ≡ join_with_byte 38 (map view texts)
joined view [] = refl
joined view (x ∷ []) = append-nil (view x)
joined view (x ∷ y ∷ texts) = ap (λ more. view x ++ 38 ∷ more) (joined view (y ∷ texts))

-- ---- one more value of a list

appended : (k : Key) (texts : List (List ℕ)) (text : List ℕ) (before now new : List (List ℕ))
    → now ≡ before ++ for_each k texts → new ≡ now ++ pair k text ∷ [] → new ≡ before ++ for_each k (texts ++ text ∷ [])
appended k texts text before now new so_far pushed =
    pushed ∙ ap (λ x. x ++ pair k text ∷ []) so_far ∙ append_assoc before (for_each k texts) (pair k text ∷ [])
    ∙ ap (λ x. before ++ x) (sym (map-append (pair k) texts (text ∷ [])))

pub one_more_text : (k : Key) (xs : List (List ℕ)) (i : ℕ) (d : List ℕ) (before now new : List (List ℕ))
    → i < length xs → now ≡ before ++ for_each k (take i xs) → new ≡ now ++ pair k (get_or xs i d) ∷ []
    → new ≡ before ++ for_each k (take (i + 1) xs)
one_more_text k xs i d before now new within so_far pushed =
    appended k (take i xs) (get_or xs i d) before now new so_far pushed
    ∙ ap (λ x. before ++ for_each k x) (sym (take_more xs i d within))

-- the same of values that have texts
pub one_more : {A : Type 0} (k : Key) (text : A → List ℕ) (xs : List A) (i : ℕ) (d : A) (before now new : List (List ℕ))
    → i < length xs → now ≡ before ++ for_each k (map text (take i xs))
    → new ≡ now ++ pair k (text (get_or xs i d)) ∷ [] → new ≡ before ++ for_each k (map text (take (i + 1) xs))
one_more k text xs i d before now new within so_far pushed =
    appended k (map text (take i xs)) (text (get_or xs i d)) before now new so_far pushed
    ∙ ap (λ x. before ++ for_each k x)
    (sym (ap (map text) (take_more xs i d within) ∙ map-append text (take i xs) (get_or xs i d ∷ [])))

-- ---- cut again

-- a byte at which pairs are cut
abbrev pub is_and : ℕ → Bool
is_and b = b == 38

-- no byte of the text is one
abbrev pub HasNoAnd : List ℕ → Type 0
HasNoAnd text = All (λ b. is_and b ≡ false) text

-- pairs in a row are cut where they were joined
pub cut_again : (x : List ℕ) (texts : List (List ℕ)) → ByRecursion HasNoAnd (x ∷ texts)
    → slice_split is_and (join_with_byte 38 (x ∷ texts)) ≡ x ∷ texts
cut_again x [] none = slice_split_none is_and x none.0
cut_again x (y ∷ texts) none =
    slice_split_at is_and x 38 (join_with_byte 38 (y ∷ texts)) none.0 refl
    ∙ ap (λ more. x ∷ more) (cut_again y texts none.1)

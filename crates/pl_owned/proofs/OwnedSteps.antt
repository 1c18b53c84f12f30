-- A member is put into the list of its owner.
use Rattle.std.proofs.Common.{◌≡◌, ◌∙◌, ◌<◌, ◌∷◌, [], ◌++◌, ℕ, List, ap}
use Rattle.std.proofs.Common.{get_or, length, map, set, sym}
use Rattle.std.proofs.lemmas.List.{get_or-map, map-set}
use Rattle.pl_base.specs.declared.id.Slot.{Slot}

-- a slot is put behind one of the lists
pub one_added : {V : Type 0} (items : V → List Slot) (xs : List V) (i : ℕ) (u v : V) (slot : Slot) → i < length xs
    → u ≡ get_or xs i u → items v ≡ items u ++ slot ∷ []
    → map items (set xs i v) ≡ set (map items xs) i (get_or (map items xs) i [] ++ slot ∷ [])
one_added items xs i u v slot within is pushed =
    map-set items xs i v
    ∙ ap (set (map items xs) i) (pushed ∙ ap (λ l. l ++ slot ∷ [])
    (ap items is ∙ sym (get_or-map items xs i u [] within)))

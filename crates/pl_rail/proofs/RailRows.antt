-- Worked rows of rails: the slots 3 and 5 of an owner, 4 put in front of them, and 3 taken out.
use Rattle.std.proofs.Common.{◌≡◌, ◌==◌, ◌∷◌, [], ap, arith, cond, List, None, Option, refl, Some, ℕ}
use Rattle.pl_base.specs.declared.id.Slot.{Slot}
use Rattle.pl_rail.specs.Rails.{AreLinked, none}

abbrev slot : ℕ → Slot
slot n = record { 0 = n }

-- links, by the slot that has each and the one that it names
abbrev by : List (ℕ × ℕ) → Slot → Option Slot
by [] asked = None
by (link ∷ links) asked = cond (link.0 == asked.0) (Some (slot link.1)) (by links asked)

two : AreLinked (by ((0, 3) ∷ (3, 5) ∷ (5, 0) ∷ [])) (by ((0, 5) ∷ (5, 3) ∷ (3, 0) ∷ [])) none
    (slot 3 ∷ slot 5 ∷ none ∷ [])
two = (refl, refl, (refl, refl, (refl, refl, tt)))

four_in_front : AreLinked (by ((0, 4) ∷ (4, 3) ∷ (3, 5) ∷ (5, 0) ∷ [])) (by ((0, 5) ∷ (5, 3) ∷ (3, 4) ∷ (4, 0) ∷ []))
    none (slot 4 ∷ slot 3 ∷ slot 5 ∷ none ∷ [])
four_in_front = (refl, refl, (refl, refl, (refl, refl, (refl, refl, tt))))

without_three : AreLinked (by ((0, 4) ∷ (3, 0) ∷ (4, 5) ∷ (5, 0) ∷ [])) (by ((0, 5) ∷ (5, 4) ∷ (3, 0) ∷ (4, 0) ∷ []))
    none (slot 4 ∷ slot 5 ∷ none ∷ [])
without_three = (refl, refl, (refl, refl, (refl, refl, tt)))

-- an owner with no member
no_member : AreLinked (by ((0, 0) ∷ [])) (by ((0, 0) ∷ [])) none (none ∷ [])
no_member = (refl, refl, tt)

abbrev number : Option Slot → ℕ
number None = 0
number (Some found) = found.0

-- 5 says that 4 is before it, and is named by 3
wrong_before : AreLinked (by ((0, 3) ∷ (3, 5) ∷ (5, 0) ∷ [])) (by ((0, 5) ∷ (5, 4) ∷ (3, 0) ∷ [])) none
    (slot 3 ∷ slot 5 ∷ none ∷ []) → ⊥
wrong_before linked =
    let same : 4 ≡ 3 = ap number linked.2.1 in
    absurd (omega (arith, same))

-- What the maps of slots find: the slot of a row that is there.
use Rattle.std.proofs.Common.{◌≡◌, ◌∙◌, ◌==◌, ℕ, List, Option, Some, None, ap, find, map, refl, sym}
use Rattle.std.specs.Option.{option_map}
use Rattle.pl_base.specs.declared.id.Slot.{Slot}
use Rattle.pl_base.proofs.ListLaws.{find-map}
use Rattle.pl_record.specs.LinkedRows.{Entries, slot_at}

-- a row that is found, and its slot
pub record Found {X : Type 0} (at : X → Slot) (found : Option X) (slot : Slot) : Type 0 where
  pub row : X
  pub there : found ≡ Some row
  pub here : at row ≡ slot

module _ {X : Type 0} (key : X → ℕ) (at : X → Slot) (xs : List X) (entries : Entries)
    (are : entries ≡ map (λ x. (key x, at x)) xs) (id : ℕ) where
  slot_is : slot_at entries id ≡ option_map at (find (λ x. key x == id) xs)
  slot_is =
      ap (λ (es : Entries). slot_at es id) are
      ∙ ap (option_map (λ (e : ℕ × Slot). e.1)) (find-map (λ (e : ℕ × Slot). e.0 == id) (λ x. (key x, at x)) xs)
      ∙ second (find (λ x. key x == id) xs)
    where
      second : (o : Option X) → option_map (λ (e : ℕ × Slot). e.1) (option_map (λ x. (key x, at x)) o) ≡ option_map at o
      second None = refl
      second (Some x) = refl

  pub finds : (slot : Slot) → slot_at entries id ≡ Some slot → Found at (find (λ x. key x == id) xs) slot
  finds slot some = choose (find (λ x. key x == id) xs) refl (sym slot_is ∙ some)
    where
      choose : (o : Option X) → find (λ x. key x == id) xs ≡ o → option_map at o ≡ Some slot
          → Found at (find (λ x. key x == id) xs) slot
      choose None is some = absurd (cc)
      choose (Some x) is some =
          let here : at x ≡ slot = cc in
          record { row = x; there = is; here = here }

  pub finds_none : slot_at entries id ≡ None → find (λ x. key x == id) xs ≡ None
  finds_none none = choose (find (λ x. key x == id) xs) refl (sym slot_is ∙ none)
    where
      choose : (o : Option X) → find (λ x. key x == id) xs ≡ o → option_map at o ≡ None
          → find (λ x. key x == id) xs ≡ None
      choose None is none = is
      choose (Some x) is none = absurd (cc)

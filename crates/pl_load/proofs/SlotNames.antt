-- Slots that name rows are the same exactly where the rows' ids are.
use Rattle.std.proofs.Common.{◌≡◌, ◌∙◌, ◌==◌, ℕ, Option, Some, None, ap, eq-eqb, eqb-true, false, sym}
use Rattle.pl_base.specs.declared.id.Slot.{Slot}
use Rattle.pl_base.proofs.IdsLaws.{same_slot}
use Rattle.pl_base.proofs.Truths.{no_test, same_tests}
use Rattle.pl_rail.specs.Rails.{none}

module _ {Id : Type 0} (number : Id → ℕ) (one : (a b : Id) → number a ≡ number b → a ≡ b) (slot_of : Id → Slot)
    (held : Slot → Option Id) (empty : held none ≡ None) where
  -- the slot of an id says it
  abbrev pub Says : Id → Type 0
  Says id = held (slot_of id) ≡ Some id

  pub same_id : (a b : Id) → Says a → Says b → slot_of a ≡ slot_of b → a ≡ b
  same_id a b says_a says_b same =
      let both : Some a ≡ Some b = sym says_a ∙ ap held same ∙ says_b in
      cc

  pub same_owner : (a b : Id) → Says a → Says b → ((slot_of a).0 == (slot_of b).0) ≡ (number a == number b)
  same_owner a b says_a says_b =
      same_tests ((slot_of a).0 == (slot_of b).0) (number a == number b)
      (λ same.
      eq-eqb (number a) (number b)
      (ap number (same_id a b says_a says_b
      (same_slot (slot_of a) (slot_of b) (eqb-true (slot_of a).0 (slot_of b).0 same)))))
      (λ same.
      eq-eqb (slot_of a).0 (slot_of b).0
      (ap (λ (id : Id). (slot_of id).0) (one a b (eqb-true (number a) (number b) same))))

  -- slot 0 is that of none
  pub no_owner : (b : Id) → Says b → (0 == (slot_of b).0) ≡ false
  no_owner b says =
      no_test (0 == (slot_of b).0)
      (λ zero.
      let here : none ≡ slot_of b = same_slot none (slot_of b) (eqb-true 0 (slot_of b).0 zero) in
      let nothing : None ≡ Some b = sym empty ∙ ap held here ∙ says in
      absurd (cc))

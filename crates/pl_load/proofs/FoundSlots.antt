-- Slots that say ids: the slot that an id gives is the one that says it.
use Rattle.std.proofs.Common.{◌≡◌, ◌∙◌, List, Option, Some, None, ap, sym, true}
use Rattle.std.specs.List.{AllByRecursion, AllZip}
use Rattle.pl_base.specs.declared.id.Slot.{Slot}
use Rattle.pl_load.proofs.MetSlots.{in_holds}
use Rattle.pl_load.proofs.Zips.{firsts, seconds, zip_both}
use Rattle.pl_reading.specs.Read.{Names}
use Rattle.pl_record.specs.Records.{slot_or_none}
use Rattle.pl_rail.specs.Rails.{is_in}

module _ {Row Id : Type 0} (says : Slot → Option Id) (id_of : Row → Id) (slot_of : Id → Slot) (slots : List Slot)
    (rows : List Row)
    (told : AllZip (λ (s : Slot) (r : Row). says s ≡ Some (id_of r)) slots rows)
    (own : AllZip (λ (s : Slot) (r : Row). slot_of (id_of r) ≡ s) slots rows) where
  -- the slot of each row says its id
  pub own_said : AllByRecursion (λ (r : Row). says (slot_of (id_of r)) ≡ Some (id_of r)) rows
  own_said =
      seconds (λ (s : Slot) (r : Row). says (slot_of (id_of r)) ≡ Some (id_of r))
      (λ (r : Row). says (slot_of (id_of r)) ≡ Some (id_of r)) slots rows (λ s r said. said)
      (zip_both (λ (s : Slot) (r : Row). says s ≡ Some (id_of r)) (λ (s : Slot) (r : Row). slot_of (id_of r) ≡ s)
      (λ (s : Slot) (r : Row). says (slot_of (id_of r)) ≡ Some (id_of r)) slots rows
      (λ s r said is. ap says is ∙ said) told own)

  -- a slot among these that says an id is the one that the id gives
  pub said_found : (slot : Slot) (id : Id) → is_in slot slots ≡ true → says slot ≡ Some id → slot_of id ≡ slot
  said_found slot id within =
      in_holds (λ (s : Slot). (j : Id) → says s ≡ Some j → slot_of j ≡ s) slot slots
      (firsts (λ (s : Slot) (r : Row). (j : Id) → says s ≡ Some j → slot_of j ≡ s)
      (λ (s : Slot). (j : Id) → says s ≡ Some j → slot_of j ≡ s) slots rows (λ s r found. found)
      (zip_both (λ (s : Slot) (r : Row). says s ≡ Some (id_of r)) (λ (s : Slot) (r : Row). slot_of (id_of r) ≡ s)
      (λ (s : Slot) (r : Row). (j : Id) → says s ≡ Some j → slot_of j ≡ s) slots rows
      (λ s r said is j also.
      let both : Some (id_of r) ≡ Some j = sym said ∙ also in
      let same : id_of r ≡ j = cc in
      ap slot_of (sym same) ∙ is)
      told own)) within id

-- so is a slot that names something, or none
pub names_found : {Id : Type 0} (says : Slot → Option Id) (slot_of : Id → Slot)
    → ((slot : Slot) (id : Id) → says slot ≡ Some id → slot_of id ≡ slot) → (slot : Slot) (named : Option Id)
    → Names says slot named → slot_or_none slot_of named ≡ slot
names_found says slot_of found slot None names = sym names
names_found says slot_of found slot (Some id) names = found slot id names

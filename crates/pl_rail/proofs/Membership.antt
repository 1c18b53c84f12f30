-- A slot of a list, what stands in front of it and behind, and that it is a member.
use Rattle.std.proofs.Common.{◌≡◌, ◌==◌, ◌∷◌, [], ◌++◌, List, ap, eqb-true, inl, inr, subst, sym, true}
use Rattle.std.proofs.lemmas.Bool.{or_cases, true≢false}
use Rattle.pl_base.specs.declared.id.Slot.{Slot}
use Rattle.pl_rail.specs.declared.owner.Owner.{Owner}
use Rattle.pl_rail.specs.Rails.{HasMember, Lists, is_in}
use Rattle.pl_rail.proofs.SideLaws.{numbered}
use Rattle.pl_sheets.specs.Sheets.{Pages}
use Rattle.pl_slot.specs.declared.links.Rail.{Rail}

pub record Parts (slot : Slot) (slots : List Slot) : Type 0 where
  pub front : List Slot
  pub back : List Slot
  pub whole : front ++ slot ∷ back ≡ slots

pub parts_of : (slot : Slot) (slots : List Slot) → is_in slot slots ≡ true → Parts slot slots
parts_of slot [] among = absurd (true≢false (sym among))
parts_of slot (x ∷ slots) among = elim (or_cases (x.0 == slot.0) (is_in slot slots) among) [
  | inl here ↦
      let same : x ≡ slot = ap numbered (eqb-true x.0 slot.0 here) in
      record { front = []; back = slots; whole = ap (λ k. k ∷ slots) (sym same) }
  | inr there ↦
      let parts = parts_of slot slots there in
      record { front = x ∷ parts.front; back = parts.back; whole = ap (λ l. x ∷ l) parts.whole }
]

pub member_listed : (rail : Rail) (owner : Owner) (slot : Slot) (slots : List Slot) (pages : Pages)
    → Lists rail owner slots pages → is_in slot slots ≡ true → HasMember rail owner slot pages
member_listed rail owner slot slots pages lists among =
    let parts = parts_of slot slots among in
    record {
      front = parts.front;
      back = parts.back;
      lists = subst (λ l. Lists rail owner l pages) (sym parts.whole) lists;
    }

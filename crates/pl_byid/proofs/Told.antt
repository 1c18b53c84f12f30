-- What a run tells stays right when a row comes, gets another slot or goes.
use Rattle.std.proofs.Common.{◌≡◌, ◌≢◌, ◌∙◌, ◌==◌, ℕ, Bool, false, true, None, Option, Some, ap, if◌then◌else◌}
use Rattle.std.proofs.Common.{eq-eqb, inl, inr, refl, subst, sym}
use Rattle.std.specs.BTreeMap.{BTreeMap, Updates}
use Rattle.std.specs.Option.{IfSome}
use Rattle.std.specs.Ordering.{nat_cmp}
use Rattle.std.proofs.lemmas.Bool.{cases_eq, ne_eqb}
use Rattle.std.proofs.lemmas.Option.{IfSome_then}
use Rattle.pl_base.specs.declared.id.Slot.{Slot}
use Rattle.pl_byid.specs.declared.run.Run.{Run}
use Rattle.pl_byid.specs.Runs.{IsRight, KnowsNoMore, SetsOne, place_of, told, unknown}
use Rattle.pl_record.specs.LinkedRows.{Entries, slot_at}
use Rattle.pl_record.proofs.SlotsById.{looked_up, same_key}

-- ---- the map

module _ (m n : BTreeMap ℕ Slot) (id : ℕ) (slot : Option Slot) (changed : Updates nat_cmp m n id slot) where
  pub others : (other : ℕ) → other ≢ id → slot_at n.entries other ≡ slot_at m.entries other
  others other apart =
      sym (looked_up n.entries other) ∙ changed.2 other (same_key id other ∙ ne_eqb other id apart)
      ∙ looked_up m.entries other

  pub here : slot_at n.entries id ≡ slot
  here = sym (looked_up n.entries id) ∙ changed.1

-- ---- the run

-- 0 is told of no id
none_told : (run : Run) (id : ℕ) → IfSome (told run id) (λ slot. slot ≡ unknown) → told run id ≡ None
none_told run id is = choose (place_of run id) ((place_of run id).0 == 0) refl is
  where
    choose : (s : Slot) (b : Bool) → (s.0 == 0) ≡ b
        → IfSome (if b then None else Some s) (λ slot. slot ≡ unknown) → (if b then None else Some s) ≡ None
    choose s true zero is = refl
    choose s false some is = absurd (let zero : s.0 ≡ 0 = ap (λ (t : Slot). t.0) is in let both = sym some ∙ eq-eqb s.0 0 zero in cc)

pub still_right : (es : Entries) (old new : Run) → KnowsNoMore old new → IsRight es old → IsRight es new
still_right es old new known right id =
    IfSome_then (told new id) (known id)
    (λ slot was. subst (λ (o : Option Slot). IfSome o (λ s. slot_at es id ≡ Some s)) was (right id))

module _ (es fs : Entries) (old new : Run) (id : ℕ)
    (others : (other : ℕ) → other ≢ id → slot_at fs other ≡ slot_at es other) (right : IsRight es old) where
  elsewhere : (slot : Slot) → SetsOne id slot old new → (other : ℕ) → other ≢ id
      → IfSome (told new other) (λ s. slot_at fs other ≡ Some s)
  elsewhere slot one other apart =
      subst (λ (o : Option Slot). IfSome o (λ s. slot_at fs other ≡ Some s)) (sym (one.others other apart))
      (subst (λ (o : Option Slot). IfSome (told old other) (λ s. o ≡ Some s)) (sym (others other apart)) (right other))

  -- where the row with this id has this slot from then on
  pub set_right : (slot : Slot) → slot_at fs id ≡ Some slot → SetsOne id slot old new → IsRight fs new
  set_right slot is one other = elim (cases_eq other id) [
    | inl same ↦
        subst (λ (i : ℕ). IfSome (told new i) (λ s. slot_at fs i ≡ Some s)) (sym same)
        (IfSome_then (told new id) one.here (λ s alike. is ∙ ap Some (sym alike)))
    | inr apart ↦ elsewhere slot one other apart
  ]

  -- and where it has none
  pub removed_right : SetsOne id unknown old new → IsRight fs new
  removed_right one other = elim (cases_eq other id) [
    | inl same ↦
        subst (λ (i : ℕ). IfSome (told new i) (λ s. slot_at fs i ≡ Some s)) (sym same)
        (subst (λ (o : Option Slot). IfSome o (λ s. slot_at fs id ≡ Some s)) (sym (none_told new id one.here)) tt)
    | inr apart ↦ elsewhere unknown one other apart
  ]

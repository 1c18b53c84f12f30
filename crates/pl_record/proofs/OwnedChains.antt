-- Maps of chains in which an owner has another chain, and those without a slot of an owner: the
-- chains that they have.
use Rattle.std.proofs.Common.{◌≡◌, ◌∙◌, ◌==◌, ◌&&◌, Bool, List, ap, eqb-true, false, if◌then◌else◌, refl, sym, true}
use Rattle.pl_base.specs.declared.id.Slot.{Slot}
use Rattle.pl_base.proofs.IdsLaws.{same_slot}
use Rattle.pl_record.specs.ChainMap.{AreApart, ChainMap, is_owner, with_chain}
use Rattle.pl_record.specs.ItemChanges.{without_owned}
use Rattle.pl_record.specs.VisitChanges.{without_member, without_slot}
use Rattle.pl_record.proofs.ChainMaps.{apart_beside, chain_beside, chain_here}
use Rattle.pl_rail.specs.declared.owner.Owner.{Owner}
use Rattle.pl_rail.specs.declared.owner.Owner.TheVariants.{At}
use Rattle.pl_rail.proofs.SideLaws.{rail_itself}
use Rattle.pl_slot.specs.declared.links.Rail.{Rail}
use Rattle.pl_slot.specs.Links.{is_rail}

module _ (rail : Rail) (owner : Slot) (slots : List Slot) (chains : ChainMap) where
  -- a map in which an owner has another chain, or the map itself, has the chains of other rails
  -- that it had
  pub owner_beside : (none : Bool) (r : Rail) (o : Owner) → is_rail r rail ≡ false
      → (if none then chains else with_chain rail (At owner) slots chains) r o ≡ chains r o
  owner_beside true r o other = refl
  owner_beside false r o other =
      chain_beside rail (At owner) slots chains r o (ap (λ b. b && is_owner o (At owner)) other)

  pub owner_apart : (none : Bool) (r : Rail) → is_rail r rail ≡ false → AreApart r chains
      → AreApart r (if none then chains else with_chain rail (At owner) slots chains)
  owner_apart true r other apart = apart
  owner_apart false r other apart = apart_beside rail (At owner) slots chains r other apart

module _ (rail : Rail) (owner slot : Slot) (chains : ChainMap) where
  abbrev cut : List Slot
  cut = without_slot slot (chains rail (At owner))

  -- a map without a slot of an owner has the chains of other rails that it had
  pub owned_beside : (r : Rail) (o : Owner) → is_rail r rail ≡ false
      → without_owned rail owner slot chains r o ≡ chains r o
  owned_beside = owner_beside rail owner cut chains (owner.0 == 0)

  pub owned_apart : (r : Rail) → is_rail r rail ≡ false → AreApart r chains
      → AreApart r (without_owned rail owner slot chains)
  owned_apart = owner_apart rail owner cut chains (owner.0 == 0)

  -- the chain of an owner in the rail
  pub owned_chain : (x : Slot) (after : List Slot) → ((owner.0 == 0) ≡ true → chains rail (At x) ≡ after)
      → ((x.0 == owner.0) ≡ false → chains rail (At x) ≡ after)
      → ((x.0 == owner.0) ≡ true → without_slot slot (chains rail (At x)) ≡ after)
      → without_owned rail owner slot chains rail (At x) ≡ after
  owned_chain x after nothing beside here = choose (owner.0 == 0) refl
    where
      by_slot : (b : Bool) → (x.0 == owner.0) ≡ b → with_chain rail (At owner) cut chains rail (At x) ≡ after
      by_slot true is =
          let same : x ≡ owner = same_slot x owner (eqb-true x.0 owner.0 is) in
          ap (λ (s : Slot). with_chain rail (At owner) cut chains rail (At s)) same
          ∙ chain_here rail (At owner) cut chains
          ∙ ap (λ (s : Slot). without_slot slot (chains rail (At s))) (sym same) ∙ here is
      by_slot false differs =
          chain_beside rail (At owner) cut chains rail (At x) (λ i. rail_itself rail i && differs i) ∙ beside differs

      choose : (b : Bool) → (owner.0 == 0) ≡ b
          → (if b then chains else without_member rail (At owner) slot chains) rail (At x) ≡ after
      choose true is = nothing is
      choose false is = by_slot (x.0 == owner.0) refl

-- The slot of a visit that comes among the targets of its source.
use Rattle.std.proofs.Common.{◌≡◌, ◌≢◌, ◌∙◌, ◌==◌, ◌∷◌, ◌++◌, [], ℕ, List, None, Option, Some, ap, arith, cond, eq-eqb}
use Rattle.std.proofs.Common.{false, IfSome, IsSome, inl, inr, refl, subst, sym, true}
use Rattle.std.proofs.lemmas.Bool.{cases_Bool, true≢false}
use Rattle.std.proofs.lemmas.Option.{same_Some}
use Rattle.pl_base.specs.declared.id.Slot.{Slot}
use Rattle.pl_record.specs.ChainMap.{AreApart, AreChains, ChainMap, IsLoose, with_chain}
use Rattle.pl_record.specs.Chains.{IsAlone}
use Rattle.pl_record.specs.declared.rows.Visit.{Visit}
use Rattle.pl_record.specs.VisitChanges.{IsTargetPlace, PutsTarget, put_target, with_target_slot}
use Rattle.pl_record.proofs.ChainMaps.{inserted_chains}
use Rattle.pl_record.proofs.ChainMapsKept.{alone_rail}
use Rattle.pl_record.proofs.RecordMaps.{rail_records}
use Rattle.pl_record.proofs.RowKinds.{link_there}
use Rattle.pl_record.proofs.SlotSteps.{rail_body}
use Rattle.pl_rail.specs.declared.owner.Owner.{Owner}
use Rattle.pl_rail.specs.declared.owner.Owner.TheVariants.{At}
use Rattle.pl_rail.specs.declared.owner.Side.TheVariants.{Before, Behind}
use Rattle.pl_rail.specs.Rails.{ChangesAround, KeepsBeside, KeepsOwners, KeepsRails, KeepsRest, Lists, end_at, last_of}
use Rattle.pl_rail.specs.Rails.{first_of, named, or_none, page_by}
use Rattle.pl_sheets.specs.Sheets.{Pages}
use Rattle.pl_slot.specs.declared.kind.SlotKind.TheVariants as kinds
use Rattle.pl_slot.specs.declared.links.Link.TheVariants.{First}
use Rattle.pl_slot.specs.declared.links.Rail.{Rail}
use Rattle.pl_slot.specs.declared.links.Rail.TheVariants.{Targets}
use Rattle.pl_slot.specs.Links.{is_rail, kind_at}
use Rattle.pl_slot.proofs.LinkPlaces.{same_rail}

-- ---- a slot comes into a chain

pub record Inserts (rail : Rail) (owner : Owner) (after : Option Slot) (slot : Slot) (old new : Pages) : Type 0 where
  pub list : (front back : List Slot) → Lists rail owner (front ++ back) old → last_of front ≡ after
      → Lists rail owner (front ++ slot ∷ back) new
  pub owners : (slots : List Slot) → Lists rail owner slots old → KeepsOwners rail owner slots old new
  pub others : KeepsRails rail old new
  pub rest : KeepsRest rail owner old new
  pub beside : (slots : List Slot) → Lists rail owner slots old → KeepsBeside rail slot slots old new
  pub pages : (front back : List Slot) → Lists rail owner (front ++ back) old → last_of front ≡ after
      → ChangesAround owner front slot back old new

-- the pages that change where it does
abbrev pub pages_around : Owner → List Slot → Slot → List Slot → List ℕ
pages_around owner front slot back =
    page_by owner (or_none (last_of front)) ∷ page_by owner slot ∷ page_by owner (or_none (first_of back)) ∷ []

-- ---- the slot that is named

pub record IsNamed (slot other : Slot) : Type 0 where
  pub same : slot ≡ other
  pub some : (slot.0 == 0) ≡ false

pub is_named : (slot other : Slot) → named slot ≡ Some other → IsNamed slot other
is_named slot other is = elim (cases_Bool (slot.0 == 0)) [
  | inl zero_is ↦
      let never : None ≡ Some other = sym (ap (λ b. cond b None (Some slot)) zero_is) ∙ is in
      absurd (cc)
  | inr some ↦
      record {
        same = same_Some slot other (sym (ap (λ b. cond b None (Some slot)) some) ∙ is);
        some = some;
      }
]

pub source_kind : (slot source : Slot) (pages : Pages) → named slot ≡ Some source
    → IfSome (named slot) (λ s. kind_at s.0 pages ≡ Some kinds.Visit) → kind_at source.0 pages ≡ Some kinds.Visit
source_kind slot source pages is known = subst (λ o. IfSome o (λ s. kind_at s.0 pages ≡ Some kinds.Visit)) is known

-- ---- with a source

pub targets_there : (source : Slot) (pages : Pages) → kind_at source.0 pages ≡ Some kinds.Visit
    → IsSome (end_at Behind Targets (At source) pages)
targets_there source pages is = link_there Targets First source.0 kinds.Visit 40 pages is refl

module _ (v : Visit) (source slot : Slot) (after : Option Slot) (old new : Pages) (from : IsNamed v.source source)
    (is : kind_at source.0 old ≡ Some kinds.Visit) (inserts : Inserts Targets (At source) after slot old new)
    (place : (targets : List Slot) → Lists Targets (At source) targets old → IsTargetPlace v.transition after targets)
  where
    place_in : (chains : ChainMap) → AreChains chains old
        → IsTargetPlace v.transition after (chains Targets (At source))
    place_in chains are =
        place (chains Targets (At source)) (are.lists Targets (At source) (targets_there source old is))

    with_it : (chains : ChainMap)
        → with_target_slot v slot chains
        ≡ with_chain Targets (At source) (put_target v.transition slot (chains Targets (At source))) chains
    with_it chains i =
        cond (from.some i) chains
        (with_chain Targets (At (from.same i)) (put_target v.transition slot (chains Targets (At (from.same i))))
        chains)

    put_chains : (chains : ChainMap) → AreChains chains old → AreApart Targets chains
        → AreChains (with_target_slot v slot chains) new
    put_chains chains are apart =
        let p = place_in chains are in
        subst (λ c. AreChains c new)
        (sym (with_it chains ∙ ap (λ l. with_chain Targets (At source) l chains) (p.placed slot)))
        (inserted_chains Targets (At source) slot p.front p.back chains apart p.is after old new are
        (targets_there source old is) p.last inserts.list inserts.owners inserts.others inserts.rest)

    put_alone : (chains : ChainMap) → AreChains chains old → (rail : Rail) (other : Slot)
        → (is_rail rail Targets ≡ true → (other ≢ slot) × IsLoose Targets other chains) → IsAlone rail other old
        → IsAlone rail other new
    put_alone chains are rail other apart alone = elim (cases_Bool (is_rail rail Targets)) [
      | inl same ↦
          let parts = apart same in
          let beside =
          inserts.beside (chains Targets (At source))
          (are.lists Targets (At source) (targets_there source old is)) in
          let here : rail ≡ Targets = same_rail rail Targets same in
          let was : IsAlone Targets other old = subst (λ r. IsAlone r other old) here alone in
          subst (λ r. IsAlone r other new) (sym here)
          (record {
            before = beside Before other parts.0 (parts.1 (At source)) ∙ was.before;
            behind = beside Behind other parts.0 (parts.1 (At source)) ∙ was.behind;
          })
      | inr differ ↦ alone_rail Targets (At source) old new rail other inserts.rest differ alone
    ]

    pub puts_target : (known : ChainMap) → AreChains known old → PutsTarget v slot old new
    puts_target known were =
        let p = place_in known were in
        record {
          records = rail_records Targets (At source) old new inserts.rest;
          chains = put_chains;
          alone = put_alone;
          own = λ zero_is _. absurd (true≢false (sym (eq-eqb v.source.0 0 zero_is) ∙ from.some));
          count = inserts.rest.count;
          body = rail_body Targets (At source) old new inserts.rest;
          as_many = inserts.rest.as_many;
          these = pages_around (At source) p.front slot p.back;
          few = omega arith;
          pages =
              inserts.pages p.front p.back
              (subst (λ l. Lists Targets (At source) l old) p.is
              (were.lists Targets (At source) (targets_there source old is))) p.last;
        }

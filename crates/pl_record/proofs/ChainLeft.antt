-- A slot leaves the chain of its owner, if it has one.
use Rattle.std.proofs.Common.{◌≡◌, ◌≢◌, ◌∙◌, ◌∷◌, ◌++◌, List, ap, cond, false, inl, inr, refl, subst, sym, true, []}
use Rattle.std.proofs.lemmas.Bool.{cases_Bool, ne_eqb}
use Rattle.pl_base.specs.declared.id.Slot.{Slot}
use Rattle.pl_record.specs.ChainMap.{AreApart, AreChains, ChainMap, IsLoose}
use Rattle.pl_record.specs.Chains.{IsAlone}
use Rattle.pl_record.specs.ItemChanges.{LeavesOwner, without_owned}
use Rattle.pl_record.specs.VisitChanges.{Leaves, without_member}
use Rattle.pl_record.proofs.ChainMaps.{unlinked_apart}
use Rattle.pl_record.proofs.ChainMapsKept.{alone_rail}
use Rattle.pl_record.proofs.RecordMaps.{rail_records}
use Rattle.pl_record.proofs.VisitFreed.{around, around_only, its_list, left_chains, left_loose, same_map}
use Rattle.pl_rail.specs.declared.owner.Owner.TheVariants.{At}
use Rattle.pl_rail.specs.declared.owner.Side.TheVariants.{Before, Behind}
use Rattle.pl_rail.specs.Rails.{HasMember, Lists, is_in}
use Rattle.pl_rail.proofs.ListLaws.{one_list}
use Rattle.pl_sheets.specs.Sheets.{Pages}
use Rattle.pl_slot.specs.declared.links.Rail.{Rail}
use Rattle.pl_slot.specs.Links.{is_rail}
use Rattle.pl_slot.proofs.LinkPlaces.{same_rail}

module _ (rail : Rail) (owner slot : Slot) (old new : Pages) (some : owner.0 ≢ 0)
    (leaves : Leaves rail (At owner) slot old new) (has : HasMember rail (At owner) slot old) where
  same_left : (chains : ChainMap) → without_member rail (At owner) slot chains ≡ without_owned rail owner slot chains
  same_left chains =
      ap (λ b. cond b chains (without_member rail (At owner) slot chains)) (sym (ne_eqb owner.0 0 some))

  left_apart : (chains : ChainMap) → AreChains chains old → AreApart rail chains
      → AreApart rail (without_owned rail owner slot chains)
  left_apart chains are apart =
      subst (λ c. AreApart rail c)
      (same_map rail (At owner) slot old new leaves has chains are apart ∙ same_left chains)
      (unlinked_apart rail (At owner) slot has.front has.back chains apart
      (its_list rail (At owner) slot old new leaves has chains are apart))

  filled : (front back : List Slot) → [] ≡ front ++ slot ∷ back → ⊥
  filled [] back is = absurd (cc)
  filled (x ∷ xs) back is = absurd (cc)

  other_owner : Lists rail (At slot) [] old → At slot ≢ At owner
  other_owner lists is =
      filled has.front has.back
      (one_list rail (At slot) [] (has.front ++ slot ∷ has.back) old lists
      (subst (λ o. Lists rail o (has.front ++ slot ∷ has.back) old) (sym is) has.lists))

  left_alone : (r : Rail) (other : Slot) → (is_rail r rail ≡ true → other ≢ slot)
      → (is_rail r rail ≡ true → owner.0 ≢ 0 → (slots : List Slot) → Lists rail (At owner) slots old
      → is_in other slots ≡ false)
      → IsAlone r other old → IsAlone r other new
  left_alone r other apart never alone = elim (cases_Bool (is_rail r rail)) [
    | inl same ↦
        let is : r ≡ rail = same_rail r rail same in
        let was : IsAlone rail other old = subst (λ k. IsAlone k other old) is alone in
        let beside = never same some (has.front ++ slot ∷ has.back) has.lists in
        let kept = leaves.beside (has.front ++ slot ∷ has.back) has.lists in
        subst (λ k. IsAlone k other new) (sym is)
        (record {
          before = kept Before other (apart same) beside ∙ was.before;
          behind = kept Behind other (apart same) beside ∙ was.behind;
        })
    | inr differ ↦ alone_rail rail (At owner) old new r other leaves.rest differ alone
  ]

  pub leaves_owner : LeavesOwner rail owner slot old new
  leaves_owner =
      record {
        records = rail_records rail (At owner) old new leaves.rest;
        kinds = leaves.rest.kinds;
        chains = λ chains are apart.
            subst (λ c. AreChains c new) (same_left chains)
            (left_chains rail (At owner) slot old new leaves has chains are apart);
        apart = left_apart;
        loose = λ chains are apart loose.
            subst (λ c. IsLoose rail slot c) (same_left chains)
            (left_loose rail (At owner) slot old new leaves has chains are apart);
        empty = λ lists.
            leaves.owners (has.front ++ slot ∷ has.back) has.lists (At slot) [] (other_owner lists) refl lists;
        others = leaves.others;
        alone = left_alone;
        count = leaves.rest.count;
        header = leaves.rest.header;
        as_many = leaves.rest.as_many;
        these = around rail (At owner) slot old new leaves has;
        pages = around_only rail (At owner) slot old new leaves has;
      }

-- The slot of an item that comes behind all items of its page.
use Rattle.std.proofs.Common.{◌≡◌, ◌≢◌, ◌∙◌, ◌∷◌, ◌++◌, [], IfSome, IsSome, List, Option, Some, cond, eq-eqb}
use Rattle.std.proofs.Common.{false, inl, inr, refl, subst, sym, true}
use Rattle.std.proofs.lemmas.Bool.{cases_Bool, true≢false}
use Rattle.std.proofs.lemmas.List.{append-nil}
use Rattle.pl_base.specs.declared.id.Slot.{Slot}
use Rattle.pl_record.specs.ChainMap.{AreApart, AreChains, ChainMap, with_chain}
use Rattle.pl_record.specs.Chains.{IsAlone}
use Rattle.pl_record.specs.declared.rows.Item.{Item}
use Rattle.pl_record.specs.ItemChanges.{PutsReference, with_reference_slot}
use Rattle.pl_record.proofs.ChainMaps.{inserted_chains}
use Rattle.pl_record.proofs.ChainMapsKept.{alone_rail}
use Rattle.pl_record.proofs.RecordMaps.{rail_records}
use Rattle.pl_record.proofs.RowKinds.{link_there}
use Rattle.pl_record.proofs.SlotSteps.{rail_body}
use Rattle.pl_record.proofs.TargetPut.{Inserts, IsNamed, pages_around}
use Rattle.pl_rail.specs.declared.owner.Owner.{Owner}
use Rattle.pl_rail.specs.declared.owner.Owner.TheVariants.{At}
use Rattle.pl_rail.specs.declared.owner.Side.TheVariants.{Before, Behind}
use Rattle.pl_rail.specs.Rails.{Lists, end_at, is_in, last_of, named}
use Rattle.pl_sheets.specs.Sheets.{Pages}
use Rattle.pl_slot.specs.declared.kind.SlotKind.TheVariants as kinds
use Rattle.pl_slot.specs.declared.links.Link.TheVariants.{First}
use Rattle.pl_slot.specs.declared.links.Rail.{Rail}
use Rattle.pl_slot.specs.declared.links.Rail.TheVariants.{References}
use Rattle.pl_slot.specs.Links.{is_rail, kind_at}
use Rattle.pl_slot.proofs.LinkPlaces.{same_rail}

-- a slot that is another than the one that came, and was in no chain of the rail, still stands
-- alone
pub alone_inserted : (rail : Rail) (owner : Owner) (after : Option Slot) (slot : Slot) (slots : List Slot)
    (old new : Pages) → Inserts rail owner after slot old new → Lists rail owner slots old → (r : Rail) (other : Slot)
    → (is_rail r rail ≡ true → (other ≢ slot) × (is_in other slots ≡ false)) → IsAlone r other old
    → IsAlone r other new
alone_inserted rail owner after slot slots old new inserts lists r other apart alone =
    elim (cases_Bool (is_rail r rail)) [
      | inl same ↦
          let parts = apart same in
          let beside = inserts.beside slots lists in
          let here : r ≡ rail = same_rail r rail same in
          let was : IsAlone rail other old = subst (λ k. IsAlone k other old) here alone in
          subst (λ k. IsAlone k other new) (sym here)
          (record {
            before = beside Before other parts.0 parts.1 ∙ was.before;
            behind = beside Behind other parts.0 parts.1 ∙ was.behind;
          })
      | inr differ ↦ alone_rail rail owner old new r other inserts.rest differ alone
    ]

pub page_kind : (slot page : Slot) (pages : Pages) → named slot ≡ Some page
    → IfSome (named slot) (λ s. kind_at s.0 pages ≡ Some kinds.Place) → kind_at page.0 pages ≡ Some kinds.Place
page_kind slot page pages is known = subst (λ o. IfSome o (λ s. kind_at s.0 pages ≡ Some kinds.Place)) is known

pub items_there : (page : Slot) (pages : Pages) → kind_at page.0 pages ≡ Some kinds.Place
    → IsSome (end_at Behind References (At page) pages)
items_there page pages is = link_there References First page.0 kinds.Place 36 pages is refl

module _ (i : Item) (page slot : Slot) (after : Option Slot) (old new : Pages) (of_page : IsNamed i.page page)
    (is : kind_at page.0 old ≡ Some kinds.Place) (inserts : Inserts References (At page) after slot old new)
    (place : (items : List Slot) → Lists References (At page) items old → after ≡ last_of items) where
  items_in : (chains : ChainMap) → AreChains chains old → Lists References (At page) (chains References (At page)) old
  items_in chains are = are.lists References (At page) (items_there page old is)

  with_it : (chains : ChainMap)
      → with_reference_slot i slot chains
      ≡ with_chain References (At page) (chains References (At page) ++ slot ∷ []) chains
  with_it chains k =
      cond (of_page.some k) chains
      (with_chain References (At (of_page.same k)) (chains References (At (of_page.same k)) ++ slot ∷ []) chains)

  put_chains : (chains : ChainMap) → AreChains chains old → AreApart References chains
      → AreChains (with_reference_slot i slot chains) new
  put_chains chains are apart =
      let items : List Slot = chains References (At page) in
      subst (λ c. AreChains c new) (sym (with_it chains))
      (inserted_chains References (At page) slot items [] chains apart (sym (append-nil items)) after old new are
      (items_there page old is) (sym (place items (items_in chains are))) inserts.list inserts.owners inserts.others
      inserts.rest)

  pub puts_reference : (known : ChainMap) → AreChains known old → PutsReference i slot old new
  puts_reference known were =
      let items : List Slot = known References (At page) in
      record {
        records = rail_records References (At page) old new inserts.rest;
        chains = put_chains;
        alone = λ chains are rail other apart alone.
            alone_inserted References (At page) after slot (chains References (At page)) old new inserts
            (items_in chains are) rail other (λ same. ((apart same).0, (apart same).1 (At page))) alone;
        own = λ zero_is _. absurd (true≢false (sym (eq-eqb i.page.0 0 zero_is) ∙ of_page.some));
        count = inserts.rest.count;
        body = rail_body References (At page) old new inserts.rest;
        as_many = inserts.rest.as_many;
        these = pages_around (At page) items slot [];
        pages =
            inserts.pages items []
            (subst (λ l. Lists References (At page) l old) (sym (append-nil items)) (items_in known were))
            (sym (place items (items_in known were)));
      }

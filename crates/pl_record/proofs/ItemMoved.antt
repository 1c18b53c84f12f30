-- The slot of an item that moves: it leaves its parent, and comes among the children of another, or
-- of the same.
use Rattle.std.proofs.Common.{◌≡◌, ◌≢◌, ◌∙◌, ◌==◌, ◌||◌, ◌∷◌, ◌++◌, ℕ, Bool, IfSome, IsSome, List, None, Option}
use Rattle.std.proofs.Common.{Some, ap, arith, cond, eqb-true, false, inl, inr, not, refl, subst, sym, true, []}
use Rattle.std.specs.Option.{option_map}
use Rattle.std.proofs.lemmas.Bool.{cases_Bool, ne_eqb, or_cases, or_parts, or_right, true≢false}
use Rattle.pl_base.specs.declared.id.Slot.{Slot}
use Rattle.pl_record.specs.ChainMap.{AreApart, AreChains, ChainMap, IsLoose, with_chain}
use Rattle.pl_record.specs.Chains.{IsAlone}
use Rattle.pl_record.specs.declared.rows.Item.{Item}
use Rattle.pl_record.specs.ItemChanges.{LeavesOwner, MovesItem, put_behind, with_moved_slot, without_child_slot}
use Rattle.pl_record.specs.Rows.{SetsRow, with_parent}
use Rattle.pl_record.specs.VisitChanges.{without_member, without_slot}
use Rattle.pl_record.proofs.Bases.{both_only}
use Rattle.pl_record.proofs.ChainMaps.{has_place, inserted_chains, loose_everywhere, loose_with, one_chain}
use Rattle.pl_record.proofs.ChainMapsKept.{alone_rail, same_links_chains}
use Rattle.pl_record.proofs.ChainsKept.{same_header}
use Rattle.pl_record.proofs.OneChains.{map_once}
use Rattle.pl_record.proofs.RecordMaps.{rail_records, record_of, set_records}
use Rattle.pl_record.proofs.RowKinds.{link_there}
use Rattle.pl_record.proofs.TargetPut.{Inserts, pages_around}
use Rattle.pl_record.proofs.TargetsDropped.{by_header}
use Rattle.pl_rail.specs.declared.owner.Owner.{Owner}
use Rattle.pl_rail.specs.declared.owner.Owner.TheVariants.{At}
use Rattle.pl_rail.specs.declared.owner.Side.TheVariants.{Before, Behind}
use Rattle.pl_rail.specs.Rails.{HasMember, HasPlace, Lists, end_at, is_in, last_of}
use Rattle.pl_rail.proofs.ListLaws.{in_front}
use Rattle.pl_rail.proofs.SideLaws.{numbered}
use Rattle.pl_sheets.specs.Sheets.{Pages}
use Rattle.pl_slot.specs.declared.kind.SlotKind.TheVariants as kinds
use Rattle.pl_slot.specs.declared.links.Link.TheVariants.{First, Next, Previous}
use Rattle.pl_slot.specs.declared.links.Rail.{Rail}
use Rattle.pl_slot.specs.declared.links.Rail.TheVariants.{Children, References}
use Rattle.pl_slot.specs.declared.row.SlotRow.{SlotRow}
use Rattle.pl_slot.specs.declared.row.SlotRow.TheVariants as rows
use Rattle.pl_slot.specs.Arena.{ChangesOnly, IsArena, header_of, slot_page}
use Rattle.pl_slot.specs.Header.{Header as Head}
use Rattle.pl_slot.specs.Links.{is_rail, kind_at}
use Rattle.pl_slot.proofs.LinkPlaces.{same_rail}

-- ---- a place in a list, behind a member or in front

pub record IsPlaceBehind (after : Option Slot) (slot : Slot) (slots : List Slot) : Type 0 where
  pub front : List Slot
  pub back : List Slot
  pub is : slots ≡ front ++ back
  pub last : last_of front ≡ after
  pub placed : put_behind after slot slots ≡ front ++ slot ∷ back

last_more : (x : Slot) (xs : List Slot) (s : Slot) → last_of xs ≡ Some s → last_of (x ∷ xs) ≡ Some s
last_more x [] s is = absurd (cc)
last_more x (y ∷ ys) s is = is

pub place_behind : (s slot : Slot) (slots : List Slot) → is_in s slots ≡ true → IsPlaceBehind (Some s) slot slots
place_behind s slot [] among = absurd (true≢false (sym among))
place_behind s slot (x ∷ xs) among = elim (cases_Bool (x.0 == s.0)) [
  | inl here ↦
      record {
        front = x ∷ [];
        back = xs;
        is = refl;
        last = ap (λ n. Some (numbered n)) (eqb-true x.0 s.0 here);
        placed = ap (λ b. cond b (x ∷ slot ∷ xs) (x ∷ put_behind (Some s) slot xs)) here;
      }
  | inr other ↦
      let rest = place_behind s slot xs (sym (ap (λ b. b || is_in s xs) other) ∙ among) in
      record {
        front = x ∷ rest.front;
        back = rest.back;
        is = ap (λ l. x ∷ l) rest.is;
        last = last_more x rest.front s rest.last;
        placed =
            ap (λ b. cond b (x ∷ slot ∷ xs) (x ∷ put_behind (Some s) slot xs)) other
            ∙ ap (λ l. x ∷ l) rest.placed;
      }
]

-- the place of a member, or the one in front of all
place_at : (after : Option Slot) (slot : Slot) (slots : List Slot) → IfSome after (λ s. is_in s slots ≡ true)
    → IsPlaceBehind after slot slots
place_at None slot slots among = record { front = []; back = slots; is = refl; last = refl; placed = refl }
place_at (Some s) slot slots among = place_behind s slot slots among

-- ---- a list without a member

module _ (slot s : Slot) where
  abbrev rest_by : Slot → List Slot → Bool → List Slot
  rest_by x xs b = cond (not b) (x ∷ without_slot slot xs) (without_slot slot xs)

  -- others are still in it
  still_in : (xs : List Slot) → s ≢ slot → is_in s xs ≡ true → is_in s (without_slot slot xs) ≡ true
  still_in [] other among = absurd (true≢false (sym among))
  still_in (x ∷ xs) other among = elim (cases_Bool (x.0 == slot.0)) [
    | inl gone ↦
        let beside : (x.0 == s.0) ≡ false =
        ne_eqb x.0 s.0 (λ same. other (ap numbered (sym same ∙ eqb-true x.0 slot.0 gone))) in
        ap (λ b. is_in s (rest_by x xs b)) gone
        ∙ still_in xs other (sym (ap (λ b. b || is_in s xs) beside) ∙ among)
    | inr kept ↦
        ap (λ b. is_in s (rest_by x xs b)) kept
        ∙ elim (or_cases (x.0 == s.0) (is_in s xs) among) [
          | inl here ↦ ap (λ b. b || is_in s (without_slot slot xs)) here
          | inr further ↦ or_right (x.0 == s.0) (is_in s (without_slot slot xs)) (still_in xs other further)
        ]
  ]

  -- none is in it that was not
  still_out : (xs : List Slot) → is_in s xs ≡ false → is_in s (without_slot slot xs) ≡ false
  still_out [] never = never
  still_out (x ∷ xs) never =
      let parts = or_parts (x.0 == s.0) (is_in s xs) never in
      either (x.0 == slot.0) parts.0 (still_out xs parts.1)
    where
      either : (b : Bool) → (x.0 == s.0) ≡ false → is_in s (without_slot slot xs) ≡ false
          → is_in s (rest_by x xs b) ≡ false
      either true here rest = rest
      either false here rest = ap (λ b. b || is_in s (without_slot slot xs)) here ∙ rest

-- ---- the row with another parent

parent_record : (parent : Slot) (o : Option SlotRow)
    → record_of (option_map (with_parent parent) o) ≡ option_map (with_parent parent) (record_of o)
parent_record parent None = refl
parent_record parent (Some (rows.Free next)) = refl
parent_record parent (Some (rows.Origin a b c d e)) = refl
parent_record parent (Some (rows.Place a b c d e f g h i j k l m n o p q r)) = refl
parent_record parent (Some (rows.Visit a b c d e f g h i j k l m)) = refl
parent_record parent (Some (rows.Item a b c d e f g h i j k l m n o p)) = refl
parent_record parent (Some (rows.Text a b c)) = refl

-- ---- the item that moves

abbrev pub IsBehind : Option Slot → Slot → Slot → Pages → Type 0
IsBehind after slot parent pages = IfSome after (λ s. (s ≢ slot) × HasMember Children (At parent) s pages)

children_there : (parent : Slot) (pages : Pages) → kind_at parent.0 pages ≡ Some kinds.Item
    → IsSome (end_at Behind Children (At parent) pages)
children_there parent pages is = link_there Children First parent.0 kinds.Item 28 pages is refl

module _ (i : Item) (slot parent : Slot) (after : Option Slot) (old : Pages)
    (item : kind_at parent.0 old ≡ Some kinds.Item) (behind : IsBehind after slot parent old) (left : Pages)
    (leaves : LeavesOwner Children i.parent slot old left) where
  there : IsSome (end_at Behind Children (At parent) left)
  there = children_there parent left (leaves.kinds parent.0 ∙ item)

  module _ (chains : ChainMap) (are : AreChains chains old) (apart : AreApart Children chains)
      (no_parent : i.parent.0 ≡ 0 → IsLoose Children slot chains) where
    abbrev without : ChainMap
    without = without_child_slot i slot chains

    without_are : AreChains without left
    without_are = leaves.chains chains are apart

    without_apart : AreApart Children without
    without_apart = leaves.apart chains are apart

    -- a member of the chain is so without the slot, if it is another one
    member_left : (s : Slot) → s ≢ slot → HasMember Children (At parent) s old
        → is_in s (without Children (At parent)) ≡ true
    member_left s other has = choose (i.parent.0 == 0)
      where
        among : is_in s (chains Children (At parent)) ≡ true
        among =
            ap (is_in s) (sym (one_chain chains old are Children (At parent) (has.front ++ s ∷ has.back) has.lists))
            ∙ in_front s has.front has.back

        of_owner : (b : Bool) → (parent.0 == i.parent.0) ≡ b
            → is_in s (cond b (without_slot slot (chains Children (At i.parent))) (chains Children (At parent))) ≡ true
        of_owner true same =
            still_in slot s (chains Children (At i.parent)) other
            (ap (λ n. is_in s (chains Children (At (numbered n)))) (sym (eqb-true parent.0 i.parent.0 same)) ∙ among)
        of_owner false same = among

        choose : (b : Bool)
            → is_in s (cond b chains (without_member Children (At i.parent) slot chains) Children (At parent)) ≡ true
        choose true = among
        choose false = of_owner (parent.0 == i.parent.0) refl

    pub place : IsPlaceBehind after slot (without Children (At parent))
    place = place_at after slot (without Children (At parent)) (choose after behind)
      where
        choose : (a : Option Slot) → IsBehind a slot parent old
            → IfSome a (λ s. is_in s (without Children (At parent)) ≡ true)
        choose None is = tt
        choose (Some s) is = member_left s is.0 is.1

    pub place_left : HasPlace Children (At parent) after left
    place_left =
        has_place without left without_are Children (At parent) place.front place.back after there place.is place.last

    pub free_left : (o : Owner) (slots : List Slot) → Lists Children o slots left → is_in slot slots ≡ false
    free_left =
        loose_everywhere without left without_are Children slot (leaves.loose chains are apart no_parent)

    -- a slot that is in no chain is in none without this one
    loose_left : (s : Slot) → IsLoose Children s chains → IsLoose Children s without
    loose_left s loose = choose (i.parent.0 == 0)
      where
        choose : (b : Bool) → IsLoose Children s (cond b chains (without_member Children (At i.parent) slot chains))
        choose true = loose
        choose false =
            loose_with Children (At i.parent) (without_slot slot (chains Children (At i.parent))) chains Children s
            loose (λ _. still_out slot s (chains Children (At i.parent)) (loose (At i.parent)))

    module _ (out new : Pages) (inserts : Inserts Children (At parent) after slot left out)
        (sets : SetsRow slot (with_parent parent) out new) where
      moved_chains : AreChains (with_moved_slot i slot parent after chains) new
      moved_chains =
          same_links_chains (with_moved_slot i slot parent after chains) out new
          (subst (λ l. AreChains (with_chain Children (At parent) l without) out) (sym place.placed)
          (inserted_chains Children (At parent) slot place.front place.back without without_apart place.is after left
          out without_are there place.last inserts.list inserts.owners inserts.others inserts.rest))
          sets.kinds sets.links (same_header out new sets.header)

      abbrev pages_then : List ℕ
      pages_then = pages_around (At parent) place.front slot place.back ++ slot_page slot.0 ∷ []

      moved_pages : ChangesOnly (leaves.these ++ pages_then) old new
      moved_pages =
          both_only leaves.these pages_then old left new (omega (arith, leaves.as_many)) leaves.pages
          (both_only (pages_around (At parent) place.front slot place.back) (slot_page slot.0 ∷ []) left out new
          (omega (arith, inserts.rest.as_many))
          (inserts.pages place.front place.back
          (subst (λ l. Lists Children (At parent) l left) place.is
          (without_are.lists Children (At parent) there)) place.last) sets.pages)

      -- a slot that stands alone, and is no child, still does
      moved_alone : (r : Rail) (other : Slot) → other ≢ slot
          → (is_rail r Children ≡ true → IsLoose Children other chains) → IsAlone r other old → IsAlone r other new
      moved_alone r other differs loose alone =
          set_alone (elim (cases_Bool (is_rail r Children)) [
            | inl same ↦
                let is : r ≡ Children = same_rail r Children same in
                let was : IsAlone Children other left = subst (λ k. IsAlone k other left) is first in
                let kept =
                inserts.beside (without Children (At parent)) (without_are.lists Children (At parent) there) in
                let beside = loose_left other (loose same) (At parent) in
                subst (λ k. IsAlone k other out) (sym is)
                (record {
                  before = kept Before other differs beside ∙ was.before;
                  behind = kept Behind other differs beside ∙ was.behind;
                })
            | inr apart_rail ↦ alone_rail Children (At parent) left out r other inserts.rest apart_rail first
          ])
        where
          first : IsAlone r other left
          first =
              leaves.alone r other (λ _. differs)
              (λ same some slots lists.
              ap (is_in other) (one_chain chains old are Children (At i.parent) slots lists)
              ∙ loose same (At i.parent)) alone

          set_alone : IsAlone r other out → IsAlone r other new
          set_alone is =
              record {
                before = sets.links r Previous other.0 ∙ is.before;
                behind = sets.links r Next other.0 ∙ is.behind;
              }

  module _ (known : ChainMap) (were : AreChains known old) (were_apart : AreApart Children known)
      (no_parent : i.parent.0 ≡ 0 → (chains : ChainMap) → AreChains chains old → IsLoose Children slot chains)
      (out new : Pages) (inserts : Inserts Children (At parent) after slot left out)
      (sets : SetsRow slot (with_parent parent) out new) where
    own_alone : IsAlone References slot old → IsAlone References slot new
    own_alone alone =
        let first =
        leaves.alone References slot (λ same. absurd (true≢false (sym same)))
        (λ same. absurd (true≢false (sym same))) alone in
        let is = alone_rail Children (At parent) left out References slot inserts.rest refl first in
        record {
          before = sets.links References Previous slot.0 ∙ is.before;
          behind = sets.links References Next slot.0 ∙ is.behind;
        }

    apart_by : (chains : ChainMap) → AreChains chains old → AreApart Children chains
    apart_by chains are =
        subst (λ c. AreApart Children c)
        (λ j. (map_once old (known, were) (chains, are) j).0) were_apart

    header_then : header_of new ≡ header_of old
    header_then = sets.header ∙ inserts.rest.header ∙ leaves.header

    pub moves_item : IsArena old → MovesItem i slot parent after old new
    moves_item arena =
        record {
          records = λ n.
              set_records slot (with_parent parent) out new sets (parent_record parent) n
              ∙ ap (λ o. cond (n == slot.0) (option_map (with_parent parent) o) o)
              (rail_records Children (At parent) left out inserts.rest n ∙ leaves.records n);
          chains = λ chains are apart none. moved_chains chains are apart none out new inserts sets;
          alone = λ chains are r other differs not_live no_child no_item alone.
              moved_alone chains are (apart_by chains are) (λ zero_is. no_parent zero_is chains are) out new inserts
              sets r other differs no_child alone;
          own = own_alone;
          count = sets.count ∙ inserts.rest.count ∙ leaves.count;
          body = by_header old new header_then;
          as_many = sym sets.arena.told ∙ ap (λ (h : Head). h.pages) header_then ∙ arena.told;
          these =
              leaves.these
              ++ pages_then known were were_apart (λ zero_is. no_parent zero_is known were) out new inserts sets;
          pages =
              moved_pages known were were_apart (λ zero_is. no_parent zero_is known were) out new inserts sets;
        }

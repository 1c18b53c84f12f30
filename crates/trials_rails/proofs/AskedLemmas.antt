-- What was asked before a call on rails holds.
use Rattle.std.proofs.Common.{◌≡◌, ◌≢◌, ◌∙◌, ◌∷◌, [], ◌++◌, ℕ, List, ap, append_assoc}
use Rattle.std.proofs.Common.{inl, inr, IsSome, is_some, None, Option, refl, Some, subst, sym, true}
use Rattle.std.specs.Option.{option_and_then, option_map}
use Rattle.std.proofs.lemmas.Bool.{cases_Bool}
use Rattle.std.proofs.lemmas.Option.{same_Some}
use Rattle.pl_base.specs.declared.id.Slot.{Slot}
use Rattle.pl_rail.specs.declared.owner.Owner.{Owner}
use Rattle.pl_rail.specs.declared.owner.Side.{Side}
use Rattle.pl_rail.specs.declared.owner.Side.TheVariants.{Before, Behind}
use Rattle.pl_rail.specs.Rails.{HasPlace, Lists, is_in, is_member, last_from, none, side_link}
use Rattle.pl_rail.proofs.ChainLaws.{stands}
use Rattle.pl_rail.proofs.Membership.{parts_of}
use Rattle.pl_rail.proofs.ListLaws.{before_in, behind_in, member_link, member_some}
use Rattle.pl_rail.proofs.SideLaws.{at_link, numbered, other_number}
use Rattle.pl_rail.proofs.Walks.{last_of_added}
use Rattle.pl_sheets.specs.Sheets.{Pages}
use Rattle.pl_slot.specs.declared.links.Link.{Link}
use Rattle.pl_slot.specs.declared.links.Link.TheVariants.{First, Next, Previous}
use Rattle.pl_slot.specs.declared.links.Rail.{Rail}
use Rattle.pl_slot.specs.declared.row.SlotRow.{SlotRow}
use Rattle.pl_slot.specs.Arena.{row_at}
use Rattle.pl_slot.specs.Links.{ends_at, link_at, link_in}
use Rattle.pl_slot.specs.Slot.{slot_bytes, slot_kind}
use Rattle.pl_slot.specs.SlotReading.{slot_in}
use Rattle.trials_rails.specs.Asked.{HasFront, MayCome}

-- ---- owners and members have their links

end_place : (row : SlotRow) (place : Option ℕ) → is_some place ≡ true
    → is_some (option_map (λ n. slot_in n (slot_bytes row)) place) ≡ true
end_place row None is = is
end_place row (Some n) is = refl

pub end_named : (rail : Rail) (n : ℕ) (pages : Pages) (row : SlotRow) → row_at n pages ≡ Some row
    → IsSome (ends_at rail (slot_kind row)) → IsSome (link_at rail First n pages)
unfolding link_at
end_named rail n pages row row_is some =
    ap (λ r. is_some (option_and_then (link_in rail First) r)) row_is
    ∙ end_place row (ends_at rail (slot_kind row)) some

pub side_named : (rail : Rail) (owner : Owner) (side : Side) (link : Link) (pages : Pages) (slot : Slot)
    → link ≡ side_link side → is_member rail owner pages slot ≡ true → IsSome (link_at rail link slot.0 pages)
side_named rail owner side link pages slot same member =
    subst (λ l. IsSome (link_at rail l slot.0 pages)) (sym same) (member_link rail owner side pages slot member)

-- ---- places in lists

pub front_to : (slot : Slot) (slots : List Slot) → is_in slot slots ≡ true → HasFront (Some slot) slots
front_to slot slots among =
    let parts = parts_of slot slots among in
    record {
      front = parts.front ++ slot ∷ [];
      back = parts.back;
      whole = append_assoc parts.front (slot ∷ []) parts.back ∙ parts.whole;
      last = last_of_added parts.front slot;
    }

pub no_front : (slots : List Slot) → HasFront None slots
no_front slots = record { front = []; back = slots; whole = refl; last = refl }

pub place_of : (rail : Rail) (owner : Owner) (after : Option Slot) (slots : List Slot) (pages : Pages)
    → Lists rail owner slots pages → HasFront after slots → HasPlace rail owner after pages
place_of rail owner after slots pages lists has =
    record {
      front = has.front;
      back = has.back;
      lists = subst (λ l. Lists rail owner l pages) (sym has.whole) lists;
      last = has.last;
    }

-- ---- a slot that names itself as the one before it, and none behind, is in no list

never_in : (rail : Rail) (slot : Slot) (pages : Pages) → slot ≢ none → link_at rail Previous slot.0 pages ≡ Some slot
    → link_at rail Next slot.0 pages ≡ Some none → (o : Owner) (slots : List Slot) → Lists rail o slots pages
    → is_in slot slots ≡ true → ⊥
never_in rail slot pages some previous next o slots lists among =
    let parts = parts_of slot slots among in
    let stood =
    stands rail o parts.front slot parts.back pages (subst (λ l. Lists rail o l pages) (sym parts.whole) lists) in
    let zero_not = other_number slot none some in
    let back : before_in rail o pages slot ≡ Some slot = at_link Before rail o pages slot zero_not ∙ previous in
    let forth : behind_in rail o pages slot ≡ Some none = at_link Behind rail o pages slot zero_not ∙ next in
    let same : last_from none parts.front ≡ slot =
    same_Some (last_from none parts.front) slot (sym stood.forth_back ∙ back) in
    some (same_Some slot none (sym (ap (behind_in rail o pages) (sym same) ∙ stood.forth) ∙ forth))

pub apart : (rail : Rail) (owner : Owner) (slot before behind : Slot) (pages : Pages)
    → is_member rail owner pages slot ≡ true → link_at rail Previous slot.0 pages ≡ Some before
    → link_at rail Next slot.0 pages ≡ Some behind → before.0 ≡ slot.0 → behind.0 ≡ 0
    → MayCome rail owner slot pages
apart rail owner slot before behind pages member previous next itself none_is =
    let some : slot ≢ none = member_some rail owner pages slot member in
    let back : link_at rail Previous slot.0 pages ≡ Some slot = previous ∙ ap (λ n. Some (numbered n)) itself in
    let forth : link_at rail Next slot.0 pages ≡ Some none = next ∙ ap (λ n. Some (numbered n)) none_is in
    record {
      member = member;
      free = λ o slots lists. elim (cases_Bool (is_in slot slots)) [
        | inl among ↦ absurd (never_in rail slot pages some back forth o slots lists among)
        | inr never ↦ never
      ];
    }

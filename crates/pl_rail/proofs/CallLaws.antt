-- What the calls of rails ask of each other.
use Rattle.std.proofs.Common.{◌≡◌, ◌≢◌, ◌∙◌, ◌==◌, ◌++◌, ◌∷◌, ap, eq-eqb, eqb-true, false, IsSome, is_some, List, Option, refl, Some, subst, sym, true}
use Rattle.std.proofs.Common.{None, if◌then◌else◌, []}
use Rattle.std.proofs.lemmas.Bool.{ne_eqb, true≢false}
use Rattle.std.proofs.lemmas.Option.{same_Some}
use Rattle.pl_base.specs.declared.id.Slot.{Slot}
use Rattle.pl_rail.specs.declared.owner.Owner.{Owner}
use Rattle.pl_rail.specs.declared.owner.Owner.TheVariants as owners
use Rattle.pl_rail.specs.declared.owner.Side.{Side}
use Rattle.pl_rail.specs.declared.owner.Side.TheVariants.{Before, Behind}
use Rattle.pl_rail.specs.Rails.{HasMember, HasPlace, Joins, Lists, SetsSide, end_at, first_of, is_in, is_member}
use Rattle.pl_rail.specs.Rails.{end_in, end_link, last_from, last_of, named, neighbour, none, or_none, side_link, with_end}
use Rattle.pl_rail.proofs.ChainLaws.{around, place_around, place_links, stands}
use Rattle.pl_rail.proofs.ListLaws.{all_last, before_in, behind_in, differs_in, first_behind, first_differs, last_differs, last_is}
use Rattle.pl_rail.proofs.ListLaws.{member_link, member_some, members_some, named_first}
use Rattle.pl_rail.proofs.Rings.{Differ, Ends, Named, differ_parts}
use Rattle.pl_rail.proofs.SideLaws.{at_end, at_link, end_by_header, end_by_link, numbered, one_side, other_number, side_by_link}
use Rattle.pl_sheets.specs.Sheets.{Pages, page_count}
use Rattle.pl_slot.specs.declared.kind.LiveKind.{LiveKind}
use Rattle.pl_slot.specs.declared.links.Link.{Link}
use Rattle.pl_slot.specs.declared.links.Link.TheVariants.{Next}
use Rattle.pl_slot.specs.declared.links.Rail.{Rail}
use Rattle.pl_slot.specs.declared.links.Rail.TheVariants.{Live}
use Rattle.pl_slot.specs.Arena.{SetsHeader, header_of}
use Rattle.pl_slot.specs.Header.{ends_of}
use Rattle.pl_slot.specs.Links.{SetsLink, link_at}

-- ---- readers

pub first_told : (rail : Rail) (owner : Owner) (pages : Pages) (slot : Slot) (slots : List Slot)
    → end_at Behind rail owner pages ≡ Some slot → Lists rail owner slots pages → named slot ≡ first_of slots
first_told rail owner pages slot slots read lists =
    named_first slots slot (members_some rail owner pages slots lists.members)
    (same_Some slot (or_none (first_of slots))
    (sym read ∙ first_behind (behind_in rail owner pages) (before_in rail owner pages) none slots lists.linked))

-- the last slot of a chain names its owner
last_before : (f b : Named) (a : Slot) (xs : List Slot) → Ends f b a xs → b none ≡ Some (last_from a xs)
last_before f b a [] linked = linked.1
last_before f b a (x ∷ xs) linked = last_before f b x xs linked.2

named_last : (xs : List Slot) (slot : Slot) → Differ none xs → slot ≡ or_none (last_of xs) → named slot ≡ last_of xs
named_last [] slot some same = ap named same
named_last (x ∷ xs) slot some same =
    ap named same
    ∙ ap (λ b. if b then None else Some (last_from x xs))
    (ne_eqb (last_from x xs).0 0 (λ zero_is. last_differs none x xs some.0 some.1 (ap numbered zero_is)))

pub last_told : (rail : Rail) (owner : Owner) (pages : Pages) (slot : Slot) (slots : List Slot)
    → end_at Before rail owner pages ≡ Some slot → Lists rail owner slots pages → named slot ≡ last_of slots
last_told rail owner pages slot slots read lists =
    named_last slots slot (members_some rail owner pages slots lists.members)
    (same_Some slot (last_from none slots)
    (sym read ∙ last_before (behind_in rail owner pages) (before_in rail owner pages) none slots lists.linked)
    ∙ sym (last_is slots))

pub next_told : (rail : Rail) (owner : Owner) (pages : Pages) (slot next : Slot) (front back : List Slot)
    → link_at rail Next slot.0 pages ≡ Some next → Lists rail owner (front ++ slot ∷ back) pages
    → named next ≡ first_of back
next_told rail owner pages slot next front back read lists =
    let stood = stands rail owner front slot back pages lists in
    let there : neighbour Behind rail owner pages slot ≡ link_at rail Next slot.0 pages =
    at_link Behind rail owner pages slot (other_number slot none stood.some) in
    named_first back next (members_some rail owner pages back (all_last (is_member rail owner pages) front slot back lists.members))
    (same_Some next (or_none (first_of back)) (sym read ∙ sym there ∙ stood.goes_on))

-- a neighbour that is named is there
pub is_named : (o : Option Slot) (slot : Slot) → o ≡ Some slot → IsSome o
is_named o slot is = ap is_some is

-- ---- a member goes

-- what holds of a member and the slots around it
pub record MayGo (rail : Rail) (owner : Owner) (slot before behind : Slot) (pages : Pages) : Type 0 where
  pub forth : neighbour Behind rail owner pages before ≡ Some slot
  pub back : neighbour Before rail owner pages behind ≡ Some slot
  pub apart_before : slot ≢ before
  pub apart_behind : slot ≢ behind
  pub some : slot ≢ none

pub may_go : (rail : Rail) (owner : Owner) (slot before behind : Slot) (pages : Pages) → HasMember rail owner slot pages
    → neighbour Before rail owner pages slot ≡ Some before → neighbour Behind rail owner pages slot ≡ Some behind
    → MayGo rail owner slot before behind pages
may_go rail owner slot before behind pages has read_before read_behind =
    let stood = stands rail owner has.front slot has.back pages has.lists in
    let are =
    around (behind_in rail owner pages) (before_in rail owner pages) has.front slot has.back before behind stood read_before
    read_behind in
    let none_not : none ≢ slot = λ same. stood.some (sym same) in
    record {
      forth = ap (behind_in rail owner pages) (sym are.0) ∙ stood.forth;
      back = ap (before_in rail owner pages) (sym are.1) ∙ stood.goes_back;
      apart_before = λ same.
          last_differs slot none has.front none_not stood.front_differs (are.0 ∙ sym same);
      apart_behind = λ same.
          first_differs slot has.back none_not stood.back_differs (are.1 ∙ sym same);
      some = stood.some;
    }

pub member_read : (rail : Rail) (owner : Owner) (slot : Slot) (pages : Pages) → HasMember rail owner slot pages
    → IsSome (neighbour Before rail owner pages slot) × IsSome (neighbour Behind rail owner pages slot)
member_read rail owner slot pages has =
    let stood = stands rail owner has.front slot has.back pages has.lists in
    (ap is_some stood.forth_back, ap is_some stood.goes_on)

-- its links are still there when its neighbours are joined
pub still_read : (rail : Rail) (owner : Owner) (slot before behind : Slot) (old new : Pages)
    → MayGo rail owner slot before behind old → Joins rail owner before behind old new
    → neighbour Before rail owner old slot ≡ Some before → neighbour Behind rail owner old slot ≡ Some behind
    → IsSome (neighbour Before rail owner new slot) × IsSome (neighbour Behind rail owner new slot)
still_read rail owner slot before behind old new may joins read_before read_behind = (
  ap is_some (joins.before slot may.apart_behind ∙ read_before),
  ap is_some (joins.behind slot may.apart_before ∙ read_behind),
)

pub cleared : (rail : Rail) (owner : Owner) (slot : Slot) (side : Side) (pages : Pages) → slot ≢ none
    → neighbour side rail owner pages slot ≡ Some none → link_at rail (side_link side) slot.0 pages ≡ Some none
cleared rail owner slot side pages some is = sym (at_link side rail owner pages slot (other_number slot none some)) ∙ is

-- ---- a member comes

-- what holds of a slot that may come behind another
pub record MayCome (rail : Rail) (owner : Owner) (before slot behind : Slot) (pages : Pages) : Type 0 where
  pub back : neighbour Before rail owner pages behind ≡ Some before
  pub apart_before : slot ≢ before
  pub apart_behind : behind ≢ slot
  pub some : slot ≢ none

pub place_read : (rail : Rail) (owner : Owner) (after : Option Slot) (pages : Pages) → HasPlace rail owner after pages
    → IsSome (neighbour Behind rail owner pages (or_none after))
place_read rail owner after pages has =
    let links = place_links rail owner has.front has.back pages has.lists in
    ap is_some
    (ap (behind_in rail owner pages) (sym (sym (last_is has.front) ∙ ap or_none has.last)) ∙ links)

pub member_there : (rail : Rail) (owner : Owner) (side : Side) (slot : Slot) (pages : Pages)
    → is_member rail owner pages slot ≡ true → IsSome (neighbour side rail owner pages slot)
member_there rail owner side slot pages member =
    ap is_some (at_link side rail owner pages slot (other_number slot none (member_some rail owner pages slot member)))
    ∙ member_link rail owner side pages slot member

pub may_come : (rail : Rail) (owner : Owner) (after : Option Slot) (slot behind : Slot) (pages : Pages)
    → HasPlace rail owner after pages → neighbour Behind rail owner pages (or_none after) ≡ Some behind
    → is_member rail owner pages slot ≡ true
    → ((o : Owner) (slots : List Slot) → Lists rail o slots pages → is_in slot slots ≡ false)
    → MayCome rail owner (or_none after) slot behind pages
may_come rail owner after slot behind pages has read member free =
    let are = place_around rail owner has.front has.back after behind pages has.lists has.last read in
    let some : slot ≢ none = member_some rail owner pages slot member in
    let none_not : none ≢ slot = λ same. some (sym same) in
    let others =
    differ_parts slot has.front has.back
    (differs_in slot (has.front ++ has.back) (free owner (has.front ++ has.back) has.lists)) in
    record {
      back = are.2;
      apart_before = λ same. last_differs slot none has.front none_not others.0 (are.0 ∙ sym same);
      apart_behind = λ same. first_differs slot has.back none_not others.1 (are.1 ∙ same);
      some = some;
    }

-- the links that the second step sets are there after the first
pub then_there : (rail : Rail) (owner : Owner) (before slot behind : Slot) (old new : Pages)
    → MayCome rail owner before slot behind old → Joins rail owner before slot old new
    → is_member rail owner old slot ≡ true
    → IsSome (neighbour Behind rail owner new slot) × IsSome (neighbour Before rail owner new behind)
then_there rail owner before slot behind old new may joins member = (
  ap is_some (joins.behind slot may.apart_before) ∙ member_there rail owner Behind slot old member,
  ap is_some (joins.before behind may.apart_behind ∙ may.back),
)

-- ---- the same of the number that stands for the slot before

pub insert_read : (rail : Rail) (owner : Owner) (after : Option Slot) (before : Slot) (pages : Pages)
    → HasPlace rail owner after pages → before ≡ or_none after → IsSome (neighbour Behind rail owner pages before)
insert_read rail owner after before pages has is =
    subst (λ k. IsSome (neighbour Behind rail owner pages k)) (sym is) (place_read rail owner after pages has)

pub insert_next : (rail : Rail) (owner : Owner) (after : Option Slot) (before slot behind : Slot) (old new : Pages)
    → HasPlace rail owner after old → before ≡ or_none after → neighbour Behind rail owner old before ≡ Some behind
    → is_member rail owner old slot ≡ true
    → ((o : Owner) (slots : List Slot) → Lists rail o slots old → is_in slot slots ≡ false)
    → Joins rail owner before slot old new
    → IsSome (neighbour Behind rail owner new slot) × IsSome (neighbour Before rail owner new behind)
insert_next rail owner after before slot behind old new has is read member free joins =
    let may : MayCome rail owner (or_none after) slot behind old =
    may_come rail owner after slot behind old has (ap (neighbour Behind rail owner old) (sym is) ∙ read) member free in
    then_there rail owner (or_none after) slot behind old new may
    (subst (λ k. Joins rail owner k slot old new) is joins) member

pub unlink_next : (rail : Rail) (owner : Owner) (slot before behind : Slot) (old new : Pages)
    → HasMember rail owner slot old → neighbour Before rail owner old slot ≡ Some before
    → neighbour Behind rail owner old slot ≡ Some behind → Joins rail owner before behind old new
    → IsSome (neighbour Before rail owner new slot) × IsSome (neighbour Behind rail owner new slot)
unlink_next rail owner slot before behind old new has read_before read_behind joins =
    still_read rail owner slot before behind old new (may_go rail owner slot before behind old has read_before read_behind)
    joins read_before read_behind

-- the other link is still there when one was set
pub still_there : (rail : Rail) (owner : Owner) (slot : Slot) (old new : Pages)
    → SetsSide Before rail owner slot none old new → IsSome (neighbour Behind rail owner old slot)
    → IsSome (neighbour Behind rail owner new slot)
still_there rail owner slot old new set some = subst IsSome (sym (set.opposite Behind slot one_side)) some

-- ---- the slot 0

pub zero_slot : (slot : Slot) → (slot.0 == 0) ≡ true → slot ≡ none
zero_slot slot is = ap numbered (eqb-true slot.0 0 is)

pub some_slot : (slot : Slot) → (slot.0 == 0) ≡ false → slot ≢ none
some_slot slot is same = true≢false (sym (eq-eqb slot.0 0 (ap (λ (s : Slot). s.0) same)) ∙ is)

-- ---- ends, by what the owner is

pub header_named : (side : Side) (rail : Rail) (kind : LiveKind) (owner : Owner) (pages : Pages) (slot : Slot)
    → owner ≡ owners.Header kind → IsSome (end_at side rail owner pages)
    → slot ≡ end_in side (ends_of kind (header_of pages)) → end_at side rail owner pages ≡ Some slot
header_named side rail kind owner pages slot is some read =
    ap (λ o. end_at side rail o pages) is
    ∙ of_rail rail (subst (λ o. IsSome (end_at side rail o pages)) is some)
    ∙ ap Some (sym read)
  where
    of_rail : (rail : Rail) → IsSome (end_at side rail (owners.Header kind) pages)
        → end_at side rail (owners.Header kind) pages ≡ Some (end_in side (ends_of kind (header_of pages)))
    of_rail Live some = refl
    of_rail rail some = absurd (true≢false (sym some))

pub slot_asked : (side : Side) (rail : Rail) (x : Slot) (owner : Owner) (link : Link) (pages : Pages)
    → owner ≡ owners.At x → link ≡ end_link side → IsSome (end_at side rail owner pages)
    → IsSome (link_at rail link x.0 pages)
slot_asked side rail x owner link pages is same some =
    subst (λ l. IsSome (link_at rail l x.0 pages)) (sym same) (subst (λ o. IsSome (end_at side rail o pages)) is some)

pub slot_named : (side : Side) (rail : Rail) (x : Slot) (owner : Owner) (link : Link) (pages : Pages) (slot : Slot)
    → owner ≡ owners.At x → link ≡ end_link side → link_at rail link x.0 pages ≡ Some slot
    → end_at side rail owner pages ≡ Some slot
slot_named side rail x owner link pages slot is same read =
    ap (λ o. end_at side rail o pages) is ∙ ap (λ l. link_at rail l x.0 pages) (sym same) ∙ read

pub set_by_header : (side : Side) (rail : Rail) (kind : LiveKind) (owner : Owner) (to : Slot) (old new : Pages)
    → owner ≡ owners.Header kind → IsSome (end_at side rail owner old)
    → SetsHeader (with_end side kind to) old new → page_count new ≡ page_count old
    → SetsSide side rail owner none to old new
set_by_header side rail kind owner to old new is some set as_many =
    subst (λ o. SetsSide side rail o none to old new) (sym is)
    (end_by_header side rail kind to old new (subst (λ o. IsSome (end_at side rail o old)) is some) set as_many)

pub set_by_owner : (side : Side) (rail : Rail) (x : Slot) (owner : Owner) (link : Link) (to : Slot) (old new : Pages)
    → owner ≡ owners.At x → link ≡ end_link side → SetsLink rail link x to old new
    → SetsSide side rail owner none to old new
set_by_owner side rail x owner link to old new is same set =
    subst (λ o. SetsSide side rail o none to old new) (sym is)
    (end_by_link side rail x to old new (subst (λ l. SetsLink rail l x to old new) same set))

-- ---- neighbours, by whether the slot is 0

pub end_asked : (side : Side) (rail : Rail) (owner : Owner) (pages : Pages) (slot : Slot) → (slot.0 == 0) ≡ true
    → IsSome (neighbour side rail owner pages slot) → IsSome (end_at side rail owner pages)
end_asked side rail owner pages slot is some =
    subst IsSome (at_end side rail owner pages slot (eqb-true slot.0 0 is)) some

pub end_read : (side : Side) (rail : Rail) (owner : Owner) (pages : Pages) (slot result : Slot) → (slot.0 == 0) ≡ true
    → end_at side rail owner pages ≡ Some result → neighbour side rail owner pages slot ≡ Some result
end_read side rail owner pages slot result is read =
    at_end side rail owner pages slot (eqb-true slot.0 0 is) ∙ read

pub side_asked : (side : Side) (rail : Rail) (owner : Owner) (link : Link) (pages : Pages) (slot : Slot)
    → (slot.0 == 0) ≡ false → link ≡ side_link side → IsSome (neighbour side rail owner pages slot)
    → IsSome (link_at rail link slot.0 pages)
side_asked side rail owner link pages slot is same some =
    subst (λ l. IsSome (link_at rail l slot.0 pages)) (sym same)
    (subst IsSome (at_link side rail owner pages slot (other_number slot none (some_slot slot is))) some)

pub side_read : (side : Side) (rail : Rail) (owner : Owner) (link : Link) (pages : Pages) (slot result : Slot)
    → (slot.0 == 0) ≡ false → link ≡ side_link side → link_at rail link slot.0 pages ≡ Some result
    → neighbour side rail owner pages slot ≡ Some result
side_read side rail owner link pages slot result is same read =
    at_link side rail owner pages slot (other_number slot none (some_slot slot is))
    ∙ ap (λ l. link_at rail l slot.0 pages) (sym same) ∙ read

pub set_end_of : (side : Side) (rail : Rail) (owner : Owner) (slot to : Slot) (old new : Pages) → (slot.0 == 0) ≡ true
    → SetsSide side rail owner none to old new → SetsSide side rail owner slot to old new
set_end_of side rail owner slot to old new is set =
    subst (λ k. SetsSide side rail owner k to old new) (sym (zero_slot slot is)) set

pub set_side_of : (side : Side) (rail : Rail) (owner : Owner) (link : Link) (slot to : Slot) (old new : Pages)
    → (slot.0 == 0) ≡ false → link ≡ side_link side → SetsLink rail link slot to old new
    → SetsSide side rail owner slot to old new
set_side_of side rail owner link slot to old new is same set =
    side_by_link side rail owner slot to old new (some_slot slot is) (subst (λ l. SetsLink rail l slot to old new) same set)

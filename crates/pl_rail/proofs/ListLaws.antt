-- Lists of the members of rails: what is the same in them, and which slots are in them.
use Rattle.std.proofs.Common.{◌≡◌, ◌≢◌, ◌∙◌, ◌==◌, ◌+◌, ◌∷◌, [], ◌++◌, ℕ, List, Bool, ap}
use Rattle.std.proofs.Common.{cond, eq-eqb, false, is_some, None, not, Option, refl, Some, sym, true}
use Rattle.std.specs.List.{list_all}
use Rattle.std.specs.Option.{option_and_then, option_map}
use Rattle.std.proofs.lemmas.Bool.{and_from, and_parts, ne_eqb, not-true, or_left, or_parts, or_right, true≢false}
use Rattle.pl_base.specs.declared.id.Slot.{Slot}
use Rattle.pl_base.proofs.ListLaws.{list_all-alike}
use Rattle.pl_rail.specs.declared.owner.Owner.{Owner}
use Rattle.pl_rail.specs.declared.owner.Owner.TheVariants as owners
use Rattle.pl_rail.specs.declared.owner.Side.{Side}
use Rattle.pl_rail.specs.declared.owner.Side.TheVariants.{Before, Behind}
use Rattle.pl_rail.specs.Rails.{KeepsRails, KeepsRest, Lists, are_apart, first_of, is_in, is_kind, is_member}
use Rattle.pl_rail.specs.Rails.{last_from, last_of, member_kind, named, neighbour, none, or_none, side_link}
use Rattle.pl_rail.proofs.Rings.{Differ, Ends, Named, one, unchanged_links}
use Rattle.pl_rail.proofs.SideLaws.{both_kept, numbered, other_rail}
use Rattle.pl_sheets.specs.Sheets.{Pages}
use Rattle.pl_slot.specs.declared.kind.LiveKind.TheVariants as live
use Rattle.pl_slot.specs.declared.kind.SlotKind.{SlotKind}
use Rattle.pl_slot.specs.declared.kind.SlotKind.TheVariants as kinds
use Rattle.pl_slot.specs.declared.links.Rail.{Rail}
use Rattle.pl_slot.specs.declared.links.Rail.TheVariants.{Children, Live, OriginPages, PageVisits, References, Targets}
use Rattle.pl_slot.specs.declared.row.SlotRow.{SlotRow}
use Rattle.pl_slot.specs.Arena.{row_at}
use Rattle.pl_slot.specs.Links.{kind_at, link_at, link_in, link_place, sides_at}
use Rattle.pl_slot.specs.Slot.{slot_bytes, slot_kind}
use Rattle.pl_slot.specs.SlotReading.{slot_in}
use Rattle.pl_slot.proofs.SlotPlaces.{no_slot}

abbrev pub behind_in : Rail → Owner → Pages → Named
behind_in rail owner pages = neighbour Behind rail owner pages

abbrev pub before_in : Rail → Owner → Pages → Named
before_in rail owner pages = neighbour Before rail owner pages

-- ---- members are slots

no_kind : (pages : Pages) → kind_at 0 pages ≡ None
unfolding kind_at
no_kind pages = ap (option_map slot_kind) (no_slot 0 pages refl)

pub member_some : (rail : Rail) (owner : Owner) (pages : Pages) (slot : Slot) → is_member rail owner pages slot ≡ true
    → slot ≢ none
member_some rail owner pages slot member same =
    true≢false (sym member ∙ ap (λ (s : Slot). is_kind (kind_at s.0 pages) (member_kind rail owner)) same
    ∙ ap (λ k. is_kind k (member_kind rail owner)) (no_kind pages))

pub members_some : (rail : Rail) (owner : Owner) (pages : Pages) (xs : List Slot)
    → list_all (is_member rail owner pages) xs ≡ true → Differ none xs
members_some rail owner pages [] all = tt
members_some rail owner pages (x ∷ xs) all =
    let parts = and_parts (is_member rail owner pages x) (list_all (is_member rail owner pages) xs) all in
    (member_some rail owner pages x parts.0, members_some rail owner pages xs parts.1)

-- a slot that may be a member has both links
has_sides : (rail : Rail) (owner : Owner) (kind : SlotKind) → is_kind (Some kind) (member_kind rail owner) ≡ true
    → is_some (sides_at rail kind) ≡ true
has_sides Live (owners.Header live.Origin) kinds.Origin is = refl
has_sides Live (owners.Header live.Place) kinds.Place is = refl
has_sides Live (owners.Header live.Visit) kinds.Visit is = refl
has_sides Live (owners.Header live.Item) kinds.Item is = refl
has_sides OriginPages (owners.At x) kinds.Place is = refl
has_sides PageVisits (owners.At x) kinds.Visit is = refl
has_sides Targets (owners.At x) kinds.Visit is = refl
has_sides Children (owners.At x) kinds.Item is = refl
has_sides References (owners.At x) kinds.Item is = refl
has_sides rail owner kind is = absurd (true≢false (sym is))

has_link : (rail : Rail) (side : Side) (kind : SlotKind) → is_some (sides_at rail kind) ≡ true
    → is_some (link_place rail (side_link side) kind) ≡ true
has_link rail Before kind is = is
has_link rail Behind kind is = of_place (sides_at rail kind) is
  where
    of_place : (place : Option ℕ) → is_some place ≡ true → is_some (option_map (λ n. n + 4) place) ≡ true
    of_place None is = is
    of_place (Some n) is = refl

pub member_link : (rail : Rail) (owner : Owner) (side : Side) (pages : Pages) (slot : Slot)
    → is_member rail owner pages slot ≡ true → is_some (link_at rail (side_link side) slot.0 pages) ≡ true
unfolding kind_at link_at
member_link rail owner side pages slot member = of_row (row_at slot.0 pages) member
  where
    of_place : (row : SlotRow) (place : Option ℕ) → is_some place ≡ true
        → is_some (option_map (λ n. slot_in n (slot_bytes row)) place) ≡ true
    of_place row None is = is
    of_place row (Some n) is = refl

    of_row : (row : Option SlotRow) → is_kind (option_map slot_kind row) (member_kind rail owner) ≡ true
        → is_some (option_and_then (link_in rail (side_link side)) row) ≡ true
    of_row None is = absurd (true≢false (sym is))
    of_row (Some row) is =
        of_place row (link_place rail (side_link side) (slot_kind row))
        (has_link rail side (slot_kind row) (has_sides rail owner (slot_kind row) is))

-- ---- there is one list

pub one_list : (rail : Rail) (owner : Owner) (xs ys : List Slot) (pages : Pages) → Lists rail owner xs pages
    → Lists rail owner ys pages → xs ≡ ys
one_list rail owner xs ys pages to_xs to_ys =
    one (behind_in rail owner pages) (before_in rail owner pages) none xs ys to_xs.linked
    (members_some rail owner pages xs to_xs.members) to_ys.linked (members_some rail owner pages ys to_ys.members)

-- ---- first, next and last

-- behind the owner is the first one, or the owner
pub first_behind : (f b : Named) (a : Slot) (xs : List Slot) → Ends f b a xs → f a ≡ Some (or_none (first_of xs))
first_behind f b a [] linked = linked.0
first_behind f b a (x ∷ xs) linked = linked.0

pub named_first : (xs : List Slot) (slot : Slot) → Differ none xs → slot ≡ or_none (first_of xs)
    → named slot ≡ first_of xs
named_first [] slot some same = ap named same
named_first (x ∷ xs) slot some same =
    ap named same ∙ ap (λ b. cond b None (Some x)) (ne_eqb x.0 0 (λ zero_is. some.0 (ap numbered zero_is)))

pub last_is : (xs : List Slot) → or_none (last_of xs) ≡ last_from none xs
last_is [] = refl
last_is (x ∷ xs) = refl

pub last_differs : (m a : Slot) (xs : List Slot) → a ≢ m → Differ m xs → last_from a xs ≢ m
last_differs m a [] apart others = apart
last_differs m a (x ∷ xs) apart others = last_differs m x xs others.0 others.1

pub first_differs : (m : Slot) (xs : List Slot) → none ≢ m → Differ m xs → or_none (first_of xs) ≢ m
first_differs m [] apart others = apart
first_differs m (x ∷ xs) apart others = others.0

-- what is behind a front: the first one of the back, or the owner, and then the rest
abbrev pub tail_of : List Slot → List Slot
tail_of [] = []
tail_of (x ∷ xs) = xs ++ none ∷ []

pub back_is : (back : List Slot) → back ++ none ∷ [] ≡ or_none (first_of back) ∷ tail_of back
back_is [] = refl
back_is (x ∷ xs) = refl

-- ---- which are in them

pub differs_in : (m : Slot) (xs : List Slot) → is_in m xs ≡ false → Differ m xs
differs_in m [] never = tt
differs_in m (x ∷ xs) never =
    let parts = or_parts (x.0 == m.0) (is_in m xs) never in
    (λ same. true≢false (sym (eq-eqb x.0 m.0 (ap (λ (s : Slot). s.0) same)) ∙ parts.0), differs_in m xs parts.1)

pub in_front : (m : Slot) (xs ys : List Slot) → is_in m (xs ++ m ∷ ys) ≡ true
in_front m [] ys = or_left (m.0 == m.0) (is_in m ys) (eq-eqb m.0 m.0 refl)
in_front m (x ∷ xs) ys = or_right (x.0 == m.0) (is_in m (xs ++ m ∷ ys)) (in_front m xs ys)

-- a member is none of those that are apart from the members
pub apart_member : (m : Slot) (xs ys : List Slot) → is_in m xs ≡ true → are_apart ys xs ≡ true → Differ m ys
apart_member m xs [] among apart = tt
apart_member m xs (y ∷ ys) among apart =
    let parts = and_parts (not (is_in y xs)) (are_apart ys xs) apart in (
      λ same.
          true≢false (sym (ap (λ k. is_in k xs) same ∙ among) ∙ not-true (is_in y xs) parts.0),
      apart_member m xs ys among parts.1,
    )

-- of the last of some slots, and of the first
last_among : (x : Slot) (front rest : List Slot) → is_in (last_from x front) (x ∷ (front ++ rest)) ≡ true
last_among x [] rest = or_left (x.0 == x.0) (is_in x rest) (eq-eqb x.0 x.0 refl)
last_among x (y ∷ front) rest =
    or_right (x.0 == (last_from y front).0) (is_in (last_from y front) (y ∷ (front ++ rest))) (last_among y front rest)

pub apart_last : (front rest ys : List Slot) → Differ none ys → are_apart ys (front ++ rest) ≡ true
    → Differ (last_from none front) ys
apart_last [] rest ys some apart = some
apart_last (x ∷ front) rest ys some apart =
    apart_member (last_from x front) (x ∷ (front ++ rest)) ys (last_among x front rest) apart

pub apart_first : (front back ys : List Slot) → Differ none ys → are_apart ys (front ++ back) ≡ true
    → Differ (or_none (first_of back)) ys
apart_first front [] ys some apart = some
apart_first front (x ∷ back) ys some apart = apart_member x (front ++ x ∷ back) ys (in_front x front back) apart

-- ---- the same members

pub same_members : (rail : Rail) (owner : Owner) (xs : List Slot) (old new : Pages)
    → ((n : ℕ) → kind_at n new ≡ kind_at n old) → list_all (is_member rail owner old) xs ≡ true
    → list_all (is_member rail owner new) xs ≡ true
same_members rail owner xs old new kinds all =
    list_all-alike (is_member rail owner new) (is_member rail owner old) xs
    (λ slot. ap (λ k. is_kind k (member_kind rail owner)) (kinds slot.0))
    ∙ all

pub all_without : (p : Slot → Bool) (front : List Slot) (m : Slot) (back : List Slot)
    → list_all p (front ++ m ∷ back) ≡ true → list_all p (front ++ back) ≡ true
all_without p [] m back all = (and_parts (p m) (list_all p back) all).1
all_without p (x ∷ front) m back all =
    let parts = and_parts (p x) (list_all p (front ++ m ∷ back)) all in
    and_from (p x) (list_all p (front ++ back)) parts.0 (all_without p front m back parts.1)

pub all_with : (p : Slot → Bool) (front : List Slot) (m : Slot) (back : List Slot) → p m ≡ true
    → list_all p (front ++ back) ≡ true → list_all p (front ++ m ∷ back) ≡ true
all_with p [] m back is all = and_from (p m) (list_all p back) is all
all_with p (x ∷ front) m back is all =
    let parts = and_parts (p x) (list_all p (front ++ back)) all in
    and_from (p x) (list_all p (front ++ m ∷ back)) parts.0 (all_with p front m back is parts.1)

pub all_last : (p : Slot → Bool) (front : List Slot) (m : Slot) (back : List Slot)
    → list_all p (front ++ m ∷ back) ≡ true → list_all p back ≡ true
all_last p [] m back all = (and_parts (p m) (list_all p back) all).1
all_last p (x ∷ front) m back all = all_last p front m back (and_parts (p x) (list_all p (front ++ m ∷ back)) all).1

-- ---- lists of other rails

pub rails_kept : (rail : Rail) (owner : Owner) (old new : Pages) → KeepsRest rail owner old new
    → KeepsRails rail old new
rails_kept rail owner old new rest r o slots apart lists =
    let other = other_rail r rail apart in
    record {
      members = same_members r o slots old new rest.kinds lists.members;
      linked =
          unchanged_links (behind_in r o old) (before_in r o old) (behind_in r o new) (before_in r o new) none
          (slots ++ none ∷ [])
          (λ n. both_kept Behind r o old new n (rest.ends r Behind o other) (rest.links r (side_link Behind) n.0 other))
          (λ n. both_kept Before r o old new n (rest.ends r Before o other) (rest.links r (side_link Before) n.0 other))
          lists.linked;
    }

-- What a member that comes or goes leaves of the lists of owners.
use Rattle.std.proofs.Common.{◌≡◌, ◌≢◌, ◌∙◌, ◌==◌, ◌||◌, ◌∷◌, [], ◌++◌, ℕ, List, Bool, ap, append_assoc}
use Rattle.std.proofs.Common.{false, inl, inr, Option, refl, Some, subst, sym, true}
use Rattle.std.specs.Option.{option_and_then}
use Rattle.std.proofs.lemmas.Bool.{cases_eq, or_parts}
use Rattle.std.proofs.lemmas.Option.{same_Some}
use Rattle.pl_base.specs.declared.id.Slot.{Slot}
use Rattle.pl_rail.specs.declared.owner.Owner.{Owner}
use Rattle.pl_rail.specs.declared.owner.Side.{Side}
use Rattle.pl_rail.specs.declared.owner.Side.TheVariants.{Before, Behind}
use Rattle.pl_rail.specs.Rails.{AreLinked, ChangesAround, Joins, KeepsBeside, KeepsOwners, KeepsRest, Lists}
use Rattle.pl_rail.specs.Rails.{are_apart, first_of, is_in, is_member, last_from, last_of, neighbour, none, or_none, page_by}
use Rattle.pl_rail.specs.Rails.{SetsSide, side_link}
use Rattle.pl_rail.proofs.ListLaws.{all_with, all_without, apart_first, apart_last, apart_member, back_is, before_in}
use Rattle.pl_rail.proofs.ListLaws.{behind_in, differs_in, first_behind, first_differs, in_front, last_differs, last_is, member_some}
use Rattle.pl_rail.proofs.ListLaws.{members_some, same_members, tail_of}
use Rattle.pl_rail.proofs.Rings.{AreSame, Differ, Ends, Named, With, Without, before_member, differ_parts, from_member}
use Rattle.pl_rail.proofs.Rings.{kept_links, once, once_in_front, parted, with_member, without}
use Rattle.pl_rail.proofs.SideLaws.{at_link, one_side, only_then, other_side, rest_then}
use Rattle.pl_sheets.specs.Sheets.{Pages}
use Rattle.pl_slot.specs.declared.links.Rail.{Rail}
use Rattle.pl_slot.specs.Arena.{ChangesOnly, is_among}
use Rattle.pl_slot.specs.Links.{kind_at, link_at, link_in}
use Rattle.pl_slot.specs.declared.links.Link.{Link}
use Rattle.pl_slot.proofs.SlotPlaces.{no_slot}

-- ---- where a member stands

-- of a member of a list: what is before it and behind it
pub record Stands (f b : Named) (front : List Slot) (slot : Slot) (back : List Slot) : Type 0 where
  pub forth : f (last_from none front) ≡ Some slot
  pub forth_back : b slot ≡ Some (last_from none front)
  pub goes_on : f slot ≡ Some (or_none (first_of back))
  pub goes_back : b (or_none (first_of back)) ≡ Some slot
  pub some : slot ≢ none
  pub front_differs : Differ slot front
  pub back_differs : Differ slot back

first_back : (f b : Named) (a : Slot) (xs : List Slot) → Ends f b a xs → b (or_none (first_of xs)) ≡ Some a
first_back f b a [] linked = linked.1
first_back f b a (x ∷ xs) linked = linked.1

stands_in : (f b : Named) (front : List Slot) (slot : Slot) (back : List Slot) → Ends f b none (front ++ slot ∷ back)
    → Differ none (front ++ slot ∷ back) → Stands f b front slot back
stands_in f b front slot back linked some =
    let here = before_member f b none front slot back linked in
    let on : Ends f b slot back = from_member f b none front slot back linked in
    let parts = differ_parts none front (slot ∷ back) some in
    record {
      forth = here.0;
      forth_back = here.1;
      goes_on = first_behind f b slot back on;
      goes_back = first_back f b slot back on;
      some = parts.1.0;
      front_differs = once_in_front f b none front slot back linked some;
      back_differs = once f b slot back on parts.1.1;
    }

pub stands : (rail : Rail) (owner : Owner) (front : List Slot) (slot : Slot) (back : List Slot) (pages : Pages)
    → Lists rail owner (front ++ slot ∷ back) pages
    → Stands (behind_in rail owner pages) (before_in rail owner pages) front slot back
stands rail owner front slot back pages lists =
    stands_in (behind_in rail owner pages) (before_in rail owner pages) front slot back lists.linked
    (members_some rail owner pages (front ++ slot ∷ back) lists.members)

-- ---- the links of a list, regrouped around a place of it

regroup : (f b : Named) (front back : List Slot) → Ends f b none (front ++ back)
    → AreLinked f b none (front ++ or_none (first_of back) ∷ tail_of back)
regroup f b front back linked =
    subst (AreLinked f b none) (append_assoc front back (none ∷ []) ∙ ap (λ l. front ++ l) (back_is back)) linked

ungroup : (f b : Named) (front back : List Slot)
    → AreLinked f b none (front ++ or_none (first_of back) ∷ tail_of back) → Ends f b none (front ++ back)
ungroup f b front back linked =
    subst (AreLinked f b none)
    (sym (append_assoc front back (none ∷ []) ∙ ap (λ l. front ++ l) (back_is back))) linked

regroup_at : (f b : Named) (front : List Slot) (slot : Slot) (back : List Slot) → Ends f b none (front ++ slot ∷ back)
    → AreLinked f b none (front ++ slot ∷ or_none (first_of back) ∷ tail_of back)
regroup_at f b front slot back linked =
    subst (AreLinked f b none)
    (append_assoc front (slot ∷ back) (none ∷ []) ∙ ap (λ l. front ++ slot ∷ l) (back_is back)) linked

ungroup_at : (f b : Named) (front : List Slot) (slot : Slot) (back : List Slot)
    → AreLinked f b none (front ++ slot ∷ or_none (first_of back) ∷ tail_of back) → Ends f b none (front ++ slot ∷ back)
ungroup_at f b front slot back linked =
    subst (AreLinked f b none)
    (sym (append_assoc front (slot ∷ back) (none ∷ []) ∙ ap (λ l. front ++ slot ∷ l) (back_is back))) linked

-- what differs from a list and from 0 differs from what is behind a front of it
back_apart : (m : Slot) (back : List Slot) → m ≢ none → Differ m back
    → Differ m (or_none (first_of back) ∷ tail_of back)
back_apart m [] some others = ((λ same. some (sym same)), tt)
back_apart m (x ∷ xs) some others = (others.0, with_end m xs some others.1)
  where
    with_end : (m : Slot) (xs : List Slot) → m ≢ none → Differ m xs → Differ m (xs ++ none ∷ [])
    with_end m [] some others = ((λ same. some (sym same)), tt)
    with_end m (x ∷ xs) some others = (others.0, with_end m xs some others.1)

-- ---- a member goes

-- what unlink makes: its neighbours are joined, and then its links name none
pub record Unlinks (rail : Rail) (owner : Owner) (slot before behind : Slot) (old new : Pages) : Type 0 where
  pub middle : Pages
  pub later : Pages
  pub joins : Joins rail owner before behind old middle
  pub first : SetsSide Before rail owner slot none middle later
  pub second : SetsSide Behind rail owner slot none later new

gone : (rail : Rail) (owner : Owner) (slot before behind : Slot) (old new : Pages)
    → Unlinks rail owner slot before behind old new → before ≢ slot → behind ≢ slot
    → neighbour Behind rail owner old before ≡ Some slot → neighbour Before rail owner old behind ≡ Some slot
    → Without (behind_in rail owner old) (before_in rail owner old) (behind_in rail owner new) (before_in rail owner new)
    before slot behind
gone rail owner slot before behind old new made apart_before apart_behind forth back =
    record {
      forth = forth;
      back = back;
      joined =
          made.second.there before apart_before ∙ made.first.opposite Behind before one_side ∙ made.joins.forth;
      joined_back =
          made.second.opposite Before behind other_side ∙ made.first.there behind apart_behind ∙ made.joins.back;
      behind = λ n other here.
          made.second.there n here ∙ made.first.opposite Behind n one_side ∙ made.joins.behind n other;
      before = λ n other here.
          made.second.opposite Before n other_side ∙ made.first.there n here ∙ made.joins.before n other;
    }

pub unlinked_rest : (rail : Rail) (owner : Owner) (slot before behind : Slot) (old new : Pages)
    → Unlinks rail owner slot before behind old new → KeepsRest rail owner old new
unlinked_rest rail owner slot before behind old new made =
    rest_then rail owner old made.later new
    (rest_then rail owner old made.middle made.later made.joins.rest made.first.rest) made.second.rest

-- the slots that stood around it are those that were read
pub around : (f b : Named) (front : List Slot) (slot : Slot) (back : List Slot) (before behind : Slot)
    → Stands f b front slot back → b slot ≡ Some before → f slot ≡ Some behind
    → (last_from none front ≡ before) × (or_none (first_of back) ≡ behind)
around f b front slot back before behind stood read_before read_behind = (
  same_Some (last_from none front) before (sym stood.forth_back ∙ read_before),
  same_Some (or_none (first_of back)) behind (sym stood.goes_on ∙ read_behind),
)

pub unlinked : (rail : Rail) (owner : Owner) (slot before behind : Slot) (front back : List Slot) (old new : Pages)
    → Unlinks rail owner slot before behind old new → neighbour Before rail owner old slot ≡ Some before
    → neighbour Behind rail owner old slot ≡ Some behind → Lists rail owner (front ++ slot ∷ back) old
    → Lists rail owner (front ++ back) new
unlinked rail owner slot before behind front back old new made read_before read_behind lists =
    let f : Named = behind_in rail owner old in
    let b : Named = before_in rail owner old in
    let g : Named = behind_in rail owner new in
    let c : Named = before_in rail owner new in
    let stood = stands rail owner front slot back old lists in
    let are = around f b front slot back before behind stood read_before read_behind in
    let none_not : none ≢ slot = λ same. stood.some (sym same) in
    let apart_before : last_from none front ≢ slot = last_differs slot none front none_not stood.front_differs in
    let apart_behind : or_none (first_of back) ≢ slot = first_differs slot back none_not stood.back_differs in
    let went : Without f b g c (last_from none front) slot (or_none (first_of back)) =
    gone rail owner slot (last_from none front) (or_none (first_of back)) old new
    (subst (λ k. Unlinks rail owner slot (last_from none front) k old new) (sym are.1)
    (subst (λ k. Unlinks rail owner slot k behind old new) (sym are.0) made))
    apart_before apart_behind stood.forth stood.goes_back in
    record {
      members =
          same_members rail owner (front ++ back) old new (unlinked_rest rail owner slot before behind old new made).kinds
          (all_without (is_member rail owner old) front slot back lists.members);
      linked =
          ungroup g c front back
          (without f b g c slot (or_none (first_of back)) none front (tail_of back) went
          (regroup_at f b front slot back lists.linked) none_not stood.front_differs
          (back_apart slot back stood.some stood.back_differs));
    }

-- ---- lists of other owners

-- links of other owners, but of these slots
other_links : (rail : Rail) (o : Owner) (side : Side) (old new : Pages) (slot before behind : Slot)
    → ((n : Slot) → (n ≡ slot → n ≡ none) → (n ≡ before → n ≡ none) → (n ≡ behind → n ≡ none)
    → neighbour side rail o new n ≡ neighbour side rail o old n)
    → (xs : List Slot) → Differ slot xs → Differ before xs → Differ behind xs
    → AreSame (neighbour side rail o new) (neighbour side rail o old) xs
other_links rail o side old new slot before behind same [] here front back = tt
other_links rail o side old new slot before behind same (x ∷ xs) here front back = (
  same x (λ is. absurd (here.0 is)) (λ is. absurd (front.0 is)) (λ is. absurd (back.0 is)),
  other_links rail o side old new slot before behind same xs here.1 front.1 back.1,
)

owner_kept : (rail : Rail) (o : Owner) (old new : Pages) (slot before behind : Slot) (xs : List Slot)
    → ((side : Side) (n : Slot) → (n ≡ slot → n ≡ none) → (n ≡ before → n ≡ none) → (n ≡ behind → n ≡ none)
    → neighbour side rail o new n ≡ neighbour side rail o old n)
    → ((n : ℕ) → kind_at n new ≡ kind_at n old) → Differ slot xs → Differ before xs → Differ behind xs → Lists rail o xs old
    → Lists rail o xs new
owner_kept rail o old new slot before behind xs same kinds here front back lists =
    record {
      members = same_members rail o xs old new kinds lists.members;
      linked =
          kept_links (behind_in rail o old) (before_in rail o old) (behind_in rail o new) (before_in rail o new) none none xs
          (same Behind none (λ _. refl) (λ _. refl) (λ _. refl))
          (same Before none (λ _. refl) (λ _. refl) (λ _. refl))
          (other_links rail o Behind old new slot before behind (same Behind) xs here front back)
          (other_links rail o Before old new slot before behind (same Before) xs here front back)
          lists.linked;
    }

pub unlinked_owners : (rail : Rail) (owner : Owner) (slot before behind : Slot) (front back : List Slot) (old new : Pages)
    → Unlinks rail owner slot before behind old new → neighbour Before rail owner old slot ≡ Some before
    → neighbour Behind rail owner old slot ≡ Some behind → Lists rail owner (front ++ slot ∷ back) old
    → KeepsOwners rail owner (front ++ slot ∷ back) old new
unlinked_owners rail owner slot before behind front back old new made read_before read_behind lists o others apart clear theirs =
    let stood = stands rail owner front slot back old lists in
    let are = around (behind_in rail owner old) (before_in rail owner old) front slot back before behind stood
    read_before read_behind in
    let some = members_some rail o old others theirs.members in
    owner_kept rail o old new slot before behind others
    (λ side n here first second.
    made.second.elsewhere o side n apart here ∙ made.first.elsewhere o side n apart here
    ∙ made.joins.elsewhere o side n apart first second)
    (unlinked_rest rail owner slot before behind old new made).kinds
    (apart_member slot (front ++ slot ∷ back) others (in_front slot front back) clear)
    (subst (λ k. Differ k others) are.0 (apart_last front (slot ∷ back) others some clear))
    (subst (λ k. Differ k others) are.1 (behind_apart front slot back others some clear))
    theirs
  where
    behind_apart : (front : List Slot) (slot : Slot) (back others : List Slot) → Differ none others
        → are_apart others (front ++ slot ∷ back) ≡ true → Differ (or_none (first_of back)) others
    behind_apart front slot back others some clear =
        apart_first (front ++ slot ∷ []) back others some
        (ap (are_apart others) (append_assoc front (slot ∷ []) back) ∙ clear)

-- ---- slots beside a chain

no_link : (rail : Rail) (link : Link) (n : ℕ) (old new : Pages) → n ≡ 0
    → link_at rail link n new ≡ link_at rail link n old
unfolding link_at
no_link rail link n old new zero_is =
    ap (λ k. link_at rail link k new) zero_is
    ∙ ap (option_and_then (link_in rail link)) (no_slot 0 new refl ∙ sym (no_slot 0 old refl))
    ∙ ap (λ k. link_at rail link k old) (sym zero_is)

-- a slot other than 0 that has the neighbours it had has its links, and 0 has none
links_kept : (rail : Rail) (owner : Owner) (other : Slot) (old new : Pages)
    → ((side : Side) → other ≢ none → neighbour side rail owner new other ≡ neighbour side rail owner old other)
    → (side : Side) → link_at rail (side_link side) other.0 new ≡ link_at rail (side_link side) other.0 old
links_kept rail owner other old new same side = elim (cases_eq other.0 0) [
  | inl zero_is ↦ no_link rail (side_link side) other.0 old new zero_is
  | inr some ↦
      sym (at_link side rail owner new other some) ∙ same side (λ is. some (ap (λ (s : Slot). s.0) is))
      ∙ at_link side rail owner old other some
]

pub unlinked_beside : (rail : Rail) (owner : Owner) (slot before behind : Slot) (front back : List Slot)
    (old new : Pages)
    → Unlinks rail owner slot before behind old new → neighbour Before rail owner old slot ≡ Some before
    → neighbour Behind rail owner old slot ≡ Some behind → Lists rail owner (front ++ slot ∷ back) old
    → KeepsBeside rail slot (front ++ slot ∷ back) old new
unlinked_beside
    rail owner slot before behind front back old new made read_before read_behind lists side other apart never =
    links_kept rail owner other old new sides side
  where
    differ : Differ other front × Differ other (slot ∷ back)
    differ = differ_parts other front (slot ∷ back) (differs_in other (front ++ slot ∷ back) never)

    are : (last_from none front ≡ before) × (or_none (first_of back) ≡ behind)
    are =
        around (behind_in rail owner old) (before_in rail owner old) front slot back before behind
        (stands rail owner front slot back old lists) read_before read_behind

    sides : (side : Side) → other ≢ none → neighbour side rail owner new other ≡ neighbour side rail owner old other
    sides Behind some =
        made.second.there other apart ∙ made.first.opposite Behind other one_side
        ∙ made.joins.behind other
        (λ same. last_differs other none front (λ is. some (sym is)) differ.0 (are.0 ∙ sym same))
    sides Before some =
        made.second.opposite Before other other_side ∙ made.first.there other apart
        ∙ made.joins.before other
        (λ same. first_differs other back (λ is. some (sym is)) differ.1.1 (are.1 ∙ sym same))

-- ---- pages

three_pages : (p a s b : ℕ) → is_among p (a ∷ s ∷ b ∷ []) ≡ false
    → (is_among p (a ∷ []) ≡ false) × (is_among p (s ∷ []) ≡ false) × (is_among p (b ∷ []) ≡ false)
three_pages p a s b apart =
    let first = or_parts (p == a) ((p == s) || ((p == b) || false)) apart in
    let second = or_parts (p == s) ((p == b) || false) first.1 in
    (ap (λ c. c || false) first.0, ap (λ c. c || false) second.0, second.1)

two_of : (p a b : ℕ) → is_among p (a ∷ []) ≡ false → is_among p (b ∷ []) ≡ false → is_among p (a ∷ b ∷ []) ≡ false
two_of p a b first second = apart (p == a) ((p == b) || false) first second
  where
    apart : (x y : Bool) → (x || false) ≡ false → y ≡ false → (x || y) ≡ false
    apart true y first second = first
    apart false y first second = second

pub unlinked_pages : (rail : Rail) (owner : Owner) (slot before behind : Slot) (front back : List Slot) (old new : Pages)
    → Unlinks rail owner slot before behind old new → neighbour Before rail owner old slot ≡ Some before
    → neighbour Behind rail owner old slot ≡ Some behind → Lists rail owner (front ++ slot ∷ back) old
    → ChangesAround owner front slot back old new
unlinked_pages rail owner slot before behind front back old new made read_before read_behind lists =
    let stood = stands rail owner front slot back old lists in
    let are = around (behind_in rail owner old) (before_in rail owner old) front slot back before behind stood
    read_before read_behind in
    let a : ℕ = page_by owner before in
    let s : ℕ = page_by owner slot in
    let b : ℕ = page_by owner behind in
    let all : ChangesOnly (a ∷ s ∷ b ∷ []) old new =
    only_then (a ∷ s ∷ b ∷ []) (s ∷ []) (a ∷ s ∷ b ∷ []) old made.later new
    (made.first.rest.as_many ∙ made.joins.rest.as_many)
    (λ p apart. (apart, (three_pages p a s b apart).1))
    (only_then (a ∷ b ∷ []) (s ∷ []) (a ∷ s ∷ b ∷ []) old made.middle made.later made.joins.rest.as_many
    (λ p apart.
    let parts = three_pages p a s b apart in
    (two_of p a b parts.0 parts.2, parts.1)) made.joins.pages made.first.pages) made.second.pages in
    subst (λ k. ChangesOnly (page_by owner (or_none (last_of front)) ∷ s ∷ page_by owner k ∷ []) old new) (sym are.1)
    (subst (λ k. ChangesOnly (page_by owner k ∷ s ∷ b ∷ []) old new) (sym (last_is front ∙ are.0)) all)

-- ---- a member comes

-- what insert_after makes: it is joined with the slot before it, and then with the one behind it
pub record Inserts (rail : Rail) (owner : Owner) (before slot behind : Slot) (old new : Pages) : Type 0 where
  pub middle : Pages
  pub first : Joins rail owner before slot old middle
  pub second : Joins rail owner slot behind middle new

come : (rail : Rail) (owner : Owner) (before slot behind : Slot) (old new : Pages)
    → Inserts rail owner before slot behind old new → before ≢ slot → behind ≢ slot
    → neighbour Behind rail owner old before ≡ Some behind
    → With (behind_in rail owner old) (before_in rail owner old) (behind_in rail owner new) (before_in rail owner new)
    before slot behind
come rail owner before slot behind old new made apart_before apart_behind forth =
    record {
      forth = forth;
      joined = made.second.behind before apart_before ∙ made.first.forth;
      joined_back = made.second.before slot (λ same. apart_behind (sym same)) ∙ made.first.back;
      goes_on = made.second.forth;
      goes_back = made.second.back;
      behind = λ n other here. made.second.behind n here ∙ made.first.behind n other;
      before = λ n other here. made.second.before n other ∙ made.first.before n here;
    }

pub inserted_rest : (rail : Rail) (owner : Owner) (before slot behind : Slot) (old new : Pages)
    → Inserts rail owner before slot behind old new → KeepsRest rail owner old new
inserted_rest rail owner before slot behind old new made =
    rest_then rail owner old made.middle new made.first.rest made.second.rest

-- what is behind a front of a list
pub place_links : (rail : Rail) (owner : Owner) (front back : List Slot) (pages : Pages)
    → Lists rail owner (front ++ back) pages
    → behind_in rail owner pages (last_from none front) ≡ Some (or_none (first_of back))
place_links rail owner front back pages lists =
    first_behind (behind_in rail owner pages) (before_in rail owner pages) (last_from none front) back
    (parted (behind_in rail owner pages) (before_in rail owner pages) none front (back ++ none ∷ [])
    (subst (AreLinked (behind_in rail owner pages) (before_in rail owner pages) none)
    (append_assoc front back (none ∷ [])) lists.linked)).1

-- the slots around a place of a list are those that were read
pub place_around : (rail : Rail) (owner : Owner) (front back : List Slot) (after : Option Slot) (behind : Slot) (old : Pages)
    → Lists rail owner (front ++ back) old → last_of front ≡ after
    → neighbour Behind rail owner old (or_none after) ≡ Some behind
    → (last_from none front ≡ or_none after) × (or_none (first_of back) ≡ behind)
    × (neighbour Before rail owner old behind ≡ Some (or_none after))
place_around rail owner front back after behind old lists last read =
    let f : Named = behind_in rail owner old in
    let b : Named = before_in rail owner old in
    let before_is : last_from none front ≡ or_none after = sym (last_is front) ∙ ap or_none last in
    let on : Ends f b (last_from none front) back = on_from f b front back lists.linked in
    let behind_is : or_none (first_of back) ≡ behind =
    same_Some (or_none (first_of back)) behind
    (sym (first_behind f b (last_from none front) back on) ∙ ap f before_is ∙ read) in (
      before_is,
      behind_is,
      ap b (sym behind_is) ∙ first_back f b (last_from none front) back on ∙ ap Some before_is,
    )
  where
    on_from : (f b : Named) (front back : List Slot) → Ends f b none (front ++ back) → Ends f b (last_from none front) back
    on_from f b front back linked =
        (parted f b none front (back ++ none ∷ [])
        (subst (AreLinked f b none) (append_assoc front back (none ∷ [])) linked)).1

-- no slot of a list is twice in it
once_around : (f b : Named) (front back : List Slot) → Ends f b none (front ++ back) → Differ none (front ++ back)
    → Differ (or_none (first_of back)) front × Differ (or_none (first_of back)) (tail_of back)
once_around f b front [] linked some = ((differ_parts none front [] some).0, tt)
once_around f b front (x ∷ xs) linked some =
    let parts = differ_parts none front (x ∷ xs) some in (
      once_in_front f b none front x xs linked some,
      with_none x xs (λ same. parts.1.0 (sym same)) (once f b x xs (from_member f b none front x xs linked) parts.1.1),
    )
  where
    with_none : (m : Slot) (xs : List Slot) → none ≢ m → Differ m xs → Differ m (xs ++ none ∷ [])
    with_none m [] some others = (some, tt)
    with_none m (x ∷ xs) some others = (others.0, with_none m xs some others.1)

pub inserted : (rail : Rail) (owner : Owner) (after : Option Slot) (slot behind : Slot) (front back : List Slot)
    (old new : Pages) → Inserts rail owner (or_none after) slot behind old new
    → neighbour Behind rail owner old (or_none after) ≡ Some behind → is_member rail owner old slot ≡ true
    → is_in slot (front ++ back) ≡ false → Lists rail owner (front ++ back) old → last_of front ≡ after
    → Lists rail owner (front ++ slot ∷ back) new
inserted rail owner after slot behind front back old new made read member free lists last =
    let f : Named = behind_in rail owner old in
    let b : Named = before_in rail owner old in
    let g : Named = behind_in rail owner new in
    let c : Named = before_in rail owner new in
    let are = place_around rail owner front back after behind old lists last read in
    let some : slot ≢ none = member_some rail owner old slot member in
    let none_not : none ≢ slot = λ same. some (sym same) in
    let others = differ_parts slot front back (differs_in slot (front ++ back) free) in
    let apart_before : last_from none front ≢ slot = last_differs slot none front none_not others.0 in
    let apart_behind : or_none (first_of back) ≢ slot = first_differs slot back none_not others.1 in
    let came : With f b g c (last_from none front) slot (or_none (first_of back)) =
    come rail owner (last_from none front) slot (or_none (first_of back)) old new
    (subst (λ k. Inserts rail owner (last_from none front) slot k old new) (sym are.1)
    (subst (λ k. Inserts rail owner k slot behind old new) (sym are.0) made))
    apart_before apart_behind (ap f are.0 ∙ read ∙ ap Some (sym are.1)) in
    let once_there = once_around f b front back lists.linked (members_some rail owner old (front ++ back) lists.members) in
    record {
      members =
          same_members rail owner (front ++ slot ∷ back) old new
          (inserted_rest rail owner (or_none after) slot behind old new made).kinds
          (all_with (is_member rail owner old) front slot back member lists.members);
      linked =
          ungroup_at g c front slot back
          (with_member f b g c slot (or_none (first_of back)) none front (tail_of back) came
          (regroup f b front back lists.linked) none_not others.0
          (back_apart slot back some others.1) once_there.0 once_there.1);
    }

pub inserted_owners : (rail : Rail) (owner : Owner) (after : Option Slot) (slot behind : Slot) (front back : List Slot)
    (old new : Pages) → Inserts rail owner (or_none after) slot behind old new
    → neighbour Behind rail owner old (or_none after) ≡ Some behind
    → ((o : Owner) (slots : List Slot) → Lists rail o slots old → is_in slot slots ≡ false)
    → Lists rail owner (front ++ back) old → last_of front ≡ after → KeepsOwners rail owner (front ++ back) old new
inserted_owners rail owner after slot behind front back old new made read free lists last o others apart clear theirs =
    let are = place_around rail owner front back after behind old lists last read in
    let some = members_some rail o old others theirs.members in
    owner_kept rail o old new slot (or_none after) behind others
    (λ side n here first second.
    made.second.elsewhere o side n apart here second ∙ made.first.elsewhere o side n apart first here)
    (inserted_rest rail owner (or_none after) slot behind old new made).kinds
    (differs_in slot others (free o others theirs))
    (subst (λ k. Differ k others) are.0 (apart_last front back others some clear))
    (subst (λ k. Differ k others) are.1 (apart_first front back others some clear))
    theirs

pub inserted_pages : (rail : Rail) (owner : Owner) (after : Option Slot) (slot behind : Slot) (front back : List Slot)
    (old new : Pages) → Inserts rail owner (or_none after) slot behind old new
    → neighbour Behind rail owner old (or_none after) ≡ Some behind → Lists rail owner (front ++ back) old
    → last_of front ≡ after → ChangesAround owner front slot back old new
inserted_pages rail owner after slot behind front back old new made read lists last =
    let are = place_around rail owner front back after behind old lists last read in
    let a : ℕ = page_by owner (or_none after) in
    let s : ℕ = page_by owner slot in
    let b : ℕ = page_by owner behind in
    let all : ChangesOnly (a ∷ s ∷ b ∷ []) old new =
    only_then (a ∷ s ∷ []) (s ∷ b ∷ []) (a ∷ s ∷ b ∷ []) old made.middle new made.first.rest.as_many
    (λ p apart.
    let parts = three_pages p a s b apart in
    (two_of p a s parts.0 parts.1, two_of p s b parts.1 parts.2)) made.first.pages made.second.pages in
    subst (λ k. ChangesOnly (page_by owner (or_none (last_of front)) ∷ s ∷ page_by owner k ∷ []) old new) (sym are.1)
    (subst (λ k. ChangesOnly (page_by owner (or_none k) ∷ s ∷ b ∷ []) old new) (sym last) all)

pub inserted_beside : (rail : Rail) (owner : Owner) (after : Option Slot) (slot behind : Slot) (front back : List Slot)
    (old new : Pages) → Inserts rail owner (or_none after) slot behind old new
    → neighbour Behind rail owner old (or_none after) ≡ Some behind → Lists rail owner (front ++ back) old
    → last_of front ≡ after → KeepsBeside rail slot (front ++ back) old new
inserted_beside rail owner after slot behind front back old new made read lists last side other apart never =
    links_kept rail owner other old new sides side
  where
    differ : Differ other front × Differ other back
    differ = differ_parts other front back (differs_in other (front ++ back) never)

    are : (last_from none front ≡ or_none after) × (or_none (first_of back) ≡ behind)
        × (neighbour Before rail owner old behind ≡ Some (or_none after))
    are = place_around rail owner front back after behind old lists last read

    sides : (side : Side) → other ≢ none → neighbour side rail owner new other ≡ neighbour side rail owner old other
    sides Behind some =
        made.second.behind other apart
        ∙ made.first.behind other
        (λ same. last_differs other none front (λ is. some (sym is)) differ.0 (are.0 ∙ sym same))
    sides Before some =
        made.second.before other
        (λ same. first_differs other back (λ is. some (sym is)) differ.1 (are.1 ∙ sym same))
        ∙ made.first.before other apart

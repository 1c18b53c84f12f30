-- All chains as one map: what it tells of slots, and how it changes where a member comes or goes.
use Rattle.std.proofs.Common.{◌≡◌, ◌≢◌, ◌∙◌, ◌==◌, ◌+◌, ◌&&◌, ◌||◌, ◌∷◌, ◌++◌, [], ℕ, Bool, List, None, Option, Some}
use Rattle.std.proofs.Common.{ap, cond, eq-eqb, eqb-true, false, inl, inr, IsSome, is_some, not, refl, subst, sym, true}
use Rattle.std.specs.Option.{option_and_then, option_map}
use Rattle.std.proofs.lemmas.Bool.{and_from, and_parts, cases_Bool, ne_eqb, or_cases, or_parts, or_right, true≢false}
use Rattle.pl_base.specs.declared.id.Slot.{Slot}
use Rattle.pl_base.proofs.Truths.{is_none_at, no_test}
use Rattle.pl_record.specs.ChainMap.{AreApart, AreChains, ChainMap, IsLoose, is_owner, with_chain}
use Rattle.pl_record.proofs.LiveChains.{kind_in, link_live}
use Rattle.pl_rail.specs.declared.owner.Owner.{Owner}
use Rattle.pl_rail.specs.declared.owner.Owner.TheVariants.{At, Header}
use Rattle.pl_rail.specs.declared.owner.Side.{Side}
use Rattle.pl_rail.specs.declared.owner.Side.TheVariants.{Behind}
use Rattle.pl_rail.specs.Rails.{HasMember, HasPlace, KeepsOwners, KeepsRails, KeepsRest, Lists, are_apart, end_at}
use Rattle.pl_rail.specs.Rails.{end_link, is_in, is_kind, is_member, last_of, member_kind, none, side_link}
use Rattle.pl_rail.proofs.ChainLaws.{stands}
use Rattle.pl_rail.proofs.ListLaws.{before_in, behind_in, first_behind, in_front, member_link, one_list}
use Rattle.pl_rail.proofs.MemberCount.{live_member}
use Rattle.pl_rail.proofs.Rings.{Differ, differ_both}
use Rattle.pl_rail.proofs.SideLaws.{numbered, rail_itself}
use Rattle.pl_sheets.specs.Sheets.{Pages}
use Rattle.pl_slot.specs.declared.kind.LiveKind.TheVariants.{Item, Origin, Place, Visit}
use Rattle.pl_slot.specs.declared.kind.SlotKind.{SlotKind}
use Rattle.pl_slot.specs.declared.kind.SlotKind.TheVariants as kinds
use Rattle.pl_slot.specs.declared.links.Link.{Link}
use Rattle.pl_slot.specs.declared.links.Link.TheVariants.{First, Last}
use Rattle.pl_slot.specs.declared.links.Rail.{Rail}
use Rattle.pl_slot.specs.declared.links.Rail.TheVariants.{Live}
use Rattle.pl_slot.specs.declared.row.SlotRow.{SlotRow}
use Rattle.pl_slot.specs.Arena.{is_live, live_at, row_at}
use Rattle.pl_slot.specs.Links.{ends_at, is_rail, kind_at, link_at, link_in, link_place}
use Rattle.pl_slot.specs.Slot.{slot_bytes, slot_kind}
use Rattle.pl_slot.specs.SlotReading.{slot_in}
use Rattle.pl_slot.proofs.LinkPlaces.{same_rail}

-- ---- what the map tells

-- an owner with a list has an end
pub has_end : (r : Rail) (o : Owner) (slots : List Slot) (pages : Pages) → Lists r o slots pages
    → IsSome (end_at Behind r o pages)
has_end r o slots pages lists =
    ap is_some (first_behind (behind_in r o pages) (before_in r o pages) none slots lists.linked)

-- a slot has no link of any rail
abbrev pub HasNoLinks : ℕ → Pages → Type 0
HasNoLinks n pages = (r : Rail) (l : Link) → link_at r l n pages ≡ None

pub fresh_linkless : (n : ℕ) (pages : Pages) → is_live n pages ≡ false → HasNoLinks n pages
fresh_linkless n pages fresh r l =
    link_live r l n pages ∙ ap (option_and_then (link_in r l)) (is_none_at (live_at n pages) fresh)

-- a kind tells which owner of the header has its slots
abbrev owner_by : Option SlotKind → Owner → Owner
owner_by (Some kinds.Origin) other = Header Origin
owner_by (Some kinds.Place) other = Header Place
owner_by (Some kinds.Visit) other = Header Visit
owner_by (Some kinds.Item) other = Header Item
owner_by kind other = other

owner_is : (o : Owner) (kind : SlotKind) (other : Owner) → is_kind (Some kind) (member_kind Live o) ≡ true
    → owner_by (Some kind) other ≡ o
owner_is (Header Origin) kinds.Origin other is = refl
owner_is (Header Place) kinds.Place other is = refl
owner_is (Header Visit) kinds.Visit other is = refl
owner_is (Header Item) kinds.Item other is = refl
owner_is o kind other is = absurd (true≢false (sym is))

one_owner : (kind : Option SlotKind) (a b : Owner) → is_kind kind (member_kind Live a) ≡ true
    → is_kind kind (member_kind Live b) ≡ true → a ≡ b
one_owner None a b is_a is_b = absurd (true≢false (sym is_a))
one_owner (Some kind) a b is_a is_b = sym (owner_is a kind a is_a) ∙ owner_is b kind a is_b

module _ (chains : ChainMap) (pages : Pages) (are : AreChains chains pages) where
  pub one_chain : (r : Rail) (o : Owner) (slots : List Slot) → Lists r o slots pages → slots ≡ chains r o
  one_chain r o slots lists =
      one_list r o slots (chains r o) pages lists (are.lists r o (has_end r o slots pages lists))

  -- an owner of a member has an end
  pub chain_there : (r : Rail) (o : Owner) (s : Slot) → is_in s (chains r o) ≡ true → Lists r o (chains r o) pages
  chain_there r o s among = elim (cases_Bool (is_some (end_at Behind r o pages))) [
    | inl there ↦ are.lists r o there
    | inr missing ↦
        absurd (true≢false (sym among ∙ ap (is_in s) (are.none r o (is_none_at (end_at Behind r o pages) missing))))
  ]

  pub chain_member : (r : Rail) (o : Owner) (s : Slot) → is_in s (chains r o) ≡ true → is_member r o pages s ≡ true
  chain_member r o s among = kind_in r o (chains r o) pages s (chain_there r o s among) among

  pub chain_live : (r : Rail) (o : Owner) (s : Slot) → is_in s (chains r o) ≡ true → is_live s.0 pages ≡ true
  chain_live r o s among = live_member r o pages s (chain_member r o s among)

  -- what the calls that put a slot into a chain, or take it out, ask for
  pub has_place : (r : Rail) (o : Owner) (front back : List Slot) (after : Option Slot)
      → IsSome (end_at Behind r o pages) → chains r o ≡ front ++ back → last_of front ≡ after → HasPlace r o after pages
  has_place r o front back after some is last =
      record {
        front = front;
        back = back;
        lists = subst (λ l. Lists r o l pages) is (are.lists r o some);
        last = last;
      }

  member_lists : (r : Rail) (o : Owner) (front : List Slot) (slot : Slot) (back : List Slot)
      → chains r o ≡ front ++ slot ∷ back → Lists r o (front ++ slot ∷ back) pages
  member_lists r o front slot back is =
      subst (λ l. Lists r o l pages) is (chain_there r o slot (ap (is_in slot) is ∙ in_front slot front back))

  pub has_member : (r : Rail) (o : Owner) (front : List Slot) (slot : Slot) (back : List Slot)
      → chains r o ≡ front ++ slot ∷ back → HasMember r o slot pages
  has_member r o front slot back is =
      record { front = front; back = back; lists = member_lists r o front slot back is }

  -- a slot that is in no chain is in no list
  pub loose_everywhere : (r : Rail) (slot : Slot) → IsLoose r slot chains → (o : Owner) (slots : List Slot)
      → Lists r o slots pages → is_in slot slots ≡ false
  loose_everywhere r slot loose o slots lists = ap (is_in slot) (one_chain r o slots lists) ∙ loose o

  -- a slot without links is in no chain, and owns none
  pub linkless_loose : (r : Rail) (slot : Slot) → HasNoLinks slot.0 pages → IsLoose r slot chains
  linkless_loose r slot without o =
      no_test (is_in slot (chains r o)) (λ among.
      true≢false (sym (member_link r o Behind pages slot (chain_member r o slot among))
      ∙ ap is_some (without r (side_link Behind))))

  pub linkless_empty : (r : Rail) (slot : Slot) → HasNoLinks slot.0 pages → chains r (At slot) ≡ []
  linkless_empty r slot without = are.none r (At slot) (without r First)

  pub fresh_loose : (r : Rail) (slot : Slot) → is_live slot.0 pages ≡ false → IsLoose r slot chains
  fresh_loose r slot fresh = linkless_loose r slot (fresh_linkless slot.0 pages fresh)

  -- the members of the header's chains differ in kind
  pub live_apart : AreApart Live chains
  live_apart owner other slot in_one in_other =
      one_owner (kind_at slot.0 pages) owner other (chain_member Live owner slot in_one)
      (chain_member Live other slot in_other)

-- ---- which owners have ends

-- whether a slot has a link is told by what it is
link_kind : (r : Rail) (l : Link) (n : ℕ) (pages : Pages)
    → is_some (link_at r l n pages) ≡ is_some (option_and_then (link_place r l) (kind_at n pages))
unfolding link_at kind_at
link_kind r l n pages = of_slot (row_at n pages)
  where
    of_place : (row : SlotRow) (place : Option ℕ)
        → is_some (option_map (λ at. slot_in at (slot_bytes row)) place) ≡ is_some place
    of_place row None = refl
    of_place row (Some at) = refl

    of_slot : (row : Option SlotRow)
        → is_some (option_and_then (link_in r l) row)
        ≡ is_some (option_and_then (link_place r l) (option_map slot_kind row))
    of_slot None = refl
    of_slot (Some row) = of_place row (link_place r l (slot_kind row))

pub end_kinds : (side : Side) (r : Rail) (o : Owner) (old new : Pages) → ((n : ℕ) → kind_at n new ≡ kind_at n old)
    → is_some (end_at side r o new) ≡ is_some (end_at side r o old)
end_kinds side r (At x) old new same =
    link_kind r (end_link side) x.0 new
    ∙ ap (λ kind. is_some (option_and_then (link_place r (end_link side)) kind)) (same x.0)
    ∙ sym (link_kind r (end_link side) x.0 old)
end_kinds side Live (Header kind) old new same = refl
end_kinds side r (Header kind) old new same = refl

-- a slot that names a first member names a last one
pub both_ends : (r : Rail) (n : ℕ) (pages : Pages) → IsSome (link_at r First n pages) → IsSome (link_at r Last n pages)
both_ends r n pages some =
    link_kind r Last n pages ∙ of_kind (kind_at n pages) (sym (link_kind r First n pages) ∙ some)
  where
    of_place : (place : Option ℕ) → is_some place ≡ true → is_some (option_map (λ n. n + 4) place) ≡ true
    of_place None is = is
    of_place (Some at) is = refl

    of_kind : (kind : Option SlotKind) → is_some (option_and_then (link_place r First) kind) ≡ true
        → is_some (option_and_then (link_place r Last) kind) ≡ true
    of_kind None is = is
    of_kind (Some kind) is = of_place (ends_at r kind) is

-- ---- the map with another list

pub same_owner : (a b : Owner) → is_owner a b ≡ true → a ≡ b
same_owner (At x) (At y) is = ap (λ n. At (numbered n)) (eqb-true x.0 y.0 is)
same_owner (Header Origin) (Header Origin) is = refl
same_owner (Header Place) (Header Place) is = refl
same_owner (Header Visit) (Header Visit) is = refl
same_owner (Header Item) (Header Item) is = refl
same_owner a b is = absurd (true≢false (sym is))

pub owner_itself : (o : Owner) → is_owner o o ≡ true
owner_itself (At x) = eq-eqb x.0 x.0 refl
owner_itself (Header Origin) = refl
owner_itself (Header Place) = refl
owner_itself (Header Visit) = refl
owner_itself (Header Item) = refl

pub other_owner : (a b : Owner) → is_owner a b ≡ false → a ≢ b
other_owner a b other same = true≢false (sym (owner_itself b) ∙ ap (λ k. is_owner k b) (sym same) ∙ other)

rails_differ : (a b : Rail) → is_rail a b ≡ false → a ≢ b
rails_differ a b other same = true≢false (sym (rail_itself b) ∙ ap (λ k. is_rail k b) (sym same) ∙ other)

module _ (rail : Rail) (owner : Owner) (slots : List Slot) (chains : ChainMap) where
  -- lists of the rail, by whether the owner is this one
  chain_by : (o : Owner) (b : Bool) → is_owner o owner ≡ b
      → with_chain rail owner slots chains rail o ≡ cond b slots (chains rail o)
  chain_by o b is = λ i. cond (rail_itself rail i && is i) slots (chains rail o)

  pub chain_here : with_chain rail owner slots chains rail owner ≡ slots
  chain_here = chain_by owner true (owner_itself owner)

  -- every other list is the one that it was
  pub chain_beside : (r : Rail) (o : Owner) → (is_rail r rail && is_owner o owner) ≡ false
      → with_chain rail owner slots chains r o ≡ chains r o
  chain_beside r o other = ap (λ b. cond b slots (chains r o)) other

  -- no slot is in two chains of the rail, where no other owner has one of the list
  pub apart_with : AreApart rail chains
      → ((s : Slot) (o : Owner) → is_in s slots ≡ true → is_in s (chains rail o) ≡ true → owner ≡ o)
      → AreApart rail (with_chain rail owner slots chains)
  apart_with apart own a b s in_a in_b = elim (cases_Bool (is_owner a owner)) [
    | inl is_a ↦ elim (cases_Bool (is_owner b owner)) [
      | inl is_b ↦ same_owner a owner is_a ∙ sym (same_owner b owner is_b)
      | inr not_b ↦ same_owner a owner is_a ∙ own s b (among a true is_a in_a) (among b false not_b in_b)
    ]
    | inr not_a ↦ elim (cases_Bool (is_owner b owner)) [
      | inl is_b ↦ sym (same_owner b owner is_b ∙ own s a (among b true is_b in_b) (among a false not_a in_a))
      | inr not_b ↦ apart a b s (among a false not_a in_a) (among b false not_b in_b)
    ]
  ]
    where
      among : (o : Owner) (b : Bool) → is_owner o owner ≡ b
          → is_in s (with_chain rail owner slots chains rail o) ≡ true → is_in s (cond b slots (chains rail o)) ≡ true
      among o b is found = sym (ap (is_in s) (chain_by o b is)) ∙ found

  pub apart_beside : (r : Rail) → is_rail r rail ≡ false → AreApart r chains
      → AreApart r (with_chain rail owner slots chains)
  apart_beside r other apart a b s in_a in_b = apart a b s (among a in_a) (among b in_b)
    where
      among : (o : Owner) → is_in s (with_chain rail owner slots chains r o) ≡ true → is_in s (chains r o) ≡ true
      among o found = sym (ap (λ c. is_in s (cond (c && is_owner o owner) slots (chains r o))) other) ∙ found

  -- a slot that is in no chain is in none then, unless it is in the list
  pub loose_with : (r : Rail) (s : Slot) → IsLoose r s chains → (is_rail r rail ≡ true → is_in s slots ≡ false)
      → IsLoose r s (with_chain rail owner slots chains)
  loose_with r s loose never o = elim (cases_Bool (is_rail r rail && is_owner o owner)) [
    | inl here ↦
        ap (λ b. is_in s (cond b slots (chains r o))) here
        ∙ never (and_parts (is_rail r rail) (is_owner o owner) here).0
    | inr other ↦ ap (is_in s) (chain_beside r o other) ∙ loose o
  ]

  pub loose_beside : (r : Rail) (s : Slot) → is_rail r rail ≡ false → IsLoose r s chains
      → IsLoose r s (with_chain rail owner slots chains)
  loose_beside r s other loose = loose_with r s loose (λ same. absurd (true≢false (sym same ∙ other)))

-- ---- the list of one owner has changed

all_apart : (xs ys : List Slot) → ((s : Slot) → is_in s xs ≡ true → is_in s ys ≡ false) → are_apart xs ys ≡ true
all_apart [] ys never = refl
all_apart (x ∷ xs) ys never =
    and_from (not (is_in x ys)) (are_apart xs ys) (ap not (never x (in_front x [] xs)))
    (all_apart xs ys (λ s among. never s (or_right (x.0 == s.0) (is_in s xs) among)))

module _ (rail : Rail) (owner : Owner) (slots : List Slot) (chains : ChainMap) (old new : Pages)
    (are : AreChains chains old) (apart : AreApart rail chains) (some : IsSome (end_at Behind rail owner old))
    (list : Lists rail owner slots new) (owners : KeepsOwners rail owner (chains rail owner) old new)
    (others : KeepsRails rail old new) (rest : KeepsRest rail owner old new) where
  other_kept : (r : Rail) (o : Owner) → (is_rail r rail && is_owner o owner) ≡ false → Lists r o (chains r o) old
      → Lists r o (chains r o) new
  other_kept r o other lists = elim (cases_Bool (is_rail r rail)) [
    | inl same ↦
        let here : r ≡ rail = same_rail r rail same in
        let beside : o ≢ owner = other_owner o owner (ap (λ b. b && is_owner o owner) (sym same) ∙ other) in
        subst (λ k. Lists k o (chains k o) new) (sym here)
        (owners o (chains rail o) beside
        (all_apart (chains rail o) (chains rail owner)
        (λ s among. no_test (is_in s (chains rail owner)) (λ also. beside (apart o owner s among also))))
        (subst (λ k. Lists k o (chains k o) old) here lists))
    | inr differ ↦ others r o (chains r o) (rails_differ r rail differ) lists
  ]

  pub changed_chains : AreChains (with_chain rail owner slots chains) new
  changed_chains =
      record {
        lists = λ r o there. elim (cases_Bool (is_rail r rail && is_owner o owner)) [
          | inl here ↦
              let parts = and_parts (is_rail r rail) (is_owner o owner) here in
              subst (λ b. Lists r o (cond b slots (chains r o)) new) (sym here)
              (subst (λ k. Lists k o slots new) (sym (same_rail r rail parts.0))
              (subst (λ k. Lists rail k slots new) (sym (same_owner o owner parts.1)) list))
          | inr other ↦
              subst (λ b. Lists r o (cond b slots (chains r o)) new) (sym other)
              (other_kept r o other (are.lists r o (sym (end_kinds Behind r o old new rest.kinds) ∙ there)))
        ];
        none = λ r o missing. elim (cases_Bool (is_rail r rail && is_owner o owner)) [
          | inl here ↦
              let parts = and_parts (is_rail r rail) (is_owner o owner) here in
              absurd (true≢false (sym some
              ∙ sym (λ i. is_some (end_at Behind (same_rail r rail parts.0 i) (same_owner o owner parts.1 i) old))
              ∙ sym (end_kinds Behind r o old new rest.kinds) ∙ ap is_some missing))
          | inr other ↦
              chain_beside rail owner slots chains r o other
              ∙ are.none r o (is_none_at (end_at Behind r o old)
              (sym (end_kinds Behind r o old new rest.kinds) ∙ ap is_some missing))
        ];
      }

-- ---- a member comes

-- where a slot stands among others does not matter
in_moved : (s slot : Slot) (front back : List Slot)
    → is_in s (front ++ slot ∷ back) ≡ ((slot.0 == s.0) || is_in s (front ++ back))
in_moved s slot [] back = refl
in_moved s slot (x ∷ front) back =
    ap (λ b. (x.0 == s.0) || b) (in_moved s slot front back)
    ∙ swapped (x.0 == s.0) (slot.0 == s.0) (is_in s (front ++ back))
  where
    swapped : (a b c : Bool) → (a || (b || c)) ≡ (b || (a || c))
    swapped true true c = refl
    swapped true false c = refl
    swapped false b c = refl

module _ (rail : Rail) (owner : Owner) (slot : Slot) (front back : List Slot) (chains : ChainMap)
    (apart : AreApart rail chains) (is : chains rail owner ≡ front ++ back) where
  pub inserted_chains : (after : Option Slot) (old new : Pages) → AreChains chains old
      → IsSome (end_at Behind rail owner old) → last_of front ≡ after
      → ((front back : List Slot) → Lists rail owner (front ++ back) old → last_of front ≡ after
      → Lists rail owner (front ++ slot ∷ back) new)
      → ((slots : List Slot) → Lists rail owner slots old → KeepsOwners rail owner slots old new)
      → KeepsRails rail old new → KeepsRest rail owner old new
      → AreChains (with_chain rail owner (front ++ slot ∷ back) chains) new
  inserted_chains after old new are some last list owners others rest =
      let there : Lists rail owner (chains rail owner) old = are.lists rail owner some in
      changed_chains rail owner (front ++ slot ∷ back) chains old new are apart some
      (list front back (subst (λ l. Lists rail owner l old) is there) last) (owners (chains rail owner) there) others
      rest

  pub inserted_apart : IsLoose rail slot chains → AreApart rail (with_chain rail owner (front ++ slot ∷ back) chains)
  inserted_apart loose =
      apart_with rail owner (front ++ slot ∷ back) chains apart
      (λ s o within also. elim (or_cases (slot.0 == s.0) (is_in s (front ++ back))
      (sym (in_moved s slot front back) ∙ within)) [
        | inl here ↦
            absurd (true≢false (sym also
            ∙ ap (λ n. is_in (numbered n) (chains rail o)) (sym (eqb-true slot.0 s.0 here)) ∙ loose o))
        | inr further ↦ apart owner o s (ap (is_in s) is ∙ further) also
      ])

  pub inserted_loose : (s : Slot) → s ≢ slot → IsLoose rail s chains
      → IsLoose rail s (with_chain rail owner (front ++ slot ∷ back) chains)
  inserted_loose s other loose =
      let here : (slot.0 == s.0) ≡ false = ne_eqb slot.0 s.0 (λ same. other (ap numbered (sym same))) in
      let beside : is_in s (front ++ back) ≡ false = sym (ap (is_in s) is) ∙ loose owner in
      loose_with rail owner (front ++ slot ∷ back) chains rail s loose
      (λ _. in_moved s slot front back ∙ λ i. here i || beside i)

-- ---- a member goes

pub not_in : (m : Slot) (xs : List Slot) → Differ m xs → is_in m xs ≡ false
not_in m [] apart = refl
not_in m (x ∷ xs) apart =
    let here : (x.0 == m.0) ≡ false = ne_eqb x.0 m.0 (λ same. apart.0 (ap numbered same)) in
    ap (λ b. b || is_in m xs) here ∙ not_in m xs apart.1

module _ (rail : Rail) (owner : Owner) (slot : Slot) (front back : List Slot) (chains : ChainMap)
    (apart : AreApart rail chains) (is : chains rail owner ≡ front ++ slot ∷ back) where
  member_here : is_in slot (chains rail owner) ≡ true
  member_here = ap (is_in slot) is ∙ in_front slot front back

  pub unlinked_chains : (old new : Pages) → AreChains chains old
      → ((front back : List Slot) → Lists rail owner (front ++ slot ∷ back) old → Lists rail owner (front ++ back) new)
      → ((slots : List Slot) → Lists rail owner slots old → KeepsOwners rail owner slots old new)
      → KeepsRails rail old new → KeepsRest rail owner old new
      → AreChains (with_chain rail owner (front ++ back) chains) new
  unlinked_chains old new are list owners others rest =
      let there : Lists rail owner (chains rail owner) old = chain_there chains old are rail owner slot member_here in
      changed_chains rail owner (front ++ back) chains old new are apart
      (has_end rail owner (chains rail owner) old there)
      (list front back (member_lists chains old are rail owner front slot back is)) (owners (chains rail owner) there)
      others rest

  pub unlinked_apart : AreApart rail (with_chain rail owner (front ++ back) chains)
  unlinked_apart =
      apart_with rail owner (front ++ back) chains apart
      (λ s o within also.
      apart owner o s (ap (is_in s) is ∙ in_moved s slot front back
      ∙ or_right (slot.0 == s.0) (is_in s (front ++ back)) within) also)

  -- the slot is in no chain of the rail then
  pub unlinked_loose : (old : Pages) → AreChains chains old
      → IsLoose rail slot (with_chain rail owner (front ++ back) chains)
  unlinked_loose old are o = elim (cases_Bool (is_owner o owner)) [
    | inl here ↦
        let stood =
        stands rail owner front slot back old (member_lists chains old are rail owner front slot back is) in
        ap (is_in slot) (chain_by rail owner (front ++ back) chains o true here)
        ∙ not_in slot (front ++ back) (differ_both slot front back stood.front_differs stood.back_differs)
    | inr other ↦
        ap (is_in slot) (chain_by rail owner (front ++ back) chains o false other)
        ∙ no_test (is_in slot (chains rail o))
        (λ also. other_owner o owner other (apart o owner slot also member_here))
  ]

  pub unlinked_others : (s : Slot) → IsLoose rail s chains
      → IsLoose rail s (with_chain rail owner (front ++ back) chains)
  unlinked_others s loose =
      loose_with rail owner (front ++ back) chains rail s loose
      (λ _. (or_parts (slot.0 == s.0) (is_in s (front ++ back))
      (sym (ap (is_in s) is ∙ in_moved s slot front back) ∙ loose owner)).1)

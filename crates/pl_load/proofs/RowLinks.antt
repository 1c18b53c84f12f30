-- What the kinds of rows tell: the links that their slots have, as owners and as members of chains.
use Rattle.std.proofs.Common.{◌≡◌, ◌∷◌, ◌==◌, [], Bool, IsSome, List, None, Option, Some, eq-eqb}
use Rattle.std.proofs.Common.{eqb-true, filter, false, if◌then◌else◌, map, refl, sym, true, ℕ}
use Rattle.std.proofs.lemmas.Bool.{true≢false}
use Rattle.std.proofs.lemmas.List.Elements.{All-from_recursion, All-map, recursion_from_All}
use Rattle.std.specs.List.{All, AllByRecursion, zip}
use Rattle.pl_base.specs.declared.id.Slot.{Slot}
use Rattle.pl_base.proofs.ListLaws.{weaker}
use Rattle.pl_load.proofs.ItemSlots.{item_by_kind}
use Rattle.pl_load.proofs.ListParts.{all_pass}
use Rattle.pl_load.proofs.PairLists.{all_first}
use Rattle.pl_owned.specs.declared.owned.Member.{Member}
use Rattle.pl_owned.specs.Owned.{owned_by}
use Rattle.pl_rail.specs.declared.owner.Owner.TheVariants.{Header}
use Rattle.pl_rail.specs.Rails.{Lists, is_kind, is_member, none}
use Rattle.pl_record.proofs.RowKinds.{link_there}
use Rattle.pl_record.proofs.SlotSteps.{origin_by_kind}
use Rattle.pl_record.proofs.VisitPlace.{visit_by_kind}
use Rattle.pl_sheets.specs.Sheets.{Pages}
use Rattle.pl_slot.specs.declared.kind.LiveKind.TheVariants as live
use Rattle.pl_slot.specs.declared.kind.SlotKind.{SlotKind}
use Rattle.pl_slot.specs.declared.kind.SlotKind.TheVariants as kinds
use Rattle.pl_slot.specs.declared.links.Link.{Link}
use Rattle.pl_slot.specs.declared.links.Rail.{Rail}
use Rattle.pl_slot.specs.declared.links.Rail.TheVariants.{Live}
use Rattle.pl_slot.specs.Links.{kind_at, link_at, link_place}

place_by_kind : (kind : Option SlotKind) → is_kind kind (Some kinds.Place) ≡ true → kind ≡ Some kinds.Place
place_by_kind None is = absurd (true≢false (sym is))
place_by_kind (Some kinds.Place) is = refl
place_by_kind (Some kinds.Free) is = absurd (true≢false (sym is))
place_by_kind (Some kinds.Origin) is = absurd (true≢false (sym is))
place_by_kind (Some kinds.Visit) is = absurd (true≢false (sym is))
place_by_kind (Some kinds.Item) is = absurd (true≢false (sym is))
place_by_kind (Some kinds.Text) is = absurd (true≢false (sym is))

module _ (pages : Pages) where
  -- ---- slots that the header lists

  abbrev pub Of : SlotKind → Slot → Type 0
  Of kind s = kind_at s.0 pages ≡ Some kind

  pub origins_are : (slots : List Slot) → Lists Live (Header live.Origin) slots pages
      → AllByRecursion (Of kinds.Origin) slots
  origins_are slots lists =
      weaker (λ (s : Slot). is_member Live (Header live.Origin) pages s ≡ true) (Of kinds.Origin) slots
      (λ s member. origin_by_kind (kind_at s.0 pages) member)
      (all_pass (is_member Live (Header live.Origin) pages) slots lists.members)

  pub places_are : (slots : List Slot) → Lists Live (Header live.Place) slots pages
      → AllByRecursion (Of kinds.Place) slots
  places_are slots lists =
      weaker (λ (s : Slot). is_member Live (Header live.Place) pages s ≡ true) (Of kinds.Place) slots
      (λ s member. place_by_kind (kind_at s.0 pages) member)
      (all_pass (is_member Live (Header live.Place) pages) slots lists.members)

  pub visits_are : (slots : List Slot) → Lists Live (Header live.Visit) slots pages
      → AllByRecursion (Of kinds.Visit) slots
  visits_are slots lists =
      weaker (λ (s : Slot). is_member Live (Header live.Visit) pages s ≡ true) (Of kinds.Visit) slots
      (λ s member. visit_by_kind (kind_at s.0 pages) member)
      (all_pass (is_member Live (Header live.Visit) pages) slots lists.members)

  pub items_are : (slots : List Slot) → Lists Live (Header live.Item) slots pages
      → AllByRecursion (Of kinds.Item) slots
  items_are slots lists =
      weaker (λ (s : Slot). is_member Live (Header live.Item) pages s ≡ true) (Of kinds.Item) slots
      (λ s member. item_by_kind (kind_at s.0 pages) member)
      (all_pass (is_member Live (Header live.Item) pages) slots lists.members)

  -- ---- links of slots of a kind

  module _ (rail : Rail) (link : Link) (kind : SlotKind) (place : ℕ) (has : link_place rail link kind ≡ Some place)
    where
      -- of each of them
      pub each_linked : (slots : List Slot) → AllByRecursion (Of kind) slots
          → All (λ (s : Slot). IsSome (link_at rail link s.0 pages)) slots
      each_linked slots are =
          All-from_recursion (λ (s : Slot). IsSome (link_at rail link s.0 pages)) slots
          (weaker (Of kind) (λ (s : Slot). IsSome (link_at rail link s.0 pages)) slots
          (λ s is. link_there rail link s.0 kind place pages is has) are)

      -- of members that are made of them
      pub made_linked : {Row : Type 0} (owner : Slot × Row → Slot) (slots : List Slot) (rows : List Row)
          → AllByRecursion (Of kind) slots
          → All (λ (m : Member). IsSome (link_at rail link m.slot.0 pages))
          (map (λ (r : Slot × Row). record { owner = owner r; slot = r.0 }) (zip slots rows))
      made_linked {Row} owner slots rows are =
          All-map (λ (m : Member). IsSome (link_at rail link m.slot.0 pages))
          (λ (r : Slot × Row). record { owner = owner r; slot = r.0 }) (zip slots rows)
          (All-from_recursion (λ (r : Slot × Row). IsSome (link_at rail link r.0.0 pages)) (zip slots rows)
          (all_first (λ (s : Slot). IsSome (link_at rail link s.0 pages)) slots rows
          (recursion_from_All (λ (s : Slot). IsSome (link_at rail link s.0 pages)) slots (each_linked slots are))))

-- ---- members that name no owner

module _ (P : Slot → Type 0) where
  abbrev Lone : Member → Type 0
  Lone m = m.owner.0 ≡ 0 → P m.slot

  kept : (b : Bool) (m : Member) (rest : List Member) → (b ≡ true → P m.slot)
      → AllByRecursion P (map (λ (k : Member). k.slot) rest)
      → AllByRecursion P (map (λ (k : Member). k.slot) (if b then m ∷ rest else rest))
  kept true m rest here all = (here refl, all)
  kept false m rest here all = all

  split : (b : Bool) (m : Member) (rest : List Member)
      → AllByRecursion P (map (λ (k : Member). k.slot) (if b then m ∷ rest else rest))
      → (b ≡ true → P m.slot) × AllByRecursion P (map (λ (k : Member). k.slot) rest)
  split true m rest all = (λ is. all.0, all.1)
  split false m rest all = (λ is. absurd (true≢false (sym is)), all)

  owned_hold : (members : List Member) → AllByRecursion Lone members → AllByRecursion P (owned_by members none)
  owned_hold [] all = tt
  owned_hold (m ∷ members) all =
      kept (m.owner.0 == 0) m (filter (λ (k : Member). k.owner.0 == 0) members)
      (λ is. all.0 (eqb-true m.owner.0 0 is)) (owned_hold members all.1)

  hold_owned : (members : List Member) → AllByRecursion P (owned_by members none) → AllByRecursion Lone members
  hold_owned [] all = tt
  hold_owned (m ∷ members) all =
      let parts = split (m.owner.0 == 0) m (filter (λ (k : Member). k.owner.0 == 0) members) all in
      (λ is. parts.0 (eq-eqb m.owner.0 0 is), hold_owned members parts.1)

  pub all_owned : (members : List Member) → All Lone members → All P (owned_by members none)
  all_owned members all =
      All-from_recursion P (owned_by members none) (owned_hold members (recursion_from_All Lone members all))

  pub owned_all : (members : List Member) → All P (owned_by members none) → All Lone members
  owned_all members all =
      All-from_recursion Lone members (hold_owned members (recursion_from_All P (owned_by members none) all))

  -- where all members hold
  pub some_owned : (members : List Member) → All (λ (m : Member). P m.slot) members → All P (owned_by members none)
  some_owned members all =
      all_owned members
      (All-from_recursion Lone members
      (weaker (λ (m : Member). P m.slot) Lone members (λ m here is. here)
      (recursion_from_All (λ (m : Member). P m.slot) members all)))

-- The parents of items, where the list of each item has the slots that name it: the lists are those
-- of its children's slots, and each row names the slot of its parent.
use Rattle.std.proofs.Common.{◌≡◌, ◌≢◌, ◌∙◌, ◌⊎◌, ◌==◌, ◌∷◌, [], Bool, List, Option, Some, None, ap, eq-eqb}
use Rattle.std.proofs.Common.{filter, find, inl, inr, length, map, refl, subst, sym, true}
use Rattle.std.specs.List.{All, AllByRecursion, AllPairs, AllZip, list_all, zip}
use Rattle.std.specs.Option.{option_map}
use Rattle.std.proofs.lemmas.Bool.{and_parts, true≢false}
use Rattle.std.proofs.lemmas.List.{length-map}
use Rattle.std.proofs.lemmas.List.Elements.{All-from_recursion, recursion_from_All}
use Rattle.std.proofs.lemmas.List.Sorted.{IsPermutation-sym}
use Rattle.std.proofs.lemmas.Option.{same_Some}
use Rattle.pl_base.specs.declared.id.ItemId.{ItemId}
use Rattle.pl_base.specs.declared.id.Slot.{Slot}
use Rattle.pl_base.specs.Good.{child_ids}
use Rattle.pl_base.specs.Store.{Item as TreeItem}
use Rattle.pl_base.specs.Tree.{has_child, parent_of}
use Rattle.pl_base.proofs.Among.{In, all_from_in, at_in, from_filter, from_found, from_map, in_filter, in_map}
use Rattle.pl_base.proofs.ListLaws.{to_map, weaker}
use Rattle.pl_base.proofs.LookUps.{found_passes}
use Rattle.pl_load.specs.Members.{parent_members}
use Rattle.pl_load.proofs.ItemSlots as given
use Rattle.pl_load.proofs.ItemSlots.{HaveSlots, child_in, in_child, in_moved, item_by_kind, members_paired}
use Rattle.pl_load.proofs.Lists.{owned_map}
use Rattle.pl_load.proofs.PairLists.{apart_first, in_zip, map_from_zip, zip_joined}
use Rattle.pl_load.proofs.SameMembers.{same_key}
use Rattle.pl_owned.specs.declared.owned.Member.{Member}
use Rattle.pl_owned.specs.Owned.{IsListed, owned_by}
use Rattle.pl_rail.specs.declared.owner.Owner.TheVariants.{At}
use Rattle.pl_rail.specs.Rails.{Lists, is_in, is_member, none}
use Rattle.pl_record.specs.declared.rows.Item.{Item}
use Rattle.pl_record.specs.Records.{slot_or_none}
use Rattle.pl_record.specs.Rows.{item_in}
use Rattle.pl_sheets.specs.Sheets.{Pages}
use Rattle.pl_slot.specs.declared.kind.SlotKind.TheVariants as kinds
use Rattle.pl_slot.specs.declared.links.Rail.TheVariants.{Children}
use Rattle.pl_slot.specs.Links.{kind_at}

-- a row names no parent, or one of the slots
abbrev pub NamesParent : List Slot → Slot → Type 0
NamesParent slots parent = (parent ≡ none) ⊎ (is_in parent slots ≡ true)

module _ (pages : Pages) (items : List TreeItem) (slot_of : ItemId → Slot) (slots : List Slot) (rows : List Item)
    (lists : List (List Slot)) (in_slots : HaveSlots pages items slot_of slots)
    (parents : AllZip (IsListed Children (parent_members slots rows) pages) slots lists)
    (said : AllZip (λ (list : List Slot) (i : TreeItem). map (item_in pages) list ≡ map Some i.children) lists items)
    (there : (s : Slot) → kind_at s.0 pages ≡ Some kinds.Item → is_in s slots ≡ true) where
  -- ---- the list of each item

  -- the list of an item, which says the ids of its children
  record HasList (i : TreeItem) : Type 0 where
    pub list : List Slot
    pub listed : IsListed Children (parent_members slots rows) pages (slot_of i.id) list
    pub read : map (item_in pages) list ≡ map Some i.children

  lists_told : AllByRecursion HasList items
  lists_told =
      weaker
      (λ (i : TreeItem). (list : List Slot)
      × IsListed Children (parent_members slots rows) pages (slot_of i.id) list
      × (map (item_in pages) list ≡ map Some i.children))
      HasList items (λ i told. record { list = told.0; listed = told.1; read = told.2 })
      (zip_joined (IsListed Children (parent_members slots rows) pages)
      (λ (list : List Slot) (i : TreeItem). map (item_in pages) list ≡ map Some i.children)
      (λ (i : TreeItem). slot_of i.id) items lists
      (subst (λ (ss : List Slot). AllZip (IsListed Children (parent_members slots rows) pages) ss lists) in_slots.are
      parents)
      said)

  list_of : (i : TreeItem) → In i items → HasList i
  list_of i within = at_in HasList items i lists_told within

  -- a slot of an item is that of the id that it says
  slot_is : (s : Slot) (c : ItemId) → kind_at s.0 pages ≡ Some kinds.Item → item_in pages s ≡ Some c → s ≡ slot_of c
  slot_is s c kind told =
      let own = given.slot_at pages items slot_of slots in_slots s (there s kind) in
      let i : TreeItem = own.0 in
      let same : Some i.id ≡ Some c =
      sym (given.slot_says pages items slot_of slots in_slots i own.1) ∙ ap (item_in pages) (sym own.2) ∙ told in
      own.2 ∙ ap slot_of (same_Some i.id c same)

  list_is : (owner : Slot) (list : List Slot) (cs : List ItemId)
      → list_all (is_member Children (At owner) pages) list ≡ true → map (item_in pages) list ≡ map Some cs
      → list ≡ map slot_of cs
  list_is owner [] [] members told = refl
  list_is owner [] (c ∷ cs) members told = absurd (cc)
  list_is owner (s ∷ list) [] members told = absurd (cc)
  list_is owner (s ∷ list) (c ∷ cs) members told =
      let parts =
      and_parts (is_member Children (At owner) pages s) (list_all (is_member Children (At owner) pages) list) members in
      let head : item_in pages s ≡ Some c = cc in
      let tail : map (item_in pages) list ≡ map Some cs = cc in
      let first : s ≡ slot_of c = slot_is s c (item_by_kind (kind_at s.0 pages) parts.0) head in
      let rest : list ≡ map slot_of cs = list_is owner list cs parts.1 tail in
      λ i. first i ∷ rest i

  children_are : (i : TreeItem) (has : HasList i) → has.list ≡ map slot_of i.children
  children_are i has = list_is (slot_of i.id) has.list i.children has.listed.lists.members has.read

  -- the chain of each item has the slots of its children
  pub chains : All (λ (i : TreeItem). Lists Children (At (slot_of i.id)) (map slot_of i.children) pages) items
  chains =
      All-from_recursion (λ (i : TreeItem). Lists Children (At (slot_of i.id)) (map slot_of i.children) pages) items
      (weaker HasList (λ (i : TreeItem). Lists Children (At (slot_of i.id)) (map slot_of i.children) pages) items
      (λ i has.
      subst (λ (list : List Slot). Lists Children (At (slot_of i.id)) list pages) (children_are i has)
      has.listed.lists)
      lists_told)

  -- ---- the parent of each item

  module _ (ids : map (λ (r : Item). r.id) rows ≡ map (λ (i : TreeItem). i.id) items)
      (named : All (λ (r : Item). NamesParent slots r.parent) rows)
      (once : AllPairs (λ (a b : ItemId). a ≢ b) (child_ids items)) where
    -- the slots that rows name, and each item with that of its row
    abbrev parent_slots : List Slot
    parent_slots = map (λ (r : Item). r.parent) rows

    abbrev pairs : List (TreeItem × Slot)
    pairs = zip items parent_slots

    abbrev names_slot : Slot → TreeItem × Slot → Bool
    names_slot owner p = p.1.0 == owner.0

    abbrev pair_slot : TreeItem × Slot → Slot
    pair_slot p = slot_of p.0.id

    owned_are : (owner : Slot)
        → owned_by (parent_members slots rows) owner ≡ map pair_slot (filter (names_slot owner) pairs)
    owned_are owner =
        ap (λ (ms : List Member). owned_by ms owner)
        (ap (λ (ss : List Slot). parent_members ss rows) in_slots.are ∙ members_paired slot_of items rows)
        ∙ owned_map (λ (p : TreeItem × Slot). p.1) pair_slot pairs owner

    -- an item whose row names the slot of another is a child of that
    named_child : (i : TreeItem) (parent : Slot) → In (i, parent) pairs → (q : TreeItem) → In q items
        → parent ≡ slot_of q.id → has_child i.id q ≡ true
    named_child i parent within q q_in same =
        let has = list_of q q_in in
        let owned : In (slot_of i.id) (owned_by (parent_members slots rows) (slot_of q.id)) =
        subst (λ (ss : List Slot). In (slot_of i.id) ss) (sym (owned_are (slot_of q.id)))
        (in_map pair_slot (filter (names_slot (slot_of q.id)) pairs) (i, parent)
        (in_filter (names_slot (slot_of q.id)) pairs (i, parent) within
        (eq-eqb parent.0 (slot_of q.id).0 (ap (λ (s : Slot). s.0) same)))) in
        let listed : In (slot_of i.id) has.list =
        in_moved (slot_of i.id) (owned_by (parent_members slots rows) (slot_of q.id)) has.list
        (IsPermutation-sym has.list (owned_by (parent_members slots rows) (slot_of q.id)) has.listed.same) owned in
        let says : item_in pages (slot_of i.id) ≡ Some i.id =
        given.slot_says pages items slot_of slots in_slots i (in_zip items parent_slots (i, parent) within).0 in
        let told : In (item_in pages (slot_of i.id)) (map Some q.children) =
        subst (λ (os : List (Option ItemId)). In (item_in pages (slot_of i.id)) os) has.read
        (in_map (item_in pages) has.list (slot_of i.id) listed) in
        let found = from_map Some q.children (item_in pages (slot_of i.id)) told in
        let c : ItemId = found.0 in
        in_child q i.id
        (subst (λ (d : ItemId). In d q.children) (sym (same_Some i.id c (sym says ∙ found.2))) found.1)

    -- the row of an item's child names the item's slot
    child_named : (i : TreeItem) (parent : Slot) → In (i, parent) pairs → (q : TreeItem) → In q items
        → has_child i.id q ≡ true → (parent.0 == (slot_of q.id).0) ≡ true
    child_named i parent within q q_in child =
        let has = list_of q q_in in
        let listed : In (slot_of i.id) has.list =
        subst (λ (ss : List Slot). In (slot_of i.id) ss) (sym (children_are q has))
        (in_map slot_of q.children i.id (child_in q i.id child)) in
        let owned : In (slot_of i.id) (map pair_slot (filter (names_slot (slot_of q.id)) pairs)) =
        subst (λ (ss : List Slot). In (slot_of i.id) ss) (owned_are (slot_of q.id))
        (in_moved (slot_of i.id) has.list (owned_by (parent_members slots rows) (slot_of q.id)) has.listed.same
        listed) in
        let found = from_map pair_slot (filter (names_slot (slot_of q.id)) pairs) (slot_of i.id) owned in
        let other : TreeItem × Slot = found.0 in
        let kept = from_filter (names_slot (slot_of q.id)) pairs other found.1 in
        let same_id : i.id ≡ other.0.id =
        given.one_id pages items slot_of slots in_slots i.id other.0.id
        (given.slot_says pages items slot_of slots in_slots i (in_zip items parent_slots (i, parent) within).0)
        (given.slot_says pages items slot_of slots in_slots other.0 (in_zip items parent_slots other kept.0).0)
        found.2 in
        let same : (i, parent) ≡ other =
        same_key (λ (p : TreeItem × Slot). p.0.id.0) pairs (i, parent) other
        (apart_first (λ (j : TreeItem). j.id.0) items parent_slots
        (given.items_apart pages items slot_of slots in_slots))
        within kept.0 (ap (λ (c : ItemId). c.0) same_id) in
        ap (names_slot (slot_of q.id)) same ∙ kept.1

    parent_is : (i : TreeItem) (parent : Slot) → In (i, parent) pairs → NamesParent slots parent
        → parent ≡ slot_or_none slot_of (parent_of items i.id)
    parent_is i parent within (inr among) =
        let own = given.slot_at pages items slot_of slots in_slots parent among in
        let q : TreeItem = own.0 in
        own.2
        ∙ sym (ap (λ (o : Option TreeItem). slot_or_none slot_of (option_map (λ (j : TreeItem). j.id) o))
        (given.is_parent pages items slot_of slots in_slots once q own.1 i.id
        (named_child i parent within q own.1 own.2)))
    parent_is i parent within (inl nothing) = choose (find (has_child i.id) items) refl
      where
        choose : (o : Option TreeItem) → find (has_child i.id) items ≡ o
            → parent ≡ slot_or_none slot_of (option_map (λ (j : TreeItem). j.id) o)
        choose None is = nothing
        choose (Some q) is =
            let q_in : In q items = (from_found (has_child i.id) items q is).0 in
            let zero : (0 == (slot_of q.id).0) ≡ true =
            ap (λ (s : Slot). s.0 == (slot_of q.id).0) (sym nothing)
            ∙ child_named i parent within q q_in (found_passes (has_child i.id) items q is) in
            absurd (true≢false (sym zero
            ∙ given.no_own pages items slot_of slots in_slots q.id
            (given.slot_says pages items slot_of slots in_slots q q_in)))

    rows_long : length parent_slots ≡ length items
    rows_long =
        length-map rows (λ (r : Item). r.parent)
        ∙ sym (length-map rows (λ (r : Item). r.id))
        ∙ ap length ids
        ∙ length-map items (λ (i : TreeItem). i.id)

    -- each row names the slot of its item's parent
    pub parents_agree : map (λ (r : Item). r.parent) rows
        ≡ map (λ (i : TreeItem). slot_or_none slot_of (parent_of items i.id)) items
    parents_agree =
        map_from_zip (λ (i : TreeItem). slot_or_none slot_of (parent_of items i.id)) items parent_slots rows_long
        (all_from_in (λ (p : TreeItem × Slot). p.1 ≡ slot_or_none slot_of (parent_of items p.0.id)) pairs
        (λ p within.
        parent_is p.0 p.1 within
        (at_in (NamesParent slots) parent_slots p.1
        (to_map (NamesParent slots) (λ (r : Item). r.parent) rows
        (recursion_from_All (λ (r : Item). NamesParent slots r.parent) rows named))
        (in_zip items parent_slots p within).1)))

-- Items in slots that say their ids: which item a slot is that of, and which slots name an item as
-- their parent.
use Rattle.std.proofs.Common.{◌≡◌, ◌≢◌, ◌∙◌, ◌==◌, ◌∷◌, [], List, Option, Some, None, ap, eq-eqb, eqb-true}
use Rattle.std.proofs.Common.{false, find, map, refl, subst, sym, true}
use Rattle.std.specs.List.{All, AllPairs, zip}
use Rattle.std.specs.List.Sorted.{IsPermutation, IsStrictlyIncreasing}
use Rattle.std.specs.Option.{option_and_then, option_map}
use Rattle.std.proofs.lemmas.Bool.{true≢false}
use Rattle.std.proofs.lemmas.List.Elements.{recursion_from_All}
use Rattle.std.proofs.lemmas.List.Sorted.{list_any-IsPermutation}
use Rattle.std.proofs.lemmas.Option.{same_Some}
use Rattle.pl_base.specs.declared.id.ItemId.{ItemId}
use Rattle.pl_base.specs.declared.id.Slot.{Slot}
use Rattle.pl_base.specs.Good.{child_ids}
use Rattle.pl_base.specs.Store.{Item as TreeItem}
use Rattle.pl_base.specs.Tree.{has_child, parent_of}
use Rattle.pl_base.proofs.Among.{In, any_from_in, at_in, from_any, from_found, from_map}
use Rattle.pl_base.proofs.IdsLaws.{same_slot}
use Rattle.pl_base.proofs.ItemLookUps.{same_item, same_item_number}
use Rattle.pl_base.proofs.LookUps.{Apart, apart_increasing, found_passes}
use Rattle.pl_base.proofs.OneParent.{IsParent, parents_found}
use Rattle.pl_base.proofs.OneParent as parents
use Rattle.pl_base.proofs.Truths.{no_test, same_tests}
use Rattle.pl_load.specs.Members.{parent_members}
use Rattle.pl_load.proofs.SameMembers.{same_key}
use Rattle.pl_load.proofs.SlotNames as names
use Rattle.pl_owned.specs.declared.owned.Member.{Member}
use Rattle.pl_rail.specs.Rails.{is_in, is_kind, none}
use Rattle.pl_record.specs.declared.rows.Item.{Item}
use Rattle.pl_record.specs.Records.{slot_or_none, unlinked}
use Rattle.pl_record.specs.Rows.{item_id, item_in}
use Rattle.pl_sheets.specs.Sheets.{Pages}
use Rattle.pl_slot.specs.declared.kind.SlotKind.{SlotKind}
use Rattle.pl_slot.specs.declared.kind.SlotKind.TheVariants as kinds
use Rattle.pl_slot.proofs.SlotPlaces.{no_slot}

-- items by ascending id, and the slots that say their ids
pub record HaveSlots (pages : Pages) (items : List TreeItem) (slot_of : ItemId → Slot) (slots : List Slot) : Type 0
  where
    pub are : slots ≡ map (λ (i : TreeItem). slot_of i.id) items
    pub ascending : IsStrictlyIncreasing (map (λ (i : TreeItem). i.id.0) items)
    pub says : All (λ (i : TreeItem). item_in pages (slot_of i.id) ≡ Some i.id) items

-- slot 0 is that of no item
pub no_item : (pages : Pages) → item_in pages none ≡ None
no_item pages = ap (λ o. option_and_then item_id (option_map unlinked o)) (no_slot 0 pages refl)

pub item_by_kind : (kind : Option SlotKind) → is_kind kind (Some kinds.Item) ≡ true → kind ≡ Some kinds.Item
item_by_kind None is = absurd (true≢false (sym is))
item_by_kind (Some kinds.Item) is = refl
item_by_kind (Some kinds.Free) is = absurd (true≢false (sym is))
item_by_kind (Some kinds.Origin) is = absurd (true≢false (sym is))
item_by_kind (Some kinds.Place) is = absurd (true≢false (sym is))
item_by_kind (Some kinds.Visit) is = absurd (true≢false (sym is))
item_by_kind (Some kinds.Text) is = absurd (true≢false (sym is))

-- ---- slots in lists

pub slot_among : (s : Slot) (slots : List Slot) → is_in s slots ≡ true → In s slots
slot_among s slots among =
    let r = from_any (λ (o : Slot). o.0 == s.0) slots among in
    let other : Slot = r.0 in
    subst (λ (o : Slot). In o slots) (same_slot other s (eqb-true other.0 s.0 r.2)) r.1

-- a slot is in a list however that is put in order
pub in_moved : (s : Slot) (xs ys : List Slot) → IsPermutation xs ys → In s xs → In s ys
in_moved s xs ys moves within =
    slot_among s ys
    (sym (list_any-IsPermutation (λ (o : Slot). o.0 == s.0) xs ys moves)
    ∙ any_from_in (λ (o : Slot). o.0 == s.0) xs s within (eq-eqb s.0 s.0 refl))

-- ---- children

pub child_in : (i : TreeItem) (id : ItemId) → has_child id i ≡ true → In id i.children
child_in i id has =
    let r = from_any (λ (c : ItemId). c.0 == id.0) i.children has in
    subst (λ (c : ItemId). In c i.children) (same_item r.0 id r.2) r.1

pub in_child : (i : TreeItem) (id : ItemId) → In id i.children → has_child id i ≡ true
in_child i id within = any_from_in (λ (c : ItemId). c.0 == id.0) i.children id within (eq-eqb id.0 id.0 refl)

-- ---- members, as pairs of an item and the slot that its row names as its parent

abbrev pub pair_member : (ItemId → Slot) → TreeItem × Slot → Member
pair_member slot_of p = record { owner = p.1; slot = slot_of p.0.id }

pub members_paired : (slot_of : ItemId → Slot) (items : List TreeItem) (rows : List Item)
    → parent_members (map (λ (i : TreeItem). slot_of i.id) items) rows
    ≡ map (pair_member slot_of) (zip items (map (λ (r : Item). r.parent) rows))
members_paired slot_of [] rows = refl
members_paired slot_of (i ∷ items) [] = refl
members_paired slot_of (i ∷ items) (r ∷ rows) =
    ap (λ (ms : List Member). record { owner = r.parent; slot = slot_of i.id } ∷ ms)
    (members_paired slot_of items rows)

-- ---- which slot is whose

module _ (pages : Pages) (items : List TreeItem) (slot_of : ItemId → Slot) (slots : List Slot)
    (in_slots : HaveSlots pages items slot_of slots) where
  abbrev Says : ItemId → Type 0
  Says id = item_in pages (slot_of id) ≡ Some id

  pub slot_says : (i : TreeItem) → In i items → item_in pages (slot_of i.id) ≡ Some i.id
  slot_says i within =
      at_in (λ (j : TreeItem). Says j.id) items i (recursion_from_All (λ (j : TreeItem). Says j.id) items in_slots.says)
      within

  pub items_apart : Apart (λ (i : TreeItem). i.id.0) items
  items_apart =
      apart_increasing (λ (i : TreeItem). i.id.0) items in_slots.ascending

  pub one_item : (i j : TreeItem) → In i items → In j items → i.id.0 ≡ j.id.0 → i ≡ j
  one_item i j first second same = same_key (λ (k : TreeItem). k.id.0) items i j items_apart first second same

  pub one_id : (a b : ItemId) → Says a → Says b → slot_of a ≡ slot_of b → a ≡ b
  one_id a b says_a says_b same =
      names.same_id (λ (c : ItemId). c.0) (λ x y alike. same_item_number x y alike) slot_of (item_in pages)
      (no_item pages) a b says_a says_b same

  pub same_own : (a b : ItemId) → Says a → Says b → ((slot_of a).0 == (slot_of b).0) ≡ (a.0 == b.0)
  same_own a b says_a says_b =
      names.same_owner (λ (c : ItemId). c.0) (λ x y alike. same_item_number x y alike) slot_of (item_in pages)
      (no_item pages) a b says_a says_b

  pub no_own : (id : ItemId) → Says id → (0 == (slot_of id).0) ≡ false
  no_own id says =
      names.no_owner (λ (c : ItemId). c.0) (λ x y alike. same_item_number x y alike) slot_of (item_in pages)
      (no_item pages) id says

  -- one of the slots is that of an item
  pub slot_at : (s : Slot) → is_in s slots ≡ true → (i : TreeItem) × In i items × (s ≡ slot_of i.id)
  slot_at s among =
      from_map (λ (i : TreeItem). slot_of i.id) items s
      (subst (λ (ss : List Slot). In s ss) in_slots.are (slot_among s slots among))

  -- ---- parents

  module _ (once : AllPairs (λ (a b : ItemId). a ≢ b) (child_ids items)) where
    -- an item with the child is the one that is found
    pub is_parent : (p : TreeItem) → In p items → (id : ItemId) → has_child id p ≡ true
        → find (has_child id) items ≡ Some p
    is_parent p within =
        at_in (IsParent items) items p (parents_found items (parents.once (child_ids items) once)) within

    -- the slot of an id's parent is that of an item exactly where the item has it as a child
    pub owner_alike : (i : TreeItem) → In i items → (id : ItemId)
        → ((slot_or_none slot_of (parent_of items id)).0 == (slot_of i.id).0) ≡ has_child id i
    owner_alike i within id = choose (find (has_child id) items) refl
      where
        choose : (o : Option TreeItem) → find (has_child id) items ≡ o
            → ((slot_or_none slot_of (option_map (λ (p : TreeItem). p.id) o)).0 == (slot_of i.id).0) ≡ has_child id i
        choose None is =
            no_own i.id (slot_says i within)
            ∙ sym (no_test (has_child id i)
            (λ has.
            let both : None ≡ Some i = sym is ∙ is_parent i within id has in
            absurd (cc)))
        choose (Some p) is =
            let here : In p items = (from_found (has_child id) items p is).0 in
            same_own p.id i.id (slot_says p here) (slot_says i within)
            ∙ same_tests (p.id.0 == i.id.0) (has_child id i)
            (λ same.
            ap (has_child id) (sym (one_item p i here within (eqb-true p.id.0 i.id.0 same)))
            ∙ found_passes (has_child id) items p is)
            (λ has.
            eq-eqb p.id.0 i.id.0
            (ap (λ (j : TreeItem). j.id.0) (same_Some p i (sym is ∙ is_parent i within id has))))

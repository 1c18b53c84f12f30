-- The children of items as lists of the slots that name them: where chains link the slots of the
-- children, and each row names its parent's slot, they are exactly the slots that name the item.
use Rattle.std.proofs.Common.{◌≡◌, ◌≢◌, ◌∙◌, ◌==◌, ◌∷◌, ◌++◌, [], List, ap, filter, map}
use Rattle.std.proofs.Common.{inl, inr, subst, sym, true}
use Rattle.std.specs.List.{All, AllByRecursion, AllPairs, AllZip, zip}
use Rattle.std.specs.List.Sorted.{IsPermutation}
use Rattle.std.proofs.lemmas.List.Elements.{recursion_from_All}
use Rattle.std.proofs.lemmas.List.Sorted.{IsPermutation-map}
use Rattle.pl_base.specs.declared.id.ItemId.{ItemId}
use Rattle.pl_base.specs.declared.id.Slot.{Slot}
use Rattle.pl_base.specs.Good.{child_ids}
use Rattle.pl_base.specs.Store.{Item as TreeItem}
use Rattle.pl_base.specs.Tree.{has_child, has_item, parent_of}
use Rattle.pl_base.proofs.Among.{In, all_from_in, at_in, from_any, from_filter, from_map, in_filter, in_map}
use Rattle.pl_base.proofs.ItemLookUps.{same_item}
use Rattle.pl_base.proofs.ListLaws.{everyone, filter-where, map-map}
use Rattle.pl_base.proofs.OneParent.{Once, once_behind}
use Rattle.pl_base.proofs.OneParent as parents
use Rattle.pl_load.specs.Members.{parent_members}
use Rattle.pl_load.proofs.ItemSlots as given
use Rattle.pl_load.proofs.ItemSlots.{HaveSlots, child_in, in_child, members_paired, pair_member}
use Rattle.pl_load.proofs.ListParts.{zip_made}
use Rattle.pl_load.proofs.Lists.{owned_map}
use Rattle.pl_load.proofs.PairLists.{zip_map}
use Rattle.pl_load.proofs.SameMembers.{EachOnce, once_kept, once_keyed, same_members}
use Rattle.pl_owned.specs.declared.owned.Member.{Member}
use Rattle.pl_owned.specs.Owned.{IsListed, owned_by}
use Rattle.pl_rail.specs.declared.owner.Owner.TheVariants.{At}
use Rattle.pl_rail.specs.Rails.{Lists}
use Rattle.pl_record.specs.declared.rows.Item.{Item}
use Rattle.pl_record.specs.Records.{slot_or_none}
use Rattle.pl_sheets.specs.Sheets.{Pages}
use Rattle.pl_slot.specs.declared.links.Rail.TheVariants.{Children}

-- ---- ids that stand once

pub each_once : (ids : List ItemId) → Once ids → EachOnce ids
each_once [] one = tt
each_once (c ∷ cs) one =
    (λ within. at_in (λ (d : ItemId). c ≢ d) cs c one.0 within (λ i. c), each_once cs one.1)

once_front : (cs ds : List ItemId) → EachOnce (cs ++ ds) → EachOnce cs
once_front [] ds one = tt
once_front (c ∷ cs) ds one = (λ within. one.0 (still cs within), once_front cs ds one.1)
  where
    still : (es : List ItemId) → In c es → In c (es ++ ds)
    still [] within = absurd within
    still (e ∷ es) (inl same) = inl same
    still (e ∷ es) (inr within) = inr (still es within)

-- the children of each item
pub children_once : (items : List TreeItem) → Once (child_ids items)
    → AllByRecursion (λ (i : TreeItem). EachOnce i.children) items
children_once [] one = tt
children_once (i ∷ items) one = (
  once_front i.children (child_ids items) (each_once (child_ids (i ∷ items)) one),
  children_once items (once_behind i.children (child_ids items) one),
)

-- ---- the slots that name an item

module _ (pages : Pages) (items : List TreeItem) (slot_of : ItemId → Slot) (slots : List Slot) (rows : List Item)
    (in_slots : HaveSlots pages items slot_of slots)
    (chains : All (λ (i : TreeItem). Lists Children (At (slot_of i.id)) (map slot_of i.children) pages) items)
    (parents_agree : map (λ (r : Item). r.parent) rows
    ≡ map (λ (i : TreeItem). slot_or_none slot_of (parent_of items i.id)) items)
    (known : All (λ (i : TreeItem). All (λ (c : ItemId). has_item items c ≡ true) i.children) items)
    (once : AllPairs (λ (a b : ItemId). a ≢ b) (child_ids items)) where
  abbrev parent_slot : TreeItem → Slot
  parent_slot i = slot_or_none slot_of (parent_of items i.id)

  -- the ids of the items that are children of an item
  abbrev ids_below : TreeItem → List ItemId
  ids_below i = map (λ (j : TreeItem). j.id) (filter (λ (j : TreeItem). has_child j.id i) items)

  members_are : parent_members slots rows
      ≡ map (λ (i : TreeItem). record { owner = parent_slot i; slot = slot_of i.id }) items
  members_are =
      ap (λ (ss : List Slot). parent_members ss rows) in_slots.are
      ∙ members_paired slot_of items rows
      ∙ ap (λ (ss : List Slot). map (pair_member slot_of) (zip items ss)) parents_agree
      ∙ ap (map (pair_member slot_of)) (zip_map parent_slot items)
      ∙ map-map (pair_member slot_of) (λ (i : TreeItem). (i, parent_slot i)) items

  owned_are : (i : TreeItem) → In i items
      → owned_by (parent_members slots rows) (slot_of i.id) ≡ map slot_of (ids_below i)
  owned_are i within =
      ap (λ (ms : List Member). owned_by ms (slot_of i.id)) members_are
      ∙ owned_map parent_slot (λ (j : TreeItem). slot_of j.id) items (slot_of i.id)
      ∙ ap (map (λ (j : TreeItem). slot_of j.id))
      (filter-where (λ (j : TreeItem). (parent_slot j).0 == (slot_of i.id).0)
      (λ (j : TreeItem). has_child j.id i) items
      (everyone (λ (j : TreeItem). ((parent_slot j).0 == (slot_of i.id).0) ≡ has_child j.id i) items
      (λ j. given.owner_alike pages items slot_of slots in_slots once i within j.id)))
      ∙ sym (map-map slot_of (λ (j : TreeItem). j.id) (filter (λ (j : TreeItem). has_child j.id i) items))

  -- a child is the id of an item
  child_below : (i : TreeItem) → In i items → (c : ItemId) → In c i.children → In c (ids_below i)
  child_below i within c child =
      let there : has_item items c ≡ true =
      at_in (λ (d : ItemId). has_item items d ≡ true) i.children c
      (recursion_from_All (λ (d : ItemId). has_item items d ≡ true) i.children
      (at_in (λ (j : TreeItem). All (λ (d : ItemId). has_item items d ≡ true) j.children) items i
      (recursion_from_All (λ (j : TreeItem). All (λ (d : ItemId). has_item items d ≡ true) j.children) items known)
      within)) child in
      let r = from_any (λ (j : TreeItem). j.id.0 == c.0) items there in
      let j : TreeItem = r.0 in
      let same : j.id ≡ c = same_item j.id c r.2 in
      subst (λ (d : ItemId). In d (ids_below i)) same
      (in_map (λ (k : TreeItem). k.id) (filter (λ (k : TreeItem). has_child k.id i) items) j
      (in_filter (λ (k : TreeItem). has_child k.id i) items j r.1
      (in_child i j.id (subst (λ (d : ItemId). In d i.children) (sym same) child))))

  below_child : (i : TreeItem) (c : ItemId) → In c (ids_below i) → In c i.children
  below_child i c below =
      let r = from_map (λ (j : TreeItem). j.id) (filter (λ (j : TreeItem). has_child j.id i) items) c below in
      let j : TreeItem = r.0 in
      subst (λ (d : ItemId). In d i.children) (sym r.2)
      (child_in i j.id (from_filter (λ (k : TreeItem). has_child k.id i) items j r.1).1)

  same_slots : (i : TreeItem) → In i items
      → IsPermutation (map slot_of i.children) (owned_by (parent_members slots rows) (slot_of i.id))
  same_slots i within =
      subst (IsPermutation (map slot_of i.children)) (sym (owned_are i within))
      (IsPermutation-map slot_of i.children (ids_below i)
      (same_members i.children (ids_below i)
      (at_in (λ (j : TreeItem). EachOnce j.children) items i
      (children_once items (parents.once (child_ids items) once)) within)
      (once_kept (λ (j : TreeItem). j.id) (λ (j : TreeItem). has_child j.id i) items
      (once_keyed (λ (j : TreeItem). j.id.0) (λ (j : TreeItem). j.id) (λ (c : ItemId). c.0) (λ j k. j.id.0) items
      (given.items_apart pages items slot_of slots in_slots)))
      (child_below i within) (below_child i)))

  -- each item's children are the list of the slots that name it
  pub children_listed : AllZip (IsListed Children (parent_members slots rows) pages) slots
      (map (λ (i : TreeItem). map slot_of i.children) items)
  children_listed =
      subst (λ (ss : List Slot). AllZip (IsListed Children (parent_members slots rows) pages) ss
      (map (λ (i : TreeItem). map slot_of i.children) items)) (sym in_slots.are)
      (zip_made (IsListed Children (parent_members slots rows) pages) (λ (i : TreeItem). slot_of i.id)
      (λ (i : TreeItem). map slot_of i.children) items
      (all_from_in (λ (i : TreeItem). IsListed Children (parent_members slots rows) pages (slot_of i.id)
      (map slot_of i.children)) items
      (λ i within. record {
        lists =
            at_in (λ (j : TreeItem). Lists Children (At (slot_of j.id)) (map slot_of j.children) pages) items i
            (recursion_from_All
            (λ (j : TreeItem). Lists Children (At (slot_of j.id)) (map slot_of j.children) pages) items chains)
            within;
        same = same_slots i within;
      })))

-- A tag folder that is inserted, and behind it the entry in it.
use Rattle.std.proofs.Common.{◌≡◌, ◌∙◌, ◌+◌, ◌≤◌, ◌++◌, ℕ, List, [], ◌∷◌, Option, Some, None, ap, arith}
use Rattle.std.proofs.Common.{inl, refl, subst, sym}
use Rattle.std.specs.Option.{IsSomeAnd}
use Rattle.std.proofs.lemmas.List.Elements.{recursion_from_All}
use Rattle.pl_base.specs.declared.id.ItemId.{ItemId}
use Rattle.pl_base.specs.declared.item.ItemKind.TheVariants.{Folder}
use Rattle.pl_base.specs.declared.item.ItemRow.{ItemRow}
use Rattle.pl_base.specs.Good.{HasGoodItems, IsTopFolder, IsTree}
use Rattle.pl_base.specs.Live.{chunks, live_slots, slot_limit}
use Rattle.pl_base.specs.Rows.{IsWellKept, Kept, live_with_item, store_of, with_item}
use Rattle.pl_base.specs.Store.{Item, item_id, root_folder}
use Rattle.pl_base.specs.Tags.{tags_root}
use Rattle.pl_base.specs.Tree.{IsFolder, adopted, children_of, item_at, new_item}
use Rattle.pl_base.proofs.ItemLaws.{count_inserted, slots_inserted}
use Rattle.pl_base.proofs.Among.{In, in_back}
use Rattle.pl_base.proofs.ItemLookUps.{same_item_number}
use Rattle.pl_tree.specs.declared.new_item.NewItem.{NewItem}
use Rattle.pl_tree.specs.declared.place.Place.{Place}
use Rattle.pl_tree.specs.declared.place.Place.TheVariants.{End}
use Rattle.pl_tree.specs.Changes.{item_of, with_child, with_inserted}
use Rattle.pl_tree.specs.Places.{before}
use Rattle.pl_tree.proofs.KeptRoots.{tops}
use Rattle.pl_tree.proofs.LookedUp.{at_id, at_its_id, children_in, folder_at}
use Rattle.pl_tree.proofs.PutPlaces.{child_put, item_inserted, its_children, row_of_new}
use Rattle.pl_tree.proofs.TreeLaws.{ids_ascend}

-- the tags root is a folder
pub tags_root_there : (kept : Kept) → HasGoodItems (store_of kept) → IsFolder kept.items tags_root
tags_root_there kept good =
    choose (item_at kept.items tags_root) refl
    (recursion_from_All (IsTopFolder (store_of kept)) tops good.roots.top).1.1.0
  where
    choose : (o : Option Item) → item_at kept.items tags_root ≡ o
        → IsSomeAnd o (λ (i : Item). i ≡ root_folder 4 i.children) → IsFolder kept.items tags_root
    choose None at top = absurd top
    choose (Some i) at top = folder_at kept.items tags_root i at (ap (λ (j : Item). j.kind) top)

module _ (kept : Kept) (row : ItemRow) (title : List ℕ) (after : Option ItemId) where
  pub live_of_item : live_with_item row title after kept ≡ live_slots (store_of kept) + 1 + chunks title
  live_of_item =
      omega (
        arith,
        slots_inserted (item_id kept.ids.item) row title after kept.items,
        count_inserted (item_id kept.ids.item) row title after kept.items,
      )

  pub live_of_first : live_slots (store_of kept) + 2 + chunks title ≤ slot_limit
      → live_with_item row title after kept ≤ slot_limit
  live_of_first live = omega (arith, live_of_item)

  pub folder_made : (now : Kept) (id : ItemId) → now ≡ with_item row title after kept → IsWellKept now
      → id.0 ≡ kept.ids.item → row.kind ≡ Folder → IsFolder now.items id
  folder_made now id made h is kind =
      let new : Item = new_item (item_id kept.ids.item) row title in
      let within : In new now.items =
      subst (λ (k : Kept). In new k.items) (sym made)
      (in_back (adopted row.parent after (item_id kept.ids.item) kept.items) (new ∷ []) new (inl refl)) in
      folder_at now.items id new
      (at_id now.items new id (ids_ascend now.items h.item_ids.ascending) within
      (same_item_number (item_id kept.ids.item) id (sym is)))
      kind

pub live_of_second : (kept : Kept) (row other : ItemRow) (title : List ℕ) (after : Option ItemId)
    → live_slots (store_of kept) + 2 + chunks title ≤ slot_limit
    → live_with_item other [] None (with_item row title after kept) ≤ slot_limit
live_of_second kept row other title after live =
    omega (
      arith,
      live_of_item kept row title after,
      live_of_item (with_item row title after kept) other [] None,
    )

-- an item that was inserted has no child yet
pub in_new : (kept : Kept) (parent : ItemId) (place : Place) (new entry : NewItem)
    → IsWellKept (with_inserted parent place new kept)
    → with_item (row_of_new (item_id kept.ids.item) entry) entry.title None (with_inserted parent place new kept)
    ≡ with_inserted (item_id kept.ids.item) End entry (with_inserted parent place new kept)
in_new kept parent place new entry h =
    let now : Kept = with_inserted parent place new kept in
    let id : ItemId = item_id kept.ids.item in
    let ascend = ids_ascend now.items h.item_ids.ascending in
    let none : children_of now.items id ≡ [] =
    ap children_in (at_its_id now.items (item_of id new) ascend
    (in_back (with_child parent place id kept.items) (item_of id new ∷ []) (item_of id new) (inl refl))) in
    ap (λ (items : List Item).
    record now {
      ids = record now.ids { item = now.ids.item + 1 };
      items = items ++ item_of (item_id now.ids.item) entry ∷ [];
    })
    (child_put now.items id End (item_id now.ids.item) [] tt
    (rw none at (its_children now.items id ascend)))

-- what is inserted behind the last child is at the end
pub last_inserted : (kept now : Kept) (parent : ItemId) (row : ItemRow) (title : List ℕ) (after : Option ItemId)
    (new : NewItem) → IsWellKept kept → IsTree kept.items → now ≡ with_item row title after kept
    → row ≡ row_of_new parent new → title ≡ new.title → after ≡ before End (children_of kept.items parent)
    → now ≡ with_inserted parent End new kept
last_inserted kept now parent row title after new h tree made row_is title_is after_is =
    made ∙ ap (λ (r : ItemRow). with_item r title after kept) row_is
    ∙ ap (λ (t : List ℕ). with_item (row_of_new parent new) t after kept) title_is
    ∙ ap (λ (a : Option ItemId). with_item (row_of_new parent new) new.title a kept) after_is
    ∙ item_inserted kept parent End new h tree

pub both_inserted : (kept first second : Kept) (row other : ItemRow) (title : List ℕ) (after : Option ItemId)
    (folder : ItemId) (new entry : NewItem) → IsWellKept kept → IsTree kept.items → IsWellKept first
    → first ≡ with_item row title after kept → row ≡ row_of_new tags_root new → title ≡ new.title
    → after ≡ before End (children_of kept.items tags_root) → second ≡ with_item other [] None first
    → other ≡ row_of_new folder entry → [] ≡ entry.title → folder.0 ≡ kept.ids.item
    → second ≡ with_inserted (item_id kept.ids.item) End entry (with_inserted tags_root End new kept)
both_inserted kept first second row other title after folder new entry h tree g made row_is title_is after_is made_too
    other_is none folder_is =
    let folder_made : first ≡ with_inserted tags_root End new kept =
    last_inserted kept first tags_root row title after new h tree made row_is title_is after_is in
    made_too ∙ ap (λ (r : ItemRow). with_item r [] None first) other_is
    ∙ ap (λ (id : ItemId). with_item (row_of_new id entry) [] None first)
    (same_item_number folder (item_id kept.ids.item) folder_is)
    ∙ ap (λ (t : List ℕ). with_item (row_of_new (item_id kept.ids.item) entry) t None first) none
    ∙ ap (λ (k : Kept). with_item (row_of_new (item_id kept.ids.item) entry) entry.title None k) folder_made
    ∙ in_new kept tags_root End new entry (subst IsWellKept folder_made g)

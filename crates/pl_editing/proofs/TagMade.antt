-- The slots of the items with a new tag of a page.
use Rattle.std.proofs.Common.{◌≡◌, ◌+◌, ◌-◌, if◌then◌else◌, ℕ, Bool, true, false, List, arith}
use Rattle.std.specs.Option.{is_none}
use Rattle.pl_base.specs.declared.date.Micros.{Micros}
use Rattle.pl_base.specs.declared.id.ItemId.{ItemId}
use Rattle.pl_base.specs.declared.id.PageId.{PageId}
use Rattle.pl_base.specs.Live.{chunks, live_slots}
use Rattle.pl_base.specs.Store.{Item, Store, item_id}
use Rattle.pl_base.specs.Tags.{tags_root}
use Rattle.pl_tree.specs.declared.place.Place.TheVariants.{End}
use Rattle.pl_tree.specs.Changes.{with_new}
use Rattle.pl_tree.specs.Tagged.{new_entry, new_items, new_tag, tag_id, tag_named, with_tag}
use Rattle.pl_graft.specs.Import.{tagged_store}
use Rattle.pl_editing.proofs.ItemStep.{live_inserted}

-- the slots of a folder for the tag, where it is new
abbrev pub folder_slots : List ℕ → List Item → ℕ
folder_slots name items = if is_none (tag_named name items) then 1 + chunks name else 0

-- the items of a store
abbrev with_all : Store → List Item → Store
with_all store items = record store { items = items }

-- a store with a new item takes as many slots under any id
live_new : (id parent : ItemId) (page : PageId) (date : Micros) (items : List Item) (store : Store)
    → live_slots (with_all store (with_new id parent End (new_entry page date) items))
    ≡ live_slots (with_all store items) + 1
live_new id parent page date items store =
    omega (
      arith,
      live_inserted parent End (new_entry page date)
          (record store { ids = record store.ids { item = id.0 }; items = items }),
    )

live_folder : (name : List ℕ) (date : Micros) (store : Store)
    → live_slots (with_all store (with_tag store.ids.item name date store.items)) ≡ live_slots store
    + folder_slots name store.items
live_folder name date store = choose (is_none (tag_named name store.items))
  where
    next : ItemId
    next = item_id store.ids.item

    choose : (b : Bool)
        → live_slots (with_all store
        (if b then with_new next tags_root End (new_tag name date) store.items else store.items))
        ≡ live_slots store + (if b then 1 + chunks name else 0)
    choose true = omega (arith, live_inserted tags_root End (new_tag name date) store)
    choose false = omega arith

pub live_tagged : (page : PageId) (name : List ℕ) (date : Micros) (store : Store)
    → live_slots (tagged_store page name date store) ≡ live_slots store + 1 + folder_slots name store.items
live_tagged page name date store =
    let next : ℕ = store.ids.item in
    omega (
      arith,
      live_new (item_id (next + (new_items name store.items - 1))) (tag_id next name store.items) page date
          (with_tag next name date store.items) store,
      live_folder name date store,
    )

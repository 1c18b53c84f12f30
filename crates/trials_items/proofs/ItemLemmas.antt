-- What the calls of items tell of an item that was asked for, and that a new title has its slots.
use Rattle.std.proofs.Common.{◌≡◌, ◌∙◌, ◌<◌, ◌≤◌, ◌==◌, ℕ, List, Option, Some, None, ap, arith, length}
use Rattle.std.proofs.Common.{Bool, false, refl, suc, sym, zero}
use Rattle.std.specs.List.{list_any}
use Rattle.std.specs.Option.{IsSomeAnd, option_map}
use Rattle.pl_base.specs.declared.date.Micros.{Micros}
use Rattle.pl_base.specs.declared.id.ItemId.{ItemId}
use Rattle.pl_base.specs.declared.item.ItemKind.TheVariants.{Folder}
use Rattle.pl_base.specs.declared.item.ItemRow.{ItemRow}
use Rattle.pl_base.specs.Good.{longest_title}
use Rattle.pl_base.specs.Live.{live_slots, slot_limit}
use Rattle.pl_base.specs.Rows.{Kept, live_with_item, live_with_item_title}
use Rattle.pl_base.specs.Rows.{store_of}
use Rattle.pl_base.specs.Store.{Item}
use Rattle.pl_base.specs.Tree.{IsFolder, ancestors, item_at, item_row}
use Rattle.pl_base.proofs.ItemLookUps.{parent_told}
use Rattle.pl_plain.specs.FlatRows.{IsFlat}
use Rattle.pl_plain.proofs.ItemChanges.{slots_retitled, slots_with_item}

-- what the rows tell of a folder
pub folder_told : (items : List Item) (id : ItemId) (row : ItemRow)
    → Some row ≡ option_map (item_row items) (item_at items id) → row.kind ≡ Folder → IsFolder items id
folder_told items id row told kind = choose (item_at items id) told
  where
    choose : (found : Option Item) → Some row ≡ option_map (item_row items) found
        → IsSomeAnd found (λ (i : Item). i.kind ≡ Folder)
    choose None none = absurd (cc)
    choose (Some i) some =
        let is : row ≡ item_row items i = cc in
        sym (ap (λ (r : ItemRow). r.kind) is) ∙ kind

-- ---- the way up from an item

-- this item is among so many that another lies in
abbrev pub is_above : List Item → ItemId → ℕ → Option ItemId → Bool
is_above items top n at = list_any (λ (a : ItemId). a.0 == top.0) (ancestors n items at)

pub none_above : (items : List Item) (top : ItemId) (n : ℕ) → is_above items top n None ≡ false
none_above items top zero = refl
none_above items top (suc n) = refl

pub other_above : (items : List Item) (top id : ItemId) (n m : ℕ) (row : ItemRow) → n ≡ suc m
    → Some row ≡ option_map (item_row items) (item_at items id) → (id.0 == top.0) ≡ false
    → is_above items top n (Some id) ≡ is_above items top m row.parent
other_above items top id n m row next told other =
    rw (next, other) (ap (is_above items top m) (sym (parent_told items id row told)))

pub room_for_item : (kept : Kept) (row : ItemRow) (title : List ℕ) (after : Option ItemId)
    → length title ≤ longest_title → live_slots (store_of kept) < 4_000_000
    → live_with_item row title after kept ≤ slot_limit
room_for_item kept row title after short few = omega (arith, slots_with_item row title after kept)

found_where : (items : List Item) (id : ItemId) (row : ItemRow)
    → Some row ≡ option_map (item_row items) (item_at items id) → (i : Item) × (item_at items id ≡ Some i)
found_where items id row told = choose (item_at items id) refl told
  where
    choose : (found : Option Item) → item_at items id ≡ found → Some row ≡ option_map (item_row items) found
        → (i : Item) × (item_at items id ≡ Some i)
    choose None is none = absurd (cc)
    choose (Some i) is some = (i, is)

pub room_for_name : (kept : Kept) (origins live : ℕ) (id : ItemId) (title : List ℕ) (modified : Micros)
    (row : ItemRow) → IsFlat kept origins live
    → Some row ≡ option_map (item_row kept.items) (item_at kept.items id)
    → length title ≤ longest_title → live_slots (store_of kept) < 4_000_000
    → live_with_item_title id title modified kept ≤ slot_limit
room_for_name kept origins live id title modified row h told short few =
    let i = found_where kept.items id row told in
    omega (arith, slots_retitled id title modified kept origins live i.0 h i.1)

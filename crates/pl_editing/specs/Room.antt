-- What a new item waits for, and what it is.
use Rattle.std.specs.Prelude.{ℕ, ◌+◌, ◌==◌, ◌&&◌, Bool, List, Option, Some, None, nat_lt}
use Rattle.std.specs.Prelude.{if◌then◌else◌}
use Rattle.pl_base.specs.declared.date.Micros.{Micros}
use Rattle.pl_base.specs.declared.id.IdKind.TheVariants.{Item as ItemIds, Page as PageIds}
use Rattle.pl_base.specs.declared.item.ItemKind.{ItemKind}
use Rattle.pl_base.specs.declared.refusal.Refusal.{Refusal}
use Rattle.pl_base.specs.declared.refusal.Refusal.TheVariants.{Full, NoIds}
use Rattle.pl_base.specs.Good.{end_of_ids}
use Rattle.pl_base.specs.Live.{live_slots}
use Rattle.pl_base.specs.Store.{Store}
use Rattle.pl_tree.specs.declared.new_item.NewItem.{NewItem}
use Rattle.pl_step.specs.Step.{is_full}

-- an id for a new page is wanting, one for the item, or the slots
abbrev pub item_room : ℕ → Store → Bool → ℕ → Option Refusal
item_room limit store with_page slots =
    if with_page && (store.ids.page == end_of_ids) then Some (NoIds PageIds) else
    if store.ids.item == end_of_ids then Some (NoIds ItemIds) else
    if is_full limit (live_slots store) slots then Some (Full slots) else None

-- the same for an entry of a tag, which may have a new folder
abbrev pub tag_room : ℕ → Store → Bool → Bool → ℕ → Option Refusal
tag_room limit store with_page with_folder slots =
    if with_page && (store.ids.page == end_of_ids) then Some (NoIds PageIds) else
    if nat_lt end_of_ids (store.ids.item + (if with_folder then 2 else 1))
    then Some (NoIds ItemIds) else
    if is_full limit (live_slots store) slots then Some (Full slots) else None

-- a new item with no page
abbrev pub plain_item : ItemKind → List ℕ → Micros → NewItem
plain_item kind title date = record { kind = kind; title = title; page = None; date = date }

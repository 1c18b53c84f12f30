-- What an import keeps of a store, however great its ids become.
use Rattle.std.specs.Prelude.{◌≡◌, ◌<◌, ◌≤◌, map, None}
use Rattle.std.specs.List.{All}
use Rattle.std.specs.List.Sorted.{IsStrictlyIncreasing}
use Rattle.pl_base.specs.declared.id.ItemId.{ItemId}
use Rattle.pl_base.specs.Good.{HasGoodItems}
use Rattle.pl_base.specs.Store.{Item, Store}
use Rattle.pl_tree.specs.Refused.{parent_refusal}

-- the items are those of a good store, and their ids go up and lie below the next one
pub record IsReady (store : Store) : Type 0 where
  pub good : HasGoodItems store
  pub ascending : IsStrictlyIncreasing (map (λ (i : Item). i.id.0) store.items)
  pub below : All (λ (i : Item). i.id.0 < store.ids.item) store.items
  pub first : 7 ≤ store.ids.item

-- the folder takes items
abbrev pub Takes : Store → ItemId → Type 0
Takes store folder = parent_refusal store.items folder ≡ None

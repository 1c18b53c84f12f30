-- The items are those of a good store but for the tags, and with tags that are in order they are
-- those of one.
use Rattle.std.specs.List.{All}
use Rattle.pl_base.specs.Good.{HasGoodItems, HasRoots, HasTags, IsGoodItem, IsTree}
use Rattle.pl_base.specs.Store.{Store}

pub record HasGoodRows (store : Store) : Type 0 where
  pub items : All (IsGoodItem store) store.items
  pub roots : HasRoots store
  pub tree : IsTree store.items

pub good_rows : (store : Store) → HasGoodItems store → HasGoodRows store
good_rows store good = record { items = good.items; roots = good.roots; tree = good.tree }

pub with_tags : (store : Store) → HasGoodRows store → HasTags store → HasGoodItems store
with_tags store rows tags = record { items = rows.items; roots = rows.roots; tree = rows.tree; tags = tags }

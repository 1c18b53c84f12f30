-- What is known of a store's pages, while a command has changed the store already.
use Rattle.std.specs.Prelude.{List}
use Rattle.pl_base.specs.declared.id.PageId.{PageId}
use Rattle.pl_base.specs.Store.{Store}
use Rattle.pl_marks.specs.Alike.{AreOthersAlike, ComeBehind, DifferOnlyOn, HaveSameTexts}
use Rattle.pl_known.specs.declared.known.Known.{Known}
use Rattle.pl_known.specs.Known.{Knows}

-- the store came from the one whose pages are known, by a change that bore on none but these pages
pub record CameFrom (pages : List PageId) (known : Known) (store : Store) : Type 0 where
  pub old : Store
  pub knows : Knows old known
  pub others : AreOthersAlike pages old store
  pub texts : HaveSameTexts old store
  pub behind : ComeBehind old store

-- the same of a change of items, which may have changed the items of these pages too
pub record CameByItems (pages : List PageId) (known : Known) (store : Store) : Type 0 where
  pub old : Store
  pub knows : Knows old known
  pub differ : DifferOnlyOn pages old store

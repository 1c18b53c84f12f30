-- What is known of the pages before a change that bore on some of them alone.
use Rattle.std.proofs.Common.{◌≡◌, List}
use Rattle.pl_base.specs.declared.id.PageId.{PageId}
use Rattle.pl_base.specs.Store.{Store}
use Rattle.pl_marks.specs.Alike.{is_one_of}
use Rattle.pl_history.specs.Bears.{BearsOnlyOn}
use Rattle.pl_history.proofs.OthersAlike.{alike_ordered}
use Rattle.pl_known.specs.declared.known.Known.{Known}
use Rattle.pl_known.specs.Known.{Knows}
use Rattle.pl_changes.specs.CameFrom.{CameFrom}

-- a change that bore on some pages alone
pub came_from : (ids : List PageId) (old new : Store) (known : Known) → Knows old known → BearsOnlyOn ids old new
    → CameFrom ids known new
came_from ids old new known knows b =
    record { old = old; knows = knows; others = b.others; texts = b.texts; behind = b.behind }

-- the same pages in another order, or each once
pub came_ordered : (ids pages : List PageId) (known : Known) (store : Store)
    → ((id : PageId) → is_one_of pages id ≡ is_one_of ids id) → CameFrom ids known store → CameFrom pages known store
came_ordered ids pages known store same c =
    record {
      old = c.old;
      knows = c.knows;
      others = alike_ordered ids pages c.old store same c.others;
      texts = c.texts;
      behind = c.behind;
    }

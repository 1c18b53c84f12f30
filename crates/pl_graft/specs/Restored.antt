-- What a restore makes of a store: a tree in place of all bookmarks and tags.
use Rattle.pl_base.specs.Removal.{without_idle_pages}
use Rattle.pl_base.specs.Store.{Store, roots}
use Rattle.pl_nbread.specs.declared.tree.Tree.{Tree}
use Rattle.pl_graft.specs.Import.{imported}

-- the store without bookmarks and tags: items 1 to 6 as they stood at first
abbrev pub emptied : Store → Store
emptied store = record store { items = roots }

-- the store where a tree has taken the place of all bookmarks and tags. Pages with neither a visit
-- nor an item are dropped at the end only, so a page that comes back keeps its id and its typed
-- mark
abbrev pub restored : Tree → Store → Store
restored tree store = without_idle_pages (imported tree (emptied store))

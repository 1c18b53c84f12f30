-- The pages that stay where a tree is to come: those that stand, and those that it names.
use Rattle.std.specs.Prelude.{◌||◌, ◌++◌, ◌∷◌, [], Bool, List, if◌then◌else◌}
use Rattle.std.specs.List.{filter}
use Rattle.pl_base.specs.Removal.{is_standing}
use Rattle.pl_base.specs.Store.{Page, Store}
use Rattle.pl_nbread.specs.declared.tree.Tree.{Tree}
use Rattle.pl_keyed.specs.declared.pages.urls.Named.{Named}
use Rattle.pl_keyed.specs.KnownPages.{names}
use Rattle.pl_keyed.specs.NamedUrls.{is_named}

-- a page stays that has a visit or an item, and one that the tree names
abbrev pub is_spared : Tree → Store → Page → Bool
is_spared tree store p = is_standing store p.id || is_named tree p.url

-- the store without the pages that have neither a visit nor an item nor are named by the tree
abbrev pub spared : Tree → Store → Store
spared tree store = record store { pages = filter (is_spared tree store) store.pages }

-- ---- one by one

-- a page stays that stands, and one whose URL is among these
abbrev pub stays : Named → Store → Page → Bool
stays named store p = is_standing store p.id || names named p.url

-- the store with these pages
abbrev pub with_pages : List Page → Store → Store
with_pages pages store = record store { pages = pages }

-- the store with a page behind the others, if it stays
abbrev pub with_last : Bool → Page → Store → Store
with_last stays p store = with_pages (store.pages ++ (if stays then p ∷ [] else [])) store

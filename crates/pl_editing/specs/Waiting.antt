-- Pages that wait for items while a tree takes the place of all bookmarks and tags.
use Rattle.std.specs.Prelude.{◌≡◌, ◌++◌, ◌&&◌, ℕ, not, Bool, false, true, List}
use Rattle.std.specs.List.{All}
use Rattle.pl_base.specs.declared.id.PageId.{PageId}
use Rattle.pl_base.specs.Good.{is_visited}
use Rattle.pl_base.specs.Rows.{Kept, store_of}
use Rattle.pl_base.specs.Store.{Page, Store}
use Rattle.pl_keyed.specs.declared.pages.urls.Named.{Named}
use Rattle.pl_keyed.specs.KnownPages.{names}
use Rattle.pl_marks.specs.Alike.{is_one_of}
use Rattle.pl_history.specs.Settled.{AreSettledBut}
use Rattle.pl_nbread.specs.declared.tree.Tree.{Tree}
use Rattle.pl_keyed.specs.NamedUrls.{is_named}

-- these are the URLs that the tree names
abbrev pub AreUrlsOf : Tree → Named → Type 0
AreUrlsOf tree named = (url : List ℕ) → names named url ≡ is_named tree url

-- the page has no visit, and its URL is among these
abbrev pub waits : Named → Store → Page → Bool
waits named store p = not (is_visited store p.id) && names named p.url

-- the pages with these ids have no visit, and the tree names them
abbrev pub AreWaiting : Tree → List PageId → Store → Type 0
AreWaiting tree ids store =
    All (λ (p : Page). is_one_of ids p.id ≡ true
    → (is_visited store p.id ≡ false) × (is_named tree p.url ≡ true)) store.pages

-- each page but these is settled, and but some that wait
pub record AreSettledOrWait (tree : Tree) (rest : List PageId) (kept : Kept) : Type 0 where
  pub waiting : List PageId
  pub settled : AreSettledBut (waiting ++ rest) kept
  pub wait : AreWaiting tree waiting (store_of kept)

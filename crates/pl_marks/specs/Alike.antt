-- Two stores that tell the same of some pages, and stores whose pages have the same texts.
use Rattle.std.specs.Prelude.{◌≡◌, ◌==◌, ◌<◌, Bool, false, List}
use Rattle.std.specs.List.{Contains, list_any}
use Rattle.pl_base.specs.declared.id.PageId.{PageId}
use Rattle.pl_base.specs.declared.view.View.{View}
use Rattle.pl_base.specs.Good.{has_page_at}
use Rattle.pl_base.specs.Store.{Page, Store}
use Rattle.pl_base.specs.View.{IsViewOf}

-- the id is one of these
abbrev pub is_one_of : List PageId → PageId → Bool
is_one_of ids id = list_any (λ (other : PageId). id.0 == other.0) ids

-- beside the pages with these ids the stores have the same pages, and each has the view that it had
pub record AreOthersAlike (ids : List PageId) (old new : Store) : Type 0 where
  pub stay : (p : Page) → Contains old.pages p → is_one_of ids p.id ≡ false → Contains new.pages p
  pub stood : (p : Page) → Contains new.pages p → is_one_of ids p.id ≡ false → Contains old.pages p
  pub views : (p : Page) → Contains old.pages p → is_one_of ids p.id ≡ false
      → (view : View) → IsViewOf old p view → IsViewOf new p view

-- a page that was not there before comes behind all that were
abbrev pub ComeBehind : Store → Store → Type 0
ComeBehind old new =
    (p q : Page) → Contains new.pages p → has_page_at old p.id ≡ false → Contains old.pages q
    → q.id.0 < p.id.0

-- a page that stays has the URL and the title that it had
abbrev pub HaveSamePages : Store → Store → Type 0
HaveSamePages old new =
    (p q : Page) → Contains old.pages p → Contains new.pages q → q.id ≡ p.id
    → (q.url ≡ p.url) × (q.title ≡ p.title)

-- the items are the same, and so are the texts of pages that stay
pub record HaveSameTexts (old new : Store) : Type 0 where
  pub items : new.items ≡ old.items
  pub pages : HaveSamePages old new

-- the stores differ by the views of these pages alone, pages that stay keep their texts, and new
-- ones come behind all
pub record DifferOnlyOn (ids : List PageId) (old new : Store) : Type 0 where
  pub others : AreOthersAlike ids old new
  pub pages : HaveSamePages old new
  pub behind : ComeBehind old new

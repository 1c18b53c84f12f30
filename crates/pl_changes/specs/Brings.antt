-- What a command makes of the view of a page, and of its texts.
use Rattle.std.specs.Prelude.{◌≡◌, ◌≢◌, false, List, Option, Some, None}
use Rattle.std.specs.List.{All, Contains}
use Rattle.pl_base.specs.declared.change.Change.{Change}
use Rattle.pl_base.specs.declared.id.PageId.{PageId}
use Rattle.pl_base.specs.declared.view.View.{View}
use Rattle.pl_base.specs.Address.{origin_of_url}
use Rattle.pl_base.specs.Good.{has_page_at}
use Rattle.pl_base.specs.Marks.{is_referenced}
use Rattle.pl_base.specs.Store.{Page, Store}
use Rattle.pl_base.specs.Tags.{is_bookmarked, tag_text}
use Rattle.pl_base.specs.View.{IsViewOf, mark_title}

-- ---- views

-- the store has a page with this id and this view
pub record HasView (store : Store) (page : PageId) (view : View) : Type 0 where
  pub element : Page
  pub there : Contains store.pages element
  pub named : element.id ≡ page
  pub seen : IsViewOf store element view

-- the page with this id has this view, or the store has no such page
abbrev pub IsViewAt : Store → PageId → Option View → Type 0
IsViewAt store page None = has_page_at store page ≡ false
IsViewAt store page (Some view) = HasView store page view

-- the change leads from what was to another view, which the page has in the store
pub record IsChangeTo (store : Store) (page : PageId) (was : Option View) (change : Change)
    : Type 0 where
  pub old : change.old ≡ was
  pub new : IsViewAt store page change.new
  pub differ : change.old ≢ change.new

-- the change that leads from what was to the page's view, and none where it is the same
abbrev pub Brings : Store → PageId → Option View → Option Change → Type 0
Brings store page was None = IsViewAt store page was
Brings store page was (Some change) = IsChangeTo store page was change

-- ---- addresses and texts

-- the page has the view's id, address and title
pub record HasAddress (p : Page) (view : View) : Type 0 where
  pub id : view.id ≡ p.id
  pub url : view.url ≡ p.url
  pub title : view.title ≡ p.title
  pub origin : origin_of_url p.url ≡ Some (view.prefix, view.host)

-- the part of a view that does not follow from visits
pub record HasTexts (store : Store) (p : Page) (view : View) : Type 0 where
  pub address : HasAddress p view
  pub mark_title : view.mark_title ≡ mark_title store p.id
  pub tags : view.tags ≡ tag_text store p.id
  pub bookmarked : view.bookmarked ≡ is_bookmarked store p.id
  pub referenced : view.referenced ≡ is_referenced store p.id

-- the page of the view, if the store has it, is to the view as is told
abbrev pub IfStays : (Page → View → Type 0) → Store → View → Type 0
IfStays Such store view = All (λ (p : Page). p.id ≡ view.id → Such p view) store.pages

-- the page of the view, if the store has it, has the view's address and title
abbrev pub KeepsAddress : Store → View → Type 0
KeepsAddress store view = IfStays HasAddress store view

-- the pages of the views do
abbrev pub KeepAddresses : Store → List View → Type 0
KeepAddresses store views = All (KeepsAddress store) views

-- the page of the view, if the store has it, has the view's texts
abbrev pub KeepsTexts : Store → View → Type 0
KeepsTexts store view = IfStays (HasTexts store) store view

-- the pages of the views do
abbrev pub KeepTexts : Store → List View → Type 0
KeepTexts store views = All (KeepsTexts store) views

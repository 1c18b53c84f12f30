-- What is known of each page: the view that totals, queries and the address bar have of it.
use Rattle.std.specs.Prelude.{◌≡◌, ◌==◌, ◌&&◌, ◌||◌, not, Bool, ℕ, List, [], ◌∷◌, map, nat_lt}
use Rattle.std.specs.Prelude.{Option, Some, None, unwrap_or, if◌then◌else◌}
use Rattle.std.specs.List.{filter}
use Rattle.std.specs.Option.{option_map}
use Rattle.pl_base.specs.declared.id.PageId.{PageId}
use Rattle.pl_base.specs.declared.view.View.{View}
use Rattle.pl_base.specs.Address.{origin_of_url}
use Rattle.pl_base.specs.Due.{IsDue}
use Rattle.pl_base.specs.Frecency.{frecency_of}
use Rattle.pl_base.specs.Marks.{is_hidden, is_referenced, last_date_of, visit_count}
use Rattle.pl_base.specs.Store.{Store, Page, Item}
use Rattle.pl_base.specs.Tags.{is_bookmarked, is_tag_entry, tag_text}
use Rattle.pl_base.specs.Totals.{Scored}
use Rattle.pl_base.specs.Tree.{is_page}

-- the bookmarks of a page: the items that have it and are in no tag folder
abbrev pub bookmarks_of : Store → PageId → List Item
bookmarks_of store page =
    filter (λ (i : Item). is_page page i.page && not (is_tag_entry store i.id)) store.items

-- an item was modified later than another, or on the same date and has the greater id
abbrev pub is_fresher : Item → Item → Bool
is_fresher i j =
    nat_lt j.modified.0 i.modified.0
    || ((i.modified.0 == j.modified.0) && nat_lt j.id.0 i.id.0)

-- the fresher of two items, the second of which may be none
abbrev pub fresher_of : Item → Option Item → Item
fresher_of i None = i
fresher_of i (Some j) = if is_fresher i j then i else j

-- the freshest of items
abbrev pub freshest : List Item → Option Item
freshest [] = None
freshest (i ∷ is) = Some (fresher_of i (freshest is))

-- the title of the page's freshest bookmark, and the empty text where it has no bookmark
abbrev pub mark_title : Store → PageId → List ℕ
mark_title store page =
    unwrap_or (option_map (λ (i : Item). i.title) (freshest (bookmarks_of store page))) []

-- the view of a page
pub record IsViewOf (store : Store) (p : Page) (view : View) : Type 0 where
  pub id : view.id ≡ p.id
  pub url : view.url ≡ p.url
  pub title : view.title ≡ p.title
  pub mark_title : view.mark_title ≡ mark_title store p.id
  pub tags : view.tags ≡ tag_text store p.id
  pub origin : origin_of_url p.url ≡ Some (view.prefix, view.host)
  pub frecency : view.frecency ≡ frecency_of store p
  pub count : view.count ≡ visit_count store p.id
  pub last : view.last ≡ last_date_of store p.id
  pub due : IsDue store p.id view.due
  pub typed : view.typed ≡ p.typed
  pub hidden : view.hidden ≡ is_hidden store p
  pub bookmarked : view.bookmarked ≡ is_bookmarked store p.id
  pub referenced : view.referenced ≡ is_referenced store p.id

-- the views of these pages, in their order
abbrev pub AreViews : Store → List Page → List View → Type 0
AreViews store [] [] = Unit {0}
AreViews store [] (v ∷ vs) = ⊥
AreViews store (p ∷ ps) [] = ⊥
AreViews store (p ∷ ps) (v ∷ vs) = IsViewOf store p v × AreViews store ps vs

-- the views of a store, by the ascending ids of its pages
abbrev pub AreViewsOf : Store → List View → Type 0
AreViewsOf store views = AreViews store store.pages views

-- the origins of views, and their frecencies
abbrev pub scored_views : List View → List Scored
scored_views views = map (λ (v : View). ((v.prefix, v.host), v.frecency)) views

-- What is computed of a page by its visits and by its items.
use Rattle.std.specs.Prelude.{◌≡◌}
use Rattle.pl_base.specs.Due.{IsDue}
use Rattle.pl_base.specs.Frecency.{frecency_of}
use Rattle.pl_base.specs.declared.id.PageId.{PageId}
use Rattle.pl_base.specs.Marks.{is_hidden, is_referenced, last_date_of, visit_count}
use Rattle.pl_base.specs.Store.{Page, Store}
use Rattle.pl_base.specs.Tags.{is_bookmarked, tag_text}
use Rattle.pl_base.specs.View.{mark_title}
use Rattle.pl_marks.specs.declared.figures.Figures.{Figures}
use Rattle.pl_marks.specs.declared.items.ItemFigures.{ItemFigures}

-- the figures are those of the page
pub record AreFiguresOf (store : Store) (p : Page) (figures : Figures) : Type 0 where
  pub frecency : figures.frecency ≡ frecency_of store p
  pub count : figures.count ≡ visit_count store p.id
  pub last : figures.last ≡ last_date_of store p.id
  pub due : IsDue store p.id figures.due
  pub typed : figures.typed ≡ p.typed
  pub hidden : figures.hidden ≡ is_hidden store p

-- what follows from the items that have the page
pub record AreItemFiguresOf (store : Store) (page : PageId) (figures : ItemFigures) : Type 0 where
  pub mark_title : figures.mark_title ≡ mark_title store page
  pub tags : figures.tags ≡ tag_text store page
  pub bookmarked : figures.bookmarked ≡ is_bookmarked store page
  pub referenced : figures.referenced ≡ is_referenced store page

-- What is searched of each page, with its case folded.
use Rattle.std.specs.Prelude.{◌≡◌, ◌==◌, ℕ, List, Option, if◌then◌else◌, length}
use Rattle.std.specs.HashMap.{get_by}
use Rattle.std.specs.List.{find}
use Rattle.std.specs.Option.{option_map}
use Rattle.pl_base.specs.declared.id.PageId.{PageId}
use Rattle.pl_base.specs.declared.view.View.{View}
use Rattle.pl_base.specs.Fold.{folded}
use Rattle.pl_words.specs.Pieces.{searched}
use Rattle.pl_follow.specs.Changes.{AreInOrder}
use Rattle.pl_follow.specs.declared.texts.Folded.{Folded}
use Rattle.pl_follow.specs.declared.texts.FoldedTexts.{FoldedTexts}

-- the title by which a page is searched: that of its bookmark, or its own where that is empty
abbrev pub searched_title : View → List ℕ
searched_title view = if length view.mark_title == 0 then view.title else view.mark_title

-- the folded texts of a view
abbrev pub folded_of : View → Folded
folded_of view = record {
  title = folded (searched_title view);
  address = searched view.url view.prefix;
  tags = folded view.tags;
}

-- the folded texts of the view with this id
abbrev pub texts_of : PageId → List View → Option Folded
texts_of page views = option_map folded_of (find (λ (v : View). v.id.0 == page.0) views)

-- the folded texts of each of these views are kept, and no others
pub record KeepsTexts (texts : FoldedTexts) (views : List View) : Type 0 where
  pub order : AreInOrder views
  pub pages :
      (page : PageId)
      → get_by (λ (k : PageId). page.0 == k.0) texts.pages ≡ texts_of page views

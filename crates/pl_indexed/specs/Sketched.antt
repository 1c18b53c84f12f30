-- Pages that may have the words of a query, by the sketches of their texts.
use Rattle.std.specs.Prelude.{◌≡◌, ◌==◌, Bool, true, List, Some}
use Rattle.std.specs.HashSet.{HashSet, contains_by}
use Rattle.pl_base.specs.declared.id.PageId.{PageId}
use Rattle.pl_base.specs.declared.view.View.{View}
use Rattle.pl_follow.specs.Order.{sketch_of_texts}
use Rattle.pl_follow.specs.Texts.{folded_of, searched_title}
use Rattle.pl_sketch.specs.declared.sketch.Sketch.{Sketch}
use Rattle.pl_sketch.specs.Pairs.{Covers}
use Rattle.pl_known.specs.Known.{view_of}
use Rattle.pl_place.specs.declared.query.Query.{Query}
use Rattle.pl_query.specs.Decides.{decides}

-- the page is one of these
abbrev pub has_page : {S : Type 0} → HashSet PageId S → PageId → Bool
has_page pages page = contains_by (λ (other : PageId). page.0 == other.0) pages

-- these have each page whose sketch covers that of the words
abbrev pub HaveCovered : {S : Type 0} → List View → Sketch → HashSet PageId S → Type 0
HaveCovered views words pages =
    (view : View) → view_of view.id views ≡ Some view
    → Covers (sketch_of_texts (folded_of view)) words → has_page pages view.id ≡ true

-- these have each page that the query takes, of those whose own titles are searched
abbrev pub HavePossible : {S : Type 0} → Query → List View → HashSet PageId S → Type 0
HavePossible q views pages =
    (view : View) → view_of view.id views ≡ Some view → searched_title view ≡ view.title
    → decides q view ≡ true → has_page pages view.id ≡ true

-- The sketches beside the pages by frecency.
use Rattle.std.specs.Prelude.{◌≡◌, ℤ, List, Some}
use Rattle.std.specs.List.{All}
use Rattle.pl_base.specs.declared.id.PageId.{PageId}
use Rattle.pl_base.specs.declared.view.View.{View}
use Rattle.pl_sketch.specs.declared.sketch.Sketch.{Sketch}
use Rattle.pl_follow.specs.declared.texts.Folded.{Folded}
use Rattle.pl_follow.specs.declared.texts.FoldedTexts.{FoldedTexts}
use Rattle.pl_follow.specs.Order.{sketch_of_texts}
use Rattle.pl_follow.specs.Texts.{KeepsTexts, texts_of}

-- the sketch is that of the folded texts of the page
abbrev pub TellsTexts : FoldedTexts → PageId → Sketch → Type 0
TellsTexts texts page sketch =
    (views : List View) (folded : Folded) → KeepsTexts texts views
    → texts_of page views ≡ Some folded → sketch ≡ sketch_of_texts folded

-- so it is of each of these entries by frecency
abbrev pub AreSketched : FoldedTexts → List ((ℤ × PageId) × Sketch) → Type 0
AreSketched texts entries =
    All (λ (entry : (ℤ × PageId) × Sketch). TellsTexts texts entry.0.1 entry.1) entries

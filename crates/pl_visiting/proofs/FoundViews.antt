-- The view that is found by a test.
use Rattle.std.proofs.Common.{◌≡◌, ◌∙◌, Bool, List, Option, Some, find, sym}
use Rattle.std.specs.List.{Contains}
use Rattle.std.proofs.lemmas.List.Elements.{All-contains_itself, recursion_from_All}
use Rattle.pl_base.specs.declared.view.View.{View}
use Rattle.pl_base.proofs.LookUps.{found_holds}

-- the view that is found is among them
pub found_view : (test : View → Bool) (views : List View) (found : Option View) (view : View) → found ≡ find test views
    → found ≡ Some view → Contains views view
found_view test views found view is some =
    found_holds (Contains views) test views view
    (recursion_from_All (Contains views) views (All-contains_itself views)) (sym is ∙ some)

-- What is there, by what the rows tell of it.
use Rattle.std.proofs.Common.{◌≡◌, ◌∙◌, Bool, true, false, Option, ap, is_some, not, sym}
use Rattle.std.proofs.lemmas.Bool.{or_parts}
use Rattle.pl_base.specs.declared.id.ItemId.{ItemId}
use Rattle.pl_base.specs.declared.id.PageId.{PageId}
use Rattle.pl_base.specs.declared.id.VisitId.{VisitId}
use Rattle.pl_base.specs.Good.{is_visited}
use Rattle.pl_base.specs.Marks.{is_referenced}
use Rattle.pl_base.specs.Rows.{Kept, first_id, page_visits, store_of}
use Rattle.pl_base.specs.Tree.{first_item, references}
use Rattle.pl_history.proofs.StandingPages.{stands_by_item}

none_some : (told : Option ItemId) (none : Bool) → is_some told ≡ not none → none ≡ true → false ≡ is_some told
none_some told none is true_is = sym (is ∙ ap not true_is)

-- neither a visit nor an item is told of the page
pub idle : (kept : Kept) (page : PageId) (latest : Option VisitId) (first : Option ItemId) (some none : Bool)
    → latest ≡ first_id (page_visits kept page) → some ≡ is_some latest → some ≡ false
    → first ≡ first_item (references kept.items page) → is_some first ≡ not none → none ≡ true
    → (is_visited (store_of kept) page ≡ false) × (is_referenced (store_of kept) page ≡ false)
idle kept page latest first some none latest_is some_is unvisited first_is none_is true_is =
    or_parts (is_visited (store_of kept) page) (is_referenced (store_of kept) page)
    (sym (stands_by_item kept page latest first some false latest_is some_is unvisited first_is
    (none_some first none none_is true_is)))

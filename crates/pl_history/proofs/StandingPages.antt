-- A page stands there where the rows tell a visit or an item of it.
use Rattle.std.proofs.Common.{◌≡◌, ◌∙◌, ◌==◌, ◌||◌, Bool, true, false, List, [], ◌∷◌, filter, if◌then◌else◌}
use Rattle.std.proofs.Common.{Option, ap, is_some, refl}
use Rattle.std.specs.List.{list_any}
use Rattle.pl_base.specs.declared.id.ItemId.{ItemId}
use Rattle.pl_base.specs.declared.id.PageId.{PageId}
use Rattle.pl_base.specs.declared.id.VisitId.{VisitId}
use Rattle.pl_base.specs.Good.{is_visited}
use Rattle.pl_base.specs.Marks.{is_referenced}
use Rattle.pl_base.specs.Rows.{Kept, first_id, page_visits, store_of}
use Rattle.pl_base.specs.Store.{Visit}
use Rattle.pl_base.specs.Tree.{first_item, references}
use Rattle.pl_base.specs.Visits.{latest_first}
use Rattle.pl_base.specs.Removal.{is_standing}
use Rattle.pl_base.proofs.VisitLists.{one_in_place}
use Rattle.pl_base.proofs.Truths.{or_first, or_second}
use Rattle.pl_marks.proofs.PageScore.{referenced_by_first}

first_of : (test : Visit → Bool) (vs : List Visit)
    → is_some (first_id (latest_first (filter test vs))) ≡ list_any test vs
first_of test [] = refl
first_of test (v ∷ vs) = choose (test v) (first_of test vs)
  where
    choose : (b : Bool) → is_some (first_id (latest_first (filter test vs))) ≡ list_any test vs
        → is_some (first_id (latest_first (if b then v ∷ filter test vs else filter test vs)))
        ≡ (b || list_any test vs)
    choose true rest = one_in_place v (latest_first (filter test vs))
    choose false rest = rest

pub visited_by_latest : (kept : Kept) (page : PageId) (latest : Option VisitId) (some : Bool)
    → latest ≡ first_id (page_visits kept page) → some ≡ is_some latest → some ≡ is_visited (store_of kept) page
visited_by_latest kept page latest some is there =
    there ∙ ap is_some is ∙ first_of (λ (v : Visit). v.page.0 == page.0) kept.visits

pub stands_by_visit : (kept : Kept) (page : PageId) (latest : Option VisitId) (some : Bool)
    → latest ≡ first_id (page_visits kept page) → some ≡ is_some latest → some ≡ true
    → some ≡ is_standing (store_of kept) page
stands_by_visit kept page latest some is there here =
    or_first (is_visited (store_of kept) page) (is_referenced (store_of kept) page) some
    (visited_by_latest kept page latest some is there) here

pub stands_by_item : (kept : Kept) (page : PageId) (latest : Option VisitId) (first : Option ItemId) (some other : Bool)
    → latest ≡ first_id (page_visits kept page) → some ≡ is_some latest → some ≡ false
    → first ≡ first_item (references kept.items page) → other ≡ is_some first
    → other ≡ is_standing (store_of kept) page
stands_by_item kept page latest first some other is there none first_is second =
    or_second (is_visited (store_of kept) page) (is_referenced (store_of kept) page) some other
    (visited_by_latest kept page latest some is there) none
    (second ∙ ap is_some first_is ∙ referenced_by_first kept.items page)

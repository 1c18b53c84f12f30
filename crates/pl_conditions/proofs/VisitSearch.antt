-- What a walk over the visits of a page tells that looks for one that passes a test.
use Rattle.std.proofs.Common.{◌≡◌, ◌≢◌, ◌∙◌, ◌==◌, ◌&&◌, ◌||◌, Bool, true, false, List, [], ◌∷◌, Option, Some}
use Rattle.std.proofs.Common.{ap, filter, if◌then◌else◌, refl, sym}
use Rattle.std.specs.List.{list_any}
use Rattle.pl_base.specs.declared.id.PageId.{PageId}
use Rattle.pl_base.specs.declared.id.VisitId.{VisitId}
use Rattle.pl_base.specs.Rows.{Kept, page_visits, store_of}
use Rattle.pl_base.specs.Store.{Visit}
use Rattle.pl_base.specs.Visits.{visits_of}
use Rattle.pl_base.proofs.VisitLists.{any-latest_first}
use Rattle.pl_base.proofs.PagesRun.{there}
use Rattle.pl_base.proofs.VisitsRun.{visit_names}
use Rattle.pl_base.proofs.Walk.{StandsAt, Walk, ends}
use Rattle.pl_conditions.proofs.ItemSearch.{NonePasses}

any_filter : {X : Type 0} (p q : X → Bool) (xs : List X)
    → list_any q (filter p xs) ≡ list_any (λ x. p x && q x) xs
any_filter p q [] = refl
any_filter p q (x ∷ xs) = choose (p x) (any_filter p q xs)
  where
    choose : (b : Bool) → list_any q (filter p xs) ≡ list_any (λ y. p y && q y) xs
        → list_any q (if b then x ∷ filter p xs else filter p xs) ≡ ((b && q x) || list_any (λ y. p y && q y) xs)
    choose true rest = ap (λ (a : Bool). q x || a) rest
    choose false rest = rest

-- a visit of the page passes
visits_pass : (kept : Kept) (page : PageId) (test : Visit → Bool)
    → list_any test (page_visits kept page) ≡ list_any (λ (v : Visit). (v.page.0 == page.0) && test v) kept.visits
visits_pass kept page test =
    any-latest_first test (visits_of (store_of kept) page)
    ∙ any_filter (λ (v : Visit). v.page.0 == page.0) test kept.visits

pub visit_passes : (kept : Kept) (page : PageId) (test : Visit → Bool) (P : List Visit → Type 0) (id : VisitId)
    → (w : StandsAt visit_names (page_visits kept page) P id) → test w.element ≡ true
    → true ≡ list_any (λ (v : Visit). (v.page.0 == page.0) && test v) kept.visits
visit_passes kept page test P id w is =
    sym (ap (list_any test) w.whole ∙ there test w.front w.element w.rest is) ∙ visits_pass kept page test

-- or none does
pub no_visit : (kept : Kept) (page : PageId) (test : Visit → Bool) (next : Option VisitId)
    → Walk visit_names (page_visits kept page) (NonePasses test) next → ((id : VisitId) → next ≢ Some id)
    → false ≡ list_any (λ (v : Visit). (v.page.0 == page.0) && test v) kept.visits
no_visit kept page test next w none =
    sym (ends visit_names (page_visits kept page) (NonePasses test) next w none) ∙ visits_pass kept page test

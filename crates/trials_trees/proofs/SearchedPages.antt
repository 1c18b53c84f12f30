-- A walk over the pages of rows for a URL that passes a test: the page that it finds, and that
-- page's origin.
use Rattle.std.proofs.Common.{◌≡◌, ◌&&◌, ◌++◌, ◌==◌, ◌∙◌, ℕ, Bool, true, false, List, [], ◌∷◌}
use Rattle.std.proofs.Common.{Option, Some, None, ap, eq-eqb, find, map, refl, sym}
use Rattle.std.specs.List.{AllByRecursion}
use Rattle.std.specs.Option.{option_map}
use Rattle.std.proofs.lemmas.Bool.{and_from}
use Rattle.std.proofs.lemmas.Option.{same_Some}
use Rattle.pl_base.specs.declared.id.PageId.{PageId}
use Rattle.pl_base.specs.declared.id.Slot.{Slot}
use Rattle.pl_base.specs.Address.{same_origin}
use Rattle.pl_base.specs.Rows.{IsOriginOf, IsWellKept, Kept, KeptPage, origin_of, store_of, url_of}
use Rattle.pl_base.specs.Store.{Page}
use Rattle.pl_base.proofs.ListLaws.{all_push}
use Rattle.pl_base.proofs.PagesRun.{following, page_here, page_names, pages_run, there}
use Rattle.pl_base.proofs.Walk.{StandsAt, Walk, goes_on}

-- no URL of these pages passes
abbrev pub NonePasses : (List ℕ → Bool) → List KeptPage → Type 0
NonePasses test pages = AllByRecursion (λ (p : KeptPage). test p.page.url ≡ false) pages

-- ---- the search

-- what is told of the URL of the page that the walk stands at
test_here : (test : List ℕ → Bool) (kept : Kept) (id : PageId) (passes : Bool) → IsWellKept kept
    → (s : StandsAt page_names kept.pages (NonePasses test) id) → Some passes ≡ option_map test (url_of kept id)
    → test s.element.page.url ≡ passes
test_here test kept id passes h s tested =
    let url : url_of kept id ≡ Some s.element.page.url = rw (page_here kept (NonePasses test) id s h) refl in
    sym (same_Some passes (test s.element.page.url) (tested ∙ ap (option_map test) url))

pub search_goes_on : (test : List ℕ → Bool) (kept : Kept) (id : PageId) (next : Option PageId) → IsWellKept kept
    → StandsAt page_names kept.pages (NonePasses test) id → Some false ≡ option_map test (url_of kept id)
    → next ≡ following kept id → Walk page_names kept.pages (NonePasses test) next
search_goes_on test kept id next h s tested is =
    goes_on page_names (following kept) kept.pages (NonePasses test) (NonePasses test) id next (pages_run kept h) s is
    (all_push (λ (p : KeptPage). test p.page.url ≡ false) s.front s.element s.so_far
    (test_here test kept id false h s tested))

-- ---- what was found

pub found : (test : List ℕ → Bool) (front : List KeptPage) (p : KeptPage) (rest : List KeptPage)
    → NonePasses test front → test p.page.url ≡ true
    → find (λ (q : Page). test q.url) (map (λ (q : KeptPage). q.page) (front ++ p ∷ rest)) ≡ Some p.page
found test [] p rest failed passes = rw passes refl
found test (q ∷ front) p rest failed passes = rw failed.0 (found test front p rest failed.1 passes)

pub found_here : (test : List ℕ → Bool) (kept : Kept) (id : PageId) → IsWellKept kept
    → StandsAt page_names kept.pages (NonePasses test) id → Some true ≡ option_map test (url_of kept id)
    → Some id ≡ option_map (λ (p : Page). p.id) (find (λ (p : Page). test p.url) (store_of kept).pages)
found_here test kept id h s tested =
    rw (s.whole, found test s.front s.element s.rest s.so_far (test_here test kept id true h s tested))
    (ap (λ (i : PageId). Some i) (sym s.is))

pub none_found : (test : List ℕ → Bool) (ps : List KeptPage) → NonePasses test ps
    → find (λ (p : Page). test p.url) (map (λ (p : KeptPage). p.page) ps) ≡ None
none_found test [] failed = refl
none_found test (p ∷ ps) failed = rw failed.0 (none_found test ps failed.1)

-- ---- its origin

pub origin_found : (kept : Kept) (url : List ℕ) (id : PageId) (origin : Slot) → IsWellKept kept
    → StandsAt page_names kept.pages (NonePasses (λ text. same_origin text url)) id
    → Some true ≡ option_map (λ text. same_origin text url) (url_of kept id) → Some origin ≡ origin_of kept id
    → IsOriginOf kept url (Some origin)
origin_found kept url id origin h s tested is =
    let test : List ℕ → Bool = λ text. same_origin text url in
    let here : s.element.origin ≡ origin =
    sym (same_Some origin s.element.origin
    (is ∙ ap (option_map (λ (p : KeptPage). p.origin)) (page_here kept (NonePasses test) id s h))) in
    rw s.whole
    (there (λ (p : KeptPage). (p.origin.0 == origin.0) && same_origin p.page.url url) s.front s.element s.rest
    (and_from (s.element.origin.0 == origin.0) (same_origin s.element.page.url url)
    (eq-eqb s.element.origin.0 origin.0 (ap (λ (o : Slot). o.0) here)) (test_here test kept id true h s tested)))

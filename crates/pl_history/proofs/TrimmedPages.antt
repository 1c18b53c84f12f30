-- The pages that a trim takes: none stands twice, and their visits are those of the definition.
use Rattle.std.proofs.Common.{◌≡◌, ◌≢◌, ◌∙◌, ◌<◌, ◌==◌, ◌&&◌, ◌-◌, ℕ, Bool, true, false, List, [], ◌∷◌, ap}
use Rattle.std.proofs.Common.{arith, filter, length, map, not, refl, subst, suc, sym, take}
use Rattle.std.specs.List.{AllPairs, list_any}
use Rattle.std.proofs.lemmas.List.{get_or-take, length-map, length-take, take-map}
use Rattle.std.proofs.lemmas.List.Elements.{recursion_from_All}
use Rattle.std.proofs.lemmas.List.Kept.{AllPairs-filter}
use Rattle.pl_base.specs.declared.id.PageId.{PageId}
use Rattle.pl_base.specs.declared.id.VisitId.{VisitId}
use Rattle.pl_base.specs.Expiration.{is_staler, stale_pages, trimmed_pages, visits_to}
use Rattle.pl_base.specs.Marks.{is_referenced}
use Rattle.pl_base.specs.Rows.{IsWellKept, Kept, KeptPage, store_of}
use Rattle.pl_base.specs.Store.{Page, Store, Visit}
use Rattle.pl_base.proofs.ListLaws.{AllPairs-map, everyone, list_any-alike, list_any-map, to_map, weaker}
use Rattle.pl_base.proofs.SortLaws.{apart_sorted}
use Rattle.pl_base.proofs.LookUps.{Apart}
use Rattle.pl_history.specs.declared.trimming.StalePage.{StalePage}
use Rattle.pl_history.specs.Stale.{stale_page, visits_of_pages}
use Rattle.pl_history.specs.Taken.{AreThese, ids_of}
use Rattle.pl_history.proofs.SameVisits.{filter-alike}
use Rattle.pl_history.proofs.StalePages.{stale_ids}
use Rattle.pl_history.proofs.StaleSort.{AreApart, pages_apart}
use Rattle.pl_history.proofs.TakenVisits.{are_these, eqb-sym, taken, to_pages}

-- ---- parts of a list

pairs_take : {X : Type 0} (R : X → X → Type 0) (n : ℕ) (xs : List X) → AllPairs R xs → AllPairs R (take n xs)
pairs_take R n xs pairs i j d before within =
    let cut : j < n = omega (arith, length-take n xs) in
    let there : j < length xs = omega (arith, length-take n xs) in
    rw (get_or-take n xs i d (omega arith), get_or-take n xs j d cut) (pairs i j d before there)

pairs_apart : (pages : List StalePage) → AllPairs (λ (p q : StalePage). p.page.0 ≢ q.page.0) pages
    → Apart (λ (p : PageId). p.0) (stale_ids pages)
pairs_apart [] apart = tt
pairs_apart (p ∷ ps) apart = (
  to_map (λ (q : PageId). q.0 ≢ p.page.0) (λ (q : StalePage). q.page) ps
      (weaker (λ (q : StalePage). p.page.0 ≢ q.page.0) (λ (q : StalePage). q.page.0 ≢ p.page.0) ps
      (λ q others same. others (sym same))
      (recursion_from_All (λ (q : StalePage). p.page.0 ≢ q.page.0) ps
      (λ k d lt. apart 0 (suc k) d (omega arith) (omega arith)))),
  pairs_apart ps (λ i j d before within. apart (suc i) (suc j) d (omega arith) (omega arith)),
)

-- ---- the visits to given pages

and_true : (b : Bool) → (b && true) ≡ b
and_true true = refl
and_true false = refl

pub stale_these : (kept : Kept) (pages : List StalePage) (ids : List VisitId) → IsWellKept kept
    → AllPairs (λ (p q : StalePage). p.page.0 ≢ q.page.0) pages
    → ids ≡ ids_of (taken (λ _. true) kept (stale_ids pages))
    → AreThese (visits_of_pages pages (store_of kept)) kept ids
stale_these kept pages ids h apart are =
    are_these (λ _. true) (λ (v : Visit). list_any (λ (p : StalePage). p.page.0 == v.page.0) pages) kept
    (stale_ids pages) ids h (pairs_apart pages apart)
    (everyone (λ (v : Visit). (to_pages (stale_ids pages) v && true)
    ≡ list_any (λ (p : StalePage). p.page.0 == v.page.0) pages) kept.visits
    (λ v. and_true (to_pages (stale_ids pages) v)
    ∙ list_any-map (λ (p : PageId). v.page.0 == p.0) (λ (p : StalePage). p.page) pages
    ∙ list_any-alike (λ (p : StalePage). v.page.0 == p.page.0) (λ (p : StalePage). p.page.0 == v.page.0) pages
    (λ p. eqb-sym v.page.0 p.page.0)))
    are

-- ---- the pages of a trim

-- the pages that go
abbrev pub AreTrimmed : ℕ → Store → List StalePage → Type 0
AreTrimmed most store pages = pages ≡ map (stale_page store) (trimmed_pages most store)

pub trimmed_are : (kept : Kept) (most count excess : ℕ) (found cut : List StalePage)
    → found ≡ map (stale_page (store_of kept)) (stale_pages (store_of kept)) → cut ≡ take excess found
    → count ≡ length kept.pages → excess ≡ count - most → AreTrimmed most (store_of kept) cut
trimmed_are kept most count excess found cut all is counted beyond =
    let many : length (store_of kept).pages ≡ length kept.pages = length-map kept.pages (λ (p : KeptPage). p.page) in
    let so_many : excess ≡ length (store_of kept).pages - most =
    beyond ∙ ap (λ (n : ℕ). n - most) (counted ∙ sym many) in
    is ∙ ap (take excess) all ∙ take-map (stale_page (store_of kept)) excess (stale_pages (store_of kept))
    ∙ ap (λ (n : ℕ). map (stale_page (store_of kept)) (take n (stale_pages (store_of kept)))) so_many

pub trimmed_apart : (kept : Kept) (most : ℕ) (pages : List StalePage) → IsWellKept kept
    → AreTrimmed most (store_of kept) pages → AllPairs (λ (p q : StalePage). p.page.0 ≢ q.page.0) pages
trimmed_apart kept most pages h are =
    let free : List Page = filter (λ (p : Page). not (is_referenced (store_of kept) p.id)) (store_of kept).pages in
    let sorted : AreApart (stale_pages (store_of kept)) =
    apart_sorted (is_staler (store_of kept)) (λ (p : Page). p.id.0) free
    (AllPairs-filter (λ (p q : Page). p.id.0 ≢ q.id.0) (λ (p : Page). not (is_referenced (store_of kept) p.id))
    (store_of kept).pages (pages_apart kept h)) in
    subst (AllPairs (λ (p q : StalePage). p.page.0 ≢ q.page.0)) (sym are)
    (AllPairs-map (λ (p q : StalePage). p.page.0 ≢ q.page.0) (stale_page (store_of kept))
    (trimmed_pages most (store_of kept))
    (pairs_take (λ (p q : Page). p.id.0 ≢ q.id.0) (length (store_of kept).pages - most)
    (stale_pages (store_of kept)) sorted))

-- their visits
pub trimmed_visits : (most : ℕ) (store : Store) (pages : List StalePage) → AreTrimmed most store pages
    → visits_of_pages pages store ≡ visits_to (trimmed_pages most store) store
trimmed_visits most store pages are =
    ap (λ (ps : List StalePage). visits_of_pages ps store) are
    ∙ ap ids_of
    (filter-alike
    (λ (v : Visit). list_any (λ (p : StalePage). p.page.0 == v.page.0)
    (map (stale_page store) (trimmed_pages most store)))
    (λ (v : Visit). list_any (λ (p : Page). p.id.0 == v.page.0) (trimmed_pages most store)) store.visits
    (λ v. list_any-map (λ (p : StalePage). p.page.0 == v.page.0) (stale_page store) (trimmed_pages most store)))

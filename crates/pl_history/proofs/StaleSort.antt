-- A sort of the pages that may go gives `stalest_first`, since no id stands twice.
use Rattle.std.proofs.Common.{◌≡◌, ◌≢◌, ◌∙◌, ◌+◌, ◌<◌, List, ap, arith, get_or, map, subst, sym}
use Rattle.std.specs.List.{AllPairs, IsDistinct}
use Rattle.std.specs.List.Sorted.{IsPermutation, IsSortedBy, ties}
use Rattle.std.proofs.lemmas.List.Kept.{AllPairs-from_increasing}
use Rattle.pl_base.specs.Expiration.{stalest_first}
use Rattle.pl_base.specs.Rows.{IsWellKept, Kept, KeptPage, store_of}
use Rattle.pl_base.specs.Sorting.{sorted_by}
use Rattle.pl_base.specs.Store.{Page, Store}
use Rattle.pl_base.proofs.ListLaws.{AllPairs-from_map, AllPairs-map}
use Rattle.pl_base.proofs.SortLaws.{none_tie, sorted_map, weak_sorted_is}
use Rattle.pl_history.specs.declared.trimming.StalePage.{StalePage}
use Rattle.pl_history.specs.Stale.{stale_page}
use Rattle.pl_history.proofs.StaleOrder.{compare, compared, staler, staler_ranks, tied_pages}

-- no id stands twice
abbrev pub AreApart : List Page → Type 0
AreApart ps = AllPairs (λ (p q : Page). p.id.0 ≢ q.id.0) ps

pub pages_apart : (kept : Kept) → IsWellKept kept → AreApart (store_of kept).pages
pages_apart kept h =
    AllPairs-map (λ (p q : Page). p.id.0 ≢ q.id.0) (λ (p : KeptPage). p.page) kept.pages
    (λ i j d before within same.
    let above = AllPairs-from_map (λ m n. m < n) (λ (p : KeptPage). p.page.id.0) kept.pages
    (AllPairs-from_increasing (map (λ (p : KeptPage). p.page.id.0) kept.pages) h.page_ids.ascending) i j d before
    within in
    omega arith)

pub stalest_is : (store : Store) (ps : List Page) (collected sorted : List StalePage) → AreApart ps
    → collected ≡ map (stale_page store) ps → IsPermutation collected sorted → IsSortedBy compare sorted
    → sorted ≡ map (stale_page store) (stalest_first store ps)
stalest_is store ps collected sorted apart is moves up =
    let distinct : IsDistinct (ties staler) (map (stale_page store) ps) =
    none_tie staler (λ x. x.page.0) tied_pages (map (stale_page store) ps)
    (AllPairs-map (λ (x y : StalePage). x.page.0 ≢ y.page.0) (stale_page store) ps apart) in
    weak_sorted_is staler staler_ranks collected sorted (subst (IsDistinct (ties staler)) (sym is) distinct) moves
    (λ k d low within. sym (compared (get_or sorted (k + 1) d) (get_or sorted k d)) ∙ up k d low within)
    ∙ ap (sorted_by staler) is ∙ sym (sorted_map (stale_page store) staler ps)

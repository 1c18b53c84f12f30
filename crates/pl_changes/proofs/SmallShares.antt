-- The positive frecencies of all pages are small together, and so are those of their views.
use Rattle.std.proofs.Common.{◌≡◌, ◌+◌, ◌*◌, ◌^◌, ◌<◌, ℕ, List, [], ◌∷◌, ap, arith, length, refl}
use Rattle.std.specs.List.{sum_by}
use Rattle.std.proofs.lemmas.List.{length-map}
use Rattle.std.proofs.lemmas.List.Sums.{sum_by-cons}
use Rattle.pl_base.specs.declared.view.View.{View}
use Rattle.pl_base.specs.Frecency.{frecency_of}
use Rattle.pl_base.specs.Marks.{visit_count}
use Rattle.pl_base.specs.Rows.{IsWellKept, Kept, KeptPage, store_of}
use Rattle.pl_base.specs.Store.{Page, Store}
use Rattle.pl_base.specs.Totals.{share}
use Rattle.pl_base.specs.View.{AreViews, AreViewsOf}
use Rattle.pl_base.proofs.ListLaws.{sum_by-le, sum_by-map}
use Rattle.pl_base.proofs.SmallFrecencies.{page-le}
use Rattle.pl_history.proofs.PageCounts.{counts_of_pages}
use Rattle.pl_known.specs.Known.{shares}

linear : {X : Type 0} (f : X → ℕ) (xs : List X)
    → sum_by (λ x. f x * 2_075 + 340) xs ≡ sum_by f xs * 2_075 + length xs * 340
linear f [] = refl
linear f (x ∷ xs) =
    omega (arith, sum_by-cons (λ y. f y * 2_075 + 340) x xs, sum_by-cons f x xs, linear f xs)

-- the shares of all pages together
few_shares : (kept : Kept) → IsWellKept kept
    → sum_by (λ (p : KeptPage). share (frecency_of (store_of kept) p.page)) kept.pages < 2 ^ 35
few_shares kept h =
    let live = h.live in
    omega (
      arith,
      sum_by-le (λ (p : KeptPage). share (frecency_of (store_of kept) p.page))
          (λ (p : KeptPage). visit_count (store_of kept) p.page.id * 2_075 + 340) kept.pages
          (λ p. page-le (store_of kept) p.page),
      linear (λ (p : KeptPage). visit_count (store_of kept) p.page.id) kept.pages,
      counts_of_pages kept h,
      length-map kept.pages (λ (p : KeptPage). p.page),
    )

-- views have the frecencies of their pages
same_shares : (store : Store) (ps : List Page) (vs : List View) → AreViews store ps vs
    → shares vs ≡ sum_by (λ (p : Page). share (frecency_of store p)) ps
same_shares store [] [] are = refl
same_shares store [] (v ∷ vs) are = absurd are
same_shares store (p ∷ ps) [] are = absurd are
same_shares store (p ∷ ps) (v ∷ vs) are =
    omega (
      arith,
      sum_by-cons (λ (w : View). share w.frecency) v vs,
      sum_by-cons (λ (q : Page). share (frecency_of store q)) p ps,
      ap share are.0.frecency,
      same_shares store ps vs are.1,
    )

pub small : (kept : Kept) (views : List View) → IsWellKept kept → AreViewsOf (store_of kept) views
    → shares views < 2 ^ 35
small kept views h are =
    let store : Store = store_of kept in
    omega (
      arith,
      same_shares store store.pages views are,
      sum_by-map (λ (p : Page). share (frecency_of store p)) (λ (p : KeptPage). p.page) kept.pages,
      few_shares kept h,
    )

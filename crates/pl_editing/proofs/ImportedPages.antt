-- Which of the pages with a new item an import made, and what holds of them.
use Rattle.std.proofs.Common.{◌≡◌, ◌∙◌, ◌+◌, ◌<◌, ◌≤◌, ◌==◌, ◌||◌, ℕ, All, Bool, true, false}
use Rattle.std.proofs.Common.{List, [], ◌∷◌, ap, arith, filter, get_or, inl, inr, map, refl, subst, sym}
use Rattle.std.specs.List.{AllByRecursion, list_any}
use Rattle.std.specs.List.Sorted.{IsNonDecreasingBy, IsStrictlyIncreasing}
use Rattle.std.proofs.lemmas.Bool.{cases_lt, eqb-true, ne_eqb}
use Rattle.std.proofs.lemmas.List.Elements.{All-append, All-map, filter_passes, recursion_from_All}
use Rattle.std.proofs.lemmas.List.Folds.{list_any_none}
use Rattle.pl_base.specs.declared.id.PageId.{PageId}
use Rattle.pl_base.specs.Rows.{IsWellKept, Kept, KeptPage, store_of}
use Rattle.pl_base.specs.Store.{Page, Store, Visit}
use Rattle.pl_base.proofs.ListLaws.{AllPairs-map, list_any-map}
use Rattle.pl_base.proofs.PageLaws.{ids_below}
use Rattle.pl_nbread.specs.declared.tree.Tree.{Tree}
use Rattle.pl_graft.specs.Gained.{Grows, gained, has_new_item}
use Rattle.pl_graft.specs.Import.{imported}
use Rattle.pl_bearing.proofs.ImportedReferences.{AddsPages, imported_pages}
use Rattle.pl_editing.specs.NewPage.{IsNew}
use Rattle.pl_editing.proofs.ImportSettled.{gained_ascend, gained_there, has_new}

-- ---- the old pages

below_next : (n next : ℕ) (pages : List KeptPage) → AllByRecursion (λ (p : KeptPage). p.page.id.0 < next) pages
    → list_any (λ (p : KeptPage). p.page.id.0 == n) pages ≡ true → n < next
below_next n next [] below there = absurd (cc)
below_next n next (p ∷ pages) below there =
    choose (p.page.id.0 == n) refl there (below_next n next pages below.1)
  where
    choose : (b : Bool) → (p.page.id.0 == n) ≡ b → (b || list_any (λ (q : KeptPage). q.page.id.0 == n) pages) ≡ true
        → (list_any (λ (q : KeptPage). q.page.id.0 == n) pages ≡ true → n < next) → n < next
    choose true is here rest = omega (arith, eqb-true p.page.id.0 n is, below.0)
    choose false is here rest = rest here

-- ---- a new page

module _ (tree : Tree) (old new : Kept) (h : IsWellKept old) (is : store_of new ≡ imported tree (store_of old))
    (g : Grows old new) where
  -- the visits are the old ones, and have old pages
  unvisited : (page : PageId) → old.ids.page ≤ page.0
      → list_any (λ (v : Visit). v.page.0 == page.0) new.visits ≡ false
  unvisited page above =
      ap (list_any (λ (v : Visit). v.page.0 == page.0)) g.visits
      ∙ list_any_none (λ (v : Visit). v.page.0 == page.0) old.visits
      (λ k d within.
      let v : Visit = get_or old.visits k d in
      ne_eqb v.page.0 page.0
      (λ same.
      omega (
        arith,
        above,
        same,
        below_next v.page.0 old.ids.page old.pages
            (recursion_from_All (λ (p : KeptPage). p.page.id.0 < old.ids.page) old.pages (ids_below old h))
            (h.visits k d within).1,
      )))

  untyped : (page : PageId) → old.ids.page ≤ page.0
      → All (λ (p : Page). p.id ≡ page → p.typed ≡ false) (store_of new).pages
  untyped page above =
      let Untyped : Page → Type 0 = λ (p : Page). p.id ≡ page → p.typed ≡ false in
      let a : AddsPages (store_of old) (imported tree (store_of old)) = imported_pages tree (store_of old) in
      subst (All Untyped) (sym (ap (λ (s : Store). s.pages) is ∙ a.is))
      (All-append Untyped (store_of old).pages a.added
      (All-map Untyped (λ (p : KeptPage). p.page) old.pages
      (λ k d within same.
      absurd (omega (arith, above, ap (λ (id : PageId). id.0) same, ids_below old h k d within))))
      (λ k d within same. a.untyped k d within))

  -- of the pages with a new item those from the old next id on are new
  pub imported_new : All (λ (page : PageId). old.ids.page ≤ page.0 → IsNew (store_of new) page)
      (gained (store_of old) (store_of new))
  imported_new k d within above =
      let pages : List PageId = gained (store_of old) (store_of new) in
      let page : PageId = get_or pages k d in
      let holds : Page → Bool = λ (p : Page). has_new_item old.ids.item new.items p.id in
      record {
        there =
            list_any-map (λ (p : Page). p.id.0 == page.0) (λ (p : KeptPage). p.page) new.pages
            ∙ gained_there (store_of old) new k d within;
        referenced =
            has_new old.ids.item new.items page
            (All-map (λ (id : PageId). has_new_item old.ids.item new.items id ≡ true) (λ (p : Page). p.id)
            (filter holds (store_of new).pages) (filter_passes holds (store_of new).pages) k d within);
        unvisited = unvisited page above;
        untyped = untyped page above;
      }

-- the pages with a new item stand by ascending id
pub imported_rise : (old : Store) (new : Kept) → IsWellKept new
    → IsNonDecreasingBy (λ (page : PageId). page.0) (gained old (store_of new))
imported_rise old new h i j d before within =
    elim (cases_lt i j) [
      | inl less ↦ omega (arith, gained_ascend old new h i j d less within)
      | inr past ↦
          let same : i ≡ j = omega arith in
          omega (arith, ap (λ (k : ℕ). (get_or (gained old (store_of new)) k d).0) same)
    ]

-- and each once
pub imported_once : (old : Store) (new : Kept) → IsWellKept new
    → IsStrictlyIncreasing (map (λ (page : PageId). page.0) (gained old (store_of new)))
imported_once old new h k within =
    AllPairs-map (λ (m n : ℕ). m < n) (λ (page : PageId). page.0) (gained old (store_of new))
    (gained_ascend old new h) k (k + 1) 0 (omega arith) within

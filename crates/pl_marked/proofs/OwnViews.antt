-- A page and its view are found together.
use Rattle.std.proofs.Common.{◌≡◌, ◌∙◌, ◌==◌, Bool, true, false, List, [], ◌∷◌, Option, Some, None, ap, find}
use Rattle.std.proofs.Common.{if◌then◌else◌, map, refl, subst, sym}
use Rattle.std.proofs.lemmas.Option.{same_Some}
use Rattle.pl_base.specs.declared.id.PageId.{PageId}
use Rattle.pl_base.specs.declared.view.View.{View}
use Rattle.pl_base.specs.Rows.{Kept, KeptPage, has_page, page_at, store_of}
use Rattle.pl_base.specs.Store.{Store}
use Rattle.pl_base.specs.View.{AreViews, AreViewsOf, IsViewOf}
use Rattle.pl_base.proofs.LookUps.{found_some}
use Rattle.pl_known.specs.Known.{view_of}
use Rattle.pl_marked.specs.Found.{IsOwnView}

-- both are there, and the view is that of the page, or none is
abbrev pub Together : Store → Option KeptPage → Option View → Type 0
Together store None None = Unit {0}
Together store None (Some v) = ⊥
Together store (Some p) None = ⊥
Together store (Some p) (Some v) = IsViewOf store p.page v

pub found_together : (store : Store) (test : KeptPage → Bool) (seen : View → Bool)
    → ((p : KeptPage) (v : View) → IsViewOf store p.page v → test p ≡ seen v) → (pages : List KeptPage)
    (views : List View) → AreViews store (map (λ (p : KeptPage). p.page) pages) views
    → Together store (find test pages) (find seen views)
found_together store test seen alike [] [] of = tt
found_together store test seen alike [] (v ∷ vs) of = absurd of
found_together store test seen alike (p ∷ ps) [] of = absurd of
found_together store test seen alike (p ∷ ps) (v ∷ vs) of =
    choose (test p) (seen v) (alike p v of.0) (found_together store test seen alike ps vs of.1)
  where
    choose : (a b : Bool) → a ≡ b → Together store (find test ps) (find seen vs)
        → Together store (if a then Some p else find test ps) (if b then Some v else find seen vs)
    choose true true is rest = of.0
    choose true false is rest = absurd (cc)
    choose false true is rest = absurd (cc)
    choose false false is rest = rest

module _ (kept : Kept) (views : List View) (of : AreViewsOf (store_of kept) views) where
  by_id : (id : PageId) → Together (store_of kept) (page_at kept id) (view_of id views)
  by_id id =
      found_together (store_of kept) (λ (p : KeptPage). p.page.id.0 == id.0) (λ (v : View). v.id.0 == id.0)
      (λ p v is. ap (λ (other : PageId). other.0 == id.0) (sym is.id)) kept.pages views of

  -- the page of a view
  pub page_found : (id : PageId) (view : View) → view_of id views ≡ Some view
      → (p : KeptPage) × (page_at kept id ≡ Some p) × IsViewOf (store_of kept) p.page view
  page_found id view seen =
      choose (page_at kept id) refl (subst (Together (store_of kept) (page_at kept id)) seen (by_id id))
    where
      choose : (o : Option KeptPage) → page_at kept id ≡ o → Together (store_of kept) o (Some view)
          → (p : KeptPage) × (page_at kept id ≡ Some p) × IsViewOf (store_of kept) p.page view
      choose None is together = absurd together
      choose (Some p) is together = (p, is, together)

  pub own_view : (view : View) → view_of view.id views ≡ Some view → IsOwnView kept view
  own_view view seen p at =
      let found = page_found view.id view seen in
      subst (λ (q : KeptPage). IsViewOf (store_of kept) q.page view) (same_Some found.0 p (sym found.1 ∙ at)) found.2

  pub page_there : (id : PageId) (view : View) → view_of id views ≡ Some view → has_page kept id ≡ true
  page_there id view seen =
      let found = page_found id view seen in
      found_some (λ (p : KeptPage). p.page.id.0 == id.0) kept.pages found.0 found.1

  pub no_page : (id : PageId) → view_of id views ≡ None → page_at kept id ≡ None
  no_page id unseen =
      choose (page_at kept id) refl (subst (Together (store_of kept) (page_at kept id)) unseen (by_id id))
    where
      choose : (o : Option KeptPage) → page_at kept id ≡ o → Together (store_of kept) o None → page_at kept id ≡ None
      choose None is together = is
      choose (Some p) is together = absurd together

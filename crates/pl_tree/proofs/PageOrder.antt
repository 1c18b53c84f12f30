-- A page that was lost is one of those that were put in order, each once.
use Rattle.std.proofs.Common.{◌≡◌, ◌∙◌, ◌==◌, ◌||◌, Bool, true, false, List, [], ◌∷◌, ap}
use Rattle.std.proofs.Common.{if◌then◌else◌, refl, sym}
use Rattle.std.specs.List.{dedup, dedup_from}
use Rattle.pl_base.specs.declared.id.PageId.{PageId}
use Rattle.pl_base.proofs.IdsLaws.{same_page}
use Rattle.pl_base.proofs.PageOrder.{alike}
use Rattle.pl_tree.specs.LostPages.{has_lost}

lost_from : (page k : PageId) (pages : List PageId)
    → has_lost page (dedup_from alike k pages) ≡ has_lost page (k ∷ pages)
lost_from page k [] = refl
lost_from page k (p ∷ pages) = choose (p.0 == k.0) refl (lost_from page k pages) (lost_from page p pages)
  where
    twice : (a b : Bool) → (a || b) ≡ (a || (a || b))
    twice true b = refl
    twice false b = refl

    choose : (b : Bool) → (p.0 == k.0) ≡ b
        → has_lost page (dedup_from alike k pages) ≡ has_lost page (k ∷ pages)
        → has_lost page (dedup_from alike p pages) ≡ has_lost page (p ∷ pages)
        → has_lost page (if b then dedup_from alike k pages else k ∷ dedup_from alike p pages)
        ≡ has_lost page (k ∷ p ∷ pages)
    choose true is same other =
        same ∙ twice (k.0 == page.0) (has_lost page pages)
        ∙ ap (λ (q : PageId). (k.0 == page.0) || ((q.0 == page.0) || has_lost page pages)) (sym (same_page p k is))
    choose false is same other = ap (λ (b : Bool). (k.0 == page.0) || b) other

pub lost_once : (page : PageId) (pages : List PageId) → has_lost page (dedup alike pages) ≡ has_lost page pages
lost_once page [] = refl
lost_once page (p ∷ pages) = lost_from page p pages

-- A page is one of some where it is one of those that were put in order, each once.
use Rattle.std.proofs.Common.{◌≡◌, ◌∙◌, ◌==◌, ◌||◌, Bool, true, false, List, [], ◌∷◌, ap}
use Rattle.std.proofs.Common.{if◌then◌else◌, refl, sym}
use Rattle.std.specs.List.{dedup, dedup_from, list_any}
use Rattle.pl_base.specs.declared.id.PageId.{PageId}
use Rattle.pl_base.proofs.IdsLaws.{same_page}
use Rattle.pl_base.proofs.PageOrder.{alike}

-- the page is one of these
abbrev pub is_one : PageId → List PageId → Bool
is_one page pages = list_any (λ (id : PageId). page.0 == id.0) pages

one_from : (page k : PageId) (pages : List PageId) → is_one page (dedup_from alike k pages) ≡ is_one page (k ∷ pages)
one_from page k [] = refl
one_from page k (p ∷ pages) = choose (p.0 == k.0) refl (one_from page k pages) (one_from page p pages)
  where
    twice : (a b : Bool) → (a || b) ≡ (a || (a || b))
    twice true b = refl
    twice false b = refl

    choose : (b : Bool) → (p.0 == k.0) ≡ b → is_one page (dedup_from alike k pages) ≡ is_one page (k ∷ pages)
        → is_one page (dedup_from alike p pages) ≡ is_one page (p ∷ pages)
        → is_one page (if b then dedup_from alike k pages else k ∷ dedup_from alike p pages)
        ≡ is_one page (k ∷ p ∷ pages)
    choose true is same other =
        same ∙ twice (page.0 == k.0) (is_one page pages)
        ∙ ap (λ (q : PageId). (page.0 == k.0) || ((page.0 == q.0) || is_one page pages)) (sym (same_page p k is))
    choose false is same other = ap (λ (b : Bool). (page.0 == k.0) || b) other

pub one_once : (page : PageId) (pages : List PageId) → is_one page (dedup alike pages) ≡ is_one page pages
one_once page [] = refl
one_once page (p ∷ pages) = one_from page p pages

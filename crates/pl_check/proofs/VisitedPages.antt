-- The pages that visits have, by their numbers.
use Rattle.std.proofs.Common.{◌≡◌, ◌∙◌, ◌==◌, ◌&&◌, ◌||◌, Bool, true, false, List, [], ◌∷◌, if◌then◌else◌, refl}
use Rattle.std.specs.List.{filter, list_any}
use Rattle.pl_base.specs.declared.id.PageId.{PageId}
use Rattle.pl_base.specs.Marks.{is_typed}
use Rattle.pl_base.proofs.ListLaws.{list_any-map}
use Rattle.pl_stored.specs.declared.stored.StoredVisit.{StoredVisit}
use Rattle.pl_check.specs.Rows.{is_typed_visit}
use Rattle.pl_check.specs.Visited.{typed_pages, visited_pages}

pub has_pages : (visits : List StoredVisit) (page : PageId)
    → list_any (λ n. n == page.0) (visited_pages visits) ≡ list_any (λ (v : StoredVisit). v.page.0 == page.0) visits
has_pages visits page = list_any-map (λ n. n == page.0) (λ (v : StoredVisit). v.page.0) visits

kept_one : (b x y : Bool) → x ≡ y → (b || x) ≡ ((b && true) || y)
kept_one true x y same = refl
kept_one false x y same = same

left_out : (b x y : Bool) → x ≡ y → x ≡ ((b && false) || y)
left_out true x y same = same
left_out false x y same = same

-- one of those that are kept passes the test
any_kept : {X : Type 0} (p q : X → Bool) (xs : List X) → list_any p (filter q xs) ≡ list_any (λ x. p x && q x) xs
any_kept p q [] = refl
any_kept p q (x ∷ xs) = choose (q x) (any_kept p q xs)
  where
    choose : (kept : Bool) → list_any p (filter q xs) ≡ list_any (λ y. p y && q y) xs
        → list_any p (if kept then x ∷ filter q xs else filter q xs)
        ≡ ((p x && kept) || list_any (λ y. p y && q y) xs)
    choose true rest = kept_one (p x) _ _ rest
    choose false rest = left_out (p x) _ _ rest

pub has_typed_pages : (visits : List StoredVisit) (page : PageId)
    → list_any (λ n. n == page.0) (typed_pages visits) ≡ list_any (is_typed_visit page) visits
has_typed_pages visits page =
    has_pages (filter (λ (v : StoredVisit). is_typed v.transition) visits) page
    ∙ any_kept (λ (v : StoredVisit). v.page.0 == page.0) (λ (v : StoredVisit). is_typed v.transition) visits

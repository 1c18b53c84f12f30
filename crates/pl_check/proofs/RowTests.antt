-- That no URL stands twice.
use Rattle.std.proofs.Common.{◌≡◌, ◌≢◌, ◌↔◌, ◌∙◌, ℕ, All, Bool, true, not, IsTrue}
use Rattle.std.proofs.Common.{List, [], ◌∷◌, ap, arith, bytes_eq, get_or, map, refl, subst, suc}
use Rattle.std.proofs.Common.{sym, zero}
use Rattle.std.specs.List.{AllPairs, list_any}
use Rattle.std.proofs.lemmas.Bool.{and_from, and_parts, not-true, not_from_false, true≢false}
use Rattle.std.proofs.lemmas.List.Folds.{Any-from_list_any}
use Rattle.std.proofs.lemmas.Slice.Eq.{bytes_eq-Decides}
use Rattle.pl_base.proofs.ListLaws.{AllPairs-from_map, AllPairs-map}
use Rattle.pl_base.proofs.LookUps.{none_at}
use Rattle.pl_base.proofs.Truths.{no_test, same_tests}
use Rattle.pl_stored.specs.declared.stored.StoredPage.{StoredPage}
use Rattle.pl_check.specs.Rows.{have_own_urls}
use Rattle.pl_check.specs.Tags.{AreDistinct}

-- ---- URLs

pairs_nil : {X : Type 0} (R : X → X → Type 0) → AllPairs R []
pairs_nil R i j d before within = absurd (omega arith)

pairs_cons : {X : Type 0} (R : X → X → Type 0) (x : X) (xs : List X) → All (R x) xs → AllPairs R xs
    → AllPairs R (x ∷ xs)
pairs_cons R x xs each pairs zero zero d before within = absurd (omega arith)
pairs_cons R x xs each pairs zero (suc j) d before within = each j d (omega arith)
pairs_cons R x xs each pairs (suc i) zero d before within = absurd (omega arith)
pairs_cons R x xs each pairs (suc i) (suc j) d before within = pairs i j d (omega arith) (omega arith)

pub own_urls-to : (pages : List StoredPage) → have_own_urls pages ≡ true
    → AllPairs (λ (p q : StoredPage). p.url ≢ q.url) pages
own_urls-to [] h = pairs_nil (λ (p q : StoredPage). p.url ≢ q.url)
own_urls-to (p ∷ pages) h =
    let parts = and_parts (not (list_any (λ (q : StoredPage). bytes_eq q.url p.url) pages)) (have_own_urls pages) h in
    let none = none_at (λ (q : StoredPage). bytes_eq q.url p.url) pages (not-true _ parts.0) in
    pairs_cons (λ (p q : StoredPage). p.url ≢ q.url) p pages
    (λ k d within same. true≢false
    (sym ((bytes_eq-Decides (get_or pages k d).url p.url).1 (sym same)) ∙ none k d within))
    (own_urls-to pages parts.1)

pub own_urls-from : (pages : List StoredPage) → AllPairs (λ (p q : StoredPage). p.url ≢ q.url) pages
    → have_own_urls pages ≡ true
own_urls-from [] h = refl
own_urls-from (p ∷ pages) h =
    and_from (not (list_any (λ (q : StoredPage). bytes_eq q.url p.url) pages)) (have_own_urls pages)
    (not_from_false _ (no_test _ (λ some.
    let at = Any-from_list_any (λ (q : StoredPage). bytes_eq q.url p.url) pages some in
    h 0 (suc at.0) at.1 (omega arith) (omega (arith, at.2))
    (sym (ap (λ (q : StoredPage). q.url) at.3 ∙ (bytes_eq-Decides at.1.url p.url).0 at.4)))))
    (own_urls-from pages (λ i j d before within. h (suc i) (suc j) d (omega arith) (omega arith)))

-- a test that the URLs are distinct
pub own_urls_are : (own : Bool) (urls : List (List ℕ)) (pages : List StoredPage)
    → urls ≡ map (λ (p : StoredPage). p.url) pages → IsTrue own ↔ AreDistinct urls → own ≡ have_own_urls pages
own_urls_are own urls pages are means =
    same_tests own (have_own_urls pages)
    (λ t. own_urls-from pages (AllPairs-from_map (λ (x y : List ℕ). x ≢ y) (λ (p : StoredPage). p.url) pages
    (subst AreDistinct are (means.0 t))))
    (λ t. means.1 (subst AreDistinct (sym are)
    (AllPairs-map (λ (x y : List ℕ). x ≢ y) (λ (p : StoredPage). p.url) pages (own_urls-to pages t))))

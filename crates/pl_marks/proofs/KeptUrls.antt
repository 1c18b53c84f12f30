-- The URLs of rows.
use Rattle.std.proofs.Common.{◌≡◌, ◌==◌, ℕ, Bool, true, false, List, [], ◌∷◌, Some, find, if◌then◌else◌, subst}
use Rattle.std.specs.List.{AllByRecursion}
use Rattle.std.specs.Option.{option_map}
use Rattle.std.proofs.lemmas.List.Elements.{recursion_from_All}
use Rattle.pl_base.specs.declared.id.PageId.{PageId}
use Rattle.pl_base.specs.Address.{is_store_url}
use Rattle.pl_base.specs.Rows.{IsWellKept, Kept, KeptPage, url_of}

of_one : (P : List ℕ → Type 0) (test : KeptPage → Bool) (text : List ℕ) (ps : List KeptPage)
    → AllByRecursion (λ (p : KeptPage). P p.page.url) ps
    → Some text ≡ option_map (λ (p : KeptPage). p.page.url) (find test ps) → P text
of_one P test text [] all is = absurd (cc)
of_one P test text (p ∷ ps) all is = choose (test p) is (of_one P test text ps all.1)
  where
    choose : (b : Bool) → Some text ≡ option_map (λ (q : KeptPage). q.page.url) (if b then Some p else find test ps)
        → (Some text ≡ option_map (λ (q : KeptPage). q.page.url) (find test ps) → P text) → P text
    choose true here rest =
        let same : p.page.url ≡ text = cc in
        subst P same all.0
    choose false here rest = rest here

pub url-of_store : (kept : Kept) (page : PageId) (text : List ℕ) → IsWellKept kept → Some text ≡ url_of kept page
    → is_store_url text ≡ true
url-of_store kept page text h is =
    of_one (λ url. is_store_url url ≡ true) (λ (p : KeptPage). p.page.id.0 == page.0) text kept.pages
    (recursion_from_All (λ (p : KeptPage). is_store_url p.page.url ≡ true) kept.pages h.urls) is

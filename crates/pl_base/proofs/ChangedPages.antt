-- Changed pages laid over bytes, page by page.
use Rattle.std.proofs.Common.{◌≡◌, ◌++◌, ℕ, List, [], ◌∷◌, refl}
use Rattle.pl_base.specs.Touched.{PageImage, with_page, with_pages}

-- one page more is laid over what the others made
pub with_more : (xs : List PageImage) (p : PageImage) (bytes : List ℕ)
    → with_pages (xs ++ p ∷ []) bytes ≡ with_page p (with_pages xs bytes)
with_more [] p bytes = refl
with_more (x ∷ xs) p bytes = with_more xs p (with_page x bytes)

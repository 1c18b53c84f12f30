-- The pages that a visit bears on beside its own.
use Rattle.std.specs.Prelude.{◌≡◌, ◌++◌, List, map}
use Rattle.std.specs.List.Sorted.{IsPermutation}
use Rattle.pl_base.specs.declared.id.PageId.{PageId}
use Rattle.pl_base.specs.declared.id.VisitId.{VisitId}
use Rattle.pl_base.specs.Redirects.{redirects_from}
use Rattle.pl_base.specs.Rows.{Kept, store_of}
use Rattle.pl_base.specs.Store.{Visit}

-- the pages of the redirects that came from the visit stand behind the others, in some order
pub record WithRedirectPages (kept : Kept) (visit : VisitId) (old new : List PageId) : Type 0 where
  pub redirects : List Visit
  pub all : IsPermutation redirects (redirects_from (store_of kept) visit)
  pub is : new ≡ old ++ map (λ (v : Visit). v.page) redirects

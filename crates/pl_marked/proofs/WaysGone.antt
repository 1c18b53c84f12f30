-- What is found on a way so far: the bookmarks of some rows, each with the view of its page.
use Rattle.std.proofs.Common.{◌≡◌, ◌+◌, ◌<◌, ◌≤◌, ℕ, List, [], get_or, length, refl, subst, sym, take}
use Rattle.std.specs.List.{flat_map}
use Rattle.std.proofs.lemmas.List.{take_all}
use Rattle.std.proofs.lemmas.List.Elements.{All-nil}
use Rattle.pl_base.specs.Rows.{Kept}
use Rattle.pl_place.specs.declared.query.Query.{Query}
use Rattle.pl_query.specs.Order.{Row}
use Rattle.pl_marked.specs.declared.found.Found.{Found}
use Rattle.pl_marked.specs.Found.{AreAdded, AreFound, HaveViews, IsOwnView}
use Rattle.pl_marked.proofs.PageRows.{next_taken, rows_more}

pub record AreSoFar (kept : Kept) (q : Query) (rows : List Row) (found : List Found) : Type 0 where
  pub are : AreFound kept q rows found
  pub views : HaveViews kept found

module _ (kept : Kept) (q : Query) where
  pub none_yet : (found : List Found) → found ≡ [] → AreSoFar kept q [] found
  none_yet found none =
      subst (AreSoFar kept q []) (sym none)
      (record { are = refl; views = All-nil (λ (f : Found). IsOwnView kept f.view.now) })

  pub one_more : {X : Type 0} (rows : X → List Row) (xs gone_over : List X) (k : ℕ) (x d : X) (now new : List Found)
      → gone_over ≡ xs → k < length gone_over → x ≡ get_or gone_over k d
      → AreSoFar kept q (flat_map rows (take k xs)) now → AreAdded kept q now new (rows x)
      → (HaveViews kept now → HaveViews kept new)
      → AreSoFar kept q (flat_map rows (take (k + 1) xs)) new
  one_more rows xs gone_over k x d now new same within is so_far more keeps =
      subst (λ ys. AreSoFar kept q (flat_map rows ys) new) (sym (next_taken xs gone_over k x d same within is))
      (record {
        are = rows_more kept q rows [] now new (take k xs) x so_far.are more;
        views = keeps so_far.views;
      })

  -- all were gone over
  pub all_gone : {X : Type 0} (rows : X → List Row) (xs gone_over : List X) (k : ℕ) (found : List Found)
      → gone_over ≡ xs → length gone_over ≤ k → AreSoFar kept q (flat_map rows (take k xs)) found
      → AreSoFar kept q (flat_map rows xs) found
  all_gone rows xs gone_over k found same past so_far =
      subst (λ ys. AreSoFar kept q (flat_map rows ys) found)
      (take_all k xs (subst (λ ys. length ys ≤ k) same past)) so_far

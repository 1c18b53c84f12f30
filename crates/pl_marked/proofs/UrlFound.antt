-- What is found of the page with the URL that a query names.
use Rattle.std.proofs.Common.{◌≡◌, ◌≢◌, ◌∙◌, List, [], Option, Some, None, ap, bytes_eq, find, refl, subst, sym, ℕ}
use Rattle.std.specs.List.{AllPairs}
use Rattle.std.specs.Option.{option_copied}
use Rattle.std.proofs.lemmas.List.{append-nil}
use denote.Ref.{Bor}
use Rattle.pl_base.specs.declared.view.View.{View}
use Rattle.pl_base.specs.Rows.{IsWellKept, Kept, store_of}
use Rattle.pl_base.specs.View.{AreViewsOf}
use Rattle.pl_follow.specs.Changes.{AreInOrder}
use Rattle.pl_place.specs.declared.query.Query.{Query}
use Rattle.pl_query.specs.Order.{Row}
use Rattle.pl_marked.specs.declared.found.Found.{Found}
use Rattle.pl_marked.specs.Found.{AreAdded, AreFound, HaveViews}
use Rattle.pl_marked.specs.Listed.{Lists, view_rows}
use Rattle.pl_marked.proofs.PageRows.{url_listed}
use Rattle.pl_marked.proofs.WaysGone.{AreSoFar, none_yet}

module _ (kept : Kept) (q : Query) (h : IsWellKept kept) (views : List View) (of : AreViewsOf (store_of kept) views)
    (ordered : AreInOrder views) (apart : AllPairs (λ (v w : View). v.url ≢ w.url) views) (url : List ℕ)
    (asked : q.uri ≡ Some url) (result : Option (Bor View))
    (told : option_copied result ≡ find (λ (v : View). bytes_eq v.url url) views) where
  pub none_found : ((v : Bor View) → result ≢ Some v) → (found : List Found) → found ≡ [] → Lists kept q found
  none_found none found empty =
      let yet : AreSoFar kept q [] found = none_yet kept q found empty in
      url_listed kept q h views of url asked ordered apart None (sym (nothing result none) ∙ told) found yet.are yet.views
    where
      nothing : (o : Option (Bor View)) → ((v : Bor View) → o ≢ Some v) → option_copied o ≡ None
      nothing None no_one = refl
      nothing (Some v) no_one = absurd (no_one v refl)

  pub one_found : (view : Bor View) → result ≡ Some view → (old new : List Found) → old ≡ []
      → AreAdded kept q old new (view_rows kept q view.now) → (HaveViews kept old → HaveViews kept new)
      → Lists kept q new
  one_found view is old new empty added keeps =
      let yet : AreSoFar kept q [] old = none_yet kept q old empty in
      url_listed kept q h views of url asked ordered apart (Some view.now) (sym (ap option_copied is) ∙ told) new
      (subst (λ (rows : List Row). AreFound kept q rows new) (sym (append-nil (view_rows kept q view.now)))
      (subst (λ (fs : List Found). AreAdded kept q fs new (view_rows kept q view.now)) empty added))
      (keeps yet.views)

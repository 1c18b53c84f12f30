-- A page by what is known of it: that its view is one of all, and its change.
use Rattle.std.proofs.Common.{◌≡◌, All, IfOk, List, Option, Result, Some, ap, subst, sym}
use Rattle.std.proofs.lemmas.List.Elements.{All-contains}
use Rattle.pl_base.specs.declared.change.Change.{Change}
use Rattle.pl_base.specs.declared.id.PageId.{PageId}
use Rattle.pl_base.specs.declared.view.View.{View}
use Rattle.pl_base.specs.Store.{Store}
use Rattle.pl_base.proofs.Among.{contains_from_in}
use Rattle.pl_known.specs.Known.{view_of}
use Rattle.pl_changes.specs.Brings.{Brings}
use Rattle.pl_changes.proofs.Seen.{seen_in}

module _ (page : PageId) (views : List View) (old : View) (known : Some old ≡ view_of page views) where
  -- what holds of all that is known holds of it
  pub holds_of : (P : View → Type 0) → All P views → P old
  holds_of P all =
      All-contains P views old all (contains_from_in views old (seen_in page.0 views old (sym known)).0)

  -- the change of the view is that of the page
  pub of_page : {E : Type 0} (store : Store) (r : Result (Option Change) E)
      → IfOk r (Brings store old.id (Some old)) → IfOk r (Brings store page (view_of page views))
  of_page store r brings =
      let named : old.id ≡ page = ap (λ n. record { 0 = n }) (seen_in page.0 views old (sym known)).1 in
      subst (λ (was : Option View). IfOk r (Brings store page was)) known
      (subst (λ (id : PageId). IfOk r (Brings store id (Some old))) named brings)

-- The page of a URL, and its view.
use Rattle.std.proofs.Common.{◌≡◌, ◌∙◌, ℕ, Bool, true, false, List, [], ◌∷◌, Option, Some, None}
use Rattle.std.proofs.Common.{ap, bytes_eq, find, if◌then◌else◌, refl, subst, sym}
use Rattle.pl_base.specs.declared.refusal.Refusal.TheVariants.{NoPage}
use Rattle.pl_base.specs.declared.view.View.{View}
use Rattle.pl_base.specs.Store.{Page, Store}
use Rattle.pl_base.specs.View.{AreViews, AreViewsOf, IsViewOf}
use Rattle.pl_base.specs.Visiting.{find_page}
use Rattle.pl_step.specs.declared.reply.Reply.{Reply}
use Rattle.pl_step.specs.declared.reply.Reply.TheVariants.{Refused}
use Rattle.pl_step.specs.Refused.{is_refused}
use Rattle.pl_step.specs.Step.{page_reply, told_page}

-- a view is found where a page is, and it is the view of that page
abbrev pub AreFoundAlike : Store → Option Page → Option View → Type 0
AreFoundAlike store None None = Unit {0}
AreFoundAlike store None (Some v) = ⊥
AreFoundAlike store (Some p) None = ⊥
AreFoundAlike store (Some p) (Some v) = IsViewOf store p v

abbrev find_view : List ℕ → List View → Option View
find_view url views = find (λ (v : View). bytes_eq v.url url) views

alike : (store : Store) (url : List ℕ) (ps : List Page) (vs : List View) → AreViews store ps vs
    → AreFoundAlike store (find_page url ps) (find_view url vs)
alike store url [] [] are = tt
alike store url [] (v ∷ vs) are = absurd are
alike store url (p ∷ ps) [] are = absurd are
alike store url (p ∷ ps) (v ∷ vs) are =
    subst (λ (b : Bool). AreFoundAlike store (find_page url (p ∷ ps)) (if b then Some v else find_view url vs))
    (ap (λ (t : List ℕ). bytes_eq t url) (sym are.0.url))
    (choose (bytes_eq p.url url) (alike store url ps vs are.1))
  where
    choose : (b : Bool) → AreFoundAlike store (find_page url ps) (find_view url vs)
        → AreFoundAlike store (if b then Some p else find_page url ps) (if b then Some v else find_view url vs)
    choose true rest = are.0
    choose false rest = rest

-- so it is in the views of a store and its pages
pub found_alike : (store : Store) (views : List View) (url text : List ℕ) (found : Option View)
    → AreViewsOf store views → text ≡ url → found ≡ find_view text views
    → AreFoundAlike store (find_page url store.pages) found
found_alike store views url text found are same is =
    subst (AreFoundAlike store (find_page url store.pages))
    (ap (λ (t : List ℕ). find_view t views) (sym same) ∙ sym is) (alike store url store.pages views are)

pub none_found : (store : Store) (page : Option Page) → AreFoundAlike store page None
    → Refused NoPage ≡ told_page store page
none_found store None alike = refl
none_found store (Some p) alike = absurd alike

pub some_found : (store : Store) (page : Option Page) (view : View) (reply : Reply)
    → AreFoundAlike store page (Some view) → ((p : Page) → IsViewOf store p view → reply ≡ page_reply store p)
    → (reply ≡ told_page store page) × (is_refused reply ≡ false)
some_found store None view reply alike told = absurd alike
some_found store (Some p) view reply alike told = (told p alike, ap is_refused (told p alike))

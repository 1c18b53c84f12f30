-- The page of a URL, which is found or is new, and the store with it.
use Rattle.std.proofs.Common.{◌≡◌, ◌++◌, ℕ, List, [], ◌∷◌, Option, Some, None, ap, if◌then◌else◌, refl, subst, sym}
use Rattle.std.proofs.Common.{unwrap_or}
use Rattle.std.specs.Option.{is_none, option_map}
use Rattle.pl_base.specs.Store.{Page, Store}
use Rattle.pl_base.specs.Visiting.{find_page, new_page, page_for, with_page_for}
use Rattle.pl_history.proofs.VisitRows.{grown_store}
use Rattle.pl_keyed.specs.declared.pages.Pages.{Pages}
use Rattle.pl_keyed.specs.KnownPages.{KnowsPages, with_page}

abbrev number : Page → ℕ
number p = p.id.0

module _ (store : Store) (url : List ℕ) where
  -- ---- it is found

  pub found_number : (page : ℕ) → option_map number (find_page url store.pages) ≡ Some page
      → page ≡ (page_for store url).id.0
  found_number page some = choose (find_page url store.pages) some
    where
      choose : (o : Option Page) → option_map number o ≡ Some page
          → page ≡ (unwrap_or o (new_page store url)).id.0
      choose None is = absurd (cc)
      choose (Some p) is =
          let same : p.id.0 ≡ page = cc in
          sym same

  pub found_store : (page : ℕ) → option_map number (find_page url store.pages) ≡ Some page
      → with_page_for store url ≡ store
  found_store page some = choose (find_page url store.pages) some
    where
      choose : (o : Option Page) → option_map number o ≡ Some page
          → (if is_none o then grown_store store url else store) ≡ store
      choose None is = absurd (cc)
      choose (Some p) is = refl

  -- ---- it is new

  pub new_number : find_page url store.pages ≡ None → store.ids.page ≡ (page_for store url).id.0
  new_number none = sym (ap (λ (o : Option Page). (unwrap_or o (new_page store url)).id.0) none)

  -- ---- the store with it

  pages_for : with_page (new_page store url) store.pages ≡ (with_page_for store url).pages
  pages_for = choose (find_page url store.pages)
    where
      choose : (o : Option Page) → (if is_none o then store.pages ++ new_page store url ∷ [] else store.pages)
          ≡ (if is_none o then grown_store store url else store).pages
      choose None = refl
      choose (Some p) = refl

  -- the look-up with it knows the pages of the store with it
  pub knows_for : (known : Pages) → KnowsPages known (with_page (new_page store url) store.pages)
      → KnowsPages known (with_page_for store url).pages
  knows_for known knows = subst (KnowsPages known) pages_for knows

  pub items_for : (with_page_for store url).ids.item ≡ store.ids.item
  items_for = choose (find_page url store.pages)
    where
      choose : (o : Option Page) → (if is_none o then grown_store store url else store).ids.item ≡ store.ids.item
      choose None = refl
      choose (Some p) = refl

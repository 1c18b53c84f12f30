-- The page with a URL, the first page of an origin, and their views.
use Rattle.std.proofs.Common.{◌≡◌, ◌∙◌, ◌==◌, ◌&&◌, ℕ, Bool, true, false, List, [], ◌∷◌, Option, Some, None}
use Rattle.std.proofs.Common.{ap, bytes_eq, eq-eqb, filter, find, if◌then◌else◌, refl, subst, sym}
use Rattle.std.specs.List.{slice_get}
use Rattle.std.specs.Option.{IfSome, option_and_then, option_map}
use Rattle.std.specs.Result.{IsOkAnd}
use Rattle.std.proofs.lemmas.Bool.{and_from}
use Rattle.std.proofs.lemmas.List.Elements.{All-from_recursion}
use Rattle.std.proofs.lemmas.Option.{slice_get-map}
use Rattle.pl_base.specs.declared.id.PageId.{PageId}
use Rattle.pl_base.specs.declared.id.Slot.{Slot}
use Rattle.pl_base.specs.declared.view.View.{View}
use Rattle.pl_base.specs.Address.{origin_of_url, record_of, same_origin}
use Rattle.pl_base.specs.Rows.{IsOriginOf, IsWellKept, Kept, KeptPage, has_page, origin_of, page_at, store_of}
use Rattle.pl_base.specs.Store.{Page, Store}
use Rattle.pl_base.specs.Totals.{Origin}
use Rattle.pl_base.specs.View.{AreViews, AreViewsOf, IsViewOf}
use Rattle.pl_base.specs.Visiting.{find_page}
use Rattle.pl_base.proofs.ListLaws.{find-map}
use Rattle.pl_base.proofs.LookUps.{found_any, found_holds, found_passes, found_self, none_found}
use Rattle.pl_base.proofs.OriginLaws.{same_origin-by_texts}
use Rattle.pl_base.proofs.PageLaws.{pages_apart}
use Rattle.pl_link.specs.declared.parts.Parts.{Parts}
use Rattle.pl_link.specs.Parts.{ArePartsOf}
use Rattle.pl_link.proofs.OriginParts.{origin_by_parts}
use Rattle.pl_history.specs.declared.find.Target.TheVariants as target
use Rattle.pl_history.specs.Target.{IsTargetOf}
use Rattle.pl_totals.specs.Standing.{has_origin, pages_of}

-- ---- pages and views that pass the same tests

found_alike : (store : Store) (test : Page → Bool) (seen : View → Bool)
    → ((p : Page) (v : View) → IsViewOf store p v → test p ≡ seen v)
    → (ps : List Page) (vs : List View) → AreViews store ps vs
    → option_map (λ (p : Page). p.id) (find test ps) ≡ option_map (λ (v : View). v.id) (find seen vs)
found_alike store test seen alike [] [] are = refl
found_alike store test seen alike [] (v ∷ vs) are = absurd are
found_alike store test seen alike (p ∷ ps) [] are = absurd are
found_alike store test seen alike (p ∷ ps) (v ∷ vs) are =
    subst (λ (b : Bool). option_map (λ (q : Page). q.id) (find test (p ∷ ps))
    ≡ option_map (λ (w : View). w.id) (if b then Some v else find seen vs))
    (alike p v are.0)
    (choose (test p) (found_alike store test seen alike ps vs are.1))
  where
    choose : (b : Bool)
        → option_map (λ (q : Page). q.id) (find test ps) ≡ option_map (λ (w : View). w.id) (find seen vs)
        → option_map (λ (q : Page). q.id) (if b then Some p else find test ps)
        ≡ option_map (λ (w : View). w.id) (if b then Some v else find seen vs)
    choose true rest = ap (λ (id : PageId). Some id) (sym are.0.id)
    choose false rest = rest

-- ---- the page with a URL

-- the page with the URL has the id of the view with it
pub found_id : (store : Store) (views : List View) (url text : List ℕ) (found : Option View) → AreViewsOf store views
    → text ≡ url → found ≡ find (λ (v : View). bytes_eq v.url text) views
    → option_map (λ (p : Page). p.id) (find_page url store.pages) ≡ option_map (λ (v : View). v.id) found
found_id store views url text found are same is =
    found_alike store (λ (p : Page). bytes_eq p.url url) (λ (v : View). bytes_eq v.url url)
    (λ p v of. ap (λ (t : List ℕ). bytes_eq t url) (sym of.url)) store.pages views are
    ∙ ap (option_map (λ (v : View). v.id))
    (ap (λ (t : List ℕ). find (λ (v : View). bytes_eq v.url t) views) (sym same) ∙ sym is)

-- the page with the view's id is where a visit to the URL goes
pub known_target : (kept : Kept) (views : List View) (url text : List ℕ) (found : Option View) (view : View)
    → AreViewsOf (store_of kept) views → text ≡ url → found ≡ find (λ (v : View). bytes_eq v.url text) views
    → found ≡ Some view → IsTargetOf kept url (target.Known view.id)
known_target kept views url text found view are same is some =
    found_id (store_of kept) views url text found are same is ∙ ap (option_map (λ (v : View). v.id)) some

none_mapped : {A B : Type 0} (f : A → B) (o : Option A) → option_map f o ≡ None → o ≡ None
none_mapped f None is = refl
none_mapped f (Some x) is = absurd (cc)

-- no page has a URL that no view has
pub no_page_found : (store : Store) (views : List View) (url text : List ℕ) (found : Option View)
    → AreViewsOf store views → text ≡ url → found ≡ find (λ (v : View). bytes_eq v.url text) views → found ≡ None
    → find_page url store.pages ≡ None
no_page_found store views url text found are same is none =
    none_mapped (λ (p : Page). p.id) (find_page url store.pages)
    (found_id store views url text found are same is ∙ ap (option_map (λ (v : View). v.id)) none)

-- ---- the first page of an origin

first_kept : {X : Type 0} (test : X → Bool) (xs : List X) → slice_get (filter test xs) 0 ≡ find test xs
first_kept test [] = refl
first_kept test (x ∷ xs) = choose (test x) (first_kept test xs)
  where
    choose : (b : Bool) → slice_get (filter test xs) 0 ≡ find test xs
        → slice_get (if b then x ∷ filter test xs else filter test xs) 0 ≡ (if b then Some x else find test xs)
    choose true rest = refl
    choose false rest = rest

-- the first page of the URL's origin is that of the first view of it
pub first_id : (kept : Kept) (views : List View) (url : List ℕ) (origin : Origin) → AreViewsOf (store_of kept) views
    → origin_of_url url ≡ Some origin
    → option_map (λ (p : KeptPage). p.page.id) (find (λ (p : KeptPage). same_origin p.page.url url) kept.pages)
    ≡ slice_get (pages_of origin views) 0
first_id kept views url origin are own =
    moved (find (λ (p : KeptPage). same_origin p.page.url url) kept.pages)
    ∙ ap (option_map (λ (p : Page). p.id))
    (sym (find-map (λ (p : Page). same_origin p.url url) (λ (p : KeptPage). p.page) kept.pages))
    ∙ found_alike (store_of kept) (λ (p : Page). same_origin p.url url) (has_origin origin)
    (λ p v of. same_origin-by_texts p.url url (v.prefix, v.host) origin of.origin own) (store_of kept).pages views are
    ∙ ap (option_map (λ (v : View). v.id)) (sym (first_kept (has_origin origin) views))
    ∙ sym (slice_get-map (λ (v : View). v.id) (filter (has_origin origin) views) 0)
  where
    moved : (o : Option KeptPage) → option_map (λ (p : KeptPage). p.page.id) o
        ≡ option_map (λ (p : Page). p.id) (option_map (λ (p : KeptPage). p.page) o)
    moved None = refl
    moved (Some p) = refl

module _ (kept : Kept) (url : List ℕ) (h : IsWellKept kept) where
  abbrev passes : KeptPage → Bool
  passes p = same_origin p.page.url url

  -- the first page of the origin is there
  pub first_there : (first : Option PageId) → option_map (λ (p : KeptPage). p.page.id) (find passes kept.pages) ≡ first
      → IfSome first (λ id. has_page kept id ≡ true)
  first_there first is = choose (find passes kept.pages) refl is
    where
      choose : (o : Option KeptPage) → find passes kept.pages ≡ o → option_map (λ (p : KeptPage). p.page.id) o ≡ first
          → IfSome first (λ id. has_page kept id ≡ true)
      choose None at is = subst (λ (o : Option PageId). IfSome o (λ id. has_page kept id ≡ true)) is tt
      choose (Some p) at is =
          subst (λ (o : Option PageId). IfSome o (λ id. has_page kept id ≡ true)) is
          (found_any passes (λ (q : KeptPage). q.page.id.0 == p.page.id.0) kept.pages p at
          (eq-eqb p.page.id.0 p.page.id.0 refl))

  -- and its origin is that of the URL
  pub first_origin : (first : Option PageId) (origin : Option Slot)
      → option_map (λ (p : KeptPage). p.page.id) (find passes kept.pages) ≡ first
      → origin ≡ option_and_then (origin_of kept) first → IsOriginOf kept url origin
  first_origin first origin is slot =
      subst (IsOriginOf kept url) (ap (option_and_then (origin_of kept)) is ∙ sym slot)
      (choose (find passes kept.pages) refl)
    where
      choose : (o : Option KeptPage) → find passes kept.pages ≡ o
          → IsOriginOf kept url (option_and_then (origin_of kept) (option_map (λ (p : KeptPage). p.page.id) o))
      choose None at =
          All-from_recursion (λ (p : KeptPage). same_origin p.page.url url ≡ false) kept.pages
          (none_found passes kept.pages at)
      choose (Some p) at =
          let itself : page_at kept p.page.id ≡ Some p =
          found_holds (λ (q : KeptPage). page_at kept q.page.id ≡ Some q) passes kept.pages p
          (found_self (λ (q : KeptPage). q.page.id.0) kept.pages (pages_apart kept h)) at in
          subst (IsOriginOf kept url) (ap (option_map (λ (q : KeptPage). q.origin)) (sym itself))
          (found_any passes (λ (q : KeptPage). (q.origin.0 == p.origin.0) && same_origin q.page.url url) kept.pages p at
          (and_from (p.origin.0 == p.origin.0) (same_origin p.page.url url) (eq-eqb p.origin.0 p.origin.0 refl)
          (found_passes passes kept.pages p at)))

-- the first page by what is known of the parts of the URL
pub first_by_parts : (kept : Kept) (views : List View) (url prefix host : List ℕ) (parts : Parts)
    (first : Option PageId) → AreViewsOf (store_of kept) views
    → IsOkAnd (record_of url) (λ found. ArePartsOf found parts) → prefix ≡ parts.prefix → host ≡ parts.host
    → first ≡ slice_get (pages_of (prefix, host) views) 0
    → option_map (λ (p : KeptPage). p.page.id) (find (λ (p : KeptPage). same_origin p.page.url url) kept.pages) ≡ first
first_by_parts kept views url prefix host parts first are has start name is =
    first_id kept views url (parts.prefix, parts.host) are (origin_by_parts url parts has)
    ∙ ap (λ (t : List ℕ). slice_get (pages_of (t, parts.host) views) 0) (sym start)
    ∙ ap (λ (t : List ℕ). slice_get (pages_of (prefix, t) views) 0) (sym name)
    ∙ sym is

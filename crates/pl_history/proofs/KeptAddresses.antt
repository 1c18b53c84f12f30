-- What kept views tell of URLs holds on while marks change, and while pages come and go.
use Rattle.std.proofs.Common.{◌≡◌, ◌≢◌, ◌∙◌, ◌==◌, All, Bool, true, false, List, Option, Some, None, ap, arith, get_or}
use Rattle.std.proofs.Common.{if◌then◌else◌, ℕ, ℤ, refl, subst, suc, sym, [], ◌∷◌}
use Rattle.std.specs.List.{AllByRecursion, Contains}
use Rattle.std.proofs.lemmas.List.Elements.{All-contains_itself, All-from_recursion, All-map, All-push}
use Rattle.std.proofs.lemmas.List.Elements.{All-weaker}
use Rattle.pl_base.specs.declared.id.PageId.{PageId}
use Rattle.pl_base.specs.declared.id.Slot.{Slot}
use Rattle.pl_base.specs.declared.row.Mark.{Mark}
use Rattle.pl_base.specs.declared.view.View.{View}
use Rattle.pl_base.specs.Address.{origin_of_url}
use Rattle.pl_base.specs.Rows.{Kept, KeptPage, WithPageIn, marked, next_page, store_of, with_mark}
use Rattle.pl_base.specs.Rows.{with_new_page, with_origin}
use Rattle.pl_base.specs.Store.{Page, Store}
use Rattle.pl_base.specs.View.{AreViews, AreViewsOf, IsViewOf}
use Rattle.pl_base.proofs.ListLaws.{All-from_map, weaker}
use Rattle.pl_marks.specs.Alike.{HaveSameTexts}
use Rattle.pl_marks.specs.Refreshed.{Refreshes}
use Rattle.pl_history.specs.Addresses.{HaveAddresses}
use Rattle.pl_history.specs.Settled.{Drops}
use Rattle.pl_history.proofs.Dropped.{along}

-- a page with the view's id has the view's prefix and host
abbrev IsTold : View → Page → Type 0
IsTold view p = p.id ≡ view.id → origin_of_url p.url ≡ Some (view.prefix, view.host)

-- no views tell nothing wrong
pub no_addresses : (kept : Kept) → HaveAddresses [] kept
no_addresses kept k d within = absurd (omega arith)

-- the same pages
pub addresses_same : (views : List View) (old new : Kept) → (store_of new).pages ≡ (store_of old).pages
    → HaveAddresses views old → HaveAddresses views new
addresses_same views old new same all k d within =
    let view : View = get_or views k d in
    All-from_map (IsTold view) (λ (p : KeptPage). p.page) new.pages
    (subst (All (IsTold view)) (sym same)
    (All-map (IsTold view) (λ (p : KeptPage). p.page) old.pages (all k d within)))

-- each page as it was, or with another mark
either_page : (view : View) (b : Bool) (p q : KeptPage) → q.page.id ≡ p.page.id → q.page.url ≡ p.page.url
    → IsTold view p.page → IsTold view (if b then q else p).page
either_page view true p q id url told same = ap origin_of_url url ∙ told (sym id ∙ same)
either_page view false p q id url told same = told same

pub addresses_marked : (views : List View) (page : PageId) (mark : Mark) (kept : Kept) → HaveAddresses views kept
    → HaveAddresses views (with_mark page mark kept)
addresses_marked views page mark kept all k d within =
    let view : View = get_or views k d in
    All-map (λ (p : KeptPage). IsTold view p.page)
    (λ (p : KeptPage). if p.page.id.0 == page.0 then marked mark p else p) kept.pages
    (All-weaker (λ (p : KeptPage). IsTold view p.page)
    (λ (p : KeptPage). IsTold view (if p.page.id.0 == page.0 then marked mark p else p).page)
    (λ p told. either_page view (p.page.id.0 == page.0) p (marked mark p) refl refl told) kept.pages (all k d within))

pub addresses_refreshed : (views : List View) (old new : Kept) (page : PageId) (mark : Mark) (is_place : Bool)
    (frecency : ℤ) → Refreshes page mark is_place old new frecency → HaveAddresses views old → HaveAddresses views new
addresses_refreshed views old new page mark is_place frecency r all =
    subst (HaveAddresses views) (sym r.rows)
    (addresses_marked views page (record mark { frecency = frecency; hidden = r.hidden }) old all)

-- a page that goes
pub addresses_dropped : (views : List View) (page : PageId) (old new : Kept) → Drops page old new
    → HaveAddresses views old → HaveAddresses views new
addresses_dropped views page old new w all k d within =
    along (λ (p : KeptPage). IsTold (get_or views k d) p.page) page old.pages new.pages w.pages
    (λ j e inside _. all k d within j e inside)

grown : (views : List View) (url : List ℕ) (slot : Slot) (kept : Kept)
    → All (λ (view : View). view.id.0 ≢ kept.ids.page) views → HaveAddresses views kept
    → HaveAddresses views (with_new_page url slot kept)
grown views url slot kept none all k d within =
    let view : View = get_or views k d in
    All-push (λ (p : KeptPage). IsTold view p.page) kept.pages (next_page url slot kept) (all k d within)
    (λ same. absurd (none k d within (sym (ap (λ (i : PageId). i.0) same))))

-- a page that comes, of which no view tells
pub addresses_with_page : (views : List View) (url : List ℕ) (origin : Option Slot) (old new : Kept)
    → WithPageIn url origin old new → All (λ (view : View). view.id.0 ≢ old.ids.page) views
    → HaveAddresses views old → HaveAddresses views new
addresses_with_page views url (Some slot) old new is none all =
    subst (HaveAddresses views) (sym is) (grown views url slot old none all)
addresses_with_page views url None old new is none all =
    subst (HaveAddresses views) (sym is.1) (grown views url is.0 (with_origin is.0 old) none all)

-- each view is that of one of the pages
abbrev IsOfSome : Store → List Page → View → Type 0
IsOfSome store pages view = (p : Page) × Contains pages p × IsViewOf store p view

each_of : (store : Store) (pages : List Page) (views : List View) → AreViews store pages views
    → AllByRecursion (IsOfSome store pages) views
each_of store [] [] are = tt
each_of store [] (v ∷ vs) are = absurd are
each_of store (p ∷ ps) [] are = absurd are
each_of store (p ∷ ps) (v ∷ vs) are = (
  (p, (0, omega arith, refl), are.0),
  weaker (IsOfSome store ps) (IsOfSome store (p ∷ ps)) vs
      (λ w of. (of.0, (suc of.1.0, omega (arith, of.1.1), of.1.2), of.2)) (each_of store ps vs are.1),
)

-- views of a store, where the pages that stay have their URLs
pub addresses_known : (views : List View) (old : Store) (new : Kept) → AreViewsOf old views
    → HaveSameTexts old (store_of new) → HaveAddresses views new
addresses_known views old new are texts k d within =
    let view : View = get_or views k d in
    let of : IsOfSome old old.pages view =
    All-from_recursion (IsOfSome old old.pages) views (each_of old old.pages views are) k d within in
    All-from_map (IsTold view) (λ (p : KeptPage). p.page) new.pages
    (All-weaker (Contains (store_of new).pages) (IsTold view)
    (λ q there same.
    ap origin_of_url (texts.pages of.0 q of.1 there (same ∙ of.2.id)).0 ∙ of.2.origin)
    (store_of new).pages (All-contains_itself (store_of new).pages))

-- A page more in an import.
use Rattle.std.proofs.Common.{◌≡◌, ◌∙◌, ◌<◌, ◌++◌, ◌==◌, ◌&&◌, ℕ, Bool, true, false, List, [], ◌∷◌, Option}
use Rattle.std.proofs.Common.{Err, Ok, Result, Some}
use Rattle.std.proofs.Common.{None, ap, arith, bytes_eq, eq-eqb, if◌then◌else◌, map, refl, subst, sym}
use Rattle.std.specs.List.{AllByRecursion, list_any}
use Rattle.std.specs.Result.{OnOk}
use Rattle.std.specs.Option.{IfSome, is_none, option_map}
use Rattle.std.proofs.Math.Bool.{or-true}
use Rattle.std.proofs.lemmas.Bool.{and_from, and_parts, eqb-true}
use Rattle.std.proofs.lemmas.List.{append-nil}
use Rattle.std.proofs.lemmas.List.Elements.{All-from_recursion, All-nil}
use Rattle.pl_base.specs.declared.id.PageId.{PageId}
use Rattle.pl_base.specs.declared.id.Slot.{Slot}
use Rattle.pl_base.specs.Address.{same_origin}
use Rattle.pl_base.specs.Rows.{HaveSums, IsOriginOf, IsWellKept, Kept, KeptOrigin, KeptPage, WithPageIn, has_page}
use Rattle.pl_base.specs.Rows.{next_page, origin_of, page_at, store_of, with_new_page, with_origin}
use Rattle.pl_base.specs.Store.{Page, Store}
use Rattle.pl_base.specs.Visiting.{find_page, new_page, with_page_for}
use Rattle.pl_base.proofs.Among.{Around, around, from_any}
use Rattle.pl_base.proofs.ListLaws.{All-from_map, list_any-map}
use Rattle.pl_base.proofs.LookUps.{part}
use Rattle.pl_base.proofs.OriginSums.{sums_with_page}
use Rattle.pl_base.proofs.PagesRun.{found_at, given, there}
use Rattle.pl_history.proofs.ReadyPage.{own_url}
use Rattle.pl_history.proofs.VisitRows.{grown_store, store_with_page}
use Rattle.pl_keyed.specs.KnownPages.{IsOriginPage, KnowsPages, page_id, with_page}
use Rattle.pl_graft.specs.declared.grafting.Grafting.{Grafting}
use Rattle.pl_graft.specs.Gained.{Grows, IsBlank}
use Rattle.pl_graft.specs.Standing.{GoesOn, IsStanding}
use Rattle.pl_graft.proofs.FoundPages.{items_for, knows_for}
use Rattle.pl_graft.proofs.GoingOn.{goes_by_pages}
use Rattle.pl_graft.proofs.Ready.{items_page, ready, ready_page}

-- ---- a page of the rows

-- a page that passes a test, among the others
record Among (test : KeptPage → Bool) (pages : List KeptPage) : Type 0 where
  pub front : List KeptPage
  pub page : KeptPage
  pub rest : List KeptPage
  pub whole : pages ≡ front ++ page ∷ rest
  pub passes : test page ≡ true

among : (test : KeptPage → Bool) (pages : List KeptPage) → list_any test pages ≡ true → Among test pages
among test pages some =
    let found = from_any test pages some in
    let here : Around found.0 pages = around found.0 pages found.1 in
    record { front = here.front; page = found.0; rest = here.back; whole = here.whole; passes = found.2 }

-- an id of the pages is below the end
among_fits : (kept : Kept) (test : KeptPage → Bool) → IsWellKept kept → (a : Among test kept.pages)
    → a.page.page.id.0 < 4_294_967_296
among_fits kept test well a =
    let fine : AllByRecursion (λ (p : KeptPage). (0 < p.page.id.0) × (p.page.id.0 < kept.ids.page))
    (a.front ++ a.page ∷ a.rest) =
    subst (AllByRecursion (λ (p : KeptPage). (0 < p.page.id.0) × (p.page.id.0 < kept.ids.page))) a.whole
    (given kept well) in
    omega (
      arith,
      (part (λ (p : KeptPage). (0 < p.page.id.0) × (p.page.id.0 < kept.ids.page)) a.front a.page a.rest fine).1,
      well.page_ids.next_last,
    )

-- ---- the page with a URL

found_some : (kept : Kept) (url : List ℕ) (p : Page) (pages : List KeptPage)
    → find_page url (map (λ (q : KeptPage). q.page) pages) ≡ Some p
    → list_any (λ (q : KeptPage). q.page.id.0 == p.id.0) pages ≡ true
found_some kept url p [] found = absurd (cc)
found_some kept url p (q ∷ pages) found =
    choose (bytes_eq q.page.url url) found (found_some kept url p pages)
  where
    choose : (b : Bool)
        → (if b then Some q.page else find_page url (map (λ (r : KeptPage). r.page) pages)) ≡ Some p
        → (find_page url (map (λ (r : KeptPage). r.page) pages) ≡ Some p
        → list_any (λ (r : KeptPage). r.page.id.0 == p.id.0) pages ≡ true)
        → list_any (λ (r : KeptPage). r.page.id.0 == p.id.0) (q ∷ pages) ≡ true
    choose true here later =
        let same : q.page ≡ p = cc in
        rw (eq-eqb q.page.id.0 p.id.0 (ap (λ (r : Page). r.id.0) same)) refl
    choose false here later = rw (later here) (or-true (q.page.id.0 == p.id.0))

-- the id of a page that is there fits
pub page_fits : (kept : Kept) (id : ℕ) → IsWellKept kept → has_page kept (page_id id) ≡ true → id < 4_294_967_296
page_fits kept id well has =
    let a : Among (λ (q : KeptPage). q.page.id.0 == id) kept.pages =
    among (λ (q : KeptPage). q.page.id.0 == id) kept.pages has in
    omega (
      arith,
      among_fits kept (λ (q : KeptPage). q.page.id.0 == id) well a,
      eqb-true a.page.page.id.0 id a.passes,
    )

-- and of one that is found
pub known_fits : (kept : Kept) (url : List ℕ) (id : ℕ) → IsWellKept kept
    → option_map (λ (p : Page). p.id.0) (find_page url (store_of kept).pages) ≡ Some id → id < 4_294_967_296
known_fits kept url id well is = choose (find_page url (store_of kept).pages) refl is
  where
    choose : (found : Option Page) → find_page url (store_of kept).pages ≡ found
        → option_map (λ (p : Page). p.id.0) found ≡ Some id → id < 4_294_967_296
    choose None none here = absurd (cc)
    choose (Some p) some here =
        let same : p.id.0 ≡ id = cc in
        page_fits kept id well
        (ap (λ (n : ℕ). has_page kept (page_id n)) (sym same) ∙ found_some kept url p kept.pages some)

-- ---- a page of the same origin

abbrev in_origin : List ℕ → ℕ → KeptPage → Bool
in_origin url id p = (p.page.id.0 == id) && same_origin p.page.url url

origin_page : (kept : Kept) (url : List ℕ) (id : ℕ) → IsOriginPage (store_of kept).pages url (Some id)
    → Among (in_origin url id) kept.pages
origin_page kept url id is =
    among (in_origin url id) kept.pages
    (sym (list_any-map (λ (p : Page). (p.id.0 == id) && same_origin p.url url) (λ (p : KeptPage). p.page) kept.pages)
    ∙ is)

-- it is there
pub other_there : (kept : Kept) (url : List ℕ) (other : Option ℕ) → IsOriginPage (store_of kept).pages url other
    → IfSome other (λ (id : ℕ). has_page kept (page_id id) ≡ true)
other_there kept url None is = tt
other_there kept url (Some id) is =
    let a : Among (in_origin url id) kept.pages = origin_page kept url id is in
    rw a.whole (there (λ (p : KeptPage). p.page.id.0 == id) a.front a.page a.rest
    (and_parts (a.page.page.id.0 == id) (same_origin a.page.page.url url) a.passes).0)

pub origin_known : (kept : Kept) (url : List ℕ) (id : ℕ) (origin : Slot) → IsWellKept kept
    → IsOriginPage (store_of kept).pages url (Some id) → Some origin ≡ origin_of kept (record { 0 = id })
    → IsOriginOf kept url (Some origin)
origin_known kept url id origin well is of =
    let a : Among (in_origin url id) kept.pages = origin_page kept url id is in
    let parts = and_parts (a.page.page.id.0 == id) (same_origin a.page.page.url url) a.passes in
    let same : a.page.page.id ≡ record { 0 = id } =
    ap (λ (n : ℕ). let i : PageId = record { 0 = n } in i) (eqb-true a.page.page.id.0 id parts.0) in
    let at : page_at kept (record { 0 = id }) ≡ Some a.page =
    found_at kept (record { 0 = id }) a.front a.page a.rest well a.whole same in
    let found : Some origin ≡ Some a.page.origin = of ∙ ap (option_map (λ (p : KeptPage). p.origin)) at in
    let named : a.page.origin ≡ origin = cc in
    rw a.whole (there (λ (p : KeptPage). (p.origin.0 == origin.0) && same_origin p.page.url url) a.front a.page a.rest
    (and_from (a.page.origin.0 == origin.0) (same_origin a.page.page.url url)
    (eq-eqb a.page.origin.0 origin.0 (ap (λ (o : Slot). o.0) named)) parts.1))

pub origin_none : (kept : Kept) (url : List ℕ) → IsOriginPage (store_of kept).pages url None → IsOriginOf kept url None
origin_none kept url none =
    All-from_map (λ (p : Page). same_origin p.url url ≡ false) (λ (p : KeptPage). p.page) kept.pages none

-- ---- a new page

-- no page has the URL
pub grown_is : (store : Store) (url : List ℕ) → find_page url store.pages ≡ None
    → with_page_for store url ≡ grown_store store url
grown_is store url none =
    ap (λ (o : Option Page). if is_none o then grown_store store url else store) none

pub page_store : (old new : Kept) (url : List ℕ) (origin : Option Slot)
    → find_page url (store_of old).pages ≡ None → WithPageIn url origin old new
    → store_of new ≡ with_page_for (store_of old) url
page_store old new url origin none made =
    store_with_page old new url origin made ∙ sym (grown_is (store_of old) url none)

grows_page : (old : Kept) (url : List ℕ) (origin : Slot) → (HaveSums old → HaveSums (with_new_page url origin old))
    → Grows old (with_new_page url origin old)
grows_page old url origin sums =
    record {
      day = refl;
      visits = refl;
      visit_ids = refl;
      added = next_page url origin old ∷ [];
      pages = refl;
      blank =
          All-from_recursion IsBlank (next_page url origin old ∷ [])
          (record { frecency = refl; count = refl; hidden = refl }, tt);
      opened = [];
      origins = sym (append-nil old.origins);
      no_totals = All-nil (λ (a : KeptOrigin). a.total ≡ 0);
      sums = sums;
    }

grows_origin : (old : Kept) (url : List ℕ) (origin : Slot)
    → (HaveSums old → HaveSums (with_new_page url origin (with_origin origin old)))
    → Grows old (with_new_page url origin (with_origin origin old))
grows_origin old url origin sums =
    let opened : KeptOrigin = record { origin = origin; total = 0 } in
    record {
      day = refl;
      visits = refl;
      visit_ids = refl;
      added = next_page url origin old ∷ [];
      pages = refl;
      blank =
          All-from_recursion IsBlank (next_page url origin old ∷ [])
          (record { frecency = refl; count = refl; hidden = refl }, tt);
      opened = opened ∷ [];
      origins = refl;
      no_totals = All-from_recursion (λ (a : KeptOrigin). a.total ≡ 0) (opened ∷ []) (refl, tt);
      sums = sums;
    }

-- what holds by two facts
pub on_ok_two : {T E P Q R : Type 0} (r : Result T E) → (P → Q → R) → OnOk r P → OnOk r Q → OnOk r R
on_ok_two (Ok x) f p q = f p q
on_ok_two (Err e) f p q = tt

-- there is one page more
pub page_grows : (old new : Kept) (url : List ℕ) (origin : Option Slot) → IsWellKept old → IsWellKept new
    → IsOriginOf old url origin → WithPageIn url origin old new → Grows old new
page_grows old new url (Some origin) well later named made =
    subst (Grows old) (sym made) (grows_page old url origin (λ had.
    subst HaveSums made
    (sums_with_page old new url (Some origin) well later had (own_url old new url (Some origin) later made) named
    made)))
page_grows old new url None well later named made =
    subst (Grows old) (sym made.1) (grows_origin old url made.0 (λ had.
    subst HaveSums made.1
    (sums_with_page old new url None well later had (own_url old new url None later made) named made)))

-- an import goes on so
pub page_goes_on : (old new : Kept) (url : List ℕ) (before after : Grafting) → Grows old new
    → store_of new ≡ with_page_for (store_of old) url → after.made ≡ before.made → after.gained ≡ before.gained
    → GoesOn old new before after
page_goes_on old new url before after grows made counted gained =
    goes_by_pages old new before after grows
    (ap (λ (s : Store). s.items) made ∙ items_page (store_of old) url)
    (ap (λ (s : Store). s.ids.item) made ∙ items_for (store_of old) url) counted gained

-- the page of a URL is known from now on
pub page_standing : (old : Kept) (url : List ℕ) (before after : Grafting) → IsWellKept old
    → IsStanding (store_of old) before
    → KnowsPages after.pages (with_page (new_page (store_of old) url) (store_of old).pages)
    → after.tags ≡ before.tags → after.made ≡ before.made → IsStanding (with_page_for (store_of old) url) after
page_standing old url before after well standing knows tags made =
    let store : Store = store_of old in
    record {
      good = (ready_page store url (ready old well standing.good)).good;
      pages = knows_for store url after.pages knows;
      tags = rw (items_page store url, tags) standing.tags;
      made = rw (items_for store url, made) standing.made;
    }

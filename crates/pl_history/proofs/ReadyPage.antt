-- What holds of the rows with the page of a visit, before the visit is added.
use Rattle.std.proofs.Common.{◌≡◌, ◌∙◌, ◌<◌, ◌==◌, ◌&&◌, ◌||◌, ◌++◌, ℕ, All, Bool, true, false, IsTrue, List, [], ◌∷◌}
use Rattle.std.proofs.Common.{Option, Some, None, ap, arith, count_by, eq-eqb, if◌then◌else◌, refl, subst, sym}
use Rattle.std.specs.List.{AllByRecursion, list_any}
use Rattle.std.proofs.lemmas.Bool.{eqb-true, false≢true, or_parts}
use Rattle.std.proofs.lemmas.List.Elements.{All-push, All-weaker, recursion_from_All}
use Rattle.std.proofs.lemmas.List.Sums.{sum_by-cons}
use Rattle.pl_base.specs.declared.id.PageId.{PageId}
use Rattle.pl_base.specs.declared.id.Slot.{Slot}
use Rattle.pl_base.specs.Address.{is_place_url, is_store_url}
use Rattle.pl_base.specs.Date.{IsDate}
use Rattle.pl_base.specs.Good.{HasGoodItems, IsGood}
use Rattle.pl_base.specs.Marks.{is_counted, visit_count}
use Rattle.pl_base.specs.Rows.{HaveSums, IsSound, IsWellKept, Kept, KeptOrigin, KeptPage, WithPageIn}
use Rattle.pl_base.specs.Rows.{has_page, next_page, store_of, with_new_page, with_origin, with_origins}
use Rattle.pl_base.specs.Store.{Page, Store, Visit}
use Rattle.pl_history.specs.declared.find.Target.{Target}
use Rattle.pl_history.specs.declared.find.Target.TheVariants.{Known, New}
use Rattle.pl_history.specs.Sound.{AreStanding, IsTypedRight}
use Rattle.pl_base.specs.Removal.{is_standing}
use Rattle.pl_marks.specs.Refreshed.{IsRightPage}
use Rattle.pl_history.specs.Ready.{IsReady}
use Rattle.pl_history.specs.Target.{IsTargetOf, WithTarget}
use Rattle.pl_history.proofs.GoodRows.{items_of, items_still, standing_of}
use Rattle.pl_history.proofs.KnownPage.{IsKnown, has_known, known, only_known}
use Rattle.pl_base.proofs.ListLaws.{list_any-map, list_any_last, list_any_push}
use Rattle.pl_base.proofs.LookUps.{part}
use Rattle.pl_base.proofs.OriginSums.{sums_of_sound, sums_with_page}
use Rattle.pl_base.proofs.PageLaws.{ids_below}
use Rattle.pl_base.proofs.PagesRun.{not_equal}

-- ---- a page that is known

ready_known : (kept : Kept) (url : List ℕ) (page : PageId) (is_place : Bool) → IsWellKept kept → IsSound kept
    → IsTargetOf kept url (Known page) → is_place ≡ is_place_url url → IsReady page is_place kept
ready_known kept url page is_place h sound target place =
    let k : IsKnown kept url page = known kept url page target in
    let standing : AreStanding kept = standing_of kept sound.good in
    record {
      there = has_known kept url page k;
      place =
          All-weaker (λ (q : KeptPage). (q.page.id.0 == page.0) ≡ true → q ≡ k.page)
          (λ (q : KeptPage). (q.page.id.0 == page.0) ≡ true → is_place ≡ is_place_url q.page.url)
          (λ q one same. place
          ∙ ap is_place_url (sym (ap (λ (p : KeptPage). p.page.url) (one same) ∙ k.url_is)))
          kept.pages (only_known kept url page h k);
      items = items_of (store_of kept) sound.good;
      counts = sound.right.counts;
      sums = sums_of_sound kept h sound;
      right =
          λ i d within _. (
            sound.right.frecencies i d within,
            sound.right.counts i d within,
            sound.right.hidden i d within,
          );
      by_row = λ i d within _. standing.by_row i d within;
      typed = standing.typed;
    }

-- ---- a new page

pub id_below : (ps : List KeptPage) (n m : ℕ) → AllByRecursion (λ (p : KeptPage). p.page.id.0 < n) ps
    → list_any (λ (p : KeptPage). p.page.id.0 == m) ps ≡ true → m < n
id_below [] n m all some = absurd (cc)
id_below (p ∷ ps) n m all some = choose (p.page.id.0 == m) refl some (id_below ps n m all.1)
  where
    choose : (b : Bool) → (p.page.id.0 == m) ≡ b → (b || list_any (λ (q : KeptPage). q.page.id.0 == m) ps) ≡ true
        → (list_any (λ (q : KeptPage). q.page.id.0 == m) ps ≡ true → m < n) → m < n
    choose true is here rest = omega (arith, eqb-true p.page.id.0 m is, all.0)
    choose false is here rest = rest here

-- no visit has the next page
visits_below : (kept : Kept) → IsWellKept kept → All (λ (v : Visit). v.page.0 < kept.ids.page) kept.visits
visits_below kept h =
    All-weaker (λ (v : Visit). IsDate v.date × IsTrue (has_page kept v.page)) (λ (v : Visit). v.page.0 < kept.ids.page)
    (λ v fine. id_below kept.pages kept.ids.page v.page.0
    (recursion_from_All (λ (p : KeptPage). p.page.id.0 < kept.ids.page) kept.pages (ids_below kept h)) fine.1)
    kept.visits h.visits

none_count : (test : Visit → Bool) (vs : List Visit) → AllByRecursion (λ (v : Visit). test v ≡ false) vs
    → count_by test vs ≡ 0
none_count test [] all = refl
none_count test (v ∷ vs) all =
    omega (
      arith,
      sum_by-cons (λ (w : Visit). if test w then 1 else 0) v vs,
      ap {B = ℕ} (λ (b : Bool). if b then 1 else 0) all.0,
      none_count test vs all.1,
    )

elsewhere : (kept : Kept) (page : PageId) → IsWellKept kept → page.0 ≡ kept.ids.page
    → All (λ (v : Visit). (v.page.0 == page.0) ≡ false) kept.visits
elsewhere kept page h is =
    All-weaker (λ (v : Visit). v.page.0 < kept.ids.page) (λ (v : Visit). (v.page.0 == page.0) ≡ false)
    (λ v less. not_equal v.page.0 page.0 (omega (arith, less))) kept.visits (visits_below kept h)

no_count : (kept : Kept) (page : PageId) → IsWellKept kept → page.0 ≡ kept.ids.page
    → visit_count (store_of kept) page ≡ 0
no_count kept page h is =
    none_count (λ (v : Visit). (v.page.0 == page.0) && is_counted v.transition) kept.visits
    (recursion_from_All (λ (v : Visit). ((v.page.0 == page.0) && is_counted v.transition) ≡ false) kept.visits
    (All-weaker (λ (v : Visit). (v.page.0 == page.0) ≡ false)
    (λ (v : Visit). ((v.page.0 == page.0) && is_counted v.transition) ≡ false)
    (λ v other. ap (λ (b : Bool). b && is_counted v.transition) other) kept.visits (elsewhere kept page h is)))

items_grown : (kept : Kept) (url : List ℕ) (origin : Slot) → IsGood (store_of kept)
    → HasGoodItems (store_of (with_new_page url origin kept))
items_grown kept url origin good =
    let page_of : KeptPage → Page = λ (p : KeptPage). p.page in
    items_still (store_of kept) (store_of (with_new_page url origin kept)) refl
    (λ id some.
    let test : Page → Bool = λ (p : Page). p.id.0 == id.0 in
    list_any-map test page_of (with_new_page url origin kept).pages
    ∙ list_any_push (λ (p : KeptPage). p.page.id.0 == id.0) kept.pages (next_page url origin kept)
    (sym (list_any-map test page_of kept.pages) ∙ some))
    (items_of (store_of kept) good)

-- the origins matter to the sums alone
ready_fresh : (kept : Kept) (url : List ℕ) (origin : Slot) (origins : List KeptOrigin) (page : PageId)
    (is_place : Bool) → IsWellKept kept → IsSound kept → page.0 ≡ kept.ids.page → is_place ≡ is_place_url url
    → HaveSums (with_origins origins (with_new_page url origin kept))
    → IsReady page is_place (with_origins origins (with_new_page url origin kept))
ready_fresh kept url origin origins page is_place h sound is place sums =
    let new : KeptPage = next_page url origin kept in
    let store : Store = store_of kept in
    let standing : AreStanding kept = standing_of kept sound.good in
    let here : (new.page.id.0 == page.0) ≡ true = eq-eqb kept.ids.page page.0 (sym is) in
    let others : All (λ (p : KeptPage). (p.page.id.0 == page.0) ≡ false) kept.pages =
    All-weaker (λ (p : KeptPage). p.page.id.0 < kept.ids.page) (λ (p : KeptPage). (p.page.id.0 == page.0) ≡ false)
    (λ p less. not_equal p.page.id.0 page.0 (omega (arith, less))) kept.pages (ids_below kept h) in
    record {
      there = list_any_last (λ (p : KeptPage). p.page.id.0 == page.0) kept.pages new here;
      place =
          All-push (λ (p : KeptPage). (p.page.id.0 == page.0) ≡ true → is_place ≡ is_place_url p.page.url) kept.pages
          new
          (λ k d within same. absurd (false≢true (sym (others k d within) ∙ same))) (λ _. place);
      items = items_grown kept url origin sound.good;
      counts =
          All-push (λ (p : KeptPage). p.count ≡ visit_count store p.page.id) kept.pages new sound.right.counts
          (sym (no_count kept new.page.id h refl));
      sums = sums;
      right =
          All-push (λ (p : KeptPage). list_any (λ (id : PageId). p.page.id.0 == id.0) (page ∷ []) ≡ false
          → IsRightPage store p) kept.pages new
          (λ k d within _. (
            sound.right.frecencies k d within,
            sound.right.counts k d within,
            sound.right.hidden k d within,
          ))
          (λ other. absurd (false≢true (sym (or_parts (new.page.id.0 == page.0) false other).0 ∙ here)));
      by_row =
          All-push (λ (p : KeptPage). (p.page.id.0 == page.0) ≡ false → IsTrue (is_standing store p.page.id)) kept.pages
          new
          (λ k d within _. standing.by_row k d within)
          (λ other. absurd (false≢true (sym other ∙ here)));
      typed =
          All-push (IsTypedRight kept) kept.pages new standing.typed
          (λ k d within of _. absurd (omega (arith, ap (λ (i : PageId). i.0) of, visits_below kept h k d within)));
    }

-- the new page has a URL of the store
store_url : (kept : Kept) (url : List ℕ) (origin : Slot) (origins : List KeptOrigin)
    → IsWellKept (with_origins origins (with_new_page url origin kept)) → is_store_url url ≡ true
store_url kept url origin origins h =
    let own : KeptPage → Type 0 = λ (p : KeptPage). IsTrue (is_store_url p.page.url) in
    let new : KeptPage = next_page url origin kept in
    part own kept.pages new [] (recursion_from_All own (kept.pages ++ new ∷ []) h.urls)

pub own_url : (kept mid : Kept) (url : List ℕ) (origin : Option Slot) → IsWellKept mid → WithPageIn url origin kept mid
    → is_store_url url ≡ true
own_url kept mid url (Some origin) h made = store_url kept url origin kept.origins (subst IsWellKept made h)
own_url kept mid url None h made =
    store_url kept url made.0 (with_origin made.0 kept).origins (subst IsWellKept made.1 h)

ready_new : (kept mid : Kept) (url : List ℕ) (origin : Option Slot) (page : PageId) (is_place : Bool) → IsWellKept kept
    → IsSound kept → page.0 ≡ kept.ids.page → WithPageIn url origin kept mid → is_place ≡ is_place_url url
    → HaveSums mid → IsReady page is_place mid
ready_new kept mid url (Some origin) page is_place h sound is made place sums =
    subst (IsReady page is_place) (sym made)
    (ready_fresh kept url origin kept.origins page is_place h sound is place (subst HaveSums made sums))
ready_new kept mid url None page is_place h sound is made place sums =
    subst (IsReady page is_place) (sym made.1)
    (ready_fresh kept url made.0 (with_origin made.0 kept).origins page is_place h sound is place
    (subst HaveSums made.1 sums))

-- ---- either

pub ready : (kept mid : Kept) (url : List ℕ) (target : Target) (page : PageId) (is_place : Bool) → IsWellKept kept
    → IsWellKept mid → IsSound kept → IsTargetOf kept url target → WithTarget url target kept mid page
    → is_place ≡ is_place_url url → IsReady page is_place mid
ready kept mid url (Known id) page is_place h _ sound target with place =
    rw (with.0, with.1) (ready_known kept url id is_place h sound target place)
ready kept mid url (New origin) page is_place h well sound target with place =
    ready_new kept mid url origin page is_place h sound with.0 with.1 place
    (sums_with_page kept mid url origin h well (sums_of_sound kept h sound)
    (own_url kept mid url origin well with.1) target.1 with.1)

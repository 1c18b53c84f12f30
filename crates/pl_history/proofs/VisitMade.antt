-- What holds of the rows after a visit.
use Rattle.std.proofs.Common.{◌≡◌, ◌∙◌, ◌==◌, ◌||◌, ℕ, ℤ, All, Bool, true, false, eq-eqb}
use Rattle.std.proofs.Common.{List, [], Option, Some, ap, if◌then◌else◌, is_none}
use Rattle.std.proofs.Common.{get_or, option_to_list, refl, subst, sym, unwrap_or}
use Rattle.std.specs.Option.{option_map}
use Rattle.std.proofs.lemmas.List.Elements.{All-map, All-weaker}
use Rattle.pl_base.specs.declared.id.PageId.{PageId}
use Rattle.pl_base.specs.declared.id.VisitId.{VisitId}
use Rattle.pl_base.specs.declared.row.Mark.{Mark}
use Rattle.pl_base.specs.declared.row.VisitRow.{VisitRow}
use Rattle.pl_base.specs.Frecency.{frecency_of}
use Rattle.pl_base.specs.Marks.{is_typed}
use Rattle.pl_base.specs.Rows.{HaveSums, IsRight, IsSound, IsWellKept, Kept, KeptPage}
use Rattle.pl_base.specs.Rows.{mark_of, page_at, store_of, with_mark, with_origins, with_visit}
use Rattle.pl_base.specs.Store.{Page, Store}
use Rattle.pl_history.specs.declared.find.Target.{Target}
use Rattle.pl_history.specs.declared.find.Target.TheVariants.{Known, New}
use Rattle.pl_base.specs.Good.{HasGoodItems}
use Rattle.pl_history.specs.Sound.{AreStanding}
use Rattle.pl_marks.specs.Refreshed.{AreRightBut, Refreshes, source_page, visited_mark}
use Rattle.pl_base.specs.Visiting.{new_page, page_for}
use Rattle.pl_base.specs.Visiting.{visit_page, visited_page, visited_store, with_page_for}
use Rattle.pl_history.specs.Added.{AddsVisit}
use Rattle.pl_history.specs.Ready.{IsReady}
use Rattle.pl_history.specs.Target.{IsTargetOf, WithTarget}
use Rattle.pl_history.proofs.GoodRows.{good_of, items_still}
use Rattle.pl_history.proofs.RightAfter.{right_refreshed, right_visited}
use Rattle.pl_history.proofs.Targets.{IsFound, found_page}
use Rattle.pl_history.proofs.VisitRows.{grown_store, store_visited, store_with_page}
use Rattle.pl_history.proofs.KeptMark.{IsMarkAt, count_told, mark_made, typed_at}
use Rattle.pl_history.proofs.VisitedPages.{standing_after, standing_alike, typed_by, typed_still}
use Rattle.pl_base.proofs.ListLaws.{list_any-alike, list_any-map}
use Rattle.pl_base.proofs.OriginSums.{sums_still, totals_of_sums}

-- ---- the rows with the visit, and its page afresh

-- the mark that is told, with what is computed afresh
abbrev afresh : (row : VisitRow) (mark : Mark) (frecency : ℤ) (hidden : Bool) → Mark
afresh row mark frecency hidden =
    record (visited_mark row.transition mark) { frecency = frecency; hidden = hidden }

store_afresh : (old : Kept) (row : VisitRow) (mark : Mark) (frecency : ℤ) (hidden : Bool)
    → IsWellKept (with_visit row old) → IsMarkAt (with_visit row old) row.page mark
    → store_of (with_mark row.page (afresh row mark frecency hidden) (with_visit row old))
    ≡ visited_store row.page row.transition row.date row.source (store_of old)
store_afresh old row mark frecency hidden h m =
    store_visited old row (afresh row mark frecency hidden)
    (All-map (λ (p : Page). (p.id.0 == row.page.0) ≡ true
    → (mark.typed || is_typed row.transition) ≡ (p.typed || is_typed row.transition)) (λ (p : KeptPage). p.page)
    old.pages
    (All-weaker (λ (p : KeptPage). (p.page.id.0 == row.page.0) ≡ true → mark.typed ≡ p.page.typed)
    (λ (p : KeptPage). (p.page.id.0 == row.page.0) ≡ true
    → (mark.typed || is_typed row.transition) ≡ (p.page.typed || is_typed row.transition))
    (λ p is same. ap (λ (b : Bool). b || is_typed row.transition) (is same)) old.pages
    (typed_at (with_visit row old) row.page mark h m)))

standing_afresh : (old : Kept) (row : VisitRow) (is_place : Bool) (mark : Mark) (frecency : ℤ) (hidden : Bool)
    → IsReady row.page is_place old → IsWellKept (with_visit row old) → IsMarkAt (with_visit row old) row.page mark
    → AreStanding (with_mark row.page (afresh row mark frecency hidden) (with_visit row old))
standing_afresh old row is_place mark frecency hidden r h m =
    standing_after old row (afresh row mark frecency hidden) (typed_by row.transition mark.typed)
    (λ k d within same typed.
    typed_still (get_or old.pages k d).page.typed mark.typed (is_typed row.transition)
    (sym (typed_at (with_visit row old) row.page mark h m k d within same)) typed)
    r.by_row r.typed

-- the frecency is that of the page after the visit
abbrev IsScored : VisitRow → Kept → ℤ → Page → Type 0
IsScored row now frecency p = p.id ≡ row.page → frecency ≡ frecency_of (store_of now) (visited_page row.transition p)

-- the rows once the page of the visit is refreshed
pub record IsAfresh (row : VisitRow) (old now : Kept) (frecency : ℤ) : Type 0 where
  pub store : store_of now ≡ visited_store row.page row.transition row.date row.source (store_of old)
  pub standing : AreStanding now
  pub scored : All (IsScored row now frecency) (store_of old).pages

afresh_after : (old now : Kept) (row : VisitRow) (is_place : Bool) (mark told : Mark) (frecency : ℤ)
    → IsReady row.page is_place old → IsWellKept (with_visit row old) → IsMarkAt (with_visit row old) row.page mark
    → told ≡ visited_mark row.transition mark
    → Refreshes row.page told is_place (with_visit row old) now frecency → IsAfresh row old now frecency
afresh_after old now row is_place mark told frecency r h m is f =
    let own : Kept = with_mark row.page (afresh row mark frecency f.hidden) (with_visit row old) in
    let made : now ≡ with_origins now.origins own =
    f.rows ∙ ap (λ (n : Mark). with_origins now.origins
    (with_mark row.page (record n { frecency = frecency; hidden = f.hidden }) (with_visit row old))) is in
    let store : store_of now ≡ store_of own = ap store_of made in
    record {
      store = store ∙ store_afresh old row mark frecency f.hidden h m;
      standing =
          standing_alike own now store (standing_afresh old row is_place mark frecency f.hidden r h m);
      scored =
          All-map (IsScored row now frecency) (λ (p : KeptPage). p.page) old.pages
          (λ k d within same.
          let p : Page = (get_or old.pages k d).page in
          let here : (p.id.0 == row.page.0) ≡ true = eq-eqb p.id.0 row.page.0 (ap (λ (i : PageId). i.0) same) in
          f.scored (visited_page row.transition p) same
          (ap (λ (n : Mark). n.typed) is
          ∙ ap (λ (b : Bool). b || is_typed row.transition)
          (typed_at (with_visit row old) row.page mark h m k d within here))
          (r.place k d within here)
          ∙ ap (λ (k : Kept). frecency_of (store_of k) (visited_page row.transition p)) (sym f.rows));
    }

pub afresh_made : (old made now : Kept) (row : VisitRow) (is_place : Bool) (mark told : Mark) (frecency : ℤ)
    → IsReady row.page is_place old → IsWellKept made → made ≡ with_visit row old
    → Some mark ≡ option_map mark_of (page_at made row.page) → told ≡ visited_mark row.transition mark
    → Refreshes row.page told is_place made now frecency → IsAfresh row old now frecency
afresh_made old made now row is_place mark told frecency r h made_is marks is f =
    afresh_after old now row is_place mark told frecency r (subst IsWellKept made_is h)
    (mark_made old made row mark made_is marks) is
    (subst (λ (k : Kept). Refreshes row.page told is_place k now frecency) made_is f)

-- all pages are right but that of the source
pub right_still : (old made now : Kept) (row : VisitRow) (is_place : Bool) (mark told : Mark) (frecency : ℤ)
    → IsReady row.page is_place old → IsWellKept old → IsWellKept made → made ≡ with_visit row old
    → Some mark ≡ option_map mark_of (page_at made row.page) → told ≡ visited_mark row.transition mark
    → Refreshes row.page told is_place made now frecency
    → AreRightBut (option_to_list (source_page now row)) now
right_still old made now row is_place mark told frecency r h well made_is marks is f =
    let v : Kept = with_visit row old in
    let refreshed : Refreshes row.page told is_place v now frecency =
    subst (λ (k : Kept). Refreshes row.page told is_place k now frecency) made_is f in
    subst (λ (ids : List PageId). AreRightBut ids now)
    (ap (λ (k : Kept). option_to_list (source_page k row)) (sym refreshed.rows))
    (right_refreshed (option_to_list (source_page v row)) row.page told is_place v now frecency
    (right_visited old row h (subst IsWellKept made_is well) r.right) refreshed
    (count_told old row mark told r.counts (mark_made old made row mark made_is marks) is) r.place)

-- ---- the rows at the end

-- a visit leaves the items, and each page keeps its id
items_visited : (row : VisitRow) (store : Store) → HasGoodItems store
    → HasGoodItems (visited_store row.page row.transition row.date row.source store)
items_visited row store good =
    items_still store (visited_store row.page row.transition row.date row.source store) refl
    (λ id some.
    list_any-map (λ (p : Page). p.id.0 == id.0) (visit_page row.page row.transition) store.pages
    ∙ list_any-alike (λ (p : Page). (visit_page row.page row.transition p).id.0 == id.0) (λ (p : Page). p.id.0 == id.0)
    store.pages (λ p. same_id (p.id.0 == row.page.0) id p) ∙ some)
    good
  where
    same_id : (b : Bool) (id : PageId) (p : Page)
        → ((if b then visited_page row.transition p else p).id.0 == id.0) ≡ (p.id.0 == id.0)
    same_id true id p = refl
    same_id false id p = refl

pub sound_after : (old now new : Kept) (row : VisitRow) (is_place : Bool) (frecency : ℤ) → IsReady row.page is_place old
    → IsAfresh row old now frecency → IsWellKept new → store_of new ≡ store_of now → AreRightBut [] new → HaveSums new
    → IsSound new
sound_after old now new row is_place frecency r a h same right sums =
    let all : IsRight new =
    record {
      frecencies = λ k d within. (right k d within refl).0;
      counts = λ k d within. (right k d within refl).1;
      hidden = λ k d within. (right k d within refl).2;
    } in
    record {
      good =
          good_of new h
          (subst HasGoodItems (sym (same ∙ a.store)) (items_visited row (store_of old) r.items))
          (standing_alike now new same a.standing);
      right = all;
      totals = totals_of_sums new all sums;
    }

pub added_after : (old now new : Kept) (row : VisitRow) (visit : VisitId) (frecency : ℤ)
    (source : Option PageId) → IsAfresh row old now frecency → store_of new ≡ store_of now → visit.0 ≡ old.ids.visit
    → AddsVisit row (store_of old) (store_of new)
    (record { visit = visit; page = row.page; frecency = frecency; source = source })
added_after old now new row visit frecency source a same given =
    record {
      store = same ∙ a.store;
      visit = ap (λ (n : ℕ). record { 0 = n }) given;
      page = refl;
      scored =
          λ k d within id. a.scored k d within id
          ∙ ap (λ (s : Store). frecency_of s (visited_page row.transition (get_or (store_of old).pages k d)))
          (sym same);
    }

-- the sums with the visit
pub sums_made : (old made : Kept) (row : VisitRow) → made ≡ with_visit row old → HaveSums old → HaveSums made
sums_made old made row is sums =
    sums_still old made (ap (λ (k : Kept). k.pages) is) (ap (λ (k : Kept). k.origins) is) sums

-- ---- the page

-- the rows with the page are those of the step
pub target_page : (kept mid : Kept) (url : List ℕ) (target : Target) (page : PageId) → IsTargetOf kept url target
    → WithTarget url target kept mid page → (page_for (store_of kept) url).id ≡ page
target_page kept mid url (Known id) page of with =
    let f : IsFound kept url id = found_page kept url id of in
    ap (λ (o : Option Page). (unwrap_or o (new_page (store_of kept) url)).id) f.there ∙ f.is ∙ sym with.0
target_page kept mid url (New origin) page of with =
    ap (λ (o : Option Page). (unwrap_or o (new_page (store_of kept) url)).id) of.0
    ∙ ap (λ (n : ℕ). record { 0 = n }) (sym with.0)

pub target_store : (kept mid : Kept) (url : List ℕ) (target : Target) (page : PageId) → IsTargetOf kept url target
    → WithTarget url target kept mid page → store_of mid ≡ with_page_for (store_of kept) url
target_store kept mid url (Known id) page of with =
    let f : IsFound kept url id = found_page kept url id of in
    ap store_of with.1
    ∙ sym (ap (λ (o : Option Page). if is_none o then grown_store (store_of kept) url else store_of kept) f.there)
target_store kept mid url (New origin) page of with =
    store_with_page kept mid url origin with.1
    ∙ sym (ap (λ (o : Option Page). if is_none o then grown_store (store_of kept) url else store_of kept) of.0)

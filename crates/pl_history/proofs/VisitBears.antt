-- Which pages a visit bears on, and a page that comes for it.
use Rattle.std.proofs.Common.{◌≡◌, ◌∙◌, ◌<◌, ◌==◌, ◌||◌, inl, inr, ℕ, ℤ, Bool, true, false, List, []}
use Rattle.std.proofs.Common.{◌∷◌, Option, Some, None, ap, arith, eq-eqb, if◌then◌else◌, option_to_list, refl}
use Rattle.std.proofs.Common.{IfOk, IfSome, OnOk, Result, Ok, Err, subst, sym}
use Rattle.std.specs.List.{Contains}
use Rattle.std.specs.Option.{option_and_then, option_map}
use Rattle.std.proofs.lemmas.Bool.{false≢true, or_from, or_parts}
use Rattle.std.proofs.lemmas.List.Elements.{All-contains, All-map, Contains-append_left, Contains-push_cases}
use Rattle.pl_base.specs.declared.id.PageId.{PageId}
use Rattle.pl_base.specs.declared.id.Slot.{Slot}
use Rattle.pl_base.specs.declared.id.VisitId.{VisitId}
use Rattle.pl_base.specs.declared.memory.NoMemory.{NoMemory}
use Rattle.pl_base.specs.declared.row.Mark.{Mark}
use Rattle.pl_base.specs.declared.row.VisitRow.{VisitRow}
use Rattle.pl_base.specs.declared.transition.Transition.{Transition}
use Rattle.pl_base.specs.Redirects.{is_redirect}
use Rattle.pl_base.specs.Rows.{IsWellKept, Kept, KeptPage, WithPageIn, has_visit, next_visit, store_of, visit_at}
use Rattle.pl_base.specs.Rows.{with_visit}
use Rattle.pl_base.specs.Store.{Page, Store, Visit}
use Rattle.pl_base.specs.Visiting.{new_page, visit_page, visited_page, visited_store}
use Rattle.pl_base.proofs.LookUps.{find_push}
use Rattle.pl_base.proofs.PageLaws.{ids_below}
use Rattle.pl_marks.specs.Alike.{AreOthersAlike, is_one_of}
use Rattle.pl_marks.specs.Refreshed.{Refreshes, source_page}
use Rattle.pl_history.specs.declared.find.Target.{Target}
use Rattle.pl_history.specs.declared.find.Target.TheVariants.{Known, New}
use Rattle.pl_history.specs.declared.visiting.AddedVisit.{AddedVisit}
use Rattle.pl_history.specs.Added.{AddsVisit}
use Rattle.pl_history.specs.Bears.{BearsOnlyOn}
use Rattle.pl_history.specs.Target.{WithTarget}
use Rattle.pl_history.proofs.OthersAlike.{StemsFrom, alike_self, bears_on, contains_from_map, contains_map}
use Rattle.pl_history.proofs.OthersAlike.{bears_more, bears_then, none_comes, pages_once, view_by_rows}
use Rattle.pl_history.proofs.RightAfter.{other_way}
use Rattle.pl_history.proofs.ViewsLeft.{view_same}
use Rattle.pl_history.proofs.VisitRows.{grown_store, store_with_page}

-- ---- a visit

other_page : (id : PageId) (transition : Transition) (p : Page) → (p.id.0 == id.0) ≡ false
    → visit_page id transition p ≡ p
other_page id transition p other = ap (λ (b : Bool). if b then visited_page transition p else p) other

-- a page that is visited keeps its id and its texts
same_texts : (b : Bool) (transition : Transition) (p : Page)
    → ((if b then visited_page transition p else p).id ≡ p.id)
    × ((if b then visited_page transition p else p).url ≡ p.url)
    × ((if b then visited_page transition p else p).title ≡ p.title)
same_texts true transition p = (refl, refl, refl)
same_texts false transition p = (refl, refl, refl)

module _ (old : Kept) (row : VisitRow) where
  abbrev after : Store
  after = visited_store row.page row.transition row.date row.source (store_of old)

  abbrev sources : List PageId
  sources = option_to_list (source_page (with_visit row old) row)

  abbrev visit : Page → Page
  visit = visit_page row.page row.transition

  stems : (q : Page) → Contains after.pages q → StemsFrom (store_of old) q
  stems q there =
      let from = contains_from_map visit (store_of old).pages q there in
      let same = same_texts (from.0.id.0 == row.page.0) row.transition from.0 in (
        from.0,
        from.1,
        ap (λ (p : Page). p.id) (sym from.2) ∙ same.0,
        ap (λ (p : Page). p.url) (sym from.2) ∙ same.1,
        ap (λ (p : Page). p.title) (sym from.2) ∙ same.2,
      )

  visit_alike : IsWellKept old → IsWellKept (with_visit row old)
      → AreOthersAlike (row.page ∷ sources) (store_of old) after
  visit_alike h made =
      let pages : List Page = (store_of old).pages in
      let apart : (id : PageId) → is_one_of (row.page ∷ sources) id ≡ false
      → ((id.0 == row.page.0) ≡ false) × (is_one_of sources id ≡ false) =
      λ id other. or_parts (id.0 == row.page.0) (is_one_of sources id) other in
      record {
        stay =
            λ p there other.
            subst (Contains after.pages) (other_page row.page row.transition p (apart p.id other).0)
            (contains_map visit pages p there);
        stood =
            λ q there other.
            let from = contains_from_map visit pages q there in
            let same = same_texts (from.0.id.0 == row.page.0) row.transition from.0 in
            let id : q.id ≡ from.0.id = ap (λ (p : Page). p.id) (sym from.2) ∙ same.0 in
            let one : from.0 ≡ q =
            sym (other_page row.page row.transition from.0
            (ap (λ (i : PageId). i.0 == row.page.0) (sym id) ∙ (apart q.id other).0))
            ∙ from.2 in
            subst (Contains pages) one from.1;
        views =
            λ p there other view of.
            view_by_rows (store_of (with_visit row old)) after.ids after.pages p view
            (view_same old row h made p view
            (record { visited = other_way p.id row.page (apart p.id other).0; led = (apart p.id other).1 }) of);
      }

pub visit_bears : (old made now new : Kept) (row : VisitRow) (told : Mark) (is_place : Bool) (frecency : ℤ)
    (source : Option PageId) → IsWellKept old → IsWellKept made → made ≡ with_visit row old
    → Refreshes row.page told is_place made now frecency → source ≡ source_page now row
    → store_of new ≡ visited_store row.page row.transition row.date row.source (store_of old)
    → BearsOnlyOn (row.page ∷ option_to_list source) (store_of old) (store_of new)
visit_bears old made now new row told is_place frecency source h well made_is r from is =
    let same : source ≡ source_page (with_visit row old) row =
    from ∙ ap (λ (k : Kept). source_page k row) r.rows ∙ ap (λ (k : Kept). source_page k row) made_is in
    subst (λ (o : Option PageId). BearsOnlyOn (row.page ∷ option_to_list o) (store_of old) (store_of new)) (sym same)
    (subst (BearsOnlyOn (row.page ∷ sources old row) (store_of old)) (sym is)
    (bears_on (row.page ∷ sources old row) (store_of old) (after old row) (pages_once old h) refl (stems old row)
    (visit_alike old row h (subst IsWellKept made_is well))))

-- the page of the source is told before the visit
source_still : (old : Kept) (row : VisitRow) (redirect : Bool) (source : Option VisitId)
    → IfSome source (λ id. has_visit old id ≡ true)
    → (if redirect then option_map (λ (v : Visit). v.page)
    (option_and_then (visit_at (with_visit row old)) source) else None)
    ≡ (if redirect then option_map (λ (v : Visit). v.page) (option_and_then (visit_at old) source) else None)
source_still old row false source there = refl
source_still old row true None there = refl
source_still old row true (Some id) there =
    ap (option_map (λ (v : Visit). v.page))
    (find_push (λ (v : Visit). v.id.0 == id.0) old.visits (next_visit row old ∷ []) there)

pub visit_source : (old made now : Kept) (row : VisitRow) (told : Mark) (is_place : Bool) (frecency : ℤ)
    (source : Option PageId) → made ≡ with_visit row old → Refreshes row.page told is_place made now frecency
    → IfSome row.source (λ id. has_visit old id ≡ true) → source ≡ source_page now row → source ≡ source_page old row
visit_source old made now row told is_place frecency source made_is r there from =
    from ∙ ap (λ (k : Kept). source_page k row) r.rows ∙ ap (λ (k : Kept). source_page k row) made_is
    ∙ source_still old row (is_redirect row.transition) row.source there

-- a page that was found or made, and then the visit to it
pub then_visited : (old mid new : Store) (row : VisitRow) (added : AddedVisit) → BearsOnlyOn (row.page ∷ []) old mid
    → AddsVisit row mid new added
    → BearsOnlyOn (added.page ∷ option_to_list added.source) mid new
    → BearsOnlyOn (added.page ∷ option_to_list added.source) old new
then_visited old mid new row added a adds b =
    let ids : List PageId = added.page ∷ option_to_list added.source in
    bears_then ids old mid new
    (bears_more (row.page ∷ []) ids old mid
    (λ id other.
    or_from (id.0 == row.page.0) false
    (ap (λ (i : PageId). id.0 == i.0) (sym adds.page)
    ∙ (or_parts (id.0 == added.page.0) (is_one_of (option_to_list added.source) id) other).0)
    refl)
    a)
    b
    (λ r there.
    let visit : Page → Page = visit_page row.page row.transition in
    let from = contains_from_map visit mid.pages r (subst (λ (s : Store). Contains s.pages r) adds.store there) in (
      from.0,
      from.1,
      sym (same_texts (from.0.id.0 == row.page.0) row.transition from.0).0 ∙ ap (λ (p : Page). p.id) from.2,
    ))

-- ---- a page

pub bears_none : (ids : List PageId) (kept : Kept) → IsWellKept kept
    → BearsOnlyOn ids (store_of kept) (store_of kept)
bears_none ids kept h =
    bears_on ids (store_of kept) (store_of kept) (pages_once kept h) refl (λ q there. (q, there, refl, refl, refl))
    (alike_self ids (store_of kept))

-- each page has a smaller id than the next
pages_below : (kept : Kept) → IsWellKept kept → (p : Page) → Contains (store_of kept).pages p
    → p.id.0 < kept.ids.page
pages_below kept h p there =
    All-contains (λ (q : Page). q.id.0 < kept.ids.page) (store_of kept).pages p
    (All-map (λ (q : Page). q.id.0 < kept.ids.page) (λ (q : KeptPage). q.page) kept.pages (ids_below kept h)) there

grown_bears : (kept : Kept) (url : List ℕ) → IsWellKept kept
    → BearsOnlyOn (record { 0 = kept.ids.page } ∷ []) (store_of kept) (grown_store (store_of kept) url)
grown_bears kept url h =
    let store : Store = store_of kept in
    let next : Page = new_page store url in
    let new : Store = grown_store store url in
    record {
      others =
          record {
            stay = λ p there other. Contains-append_left store.pages (next ∷ []) p there;
            stood =
                λ p there other.
                elim (Contains-push_cases store.pages next p there) as (λ _. Contains store.pages p) [
                  | inl was ↦ was
                  | inr is ↦
                      absurd (false≢true (sym other
                      ∙ ap (λ (q : Page). is_one_of (next.id ∷ []) q.id) (sym is)
                      ∙ ap (λ (b : Bool). b || false) (eq-eqb next.id.0 next.id.0 refl)))
                ];
            views = λ p there other view of. view_by_rows store new.ids new.pages p view of;
          };
      texts =
          record {
            items = refl;
            pages =
                λ p q here there same.
                elim (Contains-push_cases store.pages next q there) as (λ _. (q.url ≡ p.url) × (q.title ≡ p.title)) [
                  | inl was ↦
                      let one : q ≡ p = pages_once kept h p q here was same in
                      (ap (λ (r : Page). r.url) one, ap (λ (r : Page). r.title) one)
                  | inr is ↦
                      absurd (omega (
                        arith,
                        pages_below kept h p here,
                        ap (λ (r : Page). r.id.0) is,
                        ap (λ (i : PageId). i.0) same,
                      ))
                ];
          };
      behind =
          λ p q there absent here.
          elim (Contains-push_cases store.pages next p there) as (λ _. q.id.0 < p.id.0) [
            | inl was ↦ (none_comes store store (λ r at. (r, at, refl, refl, refl))) p q was absent here
            | inr is ↦ omega (arith, pages_below kept h q here, ap (λ (r : Page). r.id.0) is)
          ];
    }

pub target_bears : (old new : Kept) (url : List ℕ) (target : Target) (page : PageId) → IsWellKept old
    → WithTarget url target old new page → BearsOnlyOn (page ∷ []) (store_of old) (store_of new)
target_bears old new url (Known id) page h with =
    subst (λ (k : Kept). BearsOnlyOn (page ∷ []) (store_of old) (store_of k)) (sym with.1)
    (bears_none (page ∷ []) old h)
target_bears old new url (New origin) page h with =
    subst (λ (n : ℕ). BearsOnlyOn (record { 0 = n } ∷ []) (store_of old) (store_of new)) (sym with.0)
    (subst (BearsOnlyOn (record { 0 = old.ids.page } ∷ []) (store_of old))
    (sym (store_with_page old new url origin with.1)) (grown_bears old url h))

-- the same of a page that comes where there is memory
pub made_bears : (r : Result PageId NoMemory) (old new : Kept) (url : List ℕ) (origin : Option Slot) → IsWellKept old
    → IfOk r (λ page. page.0 ≡ old.ids.page) → OnOk r (WithPageIn url origin old new)
    → IfOk r (λ page. BearsOnlyOn (page ∷ []) (store_of old) (store_of new))
made_bears (Ok page) old new url origin h next is = target_bears old new url (New origin) page h (next, is)
made_bears (Err e) old new url origin h next is = tt

-- New pages with items: their marks are told without a look at visits and items.
use Rattle.std.proofs.Common.{◌≡◌, ◌≢◌, ◌∙◌, ◌+◌, ◌<◌, ◌≤◌, ◌==◌, ◌&&◌, ◌++◌, ℕ, All, Bool, true, false, IsSome}
use Rattle.std.proofs.Common.{IsTrue, List, [], ◌∷◌, Option, Some, None, ap, arith, drop, get_or}
use Rattle.std.proofs.Common.{length, ltb, refl, subst, sym}
use Rattle.std.specs.List.{AllByRecursion, list_any, sum_by}
use Rattle.std.specs.List.Sorted.{IsPartitionPoint}
use Rattle.std.specs.Option.{option_map}
use Rattle.std.proofs.Math.Bool.{or-false, or_comm}
use Rattle.std.proofs.lemmas.Bool.{ltb-false, or_right}
use Rattle.std.proofs.lemmas.List.{get_or-drop, length-drop}
use Rattle.std.proofs.lemmas.List.Elements.{All-append, All-weaker, recursion_from_All}
use Rattle.std.proofs.lemmas.List.Folds.{list_any-append}
use Rattle.pl_base.specs.declared.id.PageId.{PageId}
use Rattle.pl_base.specs.declared.row.Mark.{Mark}
use Rattle.pl_base.specs.Address.{is_place_url}
use Rattle.pl_base.specs.Frecency.{frecency_from, frecency_of, points, unvisited_frecency, visit_bonus}
use Rattle.pl_base.specs.Good.{is_visited}
use Rattle.pl_base.specs.Marks.{is_counted, is_hidden, is_referenced, visit_count}
use Rattle.pl_base.specs.Removal.{is_standing}
use Rattle.pl_base.specs.Rows.{HaveSums, IsWellKept, Kept, KeptPage, has_page, mark_of, page_at, store_of, url_of}
use Rattle.pl_base.specs.Rows.{with_mark, with_origins}
use Rattle.pl_base.specs.Totals.{most_share, share}
use Rattle.pl_base.specs.Store.{Page, Store, Visit}
use Rattle.pl_base.specs.Visits.{sample_of, visits_of}
use Rattle.pl_base.proofs.IdsLaws.{same_page}
use Rattle.pl_base.proofs.ListLaws.{All-from_map, list_any-map, weaker}
use Rattle.pl_base.proofs.LookUps.{found_holds, found_where, none_kept, none_pass}
use Rattle.pl_marks.specs.Refreshed.{HaveCounts, Refreshes}
use Rattle.pl_history.specs.Settled.{AreSettledBut}
use Rattle.pl_history.proofs.KeptMark.{IsMarkAt, count_at, mark_at}
use Rattle.pl_history.proofs.Settled.{refreshed_settled}
use Rattle.pl_history.proofs.VisitRows.{store_same}
use Rattle.pl_editing.specs.NewPage.{IsNew, new_mark}
use Rattle.pl_editing.proofs.ListParts.{left, none_counted, right, swapped}

-- ---- a page without visits

without_visits : (store : Store) (p : Page) → visits_of store p.id ≡ [] → is_hidden store p ≡ is_place_url p.url
without_visits store p none = rw none (or-false (is_place_url p.url))

module _ (store : Store) (page : PageId) (n : IsNew store page) where
  no_visit : AllByRecursion (λ (v : Visit). (v.page.0 == page.0) ≡ false) store.visits
  no_visit = none_pass (λ (v : Visit). v.page.0 == page.0) store.visits n.unvisited

  no_count : visit_count store page ≡ 0
  no_count =
      let counts : Visit → Bool = λ (v : Visit). (v.page.0 == page.0) && is_counted v.transition in
      none_counted counts store.visits
      (weaker (λ (v : Visit). (v.page.0 == page.0) ≡ false) (λ (v : Visit). counts v ≡ false) store.visits
      (λ v other. ap (λ (b : Bool). b && is_counted v.transition) other) no_visit)

  scored : (p : Page) (is_place : Bool) → p.id ≡ page → false ≡ p.typed → is_place ≡ is_place_url p.url
      → unvisited_frecency true false is_place ≡ frecency_of store p
  scored p is_place of untyped place =
      let total : ℕ =
      sum_by (λ (v : Visit). points store.day v.date (visit_bonus store v)) (sample_of store p.id) in
      let sampled : ℕ = length (sample_of store p.id) in
      ap (unvisited_frecency true false) place
      ∙ ap (λ (b : Bool). unvisited_frecency b false (is_place_url p.url))
      (sym (ap (is_referenced store) of ∙ n.referenced))
      ∙ ap (λ (b : Bool). unvisited_frecency (is_referenced store p.id) b (is_place_url p.url)) untyped
      ∙ ap (λ (count : ℕ).
      frecency_from total sampled count (is_referenced store p.id) p.typed (is_place_url p.url))
      (sym (ap (visit_count store) of ∙ no_count))

  shown : (p : Page) (is_place : Bool) → p.id ≡ page → is_place ≡ is_place_url p.url → is_place ≡ is_hidden store p
  shown p is_place of place =
      place
      ∙ sym (without_visits store p
      (ap (visits_of store) of ∙ none_kept (λ (v : Visit). v.page.0 == page.0) store.visits no_visit))

  stands : is_standing store page ≡ true
  stands = or_right (is_visited store page) (is_referenced store page) n.referenced

-- ---- its mark

pub small_new : (is_place : Bool) → share (unvisited_frecency true false is_place) ≤ most_share
small_new true = omega arith
small_new false = omega arith

abbrev mark_with : Bool → ℕ → Bool → Mark
mark_with is_place count typed =
    record {
      frecency = unvisited_frecency true false is_place;
      count = count;
      typed = typed;
      hidden = is_place;
    }

pub new_there : (kept : Kept) (page : PageId) → IsNew (store_of kept) page → has_page kept page ≡ true
new_there kept page n =
    sym (list_any-map (λ (p : Page). p.id.0 == page.0) (λ (p : KeptPage). p.page) kept.pages) ∙ n.there

module _ (old new : Kept) (page : PageId) (is_place : Bool) (n : IsNew (store_of old) page)
    (is : new ≡ with_origins new.origins (with_mark page (new_mark is_place) old)) where
  pub new_store : store_of new ≡ store_of old
  new_store =
      ap store_of is
      ∙ store_same old page (new_mark is_place)
      (All-weaker (λ (p : Page). p.id ≡ page → p.typed ≡ false)
      (λ (p : Page). (p.id.0 == page.0) ≡ true → false ≡ p.typed)
      (λ p untyped same. sym (untyped (same_page p.id page same))) (store_of old).pages n.untyped)

  untyped : (mark : Mark) → IsMarkAt old page mark → mark.typed ≡ false
  untyped mark m =
      ap (λ (r : Mark). r.typed) m.is
      ∙ found_holds (λ (p : KeptPage). p.page.id ≡ page → p.page.typed ≡ false)
      (λ (p : KeptPage). p.page.id.0 == page.0) old.pages m.page
      (recursion_from_All (λ (p : KeptPage). p.page.id ≡ page → p.page.typed ≡ false) old.pages
      (All-from_map (λ (p : Page). p.id ≡ page → p.typed ≡ false) (λ (p : KeptPage). p.page) old.pages n.untyped))
      m.at m.same

  refreshes : (mark : Mark) → HaveCounts old → IsMarkAt old page mark
      → Refreshes page mark is_place old new (unvisited_frecency true false is_place)
  refreshes mark counts m =
      let none : mark.count ≡ 0 = count_at old page mark counts m ∙ no_count (store_of old) page n in
      let never : mark.typed ≡ false = untyped mark m in
      record {
        hidden = is_place;
        rows =
            is
            ∙ ap (λ (count : ℕ). with_origins new.origins (with_mark page (mark_with is_place count false) old))
            (sym none)
            ∙ ap (λ (typed : Bool). with_origins new.origins (with_mark page (mark_with is_place mark.count typed) old))
            (sym never);
        scored = λ p of typed place. scored (store_of old) page n p is_place of (sym never ∙ typed) place;
        shown = λ p of place. shown (store_of old) page n p is_place of place;
      }

  pub new_settled : IsWellKept old → HaveSums new → (rest : List PageId)
      → Some is_place ≡ option_map is_place_url (url_of old page) → AreSettledBut (page ∷ rest) old
      → AreSettledBut rest new
  new_settled h sums rest place s =
      let found : Option Mark = option_map mark_of (page_at old page) in
      choose found refl
      (found_where (λ (p : KeptPage). p.page.id.0 == page.0) mark_of old.pages found (new_there old page n) refl)
    where
      choose : (o : Option Mark) → option_map mark_of (page_at old page) ≡ o → IsSome o → AreSettledBut rest new
      choose None at some = absurd (cc)
      choose (Some mark) at some =
          refreshed_settled old new page rest mark is_place (unvisited_frecency true false is_place) h (sym at) place
          (stands (store_of old) page n) (refreshes mark s.counts (mark_at old page mark (sym at))) sums s

-- ---- among others

-- a page is new as long as the store is the same
pub still_new : (old now : Store) (pages : List PageId) (k : ℕ) (d : PageId) → now ≡ old → All (IsNew old) pages
    → k < length pages → IsNew now (get_or pages k d)
still_new old now pages k d same all within =
    subst (λ (s : Store). IsNew s (get_or pages k d)) (sym same) (all k d within)

pub still_there : (old now : Kept) (pages : List PageId) (k : ℕ) (d : PageId) → store_of now ≡ store_of old
    → All (IsNew (store_of old)) pages → k < length pages → has_page now (get_or pages k d) ≡ true
still_there old now pages k d same all within =
    new_there now (get_or pages k d) (still_new (store_of old) (store_of now) pages k d same all within)

-- behind the point all ids are at least this one
pub from_point : (P : PageId → Type 0) (pages back : List PageId) (first i : ℕ) → back ≡ drop i pages
    → IsPartitionPoint (λ (page : PageId). ltb page.0 first ≡ true)
    (λ (page : PageId). ltb page.0 first ≡ false) pages i
    → All (λ (page : PageId). first ≤ page.0 → P page) pages → All P back
from_point P pages back first i is point all =
    subst (All P) (sym is)
    (λ k d within.
    let inside : i + k < length pages = omega (arith, within, length-drop i pages) in
    subst P (sym (get_or-drop i pages k d))
    (all (i + k) d inside
    (ltb-false (get_or pages (i + k) d).0 first (point.1 (i + k) d (omega arith) inside))))

pub settled_swapped : (kept : Kept) (front back : List PageId) → AreSettledBut (front ++ back) kept
    → AreSettledBut (back ++ front) kept
settled_swapped kept front back s =
    let There : PageId → Type 0 = λ (id : PageId). IsTrue (has_page kept id) in
    let same : (id : PageId) → list_any (λ (i : PageId). id.0 == i.0) (back ++ front)
    ≡ list_any (λ (i : PageId). id.0 == i.0) (front ++ back) =
    λ id.
    list_any-append (λ (i : PageId). id.0 == i.0) back front
    ∙ or_comm (list_any (λ (i : PageId). id.0 == i.0) back) (list_any (λ (i : PageId). id.0 == i.0) front)
    ∙ sym (list_any-append (λ (i : PageId). id.0 == i.0) front back) in
    record {
      there = All-append There back front (right There front back s.there) (left There front back s.there);
      apart =
          swapped (λ (a b : PageId). a.0 ≢ b.0) front back (λ a b other same. other (sym same)) s.apart;
      items = s.items;
      counts = s.counts;
      right = λ k d within other. s.right k d within (sym (same (get_or kept.pages k d).page.id) ∙ other);
      by_row = λ k d within other. s.by_row k d within (sym (same (get_or kept.pages k d).page.id) ∙ other);
      typed = s.typed;
      sums = s.sums;
    }

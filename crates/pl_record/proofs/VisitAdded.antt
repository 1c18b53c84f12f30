-- Rows with a visit more stay rows of a store, whose targets are those of before with the visit
-- among its source's.
use Rattle.std.proofs.Common.{◌≡◌, ◌≢◌, ◌+◌, ◌<◌, ◌==◌, ◌&&◌, ◌||◌, ◌++◌, ◌∙◌, ℕ, All, Bool, true, false, IfSome}
use Rattle.std.proofs.Common.{IsTrue, List, [], ◌∷◌, ap, append-nil, append_assoc, arith, eqb, eqb-true, filter}
use Rattle.std.proofs.Common.{if◌then◌else◌, ltb, map, nat_lt, not, refl, subst, sym}
use Rattle.std.specs.List.{AllByRecursion}
use Rattle.std.specs.List.Sorted.{IsPermutation}
use Rattle.std.proofs.lemmas.Bool.Decides.{nat_tests}
use Rattle.std.proofs.lemmas.List.{length_push, map_push}
use Rattle.std.proofs.lemmas.List.Elements.{All-push, All-weaker, filter-append, recursion_from_All}
use Rattle.std.proofs.lemmas.List.Folds.{Any-from_list_any}
use Rattle.std.proofs.lemmas.List.Sorted.{IsPermutation-append_comm, IsPermutation-append_left, IsPermutation-cons}
use Rattle.std.proofs.lemmas.List.Sorted.{IsPermutation-trans}
use Rattle.std.proofs.lemmas.Option.{IfSome_then}
use Rattle.pl_base.specs.declared.id.PageId.{PageId}
use Rattle.pl_base.specs.declared.id.VisitId.{VisitId}
use Rattle.pl_base.specs.declared.row.VisitRow.{VisitRow}
use Rattle.pl_base.specs.declared.transition.Transition.{Transition}
use Rattle.pl_base.specs.Date.{IsDate}
use Rattle.pl_base.specs.Good.{AreIds, end_of_ids}
use Rattle.pl_base.specs.Live.{live_slots, slot_limit}
use Rattle.pl_base.specs.Redirects.{is_redirect, is_source, others_from, redirects_from}
use Rattle.pl_base.specs.Rows.{AreTargets, HasSource, IsWellKept, Kept, has_page, has_visit, next_visit, page_visits}
use Rattle.pl_base.specs.Rows.{store_of, with_visit}
use Rattle.pl_base.specs.Store.{Visit}
use Rattle.pl_base.specs.Visits.{in_place, is_later, latest_first, visits_of}
use Rattle.pl_base.proofs.ListLaws.{All-from_map, all-filter, list_any_push, weaker}
use Rattle.pl_record.specs.Form.{AreRows}
use Rattle.pl_record.proofs.PageAdded.{ids_pushed}
use Rattle.pl_record.proofs.TargetLists.{with_target}
use Rattle.pl_base.proofs.VisitOrder.{latest_push}

-- ---- a part of a list with one more

module _ {X : Type 0} (q : X → Bool) (xs : List X) (x : X) where
  pub joins : q x ≡ true → filter q (xs ++ x ∷ []) ≡ filter q xs ++ x ∷ []
  joins passes =
      filter-append q xs (x ∷ []) ∙ ap (λ (b : Bool). filter q xs ++ (if b then x ∷ [] else [])) passes

  pub stays_out : q x ≡ false → filter q (xs ++ x ∷ []) ≡ filter q xs
  stays_out fails =
      filter-append q xs (x ∷ [])
      ∙ ap (λ (b : Bool). filter q xs ++ (if b then x ∷ [] else [])) fails
      ∙ append-nil (filter q xs)

-- ---- the visit's id and date

-- those that are there have smaller ids
ids_below : (kept : Kept) → IsWellKept kept → All (λ (v : Visit). v.id.0 < kept.ids.visit) kept.visits
ids_below kept h =
    All-weaker (λ (v : Visit). (0 < v.id.0) × (v.id.0 < kept.ids.visit)) (λ (v : Visit). v.id.0 < kept.ids.visit)
    (λ v given. given.1) kept.visits
    (All-from_map (λ n. (0 < n) × (n < kept.ids.visit)) (λ (v : Visit). v.id.0) kept.visits h.visit_ids.given)

below_next : (kept : Kept) (id : VisitId) → IsWellKept kept → has_visit kept id ≡ true → id.0 < kept.ids.visit
below_next kept id h there =
    let at = Any-from_list_any (λ (v : Visit). v.id.0 == id.0) kept.visits there in
    let below : at.1.id.0 < kept.ids.visit =
    subst (λ (v : Visit). v.id.0 < kept.ids.visit) at.3 (ids_below kept h at.0 at.1 at.2) in
    omega (arith, below, eqb-true at.1.id.0 id.0 at.4)

by_date : (date other id next : ℕ) → id < next
    → ltb other date || (eqb other date && ltb id next) ≡ not (ltb date other)
by_date date other id next below = grind (arith, nat_tests)

-- the visit is later than each that is not later by its date
pub added_later : (row : VisitRow) (kept : Kept) → IsWellKept kept
    → AllByRecursion (λ (w : Visit). is_later (next_visit row kept) w ≡ not (nat_lt row.date.0 w.date.0)) kept.visits
added_later row kept h =
    weaker (λ (w : Visit). w.id.0 < kept.ids.visit)
    (λ (w : Visit). is_later (next_visit row kept) w ≡ not (nat_lt row.date.0 w.date.0)) kept.visits
    (λ w below. by_date row.date.0 w.date.0 w.id.0 kept.ids.visit below)
    (recursion_from_All (λ (v : Visit). v.id.0 < kept.ids.visit) kept.visits (ids_below kept h))

-- ---- the visits of a page

abbrev pub of_page : PageId → Visit → Bool
of_page page v = v.page.0 == page.0

pub page_visits_added : (row : VisitRow) (kept : Kept) (page : PageId) → IsWellKept kept
    → page_visits (with_visit row kept) page
    ≡ (if row.page.0 == page.0 then in_place (next_visit row kept) (page_visits kept page)
    else page_visits kept page)
page_visits_added row kept page h = choose (row.page.0 == page.0) refl
  where
    choose : (b : Bool) → (row.page.0 == page.0) ≡ b
        → page_visits (with_visit row kept) page
        ≡ (if b then in_place (next_visit row kept) (page_visits kept page) else page_visits kept page)
    choose true is =
        ap latest_first (joins (of_page page) kept.visits (next_visit row kept) is)
        ∙ latest_push (visits_of (store_of kept) page) (next_visit row kept)
        (all-filter (λ (w : Visit). w.id.0 ≢ kept.ids.visit) (of_page page) kept.visits
        (weaker (λ (w : Visit). w.id.0 < kept.ids.visit) (λ (w : Visit). w.id.0 ≢ kept.ids.visit) kept.visits
        (λ w below same. omega (arith, below, same))
        (recursion_from_All (λ (v : Visit). v.id.0 < kept.ids.visit) kept.visits (ids_below kept h))))
    choose false is = ap latest_first (stays_out (of_page page) kept.visits (next_visit row kept) is)

-- ---- the rows

-- the visit's slot comes
pub live_added : (row : VisitRow) (kept : Kept)
    → live_slots (store_of (with_visit row kept)) ≡ live_slots (store_of kept) + 1
live_added row kept = omega (arith, length_push kept.visits (next_visit row kept))

-- a kind of visits that came from one
abbrev pub from : (Transition → Bool) → VisitId → Visit → Bool
from kind source w = kind w.transition && is_source source w.source

module _ (row : VisitRow) (kept : Kept) (targets : VisitId → List Visit) where
  abbrev new : Visit
  new = next_visit row kept

  abbrev whole : Kept
  whole = with_visit row kept

  well_added : has_page kept row.page ≡ true → IsDate row.date → IfSome row.source (λ id. has_visit kept id ≡ true)
      → kept.ids.visit < end_of_ids → live_slots (store_of kept) < slot_limit → IsWellKept kept → IsWellKept whole
  well_added there in_range source room fits h =
      let still : (id : VisitId) → has_visit kept id ≡ true → IsTrue (has_visit whole id) =
      λ id here. list_any_push (λ (v : Visit). v.id.0 == id.0) kept.visits new here in
      record {
        day = h.day;
        page_ids = h.page_ids;
        visit_ids =
            subst (AreIds 1 (kept.ids.visit + 1)) (sym (map_push (λ (v : Visit). v.id.0) kept.visits new))
            (ids_pushed kept.ids.visit (map (λ (v : Visit). v.id.0) kept.visits) room h.visit_ids);
        item_ids = h.item_ids;
        urls = h.urls;
        distinct_urls = h.distinct_urls;
        titles = h.titles;
        visits =
            All-push (λ (v : Visit). IsDate v.date × IsTrue (has_page kept v.page)) kept.visits new h.visits
            (in_range, there);
        sources =
            All-push (HasSource whole) kept.visits new
            (All-weaker (HasSource kept) (HasSource whole)
            (λ v has.
            IfSome_then v.source {P = λ id. (id.0 < v.id.0) × IsTrue (has_visit kept id)} has
            (λ id old. (old.0, still id old.1))) kept.visits h.sources)
            (IfSome_then row.source {P = λ id. has_visit kept id ≡ true} source
            (λ id here. (below_next kept id h here, still id here)));
        origins =
            record {
              distinct = h.origins.distinct;
              some = h.origins.some;
              known = h.origins.known;
              used = h.origins.used;
              same = h.origins.same;
            };
        live = omega (arith, live_added row kept, fits);
      }

  -- ---- the targets

  by_parts : (kind : Transition → Bool) (source : VisitId) (a b : Bool) → kind row.transition ≡ a
      → is_source source row.source ≡ b → from kind source new ≡ (a && b)
  by_parts kind source a b is from_it =
      ap (λ (c : Bool). c && is_source source row.source) is ∙ ap (λ (c : Bool). a && c) from_it

  put : (source : VisitId) (r b : Bool) → is_redirect row.transition ≡ r → is_source source row.source ≡ b
      → AreTargets (store_of kept) source (targets source)
      → AreTargets (store_of whole) source
      (if b then (if r then new ∷ targets source else targets source ++ new ∷ []) else targets source)
  put source true true is from_it t =
      record {
        redirects = new ∷ t.redirects;
        others = t.others;
        is = ap (λ (vs : List Visit). new ∷ vs) t.is;
        all_redirects =
            subst (IsPermutation (new ∷ t.redirects))
            (sym (joins (from is_redirect source) kept.visits new (by_parts is_redirect source true true is from_it)))
            (IsPermutation-trans (new ∷ t.redirects) (new ∷ redirects_from (store_of kept) source)
            (redirects_from (store_of kept) source ++ new ∷ [])
            (IsPermutation-cons new t.redirects (redirects_from (store_of kept) source) t.all_redirects)
            (IsPermutation-append_comm (new ∷ []) (redirects_from (store_of kept) source)));
        all_others =
            subst (IsPermutation t.others)
            (sym (stays_out (from (λ k. not (is_redirect k)) source) kept.visits new
            (by_parts (λ k. not (is_redirect k)) source false true (ap not is) from_it))) t.all_others;
      }
  put source false true is from_it t =
      record {
        redirects = t.redirects;
        others = t.others ++ new ∷ [];
        is =
            ap (λ (vs : List Visit). vs ++ new ∷ []) t.is ∙ append_assoc t.redirects t.others (new ∷ []);
        all_redirects =
            subst (IsPermutation t.redirects)
            (sym (stays_out (from is_redirect source) kept.visits new
            (by_parts is_redirect source false true is from_it))) t.all_redirects;
        all_others =
            subst (IsPermutation (t.others ++ new ∷ []))
            (sym (joins (from (λ k. not (is_redirect k)) source) kept.visits new
            (by_parts (λ k. not (is_redirect k)) source true true (ap not is) from_it)))
            (IsPermutation-append_left (new ∷ []) t.others (others_from (store_of kept) source) t.all_others);
      }
  put source r false is from_it t =
      record {
        redirects = t.redirects;
        others = t.others;
        is = t.is;
        all_redirects =
            subst (IsPermutation t.redirects)
            (sym (stays_out (from is_redirect source) kept.visits new
            (by_parts is_redirect source r false is from_it ∙ none r))) t.all_redirects;
        all_others =
            subst (IsPermutation t.others)
            (sym (stays_out (from (λ k. not (is_redirect k)) source) kept.visits new
            (by_parts (λ k. not (is_redirect k)) source (not r) false (ap not is) from_it ∙ none (not r))))
            t.all_others;
      }
    where
      none : (b : Bool) → (b && false) ≡ false
      none true = refl
      none false = refl

  pub visit_added : AreRows kept targets → has_page kept row.page ≡ true → IsDate row.date
      → IfSome row.source (λ id. has_visit kept id ≡ true) → kept.ids.visit < end_of_ids
      → live_slots (store_of kept) < slot_limit → AreRows whole (with_target new targets)
  visit_added h there in_range source room fits =
      record {
        well = well_added there in_range source room fits h.well;
        targeted =
            λ id. put id (is_redirect row.transition) (is_source id row.source) refl refl (h.targeted id);
        titles = h.titles;
        own = h.own;
        children = h.children;
        once = h.once;
      }

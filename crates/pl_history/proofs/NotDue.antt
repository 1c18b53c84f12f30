-- A page that is not due by a day has the same frecency then, the same due day and the same view.
use Rattle.std.proofs.Common.{◌≡◌, ◌==◌, ◌+◌, ◌-◌, ◌*◌, ◌<◌, ◌≤◌, ◌∙◌, ◌⊎◌, inl, inr, false, ℕ, List, [], ◌∷◌}
use Rattle.std.proofs.Common.{Option, Some, None, IfSome, ap, arith, length, map, suc, sym, zero}
use Rattle.std.specs.List.{AllByRecursion}
use Rattle.std.proofs.lemmas.Bool.{cases_lt, eqb-true, false≢true, or_parts}
use Rattle.std.proofs.lemmas.List.Elements.{All-from_recursion}
use Rattle.pl_base.specs.declared.date.Day.{Day}
use Rattle.pl_base.specs.declared.date.Micros.{Micros}
use Rattle.pl_base.specs.declared.id.PageId.{PageId}
use Rattle.pl_base.specs.declared.view.View.{View}
use Rattle.pl_base.specs.Address.{is_place_url}
use Rattle.pl_base.specs.Date.{IsDay}
use Rattle.pl_base.specs.Days.{on_day}
use Rattle.pl_base.specs.Due.{IsDue, some_weighs_anew, weighs_anew, weight_on}
use Rattle.pl_base.specs.Frecency.{frecency_from, frecency_of, points, visit_bonus}
use Rattle.pl_base.specs.Marks.{is_referenced, visit_count}
use Rattle.pl_base.specs.Store.{Page, Store, Visit}
use Rattle.pl_base.specs.View.{IsViewOf}
use Rattle.pl_base.specs.Visits.{sample_of}
use Rattle.pl_base.proofs.ListLaws.{everyone, from_map, sum_by-agree, weaker}
use Rattle.pl_base.proofs.LookUps.{both}
use Rattle.pl_base.proofs.Truths.{not_false}

-- the dates of the page's sample
abbrev pub sample_dates : Store → PageId → List Micros
sample_dates store page = map (λ (v : Visit). v.date) (sample_of store page)

-- no sampled visit of the page weighs anew on a day behind the store's, up to this one
abbrev pub IsStill : Day → Store → PageId → Type 0
IsStill day store page =
    (other : ℕ) → store.day.0 < other → other ≤ day.0 → some_weighs_anew (sample_dates store page) other ≡ false

-- so it is where the due day lies behind
pub still_by_due : (day : Day) (store : Store) (page : PageId) (due : Option Day) → IsDay day → IsDue store page due
    → IfSome due (λ d. day.0 < d.0) → IsStill day store page
still_by_due day store page None within none later other above up_to = none other above (omega (arith, within, up_to))
still_by_due day store page (Some d) within first later other above up_to =
    first.first other above (omega (arith, later, up_to))

-- ---- weights

-- none of the visits weighs anew on a day
weigh_same : (dates : List Micros) (day : ℕ) → some_weighs_anew dates day ≡ false
    → AllByRecursion (λ (date : Micros). weight_on date day ≡ weight_on date (day - 1)) dates
weigh_same [] day none = tt
weigh_same (date ∷ dates) day none =
    let parts = or_parts (weighs_anew day date) (some_weighs_anew dates day) none in (
      eqb-true (weight_on date day) (weight_on date (day - 1))
          (not_false (weight_on date day == weight_on date (day - 1)) parts.0),
      weigh_same dates day parts.1,
    )

-- nor on some days one after another
weigh_on : (dates : List Micros) (from n day : ℕ) → day ≡ from + n
    → ((other : ℕ) → from < other → other ≤ day → some_weighs_anew dates other ≡ false)
    → AllByRecursion (λ (date : Micros). weight_on date day ≡ weight_on date from) dates
weigh_on dates from zero day is none =
    everyone (λ (date : Micros). weight_on date day ≡ weight_on date from) dates
    (λ date. ap (weight_on date) (omega (arith, is)))
weigh_on dates from (suc n) day is none =
    both (λ (date : Micros). weight_on date day ≡ weight_on date (day - 1))
    (λ (date : Micros). weight_on date (day - 1) ≡ weight_on date from)
    (λ (date : Micros). weight_on date day ≡ weight_on date from) dates (λ date one rest. one ∙ rest)
    (weigh_same dates day (none day (omega (arith, is)) (omega arith)))
    (weigh_on dates from n (day - 1) (omega (arith, is)) (λ other above up_to.
    none other above (omega (arith, up_to))))

module _ (day : Day) (store : Store) (later : store.day.0 ≤ day.0) where
  weights : (page : PageId) → IsStill day store page
      → AllByRecursion (λ (v : Visit). weight_on v.date day.0 ≡ weight_on v.date store.day.0) (sample_of store page)
  weights page still =
      from_map (λ (date : Micros). weight_on date day.0 ≡ weight_on date store.day.0) (λ (v : Visit). v.date)
      (sample_of store page)
      (weigh_on (sample_dates store page) store.day.0 (day.0 - store.day.0) day.0 (omega (arith, later)) still)

  -- ---- what the page has on the day

  pub frecency_still : (p : Page) → IsStill day store p.id → frecency_of (on_day day store) p ≡ frecency_of store p
  frecency_still p still =
      let sample : List Visit = sample_of store p.id in
      let on : Day → Visit → ℕ = λ d v. points d v.date (visit_bonus store v) in
      ap (λ (total : ℕ). frecency_from total (length sample) (visit_count store p.id) (is_referenced store p.id) p.typed
      (is_place_url p.url))
      (sum_by-agree (on day) (on store.day) sample
      (All-from_recursion (λ (v : Visit). on day v ≡ on store.day v) sample
      (weaker (λ (v : Visit). weight_on v.date day.0 ≡ weight_on v.date store.day.0)
      (λ (v : Visit). on day v ≡ on store.day v) sample (λ v same. ap (λ w. w * visit_bonus store v) same)
      (weights p.id still))))

  pub due_still : (page : PageId) (due : Option Day) → IsStill day store page → IsDue store page due
      → IsDue (on_day day store) page due
  due_still page None still none = λ other above within. none other (omega (arith, later, above)) within
  due_still page (Some d) still first =
      record {
        later = behind (cases_lt day.0 d.0);
        within = first.within;
        found = first.found;
        first = λ other above before. first.first other (omega (arith, later, above)) before;
      }
    where
      behind : (day.0 < d.0) ⊎ (d.0 ≤ day.0) → day.0 < d.0
      behind (inl before) = before
      behind (inr up_to) = absurd (false≢true (sym (still d.0 first.later up_to) ∙ first.found))

  pub view_still : (p : Page) (view : View) → IsStill day store p.id → IsViewOf store p view
      → IsViewOf (on_day day store) p view
  view_still p view still is =
      record {
        id = is.id;
        url = is.url;
        title = is.title;
        mark_title = is.mark_title;
        tags = is.tags;
        origin = is.origin;
        frecency = is.frecency ∙ sym (frecency_still p still);
        count = is.count;
        last = is.last;
        due = due_still p.id view.due still is.due;
        typed = is.typed;
        hidden = is.hidden;
        bookmarked = is.bookmarked;
        referenced = is.referenced;
      }

-- What the latest visit to a page tells of its visits within the times of a query.
use Rattle.std.proofs.Common.{◌≡◌, ◌∙◌, ◌≤◌, ◌&&◌, ◌||◌, Bool, true, false, List, [], ◌∷◌, Option, Some, None, ap, refl, sym}
use Rattle.std.specs.List.{AllByRecursion, list_any}
use Rattle.std.proofs.lemmas.Bool.{false_from_ne_true, false≢true, not-true}
use Rattle.std.proofs.lemmas.Option.{same_Some}
use Rattle.pl_base.specs.declared.date.Micros.{Micros}
use Rattle.pl_base.specs.declared.view.View.{View}
use Rattle.pl_base.specs.Marks.{last_date_of}
use Rattle.pl_base.specs.Rows.{IsWellKept, Kept, page_visits, store_of}
use Rattle.pl_base.specs.Store.{Store, Visit}
use Rattle.pl_marks.proofs.DatedVisits.{visits_in_order}
use Rattle.pl_conditions.specs.Conditions.{in_times, is_not_after, is_not_before}
use Rattle.pl_dated.proofs.DatedPages.{first_date, no_visits, not_before_on, up_to_first}
use Rattle.pl_place.specs.declared.query.Query.{Query}
use Rattle.pl_query.specs.QueryAnswer.{has_visit_in_times}
use Rattle.pl_query.proofs.PageParts.{NoneInTimes, any_of_page}
use Rattle.pl_timed.specs.Timed.{is_before, is_within}

module _ (store : Store) (q : Query) where
  abbrev within : Visit → Bool
  within v = in_times store q v.date

  -- the date is before the times
  abbrev pub IsEarly : Micros → Type 0
  IsEarly date = is_not_before store q.begin_time q.begin_ref date ≡ false

  early_out : (date : Micros) → IsEarly date → in_times store q date ≡ false
  early_out date early =
      ap (λ (b : Bool). b && is_not_after store q.end_time q.end_ref date) early

  -- visits of a date before the times, or of earlier ones
  pub none_behind : (date : Micros) → IsEarly date → (visits : List Visit)
      → AllByRecursion (λ (v : Visit). v.date.0 ≤ date.0) visits → NoneInTimes store q visits
  none_behind date early [] all = refl
  none_behind date early (v ∷ visits) all =
      ap (λ (b : Bool). b || list_any within visits) (early_out v.date earlier)
      ∙ none_behind date early visits all.1
    where
      earlier : IsEarly v.date
      earlier =
          false_from_ne_true (is_not_before store q.begin_time q.begin_ref v.date)
          (λ late.
          false≢true (sym early ∙ not_before_on store q.begin_time q.begin_ref v.date date all.0 late))

  first_in : (visits : List Visit) (date : Micros) → first_date visits ≡ Some date → in_times store q date ≡ true
      → list_any within visits ≡ true
  first_in [] date none is = absurd (cc)
  first_in (v ∷ visits) date first is =
      ap (λ (b : Bool). b || list_any within visits)
      (ap (λ (d : Micros). in_times store q d) (same_Some v.date date first) ∙ is)

module _ (kept : Kept) (q : Query) (h : IsWellKept kept) (view : View)
    (of : view.last ≡ last_date_of (store_of kept) view.id) where
  abbrev store : Store
  store = store_of kept

  -- the latest date is before the times
  pub none_visited : is_before store q view.last ≡ true → has_visit_in_times store q view.id ≡ false
  none_visited before = sym (any_of_page kept q view.id) ∙ choose view.last refl before
    where
      choose : (o : Option Micros) → view.last ≡ o → is_before store q o ≡ true
          → NoneInTimes store q (page_visits kept view.id)
      choose None none _ =
          ap (list_any (within store q)) (no_visits (page_visits kept view.id) (sym of ∙ none))
      choose (Some date) is early =
          none_behind store q date (not-true (is_not_before store q.begin_time q.begin_ref date) early)
          (page_visits kept view.id)
          (up_to_first (page_visits kept view.id) (visits_in_order kept view.id h) date (sym of ∙ is))

  -- the latest date lies within the times
  pub latest_visited : is_within store q view.last ≡ true → has_visit_in_times store q view.id ≡ true
  latest_visited inside = sym (any_of_page kept q view.id) ∙ choose view.last refl inside
    where
      choose : (o : Option Micros) → view.last ≡ o → is_within store q o ≡ true
          → list_any (within store q) (page_visits kept view.id) ≡ true
      choose None none inside = absurd (false≢true inside)
      choose (Some date) is inside = first_in store q (page_visits kept view.id) date (sym of ∙ is) inside

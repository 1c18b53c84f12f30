-- The walk along the visits to a page, with the visits that join on it.
use Rattle.std.proofs.Common.{◌≡◌, ◌∙◌, ◌++◌, ◌<◌, true, List, [], ◌∷◌, Option, Some, ap, filter, is_some, length, subst, sym, ℕ}
use Rattle.std.specs.Option.{IsSome, option_map}
use Rattle.std.proofs.lemmas.Option.{same_Some}
use Rattle.pl_base.specs.declared.date.Micros.{Micros}
use Rattle.pl_base.specs.declared.id.VisitId.{VisitId}
use Rattle.pl_base.specs.declared.row.VisitRow.{VisitRow}
use Rattle.pl_base.specs.declared.view.View.{View}
use Rattle.pl_base.specs.Rows.{IsWellKept, Kept, older_visit, page_visits, row_of, store_of, visit_at}
use Rattle.pl_base.proofs.VisitOrder.{InOrder}
use Rattle.pl_base.proofs.VisitsRun.{visit_here, visit_names, visits_run}
use Rattle.pl_base.proofs.Walk.{StandsAt, Walk, goes_on, left, nears, stands}
use Rattle.pl_marks.proofs.DatedVisits.{behind_in_order, visits_in_order}
use Rattle.pl_conditions.specs.Conditions.{in_times}
use Rattle.pl_place.specs.declared.query.Query.{Query}
use Rattle.pl_dated.specs.declared.first.First.{First}
use Rattle.pl_dated.specs.Latest.{Keeps, Seen}
use Rattle.pl_dated.specs.Listed.{is_over}
use Rattle.pl_dated.proofs.OverVisits.{Joins, one_joined, over_joined}

-- the visits in front have joined
abbrev pub OnVisits : Kept → Query → View → First → First → Option VisitId → Type 0
OnVisits kept q view old now next =
    Walk visit_names (page_visits kept view.id) (Joins kept q view old now) next

module _ (kept : Kept) (q : Query) (view : View) (h : IsWellKept kept) (old now : First) (next : Option VisitId)
    (id : VisitId) (w : OnVisits kept q view old now next) (at : next ≡ Some id) where
  here : StandsAt visit_names (page_visits kept view.id) (Joins kept q view old now) id
  here = stands visit_names (page_visits kept view.id) (Joins kept q view old now) next id w at

  found : visit_at kept id ≡ Some here.element
  found = visit_here kept view.id (Joins kept q view old now) id h here

  module _ (told : Option VisitRow) (row_is : told ≡ option_map row_of (visit_at kept id)) where
    pub visit_there : IsSome told
    visit_there = ap is_some (row_is ∙ ap (option_map row_of) found)

    module _ (row : VisitRow) (got : told ≡ Some row) where
      date_is : row.date ≡ here.element.date
      date_is =
          ap (λ (r : VisitRow). r.date)
          (same_Some row (row_of here.element) (sym got ∙ row_is ∙ ap (option_map row_of) found))

      -- the visits from here on are over
      pub over_here : is_over (store_of kept) q now.floor row.date ≡ true
          → Joins kept q view old now (page_visits kept view.id)
      over_here over =
          over_joined kept q view old now here.front here.element here.rest here.whole
          (behind_in_order here.front here.element here.rest (subst InOrder here.whole (visits_in_order kept view.id h)))
          (subst (λ (date : Micros). is_over (store_of kept) q now.floor date ≡ true) date_is over) here.so_far

      -- this visit joins
      pub joins_here : (new : First) (further : Option VisitId)
          → ((most : ℕ) (visits : List Seen) → Keeps most now visits
          → Keeps most new (visits
          ++ filter (λ (s : Seen). in_times (store_of kept) q s.date)
          (record { view = view; visit = id; date = row.date } ∷ [])))
          → further ≡ older_visit kept id → OnVisits kept q view old new further
      joins_here new further adds is =
          goes_on visit_names (older_visit kept) (page_visits kept view.id) (Joins kept q view old now)
          (Joins kept q view old new) id further (visits_run kept view.id h) here is
          (one_joined kept q view old now new here.front here.element
          (record { view = view; visit = id; date = row.date })
          (λ i. record { view = view; visit = sym here.is i; date = date_is i }) here.so_far adds)

  pub nearer : (further : Option VisitId) → further ≡ older_visit kept id
      → left (older_visit kept) (length (page_visits kept view.id)) further
      < left (older_visit kept) (length (page_visits kept view.id)) next
  nearer further is =
      nears visit_names (older_visit kept) (page_visits kept view.id) (Joins kept q view old now) next further id
      (visits_run kept view.id h) here at is

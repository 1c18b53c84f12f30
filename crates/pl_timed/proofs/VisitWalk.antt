-- The walk along the visits to a page, none of which lies within the times so far.
use Rattle.std.proofs.Common.{◌≡◌, ◌≢◌, ◌∙◌, ◌<◌, ◌||◌, Bool, true, false, List, [], ◌∷◌, Option, Some, ap}
use Rattle.std.proofs.Common.{arith, is_some, length, refl, subst, sym}
use Rattle.std.specs.List.{list_any}
use Rattle.std.specs.Option.{IsSome, option_and_then, option_map}
use Rattle.std.proofs.lemmas.List.Folds.{list_any-append}
use Rattle.std.proofs.lemmas.Option.{same_Some}
use Rattle.pl_base.specs.declared.date.Micros.{Micros}
use Rattle.pl_base.specs.declared.id.PageId.{PageId}
use Rattle.pl_base.specs.declared.id.VisitId.{VisitId}
use Rattle.pl_base.specs.declared.row.VisitRow.{VisitRow}
use Rattle.pl_base.specs.Marks.{last_date_of}
use Rattle.pl_base.specs.Rows.{IsWellKept, Kept, first_id, older_visit, page_visits, row_of, store_of, visit_at}
use Rattle.pl_base.specs.Store.{Visit}
use Rattle.pl_base.proofs.PagesRun.{there}
use Rattle.pl_base.proofs.VisitOrder.{InOrder}
use Rattle.pl_base.proofs.VisitsRun.{visit_here, visit_names, visits_run}
use Rattle.pl_base.proofs.Walk.{StandsAt, Walk, ends, goes_on, left, nears, stands, starts}
use Rattle.pl_marks.proofs.DatedVisits.{behind_in_order, visits_in_order}
use Rattle.pl_conditions.specs.Conditions.{in_times}
use Rattle.pl_dated.proofs.DatedPages.{first_date}
use Rattle.pl_place.specs.declared.query.Query.{Query}
use Rattle.pl_query.specs.QueryAnswer.{has_visit_in_times}
use Rattle.pl_query.proofs.PageParts.{NoneInTimes, any_of_page, none_more}
use Rattle.pl_timed.proofs.LatestTells.{IsEarly, none_behind}
use Rattle.pl_timed.specs.Timed.{is_within}

-- none of the visits in front lies within the times
abbrev pub OnVisits : Kept → Query → PageId → Option VisitId → Type 0
OnVisits kept q page next =
    Walk visit_names (page_visits kept page) (NoneInTimes (store_of kept) q) next

module _ (kept : Kept) (q : Query) (page : PageId) (h : IsWellKept kept) (next : Option VisitId) where
  -- behind the latest, which does not lie within the times
  pub behind_latest : is_within (store_of kept) q (last_date_of (store_of kept) page) ≡ false
      → next ≡ option_and_then (older_visit kept) (first_id (page_visits kept page)) → OnVisits kept q page next
  behind_latest outside is = choose (page_visits kept page) refl
    where
      choose : (visits : List Visit) → page_visits kept page ≡ visits → OnVisits kept q page next
      choose [] none =
          starts visit_names (page_visits kept page) (NoneInTimes (store_of kept) q) next
          (is ∙ ap (option_and_then (older_visit kept)) (ap first_id none) ∙ sym (ap first_id none)) refl
      choose (v ∷ visits) some =
          goes_on visit_names (older_visit kept) (page_visits kept page) (NoneInTimes (store_of kept) q)
          (NoneInTimes (store_of kept) q) v.id next (visits_run kept page h)
          (record { front = []; element = v; rest = visits; whole = some; is = refl; so_far = refl })
          (is ∙ ap (option_and_then (older_visit kept)) (ap first_id some))
          (none_more (store_of kept) q [] v refl
          (sym (ap (is_within (store_of kept) q) (ap first_date some)) ∙ outside))

  -- none of all
  pub none_at_end : OnVisits kept q page next → ((id : VisitId) → next ≢ Some id)
      → has_visit_in_times (store_of kept) q page ≡ false
  none_at_end w none =
      sym (any_of_page kept q page)
      ∙ ends visit_names (page_visits kept page) (NoneInTimes (store_of kept) q) next w none

  module _ (id : VisitId) (w : OnVisits kept q page next) (at : next ≡ Some id) where
    here : StandsAt visit_names (page_visits kept page) (NoneInTimes (store_of kept) q) id
    here = stands visit_names (page_visits kept page) (NoneInTimes (store_of kept) q) next id w at

    found : visit_at kept id ≡ Some here.element
    found = visit_here kept page (NoneInTimes (store_of kept) q) id h here

    module _ (told : Option VisitRow) (row_is : told ≡ option_map row_of (visit_at kept id)) where
      pub visit_there : IsSome told
      visit_there = ap is_some (row_is ∙ ap (option_map row_of) found)

      module _ (row : VisitRow) (got : told ≡ Some row) where
        date_is : row.date ≡ here.element.date
        date_is =
            ap (λ (r : VisitRow). r.date)
            (same_Some row (row_of here.element) (sym got ∙ row_is ∙ ap (option_map row_of) found))

        pub in_here : in_times (store_of kept) q row.date ≡ true → has_visit_in_times (store_of kept) q page ≡ true
        in_here is =
            sym (any_of_page kept q page)
            ∙ ap (list_any (λ (v : Visit). in_times (store_of kept) q v.date)) here.whole
            ∙ there (λ (v : Visit). in_times (store_of kept) q v.date) here.front here.element here.rest
            (subst (λ (date : Micros). in_times (store_of kept) q date ≡ true) date_is is)

        -- the visit is before the times, and so are those behind it
        pub early_here : IsEarly (store_of kept) q row.date → has_visit_in_times (store_of kept) q page ≡ false
        early_here early =
            sym (any_of_page kept q page)
            ∙ ap (list_any (λ (v : Visit). in_times (store_of kept) q v.date)) here.whole
            ∙ list_any-append (λ (v : Visit). in_times (store_of kept) q v.date) here.front (here.element ∷ here.rest)
            ∙ ap (λ (b : Bool). b || list_any (λ (v : Visit). in_times (store_of kept) q v.date) (here.element ∷ here.rest))
            here.so_far
            ∙ none_behind (store_of kept) q here.element.date
            (subst (IsEarly (store_of kept) q) date_is early) (here.element ∷ here.rest) (
              omega arith,
              behind_in_order here.front here.element here.rest (subst InOrder here.whole (visits_in_order kept page h)),
            )

        pub goes_further : (further : Option VisitId) → in_times (store_of kept) q row.date ≡ false
            → further ≡ older_visit kept id → OnVisits kept q page further
        goes_further further outside is =
            goes_on visit_names (older_visit kept) (page_visits kept page) (NoneInTimes (store_of kept) q)
            (NoneInTimes (store_of kept) q) id further (visits_run kept page h) here is
            (none_more (store_of kept) q here.front here.element here.so_far
            (subst (λ (date : Micros). in_times (store_of kept) q date ≡ false) date_is outside))

    pub nearer : (further : Option VisitId) → further ≡ older_visit kept id
        → left (older_visit kept) (length (page_visits kept page)) further
        < left (older_visit kept) (length (page_visits kept page)) next
    nearer further is =
        nears visit_names (older_visit kept) (page_visits kept page) (NoneInTimes (store_of kept) q) next further id
        (visits_run kept page h) here at is

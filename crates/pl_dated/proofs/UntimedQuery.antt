-- What a query takes without regard to its times.
use Rattle.std.proofs.Common.{◌≡◌, ◌∙◌, ◌&&◌, ◌==◌, Bool, true, false, List, [], None, ap, is_some, length, refl, sym}
use Rattle.std.specs.List.{Contains}
use Rattle.pl_base.specs.declared.id.ItemId.{ItemId}
use Rattle.pl_base.specs.declared.transition.Transition.{Transition}
use Rattle.pl_base.specs.declared.view.View.{View}
use Rattle.pl_base.specs.Good.{IsGood}
use Rattle.pl_base.specs.Marks.{last_date_of}
use Rattle.pl_base.specs.Store.{Page, Store}
use Rattle.pl_base.specs.View.{IsViewOf}
use Rattle.pl_conditions.specs.Conditions.{history_holds}
use Rattle.pl_place.specs.declared.kinds.QueryType.TheVariants.{History}
use Rattle.pl_place.specs.declared.kinds.ResultType.TheVariants.{Pages}
use Rattle.pl_place.specs.declared.kinds.TimeRef.TheVariants.{Epoch}
use Rattle.pl_place.specs.declared.query.Query.{Query}
use Rattle.pl_place.specs.declared.sort.Sort.TheVariants.{Unsorted}
use Rattle.pl_query.specs.Decides.{decides, is_watchable}
use Rattle.pl_query.proofs.ViewsDecide.{decided, last_told}

-- the query without its times, for pages in no order
abbrev pub untimed : Query → Query
untimed q =
    record {
      begin_time = None;
      begin_ref = Epoch;
      end_time = None;
      end_ref = Epoch;
      terms = q.terms;
      min_visits = q.min_visits;
      max_visits = q.max_visits;
      only_bookmarked = q.only_bookmarked;
      domain_is_host = q.domain_is_host;
      domain = q.domain;
      uri = q.uri;
      parents = q.parents;
      tags = q.tags;
      not_tags = q.not_tags;
      transitions = q.transitions;
      sort = Unsorted;
      result_type = Pages;
      query_type = History;
      include_hidden = q.include_hidden;
      max_results = q.max_results;
      exclude_queries = q.exclude_queries;
      begin_form = refl;
      end_form = refl;
      terms_form = q.terms_form;
      min_form = q.min_form;
      max_form = q.max_form;
      host_form = q.host_form;
      domain_form = q.domain_form;
      parents_form = q.parents_form;
      tags_form = q.tags_form;
      not_tags_form = q.not_tags_form;
      transitions_form = q.transitions_form;
    }

-- a query without transitions and folders takes the view of a page where the page has visits and the
-- conditions hold of it
pub decides_visited : (store : Store) (q : Query) (p : Page) (v : View) → q.transitions ≡ [] → q.parents ≡ []
    → IsGood store → Contains store.pages p → IsViewOf store p v
    → decides q v ≡ (is_some (last_date_of store p.id) && history_holds store q p)
decides_visited store q p v no_transitions no_parents good among is =
    decided store (untimed q) p v good among watchable is
    ∙ ap (λ (b : Bool). b && history_holds store q p) (sym (last_told store (untimed q) p.id refl refl))
  where
    both : (a b : Bool) → a ≡ true → b ≡ true → (true && true && true && a && b && true) ≡ true
    both true true one two = refl
    both true false one two = absurd (cc)
    both false b one two = absurd (cc)

    watchable : is_watchable (untimed q) ≡ true
    watchable =
        both (length q.transitions == 0) (length q.parents == 0)
        (ap (λ (ts : List Transition). length ts == 0) no_transitions)
        (ap (λ (ps : List ItemId). length ps == 0) no_parents)

-- The view of a page that a query of history may show decides what is asked of the page.
use Rattle.std.proofs.Common.{◌≡◌, ◌∙◌, ◌&&◌, ◌||◌, ◌==◌, Bool, true, false, [], None, Some, ap, is_some}
use Rattle.std.proofs.Common.{not, refl, sym}
use Rattle.std.specs.List.{Contains}
use Rattle.std.proofs.lemmas.Bool.{and_parts}
use Rattle.pl_base.specs.declared.id.PageId.{PageId}
use Rattle.pl_base.specs.declared.view.View.{View}
use Rattle.pl_base.specs.Good.{IsGood}
use Rattle.pl_base.specs.Rows.{Kept, KeptPage, page_at, store_of}
use Rattle.pl_base.specs.Store.{Page, Store}
use Rattle.pl_base.specs.View.{IsViewOf}
use Rattle.pl_base.proofs.ListLaws.{from_map}
use Rattle.pl_base.proofs.LookUps.{found_holds}
use Rattle.pl_base.proofs.SortLaws.{members}
use Rattle.pl_conditions.specs.Conditions.{page_holds}
use Rattle.pl_place.specs.declared.kinds.QueryType.TheVariants.{History}
use Rattle.pl_place.specs.declared.kinds.ResultType.TheVariants.{Pages}
use Rattle.pl_place.specs.declared.kinds.TimeRef.TheVariants.{Epoch}
use Rattle.pl_place.specs.declared.query.Query.{Query}
use Rattle.pl_place.specs.declared.sort.Sort.TheVariants.{Unsorted}
use Rattle.pl_query.specs.Decides.{decides}
use Rattle.pl_query.proofs.ViewsDecide.{decided, last_told}

-- the query for pages of history, without its times, transitions and folders
abbrev for_pages : Query → Query
for_pages q =
    record {
      begin_time = None;
      begin_ref = Epoch;
      end_time = None;
      end_ref = Epoch;
      terms = q.terms;
      min_visits = q.min_visits;
      max_visits = q.max_visits;
      only_bookmarked = q.only_bookmarked;
      domain_is_host = q.domain_is_host;
      domain = q.domain;
      uri = q.uri;
      parents = [];
      tags = q.tags;
      not_tags = q.not_tags;
      transitions = [];
      sort = Unsorted;
      result_type = Pages;
      query_type = History;
      include_hidden = q.include_hidden;
      max_results = q.max_results;
      exclude_queries = q.exclude_queries;
      begin_form = refl;
      end_form = refl;
      terms_form = q.terms_form;
      min_form = q.min_form;
      max_form = q.max_form;
      host_form = q.host_form;
      domain_form = q.domain_form;
      parents_form = refl;
      tags_form = q.tags_form;
      not_tags_form = q.not_tags_form;
      transitions_form = refl;
    }

page_decided : (store : Store) (q : Query) (p : Page) (v : View) → IsGood store → Contains store.pages p
    → IsViewOf store p v → (is_some v.last && (q.include_hidden || not v.hidden)) ≡ true
    → decides q v ≡ page_holds store q p
page_decided store q p v good among of shown =
    decided store (for_pages q) p v good among refl of
    ∙ rest (page_holds store q p) _ _
    (sym (last_told store (for_pages q) p.id refl refl) ∙ sym (ap is_some of.last)
    ∙ (and_parts (is_some v.last) (q.include_hidden || not v.hidden) shown).0)
    (ap (λ (b : Bool). q.include_hidden || not b) (sym of.hidden)
    ∙ (and_parts (is_some v.last) (q.include_hidden || not v.hidden) shown).1)
  where
    rest : (holds visited listed : Bool) → visited ≡ true → listed ≡ true
        → (visited && (holds && true && true && listed)) ≡ holds
    rest true true true one two = refl
    rest false true true one two = refl
    rest holds false listed one two = absurd (cc)
    rest holds true false one two = absurd (cc)

pub shown_holds : (kept : Kept) (q : Query) (id : PageId) (p : KeptPage) (v : View) → IsGood (store_of kept)
    → page_at kept id ≡ Some p → IsViewOf (store_of kept) p.page v
    → (is_some v.last && (q.include_hidden || not v.hidden)) ≡ true
    → decides q v ≡ page_holds (store_of kept) q p.page
shown_holds kept q id p v good at of shown =
    page_decided (store_of kept) q p.page v good
    (found_holds (λ (k : KeptPage). Contains (store_of kept).pages k.page)
    (λ (k : KeptPage). k.page.id.0 == id.0) kept.pages p
    (from_map (Contains (store_of kept).pages) (λ (k : KeptPage). k.page) kept.pages (members (store_of kept).pages)) at)
    of shown

-- A text reads as one query.
use Rattle.std.proofs.Common.{◌≡◌, ◌∙◌, ◌==◌, ◌&&◌, ℕ, Bool, true, not, List, ap, length, subst, sym}
use Rattle.std.specs.Prelude.{is_some}
use mathlib.Core.Bool.{Bool-set}
use mathlib.Core.HLevel.{is_prop→PathP}
use mathlib.Core.Path.{PathP}
use Rattle.pl_place.specs.declared.key.Key.TheVariants as key
use Rattle.pl_place.specs.declared.query.Query.{Query}
use Rattle.pl_place.specs.Canonical.{ReadsAlone}
use Rattle.pl_place.specs.PlaceText.{Reads, is_told, pieces_of, told, with_time}
use Rattle.pl_words.specs.TagLists.{each_once, is_same_tag}
use Rattle.pl_place.specs.QueryForm.{are_terms, ascend, has_domain, has_tags, has_time, is_count, is_domain}
use Rattle.pl_place.specs.QueryForm.{is_same_item}
use Rattle.pl_place.specs.Values.{time_ref_of}

-- two queries that a text reads as agree in each field
record AgreesWith (r q : Query) : Type 0 where
  begin_time : r.begin_time ≡ q.begin_time
  begin_ref : r.begin_ref ≡ q.begin_ref
  end_time : r.end_time ≡ q.end_time
  end_ref : r.end_ref ≡ q.end_ref
  terms : r.terms ≡ q.terms
  min_visits : r.min_visits ≡ q.min_visits
  max_visits : r.max_visits ≡ q.max_visits
  only_bookmarked : r.only_bookmarked ≡ q.only_bookmarked
  domain_is_host : r.domain_is_host ≡ q.domain_is_host
  domain : r.domain ≡ q.domain
  uri : r.uri ≡ q.uri
  parents : r.parents ≡ q.parents
  tags : r.tags ≡ q.tags
  not_tags : r.not_tags ≡ q.not_tags
  transitions : r.transitions ≡ q.transitions
  sort : r.sort ≡ q.sort
  result_type : r.result_type ≡ q.result_type
  query_type : r.query_type ≡ q.query_type
  include_hidden : r.include_hidden ≡ q.include_hidden
  max_results : r.max_results ≡ q.max_results
  exclude_queries : r.exclude_queries ≡ q.exclude_queries

-- a test that is true has one proof
one_proof : (b : 𝕀 → Bool) (x : b 0 ≡ true) (y : b 1 ≡ true) → PathP (λ j. b j ≡ true) x y
one_proof b x y = is_prop→PathP (λ j. b j ≡ true) (λ j. Bool-set (b j) true) x y

-- so queries that agree are one
one_query : (r q : Query) → AgreesWith r q → r ≡ q
one_query r q e i =
    record {
      begin_time = e.begin_time i;
      begin_ref = e.begin_ref i;
      end_time = e.end_time i;
      end_ref = e.end_ref i;
      terms = e.terms i;
      min_visits = e.min_visits i;
      max_visits = e.max_visits i;
      only_bookmarked = e.only_bookmarked i;
      domain_is_host = e.domain_is_host i;
      domain = e.domain i;
      uri = e.uri i;
      parents = e.parents i;
      tags = e.tags i;
      not_tags = e.not_tags i;
      transitions = e.transitions i;
      sort = e.sort i;
      result_type = e.result_type i;
      query_type = e.query_type i;
      include_hidden = e.include_hidden i;
      max_results = e.max_results i;
      exclude_queries = e.exclude_queries i;
      begin_form = one_proof (λ j. has_time (e.begin_time j) (e.begin_ref j)) r.begin_form q.begin_form i;
      end_form = one_proof (λ j. has_time (e.end_time j) (e.end_ref j)) r.end_form q.end_form i;
      terms_form = one_proof (λ j. are_terms (e.terms j)) r.terms_form q.terms_form i;
      min_form = one_proof (λ j. is_count (e.min_visits j)) r.min_form q.min_form i;
      max_form = one_proof (λ j. is_count (e.max_visits j)) r.max_form q.max_form i;
      host_form = one_proof (λ j. has_domain (e.domain j) (e.domain_is_host j)) r.host_form q.host_form i;
      domain_form = one_proof (λ j. is_domain (e.domain j)) r.domain_form q.domain_form i;
      parents_form = one_proof (λ j. each_once is_same_item (e.parents j)) r.parents_form q.parents_form i;
      tags_form = one_proof (λ j. each_once is_same_tag (e.tags j)) r.tags_form q.tags_form i;
      not_tags_form = one_proof (λ j. has_tags (e.tags j) (e.not_tags j)) r.not_tags_form q.not_tags_form i;
      transitions_form = one_proof (λ j. ascend (e.transitions j)) r.transitions_form q.transitions_form i;
    }

agrees : (text : List ℕ) (r q : Query) → Reads text r → Reads text q → AgreesWith r q
agrees text r q one other =
    record {
      begin_time = one.begin_time ∙ sym other.begin_time;
      begin_ref =
          one.begin_ref ∙ ap (λ x. with_time x (told time_ref_of key.BeginTimeRef (pieces_of text))) (one.begin_time
          ∙ sym other.begin_time)
          ∙ sym other.begin_ref;
      end_time = one.end_time ∙ sym other.end_time;
      end_ref =
          one.end_ref ∙ ap (λ x. with_time x (told time_ref_of key.EndTimeRef (pieces_of text))) (one.end_time
          ∙ sym other.end_time)
          ∙ sym other.end_ref;
      terms = one.terms ∙ sym other.terms;
      min_visits = one.min_visits ∙ sym other.min_visits;
      max_visits = one.max_visits ∙ sym other.max_visits;
      only_bookmarked = one.only_bookmarked ∙ sym other.only_bookmarked;
      domain_is_host =
          one.domain_is_host ∙ ap (λ x. is_some x && is_told key.DomainIsHost (pieces_of text)) (one.domain
          ∙ sym other.domain)
          ∙ sym other.domain_is_host;
      domain = one.domain ∙ sym other.domain;
      uri = one.uri ∙ sym other.uri;
      parents = one.parents ∙ sym other.parents;
      tags = one.tags ∙ sym other.tags;
      not_tags =
          one.not_tags ∙ ap (λ x. not (length x == 0) && is_told key.NotTags (pieces_of text)) (one.tags
          ∙ sym other.tags)
          ∙ sym other.not_tags;
      transitions = one.transitions ∙ sym other.transitions;
      sort = one.sort ∙ sym other.sort;
      result_type = one.result_type ∙ sym other.result_type;
      query_type = one.query_type ∙ sym other.query_type;
      include_hidden = one.include_hidden ∙ sym other.include_hidden;
      max_results = one.max_results ∙ sym other.max_results;
      exclude_queries = one.exclude_queries ∙ sym other.exclude_queries;
    }

-- a text that reads as a query reads as no other
pub reads_alone : (q : Query) (text : List ℕ) → Reads text q → ReadsAlone q text
reads_alone q text reads r =
    (λ other. one_query r q (agrees text r q other reads), λ is. subst (Reads text) (sym is) reads)

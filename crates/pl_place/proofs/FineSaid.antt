-- What a query says is of the form of each key.
use Rattle.std.proofs.Common.{◌≡◌, ◌∙◌, ◌==◌, ℕ, ℤ, pos, Bool, true, false, List, [], ◌∷◌, None, Option, Some}
use Rattle.std.proofs.Common.{ap, arith, decimal, map, refl, subst, sym, ⊎_elim}
use Rattle.std.specs.Prelude.{IfSome, codes, is_some}
use Rattle.std.specs.Fmt.{signed_decimal}
use Rattle.std.specs.List.{AllByRecursion as ByRecursion}
use Rattle.std.specs.Option.{option_and_then, option_map, option_to_list}
use Rattle.std.specs.Char.{to_ascii_lowercase}
use Rattle.std.specs.Str.{is_utf8}
use Rattle.std.proofs.lemmas.Str.{is_utf8-from_IsUtf8}
use Rattle.pl_words.proofs.TagTests.{named_by_test}
use Rattle.std.proofs.lemmas.Bool.{cases_Bool, cond-false, cond_both, leb-true, true≢false}
use Rattle.std.proofs.lemmas.Option.{cond_some}
use Rattle.pl_base.specs.declared.id.ItemId.{ItemId}
use Rattle.pl_base.specs.declared.transition.Transition.{Transition}
use Rattle.pl_base.specs.NumberText.{if_32_bits, number_32_of, number_of}
use Rattle.pl_base.specs.Transition.{transition_at, transition_number}
use Rattle.pl_words.specs.TagName.{is_tag_name, tag_named, trimmed}
use Rattle.pl_place.specs.declared.key.Key.{Key}
use Rattle.pl_place.specs.declared.key.Key.TheVariants as key
use Rattle.pl_place.specs.declared.query.Query.{Query}
use Rattle.pl_place.specs.Canonical.{ReadsBack, ReadsId, ReadsTime, id_text, itself, number_text, time_text}
use Rattle.pl_place.specs.Canonical.{transition_text}
use Rattle.pl_place.specs.Kinds.{query_type_at, query_type_number, result_type_at, result_type_number, sort_at}
use Rattle.pl_place.specs.Kinds.{sort_number}
use Rattle.pl_place.specs.Kinds.{time_ref_at, time_ref_number}
use Rattle.pl_place.specs.QueryForm.{is_count}
use Rattle.pl_place.specs.Values.{count_of, is_value, text_of, time_of, uri_of}
use Rattle.pl_place.proofs.ReadBack.{coded_bytes, parent_back, positive_back, went_on}
use Rattle.pl_place.proofs.ReadBack.{query_type_back, result_type_back, signed_bytes, sort_back, time_ref_back}
use Rattle.pl_place.proofs.ReadBack.{transition_back, utf8_bytes}
use Rattle.pl_place.proofs.ReadPieces.{IsFine}
use Rattle.pl_place.proofs.SaidPairs.{code_text, said, truth_text}

-- what a query says in numbers and texts is read as what it says
pub record IsReadBack (q : Query) : Type 0 where
  pub begin : IfSome q.begin_time ReadsTime
  pub end : IfSome q.end_time ReadsTime
  pub terms : IfSome q.terms (ReadsBack text_of itself)
  pub domain : IfSome q.domain (ReadsBack text_of itself)
  pub uri : IfSome q.uri (ReadsBack uri_of itself)
  pub parents : ByRecursion ReadsId q.parents
  pub tags : ByRecursion (ReadsBack tag_named itself) q.tags
  pub max_results : ReadsBack number_32_of decimal q.max_results

-- ---- texts

utf8_read : (text : List ℕ) → is_some (text_of text) ≡ true → is_utf8 text ≡ true
utf8_read text read =
    ⊎_elim (λ utf8. utf8) (λ other. absurd (true≢false (sym read ∙ ap is_some (cond-false (is_utf8 text) _ _ other))))
    (cases_Bool (is_utf8 text))

tag_utf8 : (name : List ℕ) → ReadsBack tag_named itself name → is_utf8 name ≡ true
tag_utf8 name back =
    let whole = cond_some (is_tag_name (trimmed name)) (trimmed name) name back in
    subst (λ x. is_utf8 x ≡ true) whole.1
    (is_utf8-from_IsUtf8 (trimmed name) (named_by_test (trimmed name) whole.0).text)

fine_terms : (value : Option (List ℕ)) → IfSome value (ReadsBack text_of itself)
    → ByRecursion (IsFine key.Terms) (option_to_list value)
fine_terms None back = tt
fine_terms (Some text) back =
    let read = ap is_some back in
    (record { form = read; bytes = utf8_bytes text (utf8_read text read) }, tt)

fine_domain : (value : Option (List ℕ)) → IfSome value (ReadsBack text_of itself)
    → ByRecursion (IsFine key.Domain) (option_to_list value)
fine_domain None back = tt
fine_domain (Some text) back = (
  record {
    form = ap (λ x. is_some (option_map (map to_ascii_lowercase) x)) back;
    bytes = utf8_bytes text
        (utf8_read text (ap is_some back));
  },
  tt,
)

fine_uri : (value : Option (List ℕ)) → IfSome value (ReadsBack uri_of itself)
    → ByRecursion (IsFine key.Uri) (option_to_list value)
fine_uri None back = tt
fine_uri (Some url) back =
    (record { form = ap is_some back; bytes = utf8_bytes url (utf8_read url (went_on _ (text_of url) url back)) }, tt)

fine_tags : (tags : List (List ℕ)) → ByRecursion (ReadsBack tag_named itself) tags → ByRecursion (IsFine key.Tag) tags
fine_tags [] back = tt
fine_tags (name ∷ tags) back =
    (record { form = ap is_some back.0; bytes = utf8_bytes name (tag_utf8 name back.0) }, fine_tags tags back.1)

-- ---- numbers

fine_time : (k : Key) → ((text : List ℕ) → is_value k text ≡ is_some (time_of text)) → (time : Option ℤ)
    → IfSome time ReadsTime → ByRecursion (IsFine k) (option_to_list (time_text time))
fine_time k asks None back = tt
fine_time k asks (Some time) back = (
  record {
    form = asks (signed_decimal time)
        ∙ ap is_some back;
    bytes = signed_bytes 64 (signed_decimal time) time back;
  },
  tt,
)

pub count_back : (n : ℕ) → is_count (Some n) ≡ true → count_of (decimal n) ≡ Some (pos n)
count_back n small = positive_back 32 n (omega (arith, leb-true n 2_147_483_647 small))
    (omega (arith, leb-true n 2_147_483_647 small))

fine_count : (k : Key) → ((text : List ℕ) → is_value k text ≡ is_some (count_of text)) → (count : Option ℕ)
    → is_count count ≡ true → ByRecursion (IsFine k) (option_to_list (number_text count))
fine_count k asks None small = tt
fine_count k asks (Some n) small = (
  record {
    form = asks (decimal n) ∙ ap is_some (count_back n small);
    bytes = signed_bytes 32 (decimal n) (pos n) (count_back n small);
  },
  tt,
)

fine_truth : (k : Key) → is_value k (codes "1") ≡ true → (b : Bool) → ByRecursion (IsFine k) (truth_text b)
fine_truth k asks true = (record { form = asks; bytes = (omega arith, tt) }, tt)
fine_truth k asks false = tt

fine_code : {A : Type 0} (k : Key) (at : ℕ → Option A)
    → ((text : List ℕ) → is_value k text ≡ is_some (option_and_then at (number_of text))) → (n : ℕ) (a : A)
    → option_and_then at (number_of (decimal n)) ≡ Some a → ByRecursion (IsFine k) (code_text n)
fine_code k at asks n a back =
    cond_both (n == 0) [] (decimal n ∷ []) (ByRecursion (IsFine k)) (λ none. tt)
    (λ some. (record { form = asks (decimal n) ∙ ap is_some back; bytes = coded_bytes at (decimal n) a back }, tt))

fine_parents : (parents : List ItemId) → ByRecursion ReadsId parents
    → ByRecursion (IsFine key.Parent) (map id_text parents)
fine_parents [] back = tt
fine_parents (id ∷ parents) back = (
  record {
    form = ap is_some (parent_back id back.0);
    bytes = coded_bytes if_32_bits (decimal id.0) id.0 back.0;
  },
  fine_parents parents back.1,
)

fine_transitions : (ts : List Transition)
    → ByRecursion (IsFine key.Transition) (map transition_text ts)
fine_transitions [] = tt
fine_transitions (t ∷ ts) = (
  record {
    form = ap is_some (transition_back t);
    bytes = coded_bytes transition_at (decimal (transition_number t)) t (transition_back t);
  },
  fine_transitions ts,
)

-- ---- each key

pub fine_said : (q : Query) → IsReadBack q → (k : Key) → ByRecursion (IsFine k) (said q k)
fine_said q back key.BeginTime = fine_time key.BeginTime (λ text. refl) q.begin_time back.begin
fine_said q back key.BeginTimeRef =
    fine_code key.BeginTimeRef time_ref_at (λ text. refl) (time_ref_number q.begin_ref) q.begin_ref
    (time_ref_back q.begin_ref)
fine_said q back key.EndTime = fine_time key.EndTime (λ text. refl) q.end_time back.end
fine_said q back key.EndTimeRef =
    fine_code key.EndTimeRef time_ref_at (λ text. refl) (time_ref_number q.end_ref) q.end_ref (time_ref_back q.end_ref)
fine_said q back key.Terms = fine_terms q.terms back.terms
fine_said q back key.MinVisits = fine_count key.MinVisits (λ text. refl) q.min_visits q.min_form
fine_said q back key.MaxVisits = fine_count key.MaxVisits (λ text. refl) q.max_visits q.max_form
fine_said q back key.OnlyBookmarked = fine_truth key.OnlyBookmarked refl q.only_bookmarked
fine_said q back key.DomainIsHost = fine_truth key.DomainIsHost refl q.domain_is_host
fine_said q back key.Domain = fine_domain q.domain back.domain
fine_said q back key.Uri = fine_uri q.uri back.uri
fine_said q back key.Parent = fine_parents q.parents back.parents
fine_said q back key.Tag = fine_tags q.tags back.tags
fine_said q back key.NotTags = fine_truth key.NotTags refl q.not_tags
fine_said q back key.Transition = fine_transitions q.transitions
fine_said q back key.Sort =
    fine_code key.Sort sort_at (λ text. refl) (sort_number q.sort) q.sort (sort_back q.sort)
fine_said q back key.Type =
    fine_code key.Type result_type_at (λ text. refl) (result_type_number q.result_type) q.result_type
    (result_type_back q.result_type)
fine_said q back key.QueryType =
    fine_code key.QueryType query_type_at (λ text. refl) (query_type_number q.query_type) q.query_type
    (query_type_back q.query_type)
fine_said q back key.IncludeHidden = fine_truth key.IncludeHidden refl q.include_hidden
fine_said q back key.MaxResults =
    fine_code key.MaxResults if_32_bits (λ text. refl) q.max_results q.max_results back.max_results
fine_said q back key.ExcludeQueries = fine_truth key.ExcludeQueries refl q.exclude_queries

-- What is told of each key is what the query says.
use Rattle.std.proofs.Common.{◌≡◌, ◌∙◌, ◌==◌, ◌&&◌, ◌||◌, ℕ, ℤ, Bool, true, false, not, List, [], ◌∷◌, None, Option}
use Rattle.std.proofs.Common.{Some}
use Rattle.std.proofs.Common.{ap, arith, decimal, length, map, refl, sym, ⊎_elim}
use Rattle.std.specs.Prelude.{IfSome, is_some, unwrap_or}
use Rattle.std.specs.Char.{is_ascii_uppercase, to_ascii_lowercase}
use Rattle.std.specs.List.{AllByRecursion as ByRecursion, filter_map, list_any}
use Rattle.std.proofs.lemmas.List.{map-id}
use Rattle.std.specs.Option.{option_and_then, option_map, option_to_list}
use Rattle.std.proofs.lemmas.Bool.Decides.{nat_tests}
use Rattle.std.proofs.lemmas.Bool.{cases_eq, cond-false, cond-true, eq-eqb, ne_eqb, not-true, or_parts, true≢false}
use Rattle.pl_base.specs.declared.id.ItemId.{ItemId}
use Rattle.pl_base.specs.declared.transition.Transition.{Transition}
use Rattle.pl_base.specs.NumberText.{number_32_of}
use Rattle.pl_words.specs.TagName.{tag_named}
use Rattle.pl_place.specs.declared.key.Key.{Key}
use Rattle.pl_place.specs.declared.key.Key.TheVariants as key
use Rattle.pl_place.specs.declared.kinds.QueryType.{QueryType}
use Rattle.pl_place.specs.declared.kinds.QueryType.TheVariants.{History}
use Rattle.pl_place.specs.declared.kinds.ResultType.{ResultType}
use Rattle.pl_place.specs.declared.kinds.ResultType.TheVariants.{Pages}
use Rattle.pl_place.specs.declared.kinds.TimeRef.{TimeRef}
use Rattle.pl_place.specs.declared.kinds.TimeRef.TheVariants.{Epoch}
use Rattle.pl_place.specs.declared.query.Query.{Query}
use Rattle.pl_place.specs.declared.sort.Direction.TheVariants.{Ascending, Descending}
use Rattle.pl_place.specs.declared.sort.Sort.{Sort}
use Rattle.pl_place.specs.declared.sort.Sort.TheVariants.{Unsorted, By}
use Rattle.pl_place.specs.declared.sort.SortKey.{SortKey}
use Rattle.pl_place.specs.declared.sort.SortKey.TheVariants.{Title}
use Rattle.pl_place.specs.Canonical.{ReadsBack, ReadsId, ReadsTime, id_text, itself, number_text, time_text}
use Rattle.pl_place.specs.Canonical.{transition_text}
use Rattle.pl_place.specs.Kinds.{query_type_number, result_type_number, sort_number, time_ref_number}
use Rattle.pl_words.specs.TagLists.{each_once, firsts, is_same_tag}
use Rattle.pl_place.specs.PlaceText.{Reads, by_number, is_told, last_text, pieces_of, with_time}
use Rattle.pl_place.specs.QueryForm.{are_terms, ascend, has_time, is_count, is_domain}
use Rattle.pl_place.specs.QueryForm.{is_same_item}
use Rattle.pl_place.specs.Values.{count_asked, count_of, domain_of, parent_of, query_type_of, result_type_of, sort_of}
use Rattle.pl_place.specs.Values.{terms_asked, text_of, time_of, time_ref_of, transition_of, truth_of, uri_of}
use Rattle.pl_place.proofs.FineSaid.{IsReadBack, count_back}
use Rattle.pl_place.proofs.ListsBack.{in_order, once_kept, read_back}
use Rattle.pl_place.proofs.ReadBack.{parent_back, query_type_back, result_type_back, sort_back, time_ref_back}
use Rattle.pl_place.proofs.ReadBack.{transition_back}
use Rattle.pl_place.proofs.ReadPieces.{IsReadAs}
use Rattle.pl_place.proofs.SaidPairs.{code_text, said, truth_text}

-- what the last of some values says
abbrev last_said : {A : Type 0} → (List ℕ → Option A) → List (List ℕ) → Option A
last_said form values = option_and_then form (last_text values)

-- ---- one value

time_told : (time : Option ℤ) → IfSome time ReadsTime
    → last_said time_of (option_to_list (time_text time)) ≡ time
time_told None back = refl
time_told (Some time) back = back

text_told : (form : List ℕ → Option (List ℕ)) (text : Option (List ℕ)) → IfSome text (ReadsBack form itself)
    → last_said form (option_to_list text) ≡ text
text_told form None back = refl
text_told form (Some text) back = back

terms_told : (terms : Option (List ℕ)) → IfSome terms (ReadsBack text_of itself) → are_terms terms ≡ true
    → option_and_then terms_asked (last_said text_of (option_to_list terms)) ≡ terms
terms_told None back some = refl
terms_told (Some text) back some =
    ap (option_and_then terms_asked) back ∙ cond-false (length text == 0) _ _ (not-true (length text == 0) some)

same_lower : (b : ℕ) → is_ascii_uppercase b ≡ false → to_ascii_lowercase b ≡ b
same_lower b none = grind (arith, nat_tests)

lower_already : (text : List ℕ) → list_any is_ascii_uppercase text ≡ false → map to_ascii_lowercase text ≡ text
lower_already [] none = refl
lower_already (b ∷ text) none =
    let both = or_parts (is_ascii_uppercase b) (list_any is_ascii_uppercase text) none in
    ap (λ x. x ∷ map to_ascii_lowercase text) (same_lower b both.0)
    ∙ ap (λ x. b ∷ x) (lower_already text both.1)

domain_told : (domain : Option (List ℕ)) → IfSome domain (ReadsBack text_of itself) → is_domain domain ≡ true
    → last_said domain_of (option_to_list domain) ≡ domain
domain_told None back lower = refl
domain_told (Some text) back lower =
    ap (option_map (map to_ascii_lowercase)) back
    ∙ ap Some (lower_already text (not-true (list_any is_ascii_uppercase text) lower))

count_told : (count : Option ℕ) → is_count count ≡ true
    → option_and_then count_asked (last_said count_of (option_to_list (number_text count))) ≡ count
count_told None small = refl
count_told (Some n) small = ap (option_and_then count_asked) (count_back n small)

truth_told : (b : Bool) → unwrap_or (last_said truth_of (truth_text b)) false ≡ b
truth_told true = refl
truth_told false = refl

-- ---- codes

time_ref_told : (time : Option ℤ) (r : TimeRef) → has_time time r ≡ true
    → with_time time (last_said time_ref_of (code_text (time_ref_number r))) ≡ r
time_ref_told None Epoch has = refl
time_ref_told None r has = absurd (true≢false (sym has))
time_ref_told (Some time) Epoch has = refl
time_ref_told (Some time) r has = ap (λ x. unwrap_or x Epoch) (time_ref_back r)

sort_told : (s : Sort) → unwrap_or (last_said sort_of (code_text (sort_number s))) Unsorted ≡ s
sort_told Unsorted = refl
sort_told (By key Ascending) = ascending key
  where
    ascending : (key : SortKey)
        → unwrap_or (last_said sort_of (code_text (sort_number (By key Ascending)))) Unsorted ≡ By key Ascending
    ascending Title = ap (λ x. unwrap_or x Unsorted) (sort_back (By Title Ascending))
    ascending key = ap (λ x. unwrap_or x Unsorted) (sort_back (By key Ascending))
sort_told (By key Descending) = descending key
  where
    descending : (key : SortKey)
        → unwrap_or (last_said sort_of (code_text (sort_number (By key Descending)))) Unsorted ≡ By key Descending
    descending Title = ap (λ x. unwrap_or x Unsorted) (sort_back (By Title Descending))
    descending key = ap (λ x. unwrap_or x Unsorted) (sort_back (By key Descending))

result_type_told : (r : ResultType) → unwrap_or (last_said result_type_of (code_text (result_type_number r))) Pages ≡ r
result_type_told Pages = refl
result_type_told r = ap (λ x. unwrap_or x Pages) (result_type_back r)

query_type_told : (r : QueryType) → unwrap_or (last_said query_type_of (code_text (query_type_number r))) History ≡ r
query_type_told History = refl
query_type_told r = ap (λ x. unwrap_or x History) (query_type_back r)

most_told : (n : ℕ) → ReadsBack number_32_of decimal n → unwrap_or (last_said number_32_of (code_text n)) 0 ≡ n
most_told n back =
    ⊎_elim
    (λ none. ap (λ x. unwrap_or (last_said number_32_of x) 0) (cond-true (n == 0) _ _ (eq-eqb n 0 none)) ∙ sym none)
    (λ some. ap (λ x. unwrap_or (last_said number_32_of x) 0) (cond-false (n == 0) _ _ (ne_eqb n 0 some))
    ∙ ap (λ x. unwrap_or x 0) back)
    (cases_eq n 0)

-- ---- what says nothing by itself

asked_of : (there asked : Bool) → (there || not asked) ≡ true → (there && asked) ≡ asked
asked_of true asked has = refl
asked_of false true has = absurd (true≢false (sym has))
asked_of false false has = refl

-- ---- lists

ids_back : (ids : List ItemId) → ByRecursion ReadsId ids → ByRecursion (ReadsBack parent_of id_text) ids
ids_back [] back = tt
ids_back (id ∷ ids) back = (parent_back id back.0, ids_back ids back.1)

parents_told : (ids : List ItemId) → ByRecursion ReadsId ids → each_once is_same_item ids ≡ true
    → firsts is_same_item (filter_map parent_of (map id_text ids)) ≡ ids
parents_told ids back once =
    ap (firsts is_same_item) (read_back parent_of id_text ids (ids_back ids back)) ∙ once_kept is_same_item ids once

tags_told : (tags : List (List ℕ)) → ByRecursion (ReadsBack tag_named itself) tags → each_once is_same_tag tags ≡ true
    → firsts is_same_tag (filter_map tag_named tags) ≡ tags
tags_told tags back once =
    ap (λ x. firsts is_same_tag (filter_map tag_named x)) (sym (map-id tags))
    ∙ ap (firsts is_same_tag) (read_back tag_named itself tags back) ∙ once_kept is_same_tag tags once

transitions_back : (ts : List Transition)
    → ByRecursion (ReadsBack transition_of transition_text) ts
transitions_back [] = tt
transitions_back (t ∷ ts) = (transition_back t, transitions_back ts)

transitions_told : (ts : List Transition) → ascend ts ≡ true
    → by_number (filter_map transition_of (map transition_text ts)) ≡ ts
transitions_told ts rise =
    ap by_number (read_back transition_of transition_text ts (transitions_back ts))
    ∙ in_order ts rise

-- ---- the whole

flag_told : (q : Query) (text : List ℕ) (k : Key) (b : Bool) → IsReadAs (said q) text → said q k ≡ truth_text b
    → is_told k (pieces_of text) ≡ b
flag_told q text k b given is = ap (λ x. unwrap_or (last_said truth_of x) false) (given.values k ∙ is) ∙ truth_told b

pub said_back : (q : Query) → IsReadBack q → (text : List ℕ) → IsReadAs (said q) text → Reads text q
said_back q back text given =
    record {
      taken = given.taken;
      begin_time = sym (ap (last_said time_of) (given.values key.BeginTime) ∙ time_told q.begin_time back.begin);
      begin_ref = sym (ap (λ x. with_time q.begin_time (last_said time_ref_of x)) (given.values key.BeginTimeRef)
          ∙ time_ref_told q.begin_time q.begin_ref q.begin_form);
      end_time = sym (ap (last_said time_of) (given.values key.EndTime) ∙ time_told q.end_time back.end);
      end_ref = sym (ap (λ x. with_time q.end_time (last_said time_ref_of x)) (given.values key.EndTimeRef)
          ∙ time_ref_told q.end_time q.end_ref q.end_form);
      terms = sym (ap (λ x. option_and_then terms_asked (last_said text_of x)) (given.values key.Terms)
          ∙ terms_told q.terms back.terms q.terms_form);
      min_visits = sym (ap (λ x. option_and_then count_asked (last_said count_of x)) (given.values key.MinVisits)
          ∙ count_told q.min_visits q.min_form);
      max_visits = sym (ap (λ x. option_and_then count_asked (last_said count_of x)) (given.values key.MaxVisits)
          ∙ count_told q.max_visits q.max_form);
      only_bookmarked = sym (flag_told q text key.OnlyBookmarked q.only_bookmarked given refl);
      domain_is_host = sym
          (ap (λ x. is_some q.domain && x) (flag_told q text key.DomainIsHost q.domain_is_host given refl)
          ∙ asked_of (is_some q.domain) q.domain_is_host q.host_form);
      domain = sym (ap (last_said domain_of) (given.values key.Domain)
          ∙ domain_told q.domain back.domain q.domain_form);
      uri = sym (ap (last_said uri_of) (given.values key.Uri) ∙ text_told uri_of q.uri back.uri);
      parents = sym (ap (λ x. firsts is_same_item (filter_map parent_of x)) (given.values key.Parent)
          ∙ parents_told q.parents back.parents q.parents_form);
      tags = sym (ap (λ x. firsts is_same_tag (filter_map tag_named x)) (given.values key.Tag)
          ∙ tags_told q.tags back.tags q.tags_form);
      not_tags = sym (ap (λ x. not (length q.tags == 0) && x) (flag_told q text key.NotTags q.not_tags given refl)
          ∙ asked_of (not (length q.tags == 0)) q.not_tags q.not_tags_form);
      transitions = sym (ap (λ x. by_number (filter_map transition_of x)) (given.values key.Transition)
          ∙ transitions_told q.transitions q.transitions_form);
      sort = sym (ap (λ x. unwrap_or (last_said sort_of x) Unsorted) (given.values key.Sort) ∙ sort_told q.sort);
      result_type = sym (ap (λ x. unwrap_or (last_said result_type_of x) Pages) (given.values key.Type)
          ∙ result_type_told q.result_type);
      query_type = sym (ap (λ x. unwrap_or (last_said query_type_of x) History) (given.values key.QueryType)
          ∙ query_type_told q.query_type);
      include_hidden = sym (flag_told q text key.IncludeHidden q.include_hidden given refl);
      max_results = sym (ap (λ x. unwrap_or (last_said number_32_of x) 0) (given.values key.MaxResults)
          ∙ most_told q.max_results back.max_results);
      exclude_queries = sym (flag_told q text key.ExcludeQueries q.exclude_queries given refl);
    }

-- What a query says of each key, and the pairs of it.
use Rattle.std.proofs.Common.{◌≡◌, ◌∙◌, ◌==◌, ◌++◌, ℕ, Bool, true, false, cond, List, [], ◌∷◌, None, Option, Some, ap}
use Rattle.std.proofs.Common.{append-nil, append_assoc, decimal, map, refl, sym}
use Rattle.std.specs.Prelude.{codes, if◌then◌else◌}
use Rattle.std.specs.List.{filter, flat_map}
use Rattle.std.proofs.lemmas.Bool.{cond-false, cond-true}
use Rattle.std.proofs.lemmas.List.Elements.{filter-append}
use Rattle.pl_place.specs.PlaceText.{is_key}
use Rattle.std.specs.Option.{option_to_list}
use Rattle.std.proofs.lemmas.List.{map-append}
use Rattle.pl_place.specs.declared.key.Key.{Key}
use Rattle.pl_place.specs.declared.key.Key.TheVariants as key
use Rattle.pl_place.specs.declared.query.Query.{Query}
use Rattle.pl_place.specs.Canonical.{id_text, if_not_0, if_there, if_true, number_text, transition_text}
use Rattle.pl_place.specs.Canonical.{pair, pairs, time_text}
use Rattle.pl_place.specs.Keys.{keys}
use Rattle.pl_place.specs.Kinds.{query_type_number, result_type_number, sort_number, time_ref_number}

-- `1` where it is true
abbrev pub truth_text : Bool → List (List ℕ)
truth_text false = []
truth_text true = codes "1" ∷ []

-- a number that is not 0
abbrev pub code_text : ℕ → List (List ℕ)
code_text n = if n == 0 then [] else decimal n ∷ []

-- the values that a query says of a key
abbrev pub said : Query → Key → List (List ℕ)
said q key.BeginTime = option_to_list (time_text q.begin_time)
said q key.BeginTimeRef = code_text (time_ref_number q.begin_ref)
said q key.EndTime = option_to_list (time_text q.end_time)
said q key.EndTimeRef = code_text (time_ref_number q.end_ref)
said q key.Terms = option_to_list q.terms
said q key.MinVisits = option_to_list (number_text q.min_visits)
said q key.MaxVisits = option_to_list (number_text q.max_visits)
said q key.OnlyBookmarked = truth_text q.only_bookmarked
said q key.DomainIsHost = truth_text q.domain_is_host
said q key.Domain = option_to_list q.domain
said q key.Uri = option_to_list q.uri
said q key.Parent = map id_text q.parents
said q key.Tag = q.tags
said q key.NotTags = truth_text q.not_tags
said q key.Transition = map transition_text q.transitions
said q key.Sort = code_text (sort_number q.sort)
said q key.Type = code_text (result_type_number q.result_type)
said q key.QueryType = code_text (query_type_number q.query_type)
said q key.IncludeHidden = truth_text q.include_hidden
said q key.MaxResults = code_text q.max_results
said q key.ExcludeQueries = truth_text q.exclude_queries

-- a key beside each of its values
abbrev pub with_key : Key → List (List ℕ) → List (Key × List ℕ)
with_key k [] = []
with_key k (value ∷ values) = (k, value) ∷ with_key k values

-- the keys beside their values, in a row
abbrev pub in_a_row : (Key → List (List ℕ)) → List Key → List (Key × List ℕ)
in_a_row values [] = []
in_a_row values (k ∷ ks) = with_key k (values k) ++ in_a_row values ks

abbrev pub pair_of : Key × List ℕ → List ℕ
pair_of row = pair row.0 row.1

-- ---- each pair of a query

there : (k : Key) (value : Option (List ℕ)) → if_there k value ≡ map (pair k) (option_to_list value)
there k None = refl
there k (Some value) = refl

truth : (k : Key) (b : Bool) → if_true k b ≡ map (pair k) (truth_text b)
truth k true = refl
truth k false = refl

code : (k : Key) (n : ℕ) → if_not_0 k n ≡ map (pair k) (code_text n)
code k n = choose (n == 0)
  where
    choose : (b : Bool) → cond b [] (pair k (decimal n) ∷ []) ≡ map (pair k) (cond b [] (decimal n ∷ []))
    choose true = refl
    choose false = refl

row_of_key : (k : Key) (values : List (List ℕ)) → map (pair k) values ≡ map pair_of (with_key k values)
row_of_key k [] = refl
row_of_key k (value ∷ values) = ap (λ x. pair k value ∷ x) (row_of_key k values)

row_of_keys : (values : Key → List (List ℕ)) (ks : List Key)
    → flat_map (λ k. map (pair k) (values k)) ks ≡ map pair_of (in_a_row values ks)
row_of_keys values [] = refl
row_of_keys values (k ∷ ks) =
    ap (λ x. map (pair k) (values k) ++ x) (row_of_keys values ks)
    ∙ ap (λ x. x ++ map pair_of (in_a_row values ks)) (row_of_key k (values k))
    ∙ sym (map-append pair_of (with_key k (values k)) (in_a_row values ks))

-- four groups in a row are one
regrouped : (f : Key → List (List ℕ))
    → (f key.BeginTime ++ f key.BeginTimeRef ++ f key.EndTime ++ f key.EndTimeRef)
    ++ (f key.Terms ++ f key.MinVisits ++ f key.MaxVisits ++ f key.OnlyBookmarked ++ f key.DomainIsHost ++ f
    key.Domain ++ f key.Uri)
    ++ (f key.Parent ++ f key.Tag ++ f key.NotTags ++ f key.Transition)
    ++ (f key.Sort ++ f key.Type ++ f key.QueryType ++ f key.IncludeHidden ++ f key.MaxResults ++ f key.ExcludeQueries)
    ≡ flat_map f keys
regrouped f = simp (append_assoc, append-nil) refl

pub pairs_are : (q : Query) → pairs q ≡ map pair_of (in_a_row (said q) keys)
pairs_are q = simp (there, truth, code) refl ∙ regrouped (λ k. map (pair k) (said q k)) ∙ row_of_keys (said q) keys

-- ---- the values of a key, of what stands in a row

abbrev pub values_in : Key → List (Key × List ℕ) → List (List ℕ)
values_in k rows = map (λ row. row.1) (filter (λ row. is_key k row.0) rows)

values_in-append : (k : Key) (xs ys : List (Key × List ℕ)) → values_in k (xs ++ ys) ≡ values_in k xs ++ values_in k ys
values_in-append k xs ys =
    ap (map (λ row. row.1)) (filter-append (λ row. is_key k row.0) xs ys)
    ∙ map-append (λ row. row.1) (filter (λ row. is_key k row.0) xs) (filter (λ row. is_key k row.0) ys)

values_of_one : (k other : Key) (b : Bool) (values : List (List ℕ)) → is_key k other ≡ b
    → values_in k (with_key other values) ≡ (if b then values else [])
values_of_one k other true [] is = refl
values_of_one k other false [] is = refl
values_of_one k other true (value ∷ values) is =
    ap (map (λ row. row.1)) (cond-true (is_key k other) _ _ is)
    ∙ ap (λ x. value ∷ x) (values_of_one k other true values is)
values_of_one k other false (value ∷ values) is =
    ap (map (λ row. row.1)) (cond-false (is_key k other) _ _ is) ∙ values_of_one k other false values is

values_in_a_row : (k : Key) (values : Key → List (List ℕ)) (ks : List Key)
    → values_in k (in_a_row values ks) ≡ flat_map (λ other. if is_key k other then values other else []) ks
values_in_a_row k values [] = refl
values_in_a_row k values (other ∷ ks) =
    values_in-append k (with_key other (values other)) (in_a_row values ks)
    ∙ ap (λ x. x ++ values_in k (in_a_row values ks)) (values_of_one k other (is_key k other) (values other) refl)
    ∙ ap (λ x. (if is_key k other then values other else []) ++ x) (values_in_a_row k values ks)

-- each key stands once among all
only_one : (k : Key) (values : Key → List (List ℕ))
    → flat_map (λ other. if is_key k other then values other else []) keys ≡ values k
only_one key.BeginTime values = append-nil (values key.BeginTime)
only_one k values = append-nil (values k)

pub values_are : (k : Key) (values : Key → List (List ℕ)) → values_in k (in_a_row values keys) ≡ values k
values_are k values = values_in_a_row k values keys ∙ only_one k values

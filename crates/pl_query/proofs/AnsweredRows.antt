-- The answer: the rows of the definition in its order, so many as are asked for, told one by one.
use Rattle.std.proofs.Common.{◌≡◌, ◌≢◌, ◌∙◌, ◌++◌, ◌==◌, ℕ, All, Bool, true, false, List, [], ◌∷◌, Option, Some, ap}
use Rattle.std.proofs.Common.{◌+◌, ◌<◌, ℤ, get_or, if◌then◌else◌, is_some, length, map, refl, subst, sym, take}
use Rattle.std.specs.List.{AllByRecursion, AllPairs}
use Rattle.std.specs.List.Sorted.{IsPermutation}
use Rattle.std.specs.Option.{option_map}
use Rattle.std.proofs.lemmas.List.{map-append, map_more, take-map}
use Rattle.std.proofs.lemmas.List.Elements.{All-from_recursion}
use Rattle.std.proofs.lemmas.List.Sorted.{IsPermutation-map, IsPermutation-sym}
use Rattle.pl_base.specs.declared.date.Micros.{Micros}
use Rattle.pl_base.specs.Frecency.{frecency_of}
use Rattle.pl_base.specs.Marks.{visit_count}
use Rattle.pl_base.specs.Rows.{IsWellKept, Kept, store_of}
use Rattle.pl_base.specs.Sorting.{sorted_by}
use Rattle.pl_base.specs.Store.{Store}
use Rattle.pl_base.specs.Tags.{tag_text}
use Rattle.pl_base.proofs.ListLaws.{AllPairs-map, all_take, same_somes, to_map, weaker}
use Rattle.pl_base.proofs.SortLaws.{all_moved, all_sorted}
use Rattle.pl_place.specs.declared.query.Query.{Query}
use Rattle.pl_query.specs.declared.ordering.Candidate.{Candidate}
use Rattle.pl_query.specs.declared.result_row.ResultRow.{ResultRow}
use Rattle.pl_query.specs.declared.shown.Subject.{Subject}
use Rattle.pl_query.specs.Candidates.{candidate_of, goes_before, parts_of, subject_of}
use Rattle.pl_query.specs.Order.{Row, comes_before}
use Rattle.pl_query.specs.QueryAnswer.{answer, limited, rows_of, told_row}
use Rattle.pl_query.specs.Subjects.{row_at, subject_id}
use Rattle.pl_query.proofs.AllParts.{IsThere, parts_there, rows_differ, rows_moved}
use Rattle.pl_query.proofs.CandidateOrder.{rows_in_order, sorted_moved, subject_ids}
use Rattle.pl_query.proofs.PartLists.{pairs_moved}
use Rattle.pl_query.proofs.RowsShown.{row_there}

-- ---- lists

pub limited_map : {X Y : Type 0} (f : X → Y) (most : ℕ) (xs : List X)
    → limited most (map f xs) ≡ map f (limited most xs)
limited_map {X = X} {Y = Y} f most xs = choose (most == 0)
  where
    choose : (b : Bool) → (if b then map f xs else take most (map f xs)) ≡ map f (if b then xs else take most xs)
    choose true = refl
    choose false = take-map f most xs

all_limited : {X : Type 0} (P : X → Type 0) (most : ℕ) (xs : List X) → AllByRecursion P xs
    → AllByRecursion P (limited most xs)
all_limited P most xs all = choose (most == 0)
  where
    choose : (b : Bool) → AllByRecursion P (if b then xs else take most xs)
    choose true = all
    choose false = all_take P most xs all

-- ---- the candidates of a query

abbrev pub subject_in : Query → Row → Subject
subject_in q row = subject_of q.query_type q.result_type row

abbrev pub candidate_in : Kept → Query → Row → Candidate
candidate_in kept q row = candidate_of (subject_in q) (store_of kept) q.sort row

abbrev pub wanted_in : Kept → Query → List Row
wanted_in kept q = rows_of q.query_type q.result_type (store_of kept) q

abbrev pub parts_in : Kept → Query → List Row
parts_in kept q = parts_of q.query_type q.result_type kept q kept.pages

module _ (kept : Kept) (q : Query) (h : IsWellKept kept) where
  wanted_apart : AllPairs (λ (a b : Candidate). subject_id a.subject ≢ subject_id b.subject)
      (map (candidate_in kept q) (wanted_in kept q))
  wanted_apart =
      AllPairs-map (λ (a b : Candidate). subject_id a.subject ≢ subject_id b.subject) (candidate_in kept q)
      (wanted_in kept q)
      (λ i j d before within same.
      rows_differ q.query_type q.result_type kept q h i j d before within
      (sym (subject_ids q.query_type q.result_type _) ∙ same ∙ subject_ids q.query_type q.result_type _))

  found_moved : IsPermutation (map (candidate_in kept q) (wanted_in kept q))
      (map (candidate_in kept q) (parts_in kept q))
  found_moved =
      IsPermutation-map (candidate_in kept q) (wanted_in kept q) (parts_in kept q)
      (rows_moved q.query_type q.result_type kept q h)

  pub found_apart : (found : List Candidate) → found ≡ map (candidate_in kept q) (parts_in kept q)
      → AllPairs (λ (a b : Candidate). subject_id a.subject ≢ subject_id b.subject) found
  found_apart found is =
      pairs_moved (λ (c : Candidate). subject_id c.subject) (map (candidate_in kept q) (wanted_in kept q)) found
      (subst (IsPermutation (map (candidate_in kept q) (wanted_in kept q))) (sym is) found_moved) wanted_apart

  -- the candidates in order are those of the answer's rows
  pub answered_are : (found sorted cut : List Candidate) → found ≡ map (candidate_in kept q) (parts_in kept q)
      → sorted ≡ sorted_by (goes_before q.sort) found → cut ≡ limited q.max_results sorted
      → cut ≡ map (candidate_in kept q) (answer (store_of kept) q)
  answered_are found sorted cut is up few =
      few
      ∙ ap (limited q.max_results)
      (up ∙ ap (sorted_by (goes_before q.sort)) is
      ∙ sym (sorted_moved q.sort (map (candidate_in kept q) (wanted_in kept q))
      (map (candidate_in kept q) (parts_in kept q)) wanted_apart found_moved)
      ∙ rows_in_order (subject_in q) (subject_ids q.query_type q.result_type) (store_of kept) q.sort (wanted_in kept q))
      ∙ limited_map (candidate_in kept q) q.max_results
      (sorted_by (comes_before (store_of kept) q.sort) (wanted_in kept q))

  -- each is that of what is there
  answer_there : AllByRecursion (IsThere (subject_in q) kept) (answer (store_of kept) q)
  answer_there =
      all_limited (IsThere (subject_in q) kept) q.max_results
      (sorted_by (comes_before (store_of kept) q.sort) (wanted_in kept q))
      (all_sorted (comes_before (store_of kept) q.sort) (IsThere (subject_in q) kept) (wanted_in kept q)
      (all_moved (IsThere (subject_in q) kept) (parts_in kept q) (wanted_in kept q)
      (IsPermutation-sym (wanted_in kept q) (parts_in kept q) (rows_moved q.query_type q.result_type kept q h))
      (parts_there q.query_type q.result_type kept q h)))

  pub cut_there : (cut : List Candidate) → cut ≡ map (candidate_in kept q) (answer (store_of kept) q)
      → All (λ (c : Candidate). is_some (row_at kept c.subject) ≡ true) cut
  cut_there cut is =
      subst (All (λ (c : Candidate). is_some (row_at kept c.subject) ≡ true)) (sym is)
      (All-from_recursion (λ (c : Candidate). is_some (row_at kept c.subject) ≡ true)
      (map (candidate_in kept q) (answer (store_of kept) q))
      (to_map (λ (c : Candidate). is_some (row_at kept c.subject) ≡ true) (candidate_in kept q)
      (answer (store_of kept) q)
      (weaker (IsThere (subject_in q) kept) (λ (r : Row). is_some (row_at kept (subject_in q r)) ≡ true)
      (answer (store_of kept) q) (λ r there. ap is_some there) answer_there)))

  -- what is told of them is what is told of the answer's rows
  pub told_are : (cut : List Candidate) (told : List ResultRow)
      → cut ≡ map (candidate_in kept q) (answer (store_of kept) q)
      → map Some told
      ≡ map (λ (c : Candidate). option_map (told_row (store_of kept)) (row_at kept c.subject)) cut
      → told ≡ map (told_row (store_of kept)) (answer (store_of kept) q)
  told_are cut told is each =
      same_somes told (map (told_row (store_of kept)) (answer (store_of kept) q))
      (each ∙ ap (map (λ (c : Candidate). option_map (told_row (store_of kept)) (row_at kept c.subject))) is
      ∙ tell (answer (store_of kept) q) answer_there)
    where
      tell : (rows : List Row) → AllByRecursion (IsThere (subject_in q) kept) rows
          → map (λ (c : Candidate). option_map (told_row (store_of kept)) (row_at kept c.subject))
          (map (candidate_in kept q) rows)
          ≡ map Some (map (told_row (store_of kept)) rows)
      tell [] all = refl
      tell (row ∷ rows) all =
          ap (λ (o : Option Row).
          option_map (told_row (store_of kept)) o
          ∷ map (λ (c : Candidate). option_map (told_row (store_of kept)) (row_at kept c.subject))
          (map (candidate_in kept q) rows))
          all.0
          ∙ ap (λ (os : List (Option ResultRow)). Some (told_row (store_of kept) row) ∷ os) (tell rows all.1)

-- ---- one row

pub told_alike : (store : Store) (row : Row) (id : ℕ) (url title tags : List ℕ) (date : Option Micros) (count : ℕ)
    (frecency : ℤ) → id ≡ row.id → url ≡ row.page.url → title ≡ row.title → date ≡ row.date
    → count ≡ visit_count store row.page.id → frecency ≡ frecency_of store row.page
    → tags ≡ tag_text store row.page.id
    → ◌≡◌ {A = ResultRow}
    (record {
      id = id;
      url = url;
      title = title;
      date = date;
      count = count;
      frecency = frecency;
      tags = tags;
    })
    (told_row store row)
told_alike store row id url title tags date count frecency ids urls titles dates counts frecencies tags_are =
    rw (ids, urls, titles, dates, counts, frecencies, tags_are) refl

-- ---- a row more

-- so many candidates were told
abbrev pub AreTold : Kept → List Candidate → ℕ → List ResultRow → Type 0
AreTold kept cut index told =
    map Some told
    ≡ map (λ (c : Candidate). option_map (told_row (store_of kept)) (row_at kept c.subject)) (take index cut)

pub told_more : (kept : Kept) (cut : List Candidate) (index : ℕ) (now new : List ResultRow) (row : ResultRow)
    (c d : Candidate) → AreTold kept cut index now → index < length cut → c ≡ get_or cut index d
    → Some row ≡ option_map (told_row (store_of kept)) (row_at kept c.subject) → new ≡ now ++ row ∷ []
    → AreTold kept cut (index + 1) new
told_more kept cut index now new row c d so_far within at is pushed =
    ap (map Some) pushed ∙ map-append Some now (row ∷ [])
    ∙ ap (λ (os : List (Option ResultRow)). os ++ Some row ∷ []) so_far
    ∙ ap (λ (o : Option ResultRow). map tell (take index cut) ++ o ∷ []) (is ∙ ap tell at)
    ∙ sym (map_more tell cut index d within)
  where
    tell : Candidate → Option ResultRow
    tell x = option_map (told_row (store_of kept)) (row_at kept x.subject)

pub told_one : (kept : Kept) (subject : Subject) (told : ResultRow) → is_some (row_at kept subject) ≡ true
    → ((row : Row) → row_at kept subject ≡ Some row → told ≡ told_row (store_of kept) row)
    → Some told ≡ option_map (told_row (store_of kept)) (row_at kept subject)
told_one kept subject told there is =
    let row = row_there kept subject there in
    ap Some (is row.0 row.1) ∙ sym (ap (option_map (told_row (store_of kept))) row.1)

-- Candidates in order: that is an order, and the one of the rows that they are of.
use Rattle.std.proofs.Common.{◌≡◌, ◌≢◌, ◌∙◌, ◌&&◌, ◌||◌, ℕ, Bool, true, List, Ordering, ap, arith, is_lt, map}
use Rattle.std.proofs.Common.{nat_cmp, nat_lt, not, refl, sym}
use Rattle.std.specs.Cmp.{IsStrictWeakOrder, IsTotalOrder}
use Rattle.std.specs.declared.cmp.Ordering.TheVariants.{Less, Equal, Greater}
use Rattle.std.specs.List.{AllPairs, IsDistinct}
use Rattle.std.specs.List.Sorted.{IsPermutation, IsSortedBy, ties}
use Rattle.std.specs.Ordering.{ordering_reverse, ordering_then}
use Rattle.std.proofs.lemmas.Bool.Decides.{nat_tests}
use Rattle.std.proofs.lemmas.List.Sorted.{IsPermutation-sym, IsPermutation-trans, IsStrictWeakOrder-by_number}
use Rattle.std.proofs.lemmas.List.Sorted.{IsStrictWeakOrder-flip, ranks_by}
use Rattle.pl_base.specs.Sorting.{sorted_by}
use Rattle.pl_base.specs.Store.{Store}
use Rattle.pl_base.proofs.SortLaws.{ascends_sorted_by, distinct_moved, for_all, none_tie, only_ascending}
use Rattle.pl_base.proofs.SortLaws.{order_of_all, ranks_alike, sorted_map, sorted_moves, sorted_same, then_by}
use Rattle.pl_base.proofs.SortLaws.{then_ranks, then_ties, tied_numbers, weak_sorted_is}
use Rattle.pl_place.specs.declared.kinds.QueryType.{QueryType}
use Rattle.pl_place.specs.declared.kinds.QueryType.TheVariants.{History, Bookmarks}
use Rattle.pl_place.specs.declared.kinds.ResultType.{ResultType}
use Rattle.pl_place.specs.declared.kinds.ResultType.TheVariants.{Pages, Visits}
use Rattle.pl_place.specs.declared.sort.Direction.TheVariants.{Ascending, Descending}
use Rattle.pl_place.specs.declared.sort.Sort.{Sort}
use Rattle.pl_place.specs.declared.sort.Sort.TheVariants.{Unsorted, By}
use Rattle.pl_place.specs.declared.sort.SortKey.{SortKey}
use Rattle.pl_place.specs.declared.sort.SortKey.TheVariants.{Title, Date, Url, VisitCount}
use Rattle.pl_place.specs.declared.sort.SortKey.TheVariants.{Added, Modified, Tags, Frecency}
use Rattle.pl_query.specs.contracts.ordering.SortValueOrd.TheImpl.{cmp-value}
use Rattle.pl_query.specs.contracts.ordering.SortValueOrd.TheImpl.Laws.{total-law}
use Rattle.pl_query.specs.declared.ordering.Candidate.{Candidate}
use Rattle.pl_query.specs.declared.ordering.SortValue.{SortValue}
use Rattle.pl_query.specs.declared.ordering.SortValue.TheVariants.{Nothing, Text, Moment, Number, Score}
use Rattle.pl_query.specs.declared.shown.Subject.{Subject}
use Rattle.pl_query.specs.Candidates.{candidate_of, goes_before, key_value, subject_of, value_cmp}
use Rattle.pl_query.specs.Order.{Row, comes_before, key_cmp}
use Rattle.pl_query.specs.Subjects.{subject_id}

-- ---- the order of values

values_are : (a b : SortValue) → value_cmp a b ≡ cmp-value.it a b
values_are Nothing Nothing = refl
values_are Nothing (Text b) = refl
values_are Nothing (Moment b) = refl
values_are Nothing (Number b) = refl
values_are Nothing (Score b) = refl
values_are (Text a) Nothing = refl
values_are (Text a) (Text b) = refl
values_are (Text a) (Moment b) = refl
values_are (Text a) (Number b) = refl
values_are (Text a) (Score b) = refl
values_are (Moment a) Nothing = refl
values_are (Moment a) (Text b) = refl
values_are (Moment a) (Moment b) = refl
values_are (Moment a) (Number b) = refl
values_are (Moment a) (Score b) = refl
values_are (Number a) Nothing = refl
values_are (Number a) (Text b) = refl
values_are (Number a) (Moment b) = refl
values_are (Number a) (Number b) = refl
values_are (Number a) (Score b) = refl
values_are (Score a) Nothing = refl
values_are (Score a) (Text b) = refl
values_are (Score a) (Moment b) = refl
values_are (Score a) (Number b) = refl
values_are (Score a) (Score b) = refl

values_total : IsTotalOrder value_cmp
values_total =
    record {
      antisymm = λ x y. values_are x y ∙ total-law.antisymm x y ∙ ap ordering_reverse (sym (values_are y x));
      trans = λ x y z p q.
          values_are x z ∙ total-law.trans x y z (sym (values_are x y) ∙ p) (sym (values_are y z) ∙ q);
      congr = λ x y z p. values_are x z ∙ total-law.congr x y z (sym (values_are x y) ∙ p) ∙ sym (values_are y z);
    }

-- ---- the order of candidates

abbrev smaller : Candidate → Candidate → Bool
smaller a b = is_lt (value_cmp a.value b.value)

abbrev greater : Candidate → Candidate → Bool
greater a b = smaller b a

abbrev lower : Candidate → Candidate → Bool
lower a b = nat_lt (subject_id a.subject) (subject_id b.subject)

abbrev first_of : Sort → Candidate → Candidate → Bool
first_of Unsorted = smaller
first_of (By key Ascending) = smaller
first_of (By key Descending) = greater

by_two : (r s : Ordering) (m n : ℕ) → r ≡ ordering_reverse s
    → is_lt (ordering_then r (nat_cmp m n)) ≡ (is_lt r || (not (is_lt s) && nat_lt m n))
by_two r s m n turned = rw turned (choose s)
  where
    one_number : (m n : ℕ) → is_lt (nat_cmp m n) ≡ nat_lt m n
    one_number m n = grind (arith, nat_tests)

    choose : (s : Ordering) → is_lt (ordering_then (ordering_reverse s) (nat_cmp m n))
        ≡ (is_lt (ordering_reverse s) || (not (is_lt s) && nat_lt m n))
    choose Less = refl
    choose Equal = one_number m n
    choose Greater = refl

by_parts : (sort : Sort) (a b : Candidate) → goes_before sort a b ≡ then_by (first_of sort) lower a b
by_parts Unsorted a b =
    by_two (value_cmp a.value b.value) (value_cmp b.value a.value) (subject_id a.subject) (subject_id b.subject)
    (values_total.antisymm a.value b.value)
by_parts (By key Ascending) a b =
    by_two (value_cmp a.value b.value) (value_cmp b.value a.value) (subject_id a.subject) (subject_id b.subject)
    (values_total.antisymm a.value b.value)
by_parts (By key Descending) a b =
    ap (λ (r : Ordering). is_lt (ordering_then r (nat_cmp (subject_id a.subject) (subject_id b.subject))))
    (sym (values_total.antisymm b.value a.value))
    ∙ by_two (value_cmp b.value a.value) (value_cmp a.value b.value) (subject_id a.subject) (subject_id b.subject)
    (values_total.antisymm b.value a.value)

first_ranks : (sort : Sort) → IsStrictWeakOrder (first_of sort)
first_ranks Unsorted = ranks_by values_total (λ (c : Candidate). c.value)
first_ranks (By key Ascending) = ranks_by values_total (λ (c : Candidate). c.value)
first_ranks (By key Descending) =
    IsStrictWeakOrder-flip smaller (ranks_by values_total (λ (c : Candidate). c.value))

pub ranks : (sort : Sort) → IsStrictWeakOrder (goes_before sort)
ranks sort =
    ranks_alike (goes_before sort) (then_by (first_of sort) lower) (by_parts sort)
    (then_ranks (first_of sort) lower (first_ranks sort)
    (IsStrictWeakOrder-by_number (λ (c : Candidate). subject_id c.subject)))

tied_ids : (sort : Sort) (a b : Candidate) → ties (goes_before sort) a b ≡ true
    → subject_id a.subject ≡ subject_id b.subject
tied_ids sort a b tie =
    tied_numbers (subject_id a.subject) (subject_id b.subject)
    (then_ties (first_of sort) lower a b (rw (by_parts sort a b, by_parts sort b a) at tie))

-- what a sort gives, where no two candidates have the same id
pub in_order : (sort : Sort) (old new : List Candidate)
    → AllPairs (λ (a b : Candidate). subject_id a.subject ≢ subject_id b.subject) old → IsPermutation old new
    → IsSortedBy (goes_before sort) new → new ≡ sorted_by (goes_before sort) old
in_order sort old new apart moves up =
    weak_sorted_is (goes_before sort) (ranks sort) old new
    (none_tie (goes_before sort) (λ (c : Candidate). subject_id c.subject) (tied_ids sort) old apart) moves up

-- lists of the same candidates, of which no two have the same id, are the same in order
pub sorted_moved : (sort : Sort) (xs ys : List Candidate)
    → AllPairs (λ (a b : Candidate). subject_id a.subject ≢ subject_id b.subject) xs → IsPermutation xs ys
    → sorted_by (goes_before sort) xs ≡ sorted_by (goes_before sort) ys
sorted_moved sort xs ys apart moves =
    let order = order_of_all (goes_before sort) (ranks sort) in
    let distinct : IsDistinct (ties (goes_before sort)) xs =
    none_tie (goes_before sort) (λ (c : Candidate). subject_id c.subject) (tied_ids sort) xs apart in
    only_ascending order (sorted_by (goes_before sort) xs) (sorted_by (goes_before sort) ys)
    (for_all (sorted_by (goes_before sort) xs))
    (ascends_sorted_by order xs (for_all xs) distinct)
    (ascends_sorted_by order ys (for_all ys) (distinct_moved (goes_before sort) xs ys moves distinct))
    (IsPermutation-trans (sorted_by (goes_before sort) xs) xs (sorted_by (goes_before sort) ys)
    (IsPermutation-sym xs (sorted_by (goes_before sort) xs) (sorted_moves (goes_before sort) xs))
    (IsPermutation-trans xs ys (sorted_by (goes_before sort) ys) moves (sorted_moves (goes_before sort) ys)))

-- ---- the order of rows

pub subject_ids : (query_type : QueryType) (result_type : ResultType) (row : Row)
    → subject_id (subject_of query_type result_type row) ≡ row.id
subject_ids History Pages row = refl
subject_ids History Visits row = refl
subject_ids Bookmarks result_type row = refl

by_key : (store : Store) (key : SortKey) (r s : Row)
    → value_cmp (key_value store key r) (key_value store key s) ≡ key_cmp store key r s
by_key store Title r s = refl
by_key store Date r s = refl
by_key store Url r s = refl
by_key store VisitCount r s = refl
by_key store Added r s = refl
by_key store Modified r s = refl
by_key store Tags r s = refl
by_key store Frecency r s = refl

module _ (subject : Row → Subject) (ids : (row : Row) → subject_id (subject row) ≡ row.id) (store : Store) where
  by_ids : (r s : Row) → nat_cmp (subject_id (subject r)) (subject_id (subject s)) ≡ nat_cmp r.id s.id
  by_ids r s = rw (ids r, ids s) refl

  rows_alike : (sort : Sort) (r s : Row)
      → goes_before sort (candidate_of subject store sort r) (candidate_of subject store sort s)
      ≡ comes_before store sort r s
  rows_alike Unsorted r s = ap is_lt (by_ids r s)
  rows_alike (By key Ascending) r s =
      ap (λ (o : Ordering). is_lt (ordering_then o (nat_cmp (subject_id (subject r)) (subject_id (subject s)))))
      (by_key store key r s)
      ∙ ap (λ (o : Ordering). is_lt (ordering_then (key_cmp store key r s) o)) (by_ids r s)
  rows_alike (By key Descending) r s =
      ap (λ (o : Ordering).
      is_lt (ordering_then (ordering_reverse o) (nat_cmp (subject_id (subject r)) (subject_id (subject s)))))
      (by_key store key r s)
      ∙ ap (λ (o : Ordering). is_lt (ordering_then (ordering_reverse (key_cmp store key r s)) o)) (by_ids r s)

  -- candidates stand as their rows do
  pub rows_in_order : (sort : Sort) (rows : List Row)
      → sorted_by (goes_before sort) (map (candidate_of subject store sort) rows)
      ≡ map (candidate_of subject store sort) (sorted_by (comes_before store sort) rows)
  rows_in_order sort rows =
      sym (ap (map (candidate_of subject store sort))
      (sym (sorted_same
      (λ r s. goes_before sort (candidate_of subject store sort r) (candidate_of subject store sort s))
      (comes_before store sort) (rows_alike sort) rows))
      ∙ sorted_map (candidate_of subject store sort) (goes_before sort) rows)

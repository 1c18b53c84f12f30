-- Bookmarks that are found, put in order: they stand as the rows that they are of.
use Rattle.std.proofs.Common.{◌≡◌, ◌≢◌, ◌+◌, ◌<◌, ℕ, Bool, false, List, [], ◌∷◌, arith, get_or, length, map, subst, sym}
use Rattle.std.specs.Cmp.{IsStrictWeakOrder}
use Rattle.std.specs.List.{AllPairs}
use Rattle.std.specs.List.Sorted.{IsPermutation, IsSortedBy}
use Rattle.std.proofs.lemmas.List.{get_or-map, length-map}
use Rattle.std.proofs.lemmas.List.Sorted.{IsPermutation-map}
use Rattle.pl_base.specs.Sorting.{sorted_by}
use Rattle.pl_base.proofs.ListLaws.{AllPairs-map}
use Rattle.pl_place.specs.declared.sort.Sort.{Sort}
use Rattle.pl_query.specs.declared.ordering.Candidate.{Candidate}
use Rattle.pl_query.specs.Candidates.{goes_before}
use Rattle.pl_query.specs.Subjects.{subject_id}
use Rattle.pl_query.proofs.CandidateOrder.{in_order, ranks}
use Rattle.pl_marked.specs.declared.found.Found.{Found}
use Rattle.pl_marked.specs.Found.{found_candidate}

-- a bookmark comes before another
abbrev pub found_before : Sort → Found → Found → Bool
found_before sort a b = goes_before sort (found_candidate a) (found_candidate b)

pub found_ranks : (sort : Sort) → IsStrictWeakOrder (found_before sort)
found_ranks sort =
    record {
      one_way = λ a b. (ranks sort).one_way (found_candidate a) (found_candidate b);
      chain = λ a b c. (ranks sort).chain (found_candidate a) (found_candidate b) (found_candidate c);
    }

sorted_mapped : {X Y : Type 0} (f : X → Y) (before : Y → Y → Bool) (xs : List X)
    → IsSortedBy (λ x y. before (f x) (f y)) xs → IsSortedBy before (map f xs)
sorted_mapped f before [] up k e low within = absurd (omega (arith, within))
sorted_mapped {X = X} {Y = Y} f before (x ∷ xs) up k e low within =
    subst (λ (y : Y). before y (get_or (map f (x ∷ xs)) k e) ≡ false)
    (sym (get_or-map f (x ∷ xs) (k + 1) x e inside))
    (subst (λ (y : Y). before (f (get_or (x ∷ xs) (k + 1) x)) y ≡ false)
    (sym (get_or-map f (x ∷ xs) k x e (omega (arith, inside))))
    (up k x low inside))
  where
    inside : k + 1 < length (x ∷ xs)
    inside = subst (λ (n : ℕ). k + 1 < n) (length-map (x ∷ xs) f) within

pub found_in_order : (sort : Sort) (old new : List Found)
    → AllPairs (λ (a b : Found). a.item.0 ≢ b.item.0) old → IsPermutation old new
    → IsSortedBy (found_before sort) new
    → map found_candidate new ≡ sorted_by (goes_before sort) (map found_candidate old)
found_in_order sort old new apart moves up =
    in_order sort (map found_candidate old) (map found_candidate new)
    (AllPairs-map (λ (a b : Candidate). subject_id a.subject ≢ subject_id b.subject) found_candidate old apart)
    (IsPermutation-map found_candidate old new moves)
    (sorted_mapped found_candidate (goes_before sort) new up)

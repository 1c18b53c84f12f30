-- Visits that are found, put in order and cut.
use Rattle.std.proofs.Common.{◌≡◌, ◌∙◌, ℕ, Bool, false, List, ap, map, sym, take}
use Rattle.std.specs.Cmp.{IsStrictWeakOrder}
use Rattle.std.specs.List.{IsDistinct}
use Rattle.std.specs.List.Sorted.{IsPermutation, IsSortedBy, ties}
use Rattle.std.proofs.lemmas.List.{take-map}
use Rattle.std.proofs.lemmas.List.Sorted.{ranks_by}
use Rattle.std.proofs.lemmas.Map.Keys.{IsDistinct-from_apart, apart_from_distinct}
use Rattle.pl_base.proofs.ListLaws.{AllPairs-from_map}
use Rattle.pl_base.proofs.SortLaws.{sorted_map, weak_sorted_is}
use Rattle.pl_dated.specs.declared.first.FoundVisit.{FoundVisit}
use Rattle.pl_dated.specs.Latest.{AreApart, first_seen, seen, seen_before}
use Rattle.pl_dated.proofs.SeenOrder.{seen_total}

-- a visit that is found comes before another
abbrev pub found_before : FoundVisit → FoundVisit → Bool
found_before a b = seen_before (seen a) (seen b)

pub found_ranks : IsStrictWeakOrder found_before
found_ranks = ranks_by seen_total seen

distinct_of_map : {X Y : Type 0} (test : Y → Y → Bool) (f : X → Y) (xs : List X) → IsDistinct test (map f xs)
    → IsDistinct (λ x y. test (f x) (f y)) xs
distinct_of_map test f xs distinct =
    IsDistinct-from_apart (λ x y. test (f x) (f y)) xs
    (AllPairs-from_map (λ y z. test y z ≡ false) f xs
    (λ i j d less within. apart_from_distinct test (map f xs) i j d distinct less within))

pub cut_is : (most : ℕ) (old sorted new : List FoundVisit) → IsPermutation old sorted → IsSortedBy found_before sorted
    → new ≡ take most sorted → AreApart (map seen old) → map seen new ≡ first_seen most (map seen old)
cut_is most old sorted new moves up cut apart =
    ap (map seen) cut
    ∙ sym (take-map seen most sorted)
    ∙ ap (take most)
    (ap (map seen)
    (weak_sorted_is found_before found_ranks old sorted (distinct_of_map (ties seen_before) seen old apart) moves up)
    ∙ sorted_map seen seen_before old)

-- Ids that ascend and lie below the next one, where some of their rows go or change, or one row
-- more has the next id.
use Rattle.std.proofs.Common.{◌≡◌, ◌<◌, ◌≤◌, ◌+◌, ◌++◌, ◌==◌, ◌∙◌, ℕ, All, Bool, true, List, [], ◌∷◌, Option, Some}
use Rattle.std.proofs.Common.{None, arith, filter, find, map, refl, subst, sym}
use Rattle.std.specs.List.{AllPairs, list_any}
use Rattle.std.specs.List.Sorted.{IsStrictlyIncreasing}
use Rattle.std.specs.Option.{IsSome}
use Rattle.std.proofs.lemmas.Bool.{eqb-true, false≢true}
use Rattle.std.proofs.lemmas.List.{map_push}
use Rattle.std.proofs.lemmas.List.Elements.{All-filter, All-map, All-push, All-weaker, recursion_from_All}
use Rattle.std.proofs.lemmas.List.Kept.{AllPairs-filter, AllPairs-from_increasing}
use Rattle.std.proofs.lemmas.List.Quantifiers.{all_pairs_push}
use Rattle.pl_base.specs.Good.{AreIds, end_of_ids}
use Rattle.pl_base.proofs.ListLaws.{All-from_map, AllPairs-from_map, AllPairs-map, found_in, map-alike, map-map}
use Rattle.pl_base.proofs.LookUps.{found_holds, found_passes}

-- as `AreIds` has it, but for the end of ids
pub record AreNumbered (first next : ℕ) (ids : List ℕ) : Type 0 where
  pub ascending : IsStrictlyIncreasing ids
  pub given : All (λ id. (0 < id) × (id < next)) ids
  pub next_first : first ≤ next

pub numbered : (first next : ℕ) (ids : List ℕ) → AreIds first next ids → AreNumbered first next ids
numbered first next ids h = record { ascending = h.ascending; given = h.given; next_first = h.next_first }

pub are_ids : (first next : ℕ) (ids : List ℕ) → AreNumbered first next ids → next ≤ end_of_ids → AreIds first next ids
are_ids first next ids h last =
    record { ascending = h.ascending; given = h.given; next_first = h.next_first; next_last = last }

increasing : (ns : List ℕ) → AllPairs (λ m n. m < n) ns → IsStrictlyIncreasing ns
increasing ns pairs k within = pairs k (k + 1) 0 (omega arith) within

-- a number that one row has lies below, where those of all do
pub one_below : {X : Type 0} (key : X → ℕ) (next n : ℕ) (xs : List X) → All (λ x. key x < next) xs
    → list_any (λ x. key x == n) xs ≡ true → n < next
one_below {X} key next n xs all some =
    choose (find (λ x. key x == n) xs) refl (found_in (λ x. key x == n) xs some)
  where
    choose : (o : Option X) → find (λ x. key x == n) xs ≡ o → IsSome o → n < next
    choose None at none = absurd (false≢true none)
    choose (Some x) at there =
        subst (λ m. m < next) (eqb-true (key x) n (found_passes (λ y. key y == n) xs x at))
        (found_holds (λ y. key y < next) (λ y. key y == n) xs x
        (recursion_from_All (λ y. key y < next) xs all) at)

module _ {X : Type 0} (key : X → ℕ) (first next : ℕ) (xs : List X) (ids : AreNumbered first next (map key xs)) where
  each_given : All (λ x. (0 < key x) × (key x < next)) xs
  each_given = All-from_map (λ n. (0 < n) × (n < next)) key xs ids.given

  pub each_below : All (λ x. key x < next) xs
  each_below k d within = (each_given k d within).1

  pub some_left : (test : X → Bool) → AreNumbered first next (map key (filter test xs))
  some_left test =
      record {
        ascending =
            increasing (map key (filter test xs))
            (AllPairs-map (λ m n. m < n) key (filter test xs)
            (AllPairs-filter (λ x y. key x < key y) test xs
            (AllPairs-from_map (λ m n. m < n) key xs (AllPairs-from_increasing (map key xs) ids.ascending))));
        given =
            All-map (λ n. (0 < n) × (n < next)) key (filter test xs)
            (All-filter test (λ x. (0 < key x) × (key x < next)) xs each_given);
        next_first = ids.next_first;
      }

  pub some_changed : (change : X → X) → ((x : X) → key (change x) ≡ key x)
      → AreNumbered first next (map key (map change xs))
  some_changed change same =
      subst (AreNumbered first next) (sym (map-map key change xs ∙ map-alike (λ x. key (change x)) key xs same)) ids

  pub one_more : (x : X) → key x ≡ next → 0 < next → AreNumbered first (next + 1) (map key (xs ++ x ∷ []))
  one_more x is some =
      subst (AreNumbered first (next + 1)) (sym (map_push key xs x))
      (record {
        ascending =
            increasing (map key xs ++ key x ∷ [])
            (all_pairs_push (λ m n. m < n) (map key xs) (key x) (AllPairs-from_increasing (map key xs) ids.ascending)
            (λ k d within. omega (arith, (ids.given k d within).1, is)));
        given =
            All-push (λ n. (0 < n) × (n < next + 1)) (map key xs) (key x)
            (All-weaker (λ n. (0 < n) × (n < next)) (λ n. (0 < n) × (n < next + 1))
            (λ n both. (both.0, omega (arith, both.1))) (map key xs) ids.given)
            (omega (arith, is), omega (arith, is));
        next_first = omega (arith, ids.next_first);
      })

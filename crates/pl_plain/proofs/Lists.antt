-- Facts of ids in a list.
use Rattle.std.proofs.Common.{◌≡◌, ◌≢◌, ◌+◌, ◌<◌, ◌≤◌, ◌++◌, ℕ, All, List, [], ◌∷◌, arith, inl, inr, length}
use Rattle.std.specs.List.Sorted.{IsStrictlyIncreasing}
use Rattle.std.proofs.lemmas.Bool.{cases_lt}
use Rattle.std.proofs.lemmas.List.{get_or_append_left, get_or_push, length_push}
use Rattle.std.proofs.lemmas.List.Elements.{All-push, All-weaker}
use Rattle.pl_base.specs.Good.{AreIds, end_of_ids}

pub IsStrictlyIncreasing_push : (ids : List ℕ) (n : ℕ) → IsStrictlyIncreasing ids → All (λ id. id < n) ids
    → IsStrictlyIncreasing (ids ++ n ∷ [])
IsStrictlyIncreasing_push ids n ascending below k within =
    let whole : k + 1 < length ids + 1 = rw (length_push ids n) at within in
    let first : k < length ids = omega arith in
    elim (cases_lt (k + 1) (length ids)) [
      | inl inside ↦ rw (get_or_append_left ids (n ∷ []) 0 k first, get_or_append_left ids (n ∷ []) 0 (k + 1) inside)
          (ascending k inside)
      | inr past ↦
          let last : length ids ≡ k + 1 = omega arith in
          rw (get_or_append_left ids (n ∷ []) 0 k first, get_or_push ids n 0 (k + 1) last) (below k 0 first)
    ]

-- the next id at the end
pub AreIds_push : (first next : ℕ) (ids : List ℕ) → 0 < first → next ≢ end_of_ids → AreIds first next ids
    → AreIds first (next + 1) (ids ++ next ∷ [])
AreIds_push first next ids some room h =
    let low : first ≤ next = h.next_first in
    let high : next ≤ end_of_ids = h.next_last in
    record {
      ascending =
          IsStrictlyIncreasing_push ids next h.ascending
          (All-weaker (λ id. (0 < id) × (id < next)) (λ id. id < next) (λ id given. given.1) ids h.given);
      given =
          All-push (λ id. (0 < id) × (id < next + 1)) ids next
          (All-weaker (λ id. (0 < id) × (id < next)) (λ id. (0 < id) × (id < next + 1))
          (λ id given. (given.0, omega (arith, given.1))) ids h.given)
          (omega arith, omega arith);
      next_first = omega arith;
      next_last = omega arith;
    }

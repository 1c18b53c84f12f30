-- Ids by their numbers. They ascend from 1 on, so there are fewer than the next one.
use Rattle.std.proofs.Common.{◌≡◌, ◌+◌, ◌<◌, ◌==◌, ℕ, List, true, ap, arith, get_or, length, subst, suc, zero}
use Rattle.std.proofs.lemmas.Bool.{eqb-true}
use Rattle.pl_base.specs.declared.id.PageId.{PageId}
use Rattle.pl_base.specs.declared.id.Slot.{Slot}
use Rattle.pl_base.specs.Good.{AreIds, end_of_ids}

pub same_page_number : (a b : PageId) → a.0 ≡ b.0 → a ≡ b
same_page_number a b same = ap (λ (n : ℕ). record { 0 = n }) same

pub same_page : (a b : PageId) → (a.0 == b.0) ≡ true → a ≡ b
same_page a b h = same_page_number a b (eqb-true a.0 b.0 h)

pub same_slot : (a b : Slot) → a.0 ≡ b.0 → a ≡ b
same_slot a b same = ap (λ (n : ℕ). record { 0 = n }) same

pub climbs : (ids : List ℕ) (next k : ℕ) → AreIds 1 next ids → k < length ids → k < get_or ids k 0
climbs ids next zero h within = (h.given 0 0 within).0
climbs ids next (suc k) h within =
    let below : k < get_or ids k 0 = climbs ids next k h (omega arith) in
    let step : get_or ids k 0 < get_or ids (k + 1) 0 = h.ascending k (omega arith) in
    let P : ℕ → Type 0 = λ j. suc k < get_or ids j 0 in
    let next_index : k + 1 ≡ suc k = omega arith in
    subst P next_index (omega arith)

pub few_ids : (ids : List ℕ) (next n : ℕ) → AreIds 1 next ids → length ids ≡ n → n < end_of_ids
few_ids ids next zero h len = omega arith
few_ids ids next (suc n) h len =
    let above : n < get_or ids n 0 = climbs ids next n h (omega arith) in
    let below : get_or ids n 0 < next = (h.given n 0 (omega arith)).1 in
    omega (arith, h.next_last)

use Rattle.std.proofs.Common.{◌≡◌, ◌∙◌, ◌-◌, ◌≤◌, arith, inl, inr, IsSome, subst}
use Rattle.std.proofs.lemmas.Bool.{cases_lt}
use Rattle.pl_slot.specs.Arena.{is_free, row_at}
use Rattle.pl_slot.proofs.ChainCount.{counted_all}
use Rattle.pl_slot.proofs.CountLaws.{byte_is, count_on, one_at_most, passed_le}
use Rattle.pl_slot.proofs.checking.count_free.Goals as goal

pub overflow_add-free : goal.overflow_add-free
overflow_add-free c =
    let free : c.loop-slot.free ≤ c.loop-slot.slot - 1 =
    rw c.loop-slot.invariant.counted (passed_le (λ n. is_free n c.args.sheets.now) 1 (c.loop-slot.slot - 1)) in
    let one : c.from-free.result ≤ 1 =
    rw (c.from-free.ensures ∙ byte_is c.in_ok-is_free.is_free) (one_at_most c.in_ok-is_free.is_free) in
    omega arith

pub loop-slot-preserved : goal.loop-slot-preserved
loop-slot-preserved c =
    record {
      from = omega arith;
      rows = λ n above below. elim (cases_lt n c.loop-slot.slot) [
        | inl before ↦ c.loop-slot.invariant.rows n above before
        | inr past ↦
            let here : c.loop-slot.slot ≡ n = omega arith in
            subst (λ k. IsSome (row_at k c.args.sheets.now)) here c.in_ok-is_free.ensures.row
      ];
      counted =
          count_on (λ n. is_free n c.args.sheets.now) c.loop-slot.slot c.loop-slot.free c.from-free.result
          c.in_ok-is_free.is_free c.loop-slot.invariant.from c.loop-slot.invariant.counted
          (c.from-free.ensures ∙ byte_is c.in_ok-is_free.is_free) c.in_ok-is_free.ensures.free;
    }

pub returns-clause-free : goal.returns-clause-free
returns-clause-free c =
    counted_all c.args.sheets.now c.loop-slot.slot c.loop-slot.free c.loop-slot.invariant.counted (omega arith)

use Rattle.std.proofs.Common.{◌≡◌, ℕ, arith, below_more, get_or, length, rules, true}
use Rattle.std.specs.Char.{is_digit}
use Rattle.pl_nbread.proofs.ReferenceSteps.{counted}
use Rattle.pl_nbread.proofs.references.digit_count.Goals as goal

pub loop-count-preserved : goal.loop-count-preserved
loop-count-preserved c =
    let digit : is_digit (get_or c.args.text.now c.loop-count.count 0) c.args.radix ≡ true = search rules in
    below_more (λ (k : ℕ). is_digit (get_or c.args.text.now k 0) c.args.radix ≡ true) _ c.loop-count.invariant digit

pub returns-then-not-is_digit : goal.returns-then-not-is_digit
returns-then-not-is_digit c =
    counted c.args.text.now c.args.radix c.loop-count.count (omega arith) c.loop-count.invariant (λ _. search rules)

pub returns : goal.returns
returns c =
    counted c.args.text.now c.args.radix (length c.args.text.now) (omega arith) (search rules)
    (λ below. absurd (omega arith))

use Rattle.std.specs.List.{All}
use Rattle.std.proofs.Common.{◌≡◌, ◌≤◌, ◌<◌, true, ℕ}
use Rattle.pl_base.specs.Touched.{has_number, page_numbers}
use Rattle.trials_gate.proofs.gate.touch_added.Given as goal

-- all pages up to this one are among those that are touched
abbrev pub invariant-loop-page : goal.invariant-loop-page
invariant-loop-page g l =
    let old = l.initial.touched in
    record {
      below : All (λ n. n < old.after) (page_numbers old.pages)
          → All (λ n. n < old.after) (page_numbers l.touched.pages);
      added : (n : ℕ) → l.case.before ≤ n → n < l.page → has_number n l.touched.pages ≡ true;
      before : l.touched.before ≡ old.before;
      after : l.touched.after ≡ old.after;
    }

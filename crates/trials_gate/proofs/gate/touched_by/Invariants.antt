use Rattle.std.specs.List.{All}
use Rattle.std.proofs.Common.{◌≡◌, ◌<◌}
use Rattle.pl_base.specs.Touched.{page_numbers}
use Rattle.trials_gate.proofs.gate.touched_by.Given as goal

abbrev pub invariant-loop-page : goal.invariant-loop-page
invariant-loop-page g l = record {
  before : l.touched.before ≡ l.case.before;
  after : l.touched.after ≡ l.case.after;
  below : All (λ n. n < l.touched.after) (page_numbers l.touched.pages);
}

use Rattle.std.proofs.Common.{◌≡◌, map, take}
use Rattle.pl_indexed.specs.Answer.{row_of_view}
use Rattle.pl_indexed.specs.declared.found.Found.{Found}
use Rattle.pl_indexed.proofs.answered.result_rows.Given as goal

abbrev pub invariant-loop-page : goal.invariant-loop-page
invariant-loop-page l = l.rows.items ≡ map (λ (f : Found). row_of_view f.view.now) (take l.page-index l.found)

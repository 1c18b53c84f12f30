use Rattle.pl_marked.proofs.RowsTold.{AreTold}
use Rattle.pl_marked.proofs.answered.result_rows.Given as goal

abbrev pub invariant-loop-mark : goal.invariant-loop-mark
invariant-loop-mark g l = AreTold (g.R.Rows.kept l.rows) l.found l.mark-index l.told.items

use Rattle.pl_query.proofs.AnsweredRows.{AreTold}
use Rattle.pl_query.proofs.answered.result_rows.Given as goal

abbrev pub invariant-loop-candidate : goal.invariant-loop-candidate
invariant-loop-candidate g l = AreTold (g.R.Rows.kept l.rows) l.candidates l.candidate-index l.told.items

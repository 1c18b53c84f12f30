use Rattle.pl_base.specs.Good.{HasGoodItems}
use Rattle.pl_base.specs.Rows.{store_of}
use Rattle.rows_main.proofs.build.fill.Given as goal

abbrev pub invariant-loop-number : goal.invariant-loop-number
invariant-loop-number g l = HasGoodItems (store_of (g.R.Rows.kept l.rows))

use Rattle.pl_base.specs.Good.{HasGoodItems}
use Rattle.pl_base.specs.Rows.{store_of}
use Rattle.rows_main.proofs.work.rounds.Given as goal

abbrev pub invariant-loop-turn : goal.invariant-loop-turn
invariant-loop-turn g l = HasGoodItems (store_of (g.R.Rows.kept l.rows))

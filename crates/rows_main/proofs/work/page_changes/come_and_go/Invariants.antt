use Rattle.std.proofs.Common.{None}
use Rattle.pl_history.specs.declared.find.Target.TheVariants.{New}
use Rattle.pl_history.specs.Target.{IsTargetOf}
use Rattle.rows_main.proofs.work.page_changes.come_and_go.Given as goal

abbrev pub invariant-loop-turn : goal.invariant-loop-turn
invariant-loop-turn g l = IsTargetOf (g.R.Rows.kept l.rows) l.url (New None)

use Rattle.std.proofs.Common.{length}
use Rattle.pl_base.specs.Tree.{reference_behind}
use Rattle.pl_base.proofs.ReferencesRun.{having}
use Rattle.pl_base.proofs.Walk.{left}
use Rattle.pl_bar.proofs.ItemsWanted.{Searches}
use Rattle.pl_bar.proofs.items.has_wanted.Given as goal

abbrev pub invariant-loop-next : goal.invariant-loop-next
invariant-loop-next g l =
    Searches (g.R.Rows.kept l.rows) l.fn.page l.fn.wanted l.wanted l.fn.steps l.steps l.next

abbrev pub decreases-loop-next : goal.decreases-loop-next
decreases-loop-next g l = left (reference_behind (g.R.Rows.kept l.rows).items)
    (length (having (g.R.Rows.kept l.rows).items l.fn.page)) l.next

use Rattle.std.proofs.Common.{arith, subst, sym}
use Rattle.pl_base.specs.Good.{IsTitle}
use Rattle.trials_checks.proofs.tables.title_of.Goals as goal

pub returns : goal.returns
returns c = subst IsTitle (sym c.in_ok-copied.ensures) (c.utf8.title, omega arith)

use Rattle.std.proofs.Common.{arith}
use Rattle.pl_slot.proofs.ChainCount.{none_behind}
use Rattle.pl_slot.proofs.checking.behind.Goals as goal

pub returns-then-slot-eq0 : goal.returns-then-slot-eq0
returns-then-slot-eq0 c = none_behind c.args.slot.0 c.args.sheets.now (λ some within. omega arith)

pub returns-then-slot-count : goal.returns-then-slot-count
returns-then-slot-count c = none_behind c.args.slot.0 c.args.sheets.now (λ some within. omega arith)

use Rattle.std.specs.List.{All}
use Rattle.pl_base.specs.Good.{IsTitle}
use Rattle.pl_base.specs.Store.{Item}
use Rattle.trials_checks.proofs.tables.stored_items.Given as goal

abbrev pub invariant-loop-item : goal.invariant-loop-item
invariant-loop-item l = All (λ (i : Item). IsTitle i.title) l.rows.items

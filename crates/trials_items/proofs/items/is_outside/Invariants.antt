use Rattle.std.proofs.Common.{◌≡◌, ◌-◌, length}
use Rattle.pl_base.specs.Tree.{lies_in}
use Rattle.trials_items.proofs.ItemLemmas.{is_above}
use Rattle.trials_items.proofs.items.is_outside.Given as goal

abbrev pub invariant-loop-step : goal.invariant-loop-step
invariant-loop-step g l =
    lies_in l.flat.items l.item l.fn.parent ≡ is_above l.flat.items l.item (length l.flat.items - l._step) l.next

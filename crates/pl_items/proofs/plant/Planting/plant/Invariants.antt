use Rattle.std.proofs.Common.{◌≡◌, List, count_by, map}
use Rattle.std.specs.List.Sorted.{IsStrictlyIncreasing}
use Rattle.std.specs.Option.{is_some}
use Rattle.pl_base.specs.Store.{Item}
use Rattle.pl_items.specs.TakenOut.{waiting_ids, waiting_row}
use Rattle.pl_items.specs.declared.plant.Waiting.{Waiting}
use Rattle.pl_items.proofs.PlantSteps.{IsPlanting}
use Rattle.pl_items.proofs.plant.Planting.plant.Given as goal

abbrev pub invariant-loop-next : goal.invariant-loop-next
invariant-loop-next l =
    IsStrictlyIncreasing (waiting_ids l.self.waiting.items)
    × ((items : List Item) → l.fn.self.waiting.items ≡ map waiting_row items
    → IsPlanting items l.self.waiting.items l.self.nodes.items l.self.pending.items l.next)

abbrev pub decreases-loop-next : goal.decreases-loop-next
decreases-loop-next l = count_by (λ (w : Waiting). is_some w.item) l.self.waiting.items

use Rattle.std.proofs.lemmas.List.Sorted.{IsNonDecreasingBy-from_sort}
use Rattle.pl_base.specs.declared.id.Slot.{Slot}
use Rattle.pl_owned.proofs.in_any_order.by_number.Goals as goal

pub returns-clause-sorted : goal.returns-clause-sorted
returns-clause-sorted c =
    IsNonDecreasingBy-from_sort (λ (s : Slot). s.0) c.sort_unstable.new.self.items c.sort_unstable.ensures.sorted

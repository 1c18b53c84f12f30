use Rattle.std.proofs.Common.{◌≡◌, ◌++◌, map, take}
use Rattle.pl_base.specs.declared.id.ItemId.{ItemId}
use Rattle.pl_items.proofs.plant.push_children.Given as goal

abbrev pub invariant-loop-child : goal.invariant-loop-child
invariant-loop-child l =
    l.pending.items ≡ l.initial.pending.items
    ++ map (λ (c : ItemId). record { parent = l.parent; id = c }) (take l.child-index l.children)

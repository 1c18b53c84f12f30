use Rattle.std.proofs.Common.{arith}
use Rattle.std.proofs.lemmas.Grind.{common_steps}
use Rattle.pl_items.proofs.Counts.{few_children, length-items_of}
use Rattle.pl_items.proofs.items.Items.len.Goals as goal

pub returns-clause-len : goal.returns-clause-len
returns-clause-len c =
    rw (← c.self.view_is, length-items_of c.self.inside.nodes.items) (grind (arith, common_steps))

pub returns-clause-children : goal.returns-clause-children
returns-clause-children c =
    rw (← c.self.view_is) (few_children c.self.inside.nodes.items c.self.invariant)

use Rattle.std.proofs.Common.{None}
use Rattle.pl_byid.proofs.Told.{others, removed_right}
use Rattle.pl_byid.proofs.index.SlotIndex.remove.Goals as goal

pub invariant_of-self : goal.invariant_of-self
invariant_of-self c =
    let before = c.self.inside.map in
    removed_right before.entries c.remove.new.self.entries c.self.inside.run c.set.new.self c.args.id
    (others before c.remove.new.self c.args.id None c.remove.ensures.updates) c.self.invariant c.set.ensures

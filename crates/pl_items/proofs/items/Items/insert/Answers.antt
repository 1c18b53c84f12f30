use Rattle.pl_items.proofs.Appended.{placed_are, placed_items}
use Rattle.pl_items.proofs.items.Items.insert.Goals as goal

pub invariant_of-self-2 : goal.invariant_of-self-2
invariant_of-self-2 c =
    placed_are c.args.id c.args.row.now c.args.title c.args.after c.self.inside.nodes.items c.insert.new.self.items
    c.place_for-place.result c.self.invariant (rw c.self.view_is c.requires.new) (rw c.self.view_is c.requires.parent)
    (rw c.deref.ensures.value at c.place_for-place.ensures.end)
    (rw c.deref.ensures.value at c.place_for-place.ensures.behind) c.in_ok-insert.ensures.items

pub returns-clause-inserted : goal.returns-clause-inserted
returns-clause-inserted c =
    rw (← c.self.view_is)
    (placed_items c.args.id c.args.row.now c.args.title c.args.after c.self.inside.nodes.items
    c.insert.new.self.items c.place_for-place.result c.self.invariant (rw c.self.view_is c.requires.new)
    (rw c.self.view_is c.requires.parent) (rw c.deref.ensures.value at c.place_for-place.ensures.end)
    (rw c.deref.ensures.value at c.place_for-place.ensures.behind) c.in_ok-insert.ensures.items
    (rw c.self.view_is c.requires.after))

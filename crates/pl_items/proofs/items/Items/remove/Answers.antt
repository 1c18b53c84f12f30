use Rattle.std.proofs.Common.{◌∙◌, ap, sym}
use Rattle.std.specs.List.{position}
use Rattle.pl_items.proofs.IdOrder.{has_id}
use Rattle.pl_items.proofs.Children.{distinct_nodes}
use Rattle.pl_items.proofs.Changes.{removed_are, removed_items}
use Rattle.pl_items.proofs.Lookups.{not_nowhere}
use Rattle.pl_items.proofs.Places.{remove_at}
use Rattle.pl_items.proofs.items.Items.remove.Goals as goal

pub invariant_of-self : goal.invariant_of-self
invariant_of-self c =
    removed_are c.args.id c.self.inside.nodes.items c.remove.new.self.items c.self.invariant
    (rw c.self.view_is c.requires.leaf)
    (c.remove.ensures.items
    ∙ remove_at c.args.id c.self.inside.nodes.items c.in-Some.place
    (distinct_nodes c.self.inside.nodes.items c.self.invariant)
    (ap (position (has_id c.args.id)) (sym c.deref.ensures.value) ∙ sym c.place_of.ensures ∙ c.in-Some.is))

pub returns-in-Some : goal.returns-in-Some
returns-in-Some c =
    rw (← c.self.view_is)
    (removed_items c.args.id c.self.inside.nodes.items c.remove.new.self.items c.self.invariant
    (rw c.self.view_is c.requires.item)
    (c.remove.ensures.items
    ∙ remove_at c.args.id c.self.inside.nodes.items c.in-Some.place
    (distinct_nodes c.self.inside.nodes.items c.self.invariant)
    (ap (position (has_id c.args.id)) (sym c.deref.ensures.value) ∙ sym c.place_of.ensures ∙ c.in-Some.is)))

pub returns-in_default : goal.returns-in_default
returns-in_default c =
    absurd (not_nowhere c.args.id c.self.inside.nodes.items (rw c.self.view_is c.requires.item)
    (ap (position (has_id c.args.id)) (sym c.deref.ensures.value) ∙ sym c.place_of.ensures ∙ c.in_default.is))

use Rattle.std.proofs.Common.{ℕ, ◌++◌, List, Option, Some, ◌≡◌, ◌≢◌, ◌∙◌, IfSome, ap, arith, find, get_or, length}
use Rattle.std.proofs.Common.{length-set, set, sym, take, drop}
use Rattle.std.specs.List.{insert, position, remove}
use Rattle.pl_base.specs.declared.id.ItemId.{ItemId}
use Rattle.pl_items.specs.declared.node.Node.{Node}
use Rattle.pl_items.specs.Nodes.{AreNodes, place_behind, place_then, put_node}
use Rattle.pl_items.proofs.IdOrder.{has_id, without}
use Rattle.pl_items.proofs.Children.{distinct_nodes}
use Rattle.pl_items.proofs.Changes.{moved_are, moved_items, moving, other_ids}
use Rattle.pl_items.proofs.Lookups.{find_at_place, not_nowhere}
use Rattle.pl_items.proofs.Places.{moved_at}
use Rattle.pl_items.proofs.Turns.{written_over}
use Rattle.pl_items.proofs.items.Items.move_to.Goals as goal

turned : (id parent : ItemId) (after : Option ItemId) (n : Node) (ns xs ys zs : List Node) (k place len : ℕ)
    → AreNodes ns → position (has_id id) ns ≡ Some k → IfSome after (λ a. a ≢ id) → n ≡ get_or ns k n
    → xs ≡ set ns k (moving parent n) → place ≡ place_behind after ys → ys ≡ ns
    → ((d : Node) → zs ≡ insert (remove xs k) (place_then k place) (get_or xs k d)) → length zs ≡ len → length ns ≡ len
    → take len (zs ++ drop (length zs) (set ns k (moving parent n)))
    ≡ put_node after (moving parent n) (without id ns)
turned id parent after n ns xs ys zs k place len are found other at written behind same is size all =
    written_over len (set ns k (moving parent n)) zs size (omega (arith, length-set ns k (moving parent n)))
    ∙ is n
    ∙ ap (λ ms. insert (remove ms k) (place_then k place) (get_or ms k n)) written
    ∙ ap (λ p. insert (remove (set ns k (moving parent n)) k) (place_then k p)
    (get_or (set ns k (moving parent n)) k n)) (behind ∙ ap (place_behind after) same)
    ∙ moved_at id after (moving parent n) n ns k (distinct_nodes ns are) found other

place_found : (c : goal.After-self-in-Some-1)
    → position (has_id c.args.id) c.self.inside.nodes.items ≡ Some c.in-Some.from
place_found c = ap (position (has_id c.args.id)) (sym c.deref.ensures.value) ∙ sym c.place_of.ensures ∙ c.in-Some.is

node_found : (c : goal.After-self-in-Some-1)
    → find (has_id c.args.id) c.self.inside.nodes.items ≡ Some c.index_mut.result.now
node_found c =
    find_at_place (has_id c.args.id) c.self.inside.nodes.items c.in-Some.from c.index_mut.result.now (place_found c)
    ∙ ap (λ (n : Node). Some n) (sym c.index_mut.ensures.value)

turned_nodes : (c : goal.After-self-in-Some-1)
    → take c.self.inside.nodes.len (c.turn.new.nodes ++ drop (length c.turn.new.nodes)
    (set c.self.inside.nodes.items c.in-Some.from (moving c.args.parent c.index_mut.result.now)))
    ≡ put_node c.args.after (moving c.args.parent c.index_mut.result.now) (without c.args.id c.self.inside.nodes.items)
turned_nodes c =
    let all : length c.self.inside.nodes.items ≡ c.self.inside.nodes.len =
    omega (arith, ap length c.deref.ensures.value, c.deref.ensures.len) in
    turned c.args.id c.args.parent c.args.after c.index_mut.result.now c.self.inside.nodes.items c.deref_mut.result.now
    c.deref-in-Some.result.now c.turn.new.nodes c.in-Some.from c.place_behind-place.result c.self.inside.nodes.len
    c.self.invariant (place_found c)
    (other_ids c.args.id c.args.parent c.args.self.now c.args.after c.requires.after) c.index_mut.ensures.value
    c.deref_mut.ensures.value c.place_behind-place.ensures c.deref-in-Some.ensures.value c.turn.ensures
    (omega (
      arith,
      c.turn.auto.nodes,
      ap length c.deref_mut.ensures.value,
      length-set c.self.inside.nodes.items c.in-Some.from (moving c.args.parent c.index_mut.result.now),
      all,
    )) all

pub invariant_of-self : goal.invariant_of-self
invariant_of-self c =
    moved_are c.args.id c.args.parent c.args.after c.index_mut.result.now c.self.inside.nodes.items _ c.self.invariant
    (node_found c) (rw c.self.view_is c.requires.parent) (turned_nodes c)

pub returns-in-Some : goal.returns-in-Some
returns-in-Some c =
    rw (← c.self.view_is)
    (moved_items c.args.id c.args.parent c.args.after c.index_mut.result.now c.self.inside.nodes.items _
    c.self.invariant (node_found c) (rw c.self.view_is c.requires.after) (turned_nodes c))

pub returns-in_default : goal.returns-in_default
returns-in_default c =
    absurd (not_nowhere c.args.id c.self.inside.nodes.items (rw c.self.view_is c.requires.item)
    (ap (position (has_id c.args.id)) (sym c.deref.ensures.value) ∙ sym c.place_of.ensures ∙ c.in_default.is))

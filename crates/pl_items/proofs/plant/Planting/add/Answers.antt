use Rattle.std.proofs.Common.{◌≡◌, ◌++◌, ◌∙◌, Option, Some, ap, map, sym}
use Rattle.std.specs.List.{flat_map}
use Rattle.std.specs.Option.{option_to_list}
use Rattle.std.proofs.lemmas.List.{append-nil}
use Rattle.pl_base.specs.declared.id.ItemId.{ItemId}
use Rattle.pl_base.specs.Store.{Item}
use Rattle.pl_items.specs.TakenOut.{children_rows, item_waiting, node_of}
use Rattle.pl_items.specs.declared.by_id.Child.{Child}
use Rattle.pl_items.proofs.plant.Planting.add.Goals as goal
use Rattle.pl_items.proofs.plant.Planting.add.Goals.{After-drop-item-inside-2}

-- the item that waited, of which the node is made
item : After-drop-item-inside-2 → Item
item c =
    record {
      id = c.item.inside.id;
      kind = c.item.inside.kind;
      title = c.item.inside.title;
      page = c.item.inside.page;
      added = c.item.inside.added;
      modified = c.item.inside.modified;
      children = c.item.inside.children.items;
    }

waited : (c : After-drop-item-inside-2) → Some (item c) ≡ item_waiting c.args.self.now.waiting.items c.args.id
unfolding item
waited c =
    ap (λ (i : Item). Some i) c.item.view_is
    ∙ c.in-Some.ensures.item
    ∙ ap (λ rows. item_waiting rows c.args.id) c.deref_mut.ensures.value

pub returns-clause-nodes : goal.returns-clause-nodes
unfolding item
returns-clause-nodes c =
    c.in_ok-push.ensures.items
    ∙ ap (λ (o : Option Item). c.args.self.now.nodes.items ++ map (node_of c.args.parent) (option_to_list o)) (waited c)

pub returns-clause-pending : goal.returns-clause-pending
unfolding item
returns-clause-pending c =
    let pending = c.args.self.now.pending.items in
    let row : ItemId → Child = λ k. record { parent = c.item.inside.id; id = k } in
    c.in_ok-push_children.ensures
    ∙ ap (λ ids. pending ++ map row ids) c.deref.ensures.value
    ∙ ap (λ rows. pending ++ rows) (sym (append-nil (children_rows (item c))))
    ∙ ap (λ (o : Option Item). pending ++ flat_map children_rows (option_to_list o)) (waited c)

use Rattle.std.proofs.Common.{◌≡◌, ◌∙◌, [], ◌∷◌, List, ap, length, refl, subst, sym}
use Rattle.pl_base.specs.Rows.{Kept, store_of}
use Rattle.pl_base.specs.Store.{item_id}
use Rattle.pl_base.specs.Tree.{children_of}
use Rattle.pl_tree.proofs.CountedChildren.{last_before_end}
use Rattle.pl_graft.specs.declared.grafting.Open.{Open}
use Rattle.pl_graft.specs.Import.{folders_behind, with_list}
use Rattle.pl_graft.specs.OpenFolders.{AreOpen, MayGoOn, inner_of, root_of}
use Rattle.pl_graft.proofs.GoingOn.{goes_nowhere, goes_then}
use Rattle.pl_graft.proofs.NodesLeft.{first_place, nodes_whole}
use Rattle.pl_graft.proofs.NodesLeft.{count_behind, may_begin, node_behind, node_depth, node_formed, nodes_end}
use Rattle.pl_graft.proofs.NodesLeft.{nodes_left}
use Rattle.pl_graft.proofs.NodesLeft.{nodes_room, root_is, root_open}
use Rattle.pl_graft.proofs.grafting.Grafting.list.Goals as goal

pub loop-node-init : goal.loop-node-init
loop-node-init g c =
    let place : Open = record { folder = c.args.root; last = c.last_child.result } in
    let first : c.push.new.self.items ≡ place ∷ [] =
    first_place c.new-folders.result.items c.push.new.self.items place c.new-folders.ensures.items
    c.in_ok-push.ensures.items in
    record {
      left =
          nodes_whole (store_of (g.R.Rows.kept c.args.rows.now)) c.args.root c.args.nodes.now c.push.new.self.items
          place first;
      root = ap root_of first;
      are_open =
          subst (AreOpen (store_of (g.R.Rows.kept c.args.rows.now))) (sym first)
          (root_open (store_of (g.R.Rows.kept c.args.rows.now)) place
          (record {
            takes = c.requires.takes;
            last_child =
                c.last_child.ensures.last
                ∙ last_before_end (children_of (g.R.Rows.kept c.args.rows.now).items c.args.root);
          }));
      fits =
          subst (λ (os : List Open). MayGoOn (length os) c.args.nodes.now) (sym first)
          (may_begin c.args.nodes.now c.requires.formed);
      standing = c.requires.standing;
      goes_on = goes_nowhere (g.R.Rows.kept c.args.rows.now) c.args.self.now c.args.self.now refl refl;
      base = λ bytes based. based;
    }

pub next_node-requires-clause-formed : goal.next_node-requires-clause-formed
next_node-requires-clause-formed g c =
    node_formed (length c.loop-node.folders.items) c.args.nodes.now c.loop-node.node-index c.node-item.result
    c.loop-node-test.true c.node-item.is c.loop-node.invariant.fits

pub next_node-requires-clause-depth : goal.next_node-requires-clause-depth
next_node-requires-clause-depth g c =
    node_depth (length c.loop-node.folders.items) c.args.nodes.now c.loop-node.node-index c.node-item.result
    c.loop-node-test.true c.node-item.is c.loop-node.invariant.fits

pub next_node-requires-clause-room : goal.next_node-requires-clause-room
next_node-requires-clause-room g c =
    nodes_room (store_of (g.R.Rows.kept c.loop-node.rows))
    (with_list c.args.root c.args.nodes.now (store_of (g.R.Rows.kept c.args.rows.now))) c.args.root c.args.nodes.now
    c.loop-node.folders.items c.loop-node.node-index c.node-item.result c.loop-node-test.true c.node-item.is
    c.loop-node.invariant.root c.loop-node.invariant.left c.requires.room

pub loop-node-preserved : goal.loop-node-preserved
loop-node-preserved g c =
    let first : Kept = g.R.Rows.kept c.args.rows.now in
    let old : Kept = g.R.Rows.kept c.loop-node.rows in
    let new : Kept = g.R.Rows.kept c.next_node.new.rows in
    let places : List Open = c.loop-node.folders.items in
    let more : List Open = c.next_node.new.folders.items in
    record {
      left =
          nodes_left (store_of old) (store_of new) (with_list c.args.root c.args.nodes.now (store_of first)) c.args.root
          c.args.nodes.now places more c.loop-node.node-index c.node-item.result c.loop-node-test.true c.node-item.is
          c.loop-node.invariant.root c.loop-node.invariant.left c.in_ok-next_node.ensures.store
          c.in_ok-next_node.ensures.inner;
      root =
          root_is more (root_of places) (folders_behind (inner_of places) c.node-item.result (item_id old.ids.item))
          c.in_ok-next_node.ensures.inner
          ∙ c.loop-node.invariant.root;
      are_open = c.in_ok-next_node.ensures.places;
      fits =
          node_behind (length places) (length more) c.args.nodes.now c.loop-node.node-index c.node-item.result
          c.loop-node-test.true c.node-item.is
          (count_behind places more (root_of places) c.node-item.result (item_id old.ids.item)
          (node_depth (length places) c.args.nodes.now c.loop-node.node-index c.node-item.result
          c.loop-node-test.true c.node-item.is c.loop-node.invariant.fits) c.in_ok-next_node.ensures.inner)
          c.loop-node.invariant.fits;
      standing = c.in_ok-next_node.ensures.standing;
      goes_on =
          goes_then first old new c.args.self.now c.loop-node.self c.next_node.new.self c.loop-node.invariant.goes_on
          c.in_ok-next_node.ensures.goes_on;
      base = λ bytes based. c.in_ok-next_node.ensures.base bytes (c.loop-node.invariant.base bytes based);
    }

pub returns-clause-store : goal.returns-clause-store
returns-clause-store g c =
    nodes_end (store_of (g.R.Rows.kept c.loop-node.rows)) c.args.root c.args.nodes.now
    (inner_of c.loop-node.folders.items) c.loop-node.node-index c.loop-node-test.false
    ∙ c.loop-node.invariant.left

use Rattle.std.proofs.Common.{arith}
use Rattle.pl_base.specs.Rows.{Kept, store_of}
use Rattle.pl_outline.specs.Shown.{node_as}
use Rattle.pl_outline.proofs.PileLaws.{IsStep, listing_goes_on, listing_starts, place_deep}
use Rattle.pl_outline.proofs.PileLaws.{place_there, taken}
use Rattle.pl_outline.proofs.outline.list.Given.{Over}
use Rattle.pl_outline.proofs.outline.list.Goals as goal
use Rattle.pl_outline.proofs.outline.list.Goals.{In_ok-push-4}

pub loop-place-init : goal.loop-place-init
loop-place-init g c =
    let kept : Kept = g.R.Rows.kept c.args.rows.now in (
      listing_starts (node_as c.args.shown (store_of kept)) kept.items c.args.root c.first_child.result c.new-places.result.items
          c.push.new.places.items c.new-nodes.result.items c.requires.good.tree c.new-nodes.ensures.items
          c.new-places.ensures.items c.first_child.ensures.first c.in_ok-push.ensures,
      c.requires.known,
    )

pub node-requires-clause-item : goal.node-requires-clause-item
node-requires-clause-item g c =
    let kept : Kept = g.R.Rows.kept c.args.rows.now in
    place_there kept.items c.in-Some.place c.requires.good.tree
    (taken (node_as c.args.shown (store_of kept)) kept.items c.args.root c.loop-place.nodes.items c.loop-place.places.items
    c.pop.new.self.items c.in-Some.place c.loop-place.invariant.0 c.in-Some.ensures.items)

pub overflow_add-place : goal.overflow_add-place
overflow_add-place g c =
    let kept : Kept = g.R.Rows.kept c.args.rows.now in
    omega (
      arith,
      place_deep kept c.in-Some.place (g.met.R.Rows.well_kept c.args.rows.now)
          (taken (node_as c.args.shown (store_of kept)) kept.items c.args.root c.loop-place.nodes.items c.loop-place.places.items
          c.pop.new.self.items c.in-Some.place c.loop-place.invariant.0 c.in-Some.ensures.items),
    )

step : (g : Over) (c : In_ok-push-4 g)
    → IsStep (node_as c.args.shown (store_of (g.R.Rows.kept c.args.rows.now))) (g.R.Rows.kept c.args.rows.now).items c.args.root
    c.push-in-Some.new.self.items c.loop-place.places.items c.push-in-Some-3.new.places.items
step g c =
    let kept : Kept = g.R.Rows.kept c.args.rows.now in
    listing_goes_on (node_as c.args.shown (store_of kept)) kept.items c.args.root c.loop-place.nodes.items
    c.push-in-Some.new.self.items c.loop-place.places.items c.pop.new.self.items c.push-in-Some-2.new.places.items
    c.push-in-Some-3.new.places.items c.in-Some.place c.in_ok-node.field-0 c.next_sibling.result
    c.first_child-in-Some.result c.requires.good.tree c.loop-place.invariant.0 c.in-Some.ensures.items c.in_ok-node.ensures.node
    c.in_ok-push-2.ensures.items c.next_sibling.ensures.next c.in_ok-push-3.ensures
    c.first_child-in-Some.ensures.first c.in_ok-push-4.ensures

pub loop-place-smaller : goal.loop-place-smaller
loop-place-smaller g c = (step g c).shorter

pub loop-place-preserved : goal.loop-place-preserved
loop-place-preserved g c = ((step g c).listing, c.in_ok-node.ensures.known)

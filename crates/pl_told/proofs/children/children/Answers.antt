use Rattle.std.proofs.Common.{List}
use Rattle.pl_base.specs.declared.id.ItemId.{ItemId}
use Rattle.pl_base.specs.Rows.{Kept, store_of}
use Rattle.pl_base.specs.Tree.{children_of, sibling_behind}
use Rattle.pl_base.proofs.ChildrenRun.{child_goes_on, child_names, children_run}
use Rattle.pl_base.proofs.Walk.{StandsAt, nears, stands}
use Rattle.pl_told.proofs.Listed.{AreListed, child_there, listed_more}
use Rattle.pl_told.proofs.children.children.Goals as goal

pub list_row-requires-clause-item : goal.list_row-requires-clause-item
list_row-requires-clause-item g c =
    let kept : Kept = g.R.Rows.kept c.args.rows.now in
    let listed : List ItemId → Type 0 = AreListed (store_of kept) c.loop-next.list.items in
    child_there kept listed c.args.item c.in-Some.child c.requires.good
    (stands child_names (children_of kept.items c.args.item) listed c.loop-next.next c.in-Some.child
    c.loop-next.invariant c.in-Some.is)

pub loop-next-smaller : goal.loop-next-smaller
loop-next-smaller g c =
    let kept : Kept = g.R.Rows.kept c.args.rows.now in
    let listed : List ItemId → Type 0 = AreListed (store_of kept) c.loop-next.list.items in
    nears child_names (sibling_behind kept.items) (children_of kept.items c.args.item) listed c.loop-next.next
    c.next_sibling-next.result c.in-Some.child (children_run kept.items c.args.item c.requires.good.tree)
    (stands child_names (children_of kept.items c.args.item) listed c.loop-next.next c.in-Some.child
    c.loop-next.invariant c.in-Some.is) c.in-Some.is c.next_sibling-next.ensures.next

pub loop-next-preserved : goal.loop-next-preserved
loop-next-preserved g c =
    let kept : Kept = g.R.Rows.kept c.args.rows.now in
    let listed : List ItemId → Type 0 = AreListed (store_of kept) c.loop-next.list.items in
    let w : StandsAt child_names (children_of kept.items c.args.item) listed c.in-Some.child =
    stands child_names (children_of kept.items c.args.item) listed c.loop-next.next c.in-Some.child
    c.loop-next.invariant c.in-Some.is in
    child_goes_on kept.items c.args.item listed c.in-Some.child w (AreListed (store_of kept) c.push.new.self.items)
    c.next_sibling-next.result c.requires.good.tree c.next_sibling-next.ensures.next
    (listed_more (store_of kept) c.loop-next.list.items c.push.new.self.items w.front c.in-Some.child
    c.in_ok-list_row.field-0 c.in_ok-push.ensures.items c.in_ok-list_row.ensures w.so_far)

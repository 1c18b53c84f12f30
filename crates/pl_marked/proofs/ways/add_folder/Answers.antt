use Rattle.pl_base.specs.Rows.{Kept}
use Rattle.pl_base.specs.Tree.{children_of}
use Rattle.pl_base.proofs.ChildrenRun.{child_names}
use Rattle.pl_base.proofs.Walk.{ends}
use Rattle.pl_marked.proofs.FolderWalk.{HaveJoined, begins, goes_further, item_there, nearer}
use Rattle.pl_marked.proofs.ways.add_folder.Goals as goal

pub loop-next-init : goal.loop-next-init
loop-next-init g c =
    begins (g.R.Rows.kept c.args.rows.now) c.args.ready.now.timed.query.now c.args.folder c.requires.good.tree
    c.args.found.now.items c.first_child-next.result c.first_child-next.ensures.first

pub add_child-requires-clause-item : goal.add_child-requires-clause-item
add_child-requires-clause-item g c =
    item_there (g.R.Rows.kept c.args.rows.now) c.args.ready.now.timed.query.now c.args.folder c.requires.good.tree
    c.args.found.now.items c.loop-next.found.items c.loop-next.next c.in-Some.item c.loop-next.invariant c.in-Some.is

pub loop-next-smaller : goal.loop-next-smaller
loop-next-smaller g c =
    nearer (g.R.Rows.kept c.args.rows.now) c.args.ready.now.timed.query.now c.args.folder c.requires.good.tree
    c.args.found.now.items c.loop-next.found.items c.loop-next.next c.in-Some.item c.loop-next.invariant c.in-Some.is
    c.next_sibling-next.result c.next_sibling-next.ensures.next

pub loop-next-preserved : goal.loop-next-preserved
loop-next-preserved g c =
    goes_further (g.R.Rows.kept c.args.rows.now) c.args.ready.now.timed.query.now c.args.folder c.requires.good.tree
    c.args.found.now.items c.loop-next.found.items c.loop-next.next c.in-Some.item c.loop-next.invariant c.in-Some.is
    c.add_child.new.found.items c.next_sibling-next.result c.in_ok-add_child.ensures.added
    c.in_ok-add_child.ensures.views c.next_sibling-next.ensures.next

pub returns-clause-added : goal.returns-clause-added
returns-clause-added g c =
    let kept : Kept = g.R.Rows.kept c.args.rows.now in
    (ends child_names (children_of kept.items c.args.folder)
    (HaveJoined kept c.args.ready.now.timed.query.now c.args.found.now.items c.loop-next.found.items) c.loop-next.next
    c.loop-next.invariant (λ id some. c.in_default.not-Some id some)).added

pub returns-clause-views : goal.returns-clause-views
returns-clause-views g c =
    let kept : Kept = g.R.Rows.kept c.args.rows.now in
    (ends child_names (children_of kept.items c.args.folder)
    (HaveJoined kept c.args.ready.now.timed.query.now c.args.found.now.items c.loop-next.found.items) c.loop-next.next
    c.loop-next.invariant (λ id some. c.in_default.not-Some id some)).views

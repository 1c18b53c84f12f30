use Rattle.std.proofs.Common.{ap, map}
use Rattle.pl_base.specs.Tree.{children_of}
use Rattle.pl_base.proofs.ChildrenRun.{child_names}
use Rattle.pl_base.proofs.Walk.{ends, starts}
use Rattle.pl_indexed.specs.Found.{seen}
use Rattle.pl_tagged.proofs.EntryWalk.{Finds, goes_further, nearer}
use Rattle.pl_tagged.proofs.entries.entered.Goals as goal

pub loop-next-init : goal.loop-next-init
loop-next-init g c =
    starts child_names (children_of (g.R.Rows.kept c.args.rows.now).items c.args.folder)
    (Finds (g.R.Rows.kept c.args.rows.now).items c.args.known.now.views.items c.args.asked.now.query.now
    c.new-found.result.items) c.first_child-next.result c.first_child-next.ensures.first
    (ap (map seen) c.new-found.ensures.items)

pub loop-next-smaller : goal.loop-next-smaller
loop-next-smaller g c =
    nearer (g.R.Rows.kept c.args.rows.now).items c.args.known.now.views.items c.args.asked.now.query.now c.args.folder
    c.requires.good.tree c.loop-next.found.items c.loop-next.next c.in-Some.entry c.loop-next.invariant c.in-Some.is
    c.next_sibling-next.result c.next_sibling-next.ensures.next

pub loop-next-preserved : goal.loop-next-preserved
loop-next-preserved g c =
    goes_further (g.R.Rows.kept c.args.rows.now).items c.args.known.now.views.items c.args.asked.now.query.now
    c.args.folder c.requires.good.tree c.loop-next.found.items c.loop-next.next c.in-Some.entry c.loop-next.invariant
    c.in-Some.is c.add_entry.new.found.items c.next_sibling-next.result c.in_ok-add_entry.ensures
    c.next_sibling-next.ensures.next

pub returns : goal.returns
returns g c =
    ends child_names (children_of (g.R.Rows.kept c.args.rows.now).items c.args.folder)
    (Finds (g.R.Rows.kept c.args.rows.now).items c.args.known.now.views.items c.args.asked.now.query.now
    c.loop-next.found.items) c.loop-next.next c.loop-next.invariant c.in_default.not-Some

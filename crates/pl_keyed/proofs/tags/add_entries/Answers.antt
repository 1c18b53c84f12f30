use Rattle.std.proofs.Common.{List}
use Rattle.pl_base.specs.Store.{Item}
use Rattle.pl_base.specs.Tree.{children_of, sibling_behind}
use Rattle.pl_base.proofs.ChildrenRun.{child_goes_on, child_names, children_run}
use Rattle.pl_base.proofs.Walk.{StandsAt, nears, stands, starts}
use Rattle.pl_keyed.proofs.TagsRead.{ArePut, child_there, put_more, put_none}
use Rattle.pl_keyed.proofs.tags.add_entries.Given.{Over}
use Rattle.pl_keyed.proofs.tags.add_entries.Goals as goal
use Rattle.pl_keyed.proofs.tags.add_entries.Goals.{After-next_sibling-next}

pub loop-next-init : goal.loop-next-init
loop-next-init g c =
    starts child_names (children_of (g.R.Rows.kept c.args.rows.now).items c.args.folder)
    (ArePut (g.R.Rows.kept c.args.rows.now).items c.args.folder.0 c.args.entries.now c.args.entries.now 0)
    c.first_child-next.result c.first_child-next.ensures.first
    (put_none (g.R.Rows.kept c.args.rows.now).items c.args.folder.0 c.args.entries.now)

here : (g : Over) (c : After-next_sibling-next g)
    → StandsAt child_names (children_of (g.R.Rows.kept c.args.rows.now).items c.args.folder)
    (ArePut (g.R.Rows.kept c.args.rows.now).items c.args.folder.0 c.args.entries.now c.loop-next.entries
    c.loop-next.last) c.in-Some.entry
here g c =
    stands child_names (children_of (g.R.Rows.kept c.args.rows.now).items c.args.folder)
    (ArePut (g.R.Rows.kept c.args.rows.now).items c.args.folder.0 c.args.entries.now c.loop-next.entries
    c.loop-next.last) c.loop-next.next c.in-Some.entry c.loop-next.invariant c.in-Some.is

pub loop-next-smaller : goal.loop-next-smaller
loop-next-smaller g c =
    nears child_names (sibling_behind (g.R.Rows.kept c.args.rows.now).items)
    (children_of (g.R.Rows.kept c.args.rows.now).items c.args.folder)
    (ArePut (g.R.Rows.kept c.args.rows.now).items c.args.folder.0 c.args.entries.now c.loop-next.entries
    c.loop-next.last) c.loop-next.next c.next_sibling-next.result c.in-Some.entry
    (children_run (g.R.Rows.kept c.args.rows.now).items c.args.folder c.requires.good.tree) (here g c) c.in-Some.is
    c.next_sibling-next.ensures.next

pub loop-next-preserved : goal.loop-next-preserved
loop-next-preserved g c =
    let items : List Item = (g.R.Rows.kept c.args.rows.now).items in
    let w : StandsAt child_names (children_of items c.args.folder)
    (ArePut items c.args.folder.0 c.args.entries.now c.loop-next.entries c.loop-next.last) c.in-Some.entry = here g c in
    child_goes_on items c.args.folder (ArePut items c.args.folder.0 c.args.entries.now c.loop-next.entries
    c.loop-next.last) c.in-Some.entry w (ArePut items c.args.folder.0 c.args.entries.now c.add_entry.new.entries
    c.from-last.result) c.next_sibling-next.result c.requires.good.tree c.next_sibling-next.ensures.next
    (put_more items c.args.folder.0 c.args.entries.now c.loop-next.entries c.add_entry.new.entries c.loop-next.last
    w.front c.in-Some.entry c.page_of.result c.from-last.result
    (child_there items c.args.folder
    (ArePut items c.args.folder.0 c.args.entries.now c.loop-next.entries c.loop-next.last) c.in-Some.entry
    c.requires.good.tree w) c.page_of.ensures c.from-last.ensures w.so_far c.in_ok-add_entry.ensures)

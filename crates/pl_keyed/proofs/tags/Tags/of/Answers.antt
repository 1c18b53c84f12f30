use Rattle.std.proofs.Common.{List, None, refl}
use Rattle.pl_base.specs.Rows.{store_of}
use Rattle.pl_base.specs.Store.{Item}
use Rattle.pl_base.specs.Tags.{tags_root}
use Rattle.pl_base.specs.Tree.{children_of, sibling_behind}
use Rattle.pl_base.proofs.ChildrenRun.{child_goes_on, child_names, children_run}
use Rattle.pl_base.proofs.Walk.{StandsAt, nears, stands, starts}
use Rattle.pl_keyed.proofs.TagsRead.{KnowsFront, child_there, folder_step, knows_none}
use Rattle.pl_keyed.proofs.tags.Tags.of.Given.{Over}
use Rattle.pl_keyed.proofs.tags.Tags.of.Goals as goal
use Rattle.pl_keyed.proofs.tags.Tags.of.Goals.{After-next_sibling-next}

pub loop-next-init : goal.loop-next-init
loop-next-init g c =
    starts child_names (children_of (g.R.Rows.kept c.args.rows.now).items tags_root)
    (KnowsFront (g.R.Rows.kept c.args.rows.now).items
    (record { folders = c.new.result; entries = c.new-2.result; last = None })) c.first_child-next.result
    c.first_child-next.ensures.first (knows_none _ c.new.ensures.empty c.new-2.ensures.empty refl)

here : (g : Over) (c : After-next_sibling-next g)
    → StandsAt child_names (children_of (g.R.Rows.kept c.args.rows.now).items tags_root)
    (KnowsFront (g.R.Rows.kept c.args.rows.now).items c.loop-next.tags) c.in-Some.folder
here g c =
    stands child_names (children_of (g.R.Rows.kept c.args.rows.now).items tags_root)
    (KnowsFront (g.R.Rows.kept c.args.rows.now).items c.loop-next.tags) c.loop-next.next c.in-Some.folder
    c.loop-next.invariant c.in-Some.is

pub add_folder-requires-clause-folder : goal.add_folder-requires-clause-folder
add_folder-requires-clause-folder g c =
    child_there (g.R.Rows.kept c.args.rows.now).items tags_root
    (KnowsFront (g.R.Rows.kept c.args.rows.now).items c.loop-next.tags) c.in-Some.folder c.requires.good.tree
    (stands child_names (children_of (g.R.Rows.kept c.args.rows.now).items tags_root)
    (KnowsFront (g.R.Rows.kept c.args.rows.now).items c.loop-next.tags) c.loop-next.next c.in-Some.folder
    c.loop-next.invariant c.in-Some.is)

pub loop-next-smaller : goal.loop-next-smaller
loop-next-smaller g c =
    nears child_names (sibling_behind (g.R.Rows.kept c.args.rows.now).items)
    (children_of (g.R.Rows.kept c.args.rows.now).items tags_root)
    (KnowsFront (g.R.Rows.kept c.args.rows.now).items c.loop-next.tags) c.loop-next.next c.next_sibling-next.result
    c.in-Some.folder (children_run (g.R.Rows.kept c.args.rows.now).items tags_root c.requires.good.tree) (here g c)
    c.in-Some.is c.next_sibling-next.ensures.next

pub loop-next-preserved : goal.loop-next-preserved
loop-next-preserved g c =
    let items : List Item = (g.R.Rows.kept c.args.rows.now).items in
    let w : StandsAt child_names (children_of items tags_root) (KnowsFront items c.loop-next.tags) c.in-Some.folder =
    here g c in
    child_goes_on items tags_root (KnowsFront items c.loop-next.tags) c.in-Some.folder w
    (KnowsFront items c.add_folder.new.self) c.next_sibling-next.result c.requires.good.tree
    c.next_sibling-next.ensures.next (folder_step (store_of (g.R.Rows.kept c.args.rows.now)) c.loop-next.tags
    c.add_folder.new.self c.in-Some.folder
    c.requires.good w c.in_ok-add_folder.ensures)

use Rattle.std.proofs.Common.{◌≡◌, ◌∙◌, ◌+◌, ap, arith, refl}
use Rattle.std.specs.List.{slice_get}
use Rattle.pl_base.specs.Rows.{Kept}
use Rattle.pl_base.specs.Tree.{children_of}
use Rattle.pl_base.proofs.ChildrenRun.{child_goes_on, child_names}
use Rattle.pl_base.proofs.Walk.{StandsAt, stands, starts}
use Rattle.pl_tree.proofs.CountedChildren.{Counts, counts_more, ended_before, found_at}
use Rattle.pl_tree.proofs.children.child_at.Goals as goal

pub loop-init : goal.loop-init
loop-init g c =
    starts child_names (children_of (g.R.Rows.kept c.args.rows.now).items c.args.parent) (Counts 0)
    c.first_child-child.result c.first_child-child.ensures.first refl

pub returns-in_err-child : goal.returns-in_err-child
returns-in_err-child g c =
    c.from_residual.ensures
    ∙ ended_before (children_of (g.R.Rows.kept c.args.rows.now).items c.args.parent) c.loop.counter c.args.place
    c.loop.child c.loop.invariant c.in_err-child.was (omega arith)

pub loop-preserved : goal.loop-preserved
loop-preserved g c =
    let kept : Kept = g.R.Rows.kept c.args.rows.now in
    let w : StandsAt child_names (children_of kept.items c.args.parent) (Counts c.loop.counter) c.in_ok-child.field-0 =
    stands child_names (children_of kept.items c.args.parent) (Counts c.loop.counter) c.loop.child c.in_ok-child.field-0
    c.loop.invariant c.in_ok-child.was in
    child_goes_on kept.items c.args.parent (Counts c.loop.counter) c.in_ok-child.field-0 w (Counts (c.loop.counter + 1))
    c.next_sibling-child.result c.requires.good.tree c.next_sibling-child.ensures.next
    (counts_more w.front c.in_ok-child.field-0 c.loop.counter w.so_far)

pub returns : goal.returns
returns g c =
    let at_end : c.loop.counter ≡ c.args.place = omega arith in
    found_at (children_of (g.R.Rows.kept c.args.rows.now).items c.args.parent) c.loop.counter c.loop.child
    c.loop.invariant
    ∙ ap (slice_get (children_of (g.R.Rows.kept c.args.rows.now).items c.args.parent)) at_end

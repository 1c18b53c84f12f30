use Rattle.std.proofs.Common.{◌∙◌, ◌+◌, None, Some, arith, sym}
use Rattle.std.proofs.lemmas.Bool.{not-false, not-true}
use Rattle.pl_base.specs.Rows.{Kept}
use Rattle.pl_base.specs.Tree.{children_of, sibling_behind}
use Rattle.pl_base.proofs.ChildrenRun.{child_goes_on, child_names, children_run}
use Rattle.pl_base.proofs.Walk.{StandsAt, ends, nears, no_more, stands, starts}
use Rattle.pl_tree.specs.Places.{others}
use Rattle.pl_tree.proofs.CountedChildren.{AreFirst, Told, first_more, first_none, first_same, is_out}
use Rattle.pl_tree.proofs.CountedChildren.{told_all, told_full}
use Rattle.pl_tree.proofs.children.first_children.Given.{Over}
use Rattle.pl_tree.proofs.children.first_children.Goals as goal
use Rattle.pl_tree.proofs.children.first_children.Goals.{In_default, After-next_sibling-next}
use Rattle.pl_tree.proofs.children.first_children.Goals.{Then-count-limit, else-ne, then-ne}

pub loop-next-init : goal.loop-next-init
loop-next-init g c =
    starts child_names (children_of (g.R.Rows.kept c.args.rows.now).items c.args.parent)
    (AreFirst c.args.left_out c.args.limit 0 None) c.first_child-next.result c.first_child-next.ensures.first
    (first_none c.args.left_out c.args.limit)

here : (g : Over) (c : After-next_sibling-next g)
    → StandsAt child_names (children_of (g.R.Rows.kept c.args.rows.now).items c.args.parent)
    (AreFirst c.args.left_out c.args.limit c.loop-next.count c.loop-next.last) c.in-Some.child
here g c =
    stands child_names (children_of (g.R.Rows.kept c.args.rows.now).items c.args.parent)
    (AreFirst c.args.left_out c.args.limit c.loop-next.count c.loop-next.last) c.loop-next.next c.in-Some.child
    c.loop-next.invariant c.in-Some.is

pub overflow_add-count : goal.overflow_add-count
overflow_add-count g c = omega (arith, c.loop-next.invariant.so_far.few, c.ranges.limit)

pub loop-next-smaller : goal.loop-next-smaller
loop-next-smaller g c =
    let kept : Kept = g.R.Rows.kept c.args.rows.now in
    nears child_names (sibling_behind kept.items) (children_of kept.items c.args.parent)
    (AreFirst c.args.left_out c.args.limit c.loop-next.count c.loop-next.last) c.loop-next.next
    c.next_sibling-next.result c.in-Some.child (children_run kept.items c.args.parent c.requires.good.tree) (here g c)
    c.in-Some.is c.next_sibling-next.ensures.next

pub loop-next-preserved : goal.loop-next-preserved
loop-next-preserved g c =
    let kept : Kept = g.R.Rows.kept c.args.rows.now in
    let w : StandsAt child_names (children_of kept.items c.args.parent)
    (AreFirst c.args.left_out c.args.limit c.loop-next.count c.loop-next.last) c.in-Some.child = here g c in
    elim c.if-ne.branch [
      | then-ne b ↦
          rw (b.count-is, b.last-is)
          (child_goes_on kept.items c.args.parent
          (AreFirst c.args.left_out c.args.limit c.loop-next.count c.loop-next.last) c.in-Some.child w
          (AreFirst c.args.left_out c.args.limit (c.loop-next.count + 1) (Some c.in-Some.child))
          c.next_sibling-next.result c.requires.good.tree c.next_sibling-next.ensures.next
          (first_more c.args.left_out c.args.limit c.loop-next.count c.loop-next.last w.front c.in-Some.child w.so_far
          (sym (is_out c.in-Some.child c.args.left_out)
          ∙ not-true _ (sym c.ne.ensures ∙ b.if-ne.true))
          c.if-count-limit.false))
      | else-ne b ↦
          rw (b.count-is, b.last-is)
          (child_goes_on kept.items c.args.parent
          (AreFirst c.args.left_out c.args.limit c.loop-next.count c.loop-next.last) c.in-Some.child w
          (AreFirst c.args.left_out c.args.limit c.loop-next.count c.loop-next.last) c.next_sibling-next.result
          c.requires.good.tree c.next_sibling-next.ensures.next
          (first_same c.args.left_out c.args.limit c.loop-next.count c.loop-next.last w.front c.in-Some.child w.so_far
          (sym (is_out c.in-Some.child c.args.left_out)
          ∙ not-false _ (sym c.ne.ensures ∙ b.if-ne.false))))
    ]

full : (g : Over) (c : Then-count-limit g) → Told (others c.args.left_out
    (children_of (g.R.Rows.kept c.args.rows.now).items c.args.parent)) c.args.limit c.loop-next.count c.loop-next.last
full g c =
    told_full (children_of (g.R.Rows.kept c.args.rows.now).items c.args.parent) c.args.left_out c.args.limit
    c.loop-next.count c.loop-next.last c.loop-next.next c.loop-next.invariant c.if-count-limit.true

pub returns-then-count-limit-clause-count : goal.returns-then-count-limit-clause-count
returns-then-count-limit-clause-count g c = (full g c).count_is

pub returns-then-count-limit-clause-last : goal.returns-then-count-limit-clause-last
returns-then-count-limit-clause-last g c = (full g c).last_is

whole : (g : Over) (c : In_default g) → Told (others c.args.left_out
    (children_of (g.R.Rows.kept c.args.rows.now).items c.args.parent)) c.args.limit c.loop-next.count c.loop-next.last
whole g c =
    told_all (children_of (g.R.Rows.kept c.args.rows.now).items c.args.parent) c.args.left_out c.args.limit
    c.loop-next.count c.loop-next.last
    (ends child_names (children_of (g.R.Rows.kept c.args.rows.now).items c.args.parent)
    (AreFirst c.args.left_out c.args.limit c.loop-next.count c.loop-next.last) c.loop-next.next c.loop-next.invariant
    (no_more c.loop-next.next c.in_default.is))

pub returns-in_default-clause-count : goal.returns-in_default-clause-count
returns-in_default-clause-count g c = (whole g c).count_is

pub returns-in_default-clause-last : goal.returns-in_default-clause-last
returns-in_default-clause-last g c = (whole g c).last_is

use Rattle.std.proofs.Common.{◌∙◌, ap, sym}
use Rattle.pl_base.specs.Rows.{Kept}
use Rattle.pl_tree.proofs.AncestorLaws.{less_above, lies_at, lies_at_none, lies_at_other, lies_at_top}
use Rattle.pl_tree.proofs.TreeRows.{some_items}
use Rattle.pl_tree.proofs.ancestors.lies_in.Goals as goal

pub returns-then-eq : goal.returns-then-eq
returns-then-eq g c =
    let kept : Kept = g.R.Rows.kept c.args.rows.now in
    sym (c.loop-next.invariant ∙ ap (lies_at kept.items c.args.top) c.in-Some.is
    ∙ lies_at_top kept.items c.args.top c.in-Some.id c.requires.good.tree (some_items kept c.requires.good)
    (sym c.eq.ensures ∙ c.if-eq.true))

pub loop-next-smaller : goal.loop-next-smaller
loop-next-smaller g c =
    let kept : Kept = g.R.Rows.kept c.args.rows.now in
    rw (c.parent-next.ensures, c.in-Some.is)
    (less_above kept.items c.in-Some.id c.requires.good.tree (some_items kept c.requires.good))

pub loop-next-preserved : goal.loop-next-preserved
loop-next-preserved g c =
    let kept : Kept = g.R.Rows.kept c.args.rows.now in
    c.loop-next.invariant ∙ ap (lies_at kept.items c.args.top) c.in-Some.is
    ∙ lies_at_other kept.items c.args.top c.in-Some.id c.requires.good.tree (some_items kept c.requires.good)
    (sym c.eq.ensures ∙ c.if-eq.false)
    ∙ ap (lies_at kept.items c.args.top) (sym c.parent-next.ensures)

pub returns : goal.returns
returns g c =
    let kept : Kept = g.R.Rows.kept c.args.rows.now in
    sym (c.loop-next.invariant ∙ ap (lies_at kept.items c.args.top) c.in_default.is
    ∙ lies_at_none kept.items c.args.top)

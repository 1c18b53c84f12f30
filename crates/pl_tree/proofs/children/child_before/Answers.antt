use Rattle.std.proofs.Common.{◌∙◌, ap, arith, sym}
use Rattle.pl_base.specs.Tree.{children_of}
use Rattle.pl_tree.specs.declared.place.Place.{Place}
use Rattle.pl_tree.specs.Places.{before, others}
use Rattle.pl_tree.proofs.CountedChildren.{before_end, few_children, last_of_all}
use Rattle.pl_tree.proofs.children.child_before.Goals as goal

pub returns-in-End-clause-before : goal.returns-in-End-clause-before
returns-in-End-clause-before g c =
    let kept = g.R.Rows.kept c.args.rows.now in
    last_of_all c.args.left_out c.last_child.result (children_of kept.items c.args.parent)
    c.if-is_none.ensures c.last_child.ensures.last
    ∙ ap (λ (p : Place). before p (others c.args.left_out (children_of kept.items c.args.parent))) (sym c.in-End.is)

pub returns-in-End-2-clause-before : goal.returns-in-End-2-clause-before
returns-in-End-2-clause-before g c =
    let kept = g.R.Rows.kept c.args.rows.now in
    c.first_children.ensures.last
    ∙ before_end (others c.args.left_out (children_of kept.items c.args.parent)) 4_294_967_295
    (omega (
      arith,
      few_children kept c.args.parent c.args.left_out (g.met.R.Rows.well_kept c.args.rows.now) c.requires.good.tree,
    ))
    ∙ ap (λ (p : Place). before p (others c.args.left_out (children_of kept.items c.args.parent))) (sym c.in-End-2.is)

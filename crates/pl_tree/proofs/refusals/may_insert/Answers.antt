use Rattle.std.proofs.Common.{◌≡◌, ◌∙◌, List, Option, ap, length, subst}
use Rattle.std.specs.Result.{IfOk, result_err}
use Rattle.pl_base.specs.declared.id.ItemId.{ItemId}
use Rattle.pl_base.specs.Rows.{Kept}
use Rattle.pl_base.specs.Tree.{children_of}
use Rattle.pl_tree.specs.Places.{before}
use Rattle.pl_tree.specs.Refused.{parent_refusal, place_refusal}
use Rattle.pl_tree.proofs.CountedChildren.{others_none}
use Rattle.pl_tree.proofs.RefusalSteps.{next_cause}
use Rattle.pl_tree.proofs.refusals.may_insert.Goals as goal

pub returns-clause-refused : goal.returns-clause-refused
returns-clause-refused g c =
    let kept : Kept = g.R.Rows.kept c.args.rows.now in
    next_cause (result_err c.child_before.result) (parent_refusal kept.items c.args.parent)
    (place_refusal c.args.place (length (children_of kept.items c.args.parent))) c.in_ok-takes_items.ensures
    (c.child_before.ensures.refused
    ∙ ap (λ (ids : List ItemId). place_refusal c.args.place (length ids))
    (others_none (children_of kept.items c.args.parent)))

pub returns-clause-before : goal.returns-clause-before
returns-clause-before g c =
    let kept : Kept = g.R.Rows.kept c.args.rows.now in
    subst (λ (ids : List ItemId).
    IfOk c.child_before.result (λ (after : Option ItemId). after ≡ before c.args.place ids))
    (others_none (children_of kept.items c.args.parent)) c.child_before.ensures.before

use Rattle.pl_base.specs.Rows.{Kept}
use Rattle.pl_base.proofs.ReferencesRun.{has_item_here, having, item_names, references_run}
use Rattle.pl_base.proofs.Walk.{StandsAt, goes_on, nears, stands}
use Rattle.pl_base.specs.Tree.{reference_behind}
use Rattle.pl_conditions.proofs.TagFolds.{AreFolds, folds_more, folds_tell}
use Rattle.pl_conditions.proofs.conditions.tags.tag_folds.Goals as goal

pub add_fold-requires : goal.add_fold-requires
add_fold-requires g c =
    let kept : Kept = g.R.Rows.kept c.args.rows.now in
    has_item_here kept c.args.page (AreFolds kept.items c.loop-next.folds.items) c.in-Some.item
    (g.met.R.Rows.well_kept c.args.rows.now) (stands item_names (having kept.items c.args.page)
    (AreFolds kept.items c.loop-next.folds.items) c.loop-next.next c.in-Some.item c.loop-next.invariant c.in-Some.is)

pub loop-next-smaller : goal.loop-next-smaller
loop-next-smaller g c =
    let kept : Kept = g.R.Rows.kept c.args.rows.now in
    nears item_names (reference_behind kept.items) (having kept.items c.args.page)
    (AreFolds kept.items c.loop-next.folds.items) c.loop-next.next c.next_reference-next.result c.in-Some.item
    (references_run kept c.args.page (g.met.R.Rows.well_kept c.args.rows.now))
    (stands item_names (having kept.items c.args.page) (AreFolds kept.items c.loop-next.folds.items) c.loop-next.next
    c.in-Some.item c.loop-next.invariant c.in-Some.is) c.in-Some.is c.next_reference-next.ensures.next

pub loop-next-preserved : goal.loop-next-preserved
loop-next-preserved g c =
    let kept : Kept = g.R.Rows.kept c.args.rows.now in
    let w : StandsAt item_names (having kept.items c.args.page) (AreFolds kept.items c.loop-next.folds.items)
    c.in-Some.item =
    stands item_names (having kept.items c.args.page) (AreFolds kept.items c.loop-next.folds.items) c.loop-next.next
    c.in-Some.item c.loop-next.invariant c.in-Some.is in
    goes_on item_names (reference_behind kept.items) (having kept.items c.args.page)
    (AreFolds kept.items c.loop-next.folds.items) (AreFolds kept.items c.add_fold.new.folds.items) c.in-Some.item
    c.next_reference-next.result (references_run kept c.args.page (g.met.R.Rows.well_kept c.args.rows.now)) w
    c.next_reference-next.ensures.next (folds_more kept c.args.page c.in-Some.item c.loop-next.folds.items
    c.add_fold.new.folds.items w
    c.in_ok-add_fold.ensures)

pub returns : goal.returns
returns g c name =
    folds_tell (g.R.Rows.kept c.args.rows.now) c.args.page c.loop-next.next c.loop-next.folds.items name
    (g.met.R.Rows.well_kept c.args.rows.now) c.requires c.loop-next.invariant
    (λ id some. c.in_default.not-Some id some)

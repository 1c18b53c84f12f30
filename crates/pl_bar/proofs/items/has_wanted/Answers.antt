use Rattle.std.proofs.Common.{◌∙◌, ap, arith, is_some, sym}
use Rattle.pl_base.specs.Rows.{Kept}
use Rattle.pl_base.specs.Tree.{reference_behind}
use Rattle.pl_base.proofs.ReferencesRun.{has_item_here, having, item_names, references_run}
use Rattle.pl_base.proofs.Walk.{StandsAt, nears, stands}
use Rattle.pl_bar.proofs.ItemsWanted.{AreOther, begins, goes, met_all, met_cost, not_met, whole_cost}
use Rattle.pl_bar.proofs.items.has_wanted.Given.{Over}
use Rattle.pl_bar.proofs.items.has_wanted.Goals as goal
use Rattle.pl_bar.proofs.items.has_wanted.Goals.{In-Some}

pub loop-next-init : goal.loop-next-init
loop-next-init g c =
    begins (g.R.Rows.kept c.args.rows.now) c.args.page c.args.wanted c.args.steps.now c.first_reference-next.new.steps
    c.first_reference-next.result c.first_reference-next.ensures.first c.first_reference-next.ensures.cost
    (sym c.is_nothing.ensures ∙ c.if-is_nothing.false)

-- the item that the walk stands at
at_item : (g : Over) (c : In-Some g)
    → StandsAt item_names (having (g.R.Rows.kept c.args.rows.now).items c.args.page)
    (AreOther (g.R.Rows.kept c.args.rows.now).items c.loop-next.wanted c.args.steps.now c.loop-next.steps)
    c.in-Some.item
at_item g c =
    stands item_names (having (g.R.Rows.kept c.args.rows.now).items c.args.page)
    (AreOther (g.R.Rows.kept c.args.rows.now).items c.loop-next.wanted c.args.steps.now c.loop-next.steps)
    c.loop-next.next c.in-Some.item c.loop-next.invariant.walk c.in-Some.is

pub tag_folder-requires : goal.tag_folder-requires
tag_folder-requires g c =
    has_item_here (g.R.Rows.kept c.args.rows.now) c.args.page
    (AreOther (g.R.Rows.kept c.args.rows.now).items c.loop-next.wanted c.args.steps.now c.loop-next.steps)
    c.in-Some.item (g.met.R.Rows.well_kept c.args.rows.now) (at_item g (goal.at.tag_folder-requires g c).In-Some)

pub returns-then-is_nothing-2-clause-found : goal.returns-then-is_nothing-2-clause-found
returns-then-is_nothing-2-clause-found g c =
    met_all (g.R.Rows.kept c.args.rows.now) c.args.page c.loop-next.wanted c.without-wanted.result c.args.steps.now
    c.loop-next.steps c.in-Some.item c.is_some.result
    (at_item g (goal.at.returns-then-is_nothing-2-clause-found g c).In-Some)
    (c.is_some.ensures ∙ ap is_some c.tag_folder.ensures.folder) c.without-wanted.ensures.bookmark
    c.without-wanted.ensures.tag c.args.wanted c.loop-next.invariant.same
    (sym c.is_nothing-in-Some.ensures ∙ c.if-is_nothing-2.true)

pub returns-then-is_nothing-2-clause-cost : goal.returns-then-is_nothing-2-clause-cost
returns-then-is_nothing-2-clause-cost g c =
    met_cost (g.R.Rows.kept c.args.rows.now) c.args.page c.loop-next.wanted c.without-wanted.result c.args.steps.now
    c.loop-next.steps c.in-Some.item c.is_some.result
    (at_item g (goal.at.returns-then-is_nothing-2-clause-cost g c).In-Some)
    (c.is_some.ensures ∙ ap is_some c.tag_folder.ensures.folder) c.without-wanted.ensures.bookmark
    c.without-wanted.ensures.tag c.tag_folder.new.steps c.tag_folder.ensures.cost

pub loop-next-smaller : goal.loop-next-smaller
loop-next-smaller g c =
    let kept : Kept = g.R.Rows.kept c.args.rows.now in
    nears item_names (reference_behind kept.items) (having kept.items c.args.page)
    (AreOther kept.items c.loop-next.wanted c.args.steps.now c.loop-next.steps) c.loop-next.next
    c.next_reference-next.result c.in-Some.item
    (references_run kept c.args.page (g.met.R.Rows.well_kept c.args.rows.now))
    (at_item g (goal.at.loop-next-smaller g c).In-Some) c.in-Some.is c.next_reference-next.ensures.next

pub loop-next-preserved : goal.loop-next-preserved
loop-next-preserved g c =
    goes (g.R.Rows.kept c.args.rows.now) c.args.page c.loop-next.wanted c.without-wanted.result c.args.steps.now
    c.loop-next.steps c.in-Some.item c.is_some.result (at_item g (goal.at.loop-next-preserved g c).In-Some)
    (c.is_some.ensures ∙ ap is_some c.tag_folder.ensures.folder) c.without-wanted.ensures.bookmark
    c.without-wanted.ensures.tag c.args.wanted c.next_reference-next.new.steps c.next_reference-next.result
    (g.met.R.Rows.well_kept c.args.rows.now) c.loop-next.invariant.same c.next_reference-next.ensures.next
    (omega (arith, c.tag_folder.ensures.cost, c.next_reference-next.ensures.cost))
    (sym c.is_nothing-in-Some.ensures ∙ c.if-is_nothing-2.false)

pub returns-clause-found : goal.returns-clause-found
returns-clause-found g c =
    not_met (g.R.Rows.kept c.args.rows.now) c.args.page c.args.wanted c.loop-next.wanted c.args.steps.now
    c.loop-next.steps c.loop-next.next c.loop-next.invariant (λ id some. c.in_default.not-Some id some)

pub returns-clause-cost : goal.returns-clause-cost
returns-clause-cost g c =
    whole_cost (g.R.Rows.kept c.args.rows.now) c.args.page c.args.wanted c.loop-next.wanted c.args.steps.now
    c.loop-next.steps c.loop-next.next c.loop-next.invariant (λ id some. c.in_default.not-Some id some)

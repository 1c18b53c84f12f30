use Rattle.pl_base.specs.Rows.{Kept}
use Rattle.pl_base.proofs.ReferencesRun.{having, item_here, item_names, references_run}
use Rattle.pl_base.proofs.Walk.{StandsAt, ends, goes_on, nears, stands}
use Rattle.pl_base.specs.Tree.{reference_behind}
use Rattle.pl_query.proofs.PageParts.{HasMarks, mark_subject_there, marks_more}
use Rattle.pl_query.proofs.candidates.bookmarks.add_wanted.Goals as goal

pub add_item-requires-clause-there : goal.add_item-requires-clause-there
add_item-requires-clause-there g c =
    let kept : Kept = g.R.Rows.kept c.args.rows.now in
    let has =
    HasMarks kept c.args.asked.now.query.now c.args.page c.args.candidates.now.items c.loop-next.candidates.items in
    let w : StandsAt item_names (having kept.items c.args.page) has c.in-Some.item =
    stands item_names (having kept.items c.args.page) has c.loop-next.next c.in-Some.item c.loop-next.invariant
    c.in-Some.is in
    mark_subject_there kept c.args.page c.in-Some.item w.element c.requires.page
    (item_here kept c.args.page has c.in-Some.item (g.met.R.Rows.well_kept c.args.rows.now) w)

pub loop-next-smaller : goal.loop-next-smaller
loop-next-smaller g c =
    let kept : Kept = g.R.Rows.kept c.args.rows.now in
    let has =
    HasMarks kept c.args.asked.now.query.now c.args.page c.args.candidates.now.items c.loop-next.candidates.items in
    nears item_names (reference_behind kept.items) (having kept.items c.args.page) has c.loop-next.next
    c.next_reference-next.result c.in-Some.item (references_run kept c.args.page
    (g.met.R.Rows.well_kept c.args.rows.now)) (stands item_names (having kept.items c.args.page) has c.loop-next.next
    c.in-Some.item c.loop-next.invariant c.in-Some.is) c.in-Some.is c.next_reference-next.ensures.next

pub loop-next-preserved : goal.loop-next-preserved
loop-next-preserved g c =
    let kept : Kept = g.R.Rows.kept c.args.rows.now in
    let q = c.args.asked.now.query.now in
    let old = c.args.candidates.now.items in
    let has = HasMarks kept q c.args.page old c.loop-next.candidates.items in
    let w : StandsAt item_names (having kept.items c.args.page) has c.in-Some.item =
    stands item_names (having kept.items c.args.page) has c.loop-next.next c.in-Some.item c.loop-next.invariant
    c.in-Some.is in
    let at = item_here kept c.args.page has c.in-Some.item (g.met.R.Rows.well_kept c.args.rows.now) w in
    goes_on item_names (reference_behind kept.items) (having kept.items c.args.page) has
    (HasMarks kept q c.args.page old c.add_item.new.candidates.items) c.in-Some.item c.next_reference-next.result
    (references_run kept c.args.page (g.met.R.Rows.well_kept c.args.rows.now)) w c.next_reference-next.ensures.next
    (marks_more kept q c.args.page old c.loop-next.candidates.items c.add_item.new.candidates.items w.front w.element
    w.so_far (λ p page_is. c.in_ok-add_item.ensures p w.element page_is at))

pub returns : goal.returns
returns g c =
    let kept : Kept = g.R.Rows.kept c.args.rows.now in
    ends item_names (having kept.items c.args.page) (HasMarks kept c.args.asked.now.query.now c.args.page
    c.args.candidates.now.items c.loop-next.candidates.items) c.loop-next.next c.loop-next.invariant
    (λ id some. c.in_default.not-Some id some)

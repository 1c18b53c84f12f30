use Rattle.pl_base.specs.Rows.{Kept}
use Rattle.pl_base.proofs.ReferencesRun.{having, item_names}
use Rattle.pl_base.proofs.Walk.{ends}
use Rattle.pl_marked.proofs.MarksWalk.{HaveJoined, begins, goes_further, item_there, nearer}
use Rattle.pl_marked.proofs.marks.add_items.Goals as goal

pub loop-next-init : goal.loop-next-init
loop-next-init g c =
    begins (g.R.Rows.kept c.args.rows.now) c.args.ready.now.timed.query.now c.args.view.now.id
    (g.met.R.Rows.well_kept c.args.rows.now) c.args.found.now.items c.first_reference-next.result
    c.first_reference-next.ensures.first

pub add_item-requires-clause-item : goal.add_item-requires-clause-item
add_item-requires-clause-item g c =
    item_there (g.R.Rows.kept c.args.rows.now) c.args.ready.now.timed.query.now c.args.view.now.id
    (g.met.R.Rows.well_kept c.args.rows.now) c.args.found.now.items c.loop-next.found.items c.loop-next.next
    c.in-Some.item c.loop-next.invariant c.in-Some.is

pub loop-next-smaller : goal.loop-next-smaller
loop-next-smaller g c =
    nearer (g.R.Rows.kept c.args.rows.now) c.args.ready.now.timed.query.now c.args.view.now.id
    (g.met.R.Rows.well_kept c.args.rows.now) c.args.found.now.items c.loop-next.found.items c.loop-next.next
    c.in-Some.item c.loop-next.invariant c.in-Some.is c.next_reference-next.result c.next_reference-next.ensures.next

pub loop-next-preserved : goal.loop-next-preserved
loop-next-preserved g c =
    goes_further (g.R.Rows.kept c.args.rows.now) c.args.ready.now.timed.query.now c.args.view.now.id
    (g.met.R.Rows.well_kept c.args.rows.now) c.args.found.now.items c.loop-next.found.items c.loop-next.next
    c.in-Some.item c.loop-next.invariant c.in-Some.is c.add_item.new.found.items c.next_reference-next.result
    c.in_ok-add_item.ensures.added c.in_ok-add_item.ensures.views c.next_reference-next.ensures.next

pub returns-clause-added : goal.returns-clause-added
returns-clause-added g c =
    let kept : Kept = g.R.Rows.kept c.args.rows.now in
    (ends item_names (having kept.items c.args.view.now.id) (HaveJoined kept c.args.ready.now.timed.query.now
    c.args.view.now.id c.args.found.now.items c.loop-next.found.items) c.loop-next.next c.loop-next.invariant
    (λ id some. c.in_default.not-Some id some)).added

pub returns-clause-views : goal.returns-clause-views
returns-clause-views g c =
    let kept : Kept = g.R.Rows.kept c.args.rows.now in
    (ends item_names (having kept.items c.args.view.now.id) (HaveJoined kept c.args.ready.now.timed.query.now
    c.args.view.now.id c.args.found.now.items c.loop-next.found.items) c.loop-next.next c.loop-next.invariant
    (λ id some. c.in_default.not-Some id some)).views

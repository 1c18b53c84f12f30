use Rattle.std.proofs.Common.{refl}
use Rattle.pl_base.specs.Rows.{Kept, store_of}
use Rattle.pl_base.proofs.ReferencesRun.{has_item_here, having, item_here, item_names, references_run}
use Rattle.pl_base.proofs.Walk.{StandsAt, ends, goes_on, nears, stands, starts}
use Rattle.pl_base.specs.Tree.{reference_behind}
use Rattle.pl_query.proofs.MarksLatest.{AreLatest, last_added_is, last_modified_is, latest_more}
use Rattle.pl_query.proofs.mark_dates.mark_dates.Goals as goal

pub loop-next-init : goal.loop-next-init
loop-next-init g c =
    let kept : Kept = g.R.Rows.kept c.args.rows.now in
    starts item_names (having kept.items c.args.page) (AreLatest (store_of kept)
    (record { added = record { 0 = 0 }; modified = record { 0 = 0 } })) c.first_reference-next.result
    c.first_reference-next.ensures.first (record { added = refl; modified = refl })

pub with_item-dates-requires : goal.with_item-dates-requires
with_item-dates-requires g c =
    let kept : Kept = g.R.Rows.kept c.args.rows.now in
    let latest = AreLatest (store_of kept) c.loop-next.dates in
    has_item_here kept c.args.page latest c.in-Some.item (g.met.R.Rows.well_kept c.args.rows.now)
    (stands item_names (having kept.items c.args.page) latest c.loop-next.next c.in-Some.item c.loop-next.invariant
    c.in-Some.is)

pub loop-next-smaller : goal.loop-next-smaller
loop-next-smaller g c =
    let kept : Kept = g.R.Rows.kept c.args.rows.now in
    let latest = AreLatest (store_of kept) c.loop-next.dates in
    nears item_names (reference_behind kept.items) (having kept.items c.args.page) latest c.loop-next.next
    c.next_reference-next.result c.in-Some.item (references_run kept c.args.page
    (g.met.R.Rows.well_kept c.args.rows.now)) (stands item_names (having kept.items c.args.page) latest c.loop-next.next
    c.in-Some.item c.loop-next.invariant c.in-Some.is) c.in-Some.is c.next_reference-next.ensures.next

pub loop-next-preserved : goal.loop-next-preserved
loop-next-preserved g c =
    let kept : Kept = g.R.Rows.kept c.args.rows.now in
    let latest = AreLatest (store_of kept) c.loop-next.dates in
    let h = g.met.R.Rows.well_kept c.args.rows.now in
    let w : StandsAt item_names (having kept.items c.args.page) latest c.in-Some.item =
    stands item_names (having kept.items c.args.page) latest c.loop-next.next c.in-Some.item c.loop-next.invariant
    c.in-Some.is in
    goes_on item_names (reference_behind kept.items) (having kept.items c.args.page) latest
    (AreLatest (store_of kept) c.with_item-dates.result) c.in-Some.item c.next_reference-next.result
    (references_run kept c.args.page h) w c.next_reference-next.ensures.next
    (latest_more (store_of kept) c.loop-next.dates c.with_item-dates.result w.front w.element w.so_far
    (c.with_item-dates.ensures w.element (item_here kept c.args.page latest c.in-Some.item h w)))

pub returns-clause-added : goal.returns-clause-added
returns-clause-added g c =
    let kept : Kept = g.R.Rows.kept c.args.rows.now in
    last_added_is (store_of kept) c.args.page c.loop-next.dates
    (ends item_names (having kept.items c.args.page) (AreLatest (store_of kept) c.loop-next.dates) c.loop-next.next
    c.loop-next.invariant (λ id some. c.in_default.not-Some id some))

pub returns-clause-modified : goal.returns-clause-modified
returns-clause-modified g c =
    let kept : Kept = g.R.Rows.kept c.args.rows.now in
    last_modified_is (store_of kept) c.args.page c.loop-next.dates
    (ends item_names (having kept.items c.args.page) (AreLatest (store_of kept) c.loop-next.dates) c.loop-next.next
    c.loop-next.invariant (λ id some. c.in_default.not-Some id some))

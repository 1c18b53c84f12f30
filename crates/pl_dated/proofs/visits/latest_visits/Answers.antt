use Rattle.std.specs.Option.{option_copied, option_map_or}
use Rattle.pl_base.specs.Rows.{store_of}
use Rattle.pl_base.proofs.Walk.{ends}
use Rattle.std.proofs.Common.{◌∙◌, false, sym}
use Rattle.pl_indexed.specs.declared.walk.KeptOrder.TheVariants.{LatestFirst}
use Rattle.pl_indexed.proofs.ViewsWalk.{no_view}
use Rattle.pl_indexed.proofs.WalkOrder.{view_names, walked}
use Rattle.pl_dated.specs.Listed.{is_over}
use Rattle.pl_dated.proofs.DatedPages.{of_pages}
use Rattle.pl_dated.proofs.PagesJoined.{PagesJoin}
use Rattle.pl_dated.proofs.PagesWalk.{all_walked, begins, goes_further, known_here, over_here, stands_here}
use Rattle.pl_dated.proofs.visits.latest_visits.Goals as goal

pub loop-init : goal.loop-init
loop-init g c =
    let kept = g.R.Rows.kept c.args.rows.now in
    let views = c.args.known.now.views.items in
    begins kept c.args.timed.now.query.now (g.met.R.Rows.well_kept c.args.rows.now) views c.requires.followed.order
    (of_pages (store_of kept) (store_of kept).pages views c.requires.views) c.new-first.result
    (option_copied c.next_view-next.result) c.new-first.ensures c.next_view-next.ensures

pub returns-in_default : goal.returns-in_default
returns-in_default g c =
    let kept = g.R.Rows.kept c.args.rows.now in
    let views = c.args.known.now.views.items in
    all_walked kept c.args.timed.now.query.now (g.met.R.Rows.well_kept c.args.rows.now) views c.requires.followed.order
    (of_pages (store_of kept) (store_of kept).pages views c.requires.views) c.loop.first
    (ends (view_names LatestFirst) (walked LatestFirst views) (PagesJoin kept c.args.timed.now.query.now views c.loop.first)
    (option_copied c.loop.next) c.loop.invariant (no_view c.loop.next c.in_default.not-Some))

pub returns-then-is_page_over : goal.returns-then-is_page_over
returns-then-is_page_over g c =
    let kept = g.R.Rows.kept c.args.rows.now in
    let views = c.args.known.now.views.items in
    over_here kept c.args.timed.now.query.now (g.met.R.Rows.well_kept c.args.rows.now) views c.requires.followed.order
    (of_pages (store_of kept) (store_of kept).pages views c.requires.views) c.loop.first c.loop.next c.in-Some.view
    c.loop.invariant c.in-Some.is
    (sym {b = option_map_or (is_over (store_of kept) c.args.timed.now.query.now c.loop.first.floor)
    c.in-Some.view.now.last false}
    (c.is_page_over.ensures (store_of kept) c.requires.times) ∙ c.if-is_page_over.true)

pub add_page-requires-clause-view : goal.add_page-requires-clause-view
add_page-requires-clause-view g c =
    let kept = g.R.Rows.kept c.args.rows.now in
    let views = c.args.known.now.views.items in
    known_here kept c.args.timed.now.query.now (g.met.R.Rows.well_kept c.args.rows.now) views c.requires.followed.order
    (of_pages (store_of kept) (store_of kept).pages views c.requires.views) c.loop.first c.loop.next c.in-Some.view
    c.loop.invariant c.in-Some.is

pub next_view-next-requires-in-loop-clause-stands : goal.next_view-next-requires-in-loop-clause-stands
next_view-next-requires-in-loop-clause-stands g c =
    let kept = g.R.Rows.kept c.args.rows.now in
    let views = c.args.known.now.views.items in
    stands_here kept c.args.timed.now.query.now (g.met.R.Rows.well_kept c.args.rows.now) views c.requires.followed.order
    (of_pages (store_of kept) (store_of kept).pages views c.requires.views) c.loop.first c.loop.next c.in-Some.view
    c.loop.invariant c.in-Some.is

pub loop-preserved : goal.loop-preserved
loop-preserved g c =
    let kept = g.R.Rows.kept c.args.rows.now in
    let views = c.args.known.now.views.items in
    goes_further kept c.args.timed.now.query.now (g.met.R.Rows.well_kept c.args.rows.now) views c.requires.followed.order
    (of_pages (store_of kept) (store_of kept).pages views c.requires.views) c.loop.first c.loop.next c.in-Some.view
    c.loop.invariant c.in-Some.is c.add_page.new.first (option_copied c.next_view-next-in-loop.result)
    c.in_ok-add_page.ensures c.next_view-next-in-loop.ensures

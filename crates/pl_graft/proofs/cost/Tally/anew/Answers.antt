-- A walk over all pages, at whose end those that stay are counted.
use Rattle.std.proofs.Common.{◌∙◌}
use Rattle.pl_base.specs.Rows.{Kept, store_of}
use Rattle.pl_base.proofs.PagesRun.{first_behind, following, has_page_here, page_names, pages_run}
use Rattle.pl_base.proofs.Walk.{StandsAt, goes_on, nears, stands, starts}
use Rattle.pl_graft.specs.Restored.{emptied}
use Rattle.pl_graft.proofs.SparedSteps.{IsTallied, first_tallied, room_here, tallied_more}
use Rattle.pl_graft.proofs.cost.Tally.anew.Goals as goal

pub loop-next-init : goal.loop-next-init
loop-next-init g c =
    let kept : Kept = g.R.Rows.kept c.args.rows.now in
    starts page_names kept.pages (IsTallied c.args.tree.now (emptied (store_of kept)) c.without_pages-tally.result)
    c.page_after-next.result
    (c.page_after-next.ensures.next ∙ first_behind kept (g.met.R.Rows.well_kept c.args.rows.now))
    (first_tallied kept c.args.tree.now c.without_pages-tally.result c.without_pages-tally.ensures.tally
    c.without_pages-tally.ensures.few)

pub spare-requires-clause-page : goal.spare-requires-clause-page
spare-requires-clause-page g c =
    let kept : Kept = g.R.Rows.kept c.args.rows.now in
    let P = IsTallied c.args.tree.now (emptied (store_of kept)) c.loop-next.tally in
    has_page_here kept P c.in-Some.page
    (stands page_names kept.pages P c.loop-next.next c.in-Some.page c.loop-next.invariant c.in-Some.is)

pub spare-requires-clause-room : goal.spare-requires-clause-room
spare-requires-clause-room g c =
    let kept : Kept = g.R.Rows.kept c.args.rows.now in
    let P = IsTallied c.args.tree.now (emptied (store_of kept)) c.loop-next.tally in
    room_here kept (g.met.R.Rows.well_kept c.args.rows.now) c.args.tree.now c.loop-next.tally c.in-Some.page
    (stands page_names kept.pages P c.loop-next.next c.in-Some.page c.loop-next.invariant c.in-Some.is)

pub loop-next-smaller : goal.loop-next-smaller
loop-next-smaller g c =
    let kept : Kept = g.R.Rows.kept c.args.rows.now in
    let P = IsTallied c.args.tree.now (emptied (store_of kept)) c.loop-next.tally in
    nears page_names (following kept) kept.pages P c.loop-next.next c.page_after-next-in-Some.result c.in-Some.page
    (pages_run kept (g.met.R.Rows.well_kept c.args.rows.now))
    (stands page_names kept.pages P c.loop-next.next c.in-Some.page c.loop-next.invariant c.in-Some.is) c.in-Some.is
    c.page_after-next-in-Some.ensures.next

pub loop-next-preserved : goal.loop-next-preserved
loop-next-preserved g c =
    let kept : Kept = g.R.Rows.kept c.args.rows.now in
    let h = g.met.R.Rows.well_kept c.args.rows.now in
    let P = IsTallied c.args.tree.now (emptied (store_of kept)) c.loop-next.tally in
    let w : StandsAt page_names kept.pages P c.in-Some.page =
    stands page_names kept.pages P c.loop-next.next c.in-Some.page c.loop-next.invariant c.in-Some.is in
    goes_on page_names (following kept) kept.pages P
    (IsTallied c.args.tree.now (emptied (store_of kept)) c.spare.new.self) c.in-Some.page
    c.page_after-next-in-Some.result (pages_run kept h) w c.page_after-next-in-Some.ensures.next
    (tallied_more kept h c.args.tree.now c.in_ok-named.named c.loop-next.tally c.spare.new.self c.in-Some.page
    c.in_ok-named.ensures.named w c.in_ok-spare.ensures.few c.in_ok-spare.ensures.tally)

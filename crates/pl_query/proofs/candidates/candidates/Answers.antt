use Rattle.std.proofs.Common.{◌∙◌}
use Rattle.pl_base.specs.Rows.{Kept}
use Rattle.pl_base.proofs.PagesRun.{first_behind, following, found_at, page_names, pages_run}
use Rattle.pl_base.proofs.Walk.{StandsAt, goes_on, nears, stands, starts}
use Rattle.pl_query.proofs.AllParts.{HasParts, parts_more}
use Rattle.pl_query.proofs.candidates.candidates.Goals as goal

pub loop-next-init : goal.loop-next-init
loop-next-init g c =
    let kept : Kept = g.R.Rows.kept c.args.rows.now in
    starts page_names kept.pages (HasParts kept c.args.asked.now.query.now c.new-candidates.result.items)
    c.page_after-next.result (c.page_after-next.ensures.next ∙ first_behind kept
    (g.met.R.Rows.well_kept c.args.rows.now)) c.new-candidates.ensures.items

pub loop-next-smaller : goal.loop-next-smaller
loop-next-smaller g c =
    let kept : Kept = g.R.Rows.kept c.args.rows.now in
    nears page_names (following kept) kept.pages (HasParts kept c.args.asked.now.query.now c.loop-next.candidates.items)
    c.loop-next.next c.page_after-next-in-Some.result c.in-Some.page
    (pages_run kept (g.met.R.Rows.well_kept c.args.rows.now))
    (stands page_names kept.pages (HasParts kept c.args.asked.now.query.now c.loop-next.candidates.items)
    c.loop-next.next c.in-Some.page c.loop-next.invariant c.in-Some.is) c.in-Some.is
    c.page_after-next-in-Some.ensures.next

pub loop-next-preserved : goal.loop-next-preserved
loop-next-preserved g c =
    let kept : Kept = g.R.Rows.kept c.args.rows.now in
    let h = g.met.R.Rows.well_kept c.args.rows.now in
    let q = c.args.asked.now.query.now in
    let has = HasParts kept q c.loop-next.candidates.items in
    let w : StandsAt page_names kept.pages has c.in-Some.page =
    stands page_names kept.pages has c.loop-next.next c.in-Some.page c.loop-next.invariant c.in-Some.is in
    goes_on page_names (following kept) kept.pages has (HasParts kept q c.add_rows.new.candidates.items) c.in-Some.page
    c.page_after-next-in-Some.result (pages_run kept h) w c.page_after-next-in-Some.ensures.next
    (parts_more kept q c.loop-next.candidates.items c.add_rows.new.candidates.items w.front w.element w.so_far
    (c.in_ok-add_rows.ensures w.element (found_at kept c.in-Some.page w.front w.element w.rest h w.whole w.is)))

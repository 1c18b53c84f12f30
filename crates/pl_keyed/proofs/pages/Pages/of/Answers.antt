use Rattle.std.proofs.Common.{◌∙◌, List, Some, ap, ℕ}
use Rattle.pl_base.specs.Rows.{Kept}
use Rattle.pl_base.proofs.PagesRun.{first_behind, following, page_names, pages_run}
use Rattle.pl_base.proofs.Walk.{StandsAt, goes_on, nears, stands, starts}
use Rattle.pl_marks.proofs.KeptUrls.{url-of_store}
use Rattle.pl_keyed.proofs.PageLookups.{KnowsRows, knows_here, knows_none}
use Rattle.pl_keyed.proofs.pages.Pages.of.Goals as goal

pub loop-next-init : goal.loop-next-init
loop-next-init g c =
    starts page_names (g.R.Rows.kept c.args.rows.now).pages (KnowsRows
    (record { urls = c.new.result; origins = c.new-2.result })) c.page_after-next.result
    (c.page_after-next.ensures.next ∙ first_behind (g.R.Rows.kept c.args.rows.now)
    (g.met.R.Rows.well_kept c.args.rows.now)) (knows_none c.new.result c.new-2.result c.new.ensures.empty
    c.new-2.ensures.empty)

pub parts_of-requires : goal.parts_of-requires
parts_of-requires g c =
    url-of_store (g.R.Rows.kept c.args.rows.now) c.in-Some.page c.as_str.result.now
    (g.met.R.Rows.well_kept c.args.rows.now)
    (ap (λ (text : List ℕ). Some text) c.as_str.ensures ∙ c.in_ok-url.ensures.url)

pub loop-next-smaller : goal.loop-next-smaller
loop-next-smaller g c =
    nears page_names (following (g.R.Rows.kept c.args.rows.now)) (g.R.Rows.kept c.args.rows.now).pages
    (KnowsRows c.loop-next.pages) c.loop-next.next c.page_after-next-in-Some.result c.in-Some.page
    (pages_run (g.R.Rows.kept c.args.rows.now) (g.met.R.Rows.well_kept c.args.rows.now))
    (stands page_names (g.R.Rows.kept c.args.rows.now).pages (KnowsRows c.loop-next.pages) c.loop-next.next
    c.in-Some.page c.loop-next.invariant c.in-Some.is) c.in-Some.is c.page_after-next-in-Some.ensures.next

pub loop-next-preserved : goal.loop-next-preserved
loop-next-preserved g c =
    let kept : Kept = g.R.Rows.kept c.args.rows.now in
    let h = g.met.R.Rows.well_kept c.args.rows.now in
    let w : StandsAt page_names kept.pages (KnowsRows c.loop-next.pages) c.in-Some.page =
    stands page_names kept.pages (KnowsRows c.loop-next.pages) c.loop-next.next c.in-Some.page c.loop-next.invariant
    c.in-Some.is in
    goes_on page_names (following kept) kept.pages (KnowsRows c.loop-next.pages) (KnowsRows c.add.new.self)
    c.in-Some.page c.page_after-next-in-Some.result (pages_run kept h) w c.page_after-next-in-Some.ensures.next
    (knows_here kept c.loop-next.pages c.add.new.self c.in-Some.page c.as_str-in-Some.result.now c.from.result h w
    (ap (λ (text : List ℕ). Some text) c.as_str-in-Some.ensures ∙ c.in_ok-url.ensures.url) c.from.ensures
    c.in_ok-add.ensures)

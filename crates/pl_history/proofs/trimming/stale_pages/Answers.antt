use Rattle.std.proofs.Common.{◌∙◌, ◌≢◌, filter, not}
use Rattle.std.proofs.lemmas.List.Kept.{AllPairs-filter}
use Rattle.pl_base.specs.Marks.{is_referenced}
use Rattle.pl_base.specs.Rows.{Kept, store_of}
use Rattle.pl_history.proofs.StalePages.{AreStale, stale_more}
use Rattle.pl_base.specs.Store.{Page}
use Rattle.pl_base.proofs.PagesRun.{first_behind, following, page_names, pages_run}
use Rattle.pl_base.proofs.Walk.{StandsAt, ends, goes_on, nears, stands, starts}
use Rattle.pl_history.proofs.StaleSort.{pages_apart, stalest_is}
use Rattle.pl_history.proofs.trimming.stale_pages.Goals as goal

pub loop-next-init : goal.loop-next-init
loop-next-init g c =
    let kept : Kept = g.R.Rows.kept c.args.rows.now in
    starts page_names kept.pages (AreStale (store_of kept) c.new-pages.result.items) c.page_after-next.result
    (c.page_after-next.ensures.next ∙ first_behind kept (g.met.R.Rows.well_kept c.args.rows.now))
    c.new-pages.ensures.items

pub loop-next-smaller : goal.loop-next-smaller
loop-next-smaller g c =
    let kept : Kept = g.R.Rows.kept c.args.rows.now in
    nears page_names (following kept) kept.pages (AreStale (store_of kept) c.loop-next.pages.items) c.loop-next.next
    c.page_after-next-in-Some.result c.in-Some.page (pages_run kept (g.met.R.Rows.well_kept c.args.rows.now))
    (stands page_names kept.pages (AreStale (store_of kept) c.loop-next.pages.items) c.loop-next.next c.in-Some.page
    c.loop-next.invariant c.in-Some.is) c.in-Some.is c.page_after-next-in-Some.ensures.next

pub loop-next-preserved : goal.loop-next-preserved
loop-next-preserved g c =
    let kept : Kept = g.R.Rows.kept c.args.rows.now in
    let found = AreStale (store_of kept) c.loop-next.pages.items in
    let w : StandsAt page_names kept.pages found c.in-Some.page =
    stands page_names kept.pages found c.loop-next.next c.in-Some.page c.loop-next.invariant c.in-Some.is in
    goes_on page_names (following kept) kept.pages found (AreStale (store_of kept) c.add_if_stale.new.pages.items)
    c.in-Some.page c.page_after-next-in-Some.result (pages_run kept (g.met.R.Rows.well_kept c.args.rows.now)) w
    c.page_after-next-in-Some.ensures.next (stale_more (store_of kept) w.front w.element c.loop-next.pages.items
    c.add_if_stale.new.pages.items w.so_far
    (c.in_ok-add_if_stale.ensures w.element w.is))

pub returns : goal.returns
returns g c =
    let kept : Kept = g.R.Rows.kept c.args.rows.now in
    stalest_is (store_of kept) (filter (λ (p : Page). not (is_referenced (store_of kept) p.id)) (store_of kept).pages)
    c.loop-next.pages.items c.sort_unstable.new.self.items
    (AllPairs-filter (λ (p q : Page). p.id.0 ≢ q.id.0) (λ (p : Page). not (is_referenced (store_of kept) p.id))
    (store_of kept).pages
    (pages_apart kept (g.met.R.Rows.well_kept c.args.rows.now)))
    (ends page_names kept.pages (AreStale (store_of kept) c.loop-next.pages.items) c.loop-next.next
    c.loop-next.invariant (λ id some. c.in_default.not-Some id some))
    c.sort_unstable.ensures.permutation c.sort_unstable.ensures.sorted

use Rattle.std.proofs.Common.{◌∙◌}
use Rattle.pl_base.specs.Rows.{Kept}
use Rattle.pl_base.proofs.PagesRun.{first_behind, following, page_names, pages_run}
use Rattle.pl_base.proofs.Walk.{StandsAt, ends, goes_on, nears, stands, starts}
use Rattle.pl_history.specs.Taken.{is_before}
use Rattle.pl_history.proofs.TakenVisits.{HasTaken, all_these, has_more}
use Rattle.pl_history.proofs.expiration.visits_before.Goals as goal

pub loop-next-init : goal.loop-next-init
loop-next-init g c =
    let kept : Kept = g.R.Rows.kept c.args.rows.now in
    starts page_names kept.pages (HasTaken (is_before c.args.day) kept c.new-visits.result.items)
    c.page_after-next.result (c.page_after-next.ensures.next ∙ first_behind kept
    (g.met.R.Rows.well_kept c.args.rows.now)) c.new-visits.ensures.items

pub loop-next-smaller : goal.loop-next-smaller
loop-next-smaller g c =
    let kept : Kept = g.R.Rows.kept c.args.rows.now in
    nears page_names (following kept) kept.pages (HasTaken (is_before c.args.day) kept c.loop-next.visits.items)
    c.loop-next.next c.page_after-next-in-Some.result c.in-Some.page
    (pages_run kept (g.met.R.Rows.well_kept c.args.rows.now))
    (stands page_names kept.pages (HasTaken (is_before c.args.day) kept c.loop-next.visits.items) c.loop-next.next
    c.in-Some.page c.loop-next.invariant c.in-Some.is) c.in-Some.is c.page_after-next-in-Some.ensures.next

pub loop-next-preserved : goal.loop-next-preserved
loop-next-preserved g c =
    let kept : Kept = g.R.Rows.kept c.args.rows.now in
    let taken = HasTaken (is_before c.args.day) kept c.loop-next.visits.items in
    let w : StandsAt page_names kept.pages taken c.in-Some.page =
    stands page_names kept.pages taken c.loop-next.next c.in-Some.page c.loop-next.invariant c.in-Some.is in
    goes_on page_names (following kept) kept.pages taken (HasTaken (is_before c.args.day) kept
    c.add_visits_before.new.visits.items) c.in-Some.page c.page_after-next-in-Some.result
    (pages_run kept (g.met.R.Rows.well_kept c.args.rows.now)) w c.page_after-next-in-Some.ensures.next
    (has_more (is_before c.args.day) kept w.front w.element c.in-Some.page c.loop-next.visits.items
    c.add_visits_before.new.visits.items w.so_far w.is c.in_ok-add_visits_before.ensures)

pub returns : goal.returns
returns g c =
    let kept : Kept = g.R.Rows.kept c.args.rows.now in
    all_these (is_before c.args.day) kept c.loop-next.visits.items (g.met.R.Rows.well_kept c.args.rows.now)
    (ends page_names kept.pages (HasTaken (is_before c.args.day) kept c.loop-next.visits.items) c.loop-next.next
    c.loop-next.invariant (λ id some. c.in_default.not-Some id some))

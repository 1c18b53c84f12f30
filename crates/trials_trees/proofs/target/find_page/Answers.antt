use Rattle.std.proofs.Common.{◌∙◌, List, Some, ap, bytes_eq, ℕ, sym}
use Rattle.std.specs.Option.{option_map}
use Rattle.pl_base.specs.Rows.{Kept}
use Rattle.pl_base.specs.Store.{Page}
use Rattle.pl_base.proofs.PagesRun.{first_behind, following, page_names, pages_run}
use Rattle.pl_base.proofs.Walk.{ends, nears, stands, starts}
use Rattle.trials_trees.proofs.SearchedPages.{NonePasses, found_here, none_found, search_goes_on}
use Rattle.trials_trees.proofs.target.find_page.Goals as goal

pub loop-next-init : goal.loop-next-init
loop-next-init g c =
    let kept : Kept = g.R.Rows.kept c.args.rows.now in
    starts page_names kept.pages (NonePasses (λ (text : List ℕ). bytes_eq text c.args.url.now)) c.page_after-next.result
    (c.page_after-next.ensures.next ∙ first_behind kept (g.met.R.Rows.well_kept c.args.rows.now)) tt

pub returns-then-branch : goal.returns-then-branch
returns-then-branch g c =
    let kept : Kept = g.R.Rows.kept c.args.rows.now in
    found_here (λ (text : List ℕ). bytes_eq text c.args.url.now) kept c.in-Some.page
    (g.met.R.Rows.well_kept c.args.rows.now)
    (stands page_names kept.pages (NonePasses (λ (text : List ℕ). bytes_eq text c.args.url.now)) c.loop-next.next
    c.in-Some.page c.loop-next.invariant c.in-Some.is)
    (ap Some (sym c.if-branch.true) ∙ c.in_ok-has_url.ensures)

pub loop-next-smaller : goal.loop-next-smaller
loop-next-smaller g c =
    let kept : Kept = g.R.Rows.kept c.args.rows.now in
    nears page_names (following kept) kept.pages (NonePasses (λ (text : List ℕ). bytes_eq text c.args.url.now))
    c.loop-next.next c.page_after-next-in-Some.result c.in-Some.page
    (pages_run kept (g.met.R.Rows.well_kept c.args.rows.now))
    (stands page_names kept.pages (NonePasses (λ (text : List ℕ). bytes_eq text c.args.url.now)) c.loop-next.next
    c.in-Some.page c.loop-next.invariant c.in-Some.is)
    c.in-Some.is c.page_after-next-in-Some.ensures.next

pub loop-next-preserved : goal.loop-next-preserved
loop-next-preserved g c =
    let kept : Kept = g.R.Rows.kept c.args.rows.now in
    search_goes_on (λ (text : List ℕ). bytes_eq text c.args.url.now) kept c.in-Some.page
    c.page_after-next-in-Some.result (g.met.R.Rows.well_kept c.args.rows.now)
    (stands page_names kept.pages (NonePasses (λ (text : List ℕ). bytes_eq text c.args.url.now)) c.loop-next.next
    c.in-Some.page c.loop-next.invariant c.in-Some.is)
    (ap Some (sym c.if-branch.false) ∙ c.in_ok-has_url.ensures) c.page_after-next-in-Some.ensures.next

pub returns : goal.returns
returns g c =
    let kept : Kept = g.R.Rows.kept c.args.rows.now in
    sym (ap (option_map (λ (p : Page). p.id))
    (none_found (λ (text : List ℕ). bytes_eq text c.args.url.now) kept.pages
    (ends page_names kept.pages (NonePasses (λ (text : List ℕ). bytes_eq text c.args.url.now)) c.loop-next.next
    c.loop-next.invariant (λ id some. c.in_default.not-Some id some))))

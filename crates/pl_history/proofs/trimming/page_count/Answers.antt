use Rattle.std.proofs.Common.{◌∙◌, ◌≡◌, ◌+◌, ◌∷◌, [], arith, length, length-append, refl, sym}
use Rattle.pl_base.specs.Rows.{Kept}
use Rattle.pl_base.proofs.PagesRun.{first_behind, following, page_names, pages_run}
use Rattle.pl_base.proofs.Walk.{StandsAt, ends, goes_on, nears, stands, starts}
use Rattle.pl_history.proofs.trimming.page_count.Goals as goal

pub loop-next-init : goal.loop-next-init
loop-next-init g c =
    starts page_names (g.R.Rows.kept c.args.rows.now).pages (λ front. length front ≡ 0) c.page_after-next.result
    (c.page_after-next.ensures.next ∙ first_behind (g.R.Rows.kept c.args.rows.now)
    (g.met.R.Rows.well_kept c.args.rows.now)) refl

pub loop-next-smaller : goal.loop-next-smaller
loop-next-smaller g c =
    nears page_names (following (g.R.Rows.kept c.args.rows.now)) (g.R.Rows.kept c.args.rows.now).pages
    (λ front. length front ≡ c.loop-next.count) c.loop-next.next c.page_after-next-in-Some.result c.in-Some.page
    (pages_run (g.R.Rows.kept c.args.rows.now) (g.met.R.Rows.well_kept c.args.rows.now))
    (stands page_names (g.R.Rows.kept c.args.rows.now).pages (λ front. length front ≡ c.loop-next.count)
    c.loop-next.next c.in-Some.page c.loop-next.invariant c.in-Some.is) c.in-Some.is
    c.page_after-next-in-Some.ensures.next

pub loop-next-preserved : goal.loop-next-preserved
loop-next-preserved g c =
    let kept : Kept = g.R.Rows.kept c.args.rows.now in
    let w : StandsAt page_names kept.pages (λ front. length front ≡ c.loop-next.count) c.in-Some.page =
    stands page_names kept.pages (λ front. length front ≡ c.loop-next.count) c.loop-next.next c.in-Some.page
    c.loop-next.invariant c.in-Some.is in
    goes_on page_names (following kept) kept.pages (λ front. length front ≡ c.loop-next.count)
    (λ front. length front ≡ c.loop-next.count + 1) c.in-Some.page c.page_after-next-in-Some.result
    (pages_run kept (g.met.R.Rows.well_kept c.args.rows.now)) w c.page_after-next-in-Some.ensures.next
    (omega (arith, length-append w.front (w.element ∷ []), w.so_far))

pub returns : goal.returns
returns g c =
    sym (ends page_names (g.R.Rows.kept c.args.rows.now).pages (λ front. length front ≡ c.loop-next.count)
    c.loop-next.next c.loop-next.invariant (λ id some. c.in_default.not-Some id some))

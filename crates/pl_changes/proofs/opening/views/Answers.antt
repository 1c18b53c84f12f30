use Rattle.std.proofs.Common.{◌∙◌, ◌++◌, ◌∷◌, [], List, subst, sym}
use Rattle.pl_base.specs.declared.view.View.{View}
use Rattle.pl_base.specs.Rows.{Kept, store_of}
use Rattle.pl_base.proofs.PagesRun.{first_behind, following, found_at, has_page_here, page_names, pages_run}
use Rattle.pl_base.proofs.Walk.{StandsAt, ends, goes_on, nears, stands, starts}
use Rattle.pl_changes.proofs.ViewsSoFar.{HasViews, one_more}
use Rattle.pl_changes.proofs.opening.views.Goals as goal

pub loop-next-init : goal.loop-next-init
loop-next-init g c =
    let kept : Kept = g.R.Rows.kept c.args.rows.now in (
      starts page_names kept.pages (HasViews (store_of kept) c.new-views.result.items) c.page_after-next.result
          (c.page_after-next.ensures.next ∙ first_behind kept (g.met.R.Rows.well_kept c.args.rows.now))
          (subst (λ (views : List View). HasViews (store_of kept) views []) (sym c.new-views.ensures.items) tt),
      c.new-origins.ensures kept,
    )

pub view-requires-clause-page : goal.view-requires-clause-page
view-requires-clause-page g c =
    let kept : Kept = g.R.Rows.kept c.args.rows.now in
    has_page_here kept (HasViews (store_of kept) c.loop-next.views.items) c.in-Some.page
    (stands page_names kept.pages (HasViews (store_of kept) c.loop-next.views.items) c.loop-next.next c.in-Some.page
    c.loop-next.invariant.0 c.in-Some.is)

pub loop-next-smaller : goal.loop-next-smaller
loop-next-smaller g c =
    let kept : Kept = g.R.Rows.kept c.args.rows.now in
    nears page_names (following kept) kept.pages (HasViews (store_of kept) c.loop-next.views.items) c.loop-next.next
    c.page_after-next-in-Some.result c.in-Some.page (pages_run kept (g.met.R.Rows.well_kept c.args.rows.now))
    (stands page_names kept.pages (HasViews (store_of kept) c.loop-next.views.items) c.loop-next.next c.in-Some.page
    c.loop-next.invariant.0 c.in-Some.is) c.in-Some.is c.page_after-next-in-Some.ensures.next

pub loop-next-preserved : goal.loop-next-preserved
loop-next-preserved g c =
    let kept : Kept = g.R.Rows.kept c.args.rows.now in
    let h = g.met.R.Rows.well_kept c.args.rows.now in
    let w : StandsAt page_names kept.pages (HasViews (store_of kept) c.loop-next.views.items) c.in-Some.page =
    stands page_names kept.pages (HasViews (store_of kept) c.loop-next.views.items) c.loop-next.next c.in-Some.page
    c.loop-next.invariant.0 c.in-Some.is in (
      goes_on page_names (following kept) kept.pages (HasViews (store_of kept) c.loop-next.views.items)
          (HasViews (store_of kept) c.push.new.self.items) c.in-Some.page c.page_after-next-in-Some.result (pages_run kept h)
          w c.page_after-next-in-Some.ensures.next (subst (λ (views : List View). HasViews (store_of kept) views
          (w.front ++ w.element ∷ []))
          (sym c.in_ok-push.ensures.items)
          (one_more (store_of kept) w.front w.element c.loop-next.views.items c.in_ok-view.field-0 w.so_far
          (c.in_ok-view.ensures.view w.element (found_at kept c.in-Some.page w.front w.element w.rest h w.whole w.is)))),
      c.in_ok-view.ensures.told,
    )

pub returns : goal.returns
returns g c =
    let kept : Kept = g.R.Rows.kept c.args.rows.now in
    ends page_names kept.pages (HasViews (store_of kept) c.loop-next.views.items) c.loop-next.next
    c.loop-next.invariant.0 (λ id some. c.in_default.not-Some id some)

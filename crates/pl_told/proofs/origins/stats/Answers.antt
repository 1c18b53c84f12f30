use Rattle.std.proofs.Common.{◌≡◌, ◌∙◌, ap, arith, length, refl, List}
use Rattle.pl_base.specs.declared.view.View.{View}
use Rattle.pl_base.specs.Rows.{store_of}
use Rattle.pl_base.specs.Store.{Store}
use Rattle.pl_base.specs.Totals.{origins_with_total, scored_pages, sum_of_totals}
use Rattle.pl_base.specs.View.{scored_views}
use Rattle.pl_known.proofs.KnownPages.{as_many}
use Rattle.pl_told.proofs.Views.{scored_same}
use Rattle.pl_told.proofs.origins.stats.Goals as goal

pub overflow_cast-result : goal.overflow_cast-result
overflow_cast-result g c = omega (arith, c.len.ensures, c.requires.knows.followed.fit.few)

pub returns : goal.returns
returns g c =
    let store : Store = store_of (g.R.Rows.kept c.args.rows.now) in
    let views : List View = c.args.known.now.views.items in
    let same : scored_views views ≡ scored_pages store = scored_same store views c.requires.knows.views in
    let pages : c.len.result ≡ length store.pages =
    omega (arith, c.len.ensures, as_many store views c.requires.knows.views) in
    rw (
      pages,
      c.visits.ensures.visits,
      c.items.ensures.items,
      c.sums-origins.ensures.count views c.requires.knows.followed.totals ∙ ap origins_with_total same,
      c.sums-origins.ensures.sum views c.requires.knows.followed.totals ∙ ap sum_of_totals same,
      c.live.ensures.live,
    ) refl

use Rattle.std.proofs.Common.{◌≡◌, ◌∙◌, ap, arith, refl, List}
use Rattle.pl_base.specs.declared.view.View.{View}
use Rattle.pl_base.specs.Address.{record_of}
use Rattle.pl_base.specs.Totals.{Origin, Scored, scored_pages, total_of}
use Rattle.pl_base.specs.View.{scored_views}
use Rattle.pl_step.specs.Step.{origin_passes, pages_of}
use Rattle.pl_told.proofs.Views.{counted, few_pages, none_told, scored_same, some_told}
use Rattle.pl_told.proofs.origins.origin.Goals as goal

pub returns-then-pages-eq0 : goal.returns-then-pages-eq0
returns-then-pages-eq0 c = λ store knows.
    let views : List View = c.args.known.now.views.items in
    let origin : Origin = (c.in_ok-parts.parts.prefix, c.in_ok-parts.parts.host) in
    none_told (scored_pages store) (record_of c.args.url.now) c.in_ok-parts.parts c.pages-pages.result
    c.in_ok-parts.ensures.parts
    ((rw (c.as_str.ensures, c.as_str-2.ensures) at (c.pages-pages.ensures views c.requires.followed.totals))
    ∙ counted views origin
    ∙ ap (λ (ss : List Scored). pages_of ss origin) (scored_same store views knows.views))
    c.if-pages-eq0.true

pub overflow_cast-result : goal.overflow_cast-result
overflow_cast-result c =
    let views : List View = c.args.known.now.views.items in
    let origin : Origin = (c.in_ok-parts.parts.prefix, c.in_ok-parts.parts.host) in
    let count : c.pages-pages.result ≡ pages_of (scored_views views) origin =
    (rw (c.as_str.ensures, c.as_str-2.ensures) at (c.pages-pages.ensures views c.requires.followed.totals))
    ∙ counted views origin in
    omega (arith, count, few_pages views origin, c.requires.followed.fit.few)

pub returns : goal.returns
returns c = λ store knows.
    let views : List View = c.args.known.now.views.items in
    let origin : Origin = (c.in_ok-parts.parts.prefix, c.in_ok-parts.parts.host) in
    let same : scored_views views ≡ scored_pages store = scored_same store views knows.views in
    let count : c.pages-pages.result ≡ pages_of (scored_views views) origin =
    (rw (c.as_str.ensures, c.as_str-2.ensures) at (c.pages-pages.ensures views c.requires.followed.totals))
    ∙ counted views origin in
    let total : c.total-total.result ≡ total_of (scored_views views) origin =
    rw (c.as_str-3.ensures, c.as_str-4.ensures) at (c.total-total.ensures views c.requires.followed.totals) in
    let passes : c.passes-passes.result ≡ origin_passes (scored_views views) origin =
    rw c.as_str-5.ensures at
    (c.passes-passes.ensures views c.requires.followed.totals c.in_ok-parts.parts.prefix) in (
      some_told (scored_pages store) (record_of c.args.url.now) c.in_ok-parts.parts c.pages-pages.result
          c.total-total.result c.passes-passes.result c.in_ok-parts.ensures.parts
          (count ∙ ap (λ (ss : List Scored). pages_of ss origin) same) c.if-pages-eq0.false
          (total ∙ ap (λ (ss : List Scored). total_of ss origin) same)
          (passes ∙ ap (λ (ss : List Scored). origin_passes ss origin) same),
      refl,
    )

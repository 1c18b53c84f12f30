use Rattle.std.proofs.Common.{arith, subst}
use Rattle.pl_base.specs.Rows.{store_of}
use Rattle.pl_keyed.specs.KnownPages.{IsOriginPage}
use Rattle.pl_graft.proofs.PageSteps.{origin_known, origin_none, page_fits}
use Rattle.pl_graft.proofs.grafting.page.origin_of_page.Goals as goal

pub overflow_cast-page : goal.overflow_cast-page
overflow_cast-page g c =
    let has = (rw c.in-Some.is at c.requires) in
    omega (arith, page_fits (g.R.Rows.kept c.args.rows.now) c.in-Some.page (g.met.R.Rows.well_kept c.args.rows.now) has)

pub origin_of-requires : goal.origin_of-requires
origin_of-requires g c = (rw c.in-Some.is at c.requires)

pub returns-in-Some : goal.returns-in-Some
returns-in-Some g c url is =
    origin_known (g.R.Rows.kept c.args.rows.now) url c.in-Some.page c.origin_of.result
    (g.met.R.Rows.well_kept c.args.rows.now)
    (subst (IsOriginPage (store_of (g.R.Rows.kept c.args.rows.now)).pages url) c.in-Some.is is)
    c.origin_of.ensures.origin

pub returns-in-None : goal.returns-in-None
returns-in-None g c url is =
    origin_none (g.R.Rows.kept c.args.rows.now) url
    (subst (IsOriginPage (store_of (g.R.Rows.kept c.args.rows.now)).pages url) c.in-None.is is)

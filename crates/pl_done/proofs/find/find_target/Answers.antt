use Rattle.std.proofs.Common.{ap}
use Rattle.std.specs.Option.{option_copied}
use Rattle.pl_base.specs.Rows.{store_of}
use Rattle.pl_done.proofs.FoundPages.{first_by_parts, first_origin, first_there, known_target, no_page_found}
use Rattle.pl_done.proofs.find.find_target.Goals as goal

pub returns-in-Some : goal.returns-in-Some
returns-in-Some g c =
    known_target (g.R.Rows.kept c.args.rows.now) c.args.known.now.views.items c.args.url.now c.text.result.now
    (option_copied c.find.result) c.in-Some.view.now c.requires.knows.views c.text.ensures.value c.find.ensures
    (ap option_copied c.in-Some.is)

pub origin_of-requires : goal.origin_of-requires
origin_of-requires g c =
    first_there (g.R.Rows.kept c.args.rows.now) c.args.url.now (g.met.R.Rows.well_kept c.args.rows.now)
    c.first_page-page.result
    (first_by_parts (g.R.Rows.kept c.args.rows.now) c.args.known.now.views.items c.args.url.now c.as_str.result.now
    c.as_str-2.result.now c.in_ok-parts.parts c.first_page-page.result c.requires.knows.views
    c.in_ok-parts.ensures.parts c.as_str.ensures c.as_str-2.ensures
    (c.first_page-page.ensures c.args.known.now.views.items c.requires.knows.followed.totals))

pub returns : goal.returns
returns g c = (
  no_page_found (store_of (g.R.Rows.kept c.args.rows.now)) c.args.known.now.views.items c.args.url.now c.text.result.now
      (option_copied c.find.result) c.requires.knows.views c.text.ensures.value c.find.ensures
      (ap option_copied c.in_default.is),
  first_origin (g.R.Rows.kept c.args.rows.now) c.args.url.now (g.met.R.Rows.well_kept c.args.rows.now)
      c.first_page-page.result c.origin_of.result
      (first_by_parts (g.R.Rows.kept c.args.rows.now) c.args.known.now.views.items c.args.url.now c.as_str.result.now
      c.as_str-2.result.now c.in_ok-parts.parts c.first_page-page.result c.requires.knows.views
      c.in_ok-parts.ensures.parts c.as_str.ensures c.as_str-2.ensures
      (c.first_page-page.ensures c.args.known.now.views.items c.requires.knows.followed.totals))
      c.origin_of.ensures,
)

use Rattle.pl_indexed.proofs.TakenViews.{known_by_url}
use Rattle.pl_marked.proofs.UrlFound.{none_found, one_found}
use Rattle.pl_marked.proofs.ways.of_page.Goals as goal

pub returns-in_default : goal.returns-in_default
returns-in_default g c =
    none_found (g.R.Rows.kept c.args.rows.now) c.args.ready.now.timed.query.now
    (g.met.R.Rows.well_kept c.args.rows.now) c.args.known.now.views.items c.requires.knows.views
    c.requires.knows.followed.order c.requires.knows.followed.fit.urls c.args.url.now c.requires.url c.find.result
    c.find.ensures c.in_default.not-Some c.new-found.result.items c.new-found.ensures.items

pub add_page-requires-clause-view : goal.add_page-requires-clause-view
add_page-requires-clause-view g c =
    known_by_url c.args.url.now c.args.known.now.views.items c.requires.knows.followed.order c.find.result
    c.find.ensures c.in-Some.view c.in-Some.is

pub returns : goal.returns
returns g c =
    one_found (g.R.Rows.kept c.args.rows.now) c.args.ready.now.timed.query.now
    (g.met.R.Rows.well_kept c.args.rows.now) c.args.known.now.views.items c.requires.knows.views
    c.requires.knows.followed.order c.requires.knows.followed.fit.urls c.args.url.now c.requires.url c.find.result
    c.find.ensures c.in-Some.view c.in-Some.is c.new-found.result.items c.add_page.new.found.items
    c.new-found.ensures.items c.in_ok-add_page.ensures.added c.in_ok-add_page.ensures.views

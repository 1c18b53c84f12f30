use Rattle.pl_indexed.proofs.TakenViews.{known_by_url, none_with_url, one_with_url}
use Rattle.pl_indexed.proofs.ways.page_with_url.Goals as goal

pub returns-in_default : goal.returns-in_default
returns-in_default c =
    none_with_url c.args.asked.now.query.now c.args.url.now c.requires.url c.args.known.now.views.items
    c.requires.followed.fit.urls c.find.result c.find.ensures c.in_default.not-Some c.new-found.result.items
    c.new-found.ensures.items

pub add-requires-clause-view : goal.add-requires-clause-view
add-requires-clause-view c =
    known_by_url c.args.url.now c.args.known.now.views.items c.requires.followed.order c.find.result c.find.ensures
    c.in-Some.view c.in-Some.is

pub returns : goal.returns
returns c =
    one_with_url c.args.asked.now.query.now c.args.url.now c.requires.url c.args.known.now.views.items
    c.requires.followed.fit.urls c.find.result c.find.ensures c.in-Some.view c.in-Some.is c.new-found.result.items
    c.add.new.found.items c.new-found.ensures.items c.in_ok-add.ensures

use Rattle.std.proofs.Common.{◌∙◌, subst, sym}
use Rattle.std.proofs.lemmas.Result.{on_ok_weaker}
use Rattle.pl_base.specs.Rows.{Kept}
use Rattle.pl_marked.specs.Found.{AreAdded}
use Rattle.pl_marked.specs.Listed.{view_rows}
use Rattle.pl_marked.proofs.OwnViews.{page_found}
use Rattle.pl_marked.proofs.PageRows.{held, none_more, not_bookmarked, not_held}
use Rattle.pl_marked.proofs.marks.add_page.Goals as goal

pub returns-then-not-view-clause-added : goal.returns-then-not-view-clause-added
returns-then-not-view-clause-added g c =
    let kept : Kept = g.R.Rows.kept c.args.rows.now in
    let q = c.args.ready.now.timed.query.now in
    let page = page_found kept c.args.known.now.views.items c.requires.knows.views c.args.view.now.id c.args.view.now
    c.requires.view in
    none_more kept q c.args.found.now.items (view_rows kept q c.args.view.now)
    (not_bookmarked kept q c.args.view.now page.0 page.1 page.2 c.if-not-view.true)

pub returns-then-not-branch-clause-added : goal.returns-then-not-branch-clause-added
returns-then-not-branch-clause-added g c =
    let kept : Kept = g.R.Rows.kept c.args.rows.now in
    let q = c.args.ready.now.timed.query.now in
    let page = page_found kept c.args.known.now.views.items c.requires.knows.views c.args.view.now.id c.args.view.now
    c.requires.view in
    none_more kept q c.args.found.now.items (view_rows kept q c.args.view.now)
    (not_held kept q c.args.view.now page.0 page.1 (sym c.if-not-branch.true ∙ c.in_ok-holds.ensures page.0 page.1))

pub returns-clause-added : goal.returns-clause-added
returns-clause-added g c =
    let kept : Kept = g.R.Rows.kept c.args.rows.now in
    let q = c.args.ready.now.timed.query.now in
    let page = page_found kept c.args.known.now.views.items c.requires.knows.views c.args.view.now.id c.args.view.now
    c.requires.view in
    on_ok_weaker c.add_items.result
    (λ added.
    subst (AreAdded kept q c.args.found.now.items c.add_items.new.found.items)
    (sym (held kept q c.args.view.now page.0 page.1
    (sym c.if-not-branch.false ∙ c.in_ok-holds.ensures page.0 page.1)))
    (added page.0 page.1))
    c.add_items.ensures.added

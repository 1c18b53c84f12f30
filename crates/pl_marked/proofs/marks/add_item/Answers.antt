use Rattle.std.proofs.Common.{◌∙◌, sym}
use Rattle.pl_base.specs.Rows.{Kept}
use Rattle.pl_marked.proofs.MarksAdded.{one_view, unwanted, wanted}
use Rattle.pl_marked.proofs.OwnViews.{own_view}
use Rattle.pl_marked.proofs.marks.add_item.Goals as goal

pub returns-then-not-is_wanted-clause-added : goal.returns-then-not-is_wanted-clause-added
returns-then-not-is_wanted-clause-added g c p i at_page at_item =
    unwanted (g.R.Rows.kept c.args.rows.now) c.args.ready.now.timed.query.now c.args.found.now.items p i
    (sym c.if-not-is_wanted.true ∙ c.is_wanted.ensures i at_item)

pub returns-clause-added : goal.returns-clause-added
returns-clause-added g c p i at_page at_item =
    let kept : Kept = g.R.Rows.kept c.args.rows.now in
    wanted kept c.args.ready.now.timed.query.now c.args.found.now.items p i c.args.view c.args.item c.in_ok-key.key
    c.push.new.self.items at_page at_item
    (own_view kept c.args.known.now.views.items c.requires.knows.views c.args.view.now c.requires.view p at_page)
    (sym c.if-not-is_wanted.false ∙ c.is_wanted.ensures i at_item)
    (c.in_ok-key.ensures i at_item) c.in_ok-push.ensures.items

pub returns-clause-views : goal.returns-clause-views
returns-clause-views g c =
    let kept : Kept = g.R.Rows.kept c.args.rows.now in
    one_view kept c.args.ready.now.timed.query.now c.args.found.now.items c.args.view c.args.item c.in_ok-key.key
    c.push.new.self.items
    (own_view kept c.args.known.now.views.items c.requires.knows.views c.args.view.now c.requires.view)
    c.in_ok-push.ensures.items

use Rattle.std.proofs.Common.{◌∙◌, subst, sym}
use Rattle.std.proofs.lemmas.Result.{IfOk-weaker}
use Rattle.pl_base.specs.Rows.{Kept}
use Rattle.pl_place.specs.declared.query.Query.{Query}
use Rattle.pl_indexed.specs.Asked.{IsAsked}
use Rattle.pl_query.specs.Decides.{decides}
use Rattle.std.proofs.Common.{ap}
use Rattle.pl_marked.proofs.OwnViews.{own_view, page_there}
use Rattle.pl_marked.proofs.PageHolds.{shown_holds}
use Rattle.pl_marked.proofs.ready.holds.Goals as goal

pub decides-requires-clause-asked : goal.decides-requires-clause-asked
decides-requires-clause-asked g c =
    subst (λ (q : Query). IsAsked q c.args.ready.now.asked) (sym c.requires.ready.asked.query) c.requires.ready.asked

pub page_holds-requires-clause-page : goal.page_holds-requires-clause-page
page_holds-requires-clause-page g c =
    page_there (g.R.Rows.kept c.args.rows.now) c.args.known.now.views.items c.requires.knows.views c.args.view.now.id
    c.args.view.now c.requires.view

pub returns-then-is_shown : goal.returns-then-is_shown
returns-then-is_shown g c =
    let kept : Kept = g.R.Rows.kept c.args.rows.now in
    IfOk-weaker c.decides.result _ _
    (λ taken is p at.
    is ∙ ap (λ (q : Query). decides q c.args.view.now) c.requires.ready.asked.query
    ∙ shown_holds kept c.args.ready.now.timed.query.now c.args.view.now.id p c.args.view.now c.requires.good at
    (own_view kept c.args.known.now.views.items c.requires.knows.views c.args.view.now c.requires.view p at)
    (sym c.is_shown.ensures ∙ c.if-is_shown.true))
    c.decides.ensures

use Rattle.std.proofs.Common.{◌≡◌, ◌∙◌, List, Some, ap, refl, sym}
use Rattle.std.proofs.lemmas.Result.{IfOk-weaker}
use Rattle.pl_base.specs.declared.transition.Transition.{Transition}
use Rattle.pl_base.specs.Rows.{Kept, KeptPage, page_at, store_of}
use Rattle.pl_base.proofs.PageLaws.{id_at}
use Rattle.pl_place.specs.declared.query.Query.{Query}
use Rattle.pl_conditions.specs.Conditions.{has_transitions, history_holds, page_holds}
use Rattle.pl_conditions.proofs.AskedLaws.{history_by}
use Rattle.pl_conditions.proofs.conditions.history_holds.Goals as goal

pub returns-then-not-has_transitions : goal.returns-then-not-has_transitions
returns-then-not-has_transitions g c p at =
    history_by (store_of (g.R.Rows.kept c.args.rows.now)) c.args.asked.now.query.now p.page c.args.page
    (id_at (g.R.Rows.kept c.args.rows.now) c.args.page p at)
    (sym c.if-not-is_listed.false ∙ c.is_listed.ensures p at)
    (sym c.if-not-has_transitions.true ∙ c.has_transitions.ensures
    ∙ ap (λ (ts : List Transition). has_transitions (store_of (g.R.Rows.kept c.args.rows.now)) ts c.args.page)
    c.as_slice.ensures)
    refl refl

pub returns-then-not-has_mark_in : goal.returns-then-not-has_mark_in
returns-then-not-has_mark_in g c p at =
    history_by (store_of (g.R.Rows.kept c.args.rows.now)) c.args.asked.now.query.now p.page c.args.page
    (id_at (g.R.Rows.kept c.args.rows.now) c.args.page p at)
    (sym c.if-not-is_listed.false ∙ c.is_listed.ensures p at)
    (sym c.if-not-has_transitions.false ∙ c.has_transitions.ensures
    ∙ ap (λ (ts : List Transition). has_transitions (store_of (g.R.Rows.kept c.args.rows.now)) ts c.args.page)
    c.as_slice.ensures)
    (sym c.if-not-has_mark_in.true ∙ c.has_mark_in.ensures) refl

pub returns : goal.returns
returns g c =
    let kept : Kept = g.R.Rows.kept c.args.rows.now in
    let q : Query = c.args.asked.now.query.now in
    IfOk-weaker c.page_holds.result
    (λ holds. (p : KeptPage) → page_at kept c.args.page ≡ Some p → holds ≡ page_holds (store_of kept) q p.page)
    (λ holds. (p : KeptPage) → page_at kept c.args.page ≡ Some p → holds ≡ history_holds (store_of kept) q p.page)
    (λ holds told p at.
    history_by (store_of kept) q p.page c.args.page (id_at kept c.args.page p at)
    (sym c.if-not-is_listed.false ∙ c.is_listed.ensures p at)
    (sym c.if-not-has_transitions.false ∙ c.has_transitions.ensures
    ∙ ap (λ (ts : List Transition). has_transitions (store_of kept) ts c.args.page) c.as_slice.ensures)
    (sym c.if-not-has_mark_in.false ∙ c.has_mark_in.ensures) (told p at))
    c.page_holds.ensures

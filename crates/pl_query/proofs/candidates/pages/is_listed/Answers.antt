use Rattle.std.proofs.Common.{◌≡◌, ◌∙◌, ◌&&◌, Some, sym}
use Rattle.std.proofs.lemmas.Result.{IfOk-weaker}
use Rattle.pl_base.specs.Rows.{Kept, KeptPage, page_at, store_of}
use Rattle.pl_conditions.specs.Conditions.{history_holds}
use Rattle.pl_query.specs.QueryAnswer.{has_visit_in_times}
use Rattle.pl_query.proofs.PageParts.{listed_if, not_listed}
use Rattle.pl_query.proofs.candidates.pages.is_listed.Goals as goal

pub returns-then-not-has_visit_in_times : goal.returns-then-not-has_visit_in_times
returns-then-not-has_visit_in_times g c p at =
    not_listed (g.R.Rows.kept c.args.rows.now) c.args.asked.now.query.now c.args.page p at
    (sym c.has_visit_in_times.ensures ∙ c.if-not-has_visit_in_times.true)

pub returns : goal.returns
returns g c =
    let kept : Kept = g.R.Rows.kept c.args.rows.now in
    IfOk-weaker c.history_holds.result
    (λ holds. (p : KeptPage) → page_at kept c.args.page ≡ Some p
    → holds ≡ history_holds (store_of kept) c.args.asked.now.query.now p.page)
    (λ listed. (p : KeptPage) → page_at kept c.args.page ≡ Some p
    → listed ≡ (has_visit_in_times (store_of kept) c.args.asked.now.query.now p.page.id
    && history_holds (store_of kept) c.args.asked.now.query.now p.page))
    (λ holds is p at.
    listed_if kept c.args.asked.now.query.now c.args.page p holds at
    (sym c.has_visit_in_times.ensures ∙ c.if-not-has_visit_in_times.false) (is p at))
    c.history_holds.ensures

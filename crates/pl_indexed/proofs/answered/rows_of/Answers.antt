use Rattle.std.proofs.Common.{◌∙◌}
use Rattle.std.proofs.lemmas.Result.{IfOk-weaker}
use Rattle.pl_indexed.proofs.AnswerOfViews.{told_rows}
use Rattle.pl_indexed.proofs.answered.rows_of.Goals as goal

pub returns : goal.returns
returns c =
    IfOk-weaker c.result_rows.result _ _
    (λ rows told views are.
    told_rows c.args.query.now views c.put_in_order.new.found.items c.deref.result.now rows.items
    (c.put_in_order.ensures views are) (c.deref.ensures.value ∙ c.limit.ensures) told)
    c.result_rows.ensures

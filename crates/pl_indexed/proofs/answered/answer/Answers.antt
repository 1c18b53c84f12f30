use Rattle.std.proofs.Common.{◌∙◌, sym}
use Rattle.std.proofs.lemmas.Result.{IfOk-weaker}
use Rattle.pl_base.specs.Rows.{store_of}
use Rattle.pl_indexed.proofs.WatchableRows.{told_answer}
use Rattle.pl_indexed.proofs.answered.answer.Goals as goal

pub returns : goal.returns
returns g c =
    IfOk-weaker c.answer_by_views.result _ _
    (λ rows told.
    told
    ∙ told_answer (store_of (g.R.Rows.kept c.args.rows.now)) c.args.query.now c.args.known.now.views.items
    c.requires.good c.requires.knows.views (sym c.is_watchable.ensures ∙ c.if-not-is_watchable.false))
    c.answer_by_views.ensures

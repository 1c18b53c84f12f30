use Rattle.std.proofs.Common.{◌∙◌, append-nil, subst, sym}
use Rattle.std.specs.List.{All}
use Rattle.std.proofs.lemmas.List.{take_all}
use Rattle.std.proofs.lemmas.List.Elements.{All-more, All-nil}
use Rattle.pl_step.specs.declared.reply.Reply.TheVariants.{List as ListReply}
use Rattle.pl_script.specs.Reply.{IsToldAgain, line_text, reply_fields, row_fields}
use Rattle.pl_script.proofs.RowLines.{all_rows, one_more}
use Rattle.pl_script.proofs.rows.list.list_text.Goals as goal

pub loop-row-init : goal.loop-row-init
loop-row-init c = (
  c.in_ok-text.ensures.ok ∙ sym (append-nil (line_text (reply_fields (ListReply c.args.rows.now)))),
  All-nil IsToldAgain,
)

pub loop-row-preserved : goal.loop-row-preserved
loop-row-preserved c =
    let rows = c.args.rows.now in
    let row = c.row-item.result in
    let told = subst IsToldAgain c.row-item.is c.in_ok-row_text.ensures.read_again in (
      one_more (λ row. line_text (row_fields row)) (line_text (reply_fields (ListReply rows))) _ _ _ rows
          c.loop-row.row-index row c.loop-row-test.true c.row-item.is c.loop-row.invariant.0
          (c.deref.ensures ∙ c.in_ok-row_text.ensures.exact) c.in_ok-push_str.ensures.bytes,
      All-more IsToldAgain rows c.loop-row.row-index row c.loop-row-test.true c.loop-row.invariant.1 told,
    )

pub returns-clause-exact : goal.returns-clause-exact
returns-clause-exact c =
    let rows = c.args.rows.now in
    all_rows row_fields (line_text (reply_fields (ListReply rows))) _ rows c.loop-row.row-index c.loop-row-test.false
    c.loop-row.invariant.0

pub returns-clause-read_again : goal.returns-clause-read_again
returns-clause-read_again c =
    subst (All IsToldAgain) (take_all c.loop-row.row-index c.args.rows.now c.loop-row-test.false)
    c.loop-row.invariant.1

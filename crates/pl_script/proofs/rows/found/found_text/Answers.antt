use Rattle.std.proofs.Common.{◌∙◌, append-nil, refl, subst, sym}
use Rattle.std.specs.List.{All}
use Rattle.std.proofs.lemmas.List.{take_all}
use Rattle.std.proofs.lemmas.List.Elements.{All-more, All-nil}
use Rattle.pl_step.specs.declared.reply.Reply.TheVariants.{Rows}
use Rattle.pl_script.specs.Reply.{IsFoundAgain, found_fields, line_text, reply_fields}
use Rattle.pl_script.proofs.RowLines.{all_rows, one_more}
use Rattle.pl_script.proofs.rows.found.found_text.Goals as goal

pub loop-row-init : goal.loop-row-init
loop-row-init c = (
  c.in_ok-text.ensures.ok ∙ sym (append-nil (line_text (reply_fields (Rows c.args.rows.now)))),
  All-nil IsFoundAgain,
)

pub loop-row-preserved : goal.loop-row-preserved
loop-row-preserved c =
    let rows = c.args.rows.now in
    let row = c.row-item.result in
    let told = subst IsFoundAgain c.row-item.is c.in_ok-push_row.ensures.read_again in (
      one_more (λ row. line_text (found_fields row)) (line_text (reply_fields (Rows rows))) _ _ _ rows
          c.loop-row.row-index row c.loop-row-test.true c.row-item.is c.loop-row.invariant.0
          refl c.in_ok-push_row.ensures.exact,
      All-more IsFoundAgain rows c.loop-row.row-index row c.loop-row-test.true c.loop-row.invariant.1 told,
    )

pub returns-clause-exact : goal.returns-clause-exact
returns-clause-exact c =
    let rows = c.args.rows.now in
    all_rows found_fields (line_text (reply_fields (Rows rows))) _ rows c.loop-row.row-index c.loop-row-test.false
    c.loop-row.invariant.0

pub returns-clause-read_again : goal.returns-clause-read_again
returns-clause-read_again c =
    subst (All IsFoundAgain) (take_all c.loop-row.row-index c.args.rows.now c.loop-row-test.false)
    c.loop-row.invariant.1

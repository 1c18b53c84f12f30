use Rattle.std.proofs.Common.{◌≡◌, is_some, subst, sym, true}
use Rattle.pl_base.specs.Rows.{Kept}
use Rattle.pl_query.specs.Subjects.{row_at}
use Rattle.pl_query.specs.declared.ordering.Candidate.{Candidate}
use Rattle.pl_query.proofs.AnsweredRows.{told_more, told_one}
use Rattle.pl_query.proofs.answered.result_rows.Goals as goal

pub loop-candidate-preserved : goal.loop-candidate-preserved
loop-candidate-preserved g c =
    let kept : Kept = g.R.Rows.kept c.args.rows.now in
    told_more kept c.args.candidates.now c.loop-candidate.candidate-index c.loop-candidate.told.items
    c.push.new.self.items c.in_ok-result_row.field-0 c.candidate-item.result c.candidate-item.result
    c.loop-candidate.invariant c.loop-candidate-test.true c.candidate-item.is
    (told_one kept c.candidate-item.result.subject c.in_ok-result_row.field-0
    (subst (λ (x : Candidate). is_some (row_at kept x.subject) ≡ true) (sym c.candidate-item.is)
    (c.requires.there c.loop-candidate.candidate-index c.candidate-item.result c.loop-candidate-test.true))
    c.in_ok-result_row.ensures)
    c.in_ok-push.ensures.items

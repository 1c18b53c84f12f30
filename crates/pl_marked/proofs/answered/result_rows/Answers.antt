use Rattle.std.proofs.Common.{subst, sym}
use Rattle.pl_marked.specs.declared.found.Found.{Found}
use Rattle.pl_marked.specs.Found.{IsOwnView}
use Rattle.pl_marked.proofs.RowsTold.{told_more}
use Rattle.pl_marked.proofs.answered.result_rows.Goals as goal

pub result_row-requires-clause-view : goal.result_row-requires-clause-view
result_row-requires-clause-view g c =
    subst (λ (f : Found). IsOwnView (g.R.Rows.kept c.args.rows.now) f.view.now) (sym c.mark-item.is)
    (c.requires.views c.loop-mark.mark-index c.mark-item.result c.loop-mark-test.true)

pub loop-mark-preserved : goal.loop-mark-preserved
loop-mark-preserved g c =
    told_more (g.R.Rows.kept c.args.rows.now) c.args.found.now c.loop-mark.mark-index c.loop-mark.told.items
    c.push.new.self.items c.in_ok-result_row.field-0 c.mark-item.result c.loop-mark.invariant c.loop-mark-test.true
    c.mark-item.is c.requires.there c.in_ok-result_row.ensures c.in_ok-push.ensures.items

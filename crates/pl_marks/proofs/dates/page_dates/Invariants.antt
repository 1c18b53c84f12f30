use Rattle.pl_base.specs.Rows.{page_visits}
use Rattle.pl_base.proofs.VisitsRun.{visit_names}
use Rattle.pl_base.proofs.Walk.{Walk}
use Rattle.pl_marks.proofs.DatedVisits.{AreDatesOf}
use Rattle.pl_marks.proofs.dates.page_dates.Given as goal

abbrev pub invariant-loop : goal.invariant-loop
invariant-loop g l =
    Walk visit_names (page_visits (g.R.Rows.kept l.rows) l.fn.page)
    (AreDatesOf (g.R.Rows.kept l.rows).day l.dates l.counter) l.next

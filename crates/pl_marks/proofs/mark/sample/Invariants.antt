use Rattle.std.proofs.Common.{◌+◌, ◌*◌, ◌≤◌}
use Rattle.pl_base.specs.Rows.{most_reads, page_visits, store_of}
use Rattle.pl_base.proofs.VisitsRun.{visit_names}
use Rattle.pl_base.proofs.Walk.{Walk}
use Rattle.pl_marks.specs.Aged.{sampled_reads}
use Rattle.pl_marks.proofs.SeenVisits.{AreSampled}
use Rattle.pl_marks.proofs.mark.sample.Given as goal

abbrev pub invariant-loop : goal.invariant-loop
invariant-loop g l =
    record {
      walk :
          Walk visit_names (page_visits (g.R.Rows.kept l.rows) l.fn.page)
          (AreSampled (store_of (g.R.Rows.kept l.rows)) l.sample.items l.counter) l.next;
      cost : l.steps ≤ l.fn.steps + most_reads + l.counter * (sampled_reads + most_reads);
    }

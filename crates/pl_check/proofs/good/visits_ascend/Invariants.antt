use Rattle.std.proofs.Common.{◌≡◌, drop}
use Rattle.pl_base.specs.Touched.{ascends_above}
use Rattle.pl_check.specs.Rows.{stored_visit_ids}
use Rattle.pl_check.proofs.good.visits_ascend.Given as goal

abbrev pub invariant-loop-visit : goal.invariant-loop-visit
invariant-loop-visit l =
    ascends_above 0 (stored_visit_ids l.visits) ≡ ascends_above l.last (stored_visit_ids (drop l.visit-index l.visits))

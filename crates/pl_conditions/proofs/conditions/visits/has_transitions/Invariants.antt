use Rattle.std.proofs.Common.{◌≡◌, take, true}
use Rattle.std.specs.List.{list_all}
use Rattle.pl_base.specs.Rows.{store_of}
use Rattle.pl_conditions.specs.AskedParts.{has_visit_by}
use Rattle.pl_conditions.proofs.conditions.visits.has_transitions.Given as goal

abbrev pub invariant-loop-transition : goal.invariant-loop-transition
invariant-loop-transition g l =
    list_all (has_visit_by (store_of (g.R.Rows.kept l.rows)) l.page)
    (take l.transition-index l.transitions) ≡ true

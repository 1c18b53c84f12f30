use Rattle.std.proofs.Common.{◌+◌, ◌∙◌, ◌++◌, List, ap, false, filter, map, sym, true}
use Rattle.pl_base.specs.Rows.{first_id}
use Rattle.pl_stored.specs.declared.stored.StoredVisit.{StoredVisit}
use Rattle.pl_stored.specs.Stored.{visit_of}
use Rattle.pl_plain.specs.Targets.{is_other_from, is_redirect_from}
use Rattle.pl_plain.proofs.TargetVisits.{behind_is, behind_no_source, behind_none, whole_rest}
use Rattle.pl_plain.proofs.flat.targets.next_target.Goals as goal

pub returns-in_err-index : goal.returns-in_err-index
returns-in_err-index c =
    c.from_residual.ensures
    ∙ behind_none c.args.visits.now c.args.id (sym c.visit_index.ensures ∙ c.in_err-index.was)

pub returns-in_err-source : goal.returns-in_err-source
returns-in_err-source c =
    c.from_residual-in_err-source.ensures
    ∙ behind_no_source c.args.visits.now c.args.id c.in_ok-index.index _
    (sym c.visit_index.ensures ∙ c.in_ok-index.was) c.in_err-source.was

pub returns-then-is_redirect : goal.returns-then-is_redirect
returns-then-is_redirect c =
    let rows = c.args.visits.now in
    let source = c.in_ok-source.source in
    c.first_of.ensures
    ∙ ap (λ (rest : List StoredVisit). first_id (filter (is_redirect_from source) (map visit_of rest)
    ++ filter (is_other_from source) (map visit_of rows))) (whole_rest rows (c.in_ok-index.index + 1))
    ∙ sym (behind_is rows c.args.id source c.in_ok-index.index _ c.requires
    (sym c.visit_index.ensures ∙ c.in_ok-index.was) c.in_ok-source.was true
    (sym c.is_redirect.ensures ∙ c.if-is_redirect.true))

pub returns-else-is_redirect : goal.returns-else-is_redirect
returns-else-is_redirect c =
    let rows = c.args.visits.now in
    let source = c.in_ok-source.source in
    c.first_other.ensures
    ∙ ap (λ (rest : List StoredVisit). first_id (filter (is_other_from source) (map visit_of rest)))
    (whole_rest rows (c.in_ok-index.index + 1))
    ∙ sym (behind_is rows c.args.id source c.in_ok-index.index _ c.requires
    (sym c.visit_index.ensures ∙ c.in_ok-index.was) c.in_ok-source.was false
    (sym c.is_redirect.ensures ∙ c.if-is_redirect.false))

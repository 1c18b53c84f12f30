use Rattle.std.proofs.Common.{◌∙◌, ◌==◌, ap, sym}
use Rattle.std.specs.Option.{option_copied}
use Rattle.pl_stored.specs.declared.stored.StoredVisit.{StoredVisit}
use Rattle.pl_base.proofs.Searches.{found_at, got_at, none_at}
use Rattle.pl_check.proofs.search.find_visit.Goals as goal

pub returns-in_err-visit_index : goal.returns-in_err-visit_index
returns-in_err-visit_index c =
    ap option_copied c.from_residual.ensures
    ∙ none_at (λ (v : StoredVisit). v.id.0 == c.args.id.0) c.args.visits.now
    (sym c.visit_index.ensures ∙ c.in_err-visit_index.was)

pub returns : goal.returns
returns c =
    got_at c.args.visits.now c.in_ok-visit_index.field-0 c.get.result c.get.ensures.lookup.3
    ∙ found_at (λ (v : StoredVisit). v.id.0 == c.args.id.0) c.args.visits.now c.in_ok-visit_index.field-0
    (sym c.visit_index.ensures ∙ c.in_ok-visit_index.was)

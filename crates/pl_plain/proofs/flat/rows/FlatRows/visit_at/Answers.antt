use Rattle.std.proofs.Common.{◌∙◌, ◌==◌, Some, ap}
use Rattle.pl_base.specs.Rows.{row_of}
use Rattle.pl_base.specs.Store.{Visit}
use Rattle.pl_stored.specs.Stored.{visit_of}
use Rattle.pl_plain.proofs.Lookups.{found-none, found-some}
use Rattle.pl_plain.proofs.Searches.{visits_ascend}
use Rattle.pl_plain.proofs.flat.rows.FlatRows.visit_at.Goals as goal

pub find_visit-requires : goal.find_visit-requires
find_visit-requires g c =
    visits_ascend c.args.self.now.visits.items c.deref.result.now c.args.self.now.rows.visit_ids.ascending
    c.deref.ensures.value

pub returns-in_err-visit-clause-row : goal.returns-in_err-visit-clause-row
returns-in_err-visit-clause-row g c =
    c.from_residual.ensures
    ∙ found-none (λ (v : Visit). v.id.0 == c.args.visit.0) visit_of row_of c.args.self.now.visits.items
    c.deref.result.now c.find_visit.result c.in_err-visit.was c.find_visit.ensures c.deref.ensures.value

pub returns-clause-row : goal.returns-clause-row
returns-clause-row g c =
    ap (λ row. Some row) c.visit_row.ensures
    ∙ found-some (λ (v : Visit). v.id.0 == c.args.visit.0) visit_of row_of c.args.self.now.visits.items
    c.deref.result.now c.find_visit.result c.in_ok-visit.visit c.in_ok-visit.was c.find_visit.ensures
    c.deref.ensures.value

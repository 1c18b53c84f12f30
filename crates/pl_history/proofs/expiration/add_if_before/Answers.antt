use Rattle.std.proofs.Common.{◌≡◌, ◌==◌, ◌++◌, ◌∷◌, [], ◌∙◌, Bool, ap, if◌then◌else◌, nat_lt, rules, sym, true}
use Rattle.pl_base.specs.declared.id.VisitId.{VisitId}
use Rattle.pl_base.specs.declared.row.VisitRow.{VisitRow}
use Rattle.pl_base.specs.Date.{day_number}
use Rattle.pl_base.specs.Rows.{row_of}
use Rattle.pl_base.specs.Store.{Visit}
use Rattle.pl_base.proofs.LookUps.{found_where}
use Rattle.pl_base.proofs.VisitsRun.{row_is, visit_is}
use Rattle.pl_history.specs.Taken.{ids_of, is_before}
use Rattle.pl_history.proofs.expiration.add_if_before.Goals as goal

pub unwrap-row-requires : goal.unwrap-row-requires
unwrap-row-requires g c =
    found_where (λ (v : Visit). v.id.0 == c.args.visit.0) row_of (g.R.Rows.kept c.args.rows.now).visits
    c.visit_at.result c.requires c.visit_at.ensures.row

pub returns-in_ok-push : goal.returns-in_ok-push
returns-in_ok-push g c v at =
    let row : c.unwrap-row.result ≡ row_of v =
    row_is (g.R.Rows.kept c.args.rows.now) c.args.visit c.unwrap-row.result v
    (sym c.unwrap-row.ensures ∙ c.visit_at.ensures.row) at in
    let early : nat_lt (day_number c.unwrap-row.result.date) c.args.day.0 ≡ true = search rules in
    let passes : is_before c.args.day v ≡ true =
    sym (ap (λ (r : VisitRow). nat_lt (day_number r.date) c.args.day.0) row) ∙ early in
    let same : v.id ≡ c.args.visit = visit_is (g.R.Rows.kept c.args.rows.now) c.args.visit v at in
    c.in_ok-push.ensures.items
    ∙ ap (λ (id : VisitId). c.args.visits.now.items ++ id ∷ []) (sym same)
    ∙ ap (λ (b : Bool). c.args.visits.now.items ++ ids_of (if b then v ∷ [] else [])) (sym passes)

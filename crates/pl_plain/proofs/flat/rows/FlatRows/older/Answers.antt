use Rattle.std.proofs.Common.{◌≡◌, ◌∙◌, ◌==◌, Some, None, ap, filter, map, sym}
use Rattle.std.specs.Option.{option_map}
use Rattle.pl_base.specs.Rows.{visit_at}
use Rattle.pl_base.specs.Store.{Visit}
use Rattle.pl_base.specs.Visits.{latest_first}
use Rattle.pl_stored.specs.Stored.{visit_of}
use Rattle.pl_plain.specs.Flat.{kept_of}
use Rattle.pl_plain.specs.Latest.{first_of, is_within}
use Rattle.pl_plain.proofs.Lookups.{none-found, older_visit-none, one-found}
use Rattle.pl_plain.proofs.OlderVisits.{older_visit-found}
use Rattle.pl_plain.proofs.Searches.{visits_ascend}
use Rattle.pl_plain.proofs.flat.rows.FlatRows.older.Goals as goal

pub find_visit-requires : goal.find_visit-requires
find_visit-requires g c =
    visits_ascend c.args.self.now.visits.items c.deref.result.now c.args.self.now.rows.visit_ids.ascending
    c.deref.ensures.value

pub returns-in_err-visit-clause-older : goal.returns-in_err-visit-clause-older
returns-in_err-visit-clause-older g c =
    c.from_residual.ensures
    ∙ older_visit-none (kept_of c.args.self.now) c.args.visit
    (none-found (λ (v : Visit). v.id.0 == c.args.visit.0) visit_of c.args.self.now.visits.items c.deref.result.now
    c.find_visit.result c.in_err-visit.was c.find_visit.ensures c.deref.ensures.value)

pub returns-in_err-older-clause-older : goal.returns-in_err-older-clause-older
returns-in_err-older-clause-older g c =
    let kept = kept_of c.args.self.now in
    let v : Visit = visit_of c.in_ok-visit.visit.now in
    let found : Some v ≡ visit_at kept c.args.visit =
    one-found (λ (v : Visit). v.id.0 == c.args.visit.0) visit_of c.args.self.now.visits.items c.deref.result.now
    c.find_visit.result c.in_ok-visit.visit c.in_ok-visit.was c.find_visit.ensures c.deref.ensures.value in
    let none : None ≡ first_of (latest_first (filter (is_within v.page (Some v)) kept.visits)) =
    ap (option_map visit_of) (sym c.in_err-older.was) ∙ c.latest_visit.ensures
    ∙ ap (λ rows. first_of (latest_first (filter (is_within v.page (Some v)) (map visit_of rows))))
    c.deref-2.ensures.value in
    c.from_residual-in_err-older.ensures ∙ ap (option_map (λ (w : Visit). w.id)) none
    ∙ older_visit-found kept c.args.visit v c.args.self.now.rows.visit_ids.ascending (sym found)

pub returns-clause-older : goal.returns-clause-older
returns-clause-older g c =
    let kept = kept_of c.args.self.now in
    let v : Visit = visit_of c.in_ok-visit.visit.now in
    let found : Some v ≡ visit_at kept c.args.visit =
    one-found (λ (v : Visit). v.id.0 == c.args.visit.0) visit_of c.args.self.now.visits.items c.deref.result.now
    c.find_visit.result c.in_ok-visit.visit c.in_ok-visit.was c.find_visit.ensures c.deref.ensures.value in
    let some : Some (visit_of c.in_ok-older.older)
    ≡ first_of (latest_first (filter (is_within v.page (Some v)) kept.visits)) =
    ap (option_map visit_of) (sym c.in_ok-older.was) ∙ c.latest_visit.ensures
    ∙ ap (λ rows. first_of (latest_first (filter (is_within v.page (Some v)) (map visit_of rows))))
    c.deref-2.ensures.value in
    ap (option_map (λ (w : Visit). w.id)) some
    ∙ older_visit-found kept c.args.visit v c.args.self.now.rows.visit_ids.ascending (sym found)

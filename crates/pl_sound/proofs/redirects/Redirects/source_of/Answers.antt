use Rattle.std.proofs.Common.{◌≡◌, ◌∙◌, ◌==◌, List, None, Option, Some, ap, find, subst, sym}
use Rattle.std.specs.List.Sorted.{IsStrictlyIncreasing}
use Rattle.std.specs.Option.{option_copied, option_map}
use Rattle.pl_base.specs.Redirects.{source_transition}
use Rattle.pl_check.specs.Rows.{stored_visit_ids}
use Rattle.pl_stored.specs.declared.stored.StoredVisit.{StoredVisit}
use Rattle.pl_stored.specs.Stored.{Stored, stored_store, visit_of}
use Rattle.pl_sound.proofs.RedirectedVisits.{came_by}
use Rattle.pl_sound.proofs.redirects.Redirects.source_of.Goals as goal
use Rattle.pl_sound.proofs.redirects.Redirects.source_of.Goals.{After-find_visit}

-- the visits that are looked through are those of the rows
visits_are : (c : After-find_visit) → c.deref.result.now ≡ c.self.inside.rows.now.visits
visits_are c = c.deref.ensures.value ∙ ap (λ (s : Stored). s.visits) c.rows.view_is

-- what is found of the source
found : (c : After-find_visit) (o : Option StoredVisit) → option_copied c.find_visit.result ≡ o
    → option_map (λ (v : StoredVisit). v.transition) o
    ≡ source_transition (stored_store c.args.self.now) (visit_of c.args.visit.now)
found c o is =
    ap (option_map (λ (v : StoredVisit). v.transition))
    (sym is ∙ c.find_visit.ensures
    ∙ ap (find (λ (v : StoredVisit). v.id.0 == c.in_ok-id.id.0)) (visits_are c))
    ∙ came_by c.self.inside.rows.now c.args.visit.now c.in_ok-id.id
    (sym c.is_redirect.ensures ∙ c.if-not-is_redirect.false) c.in_ok-id.was
    ∙ ap (λ (s : Stored). source_transition (stored_store s) (visit_of c.args.visit.now)) c.self.view_is

pub find_visit-requires : goal.find_visit-requires
find_visit-requires c =
    subst (λ (vs : List StoredVisit). IsStrictlyIncreasing (stored_visit_ids vs))
    (sym (c.deref.ensures.value ∙ ap (λ (s : Stored). s.visits) c.rows.view_is)) c.self.invariant.ascending

pub returns-in_err-source : goal.returns-in_err-source
returns-in_err-source c =
    c.from_residual-in_err-source.ensures ∙ found c.before.before.before None (ap option_copied c.in_err-source.was)

pub returns : goal.returns
returns c = found c.before.before.before (Some c.in_ok-source.source.now) (ap option_copied c.in_ok-source.was)

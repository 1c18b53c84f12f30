-- The visits that came from each visit, where one comes or goes, and rows without a visit as the
-- source of others, or without the visit.
use Rattle.std.specs.Prelude.{◌==◌, not, List, [], ◌∷◌, ◌++◌, map, if◌then◌else◌}
use Rattle.std.specs.List.{filter}
use Rattle.pl_base.specs.declared.id.VisitId.{VisitId}
use Rattle.pl_base.specs.Redirects.{is_redirect, is_source}
use Rattle.pl_base.specs.Removal.{visit_left}
use Rattle.pl_base.specs.Rows.{Kept}
use Rattle.pl_base.specs.Store.{Visit}

-- a visit among those that came from one: a redirect in front of all, and others behind all
abbrev pub target_put : Visit → List Visit → List Visit
target_put v ts = if is_redirect v.transition then v ∷ ts else ts ++ v ∷ []

abbrev pub with_target : Visit → (VisitId → List Visit) → VisitId → List Visit
with_target v targets source =
    if is_source source v.source then target_put v (targets source) else targets source

-- those that came from each visit, without one, from which none came from then on
abbrev pub without_targets : VisitId → (VisitId → List Visit) → VisitId → List Visit
without_targets id targets source =
    if source.0 == id.0 then [] else filter (λ (w : Visit). not (w.id.0 == id.0)) (targets source)

-- the rows where no visit came from this one
abbrev pub sourceless : VisitId → Kept → Kept
sourceless id kept = record kept { visits = map (visit_left (id ∷ [])) kept.visits }

-- the rows without the visit
abbrev pub but_visit : VisitId → Kept → Kept
but_visit id kept = record kept { visits = filter (λ (v : Visit). not (v.id.0 == id.0)) kept.visits }

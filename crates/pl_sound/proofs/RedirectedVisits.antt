-- Visits that led to a redirect, and what redirects came from.
use Rattle.std.proofs.Common.{◌≡◌, ◌==◌, ◌&&◌, ◌||◌, Bool, true, false, List, [], ◌∷◌, Option, Some, None, ap, find}
use Rattle.std.proofs.Common.{if◌then◌else◌, map, refl}
use Rattle.std.specs.List.{cons_option, list_any}
use Rattle.std.specs.Option.{option_map}
use Rattle.pl_base.specs.declared.id.VisitId.{VisitId}
use Rattle.pl_base.specs.Redirects.{is_redirect, is_source, source_transition}
use Rattle.pl_base.specs.Store.{Visit}
use Rattle.pl_base.proofs.ListLaws.{find-map}
use Rattle.pl_sound.specs.Redirects.{redirect_sources}
use Rattle.pl_stored.specs.declared.stored.StoredVisit.{StoredVisit}
use Rattle.pl_stored.specs.Stored.{Stored, stored_store, visit_of}

-- some redirect came from a visit where its number is among those
pub led : (id : VisitId) (vs : List StoredVisit) → list_any (λ n. n == id.0) (redirect_sources vs)
    ≡ list_any (λ (w : Visit). is_redirect w.transition && is_source id w.source) (map visit_of vs)
led id [] = refl
led id (v ∷ vs) = choose (is_redirect v.transition) v.source (led id vs)
  where
    choose : (b : Bool) (source : Option VisitId) → list_any (λ n. n == id.0) (redirect_sources vs)
        ≡ list_any (λ (w : Visit). is_redirect w.transition && is_source id w.source) (map visit_of vs)
        → list_any (λ n. n == id.0)
        (cons_option (if b then option_map (λ (i : VisitId). i.0) source else None) (redirect_sources vs))
        ≡ ((b && is_source id source)
        || list_any (λ (w : Visit). is_redirect w.transition && is_source id w.source) (map visit_of vs))
    choose true (Some source) same = ap (λ (b : Bool). (source.0 == id.0) || b) same
    choose true None same = same
    choose false source same = same

-- the transition of the visit that a redirect came from
pub came_by : (rows : Stored) (v : StoredVisit) (id : VisitId) → is_redirect v.transition ≡ true → v.source ≡ Some id
    → option_map (λ (w : StoredVisit). w.transition) (find (λ (w : StoredVisit). w.id.0 == id.0) rows.visits)
    ≡ source_transition (stored_store rows) (visit_of v)
came_by rows v id redirect from =
    rw (redirect, from, find-map (λ (w : Visit). w.id.0 == id.0) visit_of rows.visits)
    (either (find (λ (w : StoredVisit). w.id.0 == id.0) rows.visits))
  where
    either : (found : Option StoredVisit)
        → option_map (λ (w : StoredVisit). w.transition) found
        ≡ option_map (λ (w : Visit). w.transition) (option_map visit_of found)
    either None = refl
    either (Some w) = refl

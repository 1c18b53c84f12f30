-- The visits of a file that led to a redirect.
use Rattle.std.specs.Prelude.{◌≡◌, ◌==◌, ℕ, List, Option, None, if◌then◌else◌}
use Rattle.std.specs.List.{filter_map, list_any}
use Rattle.std.specs.List.Sorted.{IsStrictlyIncreasing}
use Rattle.std.specs.Option.{option_map}
use Rattle.pl_base.specs.declared.id.VisitId.{VisitId}
use Rattle.pl_base.specs.Redirects.{is_redirect}
use Rattle.pl_check.specs.Rows.{stored_visit_ids}
use Rattle.pl_stored.specs.declared.stored.StoredVisit.{StoredVisit}

-- the number of the visit that a redirect came from
abbrev pub redirect_source : StoredVisit → Option ℕ
redirect_source v =
    if is_redirect v.transition then option_map (λ (id : VisitId). id.0) v.source else None

abbrev pub redirect_sources : List StoredVisit → List ℕ
redirect_sources visits = filter_map redirect_source visits

-- the visits stand by ascending ids, and these are the numbers of those that led to a redirect
pub record HasSources (visits : List StoredVisit) (numbers : List ℕ) : Type 0 where
  pub ascending : IsStrictlyIncreasing (stored_visit_ids visits)
  pub sources : (id : ℕ) → list_any (λ n. n == id) numbers
      ≡ list_any (λ n. n == id) (redirect_sources visits)

-- Visits that are to go, as they are collected.
use Rattle.std.specs.Prelude.{◌≡◌, ◌≢◌, true, Bool, List, map, nat_lt}
use Rattle.std.specs.List.{All, AllPairs}
use Rattle.pl_base.specs.declared.date.Day.{Day}
use Rattle.pl_base.specs.declared.id.VisitId.{VisitId}
use Rattle.pl_base.specs.Date.{day_number}
use Rattle.pl_base.specs.Removal.{is_among}
use Rattle.pl_base.specs.Rows.{Kept, has_visit}
use Rattle.pl_base.specs.Store.{Visit}

-- the ids of the visits
abbrev pub ids_of : List Visit → List VisitId
ids_of visits = map (λ (v : Visit). v.id) visits

-- the visit's day is before this one
abbrev pub is_before : Day → Visit → Bool
is_before day v = nat_lt (day_number v.date) day.0

-- each id is that of a visit and stands once, and the same ids stand in the other list
pub record AreThese (wanted : List VisitId) (kept : Kept) (ids : List VisitId) : Type 0 where
  pub there : All (λ (id : VisitId). has_visit kept id ≡ true) ids
  pub apart : AllPairs (λ (a b : VisitId). a.0 ≢ b.0) ids
  pub same : (id : VisitId) → is_among ids id ≡ is_among wanted id

-- Visits by date, and what is kept of the first of them while they are looked for.
use Rattle.std.specs.Prelude.{◌≡◌, ◌≤◌, ◌-◌, ◌++◌, ℕ, Bool, false, List, length, map, nat_lt, take}
use Rattle.std.specs.Prelude.{Option, Some, None, IfSome}
use Rattle.std.specs.List.{All, IsDistinct, slice_get}
use Rattle.std.specs.List.Sorted.{ties}
use Rattle.std.specs.Option.{option_map}
use Rattle.std.specs.Ordering.{is_lt, nat_cmp, ordering_then}
use Rattle.std.specs.declared.cmp.Ordering.{Ordering}
use Rattle.pl_base.specs.declared.date.Micros.{Micros}
use Rattle.pl_base.specs.declared.id.VisitId.{VisitId}
use Rattle.pl_base.specs.declared.view.View.{View}
use Rattle.pl_base.specs.Sorting.{sorted_by}
use Rattle.pl_dated.specs.declared.first.First.{First}
use Rattle.pl_dated.specs.declared.first.FoundVisit.{FoundVisit}

-- a visit: the view of its page, its id and its date
pub record Seen : Type 0 where
  pub view : View
  pub visit : VisitId
  pub date : Micros

abbrev pub seen : FoundVisit → Seen
seen f = record { view = f.view.now; visit = f.visit; date = f.date }

-- how two visits stand: the later first, and those of one date by ascending id
abbrev pub seen_cmp : Seen → Seen → Ordering
seen_cmp a b = ordering_then (nat_cmp b.date.0 a.date.0) (nat_cmp a.visit.0 b.visit.0)

abbrev pub seen_before : Seen → Seen → Bool
seen_before a b = is_lt (seen_cmp a b)

-- the first of them, so many
abbrev pub first_seen : ℕ → List Seen → List Seen
first_seen most visits = take most (sorted_by seen_before visits)

-- the date of the last of them
abbrev pub last_date : List Seen → Option Micros
last_date visits = option_map (λ (s : Seen). s.date) (slice_get visits (length visits - 1))

-- no two are one visit
abbrev pub AreApart : List Seen → Type 0
AreApart visits = IsDistinct (ties seen_before) visits

-- the date is before the floor, if there is one
abbrev pub is_past_floor : Option Micros → Micros → Bool
is_past_floor None date = false
is_past_floor (Some floor) date = nat_lt date.0 floor.0

-- so many are found, and none of an earlier date
abbrev pub IsFloor : ℕ → List Seen → Micros → Type 0
IsFloor most found floor =
    (most ≤ length found) × All (λ (s : Seen). is_past_floor (Some floor) s.date ≡ false) found

-- what is kept stands for the visits that were added: whatever others join, the first are the same
pub record Keeps (most : ℕ) (first : First) (visits : List Seen) : Type 0 where
  pub most_is : first.most ≡ most
  pub alike :
      (others : List Seen) → AreApart (visits ++ others)
      → first_seen most (map seen first.found.items ++ others)
      ≡ first_seen most (visits ++ others)
  pub apart :
      (others : List Seen) → AreApart (visits ++ others)
      → AreApart (map seen first.found.items ++ others)
  pub floor :
      AreApart visits → IfSome first.floor (IsFloor most (map seen first.found.items))

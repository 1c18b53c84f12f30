-- Groups of hosts with their totals, as they are gone through.
use Rattle.std.specs.Prelude.{ℕ, ◌*◌, ◌==◌, ◌&&◌, ◌||◌, Bool, List, nat_le, nat_lt}
use Rattle.std.specs.Prelude.{Option, Some, None, if◌then◌else◌, unwrap_or}
use Rattle.std.specs.BTreeMap.{get_by_text}
use Rattle.std.specs.Cmp.Lexicographic.{slice_cmp}
use Rattle.std.specs.Ordering.{is_lt, nat_cmp}
use Rattle.pl_totals.specs.declared.groups.Group.{Group}
use Rattle.pl_totals.specs.declared.groups.Groups.{Groups}
use Rattle.pl_totals.specs.declared.totals.Totals.{Totals}

-- the total that is kept of a group, and 0 where none is
abbrev pub total_in : Groups → List ℕ → ℕ
total_in groups group = unwrap_or (get_by_text groups.totals group) 0

-- a group of hosts, and its total
abbrev pub Grouped : Type 0
Grouped = List ℕ × ℕ

-- a group as its name and its total
abbrev pub grouped : Group → Grouped
grouped group = (group.name.now, group.total)

-- a total that is no less than the mean of those of the origins
abbrev pub is_enough : Totals → ℕ → Bool
is_enough totals total = nat_lt 0 total && nat_le totals.sum (total * totals.count)

-- a group has the greater total, or the same and the name that is first in the order of bytes
abbrev pub is_ahead : Grouped → Grouped → Bool
is_ahead a b = nat_lt b.1 a.1 || ((a.1 == b.1) && is_lt (slice_cmp nat_cmp a.0 b.0))

-- a group, or the best so far, where it is not ahead of that
abbrev pub or_best : Grouped → Option Grouped → Grouped
or_best group None = group
or_best group (Some best) = if is_ahead group best then group else best

-- a group, or the best so far, where the group's total does not pass or it is not ahead of that
abbrev pub or_better : (ℕ → Bool) → Grouped → Option Grouped → Option Grouped
or_better passes group best = if passes group.1 then Some (or_best group best) else best

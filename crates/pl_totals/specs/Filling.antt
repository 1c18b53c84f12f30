-- Which group of hosts the address bar fills in.
use Rattle.std.specs.Prelude.{ℕ, ◌==◌, ◌&&◌, ◌||◌, not, Bool, List, length, map, nat_eq, nat_lt}
use Rattle.std.specs.Prelude.{slice_get, Option}
use Rattle.std.specs.Cmp.Lexicographic.{slice_cmp}
use Rattle.std.specs.List.{filter, starts_with}
use Rattle.std.specs.Option.{option_map}
use Rattle.std.specs.Ordering.{is_lt, nat_cmp}
use Rattle.pl_base.specs.Sorting.{sorted_by}
use Rattle.pl_base.specs.Totals.{Scored, group_passes, group_total, without_www}

-- the groups of hosts that pages have
abbrev pub group_names : List Scored → List (List ℕ)
group_names pages =
    map (λ (s : Scored). without_www s.0.1)
    (filter (λ (s : Scored). not (length s.0.1 == 0)) pages)

-- the group passes, and its name begins with the text
abbrev pub is_filling : List Scored → List ℕ → List ℕ → Bool
is_filling pages text group = group_passes pages group && starts_with nat_eq group text

-- a group has the greater total, or the same and the name that is first in the order of bytes
abbrev pub is_better : List Scored → List ℕ → List ℕ → Bool
is_better pages a b =
    nat_lt (group_total pages b) (group_total pages a)
    || ((group_total pages a == group_total pages b) && is_lt (slice_cmp nat_cmp a b))

-- the best of the groups that begin with the text, and its total
abbrev pub best_group : List Scored → List ℕ → Option (List ℕ × ℕ)
best_group pages text =
    option_map (λ group. (group, group_total pages group))
    (slice_get (sorted_by (is_better pages)
    (filter (is_filling pages text) (group_names pages))) 0)

-- Sums by the names of origins.
use Rattle.std.specs.Prelude.{◌==◌, ℕ, List, if◌then◌else◌, unwrap_or}
use Rattle.std.specs.BTreeMap.{get}
use Rattle.std.specs.List.{sum_by}
use Rattle.std.specs.Ordering.{nat_cmp}
use Rattle.pl_base.specs.declared.id.Slot.{Slot}
use Rattle.pl_base.specs.Totals.{share}
use Rattle.pl_record.specs.declared.rows.Place.{Place}
use Rattle.pl_sound.specs.declared.sums.Sums.{Sums}

-- what a page adds to the sum by this name
abbrev pub named_share : ℕ → Place → ℕ
named_share name p = if p.origin.0 == name then share p.mark.frecency else 0

-- the sum of the positive frecencies of the pages whose origins have this name
abbrev pub named_sum : List Place → ℕ → ℕ
named_sum places name = sum_by (named_share name) places

-- the same by an origin
abbrev pub origin_sum : List Place → Slot → ℕ
origin_sum places origin = named_sum places origin.0

-- the sum that is kept by this name; one that stands nowhere is 0
abbrev pub sum_in : Sums → ℕ → ℕ
sum_in sums name = unwrap_or (get nat_cmp sums.by_name name) 0

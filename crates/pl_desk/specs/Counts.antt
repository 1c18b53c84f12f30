-- Counts of calls and of failed calls. A count stands still at its last value.
use Rattle.std.specs.Prelude.{◌⊎◌, ◌≡◌, ◌≤◌, ◌<◌, ℕ, ◌+◌, ◌-◌, ◌^◌, min, Result, MatchResult}

-- the last value of a count
abbrev pub last_count : ℕ
last_count = 2 ^ 64 - 1

-- the count after one more
abbrev pub next_count : ℕ → ℕ
next_count count = min (count + 1) last_count

-- the count rose, or stands at its last value
abbrev pub Rose : ℕ → ℕ → Type 0
Rose before after = (before < after) ⊎ (after ≡ last_count)

-- the count of what failed, over a call that ended so: it stands at Ok, and rose at Err
abbrev pub Counts : {T E : Type 0} → Result T E → ℕ → ℕ → Type 0
Counts result before after =
    MatchResult result (λ _. after ≡ before) (λ _. (before ≤ after) × Rose before after)

-- the same over a call of several answers, of which one is the fault
pub record CountsAt (IsFault : Type 0) (before after : ℕ) : Type 0 where
  pub no_less : before ≤ after
  pub rose : IsFault → Rose before after
  pub stands : (IsFault → ⊥) → after ≡ before

-- so many bytes are written at Ok, and at most so many at Err
abbrev pub Writes : {T E : Type 0} → Result T E → ℕ → ℕ → ℕ → Type 0
Writes result n before after =
    MatchResult result (λ _. after ≡ before + n) (λ _. (before ≤ after) × (after ≤ before + n))

-- what a desk counts: how many bytes were written, how many calls of the file failed, and how many
-- of `say`
pub record CallCounts : Type 0 where
  pub written : ℕ
  pub device_faults : ℕ
  pub line_faults : ℕ

-- before the first call
abbrev pub no_calls : CallCounts
no_calls = record { written = 0; device_faults = 0; line_faults = 0 }

-- after a write of this many bytes
abbrev pub after_write : CallCounts → ℕ → CallCounts
after_write counts len = record counts { written = counts.written + len }

-- after a call of the file that failed
abbrev pub after_device_fault : CallCounts → CallCounts
after_device_fault counts = record counts { device_faults = next_count counts.device_faults }

-- after a call of `say` that failed
abbrev pub after_line_fault : CallCounts → CallCounts
after_line_fault counts = record counts { line_faults = next_count counts.line_faults }

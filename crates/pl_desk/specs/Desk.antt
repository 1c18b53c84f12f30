-- What the calls of a desk do to its file, and what a stop of the machine may show of the file and
-- of what was said.
use Rattle.std.specs.Prelude.{◌≡◌, ◌⊎◌, ℕ, ◌+◌, ◌-◌, ◌≤◌, ◌^◌, min, max, List, ◌++◌, length, take}
use Rattle.std.specs.Prelude.{drop, replicate, Option, Some, Result, Ok, Err}
use Rattle.std.specs.Option.{option_map}
use Rattle.pl_desk.specs.declared.failed.Failed.{Failed}

-- the greatest offset, and the greatest length of a file
abbrev pub last_offset : ℕ
last_offset = 2 ^ 63 - 1

-- the file with these bytes at this offset, with the byte `pad` in a gap before them
abbrev pub overwritten : ℕ → ℕ → List ℕ → List ℕ → List ℕ
overwritten pad at bytes file =
    take at file ++ replicate (at - length file) pad ++ bytes ++ drop (at + length bytes) file

-- after a write of n bytes at an offset that a stop cuts short: any bytes in that range and past
-- the old end, the others as they were, and a length from the old one to the one that the write
-- gives
pub record Torn (at n : ℕ) (old new : List ℕ) : Type 0 where
  pub before : take (min at (length old)) new ≡ take at old
  pub after : drop (at + n) new ≡ drop (at + n) old
  pub no_shorter : length old ≤ length new
  pub no_longer : length new ≤ max (length old) (at + n)

-- each file that a stop may leave now is one that it might have left before, after a step
abbrev pub Follows : (List ℕ → List ℕ → Type 0) → (List ℕ → Type 0) → (List ℕ → Type 0) → Type 0
Follows step old new =
    (file : List ℕ) → new file → (before : List ℕ) × old before × step before file

-- a stop leaves this file and no other
abbrev pub Only : List ℕ → (List ℕ → Type 0) → Type 0
Only held may_leave = (file : List ℕ) → may_leave file → file ≡ held

-- what a stop in a call of the file may show: a file that it may leave, and the line as it was
abbrev pub Shows : (List ℕ → Type 0) → Option (List ℕ) → List ℕ → List ℕ → Type 0
Shows may_leave said file line = may_leave file × (said ≡ Some line)

-- how many bytes of its piece a call of `say` took
abbrev pub said_by : Result ℕ Failed → ℕ
said_by (Ok n) = n
said_by (Err failed) = 0

-- what a stop may show while n bytes of a piece are said: a file that it may leave, and what was
-- said before with a front of these bytes
abbrev pub ShowsSaying : (List ℕ → Type 0) → Option (List ℕ) → List ℕ → ℕ → List ℕ → List ℕ → Type 0
ShowsSaying may_leave said piece n file line =
    may_leave file × ((k : ℕ) × (k ≤ n)
    × (option_map (λ before. before ++ take k piece) said ≡ Some line))

-- Time goes on: a stop since t might have shown what it might have shown before, or it shows what
-- the call shows. What it might have shown before stays.
pub record Elapses (before now : ℕ) (past since : ℕ → List ℕ → List ℕ → Type 0)
    (shows : List ℕ → List ℕ → Type 0) : Type 0 where
  pub later : before ≤ now
  pub nothing_else : (t : ℕ) (file line : List ℕ) → t ≤ before → since t file line
      → past t file line ⊎ shows file line
  pub keeps : (t : ℕ) (file line : List ℕ) → t ≤ before → past t file line → since t file line

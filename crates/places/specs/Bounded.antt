-- How many bytes a run of a script writes at most, where that is told beforehand: where each entry
-- is a refusal, a visit, or of a kind that changes nothing.
use Rattle.std.specs.Prelude.{◌≤◌, ℕ, ◌+◌, List, [], ◌∷◌, Option, Some, None, Ok, Err, IfSome}
use Rattle.pl_base.specs.Store.{Store}
use Rattle.pl_step.specs.declared.command.Command.{Command}
use Rattle.pl_step.specs.Parsed.{Parsed}
use Rattle.pl_step.specs.Step.{perform, step}
use Rattle.pl_store.specs.Bounds.{most_bytes}

-- the most bytes that the commit of an entry writes
abbrev pub entry_bytes : ℕ → Store → Parsed Command → Option ℕ
entry_bytes limit store (Ok command) = most_bytes store command (perform limit store command).0
entry_bytes limit store (Err refusal) = Some 0

-- the sum of two numbers, where both are told
abbrev pub sum_of : Option ℕ → Option ℕ → Option ℕ
sum_of None b = None
sum_of (Some a) None = None
sum_of (Some a) (Some b) = Some (a + b)

-- the most bytes that the commits of entries write, from this store on
abbrev pub entries_bytes : ℕ → Store → List (Parsed Command) → Option ℕ
entries_bytes limit store [] = Some 0
entries_bytes limit store (entry ∷ entries) =
    sum_of (entry_bytes limit store entry) (entries_bytes limit (step limit store entry).1 entries)

-- with this many bytes before, no more were written than those of these entries
abbrev pub WritesFew : ℕ → Store → List (Parsed Command) → ℕ → ℕ → Type 0
WritesFew limit store entries before now =
    IfSome (entries_bytes limit store entries) (λ most. now ≤ before + most)

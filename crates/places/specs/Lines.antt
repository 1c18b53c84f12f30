-- Lines that have ended, and the line that has not.
use Rattle.std.specs.Prelude.{ℕ, List, [], ◌∷◌, map, option_to_list, ◌==◌}
use Rattle.std.specs.List.{filter_map, slice_split}
use Rattle.std.specs.Str.Lines.{strip_carriage_return}
use Rattle.pl_step.specs.declared.command.Command.{Command}
use Rattle.pl_step.specs.Parsed.{Parsed}
use Rattle.pl_script.specs.Script.{entry}

-- all parts but the last, and the last
abbrev pub all_but_last : List (List ℕ) → List (List ℕ)
all_but_last [] = []
all_but_last (part ∷ []) = []
all_but_last (part ∷ next ∷ more) = part ∷ all_but_last (next ∷ more)

-- the last part alone
abbrev pub last_part : List (List ℕ) → List ℕ
last_part [] = []
last_part (part ∷ []) = part
last_part (part ∷ next ∷ more) = last_part (next ∷ more)

-- the lines that ended with LF, without it and the CR before it
abbrev pub ended_lines : List ℕ → List (List ℕ)
ended_lines bytes = map strip_carriage_return (all_but_last (slice_split (λ b. b == 10) bytes))

-- what came since the last LF
abbrev pub open_line : List ℕ → List ℕ
open_line bytes = last_part (slice_split (λ b. b == 10) bytes)

-- what lines ask for
abbrev pub entries_of : List (List ℕ) → List (Parsed Command)
entries_of lines = filter_map entry lines

-- what one line asks for, if anything
abbrev pub entries_in : List ℕ → List (Parsed Command)
entries_in line = option_to_list (entry line)

-- The limit of what is kept of a line.
use Rattle.std.specs.Prelude.{ℕ, ◌+◌}
use Rattle.pl_script.specs.Script.{longest_line}

-- So many bytes of a line are kept at most, which tell its entry: past the longest line two more,
-- of which the last may be the CR before its LF.
abbrev pub kept_of_line : ℕ
kept_of_line = longest_line + 2

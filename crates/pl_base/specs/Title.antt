-- Titles, which are cut where they are too long.
use Rattle.std.specs.Prelude.{ℕ, List, length, nat_le, take, if◌then◌else◌}
use Rattle.std.specs.Fmt.Cut.{floor_char_boundary}
use Rattle.pl_base.specs.Good.{longest_title}

-- a text cut at the end of the last whole character that lies within the longest title
abbrev pub cut_title : List ℕ → List ℕ
cut_title text =
    if nat_le (length text) longest_title then text
    else take (floor_char_boundary text longest_title) text

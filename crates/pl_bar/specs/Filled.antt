-- What the address bar fills in behind a text.
use Rattle.std.specs.Prelude.{ℕ, ◌==◌, List, length, map, Option, None, if◌then◌else◌}
use Rattle.std.specs.Char.{to_ascii_lowercase}
use Rattle.pl_base.specs.Totals.{Scored, without_www}
use Rattle.pl_totals.specs.Filling.{best_group}

-- a text as hosts are written: its letters of ASCII in lower case, and without one leading `www.`
abbrev pub host_text : List ℕ → List ℕ
host_text text = without_www (map to_ascii_lowercase text)

-- the group that is filled in, and its total; none where nothing is left of the text
abbrev pub filled : List Scored → List ℕ → Option (List ℕ × ℕ)
filled pages text =
    if length (host_text text) == 0 then None else best_group pages (host_text text)

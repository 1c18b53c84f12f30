-- The tag that a text names.
use Rattle.std.specs.Prelude.{ℕ, ◌-◌, ◌==◌, ◌&&◌, not, Bool, List, drop, length, take}
use Rattle.std.specs.Prelude.{nat_le, nat_lt, slice_index, Option, Some, None, if◌then◌else◌}
use Rattle.std.specs.List.{list_any, prefix_len, suffix_len}
use Rattle.std.specs.Str.{is_utf8}
use Rattle.pl_base.specs.Good.{is_blank}

-- a text without the blanks that it begins with
abbrev pub trimmed_front : List ℕ → List ℕ
trimmed_front text = drop (prefix_len is_blank text) text

-- a text without the blanks that it ends with
abbrev pub trimmed_back : List ℕ → List ℕ
trimmed_back text = take (length text - suffix_len is_blank text) text

-- a text without the blanks at both ends
abbrev pub trimmed : List ℕ → List ℕ
trimmed text = trimmed_back (trimmed_front text)

-- `IsTagName` as a test
abbrev pub is_tag_name : List ℕ → Bool
is_tag_name name =
    is_utf8 name && nat_lt 0 (length name) && nat_le (length name) 100
    && not (list_any (λ b. b == 44) name) && not (is_blank (slice_index name 0))
    && not (is_blank (slice_index name (length name - 1)))

-- the tag that a text names, which may have blanks at both ends
abbrev pub tag_named : List ℕ → Option (List ℕ)
tag_named text = if is_tag_name (trimmed text) then Some (trimmed text) else None

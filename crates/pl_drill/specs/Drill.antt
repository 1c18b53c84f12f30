-- The drill: lines of a script that are drawn at random from a seed.
use Rattle.std.specs.Prelude.{ℕ, zero, suc, ◌+◌, ◌-◌, ◌*◌, ◌/◌, ◌%◌, ◌^◌, ◌==◌, ◌||◌, List, []}
use Rattle.std.specs.Prelude.{◌∷◌, ◌++◌, codes, decimal, nat_lt}
use Rattle.std.specs.Prelude.{Option, Some, None, if◌then◌else◌}
use Rattle.std.specs.List.{join_with_byte}
use Rattle.pl_base.specs.declared.id.VisitId.{VisitId}
use Rattle.pl_base.specs.Date.{micros_per_day}
use Rattle.pl_drill.specs.declared.draws.Draws.{Draws}
use Rattle.pl_drill.specs.declared.drill.Drill.{Drill}

-- ---- chance

-- the number of 64 bits that comes behind this one
abbrev pub next_random : ℕ → ℕ
next_random x = (x * 6_364_136_223_846_793_005 + 1_442_695_040_888_963_407) % 2 ^ 64

-- the number so many draws later
abbrev pub random_after : ℕ → ℕ → ℕ
random_after zero x = x
random_after (suc n) x = random_after n (next_random x)

-- what is drawn of it, below a bound
abbrev pub drawn : ℕ → ℕ → ℕ
drawn below x = x / 2 ^ 33 % below

-- the four draws of a line
abbrev pub draws : ℕ → Draws
draws x =
    record {
      kind = drawn 16 (random_after 1 x);
      host = drawn 50 (random_after 2 x);
      path = drawn 200 (random_after 3 x);
      tag = drawn 9 (random_after 4 x);
    }

-- ---- lines

-- fields, apart by TAB
abbrev pub tabbed : List (List ℕ) → List ℕ
tabbed fields = join_with_byte 9 fields

abbrev pub url : Draws → List ℕ
url d = codes "https://h" ++ decimal d.host ++ codes ".example/p" ++ decimal d.path

-- each line has a date of its own
abbrev pub date : ℕ → ℕ → List ℕ
date day number = decimal (day * micros_per_day + number)

abbrev pub transition : Draws → ℕ
transition d = d.tag + 1

-- a redirect came from the last visit, if there was one
abbrev pub source : Draws → Option VisitId → List (List ℕ)
source d None = []
source d (Some visit) =
    if (transition d == 5) || (transition d == 6) then decimal visit.0 ∷ [] else []

abbrev pub visit_line : List ℕ → Option VisitId → Draws → List ℕ
visit_line date last d =
    tabbed (codes "visit" ∷ url d ∷ decimal (transition d) ∷ date ∷ source d last)

abbrev pub bookmark_line : ℕ → List ℕ → Draws → List ℕ
bookmark_line number date d =
    tabbed
    (codes "bookmark" ∷ codes "5" ∷ codes "end" ∷ url d ∷ (codes "t" ++ decimal number) ∷ date ∷ [])

abbrev pub tag_line : List ℕ → Draws → List ℕ
tag_line date d = tabbed (codes "tag" ∷ url d ∷ (codes "tag" ++ decimal d.tag) ∷ date ∷ [])

abbrev pub day_line : ℕ → List ℕ
day_line day = tabbed (codes "day" ∷ decimal day ∷ [])

abbrev pub title_line : ℕ → Draws → List ℕ
title_line number d =
    tabbed (codes "title" ∷ url d ∷ (codes "page " ++ decimal number) ∷ [])

abbrev pub expire_line : ℕ → List ℕ
expire_line day = tabbed (codes "expire" ∷ decimal day ∷ [])

abbrev pub bar_line : Draws → List ℕ
bar_line d = tabbed (codes "bar" ∷ codes "10" ∷ (codes "p" ++ decimal d.path) ∷ [])

-- the line of this number, of what was drawn: ten of sixteen are visits
abbrev pub drawn_line : ℕ → Drill → Draws → List ℕ
drawn_line number drill d =
    if nat_lt d.kind 10 then visit_line (date drill.day number) drill.last d else
    if d.kind == 10 then bookmark_line number (date drill.day number) d else
    if d.kind == 11 then tag_line (date drill.day number) d else
    if d.kind == 12 then day_line (drill.day + 1) else
    if d.kind == 13 then title_line number d else
    if d.kind == 14 then expire_line (drill.day - 60) else bar_line d

-- ---- the drill

-- no drill has more lines behind its first
abbrev pub most_lines : ℕ
most_lines = 100_000

-- before its first line
abbrev pub drill_of : ℕ → Drill
drill_of seed = record { random = seed; day = 19_000; last = None }

-- the line of this number: the first, of number 0, says the day
abbrev pub line_of : ℕ → Drill → List ℕ
line_of zero drill = day_line drill.day
line_of (suc n) drill = drawn_line (suc n) drill (draws drill.random)

-- the day behind a line
abbrev pub day_behind : ℕ → Draws → ℕ
day_behind day d = if d.kind == 12 then day + 1 else day

-- the drill behind the line of this number
abbrev pub behind : ℕ → Drill → Drill
behind zero drill = drill
behind (suc n) drill =
    record drill {
      random = random_after 4 drill.random;
      day = day_behind drill.day (draws drill.random);
    }

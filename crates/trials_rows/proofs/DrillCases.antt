-- Worked rows of drills: each kind of line by what was drawn, and the draws of numbers.
use Rattle.std.proofs.Common.{◌≡◌, ℕ, List, [], ◌∷◌, Option, Some, None, map, refl}
use Rattle.std.specs.Fmt.{digits}
use Rattle.std.specs.Prelude.{codes}
use Rattle.pl_base.specs.declared.id.VisitId.{VisitId}
use Rattle.pl_drill.specs.declared.draws.Draws.{Draws}
use Rattle.pl_drill.specs.declared.drill.Drill.{Drill}
use Rattle.pl_drill.specs.Drill.{day_behind, drawn, drawn_line, line_of, next_random}

-- ---- numbers

-- behind 0 and the greatest number of 64 bits, where the product and the sum go past them
behind_numbers : map next_random (0 ∷ 18_446_744_073_709_551_615 ∷ [])
    ≡ 1_442_695_040_888_963_407 ∷ 13_525_302_890_751_722_018 ∷ []
behind_numbers = refl

-- 33 bits are dropped, and the rest is taken below the bound: 2 ^ 33 - 1, 2 ^ 33, 50 times 2 ^ 33
-- but one, and 50 times
dropped_bits : map (drawn 50) (8_589_934_591 ∷ 8_589_934_592 ∷ 429_496_729_599 ∷ 429_496_729_600 ∷ [])
    ≡ 0 ∷ 1 ∷ 49 ∷ 0 ∷ []
dropped_bits = refl

-- of the greatest number 2 ^ 31 - 1 is left
of_the_greatest : map (λ below. drawn below 18_446_744_073_709_551_615) (16 ∷ 50 ∷ 200 ∷ 9 ∷ [])
    ≡ 15 ∷ 47 ∷ 47 ∷ 1 ∷ []
of_the_greatest = refl

-- ---- lines

-- host 49 and path 199, the last of each
abbrev draws : ℕ → ℕ → Draws
draws kind tag = record { kind = kind; host = 49; path = 199; tag = tag }

abbrev on_day : Option VisitId → Drill
on_day last = record { random = 0; day = 19_060; last = last }

abbrev visit_7 : Option VisitId
visit_7 = Some (record { 0 = 7 })

-- line 3, on day 19,060
abbrev line_3 : Option VisitId → ℕ → ℕ → List ℕ
line_3 last kind tag = drawn_line 3 (on_day last) (draws kind tag)

-- the first and the last kind of visits, with the first and the last transition
visits : line_3 visit_7 0 0 ∷ line_3 visit_7 9 8 ∷ []
    ≡ codes "visit\thttps://h49.example/p199\t1\t1646784000000003"
    ∷ codes "visit\thttps://h49.example/p199\t9\t1646784000000003" ∷ []
unfolding digits
visits = refl

-- a redirect alone, permanent or temporary, came from the last visit
sources : map (line_3 visit_7 5) (3 ∷ 4 ∷ 5 ∷ 6 ∷ [])
    ≡ codes "visit\thttps://h49.example/p199\t4\t1646784000000003"
    ∷ codes "visit\thttps://h49.example/p199\t5\t1646784000000003\t7"
    ∷ codes "visit\thttps://h49.example/p199\t6\t1646784000000003\t7"
    ∷ codes "visit\thttps://h49.example/p199\t7\t1646784000000003" ∷ []
unfolding digits
sources = refl

no_last_visit : map (line_3 None 5) (4 ∷ 5 ∷ [])
    ≡ codes "visit\thttps://h49.example/p199\t5\t1646784000000003"
    ∷ codes "visit\thttps://h49.example/p199\t6\t1646784000000003" ∷ []
unfolding digits
no_last_visit = refl

-- each other kind; what expires is sixty days old
others : map (λ kind. line_3 visit_7 kind 8) (10 ∷ 11 ∷ 12 ∷ 13 ∷ 14 ∷ 15 ∷ [])
    ≡ codes "bookmark\t5\tend\thttps://h49.example/p199\tt3\t1646784000000003"
    ∷ codes "tag\thttps://h49.example/p199\ttag8\t1646784000000003" ∷ codes "day\t19061"
    ∷ codes "title\thttps://h49.example/p199\tpage 3" ∷ codes "expire\t19000" ∷ codes "bar\t10\tp199" ∷ []
unfolding digits
others = refl

-- line 0 says the day, whatever the number
first_line : line_of 0 (on_day visit_7) ≡ codes "day\t19060"
unfolding digits
first_line = refl

-- one kind of line moves the day
days_behind : map (λ kind. day_behind 19_060 (draws kind 0)) (11 ∷ 12 ∷ 13 ∷ []) ≡ 19_060 ∷ 19_061 ∷ 19_060 ∷ []
days_behind = refl

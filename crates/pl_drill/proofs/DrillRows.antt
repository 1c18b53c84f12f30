-- Lines of drills, worked out by another program.
use Rattle.std.proofs.Common.{◌≡◌, ◌+◌, ℕ, zero, suc, List, [], ◌∷◌, Option, Some, None, refl}
use Rattle.std.specs.Fmt.{digits}
use Rattle.std.specs.Prelude.{codes}
use Rattle.pl_base.specs.declared.id.VisitId.{VisitId}
use Rattle.pl_drill.specs.declared.drill.Drill.{Drill}
use Rattle.pl_drill.specs.Drill.{behind, drill_of, line_of}

-- so many lines from this number on, where this visit is always the last
abbrev lines : ℕ → ℕ → Option VisitId → Drill → List (List ℕ)
lines zero number last drill = []
lines (suc many) number last drill =
    line_of number (record drill { last = last }) ∷ lines many (number + 1) last (behind number drill)

seed_1 : lines 15 0 None (drill_of 1)
    ≡ codes "day\t19000"
    ∷ codes "visit\thttps://h3.example/p196\t4\t1641600000000001"
    ∷ codes "bookmark\t5\tend\thttps://h45.example/p130\tt2\t1641600000000002"
    ∷ codes "visit\thttps://h46.example/p123\t8\t1641600000000003"
    ∷ codes "day\t19001"
    ∷ codes "bookmark\t5\tend\thttps://h45.example/p132\tt5\t1641686400000005"
    ∷ codes "tag\thttps://h7.example/p126\ttag0\t1641686400000006"
    ∷ codes "title\thttps://h28.example/p4\tpage 7"
    ∷ codes "visit\thttps://h18.example/p7\t2\t1641686400000008"
    ∷ codes "day\t19002"
    ∷ codes "bookmark\t5\tend\thttps://h8.example/p116\tt10\t1641772800000010"
    ∷ codes "bar\t10\tp10"
    ∷ codes "title\thttps://h34.example/p108\tpage 12"
    ∷ codes "bar\t10\tp122"
    ∷ codes "day\t19003" ∷ []
unfolding digits
seed_1 = refl

-- a redirect came from the last visit
seed_5 : lines 7 0 (Some (record { 0 = 7 })) (drill_of 5)
    ≡ codes "day\t19000"
    ∷ codes "visit\thttps://h23.example/p34\t2\t1641600000000001"
    ∷ codes "bar\t10\tp19"
    ∷ codes "bookmark\t5\tend\thttps://h24.example/p155\tt3\t1641600000000003"
    ∷ codes "visit\thttps://h21.example/p193\t6\t1641600000000004\t7"
    ∷ codes "day\t19001"
    ∷ codes "expire\t18941" ∷ []
unfolding digits
seed_5 = refl

greatest_seed : lines 4 0 None (drill_of 18_446_744_073_709_551_615)
    ≡ codes "day\t19000"
    ∷ codes "visit\thttps://h43.example/p77\t9\t1641600000000001"
    ∷ codes "visit\thttps://h37.example/p85\t6\t1641600000000002"
    ∷ codes "visit\thttps://h32.example/p83\t3\t1641600000000003" ∷ []
unfolding digits
greatest_seed = refl

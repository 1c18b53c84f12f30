-- How much a sample adds at most.
use Rattle.std.proofs.Common.{◌≤◌, List, length, All, arith}
use Rattle.std.proofs.lemmas.List.Elements.{All-weaker}
use Rattle.std.proofs.lemmas.List.Sums.{sum_by-le}
use Rattle.pl_base.specs.declared.date.Day.{Day}
use Rattle.pl_base.specs.Frecency.{points}
use Rattle.pl_base.specs.Tables.{greatest_bonus}
use Rattle.pl_base.specs.Visits.{sample_size}
use Rattle.pl_base.proofs.SmallFrecencies.{points-le}
use Rattle.pl_score.specs.declared.sample.Sampled.{Sampled}
use Rattle.pl_score.specs.Sample.{most_points, points_of}

-- what ten visits add at most
pub points_of-le : (day : Day) (sample : List Sampled) → length sample ≤ sample_size
    → All (λ v. v.bonus ≤ greatest_bonus) sample → points_of day sample ≤ most_points
points_of-le day sample ten bonuses =
    let each : All (λ (v : Sampled). points day v.date v.bonus ≤ 207_500) sample =
    All-weaker _ _ (λ v. points-le day v.date v.bonus) sample bonuses in
    omega (arith, sum_by-le (λ (v : Sampled). points day v.date v.bonus) 207_500 sample each)

-- The sample of a page's visits.
use Rattle.std.specs.Prelude.{ℕ, ◌*◌, List, map}
use Rattle.std.specs.List.{sum_by}
use Rattle.pl_base.specs.declared.date.Day.{Day}
use Rattle.pl_base.specs.declared.date.Micros.{Micros}
use Rattle.pl_base.specs.Frecency.{points, visit_bonus}
use Rattle.pl_base.specs.Store.{Store, Visit}
use Rattle.pl_base.specs.Tables.{greatest_bonus}
use Rattle.pl_base.specs.Visits.{sample_size}
use Rattle.pl_score.specs.declared.sample.Sampled.{Sampled}

-- what a sample has of a visit of the store
abbrev pub sampled_of : Store → Visit → Sampled
sampled_of store v = record { date = v.date; bonus = visit_bonus store v }

-- what the sampled visits add together on a day
abbrev pub points_of : Day → List Sampled → ℕ
points_of day sample = sum_by (λ (v : Sampled). points day v.date v.bonus) sample

-- the dates of the sampled visits
abbrev pub dates_of : List Sampled → List Micros
dates_of sample = map (λ (v : Sampled). v.date) sample

-- no sample adds more: a weight is at most 100
abbrev pub most_points : ℕ
most_points = sample_size * (100 * greatest_bonus)

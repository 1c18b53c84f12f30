-- Cases of the days on which visits weigh anew: the definitions compute to days that were worked
-- out by hand.
use Rattle.std.proofs.Common.{◌≡◌, ◌*◌, ℕ, List, [], ◌∷◌, map, refl}
use Rattle.std.specs.List.{filter, range_with_len}
use Rattle.pl_base.specs.declared.date.Micros.{Micros}
use Rattle.pl_base.specs.Date.{day_number, last_day, micros_per_day}
use Rattle.pl_base.specs.Due.{some_weighs_anew, weighs_anew, weight_on}

abbrev date : ℕ → Micros
date n = record { 0 = n }

-- the first microsecond of day 100, one within it, and its last
abbrev first_of_day : Micros
first_of_day = date 8_640_000_000_000

abbrev within_day : Micros
within_day = date 8_683_200_000_001

abbrev last_of_day : Micros
last_of_day = date 8_726_399_999_999

-- the days among 96 to 195 on which a visit of this date weighs anew
abbrev days_anew : Micros → List ℕ
days_anew visited = filter (λ day. weighs_anew day visited) (range_with_len 96 100)

days_of_dates :
    map day_number (first_of_day ∷ within_day ∷ last_of_day ∷ []) ≡ 100 ∷ 100 ∷ 100 ∷ []
days_of_dates = refl

days_of_first : days_anew first_of_day ≡ 105 ∷ 115 ∷ 132 ∷ 191 ∷ []
days_of_first = refl

days_within : days_anew within_day ≡ 105 ∷ 115 ∷ 132 ∷ 191 ∷ []
days_within = refl

days_of_last : days_anew last_of_day ≡ 105 ∷ 115 ∷ 132 ∷ 191 ∷ []
days_of_last = refl

-- the microseconds around them: a day earlier and a day later
days_of_neighbours :
    map days_anew (date 8_639_999_999_999 ∷ date 8_726_400_000_000 ∷ [])
    ≡ (104 ∷ 114 ∷ 131 ∷ 190 ∷ []) ∷ (106 ∷ 116 ∷ 133 ∷ 192 ∷ []) ∷ []
days_of_neighbours = refl

-- the weights around the changes
weights_around :
    map (weight_on within_day) (99 ∷ 100 ∷ 104 ∷ 105 ∷ 114 ∷ 115 ∷ 131 ∷ 132 ∷ 190 ∷ 191 ∷ last_day ∷ [])
    ≡ 100 ∷ 100 ∷ 100 ∷ 70 ∷ 70 ∷ 50 ∷ 50 ∷ 30 ∷ 30 ∷ 10 ∷ 10 ∷ []
weights_around = refl

-- of several visits, each of their days: of day 100 and of day 110
days_of_two :
    filter (some_weighs_anew (within_day ∷ date (110 * micros_per_day) ∷ [])) (range_with_len 96 110)
    ≡ 105 ∷ 115 ∷ 125 ∷ 132 ∷ 142 ∷ 191 ∷ 201 ∷ []
days_of_two = refl

-- a visit of the last day of all weighs anew on none of the days up to it, and one of day 0 on none
-- before day 5
days_of_late : filter (λ day. weighs_anew day (date (last_day * micros_per_day))) (range_with_len 2_932_800 97) ≡ []
days_of_late = refl

days_of_early : filter (λ day. weighs_anew day (date 0)) (range_with_len 0 100) ≡ 5 ∷ 15 ∷ 32 ∷ 91 ∷ []
days_of_early = refl

no_days : filter (some_weighs_anew []) (range_with_len 96 100) ≡ []
no_days = refl

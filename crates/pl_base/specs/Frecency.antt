-- Frecency, after the classic algorithm of Mozilla Places, in whole numbers.
use Rattle.std.specs.Prelude.{ℕ, ◌+◌, ◌-◌, ◌*◌, ◌/◌, ◌==◌, ◌||◌, not}
use Rattle.std.specs.Prelude.{Bool, length, ℤ, pos, negsuc, if◌then◌else◌}
use Rattle.std.specs.List.{sum_by}
use Rattle.pl_base.specs.declared.date.Day.{Day}
use Rattle.pl_base.specs.declared.date.Micros.{Micros}
use Rattle.pl_base.specs.Address.{is_place_url}
use Rattle.pl_base.specs.Marks.{visit_count, is_referenced}
use Rattle.pl_base.specs.Redirects.{source_transition, is_redirect_source}
use Rattle.pl_base.specs.Store.{Store, Page, Visit}
use Rattle.pl_base.specs.Tables.{age, weight_of, bonus_of}
use Rattle.pl_base.specs.Visits.{sample_of}

-- the quotient rounded up
abbrev pub rounded_up : ℕ → ℕ → ℕ
rounded_up a b = (a + (b - 1)) / b

-- what a sampled visit of this date and bonus adds on a day
abbrev pub points : Day → Micros → ℕ → ℕ
points day date bonus = weight_of (age day date) * bonus

-- the frecency of a page with visits that count: their number times the mean of the sample, rounded
-- up twice, and -1 where the sample adds nothing
abbrev pub visited_frecency : ℕ → ℕ → ℕ → ℤ
visited_frecency total sampled count =
    if total == 0 then negsuc 0 else pos (rounded_up (count * rounded_up total 100) sampled)

-- the frecency of a page without such visits, by whether it is in the tree,
-- was typed, and is a query
abbrev pub unvisited_frecency : Bool → Bool → Bool → ℤ
unvisited_frecency referenced typed place =
    if not referenced || place then pos 0 else if typed then pos 340 else pos 140

-- a frecency from what the sample adds together, its length, the `visit_count` and the page's marks
abbrev pub frecency_from : ℕ → ℕ → ℕ → Bool → Bool → Bool → ℤ
frecency_from total sampled count referenced typed place =
    if count == 0 then unvisited_frecency referenced typed place
    else visited_frecency total sampled count

-- what a sampled visit of the store counts
abbrev pub visit_bonus : Store → Visit → ℕ
visit_bonus store v =
    bonus_of v.transition (source_transition store v) (is_redirect_source store v)
    (is_referenced store v.page)

-- the frecency of a page on the store's day, computed afresh
abbrev pub frecency_of : Store → Page → ℤ
frecency_of store page =
    let sample = sample_of store page.id in
    frecency_from
    (sum_by (λ (v : Visit). points store.day v.date (visit_bonus store v)) sample)
    (length sample)
    (visit_count store page.id)
    (is_referenced store page.id)
    page.typed
    (is_place_url page.url)

-- What a page of a store adds to a total is small.
use Rattle.std.proofs.Common.{◌≡◌, ◌+◌, ◌-◌, ◌*◌, ◌/◌, ◌<◌, ◌≤◌, ◌==◌, ◌&&◌, ℕ, ℤ, pos, negsuc, Bool, true, false}
use Rattle.std.proofs.Common.{arith, get_or, if◌then◌else◌, length, refl}
use Rattle.std.specs.List.{sum_by}
use Rattle.std.proofs.Math.Nat.{mul-le-mul_left}
use Rattle.std.proofs.lemmas.Bool.{eqb-false}
use Rattle.std.proofs.lemmas.Bool.Decides.{nat_tests}
use Rattle.std.proofs.lemmas.List.Sums.{count_by-le-length, sum_by-le}
use Rattle.std.proofs.lemmas.Nat.{div_below}
use Rattle.pl_base.specs.declared.date.Day.{Day}
use Rattle.pl_base.specs.declared.date.Micros.{Micros}
use Rattle.pl_base.specs.Address.{is_place_url}
use Rattle.pl_base.specs.Frecency.{frecency_from, frecency_of, points, rounded_up, unvisited_frecency, visit_bonus}
use Rattle.pl_base.specs.Frecency.{visited_frecency}
use Rattle.pl_base.specs.Live.{slot_limit}
use Rattle.pl_base.specs.Marks.{is_counted, is_referenced, visit_count}
use Rattle.pl_base.specs.Redirects.{is_redirect_source, source_transition}
use Rattle.pl_base.specs.Rows.{IsWellKept, Kept, store_of}
use Rattle.pl_base.specs.Store.{Page, Store, Visit}
use Rattle.pl_base.specs.Tables.{age, greatest_bonus, weight_of}
use Rattle.pl_base.specs.Totals.{most_share, share}
use Rattle.pl_base.specs.Visits.{sample_of}
use Rattle.pl_base.proofs.TablesLaws.{bonus_of-le}

weight_of-le : (age : ℤ) → weight_of age ≤ 100
weight_of-le (negsuc n) = omega arith
weight_of-le (pos days) = grind (arith, nat_tests)

pub points-le : (day : Day) (date : Micros) (bonus : ℕ) → bonus ≤ greatest_bonus → points day date bonus ≤ 207_500
points-le day date bonus small = grind (arith, weight_of-le (age day date))

rounded-le : (a b c : ℕ) → 0 < b → a ≤ c * b → rounded_up a b ≤ c
rounded-le a b c some small =
    let below : (a + (b - 1)) / b < c + 1 = div_below (a + (b - 1)) b (c + 1) some (omega arith) in
    omega arith

visited-le : (total sampled count : ℕ) → total ≤ sampled * 207_500
    → share (visited_frecency total sampled count) ≤ count * 2_075
visited-le total sampled count small = choose (total == 0) refl
  where
    choose : (b : Bool) → (total == 0) ≡ b
        → share (if b then negsuc 0 else pos (rounded_up (count * rounded_up total 100) sampled)) ≤ count * 2_075
    choose true none = omega arith
    choose false some =
        let positive : 0 < sampled = omega (arith, eqb-false total 0 some) in
        let mean : rounded_up total 100 ≤ sampled * 2_075 =
        rounded-le total 100 (sampled * 2_075) (omega arith) (omega arith) in
        rounded-le (count * rounded_up total 100) sampled (count * 2_075) positive
        (omega (arith, mul-le-mul_left count mean))

unvisited-le : (referenced typed place : Bool) → share (unvisited_frecency referenced typed place) ≤ 340
unvisited-le true true true = omega arith
unvisited-le true true false = omega arith
unvisited-le true false true = omega arith
unvisited-le true false false = omega arith
unvisited-le false true place = omega arith
unvisited-le false false place = omega arith

from-le : (total sampled count : ℕ) (referenced typed place : Bool) → total ≤ sampled * 207_500
    → share (frecency_from total sampled count referenced typed place) ≤ count * 2_075 + 340
from-le total sampled count referenced typed place small = choose (count == 0)
  where
    choose : (b : Bool) → share (if b then unvisited_frecency referenced typed place
        else visited_frecency total sampled count) ≤ count * 2_075 + 340
    choose true = omega (arith, unvisited-le referenced typed place)
    choose false = omega (arith, visited-le total sampled count small)

-- by how often it was visited
pub page-le : (store : Store) (p : Page) → share (frecency_of store p) ≤ visit_count store p.id * 2_075 + 340
page-le store p =
    from-le (sum_by (λ (v : Visit). points store.day v.date (visit_bonus store v)) (sample_of store p.id))
    (length (sample_of store p.id)) (visit_count store p.id) (is_referenced store p.id) p.typed (is_place_url p.url)
    (sum_by-le (λ (v : Visit). points store.day v.date (visit_bonus store v)) 207_500 (sample_of store p.id)
    (λ k d within.
    let v : Visit = get_or (sample_of store p.id) k d in
    points-le store.day v.date (visit_bonus store v)
    (bonus_of-le v.transition (source_transition store v) (is_redirect_source store v) (is_referenced store v.page))))

-- no page of a store that fits the limit adds more than this
pub small_frecency : (store : Store) (p : Page) → length store.visits ≤ slot_limit
    → share (frecency_of store p) ≤ most_share
small_frecency store p few =
    omega (
      arith,
      page-le store p,
      count_by-le-length (λ (v : Visit). (v.page.0 == p.id.0) && is_counted v.transition) store.visits,
    )

-- the same of the rows that are kept
pub small_in : (kept : Kept) (p : Page) → IsWellKept kept → share (frecency_of (store_of kept) p) ≤ most_share
small_in kept p well =
    let live = well.live in
    small_frecency (store_of kept) p (omega arith)

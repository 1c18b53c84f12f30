use Rattle.std.proofs.Common.{◌≡◌, ◌∙◌, ℕ, eq-eqb, map, rules, sym, tests}
use Rattle.std.proofs.lemmas.Bool.{eqb-true}
use Rattle.std.proofs.lemmas.Iterator.{YieldsList-from_map, YieldsList-from_slice, items_from_collect}
use Rattle.std.proofs.lemmas.Slice.Eq.{slice_eq-Decides}
use Rattle.pl_base.specs.declared.id.Slot.{Slot}
use Rattle.pl_sound.specs.Sums.{origin_sum, sum_in}
use Rattle.pl_sound.proofs.SameLists.{alike_each, each_one}
use Rattle.pl_sound.proofs.totals.are_totals.Goals as goal

pub returns : goal.returns
returns c =
    let origins = c.args.origins.now in
    let sum : Slot → ℕ = λ o. sum_in c.in_ok-sums.sums o.0 in
    let kept : c.in_ok-right.right.items ≡ map sum origins =
    rw c.in_ok-right.was at (items_from_collect c.collect.result c.collect.ensures.ran
    (YieldsList-from_map _ sum (YieldsList-from_slice origins cc) c.map.ensures.closure
    (λ x r q k. search (rules, tests)))) in
    let is : c.as_slice.result.now ≡ map (origin_sum c.args.places.now) origins =
    c.as_slice.ensures.value ∙ kept
    ∙ alike_each sum (origin_sum c.args.places.now) origins
    (each_one (λ (o : Slot). sum o ≡ origin_sum c.args.places.now o) (λ o. c.in_ok-sums.ensures o.0) origins) in
    let decides =
    slice_eq-Decides (λ (m n : ℕ). (eqb-true m n, eq-eqb m n)) c.as_slice.result.now c.args.totals.now c.eq.result
    c.eq.ensures in
    (λ same. sym is ∙ decides.0 same, λ same. decides.1 (is ∙ same))

use Rattle.std.proofs.Common.{◌≡◌, ◌∙◌, ap, arith, length, map, min, rules, take, tests}
use Rattle.std.proofs.lemmas.Iterator.{YieldsList-from_map, YieldsList-from_slice, items_from_collect}
use Rattle.std.proofs.lemmas.List.{take_min}
use Rattle.pl_base.specs.Visits.{sample_size}
use Rattle.pl_sound.specs.Marks.{told_sample}
use Rattle.pl_sound.proofs.marks.sampled.Goals as goal

pub returns : goal.returns
returns c =
    let counts = told_sample c.args.redirects.now c.args.is_referenced in
    let all : c.in_ok-collect.field-0.items ≡ map counts (take c.min.result c.args.visits.now) =
    rw c.in_ok-collect.was at (items_from_collect c.collect.result c.collect.ensures.ran
    (YieldsList-from_map _ counts (YieldsList-from_slice (take c.min.result c.args.visits.now) cc)
    c.map-counted.ensures.closure (λ x r q k. search (rules, tests)))) in
    let least : c.min.result ≡ min sample_size (length c.args.visits.now) = omega (arith, c.min.ensures) in
    all
    ∙ ap (map counts)
    (ap (λ n. take n c.args.visits.now) least ∙ take_min sample_size c.args.visits.now)

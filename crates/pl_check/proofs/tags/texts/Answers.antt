use Rattle.std.proofs.Common.{Bor, List, ℕ, map-id, ◌∙◌, rules}
use Rattle.std.proofs.lemmas.Iterator.{YieldsList-from_map_by, YieldsList-from_slice}
use Rattle.std.proofs.lemmas.Iterator.Consumers.{map_from_collect}
use Rattle.pl_check.proofs.tags.texts.Goals as goal

pub returns : goal.returns
returns c =
    let texts =
    map_from_collect c.collect.result c.collect.ensures.ran
    (YieldsList-from_map_by _ (λ (r : Bor (List ℕ)). r.now) (λ (t : List ℕ). t)
    (YieldsList-from_slice c.args.folds.now cc) c.map-texts.ensures.closure (λ x r q k. search rules)) in
    (rw c.in_ok-collect.was at texts) ∙ map-id c.args.folds.now

use Rattle.std.proofs.Common.{Bor, List, ◌∙◌, ℕ, rules, sym}
use Rattle.std.proofs.lemmas.Iterator.{YieldsList-from_map, YieldsList-from_slice, items_from_collect}
use Rattle.pl_base.proofs.ListLaws.{map-map}
use Rattle.pl_digest.specs.Digest.{digest_of}
use Rattle.pl_check.proofs.distinct.hashes.Goals as goal

pub returns : goal.returns
returns c =
    let hashes =
    items_from_collect c.collect.result c.collect.ensures.ran
    (YieldsList-from_map _ (λ (r : Bor (List ℕ)). digest_of r.now) (YieldsList-from_slice c.args.texts.now cc)
    c.map.ensures.closure (λ x r q k. search rules)) in
    (rw c.in_ok-collect.was at hashes) ∙ sym (map-map digest_of (λ (r : Bor (List ℕ)). r.now) c.args.texts.now)

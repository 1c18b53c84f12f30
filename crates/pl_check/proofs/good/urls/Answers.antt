use Rattle.std.proofs.Common.{Bor, List, ℕ, rules}
use Rattle.std.proofs.lemmas.Iterator.{YieldsList-from_map_by, YieldsList-from_slice}
use Rattle.std.proofs.lemmas.Iterator.Consumers.{map_from_collect}
use Rattle.pl_stored.specs.declared.stored.StoredPage.{StoredPage}
use Rattle.pl_check.proofs.good.urls.Goals as goal

pub returns : goal.returns
returns c =
    let urls =
    map_from_collect c.collect.result c.collect.ensures.ran
    (YieldsList-from_map_by _ (λ (r : Bor (List ℕ)). r.now) (λ (p : StoredPage). p.url)
    (YieldsList-from_slice c.args.pages.now cc) c.map-urls.ensures.closure (λ x r q k. search rules)) in
    rw c.in_ok-collect.was at urls

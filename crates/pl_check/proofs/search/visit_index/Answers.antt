use Rattle.std.proofs.Common.{◌∙◌, rules}
use Rattle.std.proofs.lemmas.List.Sorted.{answers_always}
use Rattle.pl_stored.specs.declared.stored.StoredVisit.{StoredVisit}
use Rattle.pl_base.proofs.Searches.{place_searched}
use Rattle.pl_check.proofs.search.visit_index.Goals as goal

pub returns : goal.returns
returns c =
    let facts = c.binary_search_by_key.ensures in
    c.ok.ensures.value
    ∙ place_searched (λ (v : StoredVisit). v.id.0) c.args.visits.now c.requires c.args.id.0
    c.binary_search_by_key.result facts.bound
    (facts.position (λ (v : StoredVisit). v.id.0) (answers_always _ _ _ (λ f a r g called. search rules)))

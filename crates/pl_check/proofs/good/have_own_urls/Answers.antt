use Rattle.std.proofs.Common.{◌∙◌, ap, map, refl, subst, true}
use Rattle.pl_check.specs.Tags.{AreDistinct, targets}
use Rattle.pl_digest.specs.Digest.{digest_of}
use Rattle.pl_check.proofs.DistinctLaws.{apart_by_hashes}
use Rattle.pl_check.proofs.RowTests.{own_urls_are}
use Rattle.pl_check.proofs.good.have_own_urls.Goals as goal

pub returns-then-are_distinct_hashes : goal.returns-then-are_distinct_hashes
returns-then-are_distinct_hashes c =
    let apart : AreDistinct (map digest_of (targets c.in_ok-urls.urls.items)) =
    subst AreDistinct (c.in_ok-hashes.ensures ∙ ap (λ refs. map digest_of (targets refs)) c.deref.ensures.value)
    (c.are_distinct_hashes.ensures.0 c.if-are_distinct_hashes.true) in
    own_urls_are true (targets c.in_ok-urls.urls.items) c.args.pages.now c.in_ok-urls.ensures
    ((λ t. apart_by_hashes (targets c.in_ok-urls.urls.items) apart), (λ h. refl))

pub returns : goal.returns
returns c =
    own_urls_are c.are_distinct_texts.result (targets c.in_ok-urls.urls.items) c.args.pages.now c.in_ok-urls.ensures
    c.are_distinct_texts.ensures

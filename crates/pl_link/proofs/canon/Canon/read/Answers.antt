use Rattle.pl_link.proofs.CanonLemmas.{record_of-serialize, canon-fits, canon-long}
use Rattle.pl_link.proofs.canon.Canon.read.Goals as goal

pub returns-clause-url : goal.returns-clause-url
returns-clause-url c =
    canon-fits _ _ c.if-text-ge-TEXT_LIMIT.false c.as_str.ensures.valid c.in_ok-url.ensures.url
    (rw c.as_str.ensures.value at c.if-as_str-gt-LONGEST_URL.false)

pub returns-then-as_str-gt-LONGEST_URL-clause-bad_url : goal.returns-then-as_str-gt-LONGEST_URL-clause-bad_url
returns-then-as_str-gt-LONGEST_URL-clause-bad_url c = λ _.
    canon-long _ _ c.if-text-ge-TEXT_LIMIT.false c.as_str.ensures.valid c.in_ok-url.ensures.url
    (rw c.as_str.ensures.value at c.if-as_str-gt-LONGEST_URL.true)

pub invariant_of-result : goal.invariant_of-result
invariant_of-result c = (
  record_of-serialize _ _ c.as_str.ensures.valid c.in_ok-url.ensures.url,
  rw c.as_str.ensures.value at c.if-as_str-gt-LONGEST_URL.false,
)

use Rattle.std.proofs.Common.{subst, sym}
use Rattle.std.specs.BTreeMap.{IsFromIterResult}
use Rattle.std.specs.List.{zip}
use Rattle.std.specs.List.Sorted.{IsStrictlyIncreasing}
use Rattle.std.specs.Ordering.{nat_cmp}
use Rattle.std.proofs.lemmas.Iterator.{YieldsList-from_slice, YieldsList-from_zip}
use Rattle.std.proofs.lemmas.Iterator.Adapters.{fact_from_collect}
use Rattle.std.proofs.lemmas.Iterator.Consumers.{YieldsList-at, YieldsList-from_copied}
use Rattle.std.proofs.lemmas.Map.Made.{keys_of-zip}
use Rattle.pl_accept.proofs.Collected.{collected}
use Rattle.pl_accept.proofs.slots.by_number.Goals as goal

pub returns : goal.returns
returns c =
    let numbers = c.args.numbers.now in
    let slots = c.args.slots.now in
    let first =
    YieldsList-from_copied
    (YieldsList-at c.copied.ensures.source (YieldsList-from_slice numbers c.iter.ensures.rest)) in
    let second =
    YieldsList-from_copied
    (YieldsList-at c.copied-2.ensures.source (YieldsList-from_slice slots c.iter-2.ensures.rest)) in
    let rises = subst IsStrictlyIncreasing (sym (keys_of-zip numbers slots c.requires.as_many)) c.requires.ascending in
    let made =
    fact_from_collect (IsFromIterResult nat_cmp) c.collect.result c.collect.ensures.ran
    (YieldsList-from_zip (YieldsList-at c.zip-entries.ensures.first first)
    (YieldsList-at c.zip-entries.ensures.second second)) in
    collected (zip numbers slots) rises c.in_ok-collect.field-0 (rw c.in_ok-collect.was at made)

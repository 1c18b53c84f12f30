use Rattle.std.proofs.Common.{◌∙◌, rules, sym}
use Rattle.pl_keyed.proofs.KeyLookups.{enters_known, enters_new, found_address}
use Rattle.pl_keyed.proofs.pages.enter_url.Goals as goal

pub returns-in-Occupied-clause-known : goal.returns-in-Occupied-clause-known
returns-in-Occupied-clause-known c =
    let value = (rw c.in-Occupied.is at c.in_ok-known.ensures.value) in
    sym c.get.ensures ∙ value
    ∙ found_address c.args.urls.now c.in_ok-address.address c.args.url.now c.in_ok-address.ensures.digest
    c.in_ok-address.ensures.text

pub returns-in-Occupied-clause-urls : goal.returns-in-Occupied-clause-urls
returns-in-Occupied-clause-urls c =
    enters_known c.args.urls.now _ c.args.url.now c.args.page c.get.result.now (search rules)
    (sym (returns-in-Occupied-clause-known c))

pub returns-in-Vacant-clause-known : goal.returns-in-Vacant-clause-known
returns-in-Vacant-clause-known c =
    let free = (rw c.in-Vacant.is at c.in_ok-known.ensures.found) in
    sym free
    ∙ found_address c.args.urls.now c.in_ok-address.address c.args.url.now c.in_ok-address.ensures.digest
    c.in_ok-address.ensures.text

pub returns-in-Vacant-clause-urls : goal.returns-in-Vacant-clause-urls
returns-in-Vacant-clause-urls c =
    enters_new c.args.urls.now _ c.in_ok-address.address c.args.url.now c.args.page c.in_ok-address.ensures.digest
    c.in_ok-address.ensures.text (search rules) (sym (returns-in-Vacant-clause-known c))

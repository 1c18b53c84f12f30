use Rattle.std.proofs.Common.{◌∙◌}
use Rattle.pl_keyed.proofs.KeyLookups.{enters_origin, found_origin}
use Rattle.pl_keyed.proofs.pages.enter_origin.Goals as goal

pub returns-clause-known : goal.returns-clause-known
returns-clause-known c =
    c.in_ok-insert.ensures.old
    ∙ found_origin c.args.origins.now c.in_ok-origin.origin c.args.parts.now.prefix c.args.parts.now.host
    c.in_ok-origin.ensures.digest c.in_ok-origin.ensures.prefix c.in_ok-origin.ensures.host

pub returns-clause-origins : goal.returns-clause-origins
returns-clause-origins c =
    enters_origin c.args.origins.now c.insert.new.self c.in_ok-origin.origin c.args.parts.now.prefix
    c.args.parts.now.host c.args.page c.in_ok-origin.ensures.digest c.in_ok-origin.ensures.prefix
    c.in_ok-origin.ensures.host c.in_ok-insert.ensures.updates

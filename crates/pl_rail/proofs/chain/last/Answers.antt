use Rattle.std.proofs.Common.{◌∙◌}
use Rattle.pl_rail.proofs.CallLaws.{last_told}
use Rattle.pl_rail.proofs.chain.last.Goals as goal

pub returns-clause-last : goal.returns-clause-last
returns-clause-last g c slots lists =
    c.named.ensures
    ∙ last_told c.args.rail c.args.owner c.args.arena.now c.end.result slots c.end.ensures.named lists

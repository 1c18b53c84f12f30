use Rattle.std.proofs.Common.{◌∙◌}
use Rattle.pl_rail.proofs.CallLaws.{first_told}
use Rattle.pl_rail.proofs.chain.first.Goals as goal

pub returns-clause-first : goal.returns-clause-first
returns-clause-first g c slots lists =
    c.named.ensures
    ∙ first_told c.args.rail c.args.owner c.args.arena.now c.end.result slots c.end.ensures.named lists

use Rattle.std.proofs.Common.{◌∙◌}
use Rattle.pl_rail.proofs.CallLaws.{next_told}
use Rattle.pl_rail.proofs.chain.next.Goals as goal

pub returns-clause-next : goal.returns-clause-next
returns-clause-next g c owner front back lists =
    c.named.ensures
    ∙ next_told c.args.rail owner c.args.arena.now c.args.slot c.link.result front back c.link.ensures.named lists

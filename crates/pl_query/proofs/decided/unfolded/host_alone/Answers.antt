use Rattle.std.proofs.Common.{rules}
use Rattle.pl_query.proofs.HostCuts.{cut_is}
use Rattle.pl_query.proofs.decided.unfolded.host_alone.Goals as goal

pub returns-in_default : goal.returns-in_default
returns-in_default c =
    let told = cut_is c.args.host.now _ c.rsplit_once.ensures.cases in
    rw (← told) (grind rules)

pub returns-then-all_digits : goal.returns-then-all_digits
returns-then-all_digits c =
    let told = cut_is c.args.host.now _ c.rsplit_once.ensures.cases in
    rw (← told) (grind rules)

pub returns-else-all_digits : goal.returns-else-all_digits
returns-else-all_digits c =
    let told = cut_is c.args.host.now _ c.rsplit_once.ensures.cases in
    rw (← told) (grind rules)

use Rattle.pl_place.proofs.ReadBack.{time_back}
use Rattle.pl_place.proofs.writer.Pairs.push_signed.Goals as goal

pub returns-clause-own : goal.returns-clause-own
returns-clause-own c = time_back c.args.number c.ranges.number

pub returns-in_err-text-clause-own : goal.returns-in_err-text-clause-own
returns-in_err-text-clause-own c = time_back c.args.number c.ranges.number

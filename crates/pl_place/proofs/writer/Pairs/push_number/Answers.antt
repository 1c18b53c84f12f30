use Rattle.std.proofs.Common.{arith}
use Rattle.pl_place.proofs.ReadBack.{number_32_back}
use Rattle.pl_place.proofs.writer.Pairs.push_number.Goals as goal

pub returns-clause-own : goal.returns-clause-own
returns-clause-own c = number_32_back c.args.number (omega arith)

pub returns-in_err-text-clause-own : goal.returns-in_err-text-clause-own
returns-in_err-text-clause-own c = number_32_back c.args.number (omega arith)

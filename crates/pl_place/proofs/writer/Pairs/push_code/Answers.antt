use Rattle.std.proofs.Common.{arith}
use Rattle.pl_place.proofs.ReadBack.{number_32_back}
use Rattle.pl_place.proofs.writer.Pairs.push_code.Goals as goal

pub returns-then-code-eq0-clause-own : goal.returns-then-code-eq0-clause-own
returns-then-code-eq0-clause-own c = number_32_back c.args.code (omega arith)

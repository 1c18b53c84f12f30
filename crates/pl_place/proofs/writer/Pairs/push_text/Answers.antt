use Rattle.std.proofs.Common.{subst}
use Rattle.std.specs.Str.{IsUtf8}
use Rattle.pl_place.proofs.ReadBack.{text_back}
use Rattle.pl_place.proofs.writer.Pairs.push_text.Goals as goal

pub returns-clause-own : goal.returns-clause-own
returns-clause-own c = rw c.in-Some.is (text_back c.in-Some.text (subst IsUtf8 c.as_str.ensures c.as_str.utf8))

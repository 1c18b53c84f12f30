use Rattle.std.proofs.Common.{subst}
use Rattle.std.specs.Str.{IsUtf8}
use Rattle.pl_place.proofs.ReadBack.{uri_back}
use Rattle.pl_place.proofs.writer.Pairs.push_uri.Goals as goal

pub returns-clause-own : goal.returns-clause-own
returns-clause-own c =
    rw c.in-Some.is (uri_back c.in-Some.uri (subst IsUtf8 c.text.ensures.value c.text.utf8) c.text.ensures.own)

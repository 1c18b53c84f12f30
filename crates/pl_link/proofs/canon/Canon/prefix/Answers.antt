use Rattle.pl_link.proofs.PartsLemmas.{starts_with-prefix}
use Rattle.pl_link.proofs.canon.Canon.prefix.Goals as goal

pub returns-clause-start : goal.returns-clause-start
returns-clause-start c =
    rw (c.record.ensures.text, c.prefix.ensures) (starts_with-prefix c.record.result.now)

use Rattle.pl_link.proofs.PartsLemmas.{starts_with-prefix}
use Rattle.pl_link.proofs.parts.split.Goals as goal

pub returns-clause-start : goal.returns-clause-start
returns-clause-start c =
    rw (c.record-record.ensures.text, c.in_ok-copied.ensures, c.prefix.ensures)
    (starts_with-prefix c.record-record.result.now)

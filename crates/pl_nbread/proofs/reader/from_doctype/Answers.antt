use Rattle.pl_nbread.proofs.FileStart.{starts_there}
use Rattle.pl_nbread.proofs.reader.from_doctype.Goals as goal

pub returns-clause-value : goal.returns-clause-value
returns-clause-value c =
    starts_there c.args.text c.unwrap_or.result c.strip_prefix.result c.trim_ascii_start.result.now
    c.strip_prefix.ensures.cases c.unwrap_or.ensures c.trim_ascii_start.ensures.value

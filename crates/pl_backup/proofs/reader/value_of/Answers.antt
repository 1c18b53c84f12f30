use Rattle.std.proofs.Common.{arith}
use Rattle.pl_backup.proofs.ReadingSteps.{no_value, value_read}
use Rattle.pl_backup.proofs.reader.value_of.Goals as goal
use Rattle.serde_json.specs.View.{view}

pub returns-in-Ok-clause-value : goal.returns-in-Ok-clause-value
returns-in-Ok-clause-value c =
    value_read c.args.bytes.now (view c.in-Ok.value) c.in-Ok.ensures.ok.0 c.in-Ok.ensures.ok.1

pub returns-in-Err-2-clause-not_json : goal.returns-in-Err-2-clause-not_json
returns-in-Err-2-clause-not_json c =
    λ same. no_value c.args.bytes.now (c.in-Err.ensures.err (λ memory. grind (arith, memory)))

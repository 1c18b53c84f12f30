use Rattle.pl_script.proofs.FieldLemmas.{no_tab}
use Rattle.pl_script.proofs.fields.field_len.Goals as goal

pub returns-in-None-clause-exact : goal.returns-in-None-clause-exact
returns-in-None-clause-exact c = no_tab c.args.bytes.now c.in-None.ensures

use Rattle.pl_script.proofs.FieldLemmas.{takes_field}
use Rattle.pl_script.proofs.fields.Fields.take.Goals as goal

pub returns : goal.returns
returns c =
    takes_field c.self.inside.line.now c.self.inside.next c.field_len-len.result c.args.self.now c.self.view_is
    c.if-self.false c.field_len-len.ensures.exact

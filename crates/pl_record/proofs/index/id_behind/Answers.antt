use Rattle.std.proofs.Common.{◌∙◌, sym}
use Rattle.pl_record.proofs.SlotsById.{behind_none, behind_some}
use Rattle.pl_record.proofs.index.id_behind.Goals as goal

pub returns-in-Some : goal.returns-in-Some
returns-in-Some c =
    behind_some c.args.slots.now.entries c.args.id c.in-Some.id.now c.in-Some.field-0-1.now c.next.new.self
    (sym (c.range.ensures.between tt) ∙ c.in-Some.ensures.steps)

pub returns-in-None : goal.returns-in-None
returns-in-None c =
    behind_none c.args.slots.now.entries c.args.id (sym (c.range.ensures.between tt) ∙ c.in-None.ensures.steps.0)

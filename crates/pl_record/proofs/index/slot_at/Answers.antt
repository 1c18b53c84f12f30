use Rattle.std.proofs.Common.{◌∙◌}
use Rattle.pl_record.proofs.SlotsById.{looked_up}
use Rattle.pl_record.proofs.index.slot_at.Goals as goal

pub returns : goal.returns
returns c = c.copied.ensures ∙ c.get.ensures.value ∙ looked_up c.args.slots.now.entries c.args.id

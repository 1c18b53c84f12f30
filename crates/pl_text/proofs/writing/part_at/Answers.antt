use Rattle.std.proofs.Common.{◌*◌}
use Rattle.pl_slot.specs.Slot.{payload_size}
use Rattle.pl_text.proofs.FrontParts.{first_part}
use Rattle.pl_text.proofs.writing.part_at.Goals as goal

pub returns : goal.returns
returns c = first_part c.args.text.now (payload_size * c.args.place) c.min.result c.min.ensures

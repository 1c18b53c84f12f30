use Rattle.std.proofs.Common.{◌∙◌, ap, sym}
use Rattle.pl_slot.specs.SlotReading.{row_of}
use Rattle.pl_slot.proofs.SlotPlaces.{held}
use Rattle.pl_slot.proofs.slots.row_at.Goals as goal

pub returns-clause-row : goal.returns-clause-row
returns-clause-row c =
    c.decode.ensures.spelled ∙ ap row_of c.bytes_of-bytes.ensures
    ∙ sym (held c.args.slot.0 c.args.sheets.now c.requires.there)

use Rattle.pl_text.proofs.HeldTexts.{part_next}
use Rattle.pl_text.proofs.RowParts.{part_row, part_slot, row_read}
use Rattle.std.proofs.Common.{take}
use Rattle.pl_text.proofs.part.behind.Goals as goal

pub read-requires : goal.read-requires
read-requires g c = record { there = part_slot c.args.slot.0 c.args.arena.now c.requires.part }

pub returns-clause-next : goal.returns-clause-next
returns-clause-next g c part next holds =
    part_next c.args.slot.0 (take c.in-Text.used c.in-Text.payload) part c.in-Text.next next c.args.arena.now
    (row_read c.args.slot.0 c.in-Text.used c.in-Text.next c.in-Text.payload c.args.arena.now c.in-Text.ensures.row
    c.in-Text.ensures.fits) holds

pub unreachable-requires : goal.unreachable-requires
unreachable-requires g c =
    c.in_default.not-Text _ _ _
    (part_row c.args.slot.0 c.read.result c.requires.part.0 c.requires.part.1 c.args.arena.now c.read.ensures.row
    c.requires.part.2)

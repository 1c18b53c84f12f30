use Rattle.pl_slot.specs.declared.kind.SlotKind.TheVariants as kinds
use Rattle.pl_record.proofs.RowKinds.{kind_of_row, not_place, slot_of_kind}
use Rattle.pl_record.proofs.rows.read_place.Goals as goal

pub read-requires : goal.read-requires
read-requires g c =
    record { there = slot_of_kind c.args.slot.0 kinds.Place c.args.arena.now c.requires.place }

pub unreachable-requires : goal.unreachable-requires
unreachable-requires g c =
    not_place c.read.result
    (kind_of_row c.args.slot.0 c.read.result kinds.Place c.args.arena.now c.read.ensures.row c.requires.place)
    c.in_default.not-Place

use Rattle.std.proofs.Common.{◌≡◌, ◌≢◌, ◌∙◌, ap, arith, subst, sym}
use Rattle.pl_record.specs.Rows.{with_source}
use Rattle.pl_record.proofs.RowKinds.{kind_of_row, slot_of_kind}
use Rattle.pl_record.proofs.RowsWritten.{kind_live, row_live, row_set, source_fits, source_kind, source_links}
use Rattle.pl_record.proofs.writing.put_source.Goals as goal
use Rattle.pl_slot.specs.declared.kind.SlotKind.TheVariants as kinds
use Rattle.pl_slot.specs.declared.row.SlotRow.{SlotRow}
use Rattle.pl_slot.specs.Slot.{IsSlotRow, slot_kind}
use Rattle.pl_slot.proofs.LinkFields.{link_of}

apart : kinds.Visit ≢ kinds.Free
apart same = absurd (cc)

live_kind : (row : SlotRow) → slot_kind row ≡ kinds.Visit → slot_kind row ≢ kinds.Free
live_kind row is free = apart (sym is ∙ free)

pub read-row-requires : goal.read-row-requires
read-row-requires g c = record { there = slot_of_kind c.args.slot.0 kinds.Visit c.args.arena.now c.requires.visit }

pub write-requires-clause-live : goal.write-requires-clause-live
write-requires-clause-live g c =
    row_live c.args.slot.0 c.read-row.result c.args.arena.now c.read-row.ensures.row
    (kind_live c.read-row.result (live_kind c.read-row.result
    (kind_of_row c.args.slot.0 c.read-row.result kinds.Visit c.args.arena.now c.read-row.ensures.row
    c.requires.visit)))

pub write-requires-clause-row : goal.write-requires-clause-row
write-requires-clause-row g c =
    let kind = ap slot_kind c.source_row.ensures ∙ source_kind c.args.source c.read-row.result
    ∙ kind_of_row c.args.slot.0 c.read-row.result kinds.Visit c.args.arena.now c.read-row.ensures.row c.requires.visit
    in (
      kind_live c.source_row.new.row (live_kind c.source_row.new.row kind),
      subst IsSlotRow (sym c.source_row.ensures)
          (source_fits c.args.source c.read-row.result (omega arith) c.read-row.ensures.fits),
    )

pub returns-clause-set : goal.returns-clause-set
returns-clause-set g c =
    row_set c.args.slot
    (with_source c.args.source) c.read-row.result c.source_row.new.row c.args.arena.now c.write.new.self
    c.read-row.ensures.row c.source_row.ensures (ap slot_kind c.source_row.ensures
    ∙ source_kind c.args.source c.read-row.result)
    c.read-row.ensures.fits
    (subst IsSlotRow (sym c.source_row.ensures)
    (source_fits c.args.source c.read-row.result (omega arith) c.read-row.ensures.fits))
    (λ rail link. ap (link_of rail link) c.source_row.ensures ∙ source_links c.args.source c.read-row.result rail link)
    c.write.ensures.rows c.write.ensures.header c.write.ensures.count c.write.ensures.pages c.write.ensures.arena

use Rattle.pl_slot.specs.declared.row.SlotRow.TheVariants.{Item}
use Rattle.pl_slot.proofs.RowsRead.{item_read}
use Rattle.pl_slot.proofs.reading.item.Goals as goal

pub returns-clause-row : goal.returns-clause-row
returns-clause-row c =
    item_read c.args.bytes.now _ _ c.in_ok-from_number.ensures
    (λ i. Item c.in_ok-from_number.field-0 (c.slot_at.ensures i) (c.slot_at-2.ensures i)
    (record { 0 = c.four_at.ensures i }) (c.slot_at-3.ensures i) (c.slot_at-4.ensures i) (c.slot_at-5.ensures i)
    (c.slot_at-6.ensures i) (c.slot_at-7.ensures i) (c.slot_at-8.ensures i) (c.slot_at-9.ensures i)
    (c.slot_at-10.ensures i) (c.slot_at-11.ensures i) (c.four_at-2.ensures i) (record { 0 = c.eight_at.ensures i })
    (record { 0 = c.eight_at-2.ensures i }))

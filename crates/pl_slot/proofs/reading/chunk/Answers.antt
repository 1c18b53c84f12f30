use Rattle.std.proofs.Common.{sym, ◌∙◌}
use Rattle.pl_slot.proofs.RowsRead.{text_not, text_read}
use Rattle.pl_slot.proofs.reading.chunk.Goals as goal

pub returns-then-not-is_payload-clause-row : goal.returns-then-not-is_payload-clause-row
returns-then-not-is_payload-clause-row c =
    text_not c.args.bytes.now _ c.told-bytes c.copy_from_slice.ensures.after
    (sym c.is_payload.ensures ∙ c.if-not-is_payload.true)

pub returns-clause-row : goal.returns-clause-row
returns-clause-row c =
    text_read c.args.bytes.now _ _ c.told-bytes c.copy_from_slice.ensures.after
    (sym c.is_payload.ensures ∙ c.if-not-is_payload.false) c.slot_at.ensures

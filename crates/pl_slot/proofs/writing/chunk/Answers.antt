use Rattle.pl_slot.proofs.Fields.{and_one, laid_as, text_apart}
use Rattle.pl_slot.proofs.writing.chunk.Goals as goal

pub returns : goal.returns
returns c =
    let long = c.put_payload.ensures.long in
    let apart = text_apart c.in-Text.used c.in-Text.next c.in-Text.payload long in
    laid_as c.put_payload.new.bytes c.args.row.now _ c.in-Text.is apart
    (and_one _ _ _ _ c.put_payload.ensures.put
    (and_one _ _ _ _ c.put_four.ensures
    (and_one _ _ _ _ c.put_byte.ensures
    c.blank-bytes.ensures)))

use Rattle.std.proofs.Common.{refl}
use Rattle.pl_slot.proofs.Fields.{and_byte, and_one, and_two, laid_as}
use Rattle.pl_slot.proofs.writing.item.Goals as goal

pub returns : goal.returns
returns c =
    laid_as c.put_eight-2.new.bytes c.args.row.now _ c.in-Item.is refl
    (and_one _ _ _ _ c.put_eight-2.ensures
    (and_one _ _ _ _ c.put_eight.ensures
    (and_two _ _ _ _ _ c.put_text.ensures
    (and_two _ _ _ _ _ c.put_slots-4.ensures
    (and_one _ _ _ _ c.put_four-3.ensures
    (and_two _ _ _ _ _ c.put_slots-3.ensures
    (and_two _ _ _ _ _ c.put_slots-2.ensures
    (and_one _ _ _ _ c.put_four-2.ensures
    (and_one _ _ _ _ c.put_four.ensures
    (and_two _ _ _ _ _ c.put_slots.ensures
    (and_byte _ _ _ _ _ _ c.put_byte.ensures c.number.ensures
    c.blank-bytes.ensures)))))))))))

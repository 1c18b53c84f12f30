use Rattle.std.proofs.Common.{refl}
use Rattle.pl_slot.proofs.Fields.{and_one, and_two, laid_as}
use Rattle.pl_slot.proofs.writing.origin.Goals as goal

pub returns : goal.returns
returns c =
    laid_as c.put_eight.new.bytes c.args.row.now _ c.in-Origin.is refl
    (and_one _ _ _ _ c.put_eight.ensures
    (and_two _ _ _ _ _ c.put_slots-2.ensures
    (and_two _ _ _ _ _ c.put_slots.ensures
    c.blank-bytes.ensures)))

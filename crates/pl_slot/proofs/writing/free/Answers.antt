use Rattle.std.proofs.Common.{refl}
use Rattle.pl_slot.proofs.Fields.{and_one, laid_as}
use Rattle.pl_slot.proofs.writing.free.Goals as goal

pub returns : goal.returns
returns c =
    laid_as c.put_four.new.bytes c.args.row.now _ c.in-Free.is refl
    (and_one _ _ _ _ c.put_four.ensures
    c.blank-bytes.ensures)

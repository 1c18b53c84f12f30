use Rattle.std.proofs.Common.{arith}
use Rattle.pl_slot.proofs.RowsRead.{payload_with}
use Rattle.pl_slot.proofs.reading.is_payload.Goals as goal

pub returns : goal.returns
returns c =
    payload_with c.args.used c.from-used.result c.args.payload.now c.are_zeros.result c.told-payload c.from-used.ensures
    (omega (arith, c.from-used.ensures, c.if-used-eq0.false)) (omega (arith, c.from-used.ensures)) c.are_zeros.ensures

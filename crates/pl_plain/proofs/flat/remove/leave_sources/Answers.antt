use Rattle.std.proofs.Common.{arith}
use Rattle.pl_plain.specs.FlatRows.{left_by}
use Rattle.pl_plain.proofs.VisitDropped.{map_over_read}
use Rattle.pl_plain.proofs.flat.remove.leave_sources.Goals as goal

pub loop-visit-preserved : goal.loop-visit-preserved
loop-visit-preserved c =
    map_over_read (left_by c.args.id) c.deref_mut-visit-items.result.now c.loop-visit.visit-items
    c.loop-visit.visit-index _ c.leave_source.new.visit c.loop-visit-test.true
    (omega (arith, c.loop-visit-test.true, c.loop-visit.auto.visit-items)) c.loop-visit.invariant
    c.leave_source.ensures

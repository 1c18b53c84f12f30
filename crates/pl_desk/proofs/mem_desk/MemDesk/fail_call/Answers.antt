use Rattle.std.proofs.Common.{length, Some, subst, sym}
use Rattle.pl_desk.specs.Desk.{Elapses, Shows}
use Rattle.pl_desk.specs.MemDesk.{DeskState, MayLeave, ShownSince}
use Rattle.pl_desk.proofs.mem_desk.MemDesk.fail_call.Goals as goal

pub returns-clause-time : goal.returns-clause-time
returns-clause-time c =
    let old = c.args.self.now in
    subst (λ (d : DeskState). Elapses (length old.calls) (length d.calls) (ShownSince old) (ShownSince d)
    (Shows (MayLeave d) (Some old.said))) (sym c.self.view_is) c.record_failure.ensures.time

use Rattle.std.proofs.Common.{sym, subst}
use Rattle.pl_desk.specs.MemDesk.{MayLeave}
use Rattle.pl_desk.specs.Replay.{reaches_held}
use Rattle.pl_desk.proofs.mem_desk.MemDeskDesk.sync.Goals as goal

-- what a read gives might have been left before the sync too
pub returns-clause-leaves : goal.returns-clause-leaves
returns-clause-leaves c file left =
    let desk = c.args.self.now in
    let from = c.record_call.ensures.leaves file left in
    subst (MayLeave desk) (sym from.2) (reaches_held desk.first desk.calls)

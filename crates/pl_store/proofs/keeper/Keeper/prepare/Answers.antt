use Rattle.std.proofs.Common.{◌≤◌, arith}
use Rattle.pl_store.specs.Bounds.{most_bytes}
use Rattle.pl_store.specs.Session.{memory_store, session_store}
use Rattle.pl_store.proofs.BoundLaws.{any_some, few_written}
use Rattle.pl_store.proofs.keeper.Keeper.prepare.Goals as goal

pub returns-in_ok-prepared-in-File-clause-step : goal.returns-in_ok-prepared-in-File-clause-step
returns-in_ok-prepared-in-File-clause-step c = rw c.in-File.is c.in_ok-prepared-in-File.ensures.step

pub returns-in_ok-next-in-Memory-clause-step : goal.returns-in_ok-next-in-Memory-clause-step
returns-in_ok-next-in-Memory-clause-step c = rw c.in-Memory.is c.in_ok-next-in-Memory.ensures.step

-- what a commit writes
pub returns-in_ok-prepared-in-File-clause-few : goal.returns-in_ok-prepared-in-File-clause-few
returns-in_ok-prepared-in-File-clause-few c = let did = c.in_ok-prepared-in-File in
    rw c.in-File.is (few_written did.prepared (session_store c.in-File.session) c.args.command.now did.reply
    did.ensures.few did.ensures.refused did.ensures.unchanged)

pub returns-in_ok-next-in-Memory-clause-few : goal.returns-in_ok-next-in-Memory-clause-few
returns-in_ok-next-in-Memory-clause-few c = let did = c.in_ok-next-in-Memory in
    rw c.in-Memory.is (any_some (most_bytes (memory_store c.in-Memory.memory) c.args.command.now did.reply)
    (λ most. 0 ≤ most) (λ most. omega arith))

use Rattle.std.proofs.Common.{arith}
use Rattle.std.proofs.lemmas.Result.{err_from_is_err_and}
use Rattle.pl_store.proofs.CommitLemmas.{fails_in_file, taken_in_file, taken_in_memory}
use Rattle.pl_store.proofs.keeper.Ready.commit.Goals as goal

pub returns-in-Memory-clause-taken : goal.returns-in-Memory-clause-taken
returns-in-Memory-clause-taken g c =
    rw c.in-Memory.is (taken_in_memory g.D.Desk c.args.desk.now c.in-Memory.memory g.met.D.Desk.only_now)

pub returns-in_ok-commit-in-File-clause-taken : goal.returns-in_ok-commit-in-File-clause-taken
returns-in_ok-commit-in-File-clause-taken g c = rw c.in-File.is (λ before from.
    taken_in_file g.D.Desk c.args.desk.now c.commit.new.desk c.in-File.prepared c.commit.ensures.any_moment before from
    c.in_ok-commit-in-File.field-0 c.in_ok-commit-in-File.ensures.settled)

pub returns-in_err-commit-in-File-clause-taken : goal.returns-in_err-commit-in-File-clause-taken
returns-in_err-commit-in-File-clause-taken g c =
    let p = err_from_is_err_and c.from_residual.result c.from_residual.ensures.1 in
    rw (c.in-File.is, p.1) (λ before from.
    fails_in_file g.D.Desk c.args.desk.now c.commit.new.desk c.in-File.prepared c.commit.ensures.any_moment before from
    _ c.commit.ensures.left)

-- what was written
pub returns-in-Memory-clause-written : goal.returns-in-Memory-clause-written
returns-in-Memory-clause-written g c = rw c.in-Memory.is (omega arith)

pub returns-in_ok-commit-in-File-clause-written : goal.returns-in_ok-commit-in-File-clause-written
returns-in_ok-commit-in-File-clause-written g c = rw c.in-File.is c.in_ok-commit-in-File.ensures.written

pub returns-in_err-commit-in-File-clause-written : goal.returns-in_err-commit-in-File-clause-written
returns-in_err-commit-in-File-clause-written g c =
    let p = err_from_is_err_and c.from_residual.result c.from_residual.ensures.1 in
    rw (c.in-File.is, p.1) c.in_err-commit-in-File.ensures.written

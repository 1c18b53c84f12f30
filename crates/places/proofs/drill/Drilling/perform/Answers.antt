use Rattle.std.proofs.lemmas.Result.{err_from_is_err_and}
use Rattle.pl_base.specs.Live.{slot_limit}
use Rattle.pl_step.specs.Step.{perform}
use Rattle.pl_store.specs.Keeper.{keeper_store, ready_store}
use Rattle.pl_store.proofs.KeeperLaws.{kept_keeps}
use Rattle.places.proofs.DrillLemmas.{at_command, at_first, takes_either}
use Rattle.places.proofs.drill.Drilling.perform.Goals as goal

-- want of memory for the step
pub returns-in_err-ready-clause-left : goal.returns-in_err-ready-clause-left
returns-in_err-ready-clause-left g c =
    let p = err_from_is_err_and c.from_residual.result c.from_residual.ensures.1 in
    rw (p.1, p.2) (λ first kept.
    rw c.requires.file at (kept_keeps g.D.Desk c.args.self.keeper first c.args.desk.now kept))

pub returns-in_err-ready-clause-any_moment : goal.returns-in_err-ready-clause-any_moment
returns-in_err-ready-clause-any_moment g c first before is kept = let keeper = c.args.self.keeper in
    at_first g.D.Desk g.met.D.Desk.only_now keeper first c.args.desk.now before
    (perform slot_limit (keeper_store keeper) c.args.command.now).1 c.requires.file is kept

-- the commit
pub returns-in_err-commit-clause-left : goal.returns-in_err-commit-clause-left
returns-in_err-commit-clause-left g c = let keeper = c.args.self.keeper in
    let p = err_from_is_err_and c.from_residual-in_err-commit.result c.from_residual-in_err-commit.ensures.1 in
    rw (p.1, p.2) (λ first kept file left.
    takes_either g.D.Desk keeper first c.args.command.now c.in_ok-ready.reply (ready_store c.in_ok-ready.ready) file
    c.requires.limit c.requires.file c.in_ok-ready.ensures.step
    ((c.in_err-commit.ensures.taken keeper c.in_ok-ready.ensures.from).left first file kept left))

pub returns-in_err-commit-clause-any_moment : goal.returns-in_err-commit-clause-any_moment
returns-in_err-commit-clause-any_moment g c first before is kept = let keeper = c.args.self.keeper in
    at_command g.D.Desk keeper first c.args.desk.now c.commit.new.desk c.args.command.now c.in_ok-ready.reply
    (ready_store c.in_ok-ready.ready) c.requires.limit c.requires.file c.in_ok-ready.ensures.step
    ((c.commit.ensures.taken keeper c.in_ok-ready.ensures.from).any_moment first before kept is)

pub returns-clause-any_moment : goal.returns-clause-any_moment
returns-clause-any_moment g c first before is kept = let keeper = c.args.self.keeper in
    at_command g.D.Desk keeper first c.args.desk.now c.commit.new.desk c.args.command.now c.in_ok-ready.reply
    (ready_store c.in_ok-ready.ready) c.requires.limit c.requires.file c.in_ok-ready.ensures.step
    ((c.commit.ensures.taken keeper c.in_ok-ready.ensures.from).any_moment first before kept is)

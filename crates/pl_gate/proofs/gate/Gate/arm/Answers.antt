use Rattle.std.proofs.Common.{sym, subst}
use Rattle.pl_desk.specs.Desk.{Torn}
use Rattle.pl_gate.specs.States.{HoldsEither, IsStaged}
use Rattle.pl_gate.proofs.Moments.{from_rest}
use Rattle.pl_gate.proofs.StagedFiles.{torn_staged}
use Rattle.pl_gate.proofs.gate.Gate.arm.Goals as goal

pub returns-in_err-write_gate-clause-any_moment : goal.returns-in_err-write_gate-clause-any_moment
returns-in_err-write_gate-clause-any_moment g c pages rests =
    let desk = g.D.Desk in let old = c.args.self.now.desk.now in let change = c.args.staged in
    from_rest desk old c.write_gate.new.desk (IsStaged change pages) (HoldsEither change pages) (Torn 0 1)
    (g.met.D.Desk.told_together old) rests c.write_gate.ensures.torn.moments
    (λ file left next torn. torn_staged change pages file next
    (subst (IsStaged change pages) (sym (rests.only file left)) rests.has) torn)

pub returns-clause-any_moment : goal.returns-clause-any_moment
returns-clause-any_moment g c pages rests =
    let desk = g.D.Desk in let old = c.args.self.now.desk.now in let change = c.args.staged in
    from_rest desk old c.write_gate.new.desk (IsStaged change pages) (HoldsEither change pages) (Torn 0 1)
    (g.met.D.Desk.told_together old) rests c.write_gate.ensures.torn.moments
    (λ file left next torn. torn_staged change pages file next
    (subst (IsStaged change pages) (sym (rests.only file left)) rests.has) torn)

use Rattle.std.specs.Option.{option_map}
use Rattle.std.proofs.Common.{◌≡◌, Some, sym, ◌∙◌, ap, subst}
use Rattle.pl_desk.specs.Desk.{Torn}
use Rattle.pl_desk.proofs.AnyMoment.{rests_at}
use Rattle.pl_gate.specs.Device.{with_gate}
use Rattle.pl_gate.specs.Gate.{Holds}
use Rattle.pl_gate.specs.States.{IsClosed, IsInstalled}
use Rattle.pl_gate.proofs.Moments.{from_rest}
use Rattle.pl_gate.proofs.StagedFiles.{cleared_gate, torn_installed}
use Rattle.pl_gate.proofs.gate.Gate.disarm.Goals as goal

pub returns-in_err-write_gate-clause-any_moment : goal.returns-in_err-write_gate-clause-any_moment
returns-in_err-write_gate-clause-any_moment g c pages rests =
    let desk = g.D.Desk in let old = c.args.self.now.desk.now in let change = c.args.installed in
    from_rest desk old c.write_gate.new.desk (IsInstalled change pages) (Holds pages) (Torn 0 1)
    (g.met.D.Desk.told_together old) rests c.write_gate.ensures.torn.moments
    (λ file left next torn. torn_installed change pages file next
    (subst (IsInstalled change pages) (sym (rests.only file left)) rests.has) torn)

pub returns-clause-closed : goal.returns-clause-closed
returns-clause-closed g c pages rests =
    let desk = g.D.Desk in let new = c.write_gate.new.desk in let change = c.args.installed in
    let held : desk.held new ≡ Some (with_gate 0 rests.file) =
    c.in_ok-write_gate.ensures.held ∙ ap (option_map (with_gate 0)) rests.is_held in
    rests_at desk new (IsClosed pages) (with_gate 0 rests.file) held c.in_ok-write_gate.ensures.durable
    (cleared_gate change pages rests.file rests.has)

pub returns-clause-any_moment : goal.returns-clause-any_moment
returns-clause-any_moment g c pages rests =
    let desk = g.D.Desk in let old = c.args.self.now.desk.now in let change = c.args.installed in
    from_rest desk old c.write_gate.new.desk (IsInstalled change pages) (Holds pages) (Torn 0 1)
    (g.met.D.Desk.told_together old) rests c.write_gate.ensures.torn.moments
    (λ file left next torn. torn_installed change pages file next
    (subst (IsInstalled change pages) (sym (rests.only file left)) rests.has) torn)

use Rattle.pl_desk.proofs.AnyMoment.{read_call, reads_none}
use Rattle.pl_gate.proofs.read.read_u32.Goals as goal

pub returns-in_err-read_at-clause-reads : goal.returns-in_err-read_at-clause-reads
returns-in_err-read_at-clause-reads g c =
    let desk = g.D.Desk in let old = c.args.desk.now in let read = c.read_at.ensures in
    read_call desk old old c.read_at.new.self (reads_none desk g.met.D.Desk.only_now old) read.held read.said
    read.written
    read.line read.leaves read.time

pub returns-clause-reads : goal.returns-clause-reads
returns-clause-reads g c =
    let desk = g.D.Desk in let old = c.args.desk.now in let read = c.read_at.ensures in
    read_call desk old old c.read_at.new.self (reads_none desk g.met.D.Desk.only_now old) read.held read.said
    read.written
    read.line read.leaves read.time

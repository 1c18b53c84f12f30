use Rattle.pl_desk.proofs.AnyMoment.{read_call, read_on, reads_none}
use Rattle.pl_desk.specs.Calls.{OnlyReads}
use Rattle.pl_gate.proofs.read.read_gate_page.Given.{Over}
use Rattle.pl_gate.proofs.read.read_gate_page.Goals.{After-read_at, After-read_u64, After-read_u32, After-read_u32-2}
use Rattle.pl_gate.proofs.read.read_gate_page.Goals as goal

gate_read : (g : Over) (c : After-read_at g) → OnlyReads g.D.Desk c.args.desk.now c.read_at.new.self
gate_read g c =
    let desk = g.D.Desk in let old = c.args.desk.now in let read = c.read_at.ensures in
    read_call desk old old c.read_at.new.self (reads_none desk g.met.D.Desk.only_now old) read.held read.said
    read.written
    read.line read.leaves read.time

start_read : (g : Over) (c : After-read_u64 g) → OnlyReads g.D.Desk c.args.desk.now c.read_u64.new.desk
start_read g c =
    let first = gate_read g c.before.before.before.before.before in
    read_on g.D.Desk c.args.desk.now c.read_at.new.self c.read_u64.new.desk first c.read_u64.ensures.reads

count_read : (g : Over) (c : After-read_u32 g) → OnlyReads g.D.Desk c.args.desk.now c.read_u32.new.desk
count_read g c =
    let first = start_read g c.before.before.before.before in
    read_on g.D.Desk c.args.desk.now c.read_u64.new.desk c.read_u32.new.desk first c.read_u32.ensures.reads

after_read : (g : Over) (c : After-read_u32-2 g) → OnlyReads g.D.Desk c.args.desk.now c.read_u32-2.new.desk
after_read g c =
    let first = count_read g c.before.before.before.before in
    read_on g.D.Desk c.args.desk.now c.read_u32.new.desk c.read_u32-2.new.desk first c.read_u32-2.ensures.reads

pub returns-in_err-read_at-clause-reads : goal.returns-in_err-read_at-clause-reads
returns-in_err-read_at-clause-reads g c = gate_read g c.before.before.before.before

pub returns-in_err-start-clause-reads : goal.returns-in_err-start-clause-reads
returns-in_err-start-clause-reads g c = start_read g c.before.before.before

pub returns-in_err-count-clause-reads : goal.returns-in_err-count-clause-reads
returns-in_err-count-clause-reads g c = count_read g c.before.before.before

pub returns-in_err-after-clause-reads : goal.returns-in_err-after-clause-reads
returns-in_err-after-clause-reads g c = after_read g c.before.before.before

pub returns-clause-reads : goal.returns-clause-reads
returns-clause-reads g c = after_read g c.before.before

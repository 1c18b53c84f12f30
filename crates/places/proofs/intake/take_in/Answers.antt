use Rattle.std.proofs.lemmas.Result.{err_from_is_err_and}
use Rattle.pl_store.specs.Keeper.{keeper_store}
use Rattle.places.proofs.AnswerCounts.{stood}
use Rattle.std.proofs.Common.{inl, inr, refl}
use Rattle.places.proofs.IntakeLemmas.{brings_in, ends_parsing, ends_read, no_read, none_counted, reads_none, shows_begun, stays}
use Rattle.places.proofs.intake.take_in.Goals as goal

-- a reading that stopped
pub returns-in_err-bytes-clause-ends : goal.returns-in_err-bytes-clause-ends
returns-in_err-bytes-clause-ends g c =
    let p = err_from_is_err_and c.from_residual.result c.from_residual.ensures.1 in
    rw (p.1, p.2) (λ bytes before told begun first kept. let desk = g.D.Desk in
    ends_read desk c.args.intake _ first (keeper_store c.args.keeper) bytes before (g.S.Source.left c.read_all.new.input)
    c.args.desk.now (c.in_err-bytes.ensures.left bytes told)
    (stays desk c.args.keeper first c.args.desk.now before c.requires.file begun kept))

pub returns-in_err-bytes-clause-shows : goal.returns-in_err-bytes-clause-shows
returns-in_err-bytes-clause-shows g c bytes before told begun first kept =
    shows_begun g.D.Desk c.args.intake g.met.D.Desk.only_now c.args.keeper first c.args.desk.now bytes before c.requires.file begun
    kept

pub returns-in_err-bytes-clause-reads_counted : goal.returns-in_err-bytes-clause-reads_counted
returns-in_err-bytes-clause-reads_counted g c =
    let p = err_from_is_err_and c.from_residual.result c.from_residual.ensures.1 in
    let counted = c.in_err-bytes.ensures.counted in
    rw (p.1, p.2) (record {
      no_less = counted.no_less;
      rose = λ fault. counted.rose (cc);
      stands = λ none. counted.stands (λ fault. none (cc));
    })

-- bytes that hold no tree
pub returns-in_err-command-clause-ends : goal.returns-in_err-command-clause-ends
returns-in_err-command-clause-ends g c =
    let p = err_from_is_err_and c.from_residual-in_err-command.result c.from_residual-in_err-command.ensures.1 in
    rw (p.1, p.2) (λ bytes before told begun first kept. let desk = g.D.Desk in
    let whole = c.in_ok-bytes.ensures.whole bytes told in
    ends_parsing desk c.args.intake _ first (keeper_store c.args.keeper) c.in_ok-bytes.bytes.items bytes before
    (g.S.Source.left c.read_all.new.input) c.args.desk.now
    (c.in_err-command.field-0.0, refl, rw c.deref.ensures.value at c.in_err-command.ensures.none) whole c.in_ok-bytes.ensures.short
    (stays desk c.args.keeper first c.args.desk.now before c.requires.file begun kept))

pub returns-in_err-command-clause-shows : goal.returns-in_err-command-clause-shows
returns-in_err-command-clause-shows g c bytes before told begun first kept =
    shows_begun g.D.Desk c.args.intake g.met.D.Desk.only_now c.args.keeper first c.args.desk.now bytes before c.requires.file begun
    kept

pub returns-in_err-command-clause-stops : goal.returns-in_err-command-clause-stops
returns-in_err-command-clause-stops g c =
    let p = err_from_is_err_and c.from_residual-in_err-command.result c.from_residual-in_err-command.ensures.1 in
    rw (p.1, p.2) (inr (inl (
      c.in_ok-bytes.bytes.items,
      (c.in_err-command.field-0.0, refl, rw c.deref.ensures.value at c.in_err-command.ensures.none),
    )))

pub returns-in_err-command-clause-reads_counted : goal.returns-in_err-command-clause-reads_counted
returns-in_err-command-clause-reads_counted g c = let faults = g.S.Source.faults in
    let p = err_from_is_err_and c.from_residual-in_err-command.result c.from_residual-in_err-command.ensures.1 in
    rw (p.1, p.2) (stood (faults c.args.input.now) (faults c.read_all.new.input) (no_read c.in_err-command.field-0.0)
    (c.in_ok-bytes.ensures.counted.stands (λ same. absurd (cc))))

pub returns-in_err-command-clause-counted : goal.returns-in_err-command-clause-counted
returns-in_err-command-clause-counted g c =
    let p = err_from_is_err_and c.from_residual-in_err-command.result c.from_residual-in_err-command.ensures.1 in
    rw (p.1, p.2) (none_counted g.D.Desk c.in_err-command.field-0.0 c.args.desk.now)

-- the commit
pub returns-clause-ends : goal.returns-clause-ends
returns-clause-ends g c bytes before told begun first kept =
    let whole = c.in_ok-bytes.ensures.whole bytes told in
    rw whole.1 (c.commit-committed.ensures.ends c.args.intake bytes before first
    (brings_in c.args.intake c.in_ok-command.command c.in_ok-bytes.bytes.items bytes whole.0
    (rw c.deref.ensures.value at c.in_ok-command.ensures.command) (rw c.deref.ensures.value at c.in_ok-command.ensures.holds)
    c.in_ok-bytes.ensures.short) begun kept)

pub returns-clause-shows : goal.returns-clause-shows
returns-clause-shows g c bytes before told begun first kept =
    let whole = c.in_ok-bytes.ensures.whole bytes told in
    c.commit-committed.ensures.shows c.args.intake bytes before first
    (brings_in c.args.intake c.in_ok-command.command c.in_ok-bytes.bytes.items bytes whole.0
    (rw c.deref.ensures.value at c.in_ok-command.ensures.command) (rw c.deref.ensures.value at c.in_ok-command.ensures.holds)
    c.in_ok-bytes.ensures.short) begun kept

pub returns-clause-reads_counted : goal.returns-clause-reads_counted
returns-clause-reads_counted g c = let faults = g.S.Source.faults in
    stood (faults c.args.input.now) (faults c.read_all.new.input)
    (reads_none c.commit-committed.result c.commit-committed.ensures.stops)
    (c.in_ok-bytes.ensures.counted.stands (λ same. absurd (cc)))

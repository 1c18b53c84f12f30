use Rattle.std.proofs.Common.{◌≡◌, List, ℕ, Err, Result, ap, sym, ◌∙◌, subst}
use Rattle.std.proofs.lemmas.Result.{err_from_is_err_and}
use Rattle.pl_desk.proofs.SettlingLaws.{settles_less}
use Rattle.pl_desk.specs.Settling.{Settles}
use Rattle.pl_linked.specs.declared.linked.Linked.{Linked}
use Rattle.pl_store.specs.declared.ended.Ended.{Ended}
use Rattle.pl_store.specs.declared.ended.Ended.TheVariants as ended
use Rattle.pl_store.specs.declared.reader.Reader.{Reader}
use Rattle.pl_store.specs.declared.session.Session.{Session}
use Rattle.pl_store.specs.Ending.{Opens, OpensStore}
use Rattle.pl_store.specs.Session.{StandsAlike}
use Rattle.pl_store.proofs.OpenedFiles.{opened_alike}
use Rattle.pl_store.proofs.open.reopen.Given.{Over}
use Rattle.pl_store.proofs.open.reopen.Goals as goal

-- ---- the file was not read

pub returns-in_err-reader-clause-ends : goal.returns-in_err-reader-clause-ends
returns-in_err-reader-clause-ends g c =
    let p = err_from_is_err_and c.from_residual.result c.from_residual.ensures.1 in
    subst (λ (r : Result Session Ended). Opens g.D.Desk c.args.limit r c.args.desk.now c.open_to_read.new.desk)
    (sym (p.1 ∙ ap Err p.2)) c.in_err-reader.ensures.ends

-- a fault of the device is one of both
same_fault : (e : Ended) → ◌≡◌ {A = Result Reader Ended} (Err e) (Err ended.DeviceFault)
    → ◌≡◌ {A = Result Session Ended} (Err e) (Err ended.DeviceFault)
same_fault e fault = let same : e ≡ ended.DeviceFault = cc in ap Err same

-- what a stop within the opening shows
shown : (g : Over) {Fault Fault' : Type 0} (old new : g.row.D.Denot) (file : List ℕ)
    → Settles g.D.Desk Fault old new (StandsAlike file) → (Fault → Fault')
    → Settles g.D.Desk Fault' old new (StandsAlike file)
shown g old new file settles fault =
    settles_less g.D.Desk old new (StandsAlike file) (StandsAlike file) settles fault (λ later alike. alike)

pub returns-in_err-reader-clause-any_moment : goal.returns-in_err-reader-clause-any_moment
returns-in_err-reader-clause-any_moment g c file is =
    let p = err_from_is_err_and c.from_residual.result c.from_residual.ensures.1 in
    shown g c.args.desk.now c.open_to_read.new.desk file (c.in_err-reader.ensures.any_moment file is)
    (λ fault. p.1 ∙ ap Err p.2 ∙ same_fault c.in_err-reader.field-0.0 fault)

-- ---- there was no memory for what commands want

pub returns-in_err-session-clause-ends : goal.returns-in_err-session-clause-ends
returns-in_err-session-clause-ends g c =
    let p = err_from_is_err_and c.from_residual-in_err-session.result c.from_residual-in_err-session.ensures.1 in
    subst (λ (r : Result Session Ended). Opens g.D.Desk c.args.limit r c.args.desk.now c.open_to_read.new.desk)
    (sym (p.1 ∙ ap Err p.2))
    (opened_alike g.D.Desk c.in_ok-reader.reader.rows c.args.desk.now c.open_to_read.new.desk
    c.in_ok-reader.ensures.ends)

pub returns-in_err-session-clause-any_moment : goal.returns-in_err-session-clause-any_moment
returns-in_err-session-clause-any_moment g c file is =
    shown g c.args.desk.now c.open_to_read.new.desk file (c.in_ok-reader.ensures.any_moment file is)
    (λ fault. absurd (cc))

-- ---- it is open

pub returns-clause-ends : goal.returns-clause-ends
returns-clause-ends g c = (
  c.in_ok-session.ensures.limit,
  subst (λ (own : Linked). OpensStore g.D.Desk own c.args.desk.now c.open_to_read.new.desk)
      (sym c.in_ok-session.ensures.rows) c.in_ok-reader.ensures.ends,
)

pub returns-clause-any_moment : goal.returns-clause-any_moment
returns-clause-any_moment g c file is =
    shown g c.args.desk.now c.open_to_read.new.desk file (c.in_ok-reader.ensures.any_moment file is)
    (λ fault. absurd (cc))

pub returns-clause-calls : goal.returns-clause-calls
returns-clause-calls g c =
    let read = c.in_ok-reader.ensures.calls in
    record {
      line = read.line;
      counted = record {
        no_less = read.counted.no_less;
        rose = λ fault. absurd (cc);
        stands = λ none. read.counted.stands (λ fault. absurd (cc));
      };
    }

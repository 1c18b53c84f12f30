use Rattle.std.proofs.Common.{◌≡◌, ℕ, IsSome, List, Some, length, inl, sym, subst}
use Rattle.pl_base.specs.Touched.{bytes_before}
use Rattle.pl_desk.proofs.AnyMoment.{begun, left_now, rests_less, some_said, weaker}
use Rattle.pl_desk.specs.Shown.{AtAnyMoment, Rests}
use Rattle.pl_gate.specs.States.{HoldsEither, IsClosed}
use Rattle.pl_store.specs.declared.pending.Pending.{Pending}
use Rattle.pl_store.specs.declared.session.Prepared.{Prepared}
use Rattle.pl_store.specs.declared.session.Session.{Session}
use Rattle.pl_store.specs.Session.{IsPreparedFrom, IsSettled, StandsForEither, session_bytes, next_bytes, next_store}
use Rattle.pl_store.specs.Session.{session_store}
use Rattle.pl_store.proofs.StandsLaws.{closed_by, settled_stands, stands_by_either}
use Rattle.pl_store.proofs.session.Prepared.commit.Given.{Over}
use Rattle.pl_store.proofs.session.Prepared.commit.Goals as goal

-- what a stop within the write of the change shows
write_shown : (g : Over) (old new : g.row.D.Denot) (prepared : Prepared) (pending : Pending)
    → prepared.change ≡ Some pending
    → ((pages : List ℕ) → Rests g.D.Desk old (IsClosed pages) → length pages ≡ bytes_before pending.touched.before
    → AtAnyMoment g.D.Desk old new (HoldsEither pending.touched pages))
    → (before : Session) → IsPreparedFrom before prepared → IsSettled g.D.Desk before old
    → AtAnyMoment g.D.Desk old new (StandsForEither (session_store before) (next_store prepared))
write_shown g old new prepared pending is shows before from settled =
    let desk = g.D.Desk in let change = pending.touched in let leads = rw is at from.leads in
    weaker desk old new (HoldsEither change (session_bytes before))
    (StandsForEither (session_store before) (next_store prepared))
    (shows (session_bytes before) settled.rests leads.1)
    (stands_by_either change (session_bytes before) (next_bytes prepared) (session_store before) (next_store prepared)
    leads.0
    settled.stands from.stands)

pub returns-in_default-clause-settled : goal.returns-in_default-clause-settled
returns-in_default-clause-settled g c before from settled =
    let begins = rw c.in_default.is at from.leads in
    record {
      rests = rests_less g.D.Desk c.args.desk.now (IsClosed (session_bytes before))
          (IsClosed (next_bytes c.args.self)) settled.rests
          (λ file closed. closed_by (next_bytes c.args.self) (session_bytes before) file begins closed);
      stands = from.stands;
    }

pub returns-in_default-clause-any_moment : goal.returns-in_default-clause-any_moment
returns-in_default-clause-any_moment g c before from settled =
    let desk = g.D.Desk in let old = c.args.desk.now in let some = g.met.D.Desk.told_together old in
    begun desk g.met.D.Desk.only_now old (StandsForEither (session_store before) (next_store c.args.self))
    (some_said desk old settled.rests.file some settled.rests.is_held)
    (λ file left. inl (settled_stands desk before old settled file left))

pub returns-in_err-write_change-clause-any_moment : goal.returns-in_err-write_change-clause-any_moment
returns-in_err-write_change-clause-any_moment g c before from settled =
    write_shown g c.args.desk.now c.write_change.new.desk c.args.self c.in-Some.pending c.in-Some.is
    c.write_change.ensures.any_moment before from settled

pub returns-clause-settled : goal.returns-clause-settled
returns-clause-settled g c before from settled =
    let desk = g.D.Desk in let new = c.write_change.new.desk in let leads = rw c.in-Some.is at from.leads in
    record {
      rests =
          subst (λ (bytes : List ℕ). Rests desk new (IsClosed bytes)) leads.0
          (c.in_ok-write_change.ensures.closed.closed (session_bytes before) settled.rests leads.1);
      stands = from.stands;
    }

pub returns-clause-any_moment : goal.returns-clause-any_moment
returns-clause-any_moment g c before from settled =
    write_shown g c.args.desk.now c.write_change.new.desk c.args.self c.in-Some.pending c.in-Some.is
    c.write_change.ensures.any_moment before from settled

-- what a stop after it leaves
write_left : (g : Over) (old new : g.row.D.Denot) (prepared : Prepared) (before : Session)
    → IsSettled g.D.Desk before old → g.D.Desk.said new ≡ g.D.Desk.said old
    → AtAnyMoment g.D.Desk old new (StandsForEither (session_store before) (next_store prepared))
    → (file : List ℕ) → g.D.Desk.may_leave new file → StandsForEither (session_store before) (next_store prepared) file
write_left g old new prepared before settled unsaid shows =
    let desk = g.D.Desk in
    let some = some_said desk old settled.rests.file (g.met.D.Desk.told_together old) settled.rests.is_held in
    left_now desk g.met.D.Desk.counts_now old new (StandsForEither (session_store before) (next_store prepared))
    (subst IsSome (sym unsaid) some) shows

pub returns-in_default-clause-left : goal.returns-in_default-clause-left
returns-in_default-clause-left g c before from settled file left =
    let desk = g.D.Desk in inl (settled_stands desk before c.args.desk.now settled file left)

pub returns-in_err-write_change-clause-left : goal.returns-in_err-write_change-clause-left
returns-in_err-write_change-clause-left g c before from settled =
    write_left g c.args.desk.now c.write_change.new.desk c.args.self before settled c.write_change.ensures.calls.line.said
    (write_shown g c.args.desk.now c.write_change.new.desk c.args.self c.in-Some.pending c.in-Some.is
    c.write_change.ensures.any_moment before from settled)

pub returns-clause-left : goal.returns-clause-left
returns-clause-left g c before from settled =
    write_left g c.args.desk.now c.write_change.new.desk c.args.self before settled c.write_change.ensures.calls.line.said
    (write_shown g c.args.desk.now c.write_change.new.desk c.args.self c.in-Some.pending c.in-Some.is
    c.write_change.ensures.any_moment before from settled)

-- What a settled file stands for.
use Rattle.std.proofs.Common.{◌≡◌, ◌↔◌, ◌≤◌, ◌+◌, arith, ℕ, true, false, List, Some, IfSome, IsSome}
use Rattle.std.proofs.Common.{Result, Ok, Err, length, take, drop, ap, refl, sym, ◌∙◌, subst}
use Rattle.std.specs.Prelude.{⊤, IfOk, IsErrAnd}
use Rattle.std.proofs.lemmas.Bool.{both_ways}
use Rattle.std.proofs.lemmas.Option.{MatchOption-at_some, same_Some}
use Rattle.std.proofs.lemmas.Result.{err_from_is_err_and}
use Rattle.pl_base.specs.Rows.{store_of}
use Rattle.pl_base.specs.Store.{Store}
use Rattle.pl_base.specs.Touched.{page_size}
use Rattle.pl_base.proofs.Truths.{some_there}
use Rattle.pl_desk.proofs.Told.{if_some}
use Rattle.pl_desk.proofs.AnyMoment.{rests_less, still_rests}
use Rattle.pl_desk.specs.Calls.{KeepsLine, OnlyReads}
use Rattle.pl_desk.specs.Shown.{Rests}
use Rattle.pl_desk.specs.declared.desk.Desk.{Ghosts}
use Rattle.pl_gate.specs.declared.error.GateError.{GateError}
use Rattle.pl_gate.specs.declared.error.GateError.TheVariants as gate
use Rattle.pl_gate.specs.Gate.{has_gate, is_set, laid}
use Rattle.pl_gate.specs.Recovery.{IsSettledAs, StandsAs, recovery_bytes}
use Rattle.pl_gate.specs.States.{IsClosed}
use Rattle.pl_known.specs.Known.{Knows}
use Rattle.pl_linked.specs.declared.linked.Linked.{Linked}
use Rattle.pl_linked.specs.Linked.{bytes_of, kept_of}
use Rattle.pl_reading.specs.File.{HoldStore}
use Rattle.pl_store.specs.declared.ended.Ended.{Ended}
use Rattle.pl_store.specs.declared.ended.Ended.TheVariants as ended
use Rattle.pl_store.specs.declared.reader.Reader.{Reader}
use Rattle.pl_store.specs.declared.session.Session.{Session}
use Rattle.pl_store.specs.Ending.{OpensStore, OpensToRead, RefusesFile}
use Rattle.pl_store.specs.Errors.{ended_by_gate}
use Rattle.pl_store.specs.Reading.{HoldNone, IsReadFrom, EndsReading}
use Rattle.pl_store.specs.Session.{Stands, StandsAlike, session_store}
use Rattle.pl_store.proofs.OpenedAgain.{one_of}
use Rattle.pl_store.proofs.StandsLaws.{stands_by}

-- files that stand for the same pages stand for the same store
pub stands_alike : (file later : List ℕ) → StandsAs file later → StandsAlike file later
stands_alike file later as_file store = (
  λ stands. record {
    gate = as_file.gate ∙ stands.gate;
    form =
        subst (λ (bytes : List ℕ). HoldStore bytes store) (sym as_file.laid) stands.form;
  },
  λ stands. record {
    gate = sym as_file.gate ∙ stands.gate;
    form =
        subst (λ (bytes : List ℕ). HoldStore bytes store) as_file.laid stands.form;
  },
)

module _ (file later : List ℕ) (settled : IsSettledAs file later) where
  lies : laid later ≡ drop page_size later
  lies = rw settled.closed refl

  pub stands_settled : has_gate file ≡ true → (store : Store) → HoldStore (drop page_size later) store
      → Stands file store
  stands_settled gate store stands = record {
    gate = gate;
    form = subst (λ (bytes : List ℕ). HoldStore bytes store) (sym lies ∙ settled.stands.laid) stands;
  }

  pub settled_form : (store : Store) → Stands file store → HoldStore (drop page_size later) store
  settled_form store stands =
      subst (λ (bytes : List ℕ). HoldStore bytes store) (sym settled.stands.laid ∙ lies) stands.form

  pub later_form : (store : Store) → Stands later store → HoldStore (drop page_size later) store
  later_form store stands = subst (λ (bytes : List ℕ). HoldStore bytes store) lies stands.form

  pub closed : (bytes : List ℕ) → has_gate file ≡ true → take (length bytes) (drop page_size later) ≡ bytes
      → IsClosed bytes later
  closed bytes gate begins = record {
    closed = settled.closed;
    holds = record {
      gate = settled.stands.gate ∙ gate;
      begins = subst (λ (all : List ℕ). take (length bytes) all ≡ bytes) (sym lies) begins;
    };
  }

-- a recovery of a file whose gate is not set writes nothing
pub writes_none : (file : List ℕ) (old new : ℕ) → is_set file ≡ false → old ≤ new → new ≤ old + recovery_bytes file
    → new ≡ old
writes_none file old new unset no_less no_more = let most = rw unset at no_more in omega (arith, no_less, most)

-- ---- how an opening ends, from the settling of the file and the reading behind it

-- a fault of the device within the settling ends it as such a fault
pub fault_ends : (error : GateError) (result : Result Reader Ended)
    → IsErrAnd result (λ e. e ≡ ended_by_gate error)
    → ◌≡◌ {A = Result ⊤ GateError} (Err error) (Err gate.DeviceFault) → result ≡ Err ended.DeviceFault
fault_ends error result is fault =
    let same : error ≡ gate.DeviceFault = cc in let p = err_from_is_err_and result is in
    p.1 ∙ ap Err (p.2 ∙ ap ended_by_gate same)

module _ {D : Type 0} (desk : Ghosts D) (told : (now : D) → IsSome (desk.held now) ↔ IsSome (desk.said now))
    (old mid new : D) (settled : (file : List ℕ) → desk.held old ≡ Some file → Rests desk mid (IsSettledAs file))
    (good : IfSome (desk.held old) (λ file. has_gate file ≡ true)) (line : KeepsLine desk old mid)
    (reads : OnlyReads desk mid new) where
  opens_store : (own : Linked) → IfSome (desk.held mid) (λ file. IsReadFrom own (drop page_size file))
      → OpensStore desk own old new
  opens_store own read = record {
    stands = if_some (desk.held old) _ (λ file is. let has = read_of file is in
        stands_settled file (settled file is).file (settled file is).has (MatchOption-at_some _ _ file is good)
        (store_of (kept_of own)) has.stands);
    only = if_some (desk.held old) _ (λ file is store stands.
        (read_of file is).only store (settled_form file (settled file is).file (settled file is).has store stands));
    settled = λ file is. record {
      rests = still_rests desk mid new (IsClosed (bytes_of own)) reads.file.held reads.file.left (record {
        file = (settled file is).file;
        is_held = (settled file is).is_held;
        only = (settled file is).only;
        has =
            closed file (settled file is).file (settled file is).has (bytes_of own)
            (MatchOption-at_some _ _ file is good) (read_of file is).begins;
      });
      stands = (read_of file is).own_form;
    };
  }
    where
      read_of : (file : List ℕ) (is : desk.held old ≡ Some file)
          → IsReadFrom own (drop page_size (settled file is).file)
      read_of file is = MatchOption-at_some _ _ (settled file is).file (settled file is).is_held read

  refuses_file : IfSome (desk.held mid) (λ file. HoldNone (drop page_size file)) → RefusesFile desk old new
  refuses_file none = record {
    was_none = if_some (desk.held old) _ (λ file is store stands. let rests = settled file is in
        (MatchOption-at_some _ _ rests.file rests.is_held none) store
        (settled_form file rests.file rests.has store stands));
    still_none = if_some (desk.held new) _ (λ later is store stands.
        let is_mid = sym reads.file.held ∙ is in
        let said = (told mid).0 (subst IsSome (sym is_mid) refl) in
        let first = some_there (desk.held old) ((told old).1 (subst IsSome line.said said)) in
        let rests = settled first.0 first.1 in
        let has = subst (IsSettledAs first.0) (same_Some rests.file later (sym rests.is_held ∙ is_mid)) rests.has in
        (MatchOption-at_some _ _ later is_mid none) store (later_form first.0 later has store stands));
    bad_gate = λ file is lacks. absurd (both_ways (has_gate file) lacks (MatchOption-at_some _ _ file is good));
    installed = λ file is _. let rests = settled file is in
        if_some (desk.held new) _ (λ later now.
        subst (IsSettledAs file) (same_Some rests.file later (sym (reads.file.held ∙ rests.is_held) ∙ now)) rests.has);
  }

  pub opens : (result : Result Reader Ended) → EndsReading (desk.held mid) result → OpensToRead desk result old new
  opens (Ok reader) read = opens_store reader.rows read
  opens (Err ended.DeviceFault) read = tt
  opens (Err ended.NoMemory) read =
      λ file is. still_rests desk mid new (StandsAlike file) reads.file.held reads.file.left
      (rests_less desk mid (IsSettledAs file) (StandsAlike file) (settled file is)
      (λ later has. stands_alike file later has.stands))
  opens (Err ended.NotAStore) none = refuses_file none
  opens (Err (ended.NotEmpty len)) read = read

-- a file that holds the store that it stood for stands for that store alone
pub opened_alike : {D : Type 0} (desk : Ghosts D) (own : Linked) (old new : D) → OpensStore desk own old new
    → (file : List ℕ) → desk.held old ≡ Some file → Rests desk new (StandsAlike file)
opened_alike desk own old new opens file is =
    let settled = opens.settled file is in
    let held = MatchOption-at_some _ _ file is opens.stands in
    let only = MatchOption-at_some _ _ file is opens.only in
    let still : (later : List ℕ) → IsClosed (bytes_of own) later → Stands later (store_of (kept_of own)) =
    λ later closed. stands_by (bytes_of own) later (store_of (kept_of own)) settled.stands closed.holds in
    rests_less desk new (IsClosed (bytes_of own)) (StandsAlike file) settled.rests (λ later closed store. (
      λ stands. subst (Stands later) (sym (only store stands)) (still later closed),
      λ stands. subst (Stands file) (one_of later (store_of (kept_of own)) store (still later closed) stands) held,
    ))

-- what is known of a session's pages is what its store tells
pub session_knows : (result : Result Session Ended)
    → IfOk result (λ session. Knows (session_store session) session.engine.known)
session_knows (Ok session) = session.engine.knows
session_knows (Err end) = tt

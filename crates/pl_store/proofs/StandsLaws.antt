-- Which files stand for a session's store.
use Rattle.std.proofs.Common.{◌≡◌, ℕ, List, length, take, inl, inr, ⊎_elim, sym, ◌∙◌, ap, subst}
use Rattle.std.proofs.Common.{arith}
use Rattle.std.proofs.Math.Logic.{∥∥₁_elim}
use Rattle.std.proofs.Props.{props}
use Rattle.std.proofs.lemmas.List.{length-take, take-take}
use Rattle.pl_base.specs.Store.{Store}
use Rattle.pl_base.specs.Touched.{Change, changed}
use Rattle.pl_desk.specs.declared.desk.Desk.{Ghosts}
use Rattle.pl_gate.specs.Gate.{Holds, laid}
use Rattle.pl_gate.specs.States.{HoldsEither, IsClosed}
use Rattle.pl_reading.specs.File.{HoldStore, front_bytes}
use Rattle.pl_record.specs.Form.{StandsFor}
use Rattle.pl_reading.proofs.Fronts.{front_of_more}
use Rattle.pl_store.specs.declared.session.Session.{Session}
use Rattle.pl_store.specs.Session.{IsSettled, Stands, StandsForEither, session_store}

-- bytes that begin with bytes that begin with a front, begin with it
begins_by : (front bytes more : List ℕ) → take (length front) bytes ≡ front
    → take (length bytes) more ≡ bytes → take (length front) more ≡ front
begins_by front bytes more first second =
    sym (take-take (length front) (length bytes) more
    (omega (arith, length-take (length front) bytes, ap length first)))
    ∙ ap (take (length front)) second ∙ first

-- a file that holds bytes holds a front of them
pub closed_by : (front bytes file : List ℕ) → take (length front) bytes ≡ front
    → IsClosed bytes file → IsClosed front file
closed_by front bytes file begins is = record {
  closed = is.closed;
  holds =
      record {
        gate = is.holds.gate;
        begins = begins_by front bytes (laid file) begins is.holds.begins;
      };
}

-- bytes that begin with those of a store, hold it
pub holds_more : (bytes more : List ℕ) (store : Store) → StandsFor bytes store
    → take (length bytes) more ≡ bytes → HoldStore more store
holds_more bytes more store stands begins =
    let front : front_bytes more ≡ bytes =
    ∥∥₁_elim stands.form (Prim.hlevel props) (λ form. front_of_more bytes form.laid.arena more begins) in
    subst (λ (own : List ℕ). StandsFor own store) (sym front) stands

pub stands_by : (bytes file : List ℕ) (store : Store) → StandsFor bytes store → Holds bytes file
    → Stands file store
stands_by bytes file store stands holds =
    record { gate = holds.gate; form = holds_more bytes (laid file) store stands holds.begins }

pub stands_by_either : (change : Change) (bytes later : List ℕ) (before after : Store)
    → changed change bytes ≡ later → StandsFor bytes before → StandsFor later after
    → (file : List ℕ) → HoldsEither change bytes file → StandsForEither before after file
stands_by_either change bytes later before after is first second file either =
    ⊎_elim (λ holds. inl (stands_by bytes file before first holds))
    (λ holds. inr (stands_by later file after second
    (subst (λ (b : List ℕ). Holds b file) is holds))) either

-- a stop leaves files that stand for the session's store where the file is settled for it
pub settled_stands : {D : Type 0} (desk : Ghosts D) (session : Session) (now : D)
    → IsSettled desk session now
    → (file : List ℕ) → desk.may_leave now file → Stands file (session_store session)
settled_stands desk session now settled file left =
    stands_by _ file (session_store session) settled.stands
    (subst (IsClosed _) (sym (settled.rests.only file left)) settled.rests.has).holds

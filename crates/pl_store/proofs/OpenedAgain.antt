-- Openings that are stopped: the files stand for the same stores as before.
use Rattle.std.proofs.Common.{◌≡◌, ℕ, List, Some, IsSome, ⊎_elim, subst, sym}
use Rattle.pl_base.specs.Store.{Store}
use Rattle.pl_desk.proofs.AnyMoment.{CountsNow, OnlyNow, ShownNow, held_left, left_now}
use Rattle.pl_desk.proofs.Moments.{and_on, shows_less}
use Rattle.pl_desk.specs.Settling.{Settles}
use Rattle.pl_desk.specs.Shown.{AtAnyMoment, Unsaid}
use Rattle.pl_desk.specs.declared.desk.Desk.{Ghosts}
use Rattle.pl_record.proofs.Standing.{one_store}
use Rattle.pl_reading.specs.File.{front_bytes}
use Rattle.pl_gate.specs.Gate.{laid}
use Rattle.pl_store.specs.Ending.{StaysAmong}
use Rattle.pl_store.specs.Session.{LeavesOneOf, Stands, StandsAlike, StandsForOneOf}

-- bytes stand for at most one store
pub one_of : (file : List ℕ) (a b : Store) → Stands file a → Stands file b → a ≡ b
one_of file a b first second = one_store (front_bytes (laid file)) a b first.form second.form

-- a file that stands alike stands for one of the same stores
among : (stores : List Store) (file later : List ℕ) → StandsForOneOf stores file → StandsAlike file later
    → StandsForOneOf stores later
among stores file later one alike =
    (one.0, one.1, one.2, one.3, (alike one.1).0 one.4)

module _ {D : Type 0} (desk : Ghosts D) (only_now : OnlyNow desk) (shown_now : ShownNow desk)
    (counts_now : CountsNow desk) where
  shown_among : {Fault : Type 0} (old new : D) (stores : List Store) (file : List ℕ) → StandsForOneOf stores file
      → LeavesOneOf desk stores old → Settles desk Fault old new (StandsAlike file)
      → AtAnyMoment desk old new (StandsForOneOf stores)
  shown_among old new stores file one left settles =
      let P = Unsaid desk old (desk.may_leave old) in
      let Q = Unsaid desk old (StandsAlike file) in
      let R = Unsaid desk old (StandsForOneOf stores) in
      let first : (later line : List ℕ) → P later line → R later line =
      λ later line has. (left later has.0, has.1) in
      let second : (later line : List ℕ) → Q later line → R later line =
      λ later line has. (among stores file later one has.0, has.1) in
      ⊎_elim (λ open_. shows_less desk old new P R open_.1 first)
      (λ turns. and_on desk old turns.turn new R R (shows_less desk old turns.turn P R turns.before first)
      (shows_less desk turns.turn new Q R turns.since second) (λ later line has. has))
      settles

  pub stays_among : {Fault : Type 0} (old new : D) (stores : List Store) (file : List ℕ)
      → IsSome (desk.said old) → desk.said new ≡ desk.said old → desk.held old ≡ Some file
      → LeavesOneOf desk stores old → Settles desk Fault old new (StandsAlike file) → StaysAmong desk stores old new
  stays_among old new stores file some line is left settles =
      let one = left file (held_left desk only_now shown_now old file some is) in
      let shown = shown_among old new stores file one left settles in
      record {
        shown = shown;
        left =
            left_now desk counts_now old new (StandsForOneOf stores) (subst IsSome (sym line) some) shown;
      }

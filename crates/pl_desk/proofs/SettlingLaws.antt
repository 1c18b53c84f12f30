-- Laws of calls that settle a file.
use Rattle.std.proofs.Common.{◌≡◌, ℕ, List, Some, inl, inr, ⊎_elim, sym, ◌∙◌}
use Rattle.pl_desk.specs.Settling.{IsFirstSync, LeavesSettled, Settles, ShowsThen, TurnsTo}
use Rattle.pl_desk.specs.Shown.{AtAnyMoment, ShowsOnly, Unsaid}
use Rattle.pl_desk.specs.declared.desk.Desk.{Ghosts}
use Rattle.pl_desk.proofs.AnyMoment.{CountsNow}
use Rattle.pl_desk.proofs.Moments.{and_on, shows_less}

module _ {D : Type 0} (desk : Ghosts D) where
  -- up to the end of the first sync what a stop might have left at first, and then what has P
  pub settles_at : (old turn new : D) (P : List ℕ → Type 0) → IsFirstSync desk old turn
      → AtAnyMoment desk old turn (desk.may_leave old) → AtAnyMoment desk turn new P
      → TurnsTo desk old new (Unsaid desk old (desk.may_leave old)) (Unsaid desk old P)
  settles_at old turn new P synced before since = record {
    turn = turn;
    synced = synced;
    before = before;
    since = shows_less desk turn new (Unsaid desk turn P) (Unsaid desk old P) since
        (λ file line shows. (shows.0, sym synced.line.said ∙ shows.1));
  }

  turned : {Fault : Type 0} (old new : D) (P Q : List ℕ → List ℕ → Type 0) → (Fault → ⊥)
      → ShowsThen desk Fault old new P Q → TurnsTo desk old new P Q
  turned old new P Q none shows = ⊎_elim (λ fault. absurd (none fault.0)) (λ turns. turns) shows

  -- where no fault came that sync has ended, and further calls leave the file settled
  pub settles_on : {Fault : Type 0} (old mid new : D) (P Q : List ℕ → List ℕ → Type 0)
      → (Fault → ⊥) → ShowsThen desk Fault old mid P Q → ShowsOnly desk mid new Q
      → TurnsTo desk old new P Q
  settles_on old mid new P Q none settles more =
      let turns = turned old mid P Q none settles in record {
        turn = turns.turn;
        synced = turns.synced;
        before = turns.before;
        since = and_on desk turns.turn mid new Q Q turns.since more (λ file line has. has);
      }

  -- less is known of the fault, and of what is shown before and after
  pub shows_then_less : {Fault Fault' : Type 0} (old new : D)
      (P Q P' Q' : List ℕ → List ℕ → Type 0)
      → ShowsThen desk Fault old new P Q → (Fault → Fault')
      → ((file line : List ℕ) → P file line → P' file line)
      → ((file line : List ℕ) → Q file line → Q' file line)
      → ShowsThen desk Fault' old new P' Q'
  shows_then_less old new P Q P' Q' shows fault before since =
      ⊎_elim (λ open_. inl (fault open_.0, shows_less desk old new P P' open_.1 before))
      (λ turns. inr (record {
        turn = turns.turn;
        synced = turns.synced;
        before = shows_less desk old turns.turn P P' turns.before before;
        since = shows_less desk turns.turn new Q Q' turns.since since;
      })) shows

  -- less is known of the fault, and of the files in the end
  pub settles_less : {Fault Fault' : Type 0} (old new : D) (P Q : List ℕ → Type 0)
      → Settles desk Fault old new P → (Fault → Fault') → ((file : List ℕ) → P file → Q file)
      → Settles desk Fault' old new Q
  settles_less old new P Q settles fault to =
      shows_then_less old new (Unsaid desk old (desk.may_leave old)) (Unsaid desk old P)
      (Unsaid desk old (desk.may_leave old)) (Unsaid desk old Q) settles fault
      (λ file line shows. shows) (λ file line shows. (to file shows.0, shows.1))

  -- what is left of what a stop shows
  pub left_settled : {Fault : Type 0} → CountsNow desk → (old new : D) (P : List ℕ → Type 0)
      (line : List ℕ) → desk.said new ≡ Some line → Settles desk Fault old new P
      → LeavesSettled (desk.may_leave old) P (desk.may_leave new)
  left_settled counts_now old new P line is settles =
      ⊎_elim (λ open_. inl (λ file left.
      let before = open_.1 in
      (before.each file line (counts_now new (desk.moment old) file line before.later left is)).0))
      (λ turns. inr (λ file left.
      (turns.since.each file line
      (counts_now new (desk.moment turns.turn) file line turns.since.later left is)).0))
      settles

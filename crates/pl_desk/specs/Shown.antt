-- What a stop of the machine shows from one desk of a run to a later one.
use Rattle.std.specs.Prelude.{◌≡◌, ◌⊎◌, ◌≤◌, ℕ, List, Some, IsSome}
use Rattle.pl_desk.specs.Desk.{Only}
use Rattle.pl_desk.specs.declared.desk.Desk.{Ghosts}

-- A stop at any moment from old to new shows a file and a line that have P.
pub record ShowsOnly {D : Type 0} (desk : Ghosts D) (old new : D)
    (P : List ℕ → List ℕ → Type 0) : Type 0 where
  pub later : desk.moment old ≤ desk.moment new
  pub each : (file line : List ℕ) → desk.shown_since new (desk.moment old) file line → P file line
  -- for a run that began earlier
  pub before : (t : ℕ) (file line : List ℕ) → t ≤ desk.moment old → desk.shown_since new t file line
      → desk.shown_since old t file line ⊎ P file line

-- a file that has P, with nothing said that was not said before
abbrev pub Unsaid : {D : Type 0} (desk : Ghosts D) → D → (List ℕ → Type 0) → List ℕ → List ℕ
    → Type 0
Unsaid desk old P file line = P file × (desk.said old ≡ Some line)

-- A stop at any moment from old to new shows a file that has P, and the line as it was.
abbrev pub AtAnyMoment : {D : Type 0} (desk : Ghosts D) → D → D → (List ℕ → Type 0) → Type 0
AtAnyMoment desk old new P = ShowsOnly desk old new (Unsaid desk old P)

-- a read gives a file that has P, and a stop leaves it and no other
pub record Rests {D : Type 0} (desk : Ghosts D) (now : D) (P : List ℕ → Type 0) : Type 0 where
  pub file : List ℕ
  pub is_held : desk.held now ≡ Some file
  pub only : Only file (desk.may_leave now)
  pub has : P file

-- a file that is left by a step from one that might have been left before
abbrev pub LeftBy : (List ℕ → List ℕ → Type 0) → (List ℕ → Type 0) → List ℕ → Type 0
LeftBy step may_leave file = (before : List ℕ) × may_leave before × step before file

-- Where the line is told, a stop at any moment from old to new shows a file that is left by the
-- step, and the line as it was.
abbrev pub ShowsStep : {D : Type 0} (desk : Ghosts D) → D → D → (List ℕ → List ℕ → Type 0) → Type 0
ShowsStep desk old new step =
    IsSome (desk.said old) → AtAnyMoment desk old new (LeftBy step (desk.may_leave old))

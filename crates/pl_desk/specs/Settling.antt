-- What a stop shows of calls that settle a file which a stop may leave in more than one way.
use Rattle.std.specs.Prelude.{◌⊎◌, ℕ, List, IfSome}
use Rattle.pl_desk.specs.Calls.{KeepsFile, KeepsLine}
use Rattle.pl_desk.specs.Desk.{Only}
use Rattle.pl_desk.specs.Shown.{ShowsOnly, Unsaid}
use Rattle.pl_desk.specs.declared.desk.Desk.{Ghosts}

-- A sync has ended, before which no byte was written and nothing said: a stop leaves just what a
-- read gives, which is what it gave at first.
pub record IsFirstSync {D : Type 0} (desk : Ghosts D) (old turn : D) : Type 0 where
  pub file : KeepsFile desk old turn
  pub line : KeepsLine desk old turn
  pub durable : IfSome (desk.held turn) (λ file. Only file (desk.may_leave turn))

-- A stop shows what has P until the first sync ends, and what has Q from then on.
pub record TurnsTo {D : Type 0} (desk : Ghosts D) (old new : D)
    (P Q : List ℕ → List ℕ → Type 0) : Type 0 where
  pub turn : D
  pub synced : IsFirstSync desk old turn
  pub before : ShowsOnly desk old turn P
  pub since : ShowsOnly desk turn new Q

-- The same, or a fault may have come before that sync ended.
abbrev pub ShowsThen : {D : Type 0} (desk : Ghosts D) (Fault : Type 0) → D → D
    → (List ℕ → List ℕ → Type 0) → (List ℕ → List ℕ → Type 0) → Type 0
ShowsThen desk Fault old new P Q =
    (Fault × ShowsOnly desk old new P) ⊎ TurnsTo desk old new P Q

-- A stop shows a file that it might have left at first, and from the end of the first sync on one
-- that has P; what was said stays.
abbrev pub Settles : {D : Type 0} (desk : Ghosts D) (Fault : Type 0) → D → D
    → (List ℕ → Type 0) → Type 0
Settles desk Fault old new P =
    ShowsThen desk Fault old new (Unsaid desk old (desk.may_leave old)) (Unsaid desk old P)

-- what a stop may leave in the end: what it might have left at first, or files that have P
abbrev pub LeavesSettled : (List ℕ → Type 0) → (List ℕ → Type 0) → (List ℕ → Type 0) → Type 0
LeavesSettled first P may_leave =
    ((file : List ℕ) → may_leave file → first file) ⊎ ((file : List ℕ) → may_leave file → P file)

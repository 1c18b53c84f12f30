-- The states of a commit.
use Rattle.std.specs.Prelude.{◌≡◌, ◌⊎◌, ◌<◌, ℕ, true, false, List, [], length, Some}
use Rattle.pl_base.specs.Touched.{Change, behind_gate, bytes_before, changed}
use Rattle.pl_desk.specs.Shown.{AtAnyMoment, Rests}
use Rattle.pl_desk.specs.declared.desk.Desk.{Ghosts}
use Rattle.pl_gate.specs.Device.{start_of, with_gate}
use Rattle.pl_gate.specs.Gate.{Holds, is_set, journal, journal_start, laid, pages_after}

-- the file stands for the bytes before the change, or for those after it
abbrev pub HoldsEither : Change → List ℕ → List ℕ → Type 0
HoldsEither change pages file = Holds pages file ⊎ Holds (changed change pages) file

-- a file without a set gate that stands for these bytes from page 1 on
pub record IsClosed (pages file : List ℕ) : Type 0 where
  pub closed : is_set file ≡ false
  pub holds : Holds pages file

-- the gate is set, over the journal of the change
pub record IsArmed (change : Change) (pages file : List ℕ) : Type 0 where
  pub set : is_set file ≡ true
  pub journal : journal file ≡ change.pages
  pub after : pages_after file ≡ change.after
  pub holds : Holds pages file

-- the gate is not set, the journal begins behind the pages, old and new, and the file would be
-- armed with the gate set
pub record IsStaged (change : Change) (pages file : List ℕ) : Type 0 where
  pub closed : IsClosed pages file
  pub start : journal_start file ≡ start_of change
  pub ready : IsArmed change (changed change pages) (with_gate 1 file)

-- armed, and each page is in its place
pub record IsInstalled (change : Change) (pages file : List ℕ) : Type 0 where
  pub armed : IsArmed change pages file
  pub in_place : behind_gate file ≡ laid file

module _ {D : Type 0} (desk : Ghosts D) (change : Change) where
  -- the file at rest stood for the pages before the change, and for those after it now
  pub record TakesChange (old new : D) : Type 0 where
    pub closed : (pages : List ℕ) → Rests desk old (IsClosed pages)
        → length pages ≡ bytes_before change.before
        → Rests desk new (IsClosed (changed change pages))
    -- the same of an empty file
    pub closed_empty : desk.held old ≡ Some [] → change.before ≡ 1 → 1 < change.after
        → Rests desk new (IsClosed (changed change []))

  -- a stop from old to new shows a file that stands for the pages before the change, or after it
  abbrev pub ShowsChange : D → D → Type 0
  ShowsChange old new = (pages : List ℕ) → Rests desk old (IsClosed pages)
      → length pages ≡ bytes_before change.before
      → AtAnyMoment desk old new (HoldsEither change pages)

-- What calls leave of a desk.
use Rattle.std.specs.Prelude.{◌≡◌, ℕ, List, IsSome}
use Rattle.pl_desk.specs.Shown.{AtAnyMoment}
use Rattle.pl_desk.specs.declared.desk.Desk.{Ghosts}

-- a stop leaves no file that it might not have left before
abbrev pub LeavesNoMore : {D : Type 0} (desk : Ghosts D) → D → D → Type 0
LeavesNoMore desk old new = (file : List ℕ) → desk.may_leave new file → desk.may_leave old file

-- calls of the file leave the line: what was said, and how many of its calls have failed
pub record KeepsLine {D : Type 0} (desk : Ghosts D) (old new : D) : Type 0 where
  pub said : desk.said new ≡ desk.said old
  pub faults : desk.line_faults new ≡ desk.line_faults old

-- the file is as it was: what a read gives, how much was written, and what a stop may leave
pub record KeepsFile {D : Type 0} (desk : Ghosts D) (old new : D) : Type 0 where
  pub held : desk.held new ≡ desk.held old
  pub written : desk.written new ≡ desk.written old
  pub left : LeavesNoMore desk old new

-- the file is left alone: no call of it was made
pub record LeavesFile {D : Type 0} (desk : Ghosts D) (old new : D) : Type 0 where
  pub kept : KeepsFile desk old new
  pub faults : desk.device_faults new ≡ desk.device_faults old

-- only reads were made: file and line are as they were, and a stop shows no file that it might not
-- have left before
pub record OnlyReads {D : Type 0} (desk : Ghosts D) (old new : D) : Type 0 where
  pub file : KeepsFile desk old new
  pub line : KeepsLine desk old new
  pub shows : IsSome (desk.said old) → AtAnyMoment desk old new (desk.may_leave old)

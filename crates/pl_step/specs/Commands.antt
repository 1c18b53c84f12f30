-- What is known of a command before it is carried out: that its dates are in range, and what it may
-- ask for.
use Rattle.std.specs.Prelude.{◌≡◌, ℕ, Bool, true, false}
use Rattle.pl_base.specs.Address.{is_unrecorded_url}
use Rattle.pl_base.specs.Date.{IsDate, IsDay}
use Rattle.pl_base.specs.Store.{Store}
use Rattle.pl_nbread.specs.WellFormed.{AreWellFormed}
use Rattle.pl_step.specs.declared.command.Command.{Command}
use Rattle.pl_step.specs.declared.command.Command.TheVariants.{Day as DayCommand}
use Rattle.pl_step.specs.declared.command.Command.TheVariants.{Visit as VisitCommand}
use Rattle.pl_step.specs.declared.command.Command.TheVariants.{Title as TitleCommand}
use Rattle.pl_step.specs.declared.command.Command.TheVariants.{Page as PageCommand}
use Rattle.pl_step.specs.declared.command.Command.TheVariants.{Origin as OriginCommand}
use Rattle.pl_step.specs.declared.command.Command.TheVariants.{Stats as StatsCommand}
use Rattle.pl_step.specs.declared.command.Command.TheVariants.{Unvisit as UnvisitCommand}
use Rattle.pl_step.specs.declared.command.Command.TheVariants.{Forget as ForgetCommand}
use Rattle.pl_step.specs.declared.command.Command.TheVariants.{Expire as ExpireCommand}
use Rattle.pl_step.specs.declared.command.Command.TheVariants.{Trim as TrimCommand}
use Rattle.pl_step.specs.declared.command.Command.TheVariants.{Folder as FolderCommand}
use Rattle.pl_step.specs.declared.command.Command.TheVariants.{Bookmark as BookmarkCommand}
use Rattle.pl_step.specs.declared.command.Command.TheVariants.{Separator as SeparatorCommand}
use Rattle.pl_step.specs.declared.command.Command.TheVariants.{Move as MoveCommand}
use Rattle.pl_step.specs.declared.command.Command.TheVariants.{Retitle as RetitleCommand}
use Rattle.pl_step.specs.declared.command.Command.TheVariants.{Remove as RemoveCommand}
use Rattle.pl_step.specs.declared.command.Command.TheVariants.{List as ListCommand}
use Rattle.pl_step.specs.declared.command.Command.TheVariants.{Tag as TagCommand}
use Rattle.pl_step.specs.declared.command.Command.TheVariants.{Untag as UntagCommand}
use Rattle.pl_step.specs.declared.command.Command.TheVariants.{Query as QueryCommand}
use Rattle.pl_step.specs.declared.command.Command.TheVariants.{Place as PlaceCommand}
use Rattle.pl_step.specs.declared.command.Command.TheVariants.{Bar as BarCommand}
use Rattle.pl_step.specs.declared.command.Command.TheVariants.{Fill as FillCommand}
use Rattle.pl_step.specs.declared.command.Command.TheVariants.{Import as ImportCommand}
use Rattle.pl_step.specs.declared.command.Command.TheVariants.{Restore as RestoreCommand}
use Rattle.pl_step.specs.Refused.{is_refused}
use Rattle.pl_step.specs.Step.{perform}

-- the dates and days of a command are in range, and the lists of a tree are well formed
abbrev pub HasDates : Command → Type 0
HasDates (DayCommand day) = IsDay day
HasDates (VisitCommand url transition date source) = IsDate date
HasDates (TitleCommand url text) = Unit {0}
HasDates (PageCommand url) = Unit {0}
HasDates (OriginCommand url) = Unit {0}
HasDates StatsCommand = Unit {0}
HasDates (UnvisitCommand visit) = Unit {0}
HasDates (ForgetCommand url) = Unit {0}
HasDates (ExpireCommand day) = IsDay day
HasDates (TrimCommand most) = Unit {0}
HasDates (FolderCommand parent place title date) = IsDate date
HasDates (BookmarkCommand parent place url title date) = IsDate date
HasDates (SeparatorCommand parent place date) = IsDate date
HasDates (MoveCommand item parent place date) = IsDate date
HasDates (RetitleCommand item title date) = IsDate date
HasDates (RemoveCommand item) = Unit {0}
HasDates (ListCommand item) = Unit {0}
HasDates (TagCommand url name date) = IsDate date
HasDates (UntagCommand url name) = Unit {0}
HasDates (QueryCommand query) = Unit {0}
HasDates (PlaceCommand query) = Unit {0}
HasDates (BarCommand most text) = Unit {0}
HasDates (FillCommand text) = Unit {0}
HasDates (ImportCommand tree) = AreWellFormed tree
HasDates (RestoreCommand tree) = AreWellFormed tree

-- any command may want memory but a move that is refused, and a visit that is not recorded
abbrev pub MayWantMemory : ℕ → Store → Command → Type 0
MayWantMemory limit store (DayCommand day) = Unit {0}
MayWantMemory limit store (VisitCommand url transition date source) = is_unrecorded_url url ≡ false
MayWantMemory limit store (TitleCommand url text) = Unit {0}
MayWantMemory limit store (PageCommand url) = Unit {0}
MayWantMemory limit store (OriginCommand url) = Unit {0}
MayWantMemory limit store StatsCommand = Unit {0}
MayWantMemory limit store (UnvisitCommand visit) = Unit {0}
MayWantMemory limit store (ForgetCommand url) = Unit {0}
MayWantMemory limit store (ExpireCommand day) = Unit {0}
MayWantMemory limit store (TrimCommand most) = Unit {0}
MayWantMemory limit store (FolderCommand parent place title date) = Unit {0}
MayWantMemory limit store (BookmarkCommand parent place url title date) = Unit {0}
MayWantMemory limit store (SeparatorCommand parent place date) = Unit {0}
MayWantMemory limit store (MoveCommand item parent place date) =
    is_refused (perform limit store (MoveCommand item parent place date)).0 ≡ false
MayWantMemory limit store (RetitleCommand item title date) = Unit {0}
MayWantMemory limit store (RemoveCommand item) = Unit {0}
MayWantMemory limit store (ListCommand item) = Unit {0}
MayWantMemory limit store (TagCommand url name date) = Unit {0}
MayWantMemory limit store (UntagCommand url name) = Unit {0}
MayWantMemory limit store (QueryCommand query) = Unit {0}
MayWantMemory limit store (PlaceCommand query) = Unit {0}
MayWantMemory limit store (BarCommand most text) = Unit {0}
MayWantMemory limit store (FillCommand text) = Unit {0}
MayWantMemory limit store (ImportCommand tree) = Unit {0}
MayWantMemory limit store (RestoreCommand tree) = Unit {0}

-- a command of a kind that may change the store
abbrev pub is_change : Command → Bool
is_change (DayCommand day) = true
is_change (VisitCommand url transition date source) = true
is_change (TitleCommand url text) = true
is_change (PageCommand url) = false
is_change (OriginCommand url) = false
is_change StatsCommand = false
is_change (UnvisitCommand visit) = true
is_change (ForgetCommand url) = true
is_change (ExpireCommand day) = true
is_change (TrimCommand most) = true
is_change (FolderCommand parent place title date) = true
is_change (BookmarkCommand parent place url title date) = true
is_change (SeparatorCommand parent place date) = true
is_change (MoveCommand item parent place date) = true
is_change (RetitleCommand item title date) = true
is_change (RemoveCommand item) = true
is_change (ListCommand item) = false
is_change (TagCommand url name date) = true
is_change (UntagCommand url name) = true
is_change (QueryCommand query) = false
is_change (PlaceCommand query) = false
is_change (BarCommand most text) = false
is_change (FillCommand text) = false
is_change (ImportCommand tree) = true
is_change (RestoreCommand tree) = true

-- What the types of a command promise of what it may put into a store: URLs of the store, texts in
-- UTF-8, and names of tags.
use Rattle.std.specs.Prelude.{◌≡◌, ℕ, List, Some, IfSome, IfOk}
use Rattle.std.specs.List.{All}
use Rattle.std.specs.Str.{IsUtf8}
use Rattle.pl_base.specs.Address.{canon}
use Rattle.pl_base.specs.Good.{IsTagName}
use Rattle.pl_nbread.specs.declared.tree.Node.{Node}
use Rattle.pl_nbread.specs.declared.tree.Tree.{Tree}
use Rattle.pl_step.specs.Commands.{HasDates}
use Rattle.pl_step.specs.Parsed.{Parsed}
use Rattle.pl_step.specs.declared.command.Command.{Command}
use Rattle.pl_step.specs.declared.command.Command.TheVariants.{Day as DayCommand}
use Rattle.pl_step.specs.declared.command.Command.TheVariants.{Visit as VisitCommand}
use Rattle.pl_step.specs.declared.command.Command.TheVariants.{Title as TitleCommand}
use Rattle.pl_step.specs.declared.command.Command.TheVariants.{Page as PageCommand}
use Rattle.pl_step.specs.declared.command.Command.TheVariants.{Origin as OriginCommand}
use Rattle.pl_step.specs.declared.command.Command.TheVariants.{Stats as StatsCommand}
use Rattle.pl_step.specs.declared.command.Command.TheVariants.{Unvisit as UnvisitCommand}
use Rattle.pl_step.specs.declared.command.Command.TheVariants.{Forget as ForgetCommand}
use Rattle.pl_step.specs.declared.command.Command.TheVariants.{Expire as ExpireCommand}
use Rattle.pl_step.specs.declared.command.Command.TheVariants.{Trim as TrimCommand}
use Rattle.pl_step.specs.declared.command.Command.TheVariants.{Folder as FolderCommand}
use Rattle.pl_step.specs.declared.command.Command.TheVariants.{Bookmark as BookmarkCommand}
use Rattle.pl_step.specs.declared.command.Command.TheVariants.{Separator as SeparatorCommand}
use Rattle.pl_step.specs.declared.command.Command.TheVariants.{Move as MoveCommand}
use Rattle.pl_step.specs.declared.command.Command.TheVariants.{Retitle as RetitleCommand}
use Rattle.pl_step.specs.declared.command.Command.TheVariants.{Remove as RemoveCommand}
use Rattle.pl_step.specs.declared.command.Command.TheVariants.{List as ListCommand}
use Rattle.pl_step.specs.declared.command.Command.TheVariants.{Tag as TagCommand}
use Rattle.pl_step.specs.declared.command.Command.TheVariants.{Untag as UntagCommand}
use Rattle.pl_step.specs.declared.command.Command.TheVariants.{Query as QueryCommand}
use Rattle.pl_step.specs.declared.command.Command.TheVariants.{Place as PlaceCommand}
use Rattle.pl_step.specs.declared.command.Command.TheVariants.{Bar as BarCommand}
use Rattle.pl_step.specs.declared.command.Command.TheVariants.{Fill as FillCommand}
use Rattle.pl_step.specs.declared.command.Command.TheVariants.{Import as ImportCommand}
use Rattle.pl_step.specs.declared.command.Command.TheVariants.{Restore as RestoreCommand}

-- a URL as the store has it
abbrev pub IsUrl : List ℕ → Type 0
IsUrl url = canon url ≡ Some url

-- a node has such a URL, if any, and a title in UTF-8
abbrev pub HasNodeTexts : Node → Type 0
HasNodeTexts node = IfSome node.url IsUrl × IsUtf8 node.title

-- the nodes of a tree have
pub record HasTreeTexts (tree : Tree) : Type 0 where
  pub menu : All HasNodeTexts tree.menu
  pub toolbar : All HasNodeTexts tree.toolbar
  pub unfiled : All HasNodeTexts tree.unfiled
  pub mobile : All HasNodeTexts tree.mobile

-- what a command may put into a store
abbrev pub HasTexts : Command → Type 0
HasTexts (DayCommand day) = Unit {0}
HasTexts (VisitCommand url transition date source) = IsUrl url
HasTexts (TitleCommand url text) = IsUtf8 text
HasTexts (PageCommand url) = Unit {0}
HasTexts (OriginCommand url) = Unit {0}
HasTexts StatsCommand = Unit {0}
HasTexts (UnvisitCommand visit) = Unit {0}
HasTexts (ForgetCommand url) = Unit {0}
HasTexts (ExpireCommand day) = Unit {0}
HasTexts (TrimCommand most) = Unit {0}
HasTexts (FolderCommand parent place title date) = IsUtf8 title
HasTexts (BookmarkCommand parent place url title date) = IsUrl url × IsUtf8 title
HasTexts (SeparatorCommand parent place date) = Unit {0}
HasTexts (MoveCommand item parent place date) = Unit {0}
HasTexts (RetitleCommand item title date) = IsUtf8 title
HasTexts (RemoveCommand item) = Unit {0}
HasTexts (ListCommand item) = Unit {0}
HasTexts (TagCommand url name date) = IsUrl url × IsTagName name
HasTexts (UntagCommand url name) = Unit {0}
HasTexts (QueryCommand query) = Unit {0}
HasTexts (PlaceCommand query) = Unit {0}
HasTexts (BarCommand most text) = Unit {0}
HasTexts (FillCommand text) = Unit {0}
HasTexts (ImportCommand tree) = HasTreeTexts tree
HasTexts (RestoreCommand tree) = HasTreeTexts tree

-- an entry of a script is refused, or is a command that holds what its types promise
abbrev pub IsEntry : Parsed Command → Type 0
IsEntry entry = IfOk entry (λ command. HasDates command × HasTexts command)

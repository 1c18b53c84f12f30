-- What the bytes of an input bring into a store: the tree of a bookmark file, or that of a backup.
use Rattle.std.specs.Prelude.{◌≡◌, ⊤, ℕ, List, Some, None, Result, Ok, Err}
use Rattle.pl_backup.specs.BackupTree.{backup_tree, empty_tree}
use Rattle.pl_backup.specs.declared.error.BackupError.{BackupError}
use Rattle.pl_backup.specs.declared.error.BackupError.TheVariants as backup
use Rattle.pl_backup.specs.declared.error.Fault.{Fault}
use Rattle.pl_intake.specs.declared.error.IntakeError.{IntakeError}
use Rattle.pl_intake.specs.declared.error.IntakeError.TheVariants.{NotBookmarks, NotBackup, NoMemory}
use Rattle.pl_intake.specs.declared.intake.Intake.{Intake}
use Rattle.pl_intake.specs.declared.intake.Intake.TheVariants.{Import, Restore}
use Rattle.pl_nbread.specs.BookmarkFile.{offset}
use Rattle.pl_nbread.specs.BookmarkTree.{tree_of}
use Rattle.pl_nbread.specs.declared.reader.ReadError.{ReadError}
use Rattle.pl_nbread.specs.declared.reader.ReadError.TheVariants as bookmarks
use Rattle.pl_nbread.specs.declared.tree.Tree.{Tree}
use Rattle.pl_step.specs.declared.command.Command.{Command}
use Rattle.pl_step.specs.declared.command.Command.TheVariants as commands

-- ---- the tree

-- the tree of a backup, or one without bookmarks where there is none
abbrev pub tree_or_empty : Result Tree Fault → Tree
tree_or_empty (Ok tree) = tree
tree_or_empty (Err fault) = empty_tree

-- the tree that the bytes hold
abbrev pub tree_in : Intake → List ℕ → Tree
tree_in Import bytes = tree_of bytes
tree_in Restore bytes = tree_or_empty (backup_tree bytes)

-- the bytes hold a tree: they are a bookmark file, or a backup
abbrev pub HoldsTree : Intake → List ℕ → Type 0
HoldsTree Import bytes = offset bytes ≡ None
HoldsTree Restore bytes = backup_tree bytes ≡ Ok (tree_in Restore bytes)

-- why they hold none; memory may be short whatever they hold
abbrev pub HoldsNone : Intake → List ℕ → IntakeError → Type 0
HoldsNone intake bytes (NotBookmarks at) = (intake ≡ Import) × (offset bytes ≡ Some at)
HoldsNone intake bytes (NotBackup fault) = (intake ≡ Restore) × (backup_tree bytes ≡ Err fault)
HoldsNone intake bytes NoMemory = ⊤

-- why a bookmark file was not read
abbrev pub bookmarks_error : ReadError → IntakeError
bookmarks_error (bookmarks.NotBookmarks at) = NotBookmarks at
bookmarks_error bookmarks.NoMemory = NoMemory

-- why a backup was not read
abbrev pub backup_error : BackupError → IntakeError
backup_error (backup.NotBackup fault) = NotBackup fault
backup_error backup.NoMemory = NoMemory

-- ---- the command

-- the command that brings a tree in
abbrev pub tree_command : Intake → Tree → Command
tree_command Import tree = commands.Import tree
tree_command Restore tree = commands.Restore tree

-- the command that brings in the tree that the bytes hold
abbrev pub intake_of : Intake → List ℕ → Command
intake_of intake bytes = tree_command intake (tree_in intake bytes)

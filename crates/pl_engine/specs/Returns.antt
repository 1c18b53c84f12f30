-- Bookmarks that an import brings back.
use Rattle.std.specs.Prelude.{◌≡◌, ℕ, false}
use Rattle.pl_base.specs.Store.{opening}
use Rattle.pl_nbread.specs.declared.tree.Tree.{Tree}
use Rattle.pl_outline.specs.Outline.{bookmarks}
use Rattle.pl_step.specs.declared.command.Command.TheVariants.{Import}
use Rattle.pl_step.specs.Refused.{is_refused}
use Rattle.pl_step.specs.Step.{perform}

-- an import of the tree into the store before its first command, unless it is refused, gives a
-- store with the same bookmarks
abbrev pub Returns : ℕ → Tree → Type 0
Returns limit tree =
    is_refused (perform limit opening (Import tree)).0 ≡ false
    → bookmarks (perform limit opening (Import tree)).1 ≡ tree

-- The trees that a file keeps whole.
use Rattle.std.specs.Prelude.{◌≡◌, ◌*◌, ◌/◌, ◌==◌, ◌&&◌, Bool, true, length}
use Rattle.std.specs.List.{All}
use Rattle.std.specs.Str.{is_utf8}
use Rattle.pl_base.specs.declared.date.Micros.{Micros}
use Rattle.pl_base.specs.declared.item.ItemKind.{ItemKind}
use Rattle.pl_base.specs.declared.item.ItemKind.TheVariants.{Bookmark, Folder, Separator}
use Rattle.pl_nbread.specs.declared.tree.Node.{Node}
use Rattle.pl_nbread.specs.declared.tree.Tree.{Tree}
use Rattle.pl_nbread.specs.Listed.{AreListed, IsOwn}

-- a date has whole seconds
abbrev pub is_whole : Micros → Bool
is_whole date = date.0 / 1_000_000 * 1_000_000 == date.0

-- a separator has nothing but its place, and no folder has tags
abbrev pub is_bare : ItemKind → Node → Bool
is_bare Bookmark node = true
is_bare Folder node = length node.tags == 0
is_bare Separator node =
    (length node.tags == 0) && (length node.title == 0) && (node.added.0 == 0)
    && (node.modified.0 == 0)

-- a node that its line keeps
pub record IsKept (node : Node) : Type 0 where
  pub added : is_whole node.added ≡ true
  pub modified : is_whole node.modified ≡ true
  pub bare : is_bare node.kind node ≡ true
  pub title : is_utf8 node.title ≡ true
  pub url : IsOwn node.url

-- a tree that its file keeps
pub record IsPlain (tree : Tree) : Type 0 where
  pub listed : AreListed tree
  pub menu : All IsKept tree.menu
  pub toolbar : All IsKept tree.toolbar
  pub unfiled : All IsKept tree.unfiled
  pub mobile : All IsKept tree.mobile
  pub skipped : tree.skipped ≡ 0

-- What holds of the whole tree of every store.
use Rattle.std.specs.Prelude.{◌≡◌, true, false, []}
use Rattle.std.specs.List.{All}
use Rattle.std.specs.Str.{is_utf8}
use Rattle.pl_nbread.specs.declared.tree.Node.{Node}
use Rattle.pl_nbread.specs.declared.tree.Tree.{Tree}
use Rattle.pl_nbread.specs.Listed.{AreListed, IsOwn}
use Rattle.pl_nbread.specs.WellFormed.{is_bookmark}

-- the title of a node is a text, its URL names itself, and only a bookmark has tags
pub record IsWholeNode (node : Node) : Type 0 where
  pub title : is_utf8 node.title ≡ true
  pub url : IsOwn node.url
  pub tags : is_bookmark node.kind ≡ false → node.tags ≡ []

-- a tree in preorder, of such nodes, from which nothing was left out
pub record IsWhole (tree : Tree) : Type 0 where
  pub listed : AreListed tree
  pub menu : All IsWholeNode tree.menu
  pub toolbar : All IsWholeNode tree.toolbar
  pub unfiled : All IsWholeNode tree.unfiled
  pub mobile : All IsWholeNode tree.mobile
  pub skipped : tree.skipped ≡ 0

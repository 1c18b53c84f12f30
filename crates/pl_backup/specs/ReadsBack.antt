-- Trees that a backup keeps: read back, they are what they were.
use Rattle.std.specs.Prelude.{◌≡◌, ℕ, Bool, true, false, List, [], nat_le}
use Rattle.std.specs.List.{All, list_all}
use Rattle.std.specs.Str.{is_utf8}
use Rattle.pl_nbread.specs.declared.tree.Node.{Node}
use Rattle.pl_nbread.specs.declared.tree.Tree.{Tree}
use Rattle.pl_nbread.specs.Listed.{IsListed, IsOwn}
use Rattle.pl_nbread.specs.WellFormed.{is_bookmark}

-- no node stands deeper: of objects and arrays in one another 127 are read, and a folder here ends
-- 126 of them
abbrev pub deepest : ℕ
deepest = 60

abbrev pub is_shallow : Node → Bool
is_shallow node = nat_le node.depth deepest

-- the title is a text, the URL names itself, and only a bookmark has tags
pub record HasTexts (node : Node) : Type 0 where
  pub title : is_utf8 node.title ≡ true
  pub url : IsOwn node.url
  pub tags : is_bookmark node.kind ≡ false → node.tags ≡ []

-- a list in preorder of such nodes, none of them too deep
pub record IsKept (nodes : List Node) : Type 0 where
  pub listed : IsListed nodes
  pub shallow : list_all is_shallow nodes ≡ true
  pub texts : All HasTexts nodes

-- four such lists, from which nothing was left out
pub record KeepsInJson (tree : Tree) : Type 0 where
  pub menu : IsKept tree.menu
  pub toolbar : IsKept tree.toolbar
  pub unfiled : IsKept tree.unfiled
  pub mobile : IsKept tree.mobile
  pub skipped : tree.skipped ≡ 0

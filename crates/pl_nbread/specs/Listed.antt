-- Trees whose lists are in preorder, and URLs that name themselves: what a text of a tree needs.
use Rattle.std.specs.Prelude.{◌≡◌, ⊤, ℕ, true, List, Option, Some, None}
use Rattle.std.specs.List.{list_all}
use Rattle.std.specs.Str.{is_utf8}
use Rattle.pl_base.specs.Address.{canon}
use Rattle.pl_nbread.specs.declared.tree.Node.{Node}
use Rattle.pl_nbread.specs.declared.tree.Tree.{Tree}
use Rattle.pl_nbread.specs.WellFormed.{begins, goes_on, is_formed}

-- a list of nodes in preorder, whatever its number of tags
pub record IsListed (nodes : List Node) : Type 0 where
  pub begins : begins nodes ≡ true
  pub goes_on : goes_on nodes ≡ true
  pub formed : list_all is_formed nodes ≡ true

-- the four lists of a tree are
pub record AreListed (tree : Tree) : Type 0 where
  pub menu : IsListed tree.menu
  pub toolbar : IsListed tree.toolbar
  pub unfiled : IsListed tree.unfiled
  pub mobile : IsListed tree.mobile

-- a URL names itself
abbrev pub IsOwn : Option (List ℕ) → Type 0
IsOwn None = ⊤
IsOwn (Some url) = (is_utf8 url ≡ true) × (canon url ≡ Some url)

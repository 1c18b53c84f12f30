-- What holds of the lists of every tree of bookmarks.
use Rattle.std.specs.Prelude.{◌≡◌, ◌<◌, ◌+◌, ◌==◌, ◌&&◌, ◌||◌, ◌^◌, Bool, true, false, not}
use Rattle.std.specs.Prelude.{List, [], ◌∷◌, length, map, nat_le, is_some, if◌then◌else◌}
use Rattle.std.specs.List.{list_all, sum}
use Rattle.pl_base.specs.declared.date.Micros.{Micros}
use Rattle.pl_base.specs.declared.item.ItemKind.{ItemKind}
use Rattle.pl_base.specs.declared.item.ItemKind.TheVariants.{Bookmark, Folder, Separator}
use Rattle.pl_base.specs.Date.{last_date}
use Rattle.pl_words.specs.TagLists.{each_once, is_same_tag}
use Rattle.pl_words.specs.TagName.{is_tag_name}
use Rattle.pl_nbread.specs.declared.tree.Node.{Node}
use Rattle.pl_nbread.specs.declared.tree.Tree.{Tree}

abbrev pub is_folder : ItemKind → Bool
is_folder Bookmark = false
is_folder Folder = true
is_folder Separator = false

abbrev pub is_bookmark : ItemKind → Bool
is_bookmark Bookmark = true
is_bookmark Folder = false
is_bookmark Separator = false

-- the first node is a child of the root
abbrev pub begins : List Node → Bool
begins [] = true
begins (node ∷ nodes) = node.depth == 0

-- a node may stand behind another: not deeper, or as a child of that folder
abbrev pub may_follow : Node → Node → Bool
may_follow a b = nat_le b.depth a.depth || is_folder a.kind && b.depth == a.depth + 1

-- each node may stand behind the one before it
abbrev pub goes_on : List Node → Bool
goes_on [] = true
goes_on (node ∷ []) = true
goes_on (a ∷ b ∷ nodes) = may_follow a b && goes_on (b ∷ nodes)

abbrev pub is_date : Micros → Bool
is_date date = nat_le date.0 last_date

-- a node has a URL exactly where it is a bookmark, its dates are in range, and its tags are names
-- of tags, each once
abbrev pub is_formed : Node → Bool
is_formed node =
    (if is_bookmark node.kind then is_some node.url else not (is_some node.url))
    && is_date node.added && is_date node.modified
    && list_all is_tag_name node.tags && each_once is_same_tag node.tags

-- a list of nodes in preorder is well formed
pub record IsWellFormed (nodes : List Node) : Type 0 where
  pub begins : begins nodes ≡ true
  pub goes_on : goes_on nodes ≡ true
  pub formed : list_all is_formed nodes ≡ true
  pub few_tags : sum (map (λ (n : Node). length n.tags) nodes) < 2 ^ 32

-- the four lists of a tree are
pub record AreWellFormed (tree : Tree) : Type 0 where
  pub menu : IsWellFormed tree.menu
  pub toolbar : IsWellFormed tree.toolbar
  pub unfiled : IsWellFormed tree.unfiled
  pub mobile : IsWellFormed tree.mobile

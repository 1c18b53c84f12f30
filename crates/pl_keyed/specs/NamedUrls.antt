-- The URLs that a tree of bookmarks names.
use Rattle.std.specs.Prelude.{◌||◌, ℕ, Bool, false, List, Option, None, Some, bytes_eq}
use Rattle.std.specs.List.{list_any}
use Rattle.pl_nbread.specs.declared.tree.Node.{Node}
use Rattle.pl_nbread.specs.declared.tree.Tree.{Tree}

-- the address is there, and is this one
abbrev pub is_url : List ℕ → Option (List ℕ) → Bool
is_url url None = false
is_url url (Some other) = bytes_eq other url

-- a node of the list has the URL
abbrev pub has_url : List Node → List ℕ → Bool
has_url nodes url = list_any (λ (n : Node). is_url url n.url) nodes

-- a node of the tree has the URL
abbrev pub is_named : Tree → List ℕ → Bool
is_named tree url =
    has_url tree.menu url || has_url tree.toolbar url || has_url tree.unfiled url
    || has_url tree.mobile url

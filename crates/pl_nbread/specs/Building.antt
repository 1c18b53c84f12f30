-- What a tree that is being built will be with the parts to come.
use Rattle.std.specs.Prelude.{◌≡◌, ◌≤◌, ◌+◌, ℕ, List, [], ◌∷◌, ◌++◌, reverse, unwrap_or}
use Rattle.std.specs.Prelude.{Option, Some, None}
use Rattle.std.specs.List.{AllByRecursion}
use Rattle.std.specs.Option.{IfSome}
use Rattle.std.specs.String.{string_bytes}
use Rattle.pl_nbread.specs.declared.builder.Builder.{Builder}
use Rattle.pl_nbread.specs.declared.builder.Titled.{Titled}
use Rattle.pl_nbread.specs.declared.open_list.OpenList.{OpenList}
use Rattle.pl_nbread.specs.declared.open_list.Root.{Root}
use Rattle.pl_nbread.specs.declared.open_list.Root.TheVariants.{Menu, Toolbar, Unfiled, Mobile}
use Rattle.pl_nbread.specs.declared.tree.Node.{Node}
use Rattle.pl_nbread.specs.declared.tree.Tree.{Tree}
use Rattle.pl_nbread.specs.BookmarkTree.{Made, Child, bookmark_if, folder_unless, inside}
use Rattle.pl_nbread.specs.BookmarkTree.{nodes_in, root_at, separator, skipped_in, title_in, url}
use Rattle.pl_nbread.specs.Parts.{Part, Heading, Link, ListStart, ListEnd, Rule, TitleEnd, Words}
use Rattle.pl_nbread.specs.Parts.{Other}

-- the text of the parts up to the next at which a title ends
abbrev pub title_ahead : List Part → List ℕ
title_ahead [] = []
title_ahead (Words text ∷ parts) = text ++ title_ahead parts
title_ahead (Other ∷ parts) = title_ahead parts
title_ahead (Heading attributes ∷ parts) = []
title_ahead (Link attributes ∷ parts) = []
title_ahead (ListStart ∷ parts) = []
title_ahead (ListEnd ∷ parts) = []
title_ahead (Rule ∷ parts) = []
title_ahead (TitleEnd ∷ parts) = []

-- what parts make in this list, with others open around it, from the innermost on
abbrev pub made_within : OpenList → List OpenList → Option OpenList → List Part → List Made
made_within here outer pending [] = []
made_within here outer pending (ListStart ∷ parts) =
    made_within (unwrap_or pending here) (here ∷ outer) None parts
made_within here [] pending (ListEnd ∷ parts) = made_within here [] None parts
made_within here (around ∷ outer) pending (ListEnd ∷ parts) = made_within around outer None parts
made_within here outer pending (Heading attributes ∷ parts) =
    folder_unless (root_at here attributes) here attributes (title_in (title_ahead parts))
    ++ made_within here outer (Some (inside here attributes)) parts
made_within here outer pending (Link attributes ∷ parts) =
    bookmark_if (url attributes) here attributes (title_in (title_ahead parts))
    ∷ made_within here outer None parts
made_within here outer pending (Rule ∷ parts) =
    Child here.root (separator here) ∷ made_within here outer None parts
made_within here outer pending (TitleEnd ∷ parts) = made_within here outer pending parts
made_within here outer pending (Words text ∷ parts) = made_within here outer pending parts
made_within here outer pending (Other ∷ parts) = made_within here outer pending parts

-- the node whose title is being read, with what is still to come of it
abbrev pub titled : Option Titled → List ℕ → List Part → List Made
titled None title parts = []
titled (Some node) title parts =
    Child node.root (record node.node { title = title_in (title ++ title_ahead parts) }) ∷ []

-- what a builder makes of the parts to come
abbrev pub still_made : Builder → List Part → List Made
still_made builder parts =
    titled builder.titled (string_bytes builder.title) parts
    ++ made_within builder.here (reverse builder.outer.items) builder.pending parts

-- the tree, where this is made behind what stands in a builder's lists
abbrev pub grown : Builder → List Made → Tree
grown builder all =
    record {
      menu = builder.menu.items ++ nodes_in Menu all;
      toolbar = builder.toolbar.items ++ nodes_in Toolbar all;
      unfiled = builder.unfiled.items ++ nodes_in Unfiled all;
      mobile = builder.mobile.items ++ nodes_in Mobile all;
      skipped = builder.skipped + skipped_in all;
    }

-- the tree in the end
abbrev pub yields : Builder → List Part → Tree
yields builder parts = grown builder (still_made builder parts)

-- where the next child stands, and how many bookmarks were left out, is as it was
pub record StaysAt (before after : Builder) : Type 0 where
  pub skipped : after.skipped ≡ before.skipped
  pub here : after.here ≡ before.here
  pub outer : after.outer.items ≡ before.outer.items
  pub pending : after.pending ≡ before.pending

-- a node came into the list of a root
pub record Adds (root : Root) (node : Node) (before after : Builder) : Type 0 where
  pub lists : (all : List Made) → grown after all ≡ grown before (Child root node ∷ all)
  pub titled : after.titled ≡ before.titled
  pub title : string_bytes after.title ≡ string_bytes before.title
  pub stays : StaysAt before after

-- a title ended
pub record Closes (before after : Builder) : Type 0 where
  pub tree : (parts : List Part) → title_ahead parts ≡ [] → yields after parts ≡ yields before parts
  pub titled : after.titled ≡ None
  pub title : string_bytes after.title ≡ []
  pub stays : StaysAt before after

-- within this the next part finds room: no depth and no count passes 32 bits
abbrev pub most_parts : ℕ
most_parts = 4_294_967_294

-- no open list is deeper than this, and no more bookmarks are left out
pub record IsWithin (n : ℕ) (builder : Builder) : Type 0 where
  pub skipped : builder.skipped ≤ n
  pub here : builder.here.depth ≤ n
  pub outer : AllByRecursion (λ (p : OpenList). p.depth ≤ n) builder.outer.items
  pub pending : IfSome builder.pending (λ (p : OpenList). p.depth ≤ n)

-- What of a node an import puts into a row of its own, and what it puts into tags.
use Rattle.std.proofs.Common.{◌≡◌, ◌≢◌, ◌<◌, List, [], ℕ, Option, Some, None, map}
use Rattle.std.specs.List.{All, AllPairs}
use Rattle.std.specs.List.Sorted.{IsStrictlyIncreasing}
use Rattle.pl_base.specs.declared.id.ItemId.{ItemId}
use Rattle.pl_base.specs.Good.{IsTitle}
use Rattle.pl_base.specs.Store.{Page, Store, item_id}
use Rattle.pl_base.specs.Tags.{page_tags}
use Rattle.pl_base.specs.Visiting.{page_for}
use Rattle.pl_nbread.specs.declared.tree.Node.{Node}
use Rattle.pl_nbread.specs.declared.tree.Tree.{Tree}
use Rattle.pl_nbread.specs.Listed.{IsListed}
use Rattle.pl_outline.specs.Outline.{all_below, whole_node}

-- a node without its tags
abbrev pub bare : Node → Node
bare node = record node { tags = [] }

-- a tree with these nodes in each root, and with nothing left out
abbrev pub tree_of : (ItemId → List Node) → Tree
tree_of nodes =
    record {
      menu = nodes (item_id 2);
      toolbar = nodes (item_id 3);
      unfiled = nodes (item_id 5);
      mobile = nodes (item_id 6);
      skipped = 0;
    }

pub trees_alike : (a b : ItemId → List Node) → ((root : ItemId) → a root ≡ b root) → tree_of a ≡ tree_of b
trees_alike a b alike = λ i. tree_of (λ root. alike root i)

-- all of what stands below a root
abbrev pub whole_below : Store → ItemId → List Node
whole_below store root = all_below (whole_node store) store.items root

-- the tags of the page with an address
abbrev pub url_tags : Store → Option (List ℕ) → List (List ℕ)
url_tags store None = []
url_tags store (Some url) = page_tags store (page_for store url).id

-- a node with the tags that a store has for its address
abbrev pub retagged : Store → Node → Node
retagged store node = record node { tags = url_tags store node.url }

-- pages have ascending ids below the next one, and no two the same URL
pub record HasPages (store : Store) : Type 0 where
  pub ascending : IsStrictlyIncreasing (map (λ (p : Page). p.id.0) store.pages)
  pub below : All (λ (p : Page). p.id.0 < store.ids.page) store.pages
  pub urls : AllPairs (λ (p q : Page). p.url ≢ q.url) store.pages

-- nodes that a store keeps as they are
pub record AreStorable (nodes : List Node) : Type 0 where
  pub listed : IsListed nodes
  pub titles : All (λ (n : Node). IsTitle n.title) nodes

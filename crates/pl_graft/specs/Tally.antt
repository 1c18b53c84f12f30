-- What a tally of an import stands for, and how far it counts.
use Rattle.std.specs.Prelude.{◌≡◌, ◌<◌, ◌≤◌, ◌+◌, ◌*◌, ◌^◌, ℕ, List, length}
use Rattle.std.specs.List.{sum_by}
use Rattle.pl_base.specs.Live.{live_slots}
use Rattle.pl_base.specs.Store.{Store}
use Rattle.pl_nbread.specs.declared.tree.Node.{Node}
use Rattle.pl_keyed.specs.KnownPages.{KnowsPages}
use Rattle.pl_keyed.specs.KnownTags.{KnowsTags}
use Rattle.pl_keyed.specs.TagRows.{tag_rows}
use Rattle.pl_graft.specs.declared.cost.Tally.{Tally}
use Rattle.pl_graft.specs.Ready.{IsReady}

-- the tally knows the pages and tags of the store, its slots and its next ids
pub record IsTallyOf (tally : Tally) (store : Store) : Type 0 where
  pub pages : KnowsPages tally.pages store.pages
  pub tags : KnowsTags tally.tags (tag_rows store.items)
  pub live : tally.live ≡ live_slots store
  pub page : tally.next_page ≡ store.ids.page
  pub item : tally.next_item ≡ store.ids.item
  pub ready : IsReady store

-- ---- how far it counts

-- what the tally has counted to
abbrev pub size : Tally → ℕ
size tally = tally.live + tally.next_page + tally.next_item

-- the tally may count so much more
abbrev pub CanCount : ℕ → Tally → Type 0
CanCount more tally = size tally + more < 2 ^ 62

-- no more than so much was counted
abbrev pub CountsAtMost : ℕ → Tally → Tally → Type 0
CountsAtMost more old new = size new ≤ size old + more

-- no page counts more, with its URL and its origin
abbrev pub page_weight : ℕ
page_weight = 550

-- no tag counts more
abbrev pub tag_weight : ℕ
tag_weight = 5

-- no node counts more, with its page, its title and its tags
abbrev pub node_weight : Node → ℕ
node_weight node = 600 + tag_weight * length node.tags

-- no list of nodes counts more
abbrev pub weight : List Node → ℕ
weight nodes = sum_by node_weight nodes

-- no tree counts more
abbrev pub tree_weight : ℕ
tree_weight = 2 ^ 38

-- no page that is spared counts more
abbrev pub spared_weight : ℕ
spared_weight = 600

-- a store without pages counts no more
abbrev pub first_weight : ℕ
first_weight = 2 ^ 34

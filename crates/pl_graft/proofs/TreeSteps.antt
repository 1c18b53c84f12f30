-- The four lists of a tree, counted one behind another.
use Rattle.std.proofs.Common.{◌≡◌, ◌≤◌, ◌+◌, ◌-◌, ◌*◌, ◌^◌, ◌⊎◌, ℕ, List, [], ◌∷◌, arith, length, map, refl, subst}
use Rattle.std.specs.List.{sum}
use Rattle.std.proofs.lemmas.List.Sums.{sum_by-cons}
use Rattle.pl_base.specs.declared.id.ItemId.{ItemId}
use Rattle.pl_base.specs.Store.{Store, item_id}
use Rattle.pl_nbread.specs.declared.tree.Node.{Node}
use Rattle.pl_nbread.specs.declared.tree.Tree.{Tree}
use Rattle.pl_nbread.specs.WellFormed.{AreWellFormed, IsWellFormed}
use Rattle.pl_graft.specs.declared.cost.Tally.{Tally}
use Rattle.pl_graft.specs.Import.{imported, most_rows, row_count, with_list}
use Rattle.pl_graft.specs.Ready.{Takes}
use Rattle.pl_graft.specs.Tally.{IsTallyOf, node_weight, tree_weight, weight}
use Rattle.pl_graft.proofs.Ready.{takes_root}
use Rattle.pl_graft.proofs.Slots.{IsAtMost, at_most_list, at_most_then}

-- ---- how far they count

weight_is : (nodes : List Node)
    → weight nodes ≡ 600 * length nodes + 5 * sum (map (λ (n : Node). length n.tags) nodes)
weight_is [] = refl
weight_is (node ∷ nodes) =
    omega (
      arith,
      weight_is nodes,
      sum_by-cons node_weight node nodes,
      sum_by-cons (λ (n : ℕ). n) (length node.tags) (map (λ (n : Node). length n.tags) nodes),
    )

light : (nodes : List Node) → IsWellFormed nodes → weight nodes ≤ 600 * length nodes + 5 * 2 ^ 32
light nodes f = omega (arith, weight_is nodes, f.few_tags)

-- the lists of a tree
pub light_tree : (tree : Tree) → AreWellFormed tree → row_count tree ≤ most_rows
    → weight tree.menu + weight tree.toolbar + weight tree.unfiled + weight tree.mobile ≤ tree_weight
light_tree tree f few =
    omega (
      arith,
      few,
      light tree.menu f.menu,
      light tree.toolbar f.toolbar,
      light tree.unfiled f.unfiled,
      light tree.mobile f.mobile,
    )

-- ---- one list

-- the list of a root is counted
pub counted_list : (old new : Tally) (store : Store) (n : ℕ) (nodes slice : List Node) → slice ≡ nodes
    → IsTallyOf old store → ((n ≡ 2) ⊎ (n ≡ 3) ⊎ (n ≡ 5) ⊎ (n ≡ 6))
    → ((store : Store) (root : ItemId) → IsTallyOf old store → Takes store root
    → IsTallyOf new (with_list root slice store))
    → IsTallyOf new (with_list (item_id n) nodes store)
counted_list old new store n nodes slice same t which list =
    subst (λ (ns : List Node). IsTallyOf new (with_list (item_id n) ns store)) same
    (list store (item_id n) t (takes_root store n t.ready which))

-- ---- the whole

pub at_most_imported : (tree : Tree) (store : Store) → IsAtMost store (imported tree store)
at_most_imported tree store =
    let menu : Store = with_list (item_id 2) tree.menu store in
    let toolbar : Store = with_list (item_id 3) tree.toolbar menu in
    let unfiled : Store = with_list (item_id 5) tree.unfiled toolbar in
    at_most_then store menu (imported tree store) (at_most_list store (item_id 2) tree.menu)
    (at_most_then menu toolbar (imported tree store) (at_most_list menu (item_id 3) tree.toolbar)
    (at_most_then toolbar unfiled (imported tree store) (at_most_list toolbar (item_id 5) tree.unfiled)
    (at_most_list unfiled (item_id 6) tree.mobile)))

-- the tally of the whole tells how many pages and items are new
module _ (tally : Tally) (tree : Tree) (store : Store) (t : IsTallyOf tally (imported tree store)) where
  pub pages_counted : (first : ℕ) → first ≡ store.ids.page
      → (first ≤ tally.next_page)
      × (store.ids.page + (tally.next_page - first) ≡ (imported tree store).ids.page)
  pages_counted first is =
      let most : IsAtMost store (imported tree store) = at_most_imported tree store in
      (omega (arith, t.page, most.page), omega (arith, t.page, most.page))

  pub items_counted : (first : ℕ) → first ≡ store.ids.item
      → (first ≤ tally.next_item)
      × (store.ids.item + (tally.next_item - first) ≡ (imported tree store).ids.item)
  items_counted first is =
      let most : IsAtMost store (imported tree store) = at_most_imported tree store in
      (omega (arith, t.item, most.item), omega (arith, t.item, most.item))

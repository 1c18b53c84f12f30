-- How many items there are, and how many of them are children.
use Rattle.std.proofs.Common.{◌≡◌, ◌+◌, ◌<◌, ◌≤◌, ◌==◌, ◌∙◌, ◌++◌, ℕ, Bool, true, false, cond, List, [], ◌∷◌, Option}
use Rattle.std.proofs.Common.{Some, None, ap, arith, filter, length, length-append, map, refl}
use Rattle.std.specs.List.{AllByRecursion, flat_map}
use Rattle.std.proofs.lemmas.Bool.Decides.{nat_tests}
use Rattle.std.proofs.lemmas.List.{length-map}
use Rattle.std.proofs.lemmas.List.Folds.{flat_map-map}
use Rattle.pl_base.specs.declared.id.ItemId.{ItemId}
use Rattle.pl_base.specs.Good.{child_ids}
use Rattle.pl_base.specs.Store.{Item}
use Rattle.pl_items.specs.declared.node.Node.{Node}
use Rattle.pl_items.specs.Nodes.{AreNodes, by_id, child_nodes, is_parent, item_of, items_of}
use Rattle.pl_items.proofs.IdOrder.{Ascends, by_id-ascends, length-by_id}
use Rattle.pl_items.proofs.Children.{distinct_nodes}

pub length-items_of : (ns : List Node) → length (items_of ns) ≡ length ns
length-items_of ns = length-map (by_id ns) (item_of ns) ∙ length-by_id ns

-- the children of all these, one list behind another
abbrev all_children : List Node → List Node → List ItemId
all_children all ms = flat_map (λ (m : Node). child_nodes all m.id) ms

abbrev parents_in : Option ItemId → List Node → List Node
parents_in parent ms = filter (λ (m : Node). is_parent m.id parent) ms

one_more : (n : Node) (ns ms : List Node)
    → length (all_children (n ∷ ns) ms) ≡ length (all_children ns ms) + length (parents_in n.parent ms)
one_more n ns [] = refl
one_more n ns (m ∷ ms) =
    let whole = length-append (child_nodes (n ∷ ns) m.id) (all_children (n ∷ ns) ms) in
    let rest = length-append (child_nodes ns m.id) (all_children ns ms) in
    choose (is_parent m.id n.parent) refl (one_more n ns ms)
  where
    choose : (b : Bool) → is_parent m.id n.parent ≡ b
        → length (all_children (n ∷ ns) ms) ≡ length (all_children ns ms) + length (parents_in n.parent ms)
        → length (map (λ (x : Node). x.id) (cond b (n ∷ filter (λ (x : Node). is_parent m.id x.parent) ns)
        (filter (λ (x : Node). is_parent m.id x.parent) ns)) ++ all_children (n ∷ ns) ms)
        ≡ length (child_nodes ns m.id ++ all_children ns ms)
        + length (cond b (m ∷ parents_in n.parent ms) (parents_in n.parent ms))
    choose true is more =
        omega (
          arith,
          more,
          length-append (n.id ∷ child_nodes ns m.id) (all_children (n ∷ ns) ms),
          length-append (child_nodes ns m.id) (all_children ns ms),
        )
    choose false is more =
        omega (
          arith,
          more,
          length-append (child_nodes ns m.id) (all_children (n ∷ ns) ms),
          length-append (child_nodes ns m.id) (all_children ns ms),
        )

none_above : (p : ItemId) (n : ℕ) (ms : List Node) → AllByRecursion (λ (m : Node). n < m.id.0) ms → p.0 ≡ n
    → length (parents_in (Some p) ms) ≡ 0
none_above p n [] above same = refl
none_above p n (m ∷ ms) above same =
    let other : (p.0 == m.id.0) ≡ false = grind (arith, nat_tests, same, above.0) in
    rw other (none_above p n ms above.1 same)

one_parent : (parent : Option ItemId) (ms : List Node) → Ascends ms → length (parents_in parent ms) ≤ 1
one_parent None [] ascends = omega arith
one_parent None (m ∷ ms) ascends = one_parent None ms ascends.1
one_parent (Some p) [] ascends = omega arith
one_parent (Some p) (m ∷ ms) ascends = choose (p.0 == m.id.0) refl (one_parent (Some p) ms ascends.1)
  where
    choose : (b : Bool) → (p.0 == m.id.0) ≡ b → length (parents_in (Some p) ms) ≤ 1
        → length (cond b (m ∷ parents_in (Some p) ms) (parents_in (Some p) ms)) ≤ 1
    choose true here rest =
        let same : p.0 ≡ m.id.0 = grind (arith, nat_tests, here) in
        omega (arith, none_above p m.id.0 ms ascends.0 same)
    choose false other rest = rest

no_more : (ns ms : List Node) → Ascends ms → length (all_children ns ms) ≤ length ns
no_more [] ms ascends = none ms
  where
    none : (xs : List Node) → length (all_children [] xs) ≤ 0
    none [] = omega arith
    none (x ∷ xs) = none xs
no_more (n ∷ ns) ms ascends =
    omega (arith, one_more n ns ms, one_parent n.parent ms ascends, no_more ns ms ascends)

-- each item is the child of one item at most
pub few_children : (ns : List Node) → AreNodes ns → length (child_ids (items_of ns)) ≤ length (items_of ns)
few_children ns are =
    omega (
      arith,
      length-items_of ns,
      ap length (flat_map-map (λ (i : Item). i.children) (item_of ns) (by_id ns)),
      no_more ns (by_id ns) (by_id-ascends ns (distinct_nodes ns are)),
    )

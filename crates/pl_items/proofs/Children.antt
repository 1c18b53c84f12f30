-- What the items of nodes are: each by its id, its children and its parent.
use Rattle.std.proofs.Common.{◌≡◌, ◌≢◌, ◌==◌, ◌∙◌, ◌||◌, ℕ, Bool, true, false, cond, List, [], ◌∷◌, Option, Some}
use Rattle.std.proofs.Common.{None, IfSome, ap, arith, filter, find, map, nat_lt, refl, suc, subst, sym}
use Rattle.std.specs.List.{AllByRecursion, AllPairs, list_any}
use Rattle.std.specs.Option.{option_and_then, option_map}
use Rattle.std.proofs.lemmas.Bool.{ne_eqb}
use Rattle.std.proofs.lemmas.Bool.Decides.{nat_tests}
use Rattle.std.proofs.lemmas.List.Elements.{All-from_recursion, recursion_from_All}
use Rattle.std.proofs.lemmas.List.Kept.{AllPairs-cons}
use Rattle.pl_base.specs.declared.id.ItemId.{ItemId}
use Rattle.pl_base.specs.declared.item.ItemRow.{ItemRow}
use Rattle.pl_base.specs.Store.{Item}
use Rattle.pl_base.specs.Tree.{children_of, has_child, has_item, item_at, item_row, item_title, parent_of}
use Rattle.pl_base.proofs.ItemLookUps.{same_item}
use Rattle.pl_base.proofs.ListLaws.{find-map, list_any-map, weaker}
use Rattle.pl_base.proofs.LookUps.{find-alike, found_holds, found_passes}
use Rattle.pl_items.specs.declared.node.Node.{Node}
use Rattle.pl_items.specs.Nodes.{AreNodes, by_id, child_nodes, has_node, in_id_order, is_parent, item_of, items_of}
use Rattle.pl_items.proofs.IdOrder.{Differs, Distinct, Lacks, find-by_id, has_id}

-- ---- what holds of nodes, by recursion

abbrev pub Parented : List Node → Node → Type 0
Parented all n = IfSome n.parent (λ id. has_node all id ≡ true)

pub distinct_in : (ns : List Node) → AllPairs (λ (n m : Node). n.id ≢ m.id) ns → Distinct ns
distinct_in [] pairs = tt
distinct_in (n ∷ ns) pairs = (
  weaker (λ (m : Node). n.id ≢ m.id) (Differs n.id) ns
      (λ m other same. other (ap (λ (k : ℕ). record { 0 = k }) (sym same)))
      (recursion_from_All (λ (m : Node). n.id ≢ m.id) ns
      (λ k d within. pairs 0 (suc k) d (omega arith) (omega arith))),
  distinct_in ns (λ i j d before within. pairs (suc i) (suc j) d (omega arith) (omega arith)),
)

pub pairs_from : (ns : List Node) → Distinct ns → AllPairs (λ (n m : Node). n.id ≢ m.id) ns
pairs_from [] distinct i j d before within = absurd (omega arith)
pairs_from (n ∷ ns) distinct i j d before within =
    AllPairs-cons (λ (a b : Node). a.id ≢ b.id) n ns
    (All-from_recursion (λ (m : Node). n.id ≢ m.id) ns
    (weaker (Differs n.id) (λ (m : Node). n.id ≢ m.id) ns (λ m other same. other (ap (λ (i : ItemId). i.0) (sym same)))
    distinct.0))
    (pairs_from ns distinct.1) i j d before within

pub distinct_nodes : (ns : List Node) → AreNodes ns → Distinct ns
distinct_nodes ns are = distinct_in ns are.distinct

pub parented_nodes : (ns : List Node) → AreNodes ns → AllByRecursion (Parented ns) ns
parented_nodes ns are = recursion_from_All (Parented ns) ns are.parents

pub are_nodes : (ns : List Node) → Distinct ns → AllByRecursion (Parented ns) ns → AreNodes ns
are_nodes ns distinct parented =
    record { distinct = pairs_from ns distinct; parents = All-from_recursion (Parented ns) ns parented }

-- ---- items by their ids

pub node_there : (id : ItemId) (ns : List Node) → has_node ns id ≡ true → find (has_id id) ns ≢ None
node_there id [] there none = absurd (cc)
node_there id (n ∷ ns) there none = choose (has_id id n) there none (node_there id ns)
  where
    choose : (b : Bool) → (b || has_node ns id) ≡ true → cond b (Some n) (find (has_id id) ns) ≡ None
        → (has_node ns id ≡ true → find (has_id id) ns ≢ None) → ⊥
    choose true t is rest = absurd (cc)
    choose false t is rest = rest t is

any-in_id_order : (p : Node → Bool) (n : Node) (ms : List Node) → list_any p (in_id_order n ms) ≡ list_any p (n ∷ ms)
any-in_id_order p n [] = refl
any-in_id_order p n (m ∷ ms) = choose (nat_lt n.id.0 m.id.0) (any-in_id_order p n ms)
  where
    swapped : (a b c : Bool) → (b || (a || c)) ≡ (a || (b || c))
    swapped true true c = refl
    swapped true false c = refl
    swapped false true c = refl
    swapped false false c = refl

    choose : (b : Bool) → list_any p (in_id_order n ms) ≡ list_any p (n ∷ ms)
        → list_any p (cond b (n ∷ m ∷ ms) (m ∷ in_id_order n ms)) ≡ list_any p (n ∷ m ∷ ms)
    choose true rest = refl
    choose false rest = ap (λ b. p m || b) rest ∙ swapped (p n) (p m) (list_any p ms)

any-by_id : (p : Node → Bool) (ns : List Node) → list_any p (by_id ns) ≡ list_any p ns
any-by_id p [] = refl
any-by_id p (n ∷ ns) = any-in_id_order p n (by_id ns) ∙ ap (λ b. p n || b) (any-by_id p ns)

pub has_item_is : (ns : List Node) (id : ItemId) → has_item (items_of ns) id ≡ has_node ns id
has_item_is ns id =
    list_any-map (λ (i : Item). i.id.0 == id.0) (item_of ns) (by_id ns) ∙ any-by_id (has_id id) ns

pub item_at_is : (ns : List Node) (id : ItemId) → AreNodes ns
    → item_at (items_of ns) id ≡ option_map (item_of ns) (find (has_id id) ns)
item_at_is ns id are =
    find-map (λ (i : Item). i.id.0 == id.0) (item_of ns) (by_id ns)
    ∙ ap (option_map (item_of ns)) (find-by_id id ns (distinct_nodes ns are))

pub item_title_is : (ns : List Node) (id : ItemId) → AreNodes ns
    → item_title (items_of ns) id ≡ option_map (λ (n : Node). n.title) (find (has_id id) ns)
item_title_is ns id are =
    ap (option_map (λ (i : Item). i.title)) (item_at_is ns id are) ∙ titled (find (has_id id) ns)
  where
    titled : (found : Option Node) → option_map (λ (i : Item). i.title) (option_map (item_of ns) found)
        ≡ option_map (λ (n : Node). n.title) found
    titled None = refl
    titled (Some n) = refl

-- ---- an item's children

-- no node has a parent that is none of the nodes
pub no_children : (all : List Node) (id : ItemId) (ns : List Node) → has_node all id ≡ false
    → AllByRecursion (Parented all) ns → child_nodes ns id ≡ []
no_children all id [] none parented = refl
no_children all id (n ∷ ns) none parented =
    rw (not_here n.parent parented.0) (no_children all id ns none parented.1)
  where
    not_here : (parent : Option ItemId) → IfSome parent (λ p. has_node all p ≡ true) → is_parent id parent ≡ false
    not_here None there = refl
    not_here (Some p) there =
        ne_eqb p.0 id.0 (λ same.
        let at : p ≡ id = ap (λ (k : ℕ). record { 0 = k }) same in
        let here : has_node all id ≡ true = subst (λ i. has_node all i ≡ true) at there in
        absurd (cc))

pub children_is : (ns : List Node) (id : ItemId) → AreNodes ns → children_of (items_of ns) id ≡ child_nodes ns id
children_is ns id are = choose (find (has_id id) ns) refl (item_at_is ns id are)
  where
    none : (b : Bool) → has_node ns id ≡ b → find (has_id id) ns ≡ None → has_node ns id ≡ false
    none true there is = absurd (node_there id ns there is)
    none false there is = there

    choose : (found : Option Node) → find (has_id id) ns ≡ found
        → item_at (items_of ns) id ≡ option_map (item_of ns) found
        → children_of (items_of ns) id ≡ child_nodes ns id
    choose (Some n) is at = rw at (ap (child_nodes ns) (same_item n.id id (found_passes (has_id id) ns n is)))
    choose None is at =
        rw at (sym (no_children ns id ns (none (has_node ns id) refl is) (parented_nodes ns are)))

-- ---- an item's parent

abbrev pub parent_in : List Node → ItemId → Option ItemId
parent_in ns id = option_and_then (λ (n : Node). n.parent) (find (has_id id) ns)

none_found : (id : ItemId) (ns : List Node) → Lacks id ns → find (has_id id) ns ≡ None
none_found id [] lacks = refl
none_found id (n ∷ ns) lacks = rw (ne_eqb n.id.0 id.0 lacks.0) (none_found id ns lacks.1)

child_among : (ns : List Node) (p id : ItemId) → Distinct ns
    → list_any (λ (c : ItemId). c.0 == id.0) (child_nodes ns p) ≡ is_parent p (parent_in ns id)
child_among [] p id distinct = refl
child_among (n ∷ ns) p id distinct =
    choose (is_parent p n.parent) (has_id id n) refl refl (child_among ns p id distinct.1)
  where
    choose : (b q : Bool) → is_parent p n.parent ≡ b → has_id id n ≡ q
        → list_any (λ (c : ItemId). c.0 == id.0) (child_nodes ns p) ≡ is_parent p (parent_in ns id)
        → list_any (λ (c : ItemId). c.0 == id.0)
        (map (λ (m : Node). m.id) (cond b (n ∷ filter (λ (m : Node). is_parent p m.parent) ns)
        (filter (λ (m : Node). is_parent p m.parent) ns)))
        ≡ is_parent p (option_and_then (λ (m : Node). m.parent) (cond q (Some n) (find (has_id id) ns)))
    choose true true child here rest = rw (here, child) refl
    choose true false child here rest = rw here rest
    choose false true child here rest =
        let lacks : Lacks id ns = subst (λ i. Lacks i ns) (same_item n.id id here) distinct.0 in
        rest ∙ ap (λ found. is_parent p (option_and_then (λ (m : Node). m.parent) found)) (none_found id ns lacks)
        ∙ sym child
    choose false false child here rest = rest

turned : (a b : ℕ) → (a == b) ≡ (b == a)
turned a b = grind (arith, nat_tests)

pub parent_is : (ns : List Node) (id : ItemId) → AreNodes ns → parent_of (items_of ns) id ≡ parent_in ns id
parent_is ns id are =
    ap (option_map (λ (i : Item). i.id)) (find-map (has_child id) (item_of ns) (by_id ns)
    ∙ ap (option_map (item_of ns)) (find-alike (λ n. has_child id (item_of ns n))
    (λ (n : Node). is_parent n.id (parent_in ns id)) (by_id ns)
    (λ n. child_among ns n.id id (distinct_nodes ns are))))
    ∙ choose (parent_in ns id) refl
  where
    found_id : (p : ItemId) (found : Option Node) → find (has_id p) ns ≡ found → has_node ns p ≡ true
        → option_map (λ (i : Item). i.id) (option_map (item_of ns) found) ≡ Some p
    found_id p None is there = absurd (node_there p ns there is)
    found_id p (Some n) is there = ap (λ (i : ItemId). Some i) (same_item n.id p (found_passes (has_id p) ns n is))

    is_node : (p : ItemId) (found : Option Node) → find (has_id id) ns ≡ found
        → option_and_then (λ (n : Node). n.parent) found ≡ Some p → has_node ns p ≡ true
    is_node p None is at = absurd (cc)
    is_node p (Some n) is at =
        let parented : Parented ns n = found_holds (Parented ns) (has_id id) ns n (parented_nodes ns are) is in
        let known : IfSome (Some p) (λ i. has_node ns i ≡ true) =
        subst (λ parent. IfSome parent (λ i. has_node ns i ≡ true)) at parented in
        known

    nowhere : (ms : List Node) → find (λ (n : Node). is_parent n.id None) ms ≡ None
    nowhere [] = refl
    nowhere (m ∷ ms) = nowhere ms

    choose : (parent : Option ItemId) → parent_in ns id ≡ parent
        → option_map (λ (i : Item). i.id)
        (option_map (item_of ns) (find (λ (n : Node). is_parent n.id parent) (by_id ns)))
        ≡ parent
    choose None at = rw (nowhere (by_id ns)) refl
    choose (Some p) at =
        ap (λ found. option_map (λ (i : Item). i.id) (option_map (item_of ns) found))
        (find-alike (λ (n : Node). is_parent n.id (Some p)) (has_id p) (by_id ns)
        (λ n. turned p.0 n.id.0) ∙ find-by_id p ns (distinct_nodes ns are))
        ∙ found_id p (find (has_id p) ns) refl (is_node p (find (has_id id) ns) refl at)

abbrev pub row_of : Node → ItemRow
row_of n = record { kind = n.kind; parent = n.parent; page = n.page; added = n.added; modified = n.modified }

pub row_is : (ns : List Node) (id : ItemId) → AreNodes ns
    → option_map (item_row (items_of ns)) (item_at (items_of ns) id) ≡ option_map row_of (find (has_id id) ns)
row_is ns id are =
    ap (option_map (item_row (items_of ns))) (item_at_is ns id are) ∙ choose (find (has_id id) ns) refl
  where
    with_parent : Node → Option ItemId → ItemRow
    with_parent n parent = record (row_of n) { parent = parent }

    choose : (found : Option Node) → find (has_id id) ns ≡ found
        → option_map (item_row (items_of ns)) (option_map (item_of ns) found) ≡ option_map row_of found
    choose None is = refl
    choose (Some n) is = ap (λ parent. Some (with_parent n parent))
        (ap (parent_of (items_of ns)) (same_item n.id id (found_passes (has_id id) ns n is)) ∙ parent_is ns id are
        ∙ ap (option_and_then (λ (m : Node). m.parent)) is)

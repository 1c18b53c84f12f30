-- Nodes with one put in or left out, and the items that they make then.
use Rattle.std.proofs.Common.{◌≡◌, ◌==◌, ◌∙◌, ◌||◌, Bool, true, false, cond, List, [], ◌∷◌, Option, Some, None}
use Rattle.std.proofs.Common.{IfSome, ap, arith, filter, find, map, not, refl, subst, sym}
use Rattle.std.specs.List.{AllByRecursion, list_any}
use Rattle.std.specs.Option.{option_and_then}
use Rattle.std.proofs.lemmas.Bool.{eqb-true}
use Rattle.std.proofs.lemmas.Bool.Decides.{nat_tests}
use Rattle.pl_base.specs.declared.id.ItemId.{ItemId}
use Rattle.pl_base.specs.Store.{Item}
use Rattle.pl_base.specs.Tree.{adopting, leaving, put_behind, without_id}
use Rattle.pl_base.proofs.ItemLookUps.{same_item}
use Rattle.pl_base.proofs.ListLaws.{all-filter, weaker}
use Rattle.pl_items.specs.declared.node.Node.{Node}
use Rattle.pl_items.specs.Nodes.{by_id, child_nodes, has_node, in_id_order, is_parent, item_of, put_node}
use Rattle.pl_items.proofs.IdOrder.{Differs, Distinct, Lacks, has_id, has_other_id, in_id_order-twice}
use Rattle.pl_items.proofs.IdOrder.{without}
use Rattle.pl_items.proofs.Children.{parent_in}

-- ---- one node more

pub by_id-put : (o : Option ItemId) (n : Node) (ns : List Node) → Lacks n.id ns
    → by_id (put_node o n ns) ≡ in_id_order n (by_id ns)
by_id-put None n ns lacks = refl
by_id-put (Some a) n [] lacks = refl
by_id-put (Some a) n (m ∷ ms) lacks = choose (m.id.0 == a.0) (by_id-put (Some a) n ms lacks.1)
  where
    choose : (b : Bool) → by_id (put_node (Some a) n ms) ≡ in_id_order n (by_id ms)
        → by_id (cond b (m ∷ n ∷ ms) (m ∷ put_node (Some a) n ms)) ≡ in_id_order n (in_id_order m (by_id ms))
    choose true rest = in_id_order-twice m n (by_id ms) lacks.0
    choose false rest = ap (in_id_order m) rest ∙ in_id_order-twice m n (by_id ms) lacks.0

pub all-put : (P : Node → Type 0) (o : Option ItemId) (n : Node) (ns : List Node) → P n → AllByRecursion P ns
    → AllByRecursion P (put_node o n ns)
all-put P None n ns here all = (here, all)
all-put P (Some a) n [] here all = (here, tt)
all-put P (Some a) n (m ∷ ms) here all = choose (m.id.0 == a.0) (all-put P (Some a) n ms here all.1)
  where
    choose : (b : Bool) → AllByRecursion P (put_node (Some a) n ms)
        → AllByRecursion P (cond b (m ∷ n ∷ ms) (m ∷ put_node (Some a) n ms))
    choose true rest = (all.0, (here, all.1))
    choose false rest = (all.0, rest)

pub distinct-put : (o : Option ItemId) (n : Node) (ns : List Node) → Lacks n.id ns → Distinct ns
    → Distinct (put_node o n ns)
distinct-put None n ns lacks distinct = (lacks, distinct)
distinct-put (Some a) n [] lacks distinct = (tt, tt)
distinct-put (Some a) n (m ∷ ms) lacks distinct = choose (m.id.0 == a.0) (distinct-put (Some a) n ms lacks.1 distinct.1)
  where
    choose : (b : Bool) → Distinct (put_node (Some a) n ms)
        → Distinct (cond b (m ∷ n ∷ ms) (m ∷ put_node (Some a) n ms))
    choose true rest = (((λ same. lacks.0 (sym same)), distinct.0), (lacks.1, distinct.1))
    choose false rest = (all-put (Differs m.id) (Some a) n ms (λ same. lacks.0 (sym same)) distinct.0, rest)

swapped : (a b c : Bool) → (b || (a || c)) ≡ (a || (b || c))
swapped true true c = refl
swapped true false c = refl
swapped false true c = refl
swapped false false c = refl

pub any-put : (p : Node → Bool) (o : Option ItemId) (n : Node) (ns : List Node)
    → list_any p (put_node o n ns) ≡ list_any p (n ∷ ns)
any-put p None n ns = refl
any-put p (Some a) n [] = refl
any-put p (Some a) n (m ∷ ms) = choose (m.id.0 == a.0) (any-put p (Some a) n ms)
  where
    choose : (b : Bool) → list_any p (put_node (Some a) n ms) ≡ list_any p (n ∷ ms)
        → list_any p (cond b (m ∷ n ∷ ms) (m ∷ put_node (Some a) n ms)) ≡ list_any p (n ∷ m ∷ ms)
    choose true rest = swapped (p n) (p m) (list_any p ms)
    choose false rest = ap (λ b. p m || b) rest ∙ swapped (p n) (p m) (list_any p ms)

-- the node is a child of the parent, if it is the one behind which another is put
abbrev pub StandsAt : Option ItemId → ItemId → Node → Type 0
StandsAt after parent m = IfSome after (λ a. m.id.0 ≡ a.0 → m.parent ≡ Some parent)

abbrev is_child : ItemId → Node → Bool
is_child id n = is_parent id n.parent

abbrev ids_of : List Node → List ItemId
ids_of ns = map (λ (n : Node). n.id) ns

children-put_here : (o : Option ItemId) (parent : ItemId) (n : Node) (ns : List Node) → is_child parent n ≡ true
    → (parented : AllByRecursion (λ (m : Node). IfSome o (λ a. m.id.0 ≡ a.0 → is_child parent m ≡ true)) ns)
    → child_nodes (put_node o n ns) parent ≡ put_behind o n.id (child_nodes ns parent)
children-put_here None parent n ns child stands = rw child refl
children-put_here (Some a) parent n [] child stands = rw child refl
children-put_here (Some a) parent n (m ∷ ms) child stands =
    choose (m.id.0 == a.0) (is_child parent m) refl refl
    (children-put_here (Some a) parent n ms child stands.1)
  where
    choose : (b q : Bool) → (m.id.0 == a.0) ≡ b → is_child parent m ≡ q
        → child_nodes (put_node (Some a) n ms) parent ≡ put_behind (Some a) n.id (child_nodes ms parent)
        → child_nodes (cond b (m ∷ n ∷ ms) (m ∷ put_node (Some a) n ms)) parent
        ≡ put_behind (Some a) n.id (ids_of (cond q (m ∷ filter (is_child parent) ms) (filter (is_child parent) ms)))
    choose true true here of_parent rest = rw (here, of_parent, child) refl
    choose true false here of_parent rest = absurd (true_is_false (stands.0 (eqb-true m.id.0 a.0 here)) of_parent)
      where
        true_is_false : {b : Bool} → b ≡ true → b ≡ false → ⊥
        true_is_false p q = absurd (cc)
    choose false true here of_parent rest = rw (of_parent, here) (ap (λ ids. m.id ∷ ids) rest)
    choose false false here of_parent rest = rw of_parent rest

pub children-put_elsewhere : (o : Option ItemId) (id : ItemId) (n : Node) (ns : List Node) → is_child id n ≡ false
    → child_nodes (put_node o n ns) id ≡ child_nodes ns id
children-put_elsewhere None id n ns other = rw other refl
children-put_elsewhere (Some a) id n [] other = rw other refl
children-put_elsewhere (Some a) id n (m ∷ ms) other =
    choose (m.id.0 == a.0) (children-put_elsewhere (Some a) id n ms other)
  where
    one_more : (q : Bool) (xs ys : List Node) → ids_of xs ≡ ids_of ys
        → ids_of (cond q (m ∷ xs) xs) ≡ ids_of (cond q (m ∷ ys) ys)
    one_more true xs ys same = ap (λ ids. m.id ∷ ids) same
    one_more false xs ys same = same

    choose : (b : Bool) → child_nodes (put_node (Some a) n ms) id ≡ child_nodes ms id
        → child_nodes (cond b (m ∷ n ∷ ms) (m ∷ put_node (Some a) n ms)) id ≡ child_nodes (m ∷ ms) id
    choose true rest = rw other refl
    choose false rest =
        one_more (is_child id m) (filter (is_child id) (put_node (Some a) n ms)) (filter (is_child id) ms) rest

-- the item of a node has one more child, if it is the parent
pub adopting_is : (after : Option ItemId) (parent : ItemId) (n : Node) (ns : List Node) → n.parent ≡ Some parent
    → AllByRecursion (StandsAt after parent) ns → (m : Node)
    → item_of (put_node after n ns) m ≡ adopting parent after n.id (item_of ns m)
adopting_is after parent n ns at stands m = choose (m.id.0 == parent.0) refl
  where
    with_children : List ItemId → Item
    with_children ids = record (item_of ns m) { children = ids }

    child_at : (id : ItemId) → (x : Node) → x.parent ≡ Some parent → is_child id x ≡ (parent.0 == id.0)
    child_at id x is = ap (is_parent id) is

    stands_here : (o : Option ItemId) (id : ItemId) → (parent.0 == id.0) ≡ true → (x : Node) → StandsAt o parent x
        → IfSome o (λ a. x.id.0 ≡ a.0 → is_child id x ≡ true)
    stands_here None id same x stands = tt
    stands_here (Some a) id same x stands = λ here. child_at id x (stands here) ∙ same

    choose : (b : Bool) → (m.id.0 == parent.0) ≡ b
        → item_of (put_node after n ns) m
        ≡ cond b (with_children (put_behind after n.id (child_nodes ns m.id))) (item_of ns m)
    choose true here =
        let same : (parent.0 == m.id.0) ≡ true = grind (arith, nat_tests, here) in
        ap with_children (children-put_here after m.id n ns (child_at m.id n at ∙ same)
        (weaker (StandsAt after parent) (λ (x : Node). IfSome after (λ a. x.id.0 ≡ a.0 → is_child m.id x ≡ true)) ns
        (stands_here after m.id same) stands))
    choose false other =
        let differ : (parent.0 == m.id.0) ≡ false = grind (arith, nat_tests, other) in
        ap with_children (children-put_elsewhere after m.id n ns (child_at m.id n at ∙ differ))

-- where the parent of an item is known
pub stands_at : (a parent : ItemId) (ns : List Node) → Distinct ns → parent_in ns a ≡ Some parent
    → AllByRecursion (StandsAt (Some a) parent) ns
stands_at a parent [] distinct at = tt
stands_at a parent (n ∷ ns) distinct at = choose (has_id a n) refl at (stands_at a parent ns distinct.1)
  where
    choose : (b : Bool) → has_id a n ≡ b
        → option_and_then (λ (m : Node). m.parent) (cond b (Some n) (find (has_id a) ns)) ≡ Some parent
        → (parent_in ns a ≡ Some parent → AllByRecursion (StandsAt (Some a) parent) ns)
        → AllByRecursion (StandsAt (Some a) parent) (n ∷ ns)
    choose true here is rest =
        let lacks : Lacks a ns = subst (λ i. Lacks i ns) (same_item n.id a here) distinct.0 in
        ((λ same. is), weaker (Differs a) (StandsAt (Some a) parent) ns (λ m other same. absurd (other same)) lacks)
    choose false other is rest = ((λ same. absurd (grind (arith, nat_tests, same, other))), rest is)

-- ---- one node less

children-without : (id parent : ItemId) (ns : List Node)
    → child_nodes (without id ns) parent ≡ without_id id (child_nodes ns parent)
children-without id parent [] = refl
children-without id parent (n ∷ ns) =
    choose (has_id id n) (is_child parent n) refl refl (children-without id parent ns)
  where
    choose : (b q : Bool) → has_id id n ≡ b → is_child parent n ≡ q
        → child_nodes (without id ns) parent ≡ without_id id (child_nodes ns parent)
        → child_nodes (cond (not b) (n ∷ without id ns) (without id ns)) parent
        ≡ without_id id (ids_of (cond q (n ∷ filter (is_child parent) ns) (filter (is_child parent) ns)))
    choose true true here child rest = rw here rest
    choose true false here child rest = rest
    choose false true here child rest = rw (here, child) (ap (λ ids. n.id ∷ ids) rest)
    choose false false here child rest = rw child rest

pub leaving_is : (id : ItemId) (ns : List Node) (m : Node) → item_of (without id ns) m ≡ leaving id (item_of ns m)
leaving_is id ns m = ap with_children (children-without id m.id ns)
  where
    with_children : List ItemId → Item
    with_children ids = record (item_of ns m) { children = ids }

pub distinct-without : (id : ItemId) (ns : List Node) → Distinct ns → Distinct (without id ns)
distinct-without id [] distinct = tt
distinct-without id (n ∷ ns) distinct = choose (has_other_id id n) (distinct-without id ns distinct.1)
  where
    choose : (b : Bool) → Distinct (without id ns) → Distinct (cond b (n ∷ without id ns) (without id ns))
    choose true rest = (all-filter (Differs n.id) (has_other_id id) ns distinct.0, rest)
    choose false rest = rest

-- another node stays
pub has_node-without : (id other : ItemId) (ns : List Node) → (other.0 == id.0) ≡ false → has_node ns other ≡ true
    → has_node (without id ns) other ≡ true
has_node-without id other [] differ there = there
has_node-without id other (n ∷ ns) differ there =
    choose (has_id id n) (has_id other n) refl refl there (has_node-without id other ns differ)
  where
    choose : (b q : Bool) → has_id id n ≡ b → has_id other n ≡ q → (q || has_node ns other) ≡ true
        → (has_node ns other ≡ true → has_node (without id ns) other ≡ true)
        → has_node (cond (not b) (n ∷ without id ns) (without id ns)) other ≡ true
    choose true true here there is rest = absurd (grind (arith, nat_tests, here, there, differ))
    choose true false here there is rest = rest is
    choose false true here there is rest = rw there refl
    choose false false here there is rest = rw there (rest is)

-- A list of items in preorder: what holds of each node, and that it is one whatever its items are.
use Rattle.std.proofs.Common.{◌≡◌, ◌+◌, ◌≤◌, ◌==◌, ◌++◌, ◌⊎◌, inl, inr, ℕ, zero, suc, true}
use Rattle.std.proofs.Common.{List, [], ◌∷◌, Option, Some, None, ap, arith, eq-eqb, eqb-true, find, nat_le, refl}
use Rattle.std.proofs.Common.{subst, sym, le-leb, flat_map}
use Rattle.std.specs.List.{AllByRecursion, cons_option, filter_map}
use Rattle.std.proofs.lemmas.Bool.{and_from, and_parts, or_left, or_right}
use Rattle.pl_base.specs.declared.id.ItemId.{ItemId}
use Rattle.pl_base.specs.Store.{Item}
use Rattle.pl_base.specs.Tree.{child_items, children_of, item_at}
use Rattle.pl_base.proofs.ListLaws.{weaker}
use Rattle.pl_base.proofs.LookUps.{found_passes}
use Rattle.pl_nbread.specs.declared.tree.Node.{Node}
use Rattle.pl_nbread.specs.WellFormed.{begins, goes_on, is_folder, may_follow}
use Rattle.pl_outline.specs.Outline.{preorder}

-- ---- items that are children

-- it is what is found by its id
abbrev pub IsFound : List Item → Item → Type 0
IsFound items i = item_at items i.id ≡ Some i

found_self : (items : List Item) (id : ItemId) (i : Item) → item_at items id ≡ Some i → IsFound items i
found_self items id i found =
    let same : i.id.0 ≡ id.0 = eqb-true i.id.0 id.0 (found_passes (λ (j : Item). j.id.0 == id.0) items i found) in
    subst (λ (n : ℕ). find (λ (j : Item). j.id.0 == n) items ≡ Some i) (sym same) found

all_found : (items : List Item) (ids : List ItemId) → AllByRecursion (IsFound items) (filter_map (item_at items) ids)
all_found items [] = tt
all_found items (id ∷ ids) = choose (item_at items id) refl (all_found items ids)
  where
    choose : (o : Option Item) → item_at items id ≡ o
        → AllByRecursion (IsFound items) (filter_map (item_at items) ids)
        → AllByRecursion (IsFound items) (cons_option o (filter_map (item_at items) ids))
    choose None is rest = rest
    choose (Some i) is rest = (found_self items id i is, rest)

-- each child is found by its id
pub children_found : (items : List Item) (folder : ItemId) → AllByRecursion (IsFound items) (child_items items folder)
children_found items folder = all_found items (children_of items folder)

-- what has no child has no child item
pub no_children : (items : List Item) (i : Item) → IsFound items i → i.children ≡ [] → child_items items i.id ≡ []
no_children items i found none =
    let same : children_of items i.id ≡ [] = rw found none in
    ap (filter_map (item_at items)) same

-- ---- what holds of each

module _ {N : Type 0} (P : N → Type 0) where
  pub both_all : (xs ys : List N) → AllByRecursion P xs → AllByRecursion P ys → AllByRecursion P (xs ++ ys)
  both_all [] ys front back = back
  both_all (x ∷ xs) ys front back = (front.0, both_all xs ys front.1 back)

  all_flat : (f : Item → List N) (is : List Item) → AllByRecursion (λ i. AllByRecursion P (f i)) is
      → AllByRecursion P (flat_map f is)
  all_flat f [] all = tt
  all_flat f (i ∷ is) all = both_all (f i) (flat_map f is) all.0 (all_flat f is all.1)

  -- of each that is shown, where it holds of what any item is shown as
  pub all_shown : (show : ℕ → Item → N) (items : List Item)
      → ((depth : ℕ) (i : Item) → IsFound items i → P (show depth i)) → (many depth : ℕ) (folder : ItemId)
      → AllByRecursion P (preorder show many items depth folder)
  all_shown show items holds zero depth folder = tt
  all_shown show items holds (suc many) depth folder =
      let f : Item → List N = λ i. show depth i ∷ preorder show many items (depth + 1) i.id in
      all_flat f (child_items items folder)
      (weaker (IsFound items) (λ i. AllByRecursion P (f i)) (child_items items folder)
      (λ i found. (holds depth i found, all_shown show items holds many (depth + 1) i.id))
      (children_found items folder))

-- ---- depths

abbrev Starts : ℕ → List Node → Type 0
Starts depth [] = Unit {0}
Starts depth (node ∷ nodes) = node.depth ≡ depth

-- a list in preorder whose root stands just above this depth
pub record IsBelow (depth : ℕ) (nodes : List Node) : Type 0 where
  pub starts : Starts depth nodes
  pub deep : AllByRecursion (λ (n : Node). depth ≤ n.depth) nodes
  pub on : goes_on nodes ≡ true

nothing_below : (depth : ℕ) → IsBelow depth []
nothing_below depth = record { starts = tt; deep = tt; on = refl }

module _ (depth : ℕ) where
  starts_both : (xs ys : List Node) → Starts depth xs → Starts depth ys → Starts depth (xs ++ ys)
  starts_both [] ys front back = back
  starts_both (x ∷ xs) ys front back = front

  on_both : (xs ys : List Node) → AllByRecursion (λ (n : Node). depth ≤ n.depth) xs → Starts depth ys
      → goes_on xs ≡ true → goes_on ys ≡ true → goes_on (xs ++ ys) ≡ true
  on_both [] ys deep starts front back = back
  on_both (x ∷ []) [] deep starts front back = refl
  on_both (x ∷ []) (y ∷ ys) deep starts front back =
      and_from (may_follow x y) (goes_on (y ∷ ys))
      (or_left (nat_le y.depth x.depth) _ (le-leb y.depth x.depth (omega (arith, deep.0, starts)))) back
  on_both (x ∷ z ∷ xs) ys deep starts front back =
      let parts = and_parts (may_follow x z) (goes_on (z ∷ xs)) front in
      and_from (may_follow x z) (goes_on (z ∷ xs ++ ys)) parts.0
      (on_both (z ∷ xs) ys deep.1 starts parts.1 back)

  both_below : (xs ys : List Node) → IsBelow depth xs → IsBelow depth ys → IsBelow depth (xs ++ ys)
  both_below xs ys front back =
      record {
        starts = starts_both xs ys front.starts back.starts;
        deep = both_all (λ (n : Node). depth ≤ n.depth) xs ys front.deep back.deep;
        on = on_both xs ys front.deep back.starts front.on back.on;
      }

  deeper : (nodes : List Node) → AllByRecursion (λ (n : Node). depth + 1 ≤ n.depth) nodes
      → AllByRecursion (λ (n : Node). depth ≤ n.depth) nodes
  deeper [] deep = tt
  deeper (n ∷ nodes) deep = (omega (arith, deep.0), deeper nodes deep.1)

  -- a node, and what stands below it if it is a folder
  node_below : (node : Node) (nodes : List Node) → node.depth ≡ depth
      → (nodes ≡ []) ⊎ (is_folder node.kind ≡ true) → IsBelow (depth + 1) nodes → IsBelow depth (node ∷ nodes)
  node_below node nodes here holds below =
      record {
        starts = here;
        deep = (omega (arith, here), deeper nodes below.deep);
        on = goes nodes holds below.starts below.on;
      }
    where
      goes : (ns : List Node) → (ns ≡ []) ⊎ (is_folder node.kind ≡ true) → Starts (depth + 1) ns → goes_on ns ≡ true
          → goes_on (node ∷ ns) ≡ true
      goes [] h starts on = refl
      goes (n ∷ ns) (inl none) starts on = absurd (cc)
      goes (n ∷ ns) (inr folder) starts on =
          and_from (may_follow node n) (goes_on (n ∷ ns))
          (or_right (nat_le n.depth node.depth) _
          (and_from (is_folder node.kind) (n.depth == node.depth + 1) folder
          (eq-eqb n.depth (node.depth + 1) (omega (arith, starts, here)))))
          on

flat_below : (depth : ℕ) (f : Item → List Node) (is : List Item) → AllByRecursion (λ i. IsBelow depth (f i)) is
    → IsBelow depth (flat_map f is)
flat_below depth f [] all = nothing_below depth
flat_below depth f (i ∷ is) all = both_below depth (f i) (flat_map f is) all.0 (flat_below depth f is all.1)

-- ---- the whole

module _ (show : ℕ → Item → Node) (items : List Item)
    (depths : (depth : ℕ) (i : Item) → (show depth i).depth ≡ depth)
    (holds : (depth : ℕ) (i : Item) → IsFound items i
    → (i.children ≡ []) ⊎ (is_folder (show depth i).kind ≡ true)) where
  empty_below : (many depth : ℕ) (i : Item) → IsFound items i → i.children ≡ []
      → preorder show many items depth i.id ≡ []
  empty_below zero depth i found none = refl
  empty_below (suc many) depth i found none =
      ap (flat_map (λ (j : Item). show depth j ∷ preorder show many items (depth + 1) j.id))
      (no_children items i found none)

  one_below : (many depth : ℕ) (i : Item) → IsFound items i
      → IsBelow (depth + 1) (preorder show many items (depth + 1) i.id)
      → IsBelow depth (show depth i ∷ preorder show many items (depth + 1) i.id)
  one_below many depth i found =
      node_below depth (show depth i) (preorder show many items (depth + 1) i.id) (depths depth i)
      (choose (holds depth i found))
    where
      choose : (i.children ≡ []) ⊎ (is_folder (show depth i).kind ≡ true)
          → (preorder show many items (depth + 1) i.id ≡ []) ⊎ (is_folder (show depth i).kind ≡ true)
      choose (inl none) = inl (empty_below many (depth + 1) i found none)
      choose (inr folder) = inr folder

  -- so many generations of what stands below a folder
  pub preorder_below : (many depth : ℕ) (folder : ItemId) → IsBelow depth (preorder show many items depth folder)
  preorder_below zero depth folder = nothing_below depth
  preorder_below (suc many) depth folder =
      let f : Item → List Node = λ i. show depth i ∷ preorder show many items (depth + 1) i.id in
      flat_below depth f (child_items items folder)
      (weaker (IsFound items) (λ i. IsBelow depth (f i)) (child_items items folder)
      (λ i found. one_below many depth i found (preorder_below many (depth + 1) i.id))
      (children_found items folder))

-- a list from the depth 0 on begins as it should
pub begins_below : (nodes : List Node) → IsBelow 0 nodes → begins nodes ≡ true
begins_below [] below = refl
begins_below (node ∷ nodes) below = eq-eqb node.depth 0 below.starts

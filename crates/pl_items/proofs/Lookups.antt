-- Places of nodes, and what stands behind them.
use Rattle.std.proofs.Common.{Bor, ◌≡◌, ◌+◌, ◌<◌, ◌≤◌, ◌==◌, ◌∙◌, ℕ, Bool, true, false, cond, List, [], ◌∷◌, not}
use Rattle.std.proofs.Common.{Option, Some, None, ap, arith, drop, filter, find, get_or, length, map, nat_lt, ◌-◌}
use Rattle.std.proofs.Common.{refl, length-drop, suc, sym, take}
use Rattle.std.proofs.lemmas.List.{take_all}
use Rattle.std.specs.List.{position, position_or_len}
use Rattle.std.specs.Option.{option_copied, option_map}
use Rattle.std.proofs.lemmas.Grind.{common_steps}
use Rattle.pl_base.specs.declared.id.ItemId.{ItemId}
use Rattle.pl_base.specs.Tree.{first_item, item_at, item_behind, item_row, item_title}
use Rattle.pl_base.specs.Tree.{has_item, sibling_behind}
use Rattle.pl_items.specs.declared.node.Node.{Node}
use Rattle.pl_items.specs.Nodes.{AreNodes, child_nodes, is_parent, items_of}
use Rattle.pl_items.proofs.IdOrder.{has_id}
use Rattle.pl_items.proofs.Children.{children_is, has_item_is, item_title_is, node_there, parent_is, row_is, row_of}

-- what was found and what was not
pub found_none : {X : Type 0} {o : Option X} (found : Option (Bor X)) → found ≡ None → option_copied found ≡ o
    → o ≡ None
found_none found none is = sym is ∙ ap option_copied none

pub found_some : {X : Type 0} {o : Option X} (found : Option (Bor X)) (x : Bor X) → found ≡ Some x
    → option_copied found ≡ o → o ≡ Some x.now
found_some found x some is = sym is ∙ ap option_copied some

-- the first that passes
pub first_filtered : (p : Node → Bool) (ns : List Node)
    → first_item (map (λ (n : Node). n.id) (filter p ns)) ≡ option_map (λ (n : Node). n.id) (find p ns)
first_filtered p [] = refl
first_filtered p (n ∷ ns) = choose (p n) (first_filtered p ns)
  where
    choose : (b : Bool)
        → first_item (map (λ (n : Node). n.id) (filter p ns)) ≡ option_map (λ (n : Node). n.id) (find p ns)
        → first_item (map (λ (n : Node). n.id) (cond b (n ∷ filter p ns) (filter p ns)))
        ≡ option_map (λ (n : Node). n.id) (cond b (Some n) (find p ns))
    choose true rest = refl
    choose false rest = rest

-- ---- places

pub find_here : {X : Type 0} (p : X → Bool) (xs : List X) (d : X) → position_or_len p xs < length xs
    → find p xs ≡ Some (get_or xs (position_or_len p xs) d)
find_here p [] d within = absurd (omega arith)
find_here p (x ∷ xs) d within = choose (p x) within (find_here p xs d)
  where
    choose : (b : Bool) → cond (not b) (1 + position_or_len p xs) 0 < length (x ∷ xs)
        → (position_or_len p xs < length xs → find p xs ≡ Some (get_or xs (position_or_len p xs) d))
        → cond b (Some x) (find p xs) ≡ Some (get_or (x ∷ xs) (cond (not b) (1 + position_or_len p xs) 0) d)
    choose true inside rest = refl
    choose false inside rest =
        let next : 1 + position_or_len p xs ≡ suc (position_or_len p xs) = omega arith in
        rw next (rest (omega arith))

pub at_place : {X : Type 0} (p : X → Bool) (xs : List X) (k : ℕ) → position p xs ≡ Some k
    → (position_or_len p xs ≡ k) × (k < length xs)
at_place p xs k found =
    let at : position_or_len p xs ≡ k = grind (arith, common_steps) in
    let within : k < length xs = grind (arith, common_steps) in
    (at, within)

pub find_at_place : {X : Type 0} (p : X → Bool) (xs : List X) (k : ℕ) (d : X) → position p xs ≡ Some k
    → find p xs ≡ Some (get_or xs k d)
find_at_place p xs k d found =
    let at = at_place p xs k found in
    find_here p xs d (omega (arith, at.0, at.1)) ∙ ap (λ i. Some (get_or xs i d)) at.0

pub find_nowhere : {X : Type 0} (p : X → Bool) (xs : List X) → position p xs ≡ None → find p xs ≡ None
find_nowhere p [] none = refl
find_nowhere p (x ∷ xs) none =
    let past : length (x ∷ xs) ≤ position_or_len p (x ∷ xs) = grind (arith, common_steps) in
    choose (p x) past (λ rest. find_nowhere p xs (nowhere (nat_lt (position_or_len p xs) (length xs)) refl rest))
  where
    nowhere : (b : Bool) → nat_lt (position_or_len p xs) (length xs) ≡ b → length xs ≤ position_or_len p xs
        → cond b (Some (position_or_len p xs)) None ≡ None
    nowhere true less past = absurd (grind (arith, common_steps))
    nowhere false less past = refl

    choose : (b : Bool) → length (x ∷ xs) ≤ cond (not b) (1 + position_or_len p xs) 0
        → (length xs ≤ position_or_len p xs → find p xs ≡ None) → cond b (Some x) (find p xs) ≡ None
    choose true past rest = absurd (omega arith)
    choose false past rest = rest (omega arith)

-- the part from a place on
pub rest_of : {X : Type 0} (k : ℕ) (xs ys : List X) → ys ≡ xs → take (length ys - k) (drop k ys) ≡ drop k xs
rest_of k xs ys same = rw same (take_all (length xs - k) (drop k xs) (omega (arith, length-drop k xs)))

-- ---- the next child

behind_is : (ns : List Node) (id parent : ItemId) (n : Node) → find (has_id id) ns ≡ Some n → n.parent ≡ Some parent
    → is_parent parent (Some parent) ≡ true
    → item_behind id (child_nodes ns parent)
    ≡ first_item (child_nodes (drop (position_or_len (has_id id) ns + 1) ns) parent)
behind_is [] id parent n found at same = absurd (cc)
behind_is (m ∷ ms) id parent n found at same =
    choose (has_id id m) (is_parent parent m.parent) refl refl found (λ rest. behind_is ms id parent n rest at same)
  where
    choose : (b q : Bool) → has_id id m ≡ b → is_parent parent m.parent ≡ q
        → cond b (Some m) (find (has_id id) ms) ≡ Some n
        → (find (has_id id) ms ≡ Some n → item_behind id (child_nodes ms parent)
        ≡ first_item (child_nodes (drop (position_or_len (has_id id) ms + 1) ms) parent))
        → item_behind id (map (λ (x : Node). x.id) (cond q (m ∷ filter (λ (x : Node). is_parent parent x.parent) ms)
        (filter (λ (x : Node). is_parent parent x.parent) ms)))
        ≡ first_item (child_nodes (drop (cond (not b) (1 + position_or_len (has_id id) ms) 0 + 1) (m ∷ ms)) parent)
    choose true true here child is rest = rw here refl
    choose true false here child is rest =
        let at_m : m ≡ n = cc in
        let is_child : is_parent parent m.parent ≡ true = ap (λ (x : Node). is_parent parent x.parent) at_m
        ∙ ap (is_parent parent) at ∙ same in
        absurd (cc)
    choose false true here child is rest =
        let next : 1 + position_or_len (has_id id) ms + 1 ≡ suc (position_or_len (has_id id) ms + 1) = omega arith in
        rw (here, next) (rest is)
    choose false false here child is rest =
        let next : 1 + position_or_len (has_id id) ms + 1 ≡ suc (position_or_len (has_id id) ms + 1) = omega arith in
        rw next (rest is)

-- there is no such item
pub no_sibling : (ns : List Node) (id : ItemId) → AreNodes ns → position (has_id id) ns ≡ None
    → None ≡ sibling_behind (items_of ns) id
no_sibling ns id are none =
    rw (parent_is ns id are, find_nowhere (has_id id) ns none) refl

-- it is no child
pub no_parent : (ns : List Node) (id : ItemId) (k : ℕ) (n : Node) → AreNodes ns → position (has_id id) ns ≡ Some k
    → n ≡ get_or ns k n → n.parent ≡ None → None ≡ sibling_behind (items_of ns) id
no_parent ns id k n are found at none =
    let is : find (has_id id) ns ≡ Some n =
    find_at_place (has_id id) ns k n found ∙ ap (λ (x : Node). Some x) (sym at) in
    rw (parent_is ns id are, is, none) refl

pub next_sibling_is : (ns : List Node) (id parent : ItemId) (k : ℕ) (n : Node) → AreNodes ns
    → position (has_id id) ns ≡ Some k → n ≡ get_or ns k n → n.parent ≡ Some parent
    → first_item (child_nodes (drop (k + 1) ns) parent) ≡ sibling_behind (items_of ns) id
next_sibling_is ns id parent k n are found at is_parent =
    let is : find (has_id id) ns ≡ Some n =
    find_at_place (has_id id) ns k n found ∙ ap (λ (x : Node). Some x) (sym at) in
    let place = at_place (has_id id) ns k found in
    rw (parent_is ns id are, is, is_parent, children_is ns parent are)
    (ap (λ j. first_item (child_nodes (drop (j + 1) ns) parent)) (sym place.0)
    ∙ sym (behind_is ns id parent n is is_parent (same_number parent.0)))
  where
    same_number : (j : ℕ) → (j == j) ≡ true
    same_number j = grind (arith, common_steps)

-- ---- the row and the title of a node

pub no_row : (ns : List Node) (id : ItemId) → AreNodes ns → find (has_id id) ns ≡ None
    → None ≡ option_map (item_row (items_of ns)) (item_at (items_of ns) id)
no_row ns id are none = sym (row_is ns id are ∙ ap (option_map row_of) none)

pub row_found : (ns : List Node) (id : ItemId) (n : Node) → AreNodes ns → find (has_id id) ns ≡ Some n
    → Some (row_of n) ≡ option_map (item_row (items_of ns)) (item_at (items_of ns) id)
row_found ns id n are found = sym (row_is ns id are ∙ ap (option_map row_of) found)

pub no_title : (ns : List Node) (id : ItemId) → AreNodes ns → find (has_id id) ns ≡ None
    → None ≡ item_title (items_of ns) id
no_title ns id are none = sym (item_title_is ns id are ∙ ap (option_map (λ (n : Node). n.title)) none)

pub title_found : (ns : List Node) (id : ItemId) (n : Node) → AreNodes ns → find (has_id id) ns ≡ Some n
    → Some n.title ≡ item_title (items_of ns) id
title_found ns id n are found = sym (item_title_is ns id are ∙ ap (option_map (λ (m : Node). m.title)) found)

-- an item that is there has a place
pub not_nowhere : (id : ItemId) (ns : List Node) → has_item (items_of ns) id ≡ true → position (has_id id) ns ≡ None → ⊥
not_nowhere id ns there none =
    node_there id ns (sym (has_item_is ns id) ∙ there) (find_nowhere (has_id id) ns none)

-- The values of nodes in preorder are read as those nodes.
use Rattle.std.proofs.Common.{◌≡◌, ◌∙◌, ◌≤◌, ◌+◌, ◌==◌, ◌&&◌, ◌||◌, inl, inr, ℕ, zero, suc, Bool, true, false, List, [], ◌∷◌, ap}
use Rattle.std.proofs.Common.{append_assoc, arith, cond, drop, nat_le, nat_lt, refl, subst, sym, take}
use Rattle.std.specs.Prelude.{⊤}
use Rattle.std.specs.List.{AllByRecursion}
use Rattle.std.proofs.lemmas.Bool.{and_parts, eqb-true, leb-true, ltb-false, ltb-true, or_cases}
use Rattle.pl_base.specs.declared.item.ItemKind.{ItemKind}
use Rattle.pl_base.specs.declared.item.ItemKind.TheVariants.{Bookmark, Folder, Separator}
use Rattle.pl_nbread.specs.declared.tree.Node.{Node}
use Rattle.pl_nbread.specs.WellFormed.{begins, goes_on, is_folder, may_follow}
use Rattle.pl_nbread.proofs.NodeLaws.{goes_later}
use Rattle.pl_backup.specs.BackupText.{Placed, count_below, items, put_front, values}
use Rattle.pl_backup.specs.BackupTree.{Found, above, items_found, joined, nothing, value_found}
use Rattle.pl_backup.proofs.NodesRead.{IsFit, bookmark_read, folder_read, separator_read}

-- ---- depths

-- no value stands deeper than the one before it, and the first no deeper than this
abbrev pub Falls : ℕ → List Placed → Type 0
Falls depth [] = ⊤
Falls depth (placed ∷ left) = (placed.depth ≤ depth) × Falls placed.depth left

abbrev pub IsAt : ℕ → Placed → Type 0
IsAt depth placed = placed.depth ≡ depth

deeper : (m n : ℕ) (left : List Placed) → m ≤ n → Falls m left → Falls n left
deeper m n [] most falls = tt
deeper m n (placed ∷ left) most falls = (omega (arith, falls.0), falls.1)

-- how many stand below a folder, where the test is told
abbrev many : Bool → ℕ → List Placed → ℕ
many below depth left = cond below (1 + count_below depth left) 0

one_more : (n : ℕ) → suc n ≡ 1 + n
one_more n = omega arith

-- the first value stands below a folder, of which those behind it are told
first_child : (depth : ℕ) (placed : Placed) (left : List Placed) (below : Bool) → nat_lt depth placed.depth ≡ below
    → placed.depth ≤ suc depth
    → (placed.depth ≡ suc depth → AllByRecursion (IsAt (suc depth)) (take (count_below depth left) left))
    → AllByRecursion (IsAt (suc depth)) (take (many below depth left) (placed ∷ left))
first_child depth placed left false is most rest = tt
first_child depth placed left true is most rest =
    let less = ltb-true depth placed.depth is in
    let at : placed.depth ≡ suc depth = omega arith in
    subst (λ n. AllByRecursion (IsAt (suc depth)) (take n (placed ∷ left))) (one_more (count_below depth left))
    (at, rest at)

-- what stands below a folder are its children
pub children_at : (depth : ℕ) (left : List Placed) → Falls (suc depth) left
    → AllByRecursion (IsAt (suc depth)) (take (count_below depth left) left)
children_at depth [] falls = tt
children_at depth (placed ∷ left) falls =
    first_child depth placed left (nat_lt depth placed.depth) refl falls.0
    (λ at. children_at depth left (subst (λ n. Falls n left) at falls.1))

first_behind : (depth : ℕ) (placed : Placed) (left : List Placed) (below : Bool) → nat_lt depth placed.depth ≡ below
    → placed.depth ≤ suc depth → Falls placed.depth left
    → (placed.depth ≡ suc depth → Falls depth (drop (count_below depth left) left))
    → Falls depth (drop (many below depth left) (placed ∷ left))
first_behind depth placed left false is most falls rest = (ltb-false depth placed.depth is, falls)
first_behind depth placed left true is most falls rest =
    let less = ltb-true depth placed.depth is in
    let at : placed.depth ≡ suc depth = omega arith in
    subst (λ n. Falls depth (drop n (placed ∷ left))) (one_more (count_below depth left)) (rest at)

falls_behind : (depth : ℕ) (left : List Placed) → Falls (suc depth) left
    → Falls depth (drop (count_below depth left) left)
falls_behind depth [] falls = tt
falls_behind depth (placed ∷ left) falls =
    first_behind depth placed left (nat_lt depth placed.depth) refl falls.0 falls.1
    (λ at. falls_behind depth left (subst (λ n. Falls n left) at falls.1))

-- how deep a value behind a node may stand
abbrev pub room : ItemKind → ℕ → ℕ
room Bookmark depth = depth
room Folder depth = suc depth
room Separator depth = depth

put_falls : (kind : ItemKind) (node : Node) (behind : List Placed) → Falls (room kind node.depth) behind
    → Falls node.depth (put_front kind node behind)
put_falls Bookmark node behind falls = (omega arith, falls)
put_falls Separator node behind falls = (omega arith, falls)
put_falls Folder node behind falls = (omega arith, falls_behind node.depth behind falls)

room_for : (kind : ItemKind) (here next : ℕ)
    → (nat_le next here || is_folder kind && next == here + 1) ≡ true → next ≤ room kind here
room_for Bookmark here next follows =
    elim (or_cases _ _ follows) [ inl up ↦ leb-true next here up | inr down ↦ absurd cc ]
room_for Separator here next follows =
    elim (or_cases _ _ follows) [ inl up ↦ leb-true next here up | inr down ↦ absurd cc ]
room_for Folder here next follows =
    elim (or_cases _ _ follows) [
      | inl up ↦ let no : next ≤ here = leb-true next here up in omega arith
      | inr down ↦ let one : next ≡ here + 1 = eqb-true next (here + 1) down in omega arith
    ]

-- the values behind a node
pub falls_below : (node : Node) (nodes : List Node) → goes_on (node ∷ nodes) ≡ true
    → Falls (room node.kind node.depth) (values nodes)
falls_below node [] goes = tt
falls_below node (next ∷ nodes) goes =
    let parts = and_parts (may_follow node next) (goes_on (next ∷ nodes)) goes in
    deeper next.depth (room node.kind node.depth) (values (next ∷ nodes))
    (room_for node.kind node.depth next.depth parts.0)
    (put_falls next.kind next (values nodes) (falls_below next nodes parts.1))

-- the values of a root's list are its children
zero_at : (left : List Placed) → Falls 0 left → AllByRecursion (IsAt 0) left
zero_at [] falls = tt
zero_at (placed ∷ left) falls =
    let at : placed.depth ≡ 0 = omega (arith, falls.0) in (at, zero_at left (subst (λ n. Falls n left) at falls.1))

pub roots_at : (nodes : List Node) → begins nodes ≡ true → goes_on nodes ≡ true
    → AllByRecursion (IsAt 0) (values nodes)
roots_at [] first goes = tt
roots_at (node ∷ nodes) first goes =
    let at : node.depth ≡ 0 = eqb-true node.depth 0 first in
    zero_at (values (node ∷ nodes))
    (subst (λ n. Falls n (values (node ∷ nodes))) at
    (put_falls node.kind node (values nodes) (falls_below node nodes goes)))

-- ---- what is read

-- of values, each at its depth
abbrev pub read_all : List Placed → Found
read_all [] = nothing
read_all (placed ∷ left) = joined (value_found placed.depth placed.value) (read_all left)

-- all of these nodes, and nothing else
abbrev pub only : List Node → Found
only nodes = record { nodes = nodes; skipped = 0 }

joined_assoc : (a b c : Found) → joined (joined a b) c ≡ joined a (joined b c)
joined_assoc a b c =
    let sums : a.skipped + b.skipped + c.skipped ≡ a.skipped + (b.skipped + c.skipped) = omega arith in
    λ i. record { nodes = append_assoc a.nodes b.nodes c.nodes i; skipped = sums i }

nothing_first : (a : Found) → joined nothing a ≡ a
nothing_first a =
    let sums : 0 + a.skipped ≡ a.skipped = omega arith in λ i. record { nodes = a.nodes; skipped = sums i }

-- in a list whose values have one depth
pub list_read : (depth : ℕ) (left : List Placed) → AllByRecursion (IsAt depth) left
    → items_found depth (items left) ≡ read_all left
list_read depth [] at = refl
list_read depth (placed ∷ left) at =
    ap (λ (d : ℕ). joined (value_found d placed.value) (items_found depth (items left))) (sym at.0)
    ∙ ap (joined (value_found placed.depth placed.value)) (list_read depth left at.1)

parts_read : (n : ℕ) (left : List Placed) → joined (read_all (take n left)) (read_all (drop n left)) ≡ read_all left
parts_read zero left = nothing_first (read_all left)
parts_read (suc n) [] = nothing_first nothing
parts_read (suc n) (placed ∷ left) =
    joined_assoc (value_found placed.depth placed.value) (read_all (take n left)) (read_all (drop n left))
    ∙ ap (joined (value_found placed.depth placed.value)) (parts_read n left)

-- one node, alone in front
alone : (node : Node) (nodes : List Node) → joined (above node nothing) (only nodes) ≡ only (node ∷ nodes)
alone node nodes = refl

put_read : (kind : ItemKind) (node : Node) (behind : List Placed) (nodes : List Node) → IsFit node → node.kind ≡ kind
    → Falls (room kind node.depth) behind → read_all behind ≡ only nodes
    → read_all (put_front kind node behind) ≡ only (node ∷ nodes)
put_read Bookmark node behind nodes own is falls all =
    (λ i. joined (bookmark_read node own is i) (all i)) ∙ alone node nodes
put_read Separator node behind nodes own is falls all =
    (λ i. joined (separator_read node own is i) (all i)) ∙ alone node nodes
put_read Folder node behind nodes own is falls all =
    let count : ℕ = count_below node.depth behind in
    let inner : List Placed = take count behind in
    ap (λ (f : Found). joined f (read_all (drop count behind)))
    (folder_read node (items inner) own is
    ∙ ap (above node) (list_read (suc node.depth) inner (children_at node.depth behind falls)))
    ∙ ap (above node) (parts_read count behind ∙ all)

pub values_read : (nodes : List Node) → goes_on nodes ≡ true → AllByRecursion IsFit nodes
    → read_all (values nodes) ≡ only nodes
values_read [] goes own = refl
values_read (node ∷ nodes) goes own =
    put_read node.kind node (values nodes) nodes own.0 refl (falls_below node nodes goes)
    (values_read nodes (goes_later node nodes goes) own.1)

-- in a root's list
pub list_of_root : (nodes : List Node) → begins nodes ≡ true → goes_on nodes ≡ true → AllByRecursion IsFit nodes
    → items_found 0 (items (values nodes)) ≡ only nodes
list_of_root nodes first goes own =
    list_read 0 (values nodes) (roots_at nodes first goes) ∙ values_read nodes goes own

-- The nodes of a list, one after another.
use Rattle.std.proofs.Common.{◌≡◌, ◌∙◌, ◌<◌, ◌≤◌, ◌+◌, ◌++◌, ◌==◌, ◌&&◌, ◌||◌, ℕ, Bool, true, false, List, []}
use Rattle.std.proofs.Common.{◌∷◌, ap, arith, drop}
use Rattle.std.proofs.Common.{get_or, if◌then◌else◌, length, map, nat_le, refl, subst, sym, take}
use Rattle.std.specs.List.{list_all}
use Rattle.std.proofs.lemmas.Bool.{and_parts, eqb-true, leb-true}
use Rattle.std.proofs.lemmas.List.{drop_all, drop_more, length-append, length-map, length-take}
use Rattle.std.proofs.lemmas.List.Elements.{All-cons, All-nil}
use Rattle.pl_base.specs.declared.id.ItemId.{ItemId}
use Rattle.pl_base.specs.Store.{Store, item_id}
use Rattle.pl_nbread.specs.declared.tree.Node.{Node}
use Rattle.pl_nbread.specs.WellFormed.{IsWellFormed, begins, goes_on, is_folder, is_formed, may_follow}
use Rattle.pl_graft.specs.declared.grafting.Open.{Open}
use Rattle.pl_graft.specs.Import.{folder_of, folders_behind, with_node, with_nodes}
use Rattle.pl_graft.specs.OpenFolders.{AreOpen, Begins, IsOpen, MayGoOn, inner_of, root_of}
use Rattle.pl_graft.specs.Standing.{HasRoom}
use Rattle.pl_graft.proofs.Rooms.{room_before}
use Rattle.pl_graft.proofs.Slots.{IsAtMost, at_most_nodes}

-- ---- places

-- the root alone is open
pub root_open : (store : Store) (place : Open) → IsOpen store place → AreOpen store (place ∷ [])
root_open store place here =
    record {
      each = All-cons (IsOpen store) place [] here (All-nil (IsOpen store));
      once = λ i j d less within. absurd (omega arith);
    }

-- the first place, put where there was none
pub first_place : (none places : List Open) (place : Open) → none ≡ [] → places ≡ none ++ place ∷ []
    → places ≡ place ∷ []
first_place none places place empty put = put ∙ ap (λ (os : List Open). os ++ place ∷ []) empty

pub nodes_whole : (store : Store) (root : ItemId) (nodes : List Node) (places : List Open) (place : Open)
    → places ≡ place ∷ [] → with_nodes root nodes (inner_of places) store ≡ with_nodes root nodes [] store
nodes_whole store root nodes places place first =
    ap (λ (os : List Open). with_nodes root nodes (inner_of os) store) first

pub root_is : (places : List Open) (root : ItemId) (folders : List ItemId)
    → map (λ (o : Open). o.folder) places ≡ root ∷ folders → root_of places ≡ root
root_is [] root folders are = absurd (cc)
root_is (o ∷ os) root folders are = cc

pub inner_is : (places : List Open) (root : ItemId) (folders : List ItemId)
    → map (λ (o : Open). o.folder) places ≡ root ∷ folders → inner_of places ≡ folders
inner_is [] root folders are = absurd (cc)
inner_is (o ∷ os) root folders are = cc

inner_count : (places : List Open) → 0 < length places → length (inner_of places) + 1 ≡ length places
inner_count [] some = absurd (omega arith)
inner_count (o ∷ os) some = omega (arith, length-map os (λ (p : Open). p.folder))

-- how many folders are open behind a node
abbrev pub open_behind : Node → ℕ
open_behind node = node.depth + (if is_folder node.kind then 2 else 1)

behind_count : (b : Bool) (id : ItemId) (depth : ℕ) (folders : List ItemId) → depth ≤ length folders
    → length (take depth folders ++ (if b then id ∷ [] else [])) + 1 ≡ depth + (if b then 2 else 1)
behind_count true id depth folders within =
    omega (arith, length-append (take depth folders) (id ∷ []), length-take depth folders)
behind_count false id depth folders within =
    omega (arith, length-append (take depth folders) [], length-take depth folders)

pub count_behind : (places new : List Open) (root : ItemId) (node : Node) (id : ItemId) → node.depth < length places
    → map (λ (o : Open). o.folder) new ≡ root ∷ folders_behind (inner_of places) node id
    → length new ≡ open_behind node
count_behind places new root node id within are =
    sym (length-map new (λ (o : Open). o.folder)) ∙ ap length are
    ∙ omega (
      arith,
      behind_count (is_folder node.kind) id node.depth (inner_of places)
          (omega (arith, inner_count places (omega (arith, within)))),
    )

-- ---- what is left

pub may_begin : (nodes : List Node) → IsWellFormed nodes → MayGoOn 1 nodes
may_begin nodes formed =
    record { begins = first nodes formed.begins; follow = formed.goes_on; formed = formed.formed }
  where
    first : (ns : List Node) → begins ns ≡ true → Begins 1 ns
    first [] is = tt
    first (n ∷ ns) is = omega (arith, eqb-true n.depth 0 is)

-- a node that may follow has its place
follows : (a b : Node) → may_follow a b ≡ true → b.depth < open_behind a
follows a b may = choose (nat_le b.depth a.depth) refl may
  where
    deeper : (f : Bool) → (f && b.depth == a.depth + 1) ≡ true → b.depth < a.depth + (if f then 2 else 1)
    deeper true is = omega (arith, eqb-true b.depth (a.depth + 1) is)
    deeper false is = absurd (cc)

    no_deeper : (f : Bool) → b.depth ≤ a.depth → b.depth < a.depth + (if f then 2 else 1)
    no_deeper true le = omega (arith, le)
    no_deeper false le = omega (arith, le)

    choose : (l : Bool) → nat_le b.depth a.depth ≡ l
        → (l || is_folder a.kind && b.depth == a.depth + 1) ≡ true → b.depth < open_behind a
    choose true is here = no_deeper (is_folder a.kind) (leb-true b.depth a.depth is)
    choose false is here = deeper (is_folder a.kind) here

pub may_go_on : (count : ℕ) (node : Node) (nodes : List Node) → MayGoOn count (node ∷ nodes)
    → MayGoOn (open_behind node) nodes
may_go_on count node nodes may =
    record {
      begins = first nodes may.follow;
      follow = rest nodes may.follow;
      formed = (and_parts (is_formed node) (list_all is_formed nodes) may.formed).1;
    }
  where
    first : (ns : List Node) → goes_on (node ∷ ns) ≡ true → Begins (open_behind node) ns
    first [] is = tt
    first (n ∷ ns) is = follows node n (and_parts (may_follow node n) (goes_on (n ∷ ns)) is).0

    rest : (ns : List Node) → goes_on (node ∷ ns) ≡ true → goes_on ns ≡ true
    rest [] is = refl
    rest (n ∷ ns) is = (and_parts (may_follow node n) (goes_on (n ∷ ns)) is).1

-- ---- the next node

-- the nodes of a list from one on
pub node_next : (nodes : List Node) (i : ℕ) (node : Node) → i < length nodes → node ≡ get_or nodes i node
    → drop i nodes ≡ node ∷ drop (i + 1) nodes
node_next nodes i node within is =
    drop_more nodes i node within ∙ ap (λ (n : Node). n ∷ drop (i + 1) nodes) (sym is)

pub node_formed : (count : ℕ) (nodes : List Node) (i : ℕ) (node : Node) → i < length nodes
    → node ≡ get_or nodes i node → MayGoOn count (drop i nodes) → is_formed node ≡ true
node_formed count nodes i node within is may =
    (and_parts (is_formed node) (list_all is_formed (drop (i + 1) nodes))
    (subst (MayGoOn count) (node_next nodes i node within is) may).formed).0

pub node_depth : (count : ℕ) (nodes : List Node) (i : ℕ) (node : Node) → i < length nodes
    → node ≡ get_or nodes i node → MayGoOn count (drop i nodes) → node.depth < count
node_depth count nodes i node within is may =
    (subst (MayGoOn count) (node_next nodes i node within is) may).begins

pub node_behind : (count next : ℕ) (nodes : List Node) (i : ℕ) (node : Node) → i < length nodes
    → node ≡ get_or nodes i node → next ≡ open_behind node → MayGoOn count (drop i nodes)
    → MayGoOn next (drop (i + 1) nodes)
node_behind count next nodes i node within is counted may =
    rw counted
    (may_go_on count node (drop (i + 1) nodes) (subst (MayGoOn count) (node_next nodes i node within is) may))

pub nodes_one : (store : Store) (root : ItemId) (nodes : List Node) (folders : List ItemId) (i : ℕ) (node : Node)
    → i < length nodes → node ≡ get_or nodes i node
    → with_nodes root (drop i nodes) folders store
    ≡ with_nodes root (drop (i + 1) nodes) (folders_behind folders node (item_id store.ids.item))
    (with_node (folder_of root folders node) node store)
nodes_one store root nodes folders i node within is =
    ap (λ (ns : List Node). with_nodes root ns folders store) (node_next nodes i node within is)

pub nodes_room : (store whole : Store) (root : ItemId) (nodes : List Node) (places : List Open) (i : ℕ) (node : Node)
    → i < length nodes → node ≡ get_or nodes i node → root_of places ≡ root
    → with_nodes root (drop i nodes) (inner_of places) store ≡ whole → HasRoom whole
    → HasRoom (with_node (folder_of (root_of places) (inner_of places) node) node store)
nodes_room store whole root nodes places i node within is first left room =
    let folders : List ItemId = inner_of places in
    let next : Store = with_node (folder_of root folders node) node store in
    rw first
    (room_before next whole
    (subst (IsAtMost next) (sym (nodes_one store root nodes folders i node within is) ∙ left)
    (at_most_nodes next root (drop (i + 1) nodes) (folders_behind folders node (item_id store.ids.item))))
    room)

pub nodes_left : (store new whole : Store) (root : ItemId) (nodes : List Node) (places more : List Open) (i : ℕ)
    (node : Node) → i < length nodes → node ≡ get_or nodes i node → root_of places ≡ root
    → with_nodes root (drop i nodes) (inner_of places) store ≡ whole
    → new ≡ with_node (folder_of (root_of places) (inner_of places) node) node store
    → map (λ (o : Open). o.folder) more
    ≡ root_of places ∷ folders_behind (inner_of places) node (item_id store.ids.item)
    → with_nodes root (drop (i + 1) nodes) (inner_of more) new ≡ whole
nodes_left store new whole root nodes places more i node within is first left made are =
    let folders : List ItemId = inner_of places in
    let behind : List ItemId = folders_behind folders node (item_id store.ids.item) in
    ap (λ (fs : List ItemId). with_nodes root (drop (i + 1) nodes) fs new)
    (inner_is more (root_of places) behind are)
    ∙ ap (with_nodes root (drop (i + 1) nodes) behind)
    (made ∙ ap (λ (r : ItemId). with_node (folder_of r folders node) node store) first)
    ∙ sym (nodes_one store root nodes folders i node within is)
    ∙ left

pub nodes_end : (store : Store) (root : ItemId) (nodes : List Node) (folders : List ItemId) (i : ℕ)
    → length nodes ≤ i → store ≡ with_nodes root (drop i nodes) folders store
nodes_end store root nodes folders i past =
    sym (ap (λ (ns : List Node). with_nodes root ns folders store) (drop_all i nodes past))

-- Where a tree that grew ends: it is whole, or the items are no tree.
use Rattle.std.proofs.Common.{◌≡◌, ◌≢◌, ◌==◌, ◌<◌, ◌≤◌, ◌∙◌, inl, inr, ℕ, Bool, true, false, List, [], ◌∷◌, map}
use Rattle.std.proofs.Common.{Option, Some, None, ap, sym, subst, arith, refl, get_or, length, take}
use Rattle.std.proofs.Common.{if◌then◌else◌, IfSome, eqb}
use Rattle.std.specs.Bool.{IsTrue}
use Rattle.std.specs.List.{All, AllByRecursion, AllPairs, list_all}
use Rattle.std.specs.List.Sorted.{IsStrictlyIncreasing}
use Rattle.std.specs.Option.{is_none, is_some}
use Rattle.std.proofs.lemmas.Bool.{and_parts, both_ways, false_from_ne_true}
use Rattle.std.proofs.lemmas.List.{take_all, length-map}
use Rattle.std.proofs.lemmas.List.Elements.{All-from_recursion, recursion_from_All}
use Rattle.std.proofs.lemmas.List.Kept.{AllPairs-from_increasing}
use Rattle.std.proofs.lemmas.List.Sorted.{IsPermutation-sym}
use Rattle.std.proofs.lemmas.List.Sums.{sum_by_more_le}
use Rattle.pl_base.specs.declared.id.ItemId.{ItemId}
use Rattle.pl_base.specs.Good.{IsTree, child_ids}
use Rattle.pl_base.specs.Store.{Item, item_id}
use Rattle.pl_base.specs.Tree.{has_item}
use Rattle.pl_base.proofs.ItemLookUps.{has_in, same_item_number}
use Rattle.pl_base.proofs.KeyCounts.{Ascends, Once, ascends_from_pairs, count, count-cons, counted, tick}
use Rattle.pl_base.proofs.KeyCounts.{once_from_pairs, pairs_from_once, tick_same}
use Rattle.pl_base.proofs.ListLaws.{AllPairs-from_map, AllPairs-map, list_any-map, map-map, sum_by-map}
use Rattle.pl_base.proofs.Among.{In, all_from_in, at_in, from_flat_map, from_map, in_flat_map, in_map}
use Rattle.pl_base.proofs.Among.{in_permutation}
use Rattle.pl_base.proofs.ListLaws.{to_map}
use Rattle.pl_base.proofs.Truths.{is_none_at}
use Rattle.pl_items.specs.Nodes.{AreNodes, by_id, child_nodes, has_node, ids_under, item_of, items_of}
use Rattle.pl_items.specs.TakenOut.{IsPlanted, Plants, item_waiting, node_of, waiting_ids, waiting_row}
use Rattle.pl_items.specs.declared.by_id.Child.{Child}
use Rattle.pl_items.specs.declared.node.Node.{Node}
use Rattle.pl_items.specs.declared.plant.Waiting.{Waiting}
use Rattle.pl_items.proofs.Ascending.{only}
use Rattle.pl_items.proofs.KeyCounts.{count-flat_map, pairs_from_ascent, same_key, sum_of_part}
use Rattle.pl_items.proofs.Members.{in_place}
use Rattle.pl_items.proofs.NodeOrder.{by_id-ascends, by_id-moves, node_key}
use Rattle.pl_items.proofs.PlantSteps.{Apart, IsPlanting, IsReachedId, child_id, children_ids, item_id_of}
use Rattle.pl_items.proofs.PlantSteps.{nodes_of, parents, row_parent}
use Rattle.pl_items.proofs.RowsUnder.{root_under, row_ids, under_taken}
use Rattle.pl_items.proofs.TakenItems.{empty_place, in_has, place_of, unwaited}
use Rattle.pl_items.proofs.WaitingRows.{waiting_key}

abbrev pub item_key : Item → ℕ
item_key i = i.id.0

-- no item waits in this place
abbrev IsEmpty : Waiting → Type 0
IsEmpty w = w.item ≡ None

abbrev gone : Waiting → Bool
gone w = is_none w.item

abbrev pub id_key : ItemId → ℕ
id_key id = id.0

-- ---- the items of the nodes

items_back : (nodes : List Node) (ps : List (Option ItemId)) (ts : List Item) → length ps ≡ length ts
    → AllByRecursion (λ (t : Item). child_nodes nodes t.id ≡ t.children) ts → map (item_of nodes) (nodes_of ps ts) ≡ ts
items_back nodes [] [] long all = refl
items_back nodes [] (t ∷ ts) long all = absurd (omega arith)
items_back nodes (p ∷ ps) [] long all = absurd (omega arith)
items_back nodes (p ∷ ps) (t ∷ ts) long all =
    let first : item_of nodes (node_of p t) ≡ t = ap (λ (ids : List ItemId). record t { children = ids }) all.0 in
    rw (first, items_back nodes ps ts (omega arith) all.1)

parents_all : (Q : Option ItemId → Type 0) (ps : List (Option ItemId)) (ts : List Item) → AllByRecursion Q ps
    → AllByRecursion (λ (n : Node). Q n.parent) (nodes_of ps ts)
parents_all Q [] ts all = tt
parents_all Q (p ∷ ps) [] all = tt
parents_all Q (p ∷ ps) (t ∷ ts) all = (all.0, parents_all Q ps ts all.1)

ascends_map : {X Y : Type 0} (key : Y → ℕ) (f : X → Y) (xs : List X) → Ascends (λ x. key (f x)) xs
    → Ascends key (map f xs)
ascends_map key f [] up = tt
ascends_map key f (x ∷ xs) up = (to_map (λ y. key (f x) < key y) f xs up.0, ascends_map key f xs up.1)

module _ {items : List Item} {waiting : List Waiting} {nodes : List Node} {pending : List Child} {next : ℕ}
    (s : IsPlanting items waiting nodes pending next) where
  known_in : (t : Item) → In t s.taken → In t items
  known_in t h = at_in (λ u. In u items) s.taken t s.known h

  taken_apart : AllPairs (λ (a b : Item). a ≢ b) s.taken
  taken_apart i j d before within e = s.apart i j d before within (ap item_key e)

  ids_once : Once id_key (map item_id_of s.taken)
  ids_once =
      once_from_pairs id_key (map item_id_of s.taken)
      (AllPairs-map (λ a b. id_key a ≢ id_key b) item_id_of s.taken s.apart)

  -- an item whose id was taken out was taken out
  has_taken : Ascends item_key items → (i : Item) → In i items → has_item s.taken i.id ≡ true → In i s.taken
  has_taken up i h has =
      let r = in_has s.taken i.id has in
      let t : Item = r.0 in
      let same : t ≡ i = same_key item_key items t i up (known_in t r.1) h r.2 in
      subst (λ j. In j s.taken) same r.1

  module _ (ended : length pending ≤ next) where
    ids_all : map item_id_of s.taken ≡ item_id 1 ∷ map child_id pending
    ids_all = s.ids ∙ ap (λ rows. item_id 1 ∷ map child_id rows) (take_all next pending ended)

    pending_ids : map child_id pending ≡ child_ids s.taken
    pending_ids = ap (map child_id) s.rows ∙ row_ids s.taken

    taken_ids : map item_id_of s.taken ≡ item_id 1 ∷ child_ids s.taken
    taken_ids = ids_all ∙ ap (λ ids. item_id 1 ∷ ids) pending_ids

    nodes_all : nodes ≡ nodes_of (parents pending) s.taken
    nodes_all = s.nodes_are ∙ ap (λ rows. nodes_of (parents rows) s.taken) (take_all next pending ended)

    children_are : AllByRecursion (λ (t : Item). child_nodes nodes t.id ≡ t.children) s.taken
    children_are =
        all_from_in (λ (t : Item). child_nodes nodes t.id ≡ t.children) s.taken (λ t h.
        ap (λ ns. child_nodes ns t.id) nodes_all
        ∙ root_under pending s.taken t.id ids_all
        ∙ ap (λ rows. ids_under rows t.id) s.rows
        ∙ under_taken s.taken t s.apart h)

    items_taken : map (item_of nodes) nodes ≡ s.taken
    items_taken =
        let long : length (parents pending) ≡ length s.taken =
        omega (
          arith,
          length-map pending (λ (d : Child). Some d.parent),
          length-map pending child_id,
          length-map s.taken item_id_of,
          ap length ids_all,
        )
        in
        ap (map (item_of nodes)) nodes_all ∙ items_back nodes (parents pending) s.taken long children_are

    keys_apart : AllPairs (λ m o. node_key m ≢ node_key o) nodes
    keys_apart =
        AllPairs-from_map Apart (item_of nodes) nodes
        (subst (AllPairs Apart) (sym items_taken) s.apart)

    has_same : (id : ItemId) → has_node nodes id ≡ has_item s.taken id
    has_same id =
        sym (list_any-map (λ (i : Item). i.id.0 == id.0) (item_of nodes) nodes) ∙ ap (λ ts. has_item ts id) items_taken

    id_known : (id : ItemId) → In id (item_id 1 ∷ child_ids s.taken) → has_item s.taken id ≡ true
    id_known id h =
        let r = from_map item_id_of s.taken id (subst (In id) (sym taken_ids) h) in
        subst (λ k. has_item s.taken k ≡ true) (sym r.2) (has_in s.taken r.0 r.1)

    parent_known : (c : Child) → In c pending → has_node nodes c.parent ≡ true
    parent_known c h =
        let r = row_parent s.taken c (subst (In c) s.rows h) in
        has_same c.parent ∙ subst (λ k. has_item s.taken k ≡ true) (sym r.2) (has_in s.taken r.0 r.1)

    nodes_good : AreNodes nodes
    nodes_good =
        let Q : Option ItemId → Type 0 = λ p. IfSome p (λ id. has_node nodes id ≡ true) in
        let each : AllByRecursion Q (map (λ (c : Child). Some c.parent) pending) =
        all_from_in Q (map (λ (c : Child). Some c.parent) pending) (λ p h.
        let r = from_map (λ (c : Child). Some c.parent) pending p h in
        subst Q (sym r.2) (parent_known r.0 r.1))
        in
        let by_place : AllByRecursion (λ (n : Node). Q n.parent) nodes =
        subst (AllByRecursion (λ (n : Node). Q n.parent)) (sym nodes_all)
        (parents_all Q (parents pending) s.taken (tt, each))
        in
        record {
          distinct = λ i j d before within e. keys_apart i j d before within (ap id_key e);
          parents = All-from_recursion (λ (n : Node). Q n.parent) nodes by_place;
        }

    -- ---- none waits any more

    module _ (up : Ascends item_key items) (empty : AllByRecursion IsEmpty waiting) where
      taken_all : (i : Item) → In i items → In i s.taken
      taken_all i h =
          let places = map (place_of s.taken) items in
          let out =
          at_in IsEmpty places (place_of s.taken i)
          (subst (AllByRecursion IsEmpty) s.waits empty)
          (in_map (place_of s.taken) items i h)
          in
          has_taken up i h (empty_place s.taken i out)

      whole_items : items_of nodes ≡ items
      whole_items =
          let sorted = by_id nodes in
          only item_key (map (item_of nodes) sorted) items
          (ascends_map item_key (item_of nodes) sorted (by_id-ascends nodes keys_apart)) up
          (λ i h.
          let r = from_map (item_of nodes) sorted i h in
          let n : Node = r.0 in
          let at_n = in_permutation sorted nodes n (IsPermutation-sym nodes sorted (by_id-moves nodes)) r.1 in
          let among : In (item_of nodes n) s.taken =
          subst (In (item_of nodes n)) items_taken (in_map (item_of nodes) nodes n at_n)
          in
          subst (λ j. In j items) (sym r.2) (known_in (item_of nodes n) among))
          (λ i h.
          let r = from_map (item_of nodes) nodes i (subst (In i) (sym items_taken) (taken_all i h)) in
          let n : Node = r.0 in
          let at_n = in_permutation nodes sorted n (by_id-moves nodes) r.1 in
          subst (λ j. In j (map (item_of nodes) sorted)) (sym r.2) (in_map (item_of nodes) sorted n at_n))

      child_taken : (c : ItemId) → In c (child_ids items) → In c (child_ids s.taken)
      child_taken c h =
          let r = from_flat_map children_ids items c h in
          in_flat_map children_ids s.taken r.0 c (taken_all r.0 r.1) r.2

      child_known : (c : ItemId) → In c (child_ids items) → IsTrue (has_item items c)
      child_known c h =
          let r = in_has s.taken c (id_known c (inr (child_taken c h))) in
          let t : Item = r.0 in
          subst (λ k. has_item items k ≡ true) (same_item_number t.id c r.2) (has_in items t (known_in t r.1))

      items_apart : AllPairs (λ (a b : Item). a ≢ b) items
      items_apart i j d before within e =
          let less = pairs_from_ascent item_key items up i j d before within in
          let same = ap item_key e in
          omega arith

      child_once : Once id_key (item_id 1 ∷ child_ids items)
      child_once k =
          let g : Item → ℕ = λ i. count id_key k i.children in
          omega (
            arith,
            count-cons id_key k (item_id 1) (child_ids items),
            count-cons id_key k (item_id 1) (child_ids s.taken),
            count-flat_map id_key k children_ids items,
            count-flat_map id_key k children_ids s.taken,
            sum_of_part g items s.taken items_apart taken_all,
            ap (count id_key k) taken_ids,
            ids_once k,
          )

      whole_tree : IsTree items
      whole_tree =
          let apart = pairs_from_once id_key (item_id 1 ∷ child_ids items) child_once in
          record {
            known = All-from_recursion (λ c. IsTrue (has_item items c)) (child_ids items)
                (all_from_in (λ c. IsTrue (has_item items c)) (child_ids items) child_known);
            once = λ i j d before within e. apart i j d before within (ap id_key e);
            reached = λ holds one closed. All-from_recursion (λ (i : Item). IsTrue (holds i.id)) items
                (all_from_in (λ (i : Item). IsTrue (holds i.id)) items (λ i h.
                at_in (λ (t : Item). IsReachedId items t.id) s.taken i s.reached (taken_all i h) holds (one, closed)));
          }

      pub whole : IsPlanted items nodes
      whole = record { nodes_are = nodes_good; items_are = whole_items; tree = whole_tree }

    -- ---- items that are a tree

    pub none_waits_more : Ascends item_key items → IsTree items → AllByRecursion IsEmpty waiting
    none_waits_more up tree =
        let holds : ItemId → Bool = λ id. has_item s.taken id in
        let closed : All (λ (i : Item). IsTrue (holds i.id) → All (λ c. IsTrue (holds c)) i.children) items =
        All-from_recursion (λ (i : Item). IsTrue (holds i.id) → All (λ c. IsTrue (holds c)) i.children) items
        (all_from_in (λ (i : Item). IsTrue (holds i.id) → All (λ c. IsTrue (holds c)) i.children) items (λ i h has.
        All-from_recursion (λ c. IsTrue (holds c)) i.children
        (all_from_in (λ c. IsTrue (holds c)) i.children (λ c g.
        id_known c (inr (in_flat_map children_ids s.taken i c (has_taken up i h has) g))))))
        in
        let all =
        recursion_from_All (λ (i : Item). IsTrue (holds i.id)) items
        (tree.reached holds (id_known (item_id 1) (inl refl)) closed)
        in
        let places = map (place_of s.taken) items in
        subst (AllByRecursion IsEmpty) (sym s.waits)
        (all_from_in IsEmpty places (λ v h.
        let r = from_map (place_of s.taken) items v h in
        let i : Item = r.0 in
        let has = at_in (λ (j : Item). IsTrue (holds j.id)) items i all r.1 in
        let nothing : (if has_item s.taken i.id then None else Some i) ≡ None =
        ap (λ b. if b then None else Some i) has
        in
        ap (λ (w : Waiting). w.item) r.2 ∙ nothing))

  -- where the next child does not wait the items are no tree
  pub no_tree : (c : Child) → next < length pending → c ≡ get_or pending next c → item_waiting waiting c.id ≡ None
      → IsTree items → ⊥
  no_tree c more at_next none tree =
      let k = c.id.0 in
      let waits : In c pending = subst (λ d. In d pending) (sym at_next) (in_place pending next c more) in
      let r = row_parent s.taken c (subst (In c) s.rows waits) in
      let u : Item = r.0 in
      let child : In c.id (child_ids items) = in_flat_map children_ids items u c.id (known_in u r.1) r.3 in
      let there = at_in (λ id. IsTrue (has_item items id)) (child_ids items) c.id
      (recursion_from_All (λ id. IsTrue (has_item items id)) (child_ids items) tree.known) child
      in
      let out = unwaited s.taken items c.id (sym (ap (λ rows. item_waiting rows c.id) s.waits) ∙ none) there in
      let q = in_has s.taken c.id out in
      let t : Item = q.0 in
      let among = in_map item_id_of s.taken t q.1 in
      let before = counted id_key k (map item_id_of s.taken) t.id among q.2 in
      let row_count : List Child → ℕ = count (λ (d : Child). d.id.0) k in
      let g : Item → ℕ = λ i. count id_key k i.children in
      let tree_once = once_from_pairs id_key (item_id 1 ∷ child_ids items)
      (λ i j d first within e. tree.once i j d first within (same_item_number _ _ e)) k
      in
      let here : tick (eqb (get_or pending next c).id.0 k) ≡ 1 =
      tick_same (get_or pending next c).id.0 k (ap (λ (d : Child). d.id.0) (sym at_next))
      in
      omega (
        arith,
        before,
        here,
        tree_once,
        ap (count id_key k) s.ids,
        count-cons id_key k (item_id 1) (map child_id (take next pending)),
        count-cons id_key k (item_id 1) (child_ids items),
        count-map k (take next pending),
        count-map k pending,
        sum_by_more_le (λ (d : Child). tick (eqb d.id.0 k)) pending next c more,
        ap (count id_key k) pending_are,
        count-flat_map id_key k children_ids s.taken,
        count-flat_map id_key k children_ids items,
        sum_of_part g s.taken items taken_apart known_in,
      )
    where
      count-map : (k : ℕ) (rows : List Child)
          → count id_key k (map child_id rows) ≡ count (λ (d : Child). d.id.0) k rows
      count-map k rows = sum_by-map (λ (id : ItemId). tick (eqb id.0 k)) child_id rows

      pending_are : map child_id pending ≡ child_ids s.taken
      pending_are = ap (map child_id) s.rows ∙ row_ids s.taken

-- where item 1 does not wait at first there is none
pub no_root : (items : List Item) → item_waiting (map waiting_row items) (item_id 1) ≡ None
    → has_item items (item_id 1) ≡ false
no_root items none =
    false_from_ne_true (has_item items (item_id 1)) (λ has.
    both_ways false refl (unwaited [] items (item_id 1) none has))

-- ---- as the calls say it

pub begins_not : (items : List Item) (w : List Waiting) → w ≡ map waiting_row items
    → is_some (item_waiting w (item_id 1)) ≡ false → has_item items (item_id 1) ≡ false
begins_not items w start none =
    no_root items
    (sym (ap (λ rows. item_waiting rows (item_id 1)) start) ∙ is_none_at (item_waiting w (item_id 1)) none)

pub continues_not : (items : List Item) (w : List Waiting) (n : List Node) (p : List Child) (k : ℕ) (c : Child)
    → IsPlanting items w n p k → k < length p → c ≡ get_or p k c → is_some (item_waiting w c.id) ≡ false
    → IsTree items → ⊥
continues_not items w n p k c s more at_next none = no_tree s c more at_next (is_none_at (item_waiting w c.id) none)

empties : (w : List Waiting) → list_all gone w ≡ true
    → AllByRecursion IsEmpty w
empties [] all = tt
empties (v ∷ vs) all =
    let parts = and_parts (is_none v.item) (list_all gone vs) all in
    (nothing v.item parts.0, empties vs parts.1)
  where
    nothing : (o : Option Item) → is_none o ≡ true → o ≡ None
    nothing None none = refl
    nothing (Some i) none = absurd (both_ways false refl none)

all_empty : (w : List Waiting) → AllByRecursion IsEmpty w
    → list_all gone w ≡ true
all_empty [] empty = refl
all_empty (v ∷ vs) empty = rw (empty.0, all_empty vs empty.1)

-- whether none waits any more is whether the items are a tree
pub plants : (items : List Item) (w : List Waiting) (n : List Node) (p : List Child) (k : ℕ) → IsPlanting items w n p k
    → length p ≤ k → Ascends item_key items → (b : Bool) → b ≡ list_all gone w → Plants items n b
plants items w n p k s ended up true is = whole s ended up (empties w (sym is))
plants items w n p k s ended up false is = λ tree.
    absurd (both_ways false refl (is ∙ all_empty w (none_waits_more s ended up tree)))

pub items_ascend : (items : List Item) (w : List Waiting) → w ≡ map waiting_row items
    → IsStrictlyIncreasing (waiting_ids w) → Ascends item_key items
items_ascend items w start up =
    let same : waiting_ids w ≡ map item_key items = ap waiting_ids start ∙ map-map waiting_key waiting_row items in
    ascends_from_pairs item_key items
    (AllPairs-from_map (λ k m. k < m) item_key items
    (AllPairs-from_increasing (map item_key items) (subst IsStrictlyIncreasing same up)))

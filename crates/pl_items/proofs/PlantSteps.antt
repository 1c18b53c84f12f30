-- How a tree grows by one item after another.
use Rattle.std.proofs.Common.{◌≡◌, ◌≢◌, ◌+◌, ◌<◌, ◌≤◌, ◌++◌, ◌∙◌, ℕ, Bool, true, false, List, [], ◌∷◌, map}
use Rattle.std.proofs.Common.{Option, Some, None, ap, sym, subst, arith, refl, get_or, length, take}
use Rattle.std.specs.Bool.{IsTrue}
use Rattle.std.specs.List.{All, AllByRecursion, AllPairs, flat_map}
use Rattle.std.specs.Option.{is_some, option_to_list}
use Rattle.std.proofs.lemmas.Bool.{both_ways}
use Rattle.std.proofs.lemmas.List.{append-nil, flat_map_more, length-append, length-map, map_push}
use Rattle.std.proofs.lemmas.List.{take-append-le, take_more}
use Rattle.std.proofs.lemmas.List.Elements.{recursion_from_All}
use Rattle.std.proofs.lemmas.List.Quantifiers.{all_pairs_push}
use Rattle.pl_base.specs.declared.id.ItemId.{ItemId}
use Rattle.pl_base.specs.Store.{Item, item_id}
use Rattle.pl_base.specs.Tree.{has_item}
use Rattle.pl_base.proofs.Among.{In, at_in, from_flat_map, from_map}
use Rattle.pl_base.proofs.ItemLookUps.{has_in, same_item_number}
use Rattle.pl_base.proofs.ListLaws.{all_push}
use Rattle.pl_items.specs.TakenOut.{children_rows, item_waiting, node_of, taken_out, waiting_row}
use Rattle.pl_items.specs.declared.by_id.Child.{Child}
use Rattle.pl_items.specs.declared.node.Node.{Node}
use Rattle.pl_items.specs.declared.plant.Waiting.{Waiting}
use Rattle.pl_items.proofs.Members.{in_place}
use Rattle.pl_items.proofs.TakenItems.{IsWaiting, place_of, taken_out_is, waited_is}

-- two items have different ids
abbrev pub Apart : Item → Item → Type 0
Apart a b = a.id.0 ≢ b.id.0

abbrev pub child_id : Child → ItemId
child_id c = c.id

abbrev pub item_id_of : Item → ItemId
item_id_of i = i.id

abbrev pub children_ids : Item → List ItemId
children_ids i = i.children

-- the nodes of items, whose parents stand in the same order
abbrev pub nodes_of : List (Option ItemId) → List Item → List Node
nodes_of [] ts = []
nodes_of (p ∷ ps) [] = []
nodes_of (p ∷ ps) (t ∷ ts) = node_of p t ∷ nodes_of ps ts

-- the parents of item 1 and of these children
abbrev pub parents : List Child → List (Option ItemId)
parents rows = None ∷ map (λ (c : Child). Some c.parent) rows

-- what holds of item 1, and of each child of an item that it holds of
abbrev pub Spreads : List Item → (ItemId → Bool) → Type 0
Spreads items holds =
    IsTrue (holds (item_id 1))
    × All (λ (i : Item). IsTrue (holds i.id) → All (λ c. IsTrue (holds c)) i.children) items

-- it holds of this one
abbrev pub IsReachedId : List Item → ItemId → Type 0
IsReachedId items id = (holds : ItemId → Bool) → Spreads items holds → IsTrue (holds id)

-- a tree that grows: some items were taken out, item 1 and then the first children of those that
-- were; these are the nodes, and their children are pending
pub record IsPlanting (items : List Item) (waiting : List Waiting) (nodes : List Node) (pending : List Child)
    (next : ℕ) : Type 0 where
  pub taken : List Item
  pub waits : waiting ≡ map (place_of taken) items
  pub known : AllByRecursion (λ t. In t items) taken
  pub apart : AllPairs Apart taken
  pub rows : pending ≡ flat_map children_rows taken
  pub ids : map item_id_of taken ≡ item_id 1 ∷ map child_id (take next pending)
  pub nodes_are : nodes ≡ nodes_of (parents (take next pending)) taken
  pub reached : AllByRecursion (λ (t : Item). IsReachedId items t.id) taken
  pub within : next ≤ length pending

-- ---- the first item

pub starts : (items : List Item) (t : Item) → item_waiting (map waiting_row items) (item_id 1) ≡ Some t
    → IsPlanting items (taken_out (item_id 1) (map waiting_row items)) (node_of None t ∷ []) (children_rows t) 0
starts items t found =
    let w : IsWaiting [] items (item_id 1) t = waited_is [] items (item_id 1) t found in
    let one : t.id ≡ item_id 1 = same_item_number t.id (item_id 1) w.1 in
    record {
      taken = t ∷ [];
      waits = taken_out_is [] items t (item_id 1) w.1;
      known = (w.0, tt);
      apart = λ i j d before within. absurd (omega arith);
      rows = sym (append-nil (children_rows t));
      ids = ap (λ id. id ∷ []) one;
      nodes_are = refl;
      reached = ((λ holds spreads. subst (λ id. IsTrue (holds id)) (sym one) spreads.0), tt);
      within = omega arith;
    }

-- ---- one more

nodes_push : (ps : List (Option ItemId)) (ts : List Item) (p : Option ItemId) (t : Item) → length ps ≡ length ts
    → nodes_of ps ts ++ node_of p t ∷ [] ≡ nodes_of (ps ++ p ∷ []) (ts ++ t ∷ [])
nodes_push [] [] p t e = refl
nodes_push [] (u ∷ us) p t e = absurd (omega arith)
nodes_push (q ∷ qs) [] p t e = absurd (omega arith)
nodes_push (q ∷ qs) (u ∷ us) p t e = ap (λ ns. node_of q u ∷ ns) (nodes_push qs us p t (omega arith))

apart_push : (taken : List Item) (t : Item) → AllPairs Apart taken → has_item taken t.id ≡ false
    → AllPairs Apart (taken ++ t ∷ [])
apart_push taken t apart new =
    all_pairs_push Apart taken t apart (λ k d lt e.
    let u = get_or taken k d in
    let has = has_in taken u (in_place taken k d lt) in
    both_ways (has_item taken t.id) new (subst (λ id. has_item taken id ≡ true) (same_item_number u.id t.id e) has))

-- the item whose child a row is
pub row_parent : (taken : List Item) (c : Child) → In c (flat_map children_rows taken)
    → (u : Item) × In u taken × (c.parent ≡ u.id) × In c.id u.children
row_parent taken c h =
    let r = from_flat_map children_rows taken c h in
    let u : Item = r.0 in
    let row : ItemId → Child = λ k. record { parent = u.id; id = k } in
    let q = from_map row u.children c r.2 in
    (u, r.1, ap (λ (d : Child). d.parent) q.2, subst (λ k. In k u.children) (sym (ap child_id q.2)) q.1)

reached_child : (items taken : List Item) (c : Child) (id : ItemId) → AllByRecursion (λ t. In t items) taken
    → AllByRecursion (λ (t : Item). IsReachedId items t.id) taken → In c (flat_map children_rows taken) → id ≡ c.id
    → IsReachedId items id
reached_child items taken c id known reached h same holds spreads =
    let r = row_parent taken c h in
    let u : Item = r.0 in
    let at_u : IsTrue (holds u.id) = at_in (λ (t : Item). IsReachedId items t.id) taken u reached r.1 holds spreads in
    let closed =
    at_in (λ (i : Item). IsTrue (holds i.id) → All (λ k. IsTrue (holds k)) i.children) items u
    (recursion_from_All (λ (i : Item). IsTrue (holds i.id) → All (λ k. IsTrue (holds k)) i.children) items spreads.1)
    (at_in (λ t. In t items) taken u known r.1)
    in
    let at_c =
    at_in (λ k. IsTrue (holds k)) u.children c.id
    (recursion_from_All (λ k. IsTrue (holds k)) u.children (closed at_u)) r.3
    in
    subst (λ k. IsTrue (holds k)) (sym same) at_c

pub goes_on : (items : List Item) (waiting : List Waiting) (nodes : List Node) (pending : List Child) (next : ℕ)
    (c : Child) (t : Item) → IsPlanting items waiting nodes pending next → next < length pending
    → c ≡ get_or pending next c → item_waiting waiting c.id ≡ Some t
    → IsPlanting items (taken_out c.id waiting) (nodes ++ node_of (Some c.parent) t ∷ [])
    (pending ++ children_rows t) (next + 1)
goes_on items waiting nodes pending next c t s more at_next found =
    let w : IsWaiting s.taken items c.id t =
    waited_is s.taken items c.id t (sym (ap (λ rows. item_waiting rows c.id) s.waits) ∙ found)
    in
    let same : t.id ≡ c.id = same_item_number t.id c.id w.1 in
    let after : List Child = pending ++ children_rows t in
    let front : take (next + 1) after ≡ take next pending ++ c ∷ [] =
    take-append-le (next + 1) pending (children_rows t) (omega arith) ∙ take_more pending next c more
    ∙ ap (λ d. take next pending ++ d ∷ []) (sym at_next)
    in
    let child_in : In c (flat_map children_rows s.taken) =
    subst (In c) s.rows (subst (λ d. In d pending) (sym at_next) (in_place pending next c more))
    in
    let long : length (parents (take next pending)) ≡ length s.taken =
    omega (
      arith,
      length-map (take next pending) (λ (d : Child). Some d.parent),
      length-map (take next pending) child_id,
      length-map s.taken item_id_of,
      ap length s.ids,
    )
    in
    record {
      taken = s.taken ++ t ∷ [];
      waits = ap (taken_out c.id) s.waits ∙ taken_out_is s.taken items t c.id w.1;
      known = all_push (λ u. In u items) s.taken t s.known w.0;
      apart = apart_push s.taken t s.apart w.2;
      rows = ap (λ rows. rows ++ children_rows t) s.rows ∙ flat_map_more children_rows [] s.taken t;
      ids = map_push item_id_of s.taken t
          ∙ ap (λ ids. ids ++ t.id ∷ []) s.ids
          ∙ ap (λ id. item_id 1 ∷ (map child_id (take next pending) ++ id ∷ [])) same
          ∙ ap (λ ids. item_id 1 ∷ ids) (sym (map_push child_id (take next pending) c))
          ∙ ap (λ rows. item_id 1 ∷ map child_id rows) (sym front);
      nodes_are = ap (λ ns. ns ++ node_of (Some c.parent) t ∷ []) s.nodes_are
          ∙ nodes_push (parents (take next pending)) s.taken (Some c.parent) t long
          ∙ ap (λ ps. nodes_of (None ∷ ps) (s.taken ++ t ∷ []))
          (sym (map_push (λ (d : Child). Some d.parent) (take next pending) c))
          ∙ ap (λ rows. nodes_of (parents rows) (s.taken ++ t ∷ [])) (sym front);
      reached = all_push (λ (u : Item). IsReachedId items u.id) s.taken t s.reached
          (reached_child items s.taken c t.id s.known s.reached child_in same);
      within = omega (arith, length-append pending (children_rows t));
    }

-- ---- as the calls say it

some_is : {X : Type 0} (o : Option X) → is_some o ≡ true → (x : X) × (o ≡ Some x)
some_is None some = absurd (both_ways false refl some)
some_is (Some x) some = (x, refl)

moved : (items : List Item) (w w' : List Waiting) (n n' : List Node) (p p' : List Child) (k : ℕ)
    → IsPlanting items w n p k → w' ≡ w → n' ≡ n → p' ≡ p → IsPlanting items w' n' p' k
moved items w w' n n' p p' k s at_w at_n at_p =
    subst (λ (v : List Waiting). IsPlanting items v n' p' k) (sym at_w)
    (subst (λ (m : List Node). IsPlanting items w m p' k) (sym at_n)
    (subst (λ (q : List Child). IsPlanting items w n q k) (sym at_p) s))

-- what becomes of the nodes and of their children when this item, if there is one, becomes a node
abbrev pub NodesAdded : Option ItemId → Option Item → List Node → List Node → Type 0
NodesAdded parent found old new = new ≡ old ++ map (node_of parent) (option_to_list found)

abbrev pub ChildrenAdded : Option Item → List Child → List Child → Type 0
ChildrenAdded found old new = new ≡ old ++ flat_map children_rows (option_to_list found)

pub begins : (items : List Item) (w w' : List Waiting) (n n' : List Node) (p p' : List Child)
    → w ≡ map waiting_row items → n ≡ [] → p ≡ [] → is_some (item_waiting w (item_id 1)) ≡ true
    → w' ≡ taken_out (item_id 1) w
    → NodesAdded None (item_waiting w (item_id 1)) n n' → ChildrenAdded (item_waiting w (item_id 1)) p p'
    → IsPlanting items w' n' p' 0
begins items w w' n n' p p' start no_node no_child some at_w at_n at_p =
    let r = some_is (item_waiting w (item_id 1)) some in
    let t : Item = r.0 in
    let found : item_waiting (map waiting_row items) (item_id 1) ≡ Some t =
    sym (ap (λ rows. item_waiting rows (item_id 1)) start) ∙ r.1
    in
    moved items (taken_out (item_id 1) (map waiting_row items)) w' (node_of None t ∷ []) n' (children_rows t) p' 0
    (starts items t found)
    (at_w ∙ ap (taken_out (item_id 1)) start)
    (at_n ∙ ap (λ ns. ns ++ map (node_of None) (option_to_list (item_waiting w (item_id 1)))) no_node
    ∙ ap (λ (o : Option Item). map (node_of None) (option_to_list o)) r.1)
    (at_p ∙ ap (λ rows. rows ++ flat_map children_rows (option_to_list (item_waiting w (item_id 1)))) no_child
    ∙ ap (λ (o : Option Item). flat_map children_rows (option_to_list o)) r.1 ∙ append-nil (children_rows t))

pub continues : (items : List Item) (w w' : List Waiting) (n n' : List Node) (p p' : List Child) (k : ℕ) (c : Child)
    → IsPlanting items w n p k → k < length p → c ≡ get_or p k c → is_some (item_waiting w c.id) ≡ true
    → w' ≡ taken_out c.id w → NodesAdded (Some c.parent) (item_waiting w c.id) n n'
    → ChildrenAdded (item_waiting w c.id) p p' → IsPlanting items w' n' p' (k + 1)
continues items w w' n n' p p' k c s more at_next some at_w at_n at_p =
    let r = some_is (item_waiting w c.id) some in
    let t : Item = r.0 in
    moved items (taken_out c.id w) w' (n ++ node_of (Some c.parent) t ∷ []) n' (p ++ children_rows t) p' (k + 1)
    (goes_on items w n p k c t s more at_next r.1)
    at_w
    (at_n ∙ ap (λ (o : Option Item). n ++ map (node_of (Some c.parent)) (option_to_list o)) r.1)
    (at_p ∙ ap (λ (o : Option Item). p ++ flat_map children_rows (option_to_list o)) r.1
    ∙ ap (λ rows. p ++ rows) (append-nil (children_rows t)))

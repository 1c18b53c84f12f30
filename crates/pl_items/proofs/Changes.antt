-- The items that changed nodes make.
use Rattle.std.proofs.Common.{◌≡◌, ◌≢◌, ◌<◌, ◌==◌, ◌∙◌, ◌++◌, ◌||◌, ℕ, Bool, true, false, cond, List, [], ◌∷◌, not}
use Rattle.std.proofs.Common.{Option, Some, None, All, IfSome, ap, arith, filter, find, if◌then◌else◌, map, refl}
use Rattle.std.proofs.Common.{nat_lt, subst, sym}
use Rattle.std.specs.List.{AllByRecursion}
use Rattle.std.specs.Option.{IsSomeAnd}
use Rattle.std.proofs.lemmas.Bool.Decides.{nat_tests}
use Rattle.std.proofs.lemmas.List.{map-append}
use Rattle.std.proofs.lemmas.List.Elements.{recursion_from_All}
use Rattle.pl_base.specs.declared.date.Micros.{Micros}
use Rattle.pl_base.specs.declared.id.ItemId.{ItemId}
use Rattle.pl_base.specs.declared.item.ItemRow.{ItemRow}
use Rattle.pl_base.specs.Store.{Item}
use Rattle.pl_base.specs.Tree.{adopted, adopting, children_of, has_item, inserted, leaving, moved, new_item, parent_of}
use Rattle.pl_base.specs.Tree.{redated, removed, retitled, with_changed}
use Rattle.pl_base.proofs.ItemLookUps.{same_item}
use Rattle.pl_base.proofs.ListLaws.{all-filter, from_map, list_any-alike, list_any-map, map-alike, map-map, weaker}
use Rattle.pl_base.proofs.LookUps.{found_passes}
use Rattle.pl_items.specs.declared.node.Node.{Node}
use Rattle.pl_items.specs.Nodes.{AreNodes, by_id, child_nodes, has_node, in_id_order, is_parent, item_of, items_of}
use Rattle.pl_items.specs.Nodes.{put_node}
use Rattle.pl_items.proofs.IdOrder.{Differs, Distinct, IsGreatest, Lacks, Lacks-without, all-by_id, by_id-map}
use Rattle.pl_items.proofs.IdOrder.{by_id-without, greatest-last, has_id, has_other_id, in_id_order-map}
use Rattle.pl_items.proofs.IdOrder.{put_back, without}
use Rattle.pl_items.proofs.Children.{Parented, are_nodes, children_is, distinct_nodes, has_item_is, no_children}
use Rattle.pl_items.proofs.Children.{node_there, parent_is, parented_nodes}
use Rattle.pl_items.proofs.Moves.{StandsAt, adopting_is, all-put, any-put, by_id-put, children-put_elsewhere}
use Rattle.pl_items.proofs.Moves.{distinct-put, distinct-without, has_node-without, leaving_is, stands_at}
use Rattle.pl_items.proofs.Places.{changed, changed-none}
use Rattle.pl_base.proofs.ListLaws.{filter-map}

-- the same item with other children
abbrev with_children : Item → List ItemId → Item
with_children i ids = record i { children = ids }

-- nodes that are there stay parents
still_parented : (all new : List Node) → ((id : ItemId) → has_node all id ≡ true → has_node new id ≡ true)
    → (parent : Option ItemId) → IfSome parent (λ id. has_node all id ≡ true)
    → IfSome parent (λ id. has_node new id ≡ true)
still_parented all new stay None there = tt
still_parented all new stay (Some p) there = stay p there

pub node_of : (id : ItemId) (ns : List Node) → has_node ns id ≡ true → (n : Node) × (find (has_id id) ns ≡ Some n)
node_of id ns there = choose (find (has_id id) ns) refl
  where
    choose : (found : Option Node) → find (has_id id) ns ≡ found → (n : Node) × (find (has_id id) ns ≡ Some n)
    choose None is = absurd (node_there id ns there is)
    choose (Some n) is = (n, is)

-- ---- one item changed

module _ (f : Node → Node) (ids : (m : Node) → (f m).id ≡ m.id) (parents : (m : Node) → (f m).parent ≡ m.parent) where
  children-map : (ns : List Node) (id : ItemId) → child_nodes (map f ns) id ≡ child_nodes ns id
  children-map [] id = refl
  children-map (n ∷ ns) id =
      ap (λ b. map (λ (m : Node). m.id) (cond b (f n ∷ filter (λ (m : Node). is_parent id m.parent) (map f ns))
      (filter (λ (m : Node). is_parent id m.parent) (map f ns)))) (ap (is_parent id) (parents n))
      ∙ choose (is_parent id n.parent) (children-map ns id)
    where
      choose : (b : Bool) → child_nodes (map f ns) id ≡ child_nodes ns id
          → map (λ (m : Node). m.id) (cond b (f n ∷ filter (λ (m : Node). is_parent id m.parent) (map f ns))
          (filter (λ (m : Node). is_parent id m.parent) (map f ns)))
          ≡ map (λ (m : Node). m.id) (cond b (n ∷ filter (λ (m : Node). is_parent id m.parent) ns)
          (filter (λ (m : Node). is_parent id m.parent) ns))
      choose true rest =
          ap (λ (i : ItemId). i ∷ child_nodes (map f ns) id) (ids n) ∙ ap (λ is. n.id ∷ is) rest
      choose false rest = rest

  has_node-map : (ns : List Node) (id : ItemId) → has_node (map f ns) id ≡ has_node ns id
  has_node-map ns id =
      list_any-map (has_id id) f ns
      ∙ list_any-alike (λ m. has_id id (f m)) (has_id id) ns (λ m. ap (λ (i : ItemId). i.0 == id.0) (ids m))

  lacks-map : (id : ItemId) (ns : List Node) → Lacks id ns → Lacks id (map f ns)
  lacks-map id [] lacks = tt
  lacks-map id (n ∷ ns) lacks =
      ((λ same. lacks.0 (ap (λ (i : ItemId). i.0) (sym (ids n)) ∙ same)), lacks-map id ns lacks.1)

  distinct-map : (ns : List Node) → Distinct ns → Distinct (map f ns)
  distinct-map [] distinct = tt
  distinct-map (n ∷ ns) distinct =
      (subst (λ i. Lacks i (map f ns)) (sym (ids n)) (lacks-map n.id ns distinct.0), distinct-map ns distinct.1)

  parented-map : (all ns : List Node) → AllByRecursion (Parented all) ns
      → AllByRecursion (Parented (map f all)) (map f ns)
  parented-map all [] parented = tt
  parented-map all (n ∷ ns) parented = (
    subst (λ parent. IfSome parent (λ id. has_node (map f all) id ≡ true)) (sym (parents n))
        (still_parented all (map f all) (λ id there. has_node-map all id ∙ there) n.parent parented.0),
    parented-map all ns parented.1,
  )

  pub mapped_are : (ns : List Node) → AreNodes ns → AreNodes (map f ns)
  mapped_are ns are =
      are_nodes (map f ns) (distinct-map ns (distinct_nodes ns are)) (parented-map ns ns (parented_nodes ns are))

  pub mapped_items : (g : Item → Item) (ns : List Node) → ((m : Node) → item_of ns (f m) ≡ g (item_of ns m))
      → items_of (map f ns) ≡ map g (items_of ns)
  mapped_items g ns changes =
      ap (map (item_of (map f ns))) (by_id-map f ns ids)
      ∙ map-map (item_of (map f ns)) f (by_id ns)
      ∙ map-alike (λ m. item_of (map f ns) (f m)) (λ m. g (item_of ns m)) (by_id ns)
      (λ m. ap (with_children (item_of ns (f m))) (children-map ns (f m).id) ∙ changes m)
      ∙ sym (map-map g (item_of ns) (by_id ns))

-- a change of one node that keeps its id and its parent
module _ (id : ItemId) (f : Node → Node) (ids : (m : Node) → (f m).id ≡ m.id)
    (parents : (m : Node) → (f m).parent ≡ m.parent) where
  changed-id : (m : Node) → (changed id f m).id ≡ m.id
  changed-id m = elim (has_id id m) as (λ b. (cond b (f m) m).id ≡ m.id) [ true ↦ ids m | false ↦ refl ]

  changed-parent : (m : Node) → (changed id f m).parent ≡ m.parent
  changed-parent m =
      elim (has_id id m) as (λ b. (cond b (f m) m).parent ≡ m.parent) [ true ↦ parents m | false ↦ refl ]

  pub changed_are : (ns : List Node) → AreNodes ns → AreNodes (map (changed id f) ns)
  changed_are ns are = mapped_are (changed id f) changed-id changed-parent ns are

  pub changed_items : (g : Item → Item) (ns : List Node) → ((m : Node) → item_of ns (f m) ≡ g (item_of ns m))
      → items_of (map (changed id f) ns) ≡ with_changed id g (items_of ns)
  changed_items g ns changes =
      mapped_items (changed id f) changed-id changed-parent (λ i. if i.id.0 == id.0 then g i else i) ns
      (λ m. elim (has_id id m) as (λ b. item_of ns (cond b (f m) m) ≡ cond b (g (item_of ns m)) (item_of ns m))
      [ true ↦ changes m | false ↦ refl ])

abbrev pub retitling : List ℕ → Micros → Node → Node
retitling title modified n = record n { title = title; modified = modified }

abbrev pub redating : Micros → Node → Node
redating modified n = record n { modified = modified }

pub retitled_are : (id : ItemId) (title : List ℕ) (modified : Micros) (ns ms : List Node) → AreNodes ns
    → ms ≡ map (changed id (retitling title modified)) ns → AreNodes ms
retitled_are id title modified ns ms are is =
    subst AreNodes (sym is) (changed_are id (retitling title modified) (λ m. refl) (λ m. refl) ns are)

pub retitled_items : (id : ItemId) (title : List ℕ) (modified : Micros) (ns ms : List Node)
    → ms ≡ map (changed id (retitling title modified)) ns → items_of ms ≡ retitled id title modified (items_of ns)
retitled_items id title modified ns ms is =
    ap items_of is
    ∙ changed_items id (retitling title modified) (λ m. refl) (λ m. refl)
    (λ i. record i { title = title; modified = modified }) ns (λ m. refl)

pub redated_are : (id : ItemId) (modified : Micros) (ns ms : List Node) → AreNodes ns
    → ms ≡ map (changed id (redating modified)) ns → AreNodes ms
redated_are id modified ns ms are is =
    subst AreNodes (sym is) (changed_are id (redating modified) (λ m. refl) (λ m. refl) ns are)

pub redated_items : (id : ItemId) (modified : Micros) (ns ms : List Node)
    → ms ≡ map (changed id (redating modified)) ns → items_of ms ≡ redated id modified (items_of ns)
redated_items id modified ns ms is =
    ap items_of is
    ∙ changed_items id (redating modified) (λ m. refl) (λ m. refl) (λ i. record i { modified = modified }) ns
    (λ m. refl)

-- ---- one item less

no_child : (id : ItemId) (ns : List Node) → child_nodes ns id ≡ []
    → AllByRecursion (λ (m : Node). is_parent id m.parent ≡ false) ns
no_child id [] none = tt
no_child id (n ∷ ns) none = choose (is_parent id n.parent) refl none (no_child id ns)
  where
    choose : (b : Bool) → is_parent id n.parent ≡ b
        → map (λ (m : Node). m.id) (cond b (n ∷ filter (λ (m : Node). is_parent id m.parent) ns)
        (filter (λ (m : Node). is_parent id m.parent) ns)) ≡ []
        → (child_nodes ns id ≡ [] → AllByRecursion (λ (m : Node). is_parent id m.parent ≡ false) ns)
        → AllByRecursion (λ (m : Node). is_parent id m.parent ≡ false) (n ∷ ns)
    choose true here is rest = absurd (cc)
    choose false here is rest = (here, rest is)

pub removed_are : (id : ItemId) (ns ms : List Node) → AreNodes ns → children_of (items_of ns) id ≡ []
    → ms ≡ without id ns → AreNodes ms
removed_are id ns ms are leaf is =
    subst AreNodes (sym is) (are_nodes (without id ns) (distinct-without id ns (distinct_nodes ns are))
    (all-filter (Parented (without id ns)) (has_other_id id) ns
    (both ns (parented_nodes ns are) (no_child id ns (sym (children_is ns id are) ∙ leaf)))))
  where
    stays : (parent : Option ItemId) → IfSome parent (λ p. has_node ns p ≡ true) → is_parent id parent ≡ false
        → IfSome parent (λ p. has_node (without id ns) p ≡ true)
    stays None there other = tt
    stays (Some p) there other = has_node-without id p ns other there

    both : (xs : List Node) → AllByRecursion (Parented ns) xs
        → AllByRecursion (λ (m : Node). is_parent id m.parent ≡ false) xs
        → AllByRecursion (Parented (without id ns)) xs
    both [] parented others = tt
    both (x ∷ xs) parented others = (stays x.parent parented.0 others.0, both xs parented.1 others.1)

pub removed_items : (id : ItemId) (ns ms : List Node) → AreNodes ns → has_item (items_of ns) id ≡ true
    → ms ≡ without id ns → items_of ms ≡ removed id (items_of ns)
removed_items id ns ms are there is =
    let at = node_of id ns (sym (has_item_is ns id) ∙ there) in
    ap items_of is
    ∙ ap (map (item_of (without id ns)))
    (by_id-without id at.0 ns (distinct_nodes ns are) at.1 (found_passes (has_id id) ns at.0 at.1))
    ∙ map-alike (item_of (without id ns)) (λ m. leaving id (item_of ns m)) (without id (by_id ns)) (leaving_is id ns)
    ∙ sym (map-map (leaving id) (item_of ns) (without id (by_id ns)))
    ∙ ap (map (leaving id)) (sym (filter-map (λ (i : Item). not (i.id.0 == id.0)) (item_of ns) (by_id ns)))

-- ---- one item more

abbrev pub new_node : ItemId → ItemRow → List ℕ → Node
new_node id row title =
    record {
      id = id;
      parent = row.parent;
      kind = row.kind;
      title = title;
      page = row.page;
      added = row.added;
      modified = row.modified;
    }

all_from_place : (P : Node → Type 0) (n : Node) (ms : List Node) → AllByRecursion P (in_id_order n ms)
    → P n × AllByRecursion P ms
all_from_place P n [] all = (all.0, tt)
all_from_place P n (m ∷ ms) all = choose (nat_lt n.id.0 m.id.0) all (all_from_place P n ms)
  where
    choose : (b : Bool) → AllByRecursion P (cond b (n ∷ m ∷ ms) (m ∷ in_id_order n ms))
        → (AllByRecursion P (in_id_order n ms) → P n × AllByRecursion P ms) → P n × AllByRecursion P (m ∷ ms)
    choose true every rest = (every.0, every.1)
    choose false every rest =
        let parts = rest every.1 in
        (parts.0, (every.0, parts.1))

all_from_by_id : (P : Node → Type 0) (ns : List Node) → AllByRecursion P (by_id ns) → AllByRecursion P ns
all_from_by_id P [] all = tt
all_from_by_id P (n ∷ ns) all =
    let parts = all_from_place P n (by_id ns) all in
    (parts.0, all_from_by_id P ns parts.1)

pub greatest_of : (id : ItemId) (ns : List Node) → All (λ (i : Item). i.id.0 < id.0) (items_of ns) → IsGreatest id ns
greatest_of id ns all =
    all_from_by_id (λ (m : Node). m.id.0 < id.0) ns
    (from_map (λ (i : Item). i.id.0 < id.0) (item_of ns) (by_id ns)
    (recursion_from_All (λ (i : Item). i.id.0 < id.0) (items_of ns) all))

pub lacks_greatest : (id : ItemId) (ns : List Node) → IsGreatest id ns → Lacks id ns
lacks_greatest id ns below = weaker (λ (m : Node). m.id.0 < id.0) (Differs id) ns (λ m less same. omega arith) below

lacks_none : (id : ItemId) (ns : List Node) → Lacks id ns → has_node ns id ≡ false
lacks_none id [] lacks = refl
lacks_none id (n ∷ ns) lacks =
    let other : has_id id n ≡ false = grind (arith, nat_tests, lacks.0) in
    rw other (lacks_none id ns lacks.1)

some_parent : (ns : List Node) (parent : Option ItemId) → IsSomeAnd parent (λ p. has_item (items_of ns) p ≡ true)
    → (p : ItemId) × (parent ≡ Some p) × (has_node ns p ≡ true)
some_parent ns None there = absurd there
some_parent ns (Some p) there = (p, refl, sym (has_item_is ns p) ∙ there)

-- the place behind which an item is put is a child of the parent
stands_after : (ns : List Node) (after : Option ItemId) (parent : ItemId) → AreNodes ns
    → IfSome after (λ a. parent_of (items_of ns) a ≡ Some parent) → AllByRecursion (StandsAt after parent) ns
stands_after ns None parent are at = everywhere ns
  where
    everywhere : (xs : List Node) → AllByRecursion (StandsAt None parent) xs
    everywhere [] = tt
    everywhere (x ∷ xs) = (tt, everywhere xs)
stands_after ns (Some a) parent are at =
    stands_at a parent ns (distinct_nodes ns are) (sym (parent_is ns a are) ∙ at)

put_stays : (after : Option ItemId) (n : Node) (ns : List Node) (id : ItemId) → has_node ns id ≡ true
    → has_node (put_node after n ns) id ≡ true
put_stays after n ns id there =
    any-put (has_id id) after n ns ∙ ap (λ b. has_id id n || b) there ∙ either (has_id id n)
  where
    either : (b : Bool) → (b || true) ≡ true
    either true = refl
    either false = refl

pub inserted_are : (id : ItemId) (row : ItemRow) (title : List ℕ) (after : Option ItemId) (ns ms : List Node)
    → AreNodes ns → All (λ (i : Item). i.id.0 < id.0) (items_of ns)
    → IsSomeAnd row.parent (λ p. has_item (items_of ns) p ≡ true)
    → ms ≡ put_node after (new_node id row title) ns → AreNodes ms
inserted_are id row title after ns ms are new there is =
    let at = some_parent ns row.parent there in
    let n : Node = new_node id row title in
    let here : Parented (put_node after n ns) n =
    subst (λ parent. IfSome parent (λ p. has_node (put_node after n ns) p ≡ true)) (sym at.1)
    (put_stays after n ns at.0 at.2) in
    subst AreNodes (sym is)
    (are_nodes (put_node after n ns)
    (distinct-put after n ns (lacks_greatest id ns (greatest_of id ns new)) (distinct_nodes ns are))
    (all-put (Parented (put_node after n ns)) after n ns here
    (weaker (Parented ns) (Parented (put_node after n ns)) ns
    (λ m parented. still_parented ns (put_node after n ns) (put_stays after n ns) m.parent parented)
    (parented_nodes ns are))))

-- where the node behind which it is put is a child of its parent, if it is there
pub inserted_where : (id : ItemId) (row : ItemRow) (title : List ℕ) (after : Option ItemId) (ns ms : List Node)
    → AreNodes ns → All (λ (i : Item). i.id.0 < id.0) (items_of ns)
    → IsSomeAnd row.parent (λ p. has_item (items_of ns) p ≡ true)
    → ((parent : ItemId) → row.parent ≡ Some parent → AllByRecursion (StandsAt after parent) ns)
    → ms ≡ put_node after (new_node id row title) ns → items_of ms ≡ inserted id row title after (items_of ns)
inserted_where id row title after ns ms are new there behind is =
    let at = some_parent ns row.parent there in
    let n : Node = new_node id row title in
    let below : IsGreatest id ns = greatest_of id ns new in
    let lacks : Lacks id ns = lacks_greatest id ns below in
    let stands : AllByRecursion (StandsAt after at.0) ns = behind at.0 at.1 in
    ap items_of is
    ∙ ap (map (item_of (put_node after n ns))) (by_id-put after n ns lacks
    ∙ greatest-last n (by_id ns) (all-by_id (λ (m : Node). m.id.0 < id.0) ns below))
    ∙ map-append (item_of (put_node after n ns)) (by_id ns) (n ∷ [])
    ∙ ap (λ items. items ++ item_of (put_node after n ns) n ∷ [])
    (map-alike (item_of (put_node after n ns)) (λ m. adopting at.0 after id (item_of ns m)) (by_id ns)
    (adopting_is after at.0 n ns at.1 stands)
    ∙ sym (map-map (adopting at.0 after id) (item_of ns) (by_id ns)))
    ∙ ap (λ ids. map (adopting at.0 after id) (items_of ns) ++ with_children (new_item id row title) ids ∷ [])
    (children-put_elsewhere after id n ns (ap (is_parent id) at.1 ∙ no_parent at.0 at.2 lacks)
    ∙ no_children ns id ns (lacks_none id ns lacks) (parented_nodes ns are))
    ∙ ap (λ parent. adopted parent after id (items_of ns) ++ new_item id row title ∷ []) (sym at.1)
  where
    no_parent : (p : ItemId) → has_node ns p ≡ true → Lacks id ns → (p.0 == id.0) ≡ false
    no_parent p known lacks = choose (p.0 == id.0) refl
      where
        choose : (b : Bool) → (p.0 == id.0) ≡ b → (p.0 == id.0) ≡ false
        choose true same =
            let none : has_node ns p ≡ false = ap (has_node ns) (same_item p id same) ∙ lacks_none id ns lacks in
            absurd (cc)
        choose false other = other

pub inserted_items : (id : ItemId) (row : ItemRow) (title : List ℕ) (after : Option ItemId) (ns ms : List Node)
    → AreNodes ns → All (λ (i : Item). i.id.0 < id.0) (items_of ns)
    → IsSomeAnd row.parent (λ p. has_item (items_of ns) p ≡ true)
    → IfSome after (λ a. parent_of (items_of ns) a ≡ row.parent)
    → ms ≡ put_node after (new_node id row title) ns → items_of ms ≡ inserted id row title after (items_of ns)
inserted_items id row title after ns ms are new there behind is =
    inserted_where id row title after ns ms are new there
    (λ parent at. stands_after ns after parent are
    (subst (λ o. IfSome after (λ a. parent_of (items_of ns) a ≡ o)) at behind)) is

-- ---- one item moved

abbrev pub moving : ItemId → Node → Node
moving parent n = record n { parent = Some parent }

lacks_moved : (id : ItemId) (n : Node) (ns : List Node) → has_id id n ≡ true → Lacks n.id (without id ns)
lacks_moved id n ns same = subst (λ i. Lacks i (without id ns)) (sym (same_item n.id id same)) (Lacks-without id ns)

moved_stays : (id parent : ItemId) (after : Option ItemId) (n : Node) (ns : List Node) → has_id id n ≡ true
    → (other : ItemId) → has_node ns other ≡ true
    → has_node (put_node after (moving parent n) (without id ns)) other ≡ true
moved_stays id parent after n ns same other there =
    any-put (has_id other) after (moving parent n) (without id ns) ∙ choose (other.0 == id.0) refl
  where
    or_true : (b : Bool) → (b || true) ≡ true
    or_true true = refl
    or_true false = refl

    choose : (b : Bool) → (other.0 == id.0) ≡ b → (has_id other n || has_node (without id ns) other) ≡ true
    choose true is =
        let here : has_id other n ≡ true = grind (arith, nat_tests, same, is) in
        rw here refl
    choose false is = ap (λ b. has_id other n || b) (has_node-without id other ns is there) ∙ or_true (has_id other n)

pub moved_are : (id parent : ItemId) (after : Option ItemId) (n : Node) (ns ms : List Node) → AreNodes ns
    → find (has_id id) ns ≡ Some n → has_item (items_of ns) parent ≡ true
    → ms ≡ put_node after (moving parent n) (without id ns) → AreNodes ms
moved_are id parent after n ns ms are found there is =
    let same : has_id id n ≡ true = found_passes (has_id id) ns n found in
    let new : List Node = put_node after (moving parent n) (without id ns) in
    let stay = moved_stays id parent after n ns same in
    subst AreNodes (sym is)
    (are_nodes new
    (distinct-put after (moving parent n) (without id ns) (lacks_moved id n ns same)
    (distinct-without id ns (distinct_nodes ns are)))
    (all-put (Parented new) after (moving parent n) (without id ns) (stay parent (sym (has_item_is ns parent) ∙ there))
    (all-filter (Parented new) (has_other_id id) ns
    (weaker (Parented ns) (Parented new) ns (λ m parented. still_parented ns new stay m.parent parented)
    (parented_nodes ns are)))))

pub moved_items : (id parent : ItemId) (after : Option ItemId) (n : Node) (ns ms : List Node) → AreNodes ns
    → find (has_id id) ns ≡ Some n → IfSome after (λ a. (a ≢ id) × (parent_of (items_of ns) a ≡ Some parent))
    → ms ≡ put_node after (moving parent n) (without id ns)
    → items_of ms ≡ moved id parent after (items_of ns)
moved_items id parent after n ns ms are found behind is =
    let same : has_id id n ≡ true = found_passes (has_id id) ns n found in
    let rest : List Node = without id ns in
    let new : List Node = put_node after (moving parent n) rest in
    let here : changed id (moving parent) n ≡ moving parent n = rw same refl in
    let others : map (changed id (moving parent)) (by_id rest) ≡ by_id rest =
    changed-none id (moving parent) (by_id rest) (all-by_id (Differs id) rest (Lacks-without id ns)) in
    let order : by_id new ≡ map (changed id (moving parent)) (by_id ns) =
    by_id-put after (moving parent n) rest (lacks_moved id n ns same)
    ∙ ap (λ x. in_id_order x (by_id rest)) (sym here)
    ∙ ap (in_id_order (changed id (moving parent) n)) (sym others)
    ∙ in_id_order-map (changed id (moving parent)) n (by_id rest) keeps_id
    ∙ ap (map (changed id (moving parent))) (sym (put_back id n ns (distinct_nodes ns are) found)) in
    let stands : AllByRecursion (StandsAt after parent) rest =
    all-filter (StandsAt after parent) (has_other_id id) ns (stands_after ns after parent are (known after behind)) in
    ap items_of is
    ∙ ap (map (item_of new)) order
    ∙ map-map (item_of new) (changed id (moving parent)) (by_id ns)
    ∙ map-alike (λ m. item_of new (changed id (moving parent) m))
    (λ m. adopting parent after id (leaving id (item_of ns m))) (by_id ns)
    (λ m. adopting_is after parent (moving parent n) rest refl stands (changed id (moving parent) m)
    ∙ ap (λ i. adopting parent after i (item_of rest (changed id (moving parent) m))) (same_item n.id id same)
    ∙ ap (adopting parent after id) (same_as m ∙ leaving_is id ns m))
    ∙ sym (map-map (adopting parent after id) (λ m. leaving id (item_of ns m)) (by_id ns)
    ) ∙ ap (map (adopting parent after id)) (sym (map-map (leaving id) (item_of ns) (by_id ns)))
  where
    keeps_id : (m : Node) → (changed id (moving parent) m).id ≡ m.id
    keeps_id m = elim (has_id id m) as (λ b. (cond b (moving parent m) m).id ≡ m.id) [ true ↦ refl | false ↦ refl ]

    same_as : (m : Node) → item_of (without id ns) (changed id (moving parent) m) ≡ item_of (without id ns) m
    same_as m =
        elim (has_id id m) as (λ b. item_of (without id ns) (cond b (moving parent m) m) ≡ item_of (without id ns) m)
        [ true ↦ refl | false ↦ refl ]

    known : (o : Option ItemId) → IfSome o (λ a. (a ≢ id) × (parent_of (items_of ns) a ≡ Some parent))
        → IfSome o (λ a. parent_of (items_of ns) a ≡ Some parent)
    known None h = tt
    known (Some a) h = h.1

-- the item does not stand behind itself
pub other_ids : (id parent : ItemId) (items : List Item) (after : Option ItemId)
    → IfSome after (λ a. (a ≢ id) × (parent_of items a ≡ Some parent)) → IfSome after (λ a. a ≢ id)
other_ids id parent items None h = tt
other_ids id parent items (Some a) h = h.0

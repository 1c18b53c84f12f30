-- A node that comes to stand behind all others, as the last child of its parent.
use Rattle.std.proofs.Common.{◌≡◌, ◌≢◌, ◌<◌, ◌==◌, ◌∙◌, ◌++◌, ◌⊎◌, ℕ, Bool, true, false, cond, List, [], ◌∷◌}
use Rattle.std.proofs.Common.{Option, Some, None, All, IfSome, ap, arith, eq-eqb, filter, inl, inr, length, map, refl}
use Rattle.std.proofs.Common.{reverse, sym}
use Rattle.std.specs.List.{AllByRecursion, insert}
use Rattle.std.specs.Option.{IsSomeAnd, option_and_then, option_or}
use Rattle.std.proofs.lemmas.Bool.{ne_eqb}
use Rattle.std.proofs.lemmas.Bool.Decides.{nat_tests}
use Rattle.std.proofs.lemmas.List.{append-nil, map-append, reverse-append, reverse-reverse}
use Rattle.std.proofs.lemmas.List.Elements.{filter-append}
use Rattle.pl_base.specs.declared.id.ItemId.{ItemId}
use Rattle.pl_base.specs.declared.item.ItemRow.{ItemRow}
use Rattle.pl_base.specs.Store.{Item}
use Rattle.pl_base.specs.Tree.{adopted, adopting, first_item, has_item, inserted, last_item, new_item, parent_of}
use Rattle.pl_base.specs.Tree.{put_behind}
use Rattle.pl_base.proofs.ItemLookUps.{same_item}
use Rattle.pl_base.proofs.ListLaws.{map-alike, map-map, weaker}
use Rattle.pl_items.specs.declared.node.Node.{Node}
use Rattle.pl_items.specs.Nodes.{AreNodes, by_id, child_nodes, is_parent, item_of, items_of, place_behind, put_node}
use Rattle.pl_items.proofs.IdOrder.{Differs, Distinct, Lacks, has_other}
use Rattle.pl_items.proofs.Children.{distinct_nodes}
use Rattle.pl_items.proofs.Changes.{greatest_of, inserted_are, inserted_items, inserted_where, lacks_greatest, new_node}
use Rattle.pl_items.proofs.Moves.{StandsAt}
use Rattle.pl_items.proofs.Places.{insert_behind}

-- ---- the ids of children

abbrev IsOther : ItemId → ItemId → Type 0
IsOther id c = c.0 ≢ id.0

abbrev Once : List ItemId → Type 0
Once [] = Unit {0}
Once (c ∷ ids) = AllByRecursion (IsOther c) ids × Once ids

lacks_children : (id parent : ItemId) (ns : List Node) → Lacks id ns
    → AllByRecursion (IsOther id) (child_nodes ns parent)
lacks_children id parent [] lacks = tt
lacks_children id parent (n ∷ ns) lacks =
    choose (is_parent parent n.parent) (lacks_children id parent ns lacks.1)
  where
    choose : (b : Bool) → AllByRecursion (IsOther id) (child_nodes ns parent)
        → AllByRecursion (IsOther id) (map (λ (m : Node). m.id)
        (cond b (n ∷ filter (λ (m : Node). is_parent parent m.parent) ns)
        (filter (λ (m : Node). is_parent parent m.parent) ns)))
    choose true rest = (lacks.0, rest)
    choose false rest = rest

once_children : (parent : ItemId) (ns : List Node) → Distinct ns → Once (child_nodes ns parent)
once_children parent [] distinct = tt
once_children parent (n ∷ ns) distinct =
    choose (is_parent parent n.parent) (once_children parent ns distinct.1)
  where
    choose : (b : Bool) → Once (child_nodes ns parent)
        → Once (map (λ (m : Node). m.id) (cond b (n ∷ filter (λ (m : Node). is_parent parent m.parent) ns)
        (filter (λ (m : Node). is_parent parent m.parent) ns)))
    choose true rest = (lacks_children n.id parent ns distinct.0, rest)
    choose false rest = rest

children-reverse : (parent : ItemId) (ns : List Node)
    → child_nodes (reverse ns) parent ≡ reverse (child_nodes ns parent)
children-reverse parent [] = refl
children-reverse parent (n ∷ ns) =
    ap (λ ms. child_nodes ms parent) (reverse-append (n ∷ []) ns)
    ∙ ap (map (λ (m : Node). m.id))
    (filter-append (λ (m : Node). is_parent parent m.parent) (reverse ns) (n ∷ []))
    ∙ map-append (λ (m : Node). m.id) (filter (λ (m : Node). is_parent parent m.parent) (reverse ns))
    (filter (λ (m : Node). is_parent parent m.parent) (n ∷ []))
    ∙ ap (λ ids. ids ++ child_nodes (n ∷ []) parent) (children-reverse parent ns)
    ∙ choose (is_parent parent n.parent)
  where
    choose : (b : Bool)
        → reverse (child_nodes ns parent) ++ map (λ (m : Node). m.id) (cond b (n ∷ []) [])
        ≡ reverse (map (λ (m : Node). m.id) (cond b (n ∷ filter (λ (m : Node). is_parent parent m.parent) ns)
        (filter (λ (m : Node). is_parent parent m.parent) ns)))
    choose true = sym (reverse-append (n.id ∷ []) (child_nodes ns parent))
    choose false = append-nil (reverse (child_nodes ns parent))

-- the first from behind is the last
first-reverse : (ids : List ItemId) → first_item (reverse ids) ≡ last_item ids
first-reverse [] = refl
first-reverse (id ∷ ids) =
    ap first_item (reverse-append (id ∷ []) ids) ∙ in_front (reverse ids)
    ∙ ap (λ last. option_or last (Some id)) (first-reverse ids)
  where
    in_front : (front : List ItemId) → first_item (front ++ id ∷ []) ≡ option_or (first_item front) (Some id)
    in_front [] = refl
    in_front (c ∷ front) = refl

pub last_child_is : (parent : ItemId) (ns : List Node)
    → first_item (child_nodes (reverse ns) parent) ≡ last_item (child_nodes ns parent)
last_child_is parent ns = ap first_item (children-reverse parent ns) ∙ first-reverse (child_nodes ns parent)

-- ---- an id behind the last

at_end : (P : ItemId → Type 0) (front : List ItemId) (last : ItemId) → AllByRecursion P (front ++ last ∷ []) → P last
at_end P [] last all = all.0
at_end P (c ∷ front) last all = at_end P front last all.1

-- an id is put behind the last one as behind one that is not there
behind_last : (last id : ItemId) (front : List ItemId) → Once (front ++ last ∷ [])
    → AllByRecursion (IsOther id) (front ++ last ∷ [])
    → put_behind (Some last) id (front ++ last ∷ []) ≡ put_behind (Some id) id (front ++ last ∷ [])
behind_last last id [] once others = rw (eq-eqb last.0 last.0 refl, ne_eqb last.0 id.0 others.0) refl
behind_last last id (c ∷ front) once others =
    let apart : c.0 ≢ last.0 = λ same. at_end (IsOther c) front last once.0 (sym same) in
    rw (ne_eqb c.0 last.0 apart, ne_eqb c.0 id.0 others.0)
    (ap (λ ids. c ∷ ids) (behind_last last id front once.1 others.1))

behind_first : (id : ItemId) (ids back : List ItemId) → ids ≡ reverse back → Once ids
    → AllByRecursion (IsOther id) ids → put_behind (first_item back) id ids ≡ put_behind (Some id) id ids
behind_first id ids [] is once others = rw is refl
behind_first id ids (last ∷ back) is once others =
    let ended : ids ≡ reverse back ++ last ∷ [] = is ∙ reverse-append (last ∷ []) back in
    rw ended (behind_last last id (reverse back) (rw ended at once) (rw ended at others))

children-ended : (parent id : ItemId) (ns : List Node) → Distinct ns → Lacks id ns
    → put_behind (last_item (child_nodes ns parent)) id (child_nodes ns parent)
    ≡ put_behind (Some id) id (child_nodes ns parent)
children-ended parent id ns distinct lacks =
    ap (λ last. put_behind last id (child_nodes ns parent)) (sym (last_child_is parent ns))
    ∙ behind_first id (child_nodes ns parent) (child_nodes (reverse ns) parent)
    (sym (reverse-reverse (child_nodes ns parent)) ∙ ap reverse (sym (children-reverse parent ns)))
    (once_children parent ns distinct) (lacks_children id parent ns lacks)

-- ---- the items

-- the last child of the parent
abbrev pub last_among : List Node → Option ItemId → Option ItemId
last_among ns parent = option_and_then (λ p. last_item (child_nodes ns p)) parent

adopting-ended : (parent id : ItemId) (ns : List Node) → Distinct ns → Lacks id ns → (m : Node)
    → adopting parent (Some id) id (item_of ns m) ≡ adopting parent (last_among ns (Some parent)) id (item_of ns m)
adopting-ended parent id ns distinct lacks m = choose (m.id.0 == parent.0) refl
  where
    with_children : List ItemId → Item
    with_children ids = record (item_of ns m) { children = ids }

    choose : (b : Bool) → (m.id.0 == parent.0) ≡ b
        → cond b (with_children (put_behind (Some id) id (child_nodes ns m.id))) (item_of ns m)
        ≡ cond b (with_children (put_behind (last_among ns (Some parent)) id (child_nodes ns m.id))) (item_of ns m)
    choose true is =
        ap with_children (ap (λ p. put_behind (Some id) id (child_nodes ns p)) (same_item m.id parent is)
        ∙ sym (children-ended parent id ns distinct lacks)
        ∙ ap (λ p. put_behind (last_among ns (Some parent)) id (child_nodes ns p)) (sym (same_item m.id parent is)))
    choose false is = refl

adopted-ended : (parent : Option ItemId) (id : ItemId) (ns : List Node) → Distinct ns → Lacks id ns
    → adopted parent (Some id) id (items_of ns) ≡ adopted parent (last_among ns parent) id (items_of ns)
adopted-ended None id ns distinct lacks = refl
adopted-ended (Some parent) id ns distinct lacks =
    map-map (adopting parent (Some id) id) (item_of ns) (by_id ns)
    ∙ map-alike (λ m. adopting parent (Some id) id (item_of ns m))
    (λ m. adopting parent (last_among ns (Some parent)) id (item_of ns m)) (by_id ns)
    (adopting-ended parent id ns distinct lacks)
    ∙ sym (map-map (adopting parent (last_among ns (Some parent)) id) (item_of ns) (by_id ns))

-- a node at the end is put behind one that is not there
put_end : (n : Node) (ns : List Node) → Lacks n.id ns → insert ns (length ns) n ≡ put_node (Some n.id) n ns
put_end n [] lacks = refl
put_end n (m ∷ ms) lacks = rw (has_other n.id m lacks.0) (ap (λ xs. m ∷ xs) (put_end n ms lacks.1))

-- ---- the place of a new node

same_or_other : (a b : Option ItemId) → (a ≡ b) ⊎ (a ≢ b)
same_or_other None None = inl refl
same_or_other None (Some b) = inr (λ same. absurd (cc))
same_or_other (Some a) None = inr (λ same. absurd (cc))
same_or_other (Some a) (Some b) = choose (a.0 == b.0) refl
  where
    choose : (c : Bool) → (a.0 == b.0) ≡ c → (Some a ≡ Some b) ⊎ (Some a ≢ Some b)
    choose true is = inl (ap (λ (i : ItemId). Some i) (same_item a b is))
    choose false is =
        inr (λ same.
        let at : a ≡ b = cc in
        absurd (grind (arith, nat_tests, ap (λ (i : ItemId). i.0) at, is)))

module _ (id : ItemId) (row : ItemRow) (title : List ℕ) (after : Option ItemId) (ns ms : List Node) (place : ℕ)
    (are : AreNodes ns) (new : All (λ (i : Item). i.id.0 < id.0) (items_of ns))
    (there : IsSomeAnd row.parent (λ p. has_item (items_of ns) p ≡ true))
    (end : last_among ns row.parent ≡ after → place ≡ length ns)
    (behind : last_among ns row.parent ≢ after → place ≡ place_behind after ns)
    (is : ms ≡ insert ns place (new_node id row title)) where
  lacks : Lacks id ns
  lacks = lacks_greatest id ns (greatest_of id ns new)

  ends : last_among ns row.parent ≡ after → ms ≡ put_node (Some id) (new_node id row title) ns
  ends last =
      is ∙ ap (λ k. insert ns k (new_node id row title)) (end last) ∙ put_end (new_node id row title) ns lacks

  goes_behind : last_among ns row.parent ≢ after → ms ≡ put_node after (new_node id row title) ns
  goes_behind other =
      is ∙ ap (λ k. insert ns k (new_node id row title)) (behind other)
      ∙ insert_behind after (new_node id row title) ns

  pub placed_are : AreNodes ms
  placed_are = choose (same_or_other (last_among ns row.parent) after)
    where
      choose : (last_among ns row.parent ≡ after) ⊎ (last_among ns row.parent ≢ after) → AreNodes ms
      choose (inl last) = inserted_are id row title (Some id) ns ms are new there (ends last)
      choose (inr other) = inserted_are id row title after ns ms are new there (goes_behind other)

  pub placed_items : IfSome after (λ a. parent_of (items_of ns) a ≡ row.parent)
      → items_of ms ≡ inserted id row title after (items_of ns)
  placed_items child = choose (same_or_other (last_among ns row.parent) after)
    where
      choose : (last_among ns row.parent ≡ after) ⊎ (last_among ns row.parent ≢ after)
          → items_of ms ≡ inserted id row title after (items_of ns)
      choose (inl last) =
          inserted_where id row title (Some id) ns ms are new there
          (λ parent at. weaker (Differs id) (StandsAt (Some id) parent) ns (λ m other same. absurd (other same)) lacks)
          (ends last)
          ∙ ap (λ items. items ++ new_item id row title ∷ [])
          (adopted-ended row.parent id ns (distinct_nodes ns are) lacks
          ∙ ap (λ o. adopted row.parent o id (items_of ns)) last)
      choose (inr other) = inserted_items id row title after ns ms are new there child (goes_behind other)

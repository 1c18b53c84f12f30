-- The rows of children that have an item as their parent.
use Rattle.std.proofs.Common.{◌≡◌, ◌≢◌, ◌==◌, ◌++◌, ◌∙◌, inl, inr, Bool, true, false, List, [], ◌∷◌, map}
use Rattle.std.proofs.Common.{Some, ap, sym, refl, filter, if◌then◌else◌}
use Rattle.std.specs.List.{AllByRecursion, AllPairs, flat_map}
use Rattle.std.proofs.lemmas.Bool.{eq-eqb, ne_eqb}
use Rattle.std.proofs.lemmas.List.{append-nil, map-append}
use Rattle.std.proofs.lemmas.List.Elements.{filter-append}
use Rattle.pl_base.specs.declared.id.ItemId.{ItemId}
use Rattle.pl_base.specs.Good.{child_ids}
use Rattle.pl_base.specs.Store.{Item, item_id}
use Rattle.pl_base.proofs.Among.{In, all_from_in, at_in}
use Rattle.pl_items.specs.Nodes.{child_nodes, ids_under, is_parent}
use Rattle.pl_items.specs.TakenOut.{children_rows, node_of}
use Rattle.pl_items.specs.declared.by_id.Child.{Child}
use Rattle.pl_items.specs.declared.node.Node.{Node}
use Rattle.pl_items.proofs.Members.{pairs_head, pairs_tail}
use Rattle.pl_items.proofs.PlantSteps.{Apart, child_id, children_ids, item_id_of, nodes_of, parents}

-- a child of an item, with it as its parent
abbrev row_of : Item → ItemId → Child
row_of u k = record { parent = u.id; id = k }

under_one : (u : Item) (id : ItemId) (ids : List ItemId) → u.id.0 ≡ id.0
    → ids_under (map (row_of u) ids) id ≡ ids
under_one u id [] is = refl
under_one u id (k ∷ ks) is =
    let test : (u.id.0 == id.0) ≡ true = eq-eqb u.id.0 id.0 is in
    rw (test, under_one u id ks is)

under_other : (u : Item) (id : ItemId) (ids : List ItemId) → u.id.0 ≢ id.0
    → ids_under (map (row_of u) ids) id ≡ []
under_other u id [] other = refl
under_other u id (k ∷ ks) other =
    let test : (u.id.0 == id.0) ≡ false = ne_eqb u.id.0 id.0 other in
    rw (test, under_other u id ks other)

under-append : (xs ys : List Child) (id : ItemId) → ids_under (xs ++ ys) id ≡ ids_under xs id ++ ids_under ys id
under-append xs ys id =
    let test : Child → Bool = λ c. c.parent.0 == id.0 in
    ap (map child_id) (filter-append test xs ys) ∙ map-append child_id (filter test xs) (filter test ys)

under_none : (taken : List Item) (id : ItemId) → AllByRecursion (λ (u : Item). u.id.0 ≢ id.0) taken
    → ids_under (flat_map children_rows taken) id ≡ []
under_none [] id apart = refl
under_none (u ∷ us) id apart =
    under-append (children_rows u) (flat_map children_rows us) id
    ∙ rw (under_other u id u.children apart.0, under_none us id apart.1)

pub under_taken : (taken : List Item) (t : Item) → AllPairs Apart taken → In t taken
    → ids_under (flat_map children_rows taken) t.id ≡ t.children
under_taken [] t apart h = absurd h
under_taken (u ∷ us) t apart (inl same) =
    let others : AllByRecursion (λ (v : Item). v.id.0 ≢ t.id.0) us =
    all_from_in (λ (v : Item). v.id.0 ≢ t.id.0) us (λ v h e.
    at_in (Apart u) us v (pairs_head Apart u us apart) h
    (ap (λ (i : Item). i.id.0) (sym same) ∙ sym e))
    in
    under-append (children_rows u) (flat_map children_rows us) t.id
    ∙ rw (under_one u t.id u.children (ap (λ (i : Item). i.id.0) (sym same)), under_none us t.id others)
    (append-nil u.children ∙ ap children_ids (sym same))
under_taken (u ∷ us) t apart (inr h) =
    let other = at_in (Apart u) us t (pairs_head Apart u us apart) h in
    under-append (children_rows u) (flat_map children_rows us) t.id
    ∙ rw (under_other u t.id u.children other)
    (under_taken us t (pairs_tail Apart u us apart) h)

nodes_under : (rows : List Child) (ts : List Item) (id : ItemId) → map item_id_of ts ≡ map child_id rows
    → child_nodes (nodes_of (map (λ (c : Child). Some c.parent) rows) ts) id ≡ ids_under rows id
nodes_under [] ts id same = refl
nodes_under (c ∷ cs) [] id same = absurd (cc)
nodes_under (c ∷ cs) (t ∷ ts) id same =
    let first : t.id ≡ c.id = cc in
    let rest : map item_id_of ts ≡ map child_id cs = cc in
    at_test (c.parent.0 == id.0) first (nodes_under cs ts id rest)
  where
    theirs : List Child
    theirs = filter (λ (d : Child). d.parent.0 == id.0) cs

    nodes : List Node
    nodes = filter (λ (n : Node). is_parent id n.parent) (nodes_of (map (λ (d : Child). Some d.parent) cs) ts)

    at_test : (b : Bool) → t.id ≡ c.id → map (λ (n : Node). n.id) nodes ≡ map child_id theirs
        → map (λ (n : Node). n.id) (if b then node_of (Some c.parent) t ∷ nodes else nodes)
        ≡ map child_id (if b then c ∷ theirs else theirs)
    at_test true first rest = rw (first, rest)
    at_test false first rest = rest

pub root_under : (rows : List Child) (ts : List Item) (id : ItemId)
    → map item_id_of ts ≡ item_id 1 ∷ map child_id rows
    → child_nodes (nodes_of (parents rows) ts) id ≡ ids_under rows id
root_under rows [] id same = absurd (cc)
root_under rows (t ∷ ts) id same =
    let rest : map item_id_of ts ≡ map child_id rows = cc in nodes_under rows ts id rest

ids_of_rows : (u : Item) (ids : List ItemId) → map child_id (map (row_of u) ids) ≡ ids
ids_of_rows u [] = refl
ids_of_rows u (k ∷ ks) = ap (λ ids. k ∷ ids) (ids_of_rows u ks)

pub row_ids : (ts : List Item) → map child_id (flat_map children_rows ts) ≡ child_ids ts
row_ids [] = refl
row_ids (t ∷ ts) =
    map-append child_id (children_rows t) (flat_map children_rows ts)
    ∙ rw (ids_of_rows t t.children, row_ids ts)

-- The children of nodes, with their parents.
use Rattle.std.proofs.Common.{◌≡◌, ◌==◌, ◌∙◌, ◌&&◌, Bool, true, false, List, [], ◌∷◌, map, ap, sym, refl, not}
use Rattle.std.proofs.Common.{Option, Some, None, if◌then◌else◌, filter}
use Rattle.std.specs.List.{cons_option, filter_map}
use Rattle.std.specs.List.Sorted.{IsStableByKey}
use Rattle.std.specs.Option.{option_map}
use Rattle.std.specs.Ordering.{is_lt, nat_cmp}
use Rattle.std.proofs.lemmas.List.Elements.{filter_agree}
use Rattle.pl_base.specs.declared.id.ItemId.{ItemId}
use Rattle.pl_base.proofs.SortLaws.{numbers_tie}
use Rattle.pl_items.specs.Nodes.{child_nodes, child_row, ids_under, is_parent, item_of, listed_item}
use Rattle.pl_items.specs.declared.by_id.Child.{Child}
use Rattle.pl_items.specs.declared.node.Node.{Node}

-- the rows of nodes with this parent are its children in the order of the nodes
pub rows_under : (nodes : List Node) (id : ItemId) → ids_under (filter_map child_row nodes) id ≡ child_nodes nodes id
rows_under [] id = refl
rows_under (n ∷ ns) id = at_parent n.parent (rows_under ns id)
  where
    rows : List Child
    rows = filter_map child_row ns

    theirs : List Child
    theirs = filter (λ (c : Child). c.parent.0 == id.0) rows

    nodes : List Node
    nodes = filter (λ (m : Node). is_parent id m.parent) ns

    at_test : (parent : ItemId) (b : Bool) → map (λ (c : Child). c.id) theirs ≡ map (λ (m : Node). m.id) nodes
        → map (λ (c : Child). c.id) (if b then record { parent = parent; id = n.id } ∷ theirs else theirs)
        ≡ map (λ (m : Node). m.id) (if b then n ∷ nodes else nodes)
    at_test parent true rest = ap (λ ids. n.id ∷ ids) rest
    at_test parent false rest = rest

    at_parent : (parent : Option ItemId) → map (λ (c : Child). c.id) theirs ≡ map (λ (m : Node). m.id) nodes
        → ids_under (cons_option (option_map (λ p. record { parent = p; id = n.id }) parent) rows) id
        ≡ map (λ (m : Node). m.id) (if is_parent id parent then n ∷ nodes else nodes)
    at_parent None rest = rest
    at_parent (Some parent) rest = at_test parent (parent.0 == id.0) rest

-- a stable sort by the parent leaves them so
pub sorted_under : (rows sorted : List Child) (id : ItemId)
    → IsStableByKey (λ (c : Child). c.parent.0) nat_cmp rows sorted
    → ids_under sorted id ≡ ids_under rows id
sorted_under rows sorted id stable =
    let test : Child → Bool = λ c. c.parent.0 == id.0 in
    let tied : Child → Bool = λ c. not (is_lt (nat_cmp id.0 c.parent.0)) && not (is_lt (nat_cmp c.parent.0 id.0)) in
    let agree : (c : Child) → tied c ≡ test c = λ c. numbers_tie id.0 c.parent.0 in
    ap (map (λ (c : Child). c.id))
    (sym (filter_agree tied test agree sorted)
    ∙ stable (record { parent = id; id = id })
    ∙ filter_agree tied test agree rows)

-- items whose children are looked up among these rows are the items of the nodes
pub listed_are : {X : Type 0} (node : X → Node) (nodes : List Node) (rows : List Child) (xs : List X)
    → ((id : ItemId) → ids_under rows id ≡ child_nodes nodes id)
    → map (λ x. listed_item rows (node x)) xs ≡ map (item_of nodes) (map node xs)
listed_are node nodes rows [] whole = refl
listed_are node nodes rows (x ∷ xs) whole =
    let n : Node = node x in
    let first : listed_item rows n ≡ item_of nodes n =
    ap (λ (ids : List ItemId). record {
      id = n.id;
      kind = n.kind;
      title = n.title;
      page = n.page;
      added = n.added;
      modified = n.modified;
      children = ids;
    }) (whole n.id)
    in
    rw (first, listed_are node nodes rows xs whole)

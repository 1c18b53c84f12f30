-- A list of nodes that is counted from node to node.
use Rattle.std.proofs.Common.{◌≡◌, ◌<◌, ◌≤◌, ◌∙◌, ◌+◌, ℕ, Bool, true, false, List, [], ◌∷◌, IsTrue}
use Rattle.std.proofs.Common.{ap, drop, get_or, length, refl, subst, sym}
use Rattle.std.specs.List.{AllByRecursion, list_all}
use Rattle.std.proofs.Math.ListN.{drop_of_length-le}
use Rattle.std.proofs.lemmas.Bool.{false≢true}
use Rattle.std.proofs.lemmas.List.Folds.{list_all_at}
use Rattle.std.proofs.lemmas.List.Sums.{sum_by-cons}
use Rattle.pl_base.specs.declared.id.ItemId.{ItemId}
use Rattle.pl_base.specs.Good.{IsTitle}
use Rattle.pl_base.specs.Store.{Store, item_id}
use Rattle.pl_base.specs.Title.{cut_title}
use Rattle.pl_nbread.specs.declared.tree.Node.{Node}
use Rattle.pl_nbread.specs.WellFormed.{is_formed}
use Rattle.pl_graft.specs.declared.cost.Tally.{Tally}
use Rattle.pl_graft.specs.Import.{folder_of, folders_behind, with_list, with_node, with_nodes}
use Rattle.pl_graft.specs.Ready.{Takes}
use Rattle.pl_graft.specs.Tally.{IsTallyOf, node_weight, weight}
use Rattle.pl_graft.proofs.NodeLaws.{IsFormed, behind_take, folder_takes, node_takes, takes_node}
use Rattle.pl_graft.proofs.NodesLeft.{node_next}

-- ---- what is left of a list

pub each_formed : (nodes : List Node) (i : ℕ) (node : Node) → IsTrue (list_all is_formed nodes) → i < length nodes
    → node ≡ get_or nodes i node → IsTrue (is_formed node)
each_formed nodes i node all within is = choose (is_formed node) refl
  where
    choose : (b : Bool) → is_formed node ≡ b → b ≡ true
    choose true e = refl
    choose false e =
        absurd (false≢true (sym (list_all_at is_formed nodes i node within (ap is_formed (sym is) ∙ e)) ∙ all))

pub weight_left : (nodes : List Node) (i : ℕ) (node : Node) → i < length nodes → node ≡ get_or nodes i node
    → weight (drop i nodes) ≡ node_weight node + weight (drop (i + 1) nodes)
weight_left nodes i node within is =
    ap weight (node_next nodes i node within is) ∙ sum_by-cons node_weight node (drop (i + 1) nodes)

-- ---- the store so far

-- the tally is that of a store behind which the rest of the list makes the whole
pub record IsCounting (tally : Tally) (root : ItemId) (rest : List Node) (whole : Store) : Type 0 where
  pub folders : List ItemId
  pub store : Store
  pub now : IsTallyOf tally store
  pub root_takes : Takes store root
  pub takes : AllByRecursion (Takes store) folders
  pub is : with_nodes root rest folders store ≡ whole

pub starts : (tally : Tally) (root : ItemId) (nodes : List Node) (store : Store) → IsTallyOf tally store
    → Takes store root → IsCounting tally root nodes (with_list root nodes store)
starts tally root nodes store t takes =
    record { folders = []; store = store; now = t; root_takes = takes; takes = tt; is = refl }

next_node : (old new : Tally) (root : ItemId) (node : Node) (rest : List Node) (whole : Store) → IsFormed node
    → IsTitle (cut_title node.title) → IsCounting old root (node ∷ rest) whole
    → ((store : Store) (parent : ItemId) → IsTallyOf old store → Takes store parent
    → IsTallyOf new (with_node parent node store))
    → IsCounting new root rest whole
next_node old new root node rest whole f title s step =
    let parent : ItemId = folder_of root s.folders node in
    let takes : Takes s.store parent = folder_takes s.store root s.folders node s.root_takes s.takes in
    let next : Store = with_node parent node s.store in
    let goes_on : (folder : ItemId) → Takes s.store folder → Takes next folder =
    takes_node s.store parent node s.now.ready takes f title in
    record {
      folders = folders_behind s.folders node (item_id s.store.ids.item);
      store = next;
      now = step s.store parent s.now takes;
      root_takes = goes_on root s.root_takes;
      takes =
          behind_take s.store next s.folders node (item_id s.store.ids.item) s.takes goes_on
          (node_takes s.store parent node s.now.ready takes f title);
      is = s.is;
    }

pub goes_on : (old new : Tally) (root : ItemId) (nodes : List Node) (i : ℕ) (node : Node) (whole : Store)
    → i < length nodes → node ≡ get_or nodes i node → IsFormed node → IsTitle (cut_title node.title)
    → IsCounting old root (drop i nodes) whole
    → ((store : Store) (parent : ItemId) → IsTallyOf old store → Takes store parent
    → IsTallyOf new (with_node parent node store))
    → IsCounting new root (drop (i + 1) nodes) whole
goes_on old new root nodes i node whole within is f title s step =
    next_node old new root node (drop (i + 1) nodes) whole f title
    (subst (λ (rest : List Node). IsCounting old root rest whole) (node_next nodes i node within is) s) step

-- nothing is left
pub ends : (tally : Tally) (root : ItemId) (nodes : List Node) (i : ℕ) (whole : Store) → length nodes ≤ i
    → IsCounting tally root (drop i nodes) whole → IsTallyOf tally whole
ends tally root nodes i whole past s =
    let none : drop i nodes ≡ [] = drop_of_length-le nodes past in
    subst (IsTallyOf tally)
    (ap (λ (rest : List Node). with_nodes root rest s.folders s.store) (sym none) ∙ s.is) s.now

-- The nodes of a list, one after another.
use Rattle.std.proofs.Common.{◌≡◌, ◌≢◌, ◌∙◌, ◌≤◌, ◌+◌, ◌++◌, ℕ, Bool, true, false, List, [], ◌∷◌}
use Rattle.std.proofs.Common.{ap, append_assoc, arith, if◌then◌else◌, length, map, refl, subst, sym, take}
use Rattle.std.specs.List.{AllByRecursion, list_all}
use Rattle.std.proofs.lemmas.Bool.{and_parts, eqb-true}
use Rattle.std.proofs.lemmas.List.{append-nil, length-append, length-take}
use Rattle.std.proofs.lemmas.List.Elements.{recursion_from_All}
use Rattle.pl_base.specs.declared.id.ItemId.{ItemId}
use Rattle.pl_base.specs.Good.{IsTitle}
use Rattle.pl_base.specs.Store.{Store, item_id}
use Rattle.pl_nbread.specs.declared.tree.Node.{Node}
use Rattle.pl_nbread.specs.WellFormed.{begins, is_folder, is_formed}
use Rattle.pl_nbread.specs.Listed.{IsListed}
use Rattle.pl_graft.specs.Import.{folder_of, folders_behind, with_list, with_node, with_nodes}
use Rattle.pl_graft.specs.OpenFolders.{Begins, MayGoOn}
use Rattle.pl_graft.specs.Ready.{IsReady}
use Rattle.pl_graft.proofs.NodeLaws.{formed}
use Rattle.pl_graft.proofs.NodesLeft.{may_go_on}
use Rattle.pl_graft.proofs.Ready.{takes_root}
use Rattle.pl_outline.proofs.Bare.{AreStorable, HasPages, bare}
use Rattle.pl_outline.proofs.NodeAdded.{GoesOn, IsAdded, node_added}
use Rattle.pl_outline.proofs.Spines.{IsRootNumber}
use Rattle.pl_outline.proofs.TagsBelow.{below_of}

-- what a store is with the nodes of a root's list
pub record AreAdded (store new : Store) (n : ℕ) (nodes : List Node) : Type 0 where
  pub ready : IsReady new
  pub pages : HasPages new
  pub below : below_of new (item_id n) ≡ below_of store (item_id n) ++ map bare nodes
  pub others : (m : ℕ) → IsRootNumber m → m ≢ n → below_of new (item_id m) ≡ below_of store (item_id m)

-- as many folders are open behind a node
count_behind : (b : Bool) (id : ItemId) (depth : ℕ) (folders : List ItemId) → depth ≤ length folders
    → depth + (if b then 2 else 1) ≡ length (take depth folders ++ (if b then id ∷ [] else [])) + 1
count_behind true id depth folders within =
    omega (arith, length-append (take depth folders) (id ∷ []), length-take depth folders)
count_behind false id depth folders within =
    omega (arith, length-append (take depth folders) [], length-take depth folders)

module _ (n : ℕ) (is : IsRootNumber n) where
  nodes_added : (nodes : List Node) (folders : List ItemId) (store : Store) → GoesOn store n folders
      → MayGoOn (length folders + 1) nodes → AllByRecursion (λ (k : Node). IsTitle k.title) nodes
      → AreAdded store (with_nodes (item_id n) nodes folders store) n nodes
  nodes_added [] folders store g may titles =
      record {
        ready = g.ready;
        pages = g.pages;
        below = sym (append-nil (below_of store (item_id n)));
        others = λ m root other. refl;
      }
  nodes_added (node ∷ nodes) folders store g may titles =
      let next : Store = with_node (folder_of (item_id n) folders node) node store in
      let behind : List ItemId = folders_behind folders node (item_id store.ids.item) in
      let deep : node.depth ≤ length folders = omega (arith, may.begins) in
      let whole : is_formed node ≡ true =
      (and_parts (is_formed node) (list_all is_formed nodes) may.formed).0 in
      let one : IsAdded store next n folders node =
      node_added store n is folders g node deep (formed node whole) titles.0 in
      let left : MayGoOn (length behind + 1) nodes =
      subst (λ (k : ℕ). MayGoOn k nodes)
      (count_behind (is_folder node.kind) (item_id store.ids.item) node.depth folders deep)
      (may_go_on (length folders + 1) node nodes may) in
      let rest : AreAdded next (with_nodes (item_id n) nodes behind next) n nodes =
      nodes_added nodes behind next one.goes_on left titles.1 in
      record {
        ready = rest.ready;
        pages = rest.pages;
        below =
            rest.below
            ∙ ap (λ (ks : List Node). ks ++ map bare nodes) one.below
            ∙ append_assoc (below_of store (item_id n)) (bare node ∷ []) (map bare nodes);
        others = λ m root other. rest.others m root other ∙ one.others m root other;
      }

  begins_at : (nodes : List Node) → IsListed nodes → MayGoOn 1 nodes
  begins_at nodes listed =
      record { begins = first nodes listed.begins; follow = listed.goes_on; formed = listed.formed }
    where
      first : (ks : List Node) → begins ks ≡ true → Begins 1 ks
      first [] at = tt
      first (k ∷ ks) at = omega (arith, eqb-true k.depth 0 at)

  pub list_added : (nodes : List Node) (store : Store) → IsReady store → HasPages store → AreStorable nodes
      → AreAdded store (with_list (item_id n) nodes store) n nodes
  list_added nodes store ready pages storable =
      nodes_added nodes [] store
      (record { ready = ready; pages = pages; takes = (takes_root store n ready is, tt); spine = tt })
      (begins_at nodes storable.listed) (recursion_from_All (λ (k : Node). IsTitle k.title) nodes storable.titles)

-- The bookmarks of a good store are kept by a file, and its whole tree is whole. A store keeps the lists
-- of both.
use Rattle.std.proofs.Common.{◌≡◌, ◌==◌, ◌⊎◌, ℕ, true, All, List, [], length, refl}
use Rattle.std.proofs.lemmas.List.Elements.{All-from_recursion, recursion_from_All}
use Rattle.std.proofs.lemmas.List.Sums.{list_all-from_AllPass}
use Rattle.pl_base.specs.declared.id.ItemId.{ItemId}
use Rattle.pl_base.specs.Good.{IsGood, IsGoodItem, IsTitle}
use Rattle.pl_base.specs.Store.{Item, Store, item_id}
use Rattle.pl_base.proofs.LookUps.{found_holds}
use Rattle.pl_nbread.specs.declared.tree.Node.{Node}
use Rattle.pl_nbread.specs.Listed.{IsListed}
use Rattle.pl_nbread.specs.WellFormed.{is_folder, is_formed}
use Rattle.pl_nbwrite.specs.Plain.{IsKept, IsPlain}
use Rattle.pl_outline.specs.Outline.{all_below, bookmarks, listed, node_of, whole, whole_node}
use Rattle.pl_outline.specs.Whole.{IsWhole, IsWholeNode}
use Rattle.pl_outline.proofs.Bare.{AreStorable, whole_below}
use Rattle.pl_outline.proofs.PlainNodes.{node_depth, node_formed, node_holds, node_kept, node_titled}
use Rattle.pl_outline.proofs.PlainNodes.{whole_formed, whole_holds, whole_is}
use Rattle.pl_outline.proofs.PreorderLaws.{IsFound, all_shown, begins_below, preorder_below}

module _ (store : Store) (items : All (IsGoodItem store) store.items) where
  found_good : (i : Item) → IsFound store.items i → IsGoodItem store i
  found_good i found =
      found_holds (IsGoodItem store) (λ (j : Item). j.id.0 == i.id.0) store.items i
      (recursion_from_All (IsGoodItem store) store.items items) found

  -- what is shown of each good item holds of all that is shown below a root
  pub all_listed : (show : ℕ → Item → Node) (P : Node → Type 0)
      → ((depth : ℕ) (i : Item) → IsGoodItem store i → P (show depth i)) → (root : ItemId)
      → All P (all_below show store.items root)
  all_listed show P holds root =
      All-from_recursion P (all_below show store.items root)
      (all_shown P show store.items (λ depth i found. holds depth i (found_good i found)) (length store.items) 0 root)

  -- what is shown below a root is listed
  root_listed : (show : ℕ → Item → Node) → ((depth : ℕ) (i : Item) → (show depth i).depth ≡ depth)
      → ((depth : ℕ) (i : Item) → IsGoodItem store i → (i.children ≡ []) ⊎ (is_folder (show depth i).kind ≡ true))
      → ((depth : ℕ) (i : Item) → IsGoodItem store i → is_formed (show depth i) ≡ true) → (root : ItemId)
      → IsListed (all_below show store.items root)
  root_listed show depths holds formed root =
      let nodes : List Node = all_below show store.items root in
      let below =
      preorder_below show store.items depths (λ depth i found. holds depth i (found_good i found))
      (length store.items) 0 root in
      record {
        begins = begins_below nodes below;
        goes_on = below.on;
        formed =
            list_all-from_AllPass is_formed nodes (all_listed show (λ (n : Node). is_formed n ≡ true) formed root);
      }

module _ (store : Store) (good : IsGood store) where
  -- a store keeps what stands in a root
  pub storable : (root : ItemId) → AreStorable (listed store root)
  storable root =
      record {
        listed =
            root_listed store good.items (node_of store) (node_depth store) (node_holds store good)
            (node_formed store good) root;
        titles =
            all_listed store good.items (node_of store) (λ (n : Node). IsTitle n.title) (node_titled store good) root;
      }

  -- and all of it
  pub whole_storable : (root : ItemId) → AreStorable (whole_below store root)
  whole_storable root =
      record {
        listed =
            root_listed store good.items (whole_node store) (λ depth i. refl) (whole_holds store good)
            (whole_formed store good) root;
        titles =
            all_listed store good.items (whole_node store) (λ (n : Node). IsTitle n.title) (λ depth i own. own.title)
            root;
      }

  -- a file keeps it
  file_keeps : (root : ItemId) → All IsKept (listed store root)
  file_keeps root = all_listed store good.items (node_of store) IsKept (node_kept store good) root

  whole_nodes : (root : ItemId) → All IsWholeNode (whole_below store root)
  whole_nodes root = all_listed store good.items (whole_node store) IsWholeNode (whole_is store good) root

  -- the whole tree is one that is whole
  pub whole_tree_is : IsWhole (whole store)
  whole_tree_is =
      record {
        listed = record {
          menu = (whole_storable (item_id 2)).listed;
          toolbar = (whole_storable (item_id 3)).listed;
          unfiled = (whole_storable (item_id 5)).listed;
          mobile = (whole_storable (item_id 6)).listed;
        };
        menu = whole_nodes (item_id 2);
        toolbar = whole_nodes (item_id 3);
        unfiled = whole_nodes (item_id 5);
        mobile = whole_nodes (item_id 6);
        skipped = refl;
      }

  -- a file keeps the bookmarks
  pub plain : IsPlain (bookmarks store)
  plain =
      record {
        listed = record {
          menu = (storable (item_id 2)).listed;
          toolbar = (storable (item_id 3)).listed;
          unfiled = (storable (item_id 5)).listed;
          mobile = (storable (item_id 6)).listed;
        };
        menu = file_keeps (item_id 2);
        toolbar = file_keeps (item_id 3);
        unfiled = file_keeps (item_id 5);
        mobile = file_keeps (item_id 6);
        skipped = refl;
      }

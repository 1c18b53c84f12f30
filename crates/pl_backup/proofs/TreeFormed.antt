-- Every tree that a backup holds is well formed.
use Rattle.std.proofs.Common.{◌≡◌, ◌∙◌, ◌≤◌, ◌<◌, ◌+◌, ◌^◌, ℕ, true, List, [], ◌++◌, arith, refl}
use Rattle.std.proofs.Common.{Option, Some, None}
use Rattle.std.specs.List.{list_all}
use Rattle.std.proofs.lemmas.Bool.{and_from}
use Rattle.std.proofs.lemmas.List.Folds.{list_all-append}
use Rattle.pl_nbread.specs.declared.tree.Node.{Node}
use Rattle.pl_nbread.specs.declared.tree.Tree.{Tree}
use Rattle.pl_nbread.specs.WellFormed.{AreWellFormed, IsWellFormed, is_formed}
use Rattle.pl_nbread.proofs.FittingDepths.{Stays, fits_begin, fits_go_on, stays_both, stays_none}
use Rattle.pl_backup.specs.declared.root.Root.{Root}
use Rattle.pl_backup.specs.declared.root.Root.TheVariants.{Menu, Toolbar, Unfiled, Mobile}
use Rattle.pl_backup.specs.BackupTree.{children_found, root, tree_of, with_child, with_front, with_root}
use Rattle.pl_backup.specs.Weights.{items_weight, members_weight, weight}
use Rattle.pl_backup.proofs.FoundDepths.{children_lie}
use Rattle.pl_backup.proofs.FoundNodes.{children_formed}
use Rattle.pl_backup.proofs.FoundWeights.{children_few, count_both, count_is, tags_count}
use Rattle.serde_json.specs.Data.{Data, Items, Members, array, boolean, item, no_items, null, number}
use Rattle.serde_json.specs.Data.{object, string}

-- a list may stand behind others of the same root, and has so many tags at most
record Fine (n : ℕ) (nodes : List Node) : Type 0 where
  stays : (reach : ℕ) → Stays reach 0 nodes
  formed : list_all is_formed nodes ≡ true
  tags : tags_count nodes ≤ n

fine_none : (n : ℕ) → Fine n []
fine_none n = record { stays = λ reach. stays_none reach 0 (omega arith); formed = refl; tags = omega arith }

fine_more : (m n : ℕ) (nodes : List Node) → m ≤ n → Fine m nodes → Fine n nodes
fine_more m n nodes room fine = record { stays = fine.stays; formed = fine.formed; tags = omega (arith, fine.tags) }

fine_both : (m n : ℕ) (xs ys : List Node) → Fine m xs → Fine n ys → Fine (m + n) (xs ++ ys)
fine_both m n xs ys front behind = record {
  stays = λ reach. stays_both reach 0 0 xs ys (front.stays reach) (λ k within. behind.stays k);
  formed = list_all-append is_formed xs ys ∙ and_from _ _ front.formed behind.formed;
  tags = omega (arith, count_both xs ys, front.tags, behind.tags);
}

fine_list : (fields : Members) → Fine (members_weight fields) (children_found 0 fields).nodes
fine_list fields = record {
  stays = λ reach. children_lie 0 fields reach (omega arith);
  formed = children_formed 0 fields;
  tags = (children_few 0 fields).tags;
}

record AreFine (n : ℕ) (tree : Tree) : Type 0 where
  menu : Fine n tree.menu
  toolbar : Fine n tree.toolbar
  unfiled : Fine n tree.unfiled
  mobile : Fine n tree.mobile

all_more : (m n : ℕ) (tree : Tree) → m ≤ n → AreFine m tree → AreFine n tree
all_more m n tree room fine = record {
  menu = fine_more m n tree.menu room fine.menu;
  toolbar = fine_more m n tree.toolbar room fine.toolbar;
  unfiled = fine_more m n tree.unfiled room fine.unfiled;
  mobile = fine_more m n tree.mobile room fine.mobile;
}

module _ (fields : Members) (n : ℕ) (tree : Tree) (fine : AreFine n tree) where
  rest : AreFine (members_weight fields + n) tree
  rest = all_more n (members_weight fields + n) tree (omega arith) fine

  front_fine : (root : Root) → AreFine (members_weight fields + n) (with_front root (children_found 0 fields) tree)
  front_fine Menu = record {
    menu = fine_both (members_weight fields) n (children_found 0 fields).nodes tree.menu (fine_list fields) fine.menu;
    toolbar = rest.toolbar;
    unfiled = rest.unfiled;
    mobile = rest.mobile;
  }
  front_fine Toolbar = record {
    menu = rest.menu;
    toolbar =
        fine_both (members_weight fields) n (children_found 0 fields).nodes tree.toolbar (fine_list fields)
        fine.toolbar;
    unfiled = rest.unfiled;
    mobile = rest.mobile;
  }
  front_fine Unfiled = record {
    menu = rest.menu;
    toolbar = rest.toolbar;
    unfiled =
        fine_both (members_weight fields) n (children_found 0 fields).nodes tree.unfiled (fine_list fields)
        fine.unfiled;
    mobile = rest.mobile;
  }
  front_fine Mobile = record {
    menu = rest.menu;
    toolbar = rest.toolbar;
    unfiled = rest.unfiled;
    mobile =
        fine_both (members_weight fields) n (children_found 0 fields).nodes tree.mobile (fine_list fields)
        fine.mobile;
  }

  root_fine : (root : Option Root) → AreFine (members_weight fields + n) (with_root root fields tree)
  root_fine None = rest
  root_fine (Some root) = front_fine root

child_fine : (value : Data) (n : ℕ) (tree : Tree) → AreFine n tree → AreFine (weight value + n) (with_child value tree)
child_fine null n tree fine = all_more n _ tree (omega arith) fine
child_fine (boolean b) n tree fine = all_more n _ tree (omega arith) fine
child_fine (number x) n tree fine = all_more n _ tree (omega arith) fine
child_fine (string s) n tree fine = all_more n _ tree (omega arith) fine
child_fine (array items) n tree fine = all_more n _ tree (omega arith) fine
child_fine (object fields) n tree fine =
    all_more (members_weight fields + n) _ (with_root (root fields) fields tree) (omega arith)
    (root_fine fields n tree fine (root fields))

all_fine : (items : Items) → AreFine (items_weight items) (tree_of items)
all_fine no_items = record {
  menu = fine_none 0;
  toolbar = fine_none 0;
  unfiled = fine_none 0;
  mobile = fine_none 0;
}
all_fine (item value more) = child_fine value (items_weight more) (tree_of more) (all_fine more)

list_formed : (n : ℕ) (nodes : List Node) → n < 2 ^ 32 → Fine n nodes → IsWellFormed nodes
list_formed n nodes short fine = record {
  begins = fits_begin nodes (fine.stays 0).fits;
  goes_on = fits_go_on nodes (fine.stays 0).fits;
  formed = fine.formed;
  few_tags = omega (arith, count_is nodes, fine.tags);
}

-- the lists of a tree are well formed where there is less in the values than numbers have values
pub tree_formed : (items : Items) → items_weight items < 2 ^ 32 → AreWellFormed (tree_of items)
tree_formed items short =
    let fine : AreFine (items_weight items) (tree_of items) = all_fine items in
    record {
      menu = list_formed (items_weight items) (tree_of items).menu short fine.menu;
      toolbar = list_formed (items_weight items) (tree_of items).toolbar short fine.toolbar;
      unfiled = list_formed (items_weight items) (tree_of items).unfiled short fine.unfiled;
      mobile = list_formed (items_weight items) (tree_of items).mobile short fine.mobile;
    }

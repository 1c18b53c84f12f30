-- Steps of the reader over the children of the top.
use Rattle.std.proofs.Common.{◌≡◌, ◌∙◌, ◌≤◌, ◌<◌, ◌+◌, ◌^◌, ℕ, List, ◌++◌}
use Rattle.std.proofs.Common.{ap, ap₂, arith, length, refl}
use Rattle.std.proofs.Common.{Option, Some, None, Ok, Err}
use Rattle.std.specs.Prelude.{unwrap_or}
use Rattle.std.proofs.lemmas.List.{append_assoc}
use Rattle.pl_nbread.specs.BookmarkFile.{file_limit}
use Rattle.pl_nbread.specs.declared.tree.Tree.{Tree}
use Rattle.pl_nbread.specs.WellFormed.{AreWellFormed}
use Rattle.pl_backup.specs.declared.error.Fault.TheVariants.{NoChildren, NotJson}
use Rattle.pl_backup.specs.declared.found.Found as declared
use Rattle.pl_backup.specs.declared.root.Root.{Root}
use Rattle.pl_backup.specs.declared.root.Root.TheVariants.{Menu, Toolbar, Unfiled, Mobile}
use Rattle.pl_backup.specs.declared.roots.Roots.{Roots}
use Rattle.pl_backup.specs.BackupTree.{Found, backup_tree, empty_tree, items_found, root}
use Rattle.pl_backup.specs.BackupTree.{top, tree_of, value_of, with_child, with_front}
use Rattle.pl_backup.specs.BackupTree.{with_root}
use Rattle.pl_backup.specs.Reading.{HasFound, before, children, fields, skipped_in}
use Rattle.pl_backup.specs.Weights.{items_weight, weight}
use Rattle.pl_backup.proofs.FoundWeights.{items_few}
use Rattle.pl_backup.proofs.ReadingSteps.{children_found_are, children_weight}
use Rattle.pl_backup.proofs.TreeFormed.{tree_formed}
use Rattle.pl_backup.proofs.ValueWeights.{value_weight}
use Rattle.serde_json.specs.Data.{Data, Items, array, boolean, no_items, null, number, object}
use Rattle.serde_json.specs.Data.{string}
use Rattle.serde_json.specs.Read.{read}

-- ---- a list of a root

module _ (found : Found) (old new : declared.Found) (has : HasFound found old new) (a b c : declared.Found)
    (tree : Tree) where
  pub menu_front : before (record { menu = new; toolbar = a; unfiled = b; mobile = c }) tree
      ≡ before (record { menu = old; toolbar = a; unfiled = b; mobile = c }) (with_front Menu found tree)
  menu_front =
      let nodes = ap (λ ns. ns ++ tree.menu) has.nodes ∙ append_assoc old.nodes.items found.nodes tree.menu in
      let skipped : new.skipped + a.skipped + b.skipped + c.skipped + tree.skipped
      ≡ old.skipped + a.skipped + b.skipped + c.skipped + (found.skipped + tree.skipped) =
      omega (arith, has.skipped) in
      ap₂
      (λ ns n.
      record {
        menu = ns;
        toolbar = a.nodes.items ++ tree.toolbar;
        unfiled = b.nodes.items ++ tree.unfiled;
        mobile = c.nodes.items ++ tree.mobile;
        skipped = n;
      })
      nodes skipped

  pub toolbar_front : before (record { menu = a; toolbar = new; unfiled = b; mobile = c }) tree
      ≡ before (record { menu = a; toolbar = old; unfiled = b; mobile = c }) (with_front Toolbar found tree)
  toolbar_front =
      let nodes = ap (λ ns. ns ++ tree.toolbar) has.nodes ∙ append_assoc old.nodes.items found.nodes tree.toolbar in
      let skipped : a.skipped + new.skipped + b.skipped + c.skipped + tree.skipped
      ≡ a.skipped + old.skipped + b.skipped + c.skipped + (found.skipped + tree.skipped) =
      omega (arith, has.skipped) in
      ap₂
      (λ ns n.
      record {
        menu = a.nodes.items ++ tree.menu;
        toolbar = ns;
        unfiled = b.nodes.items ++ tree.unfiled;
        mobile = c.nodes.items ++ tree.mobile;
        skipped = n;
      })
      nodes skipped

  pub unfiled_front : before (record { menu = a; toolbar = b; unfiled = new; mobile = c }) tree
      ≡ before (record { menu = a; toolbar = b; unfiled = old; mobile = c }) (with_front Unfiled found tree)
  unfiled_front =
      let nodes = ap (λ ns. ns ++ tree.unfiled) has.nodes ∙ append_assoc old.nodes.items found.nodes tree.unfiled in
      let skipped : a.skipped + b.skipped + new.skipped + c.skipped + tree.skipped
      ≡ a.skipped + b.skipped + old.skipped + c.skipped + (found.skipped + tree.skipped) =
      omega (arith, has.skipped) in
      ap₂
      (λ ns n.
      record {
        menu = a.nodes.items ++ tree.menu;
        toolbar = b.nodes.items ++ tree.toolbar;
        unfiled = ns;
        mobile = c.nodes.items ++ tree.mobile;
        skipped = n;
      })
      nodes skipped

  pub mobile_front : before (record { menu = a; toolbar = b; unfiled = c; mobile = new }) tree
      ≡ before (record { menu = a; toolbar = b; unfiled = c; mobile = old }) (with_front Mobile found tree)
  mobile_front =
      let nodes = ap (λ ns. ns ++ tree.mobile) has.nodes ∙ append_assoc old.nodes.items found.nodes tree.mobile in
      let skipped : a.skipped + b.skipped + c.skipped + new.skipped + tree.skipped
      ≡ a.skipped + b.skipped + c.skipped + old.skipped + (found.skipped + tree.skipped) =
      omega (arith, has.skipped) in
      ap₂
      (λ ns n.
      record {
        menu = a.nodes.items ++ tree.menu;
        toolbar = b.nodes.items ++ tree.toolbar;
        unfiled = c.nodes.items ++ tree.unfiled;
        mobile = ns;
        skipped = n;
      })
      nodes skipped

-- ---- a child of the top

by_root : (found : Option Root) (value : Data) (tree : Tree) → root (fields value) ≡ found
    → with_child value tree ≡ with_root found (fields value) tree
by_root found null tree is = ap (λ r. with_root r (fields null) tree) is
by_root found (boolean b) tree is = ap (λ r. with_root r (fields (boolean b)) tree) is
by_root found (number n) tree is = ap (λ r. with_root r (fields (number n)) tree) is
by_root found (string s) tree is = ap (λ r. with_root r (fields (string s)) tree) is
by_root found (array items) tree is = ap (λ r. with_root r (fields (array items)) tree) is
by_root found (object these) tree is = ap (λ r. with_root r these tree) is

pub child_root : (value : Data) (root_is : Root) → root (fields value) ≡ Some root_is → (tree : Tree)
    → with_child value tree ≡ with_front root_is (items_found 0 (children value)) tree
child_root value root_is is tree =
    by_root (Some root_is) value tree is ∙ ap (λ found. with_front root_is found tree) (children_found_are 0 value)

pub child_none : (value : Data) → root (fields value) ≡ None → (tree : Tree) → with_child value tree ≡ tree
child_none value is tree = by_root None value tree is

front_skipped : (root : Root) (found : Found) → (with_front root found empty_tree).skipped ≡ found.skipped + 0
front_skipped Menu found = refl
front_skipped Toolbar found = refl
front_skipped Unfiled found = refl
front_skipped Mobile found = refl

-- a root's list skips no more than the child of the top weighs
pub child_few : (old new : Roots) (root : Root) (value : Data)
    → before new empty_tree ≡ before old (with_front root (items_found 0 (children value)) empty_tree)
    → skipped_in new ≤ skipped_in old + weight value
child_few old new root value is =
    omega (
      arith,
      ap (λ (t : Tree). t.skipped) is,
      front_skipped root (items_found 0 (children value)),
      (items_few 0 (children value)).skipped,
      children_weight value,
    )

-- ---- all of them

-- what was read of the children of the top, and what is left of them
pub record Builds (all left : Items) (roots : Roots) : Type 0 where
  pub tree : before roots (tree_of left) ≡ tree_of all
  pub room : skipped_in roots + items_weight left ≤ items_weight all

-- ---- the backup

module _ (bytes : List ℕ) (value : Data) (items : Items) (is : read bytes ≡ Some value) (top_is : top value ≡ Some items) where
  pub items_short : length bytes < file_limit → items_weight items < 2 ^ 32
  items_short short =
      let same : items_weight (children value) ≡ items_weight items =
      ap (λ o. items_weight (unwrap_or o no_items)) top_is in
      omega (arith, children_weight value, value_weight bytes value is)

  pub backup_formed : length bytes < file_limit → AreWellFormed (tree_of items)
  backup_formed short = tree_formed items (items_short short)

pub backup_is : (bytes : List ℕ) (value : Data) (items : Items) → value_of bytes ≡ Some value
    → top value ≡ Some items → backup_tree bytes ≡ Ok (tree_of items)
backup_is bytes value items is top_is = rw (is, top_is) refl

pub no_children : (bytes : List ℕ) (value : Data) → value_of bytes ≡ Some value → top value ≡ None
    → backup_tree bytes ≡ Err NoChildren
no_children bytes value is top_is = rw (is, top_is) refl

pub no_json : (bytes : List ℕ) → value_of bytes ≡ None → backup_tree bytes ≡ Err NotJson
no_json bytes is = rw is refl

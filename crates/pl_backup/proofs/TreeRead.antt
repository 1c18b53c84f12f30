-- A tree that a backup keeps is read back from its text.
use Rattle.std.proofs.Common.{◌≡◌, ◌∙◌, ◌≤◌, ◌<◌, ◌^◌, ◌+◌, ◌*◌, ℕ, true, List, [], ◌∷◌, Some, Ok, ap, append-nil, arith, refl}
use Rattle.std.proofs.Common.{sym}
use Rattle.std.specs.Prelude.{codes}
use Rattle.std.specs.List.{AllByRecursion, list_all}
use Rattle.std.proofs.lemmas.Bool.{and_parts, cond-true}
use Rattle.std.proofs.lemmas.List.Elements.{recursion_from_All}
use Rattle.std.proofs.lemmas.Str.{IsUtf8-nil}
use Rattle.json.proofs.Printed.Utf8.{are_ascii}
use Rattle.pl_nbread.specs.declared.tree.Node.{Node}
use Rattle.pl_nbread.specs.declared.tree.Tree.{Tree}
use Rattle.pl_nbread.specs.WellFormed.{is_formed}
use Rattle.pl_backup.specs.BackupText.{backup, backup_text, items, root, values}
use Rattle.pl_backup.specs.BackupTree.{Found, backup_tree, empty_tree, items_found, tree_of_value}
use Rattle.pl_backup.specs.BackupTree.{with_front}
use Rattle.pl_backup.specs.declared.root.Root.TheVariants.{Menu, Mobile, Toolbar, Unfiled}
use Rattle.pl_backup.specs.ReadsBack.{HasTexts, IsKept, KeepsInJson, deepest, is_shallow}
use Rattle.pl_backup.proofs.ListsRead.{list_of_root, only, roots_at}
use Rattle.pl_backup.proofs.NodesKept.{items_kept, items_nest, plain, titled_kept, values_kept}
use Rattle.pl_backup.proofs.NodesRead.{IsFit, fit}
use Rattle.pl_backup.proofs.ValuesRead.{ItemsReadBack, ReadsBack, line_text, text_read}
use Rattle.serde_json.specs.Data.{Data, Items, depth, item, items_depth, no_items, no_members}
use Rattle.serde_json.specs.Read.{max_depth}

-- ---- nodes

each_fit : (nodes : List Node) → list_all is_formed nodes ≡ true → list_all is_shallow nodes ≡ true
    → AllByRecursion HasTexts nodes → AllByRecursion IsFit nodes
each_fit [] formed shallow texts = tt
each_fit (node ∷ nodes) formed shallow texts =
    let a = and_parts (is_formed node) (list_all is_formed nodes) formed in
    let b = and_parts (is_shallow node) (list_all is_shallow nodes) shallow in
    (fit node a.0 b.0 texts.0, each_fit nodes a.1 b.1 texts.1)

all_fit : (nodes : List Node) → IsKept nodes → AllByRecursion IsFit nodes
all_fit nodes kept = each_fit nodes kept.listed.formed kept.shallow (recursion_from_All HasTexts nodes kept.texts)

nodes_read : (nodes : List Node) → IsKept nodes → items_found 0 (items (values nodes)) ≡ only nodes
nodes_read nodes kept = list_of_root nodes kept.listed.begins kept.listed.goes_on (all_fit nodes kept)

-- ---- roots

-- a value reads back, and nests no deeper than this
record IsWithin (most : ℕ) (value : Data) : Type 0 where
  reads : ReadsBack value
  nests : depth value ≤ most

root_kept : (guid name : List ℕ) (children : Items) (most : ℕ) → are_ascii guid ≡ true → are_ascii name ≡ true
    → ItemsReadBack children → items_depth children ≤ most → IsWithin (2 + most) (root guid name children)
root_kept guid name children most one two kept low =
    let type : List ℕ = codes "text/x-moz-place-container" in
    let small : 0 < 2 ^ 64 = omega arith in
    let kind = titled_kept [] type 2 no_members IsUtf8-nil (plain type refl) (omega arith) tt in
    record {
      reads = (
        refl,
        (
          refl,
          (
            kept,
            (refl, (small, (refl, (plain guid one, (refl, (small, (refl, (plain name two, kind)))))))),
          ),
        ),
      );
      nests = omega (arith, low);
    }

list_kept : (guid name : List ℕ) (nodes : List Node) → are_ascii guid ≡ true → are_ascii name ≡ true → IsKept nodes
    → IsWithin 124 (root guid name (items (values nodes)))
list_kept guid name nodes one two kept =
    let all = values_kept nodes kept.listed.goes_on (all_fit nodes kept) in
    let low : 2 * 0 ≤ 2 + 2 * deepest = omega arith in
    root_kept guid name (items (values nodes)) 122 one two (items_kept (values nodes) all)
    (omega (arith, items_nest 0 (values nodes) (roots_at nodes kept.listed.begins kept.listed.goes_on) all low))

-- the children of the top
module _ (tree : Tree) where
  abbrev menu : Data
  menu = root (codes "menu________") (codes "bookmarksMenuFolder") (items (values tree.menu))

  abbrev toolbar : Data
  toolbar = root (codes "toolbar_____") (codes "toolbarFolder") (items (values tree.toolbar))

  abbrev unfiled : Data
  unfiled = root (codes "unfiled_____") (codes "unfiledBookmarksFolder") (items (values tree.unfiled))

  abbrev mobile : Data
  mobile = root (codes "mobile______") (codes "mobileFolder") (items (values tree.mobile))

  abbrev children : Items
  children = item menu (item toolbar (item unfiled (item mobile no_items)))

  backup_kept : KeepsInJson tree → IsWithin max_depth (backup tree)
  backup_kept kept =
      let m = list_kept (codes "menu________") (codes "bookmarksMenuFolder") tree.menu refl refl kept.menu in
      let t = list_kept (codes "toolbar_____") (codes "toolbarFolder") tree.toolbar refl refl kept.toolbar in
      let u = list_kept (codes "unfiled_____") (codes "unfiledBookmarksFolder") tree.unfiled refl refl kept.unfiled in
      let o = list_kept (codes "mobile______") (codes "mobileFolder") tree.mobile refl refl kept.mobile in
      let all : ItemsReadBack children = (m.reads, (t.reads, (u.reads, (o.reads, tt)))) in
      let low : items_depth children ≤ 124 = omega (arith, m.nests, t.nests, u.nests, o.nests) in
      let whole = root_kept (codes "root________") (codes "placesRoot") children 124 refl refl all low in
      record { reads = whole.reads; nests = omega (arith, whole.nests) }

-- ---- the tree

abbrev joined : Found → Found → Found → Found → Tree
joined m t u o = with_front Menu m (with_front Toolbar t (with_front Unfiled u (with_front Mobile o empty_tree)))

tree_read : (tree : Tree) → KeepsInJson tree → tree_of_value (Some (backup tree)) ≡ Ok tree
tree_read tree kept =
    let m = nodes_read tree.menu kept.menu in
    let t = nodes_read tree.toolbar kept.toolbar in
    let u = nodes_read tree.unfiled kept.unfiled in
    let o = nodes_read tree.mobile kept.mobile in
    (λ i. Ok (joined (m i) (t i) (u i) (o i)))
    ∙ (λ i. Ok (record {
      menu = append-nil tree.menu i;
      toolbar = append-nil tree.toolbar i;
      unfiled = append-nil tree.unfiled i;
      mobile = append-nil tree.mobile i;
      skipped = sym kept.skipped i;
    }))

-- a tree that a backup keeps is the tree of its text
pub backup_read : (tree : Tree) → KeepsInJson tree → backup_tree (backup_text tree) ≡ Ok tree
backup_read tree kept =
    let own = backup_kept tree kept in
    ap tree_of_value
    (cond-true _ _ _ (line_text (backup tree) own.reads) ∙ text_read (backup tree) own.reads own.nests)
    ∙ tree_read tree kept

-- The depths of the nodes that are found: each may stand behind the one before it.
use Rattle.std.proofs.Common.{◌≤◌, ◌+◌, ℕ, suc, List, []}
use Rattle.std.proofs.Common.{arith}
use Rattle.std.proofs.Common.{Option, Some, None}
use Rattle.std.proofs.Common.{Ordering, Less, Equal, Greater}
use Rattle.std.specs.Prelude.{codes}
use Rattle.std.specs.Cmp.Lexicographic.{slice_cmp}
use Rattle.std.specs.Ordering.{match_ordering, nat_cmp}
use Rattle.pl_base.specs.declared.item.ItemKind.{ItemKind}
use Rattle.pl_base.specs.declared.item.ItemKind.TheVariants.{Bookmark, Folder, Separator}
use Rattle.pl_nbread.proofs.FittingDepths.{Stays, stays_both, stays_none}
use Rattle.pl_backup.specs.BackupTree.{Found, array_found, bookmark_found, children_found, items_found}
use Rattle.pl_backup.specs.BackupTree.{kind, object_found, url, value_found}
use Rattle.serde_json.specs.Data.{Data, Items, Members, array, boolean, item, member, no_items}
use Rattle.serde_json.specs.Data.{no_members, null, number, object, string}

-- what is found at a depth may stand behind a node that is as deep
abbrev pub Lies : ℕ → Found → Type 0
Lies depth found = (reach : ℕ) → depth ≤ reach → Stays reach depth found.nodes

lies_none : (depth skipped : ℕ) → Lies depth (record { nodes = []; skipped = skipped })
lies_none depth skipped reach within = stays_none reach depth within

module _ (depth : ℕ) (fields : Members) (below : Found) (deeper : Lies (suc depth) below) where
  bookmark_lies : (url : Option (List ℕ)) → Lies depth (bookmark_found depth url fields)
  bookmark_lies None reach within = stays_none reach depth within
  bookmark_lies (Some url) reach within = record { fits = (within, tt); leaves = omega arith }

  object_lies : (kind : Option ItemKind) → Lies depth (object_found depth kind fields below)
  object_lies None reach within = stays_none reach depth within
  object_lies (Some Bookmark) reach within = bookmark_lies (url fields) reach within
  object_lies (Some Separator) reach within = record { fits = (within, tt); leaves = omega arith }
  object_lies (Some Folder) reach within =
      let inner = deeper (depth + 1) (omega arith) in
      record { fits = (within, inner.fits); leaves = omega (arith, inner.leaves) }

lies_chosen : (depth : ℕ) (o : Ordering) (a b c : Found) → Lies depth a → Lies depth b → Lies depth c
    → Lies depth (match_ordering o a b c)
lies_chosen depth Less a b c p q r = p
lies_chosen depth Equal a b c p q r = q
lies_chosen depth Greater a b c p q r = r

mutual
  value_lies : (depth : ℕ) (value : Data) → Lies depth (value_found depth value)
  value_lies depth null = lies_none depth 1
  value_lies depth (boolean b) = lies_none depth 1
  value_lies depth (number n) = lies_none depth 1
  value_lies depth (string s) = lies_none depth 1
  value_lies depth (array items) = lies_none depth 1
  value_lies depth (object fields) =
      object_lies depth fields (children_found (suc depth) fields) (children_lie (suc depth) fields) (kind fields)

  items_lie : (depth : ℕ) (items : Items) → Lies depth (items_found depth items)
  items_lie depth no_items = lies_none depth 0
  items_lie depth (item value more) =
      λ reach within.
      stays_both reach depth depth (value_found depth value).nodes (items_found depth more).nodes
      (value_lies depth value reach within) (items_lie depth more)

  pub children_lie : (depth : ℕ) (fields : Members) → Lies depth (children_found depth fields)
  children_lie depth no_members = lies_none depth 0
  children_lie depth (member key value more) =
      lies_chosen depth (slice_cmp nat_cmp (codes "children") key) (children_found depth more)
      (array_found depth value) (children_found depth more) (children_lie depth more) (array_lies depth value)
      (children_lie depth more)

  array_lies : (depth : ℕ) (value : Data) → Lies depth (array_found depth value)
  array_lies depth null = lies_none depth 0
  array_lies depth (boolean b) = lies_none depth 0
  array_lies depth (number n) = lies_none depth 0
  array_lies depth (string s) = lies_none depth 0
  array_lies depth (object fields) = lies_none depth 0
  array_lies depth (array items) = items_lie depth items

-- The tree that a JSON backup holds: of the value that `serde_json` reads, by recursion on it.
use Rattle.std.specs.Prelude.{ℕ, suc, ◌+◌, List, [], ◌∷◌, ◌++◌, bytes_eq, codes}
use Rattle.std.specs.Prelude.{nat_le, unwrap_or, Option, Some, None, Result, Ok, Err}
use Rattle.std.specs.Prelude.{if◌then◌else◌}
use Rattle.std.specs.Cmp.Lexicographic.{slice_cmp}
use Rattle.std.specs.Option.{option_and_then}
use Rattle.std.specs.Ordering.{match_ordering, nat_cmp}
use Rattle.std.specs.Str.{is_utf8}
use Rattle.pl_base.specs.declared.date.Micros.{Micros}
use Rattle.pl_base.specs.declared.item.ItemKind.{ItemKind}
use Rattle.pl_base.specs.declared.item.ItemKind.TheVariants.{Bookmark, Folder, Separator}
use Rattle.pl_base.specs.Address.{canon}
use Rattle.pl_base.specs.Date.{last_date}
use Rattle.pl_base.specs.ItemKind.{item_kind_at}
use Rattle.pl_nbread.specs.BookmarkTree.{tags_in}
use Rattle.pl_nbread.specs.declared.tree.Node.{Node}
use Rattle.pl_nbread.specs.declared.tree.Tree.{Tree}
use Rattle.pl_backup.specs.declared.error.Fault.{Fault}
use Rattle.pl_backup.specs.declared.error.Fault.TheVariants.{NoChildren, NotJson}
use Rattle.pl_backup.specs.declared.root.Root.{Root}
use Rattle.pl_backup.specs.declared.root.Root.TheVariants.{Menu, Toolbar, Unfiled, Mobile}
use Rattle.serde_json.specs.Data.{Data, Items, Members, Num, array, boolean, float, item, member}
use Rattle.serde_json.specs.Data.{negative, no_items, no_members, null, number, object, string}
use Rattle.serde_json.specs.Data.{unsigned}
use Rattle.serde_json.specs.Find.{as_array, as_number, as_str, as_u64, get, get_member}
use Rattle.serde_json.specs.Read.{read}

-- ---- members

abbrev pub text : List ℕ → Members → Option (List ℕ)
text key fields = option_and_then as_str (get_member key fields)

abbrev pub num : List ℕ → Members → Option Num
num key fields = option_and_then as_number (get_member key fields)

-- ---- what a node is

abbrev pub kind_named : List ℕ → Option ItemKind
kind_named type =
    if bytes_eq type (codes "text/x-moz-place") then Some Bookmark else
    if bytes_eq type (codes "text/x-moz-place-container") then Some Folder else
    if bytes_eq type (codes "text/x-moz-place-separator") then Some Separator else None

-- a whole number decides, also where it is the number of no kind; one with a fraction or an
-- exponent is a float, and so is -0
abbrev pub kind_by : Option Num → Option (List ℕ) → Option ItemKind
kind_by (Some (unsigned code)) type = item_kind_at code
kind_by (Some (negative code)) type = None
kind_by (Some (float code)) type = option_and_then kind_named type
kind_by None type = option_and_then kind_named type

abbrev pub kind : Members → Option ItemKind
kind fields = kind_by (num (codes "typeCode") fields) (text (codes "type") fields)

abbrev pub if_date : ℕ → Option Micros
if_date micros = if nat_le micros last_date then Some (record { 0 = micros }) else None

-- a date that is a whole number in range
abbrev pub date : List ℕ → Members → Option Micros
date key fields = option_and_then if_date (option_and_then as_u64 (num key fields))

abbrev pub added : Members → Micros
added fields = unwrap_or (date (codes "dateAdded") fields) (record { 0 = 0 })

-- without a date of its own the date on which it was added
abbrev pub modified : Members → Micros
modified fields = unwrap_or (date (codes "lastModified") fields) (added fields)

abbrev pub title : Members → List ℕ
title fields = unwrap_or (text (codes "title") fields) []

abbrev pub url : Members → Option (List ℕ)
url fields = option_and_then canon (text (codes "uri") fields)

-- apart by commas, each one once
abbrev pub tags : Members → List (List ℕ)
tags fields = tags_in (unwrap_or (text (codes "tags") fields) [])

abbrev pub node : ℕ → ItemKind → Option (List ℕ) → List (List ℕ) → Members → Node
node depth kind url tags fields =
    record {
      depth = depth;
      kind = kind;
      url = url;
      title = title fields;
      added = added fields;
      modified = modified fields;
      tags = tags;
    }

-- ---- lists

-- nodes in preorder, and how many values are none
pub record Found : Type 0 where
  pub nodes : List Node
  pub skipped : ℕ

abbrev pub nothing : Found
nothing = record { nodes = []; skipped = 0 }

abbrev pub one_skipped : Found
one_skipped = record { nodes = []; skipped = 1 }

-- a node in front of what stands below it
abbrev pub above : Node → Found → Found
above node below = record { nodes = node ∷ below.nodes; skipped = below.skipped }

abbrev pub joined : Found → Found → Found
joined a b = record { nodes = a.nodes ++ b.nodes; skipped = a.skipped + b.skipped }

-- a bookmark is none where its address is no URL of the store
abbrev pub bookmark_found : ℕ → Option (List ℕ) → Members → Found
bookmark_found depth None fields = one_skipped
bookmark_found depth (Some url) fields =
    above (node depth Bookmark (Some url) (tags fields) fields) nothing

-- an object of this kind, with what stands in its children; those of a folder alone count
abbrev pub object_found : ℕ → Option ItemKind → Members → Found → Found
object_found depth None fields below = one_skipped
object_found depth (Some Bookmark) fields below = bookmark_found depth (url fields) fields
object_found depth (Some Separator) fields below =
    above (node depth Separator None [] fields) nothing
object_found depth (Some Folder) fields below = above (node depth Folder None [] fields) below

abbrev mutual
  -- what a value in a list is, at this depth
  pub value_found : ℕ → Data → Found
  value_found depth (object fields) =
      object_found depth (kind fields) fields (children_found (suc depth) fields)
  value_found depth null = one_skipped
  value_found depth (boolean b) = one_skipped
  value_found depth (number n) = one_skipped
  value_found depth (string s) = one_skipped
  value_found depth (array items) = one_skipped

  -- what stands in a list
  pub items_found : ℕ → Items → Found
  items_found depth no_items = nothing
  items_found depth (item value more) =
      joined (value_found depth value) (items_found depth more)

  -- what stands in the children of an object with these fields
  pub children_found : ℕ → Members → Found
  children_found depth no_members = nothing
  children_found depth (member key value more) =
      match_ordering (slice_cmp nat_cmp (codes "children") key) (children_found depth more)
      (array_found depth value) (children_found depth more)

  -- children that are no array are none
  pub array_found : ℕ → Data → Found
  array_found depth (array items) = items_found depth items
  array_found depth null = nothing
  array_found depth (boolean b) = nothing
  array_found depth (number n) = nothing
  array_found depth (string s) = nothing
  array_found depth (object fields) = nothing

-- ---- the tree

abbrev pub root_with_guid : List ℕ → Option Root
root_with_guid guid =
    if bytes_eq guid (codes "menu________") then Some Menu else
    if bytes_eq guid (codes "toolbar_____") then Some Toolbar else
    if bytes_eq guid (codes "unfiled_____") then Some Unfiled else
    if bytes_eq guid (codes "mobile______") then Some Mobile else None

abbrev pub root_named : List ℕ → Option Root
root_named name =
    if bytes_eq name (codes "bookmarksMenuFolder") then Some Menu else
    if bytes_eq name (codes "toolbarFolder") then Some Toolbar else
    if bytes_eq name (codes "unfiledBookmarksFolder") then Some Unfiled else
    if bytes_eq name (codes "mobileFolder") then Some Mobile else None

-- the first where there is one, else the second
abbrev pub root_or : Option Root → Option Root → Option Root
root_or (Some root) other = Some root
root_or None other = other

-- the root that a child of the top is: its guid decides where it is that of a root
abbrev pub root : Members → Option Root
root fields =
    root_or (option_and_then root_with_guid (text (codes "guid") fields))
    (option_and_then root_named (text (codes "root") fields))

-- a tree with more in front of a root's list
abbrev pub with_front : Root → Found → Tree → Tree
with_front Menu found tree =
    record tree { menu = found.nodes ++ tree.menu; skipped = found.skipped + tree.skipped }
with_front Toolbar found tree =
    record tree { toolbar = found.nodes ++ tree.toolbar; skipped = found.skipped + tree.skipped }
with_front Unfiled found tree =
    record tree { unfiled = found.nodes ++ tree.unfiled; skipped = found.skipped + tree.skipped }
with_front Mobile found tree =
    record tree { mobile = found.nodes ++ tree.mobile; skipped = found.skipped + tree.skipped }

-- a child of the top that is no root is passed over
abbrev pub with_root : Option Root → Members → Tree → Tree
with_root None fields tree = tree
with_root (Some root) fields tree = with_front root (children_found 0 fields) tree

abbrev pub with_child : Data → Tree → Tree
with_child (object fields) tree = with_root (root fields) fields tree
with_child null tree = tree
with_child (boolean b) tree = tree
with_child (number n) tree = tree
with_child (string s) tree = tree
with_child (array items) tree = tree

abbrev pub empty_tree : Tree
empty_tree = record { menu = []; toolbar = []; unfiled = []; mobile = []; skipped = 0 }

-- the tree of the children of the top
abbrev pub tree_of : Items → Tree
tree_of no_items = empty_tree
tree_of (item value more) = with_child value (tree_of more)

-- the children of the top: it is an object with an array of them
abbrev pub top : Data → Option Items
top value = option_and_then as_array (get (codes "children") value)

-- ---- the backup

-- the number of a fault in a reply
abbrev pub fault_number : Fault → ℕ
fault_number NotJson = 1
fault_number NoChildren = 2

-- the value that bytes are
abbrev pub value_of : List ℕ → Option Data
value_of bytes = if is_utf8 bytes then read bytes else None

abbrev pub tree_or : Option Items → Result Tree Fault
tree_or None = Err NoChildren
tree_or (Some items) = Ok (tree_of items)

abbrev pub tree_of_value : Option Data → Result Tree Fault
tree_of_value None = Err NotJson
tree_of_value (Some value) = tree_or (top value)

-- the tree that a backup holds, or why bytes are none
abbrev pub backup_tree : List ℕ → Result Tree Fault
backup_tree bytes = tree_of_value (value_of bytes)

-- What the reader's steps find, piece by piece. For private clauses.
use Rattle.std.specs.Prelude.{◌≡◌, ◌+◌, ◌++◌, ℕ, Bool, true, false, [], unwrap_or}
use Rattle.std.specs.Prelude.{Option, Some, None}
use Rattle.pl_base.specs.declared.item.ItemKind.{ItemKind}
use Rattle.pl_base.specs.declared.item.ItemKind.TheVariants.{Bookmark, Folder, Separator}
use Rattle.pl_nbread.specs.declared.tree.Tree.{Tree}
use Rattle.pl_backup.specs.BackupTree.{above, bookmark_found, kind, node, nothing, one_skipped}
use Rattle.pl_backup.specs.BackupTree.{top, url}
use Rattle.pl_backup.specs.BackupTree as tree
use Rattle.pl_backup.specs.declared.found.Found.{Found}
use Rattle.pl_backup.specs.declared.roots.Roots.{Roots}
use Rattle.serde_json.specs.Data.{Data, Items, Members, array, boolean, no_items, no_members, null}
use Rattle.serde_json.specs.Data.{number, object, string}

-- the members of an object
abbrev pub fields : Data → Members
fields (object members) = members
fields null = no_members
fields (boolean b) = no_members
fields (number n) = no_members
fields (string s) = no_members
fields (array items) = no_members

-- the children of an object, where it has an array of them
abbrev pub children : Data → Items
children value = unwrap_or (top value) no_items

-- a value by itself, without what stands in its children
abbrev pub own_by : Option ItemKind → ℕ → Members → tree.Found
own_by None depth all = one_skipped
own_by (Some Bookmark) depth all = bookmark_found depth (url all) all
own_by (Some Folder) depth all = above (node depth Folder None [] all) nothing
own_by (Some Separator) depth all = above (node depth Separator None [] all) nothing

abbrev pub own : ℕ → Data → tree.Found
own depth value = own_by (kind (fields value)) depth (fields value)

-- what stands in its children counts
abbrev pub opens_by : Option ItemKind → Bool
opens_by None = false
opens_by (Some Bookmark) = false
opens_by (Some Folder) = true
opens_by (Some Separator) = false

abbrev pub opens : Data → Bool
opens value = opens_by (kind (fields value))

-- nothing was found
pub record HasNone (found : Found) : Type 0 where
  pub nodes : found.nodes.items ≡ []
  pub skipped : found.skipped ≡ 0

-- more was found
pub record HasFound (more : tree.Found) (old new : Found) : Type 0 where
  pub nodes : new.nodes.items ≡ old.nodes.items ++ more.nodes
  pub skipped : new.skipped ≡ old.skipped + more.skipped

-- how many values were skipped in all roots
abbrev pub skipped_in : Roots → ℕ
skipped_in roots =
    roots.menu.skipped + roots.toolbar.skipped + roots.unfiled.skipped + roots.mobile.skipped

-- what was found in front of what is to come
abbrev pub before : Roots → Tree → Tree
before roots tree =
    record {
      menu = roots.menu.nodes.items ++ tree.menu;
      toolbar = roots.toolbar.nodes.items ++ tree.toolbar;
      unfiled = roots.unfiled.nodes.items ++ tree.unfiled;
      mobile = roots.mobile.nodes.items ++ tree.mobile;
      skipped = skipped_in roots + tree.skipped;
    }

-- The JSON backup of a tree: the value that it is, and its text.
use Rattle.std.specs.Prelude.{ℕ, List, [], ◌∷◌, ◌++◌, codes, drop, map, nat_lt, take, unwrap_or}
use Rattle.std.specs.List.{prefix_len}
use Rattle.pl_base.specs.declared.date.Micros.{Micros}
use Rattle.pl_base.specs.declared.item.ItemKind.{ItemKind}
use Rattle.pl_base.specs.declared.item.ItemKind.TheVariants.{Bookmark, Folder, Separator}
use Rattle.pl_base.specs.Tags.{comma_joined}
use Rattle.pl_nbread.specs.declared.tree.Node.{Node}
use Rattle.pl_nbread.specs.declared.tree.Tree.{Tree}
use Rattle.serde_json.specs.Data.{Data, Items, Members, array, item, member, no_items, no_members}
use Rattle.serde_json.specs.Data.{number, object, string, unsigned}
use Rattle.serde_json.specs.View.{items_of}
use Rattle.serde_json.specs.Written.{compact_text}

-- ---- members, by their keys in byte order

abbrev pub text : List ℕ → List ℕ → Members → Members
text key value more = member key (string value) more

abbrev pub count : List ℕ → ℕ → Members → Members
count key value more = member key (number (unsigned value)) more

-- dates in microseconds
abbrev pub dates : Micros → Micros → Members → Members
dates added modified more =
    count (codes "dateAdded") added.0 (count (codes "lastModified") modified.0 more)

-- tags apart by commas, where there are any
abbrev pub tags : List (List ℕ) → Members → Members
tags [] more = more
tags (tag ∷ names) more = text (codes "tags") (comma_joined (tag ∷ names)) more

-- a title, and the name and the number of a kind
abbrev pub titled : List ℕ → List ℕ → ℕ → Members → Members
titled title type code more =
    text (codes "title") title (text (codes "type") type (count (codes "typeCode") code more))

-- what stands behind the other members of a folder or a root
abbrev pub container : List ℕ → Members
container title = titled title (codes "text/x-moz-place-container") 2 no_members

-- ---- nodes

abbrev pub bookmark : Node → Data
bookmark node =
    object
    (dates node.added node.modified
    (tags node.tags
    (titled node.title (codes "text/x-moz-place") 1
    (text (codes "uri") (unwrap_or node.url []) no_members))))

abbrev pub separator : Node → Data
separator node =
    object
    (dates node.added node.modified
    (titled node.title (codes "text/x-moz-place-separator") 3 no_members))

-- an object with children in front
abbrev pub with_children : Items → Members → Data
with_children children more = object (member (codes "children") (array children) more)

abbrev pub folder : Node → Items → Data
folder node children =
    with_children children (dates node.added node.modified (container node.title))

-- ---- lists

-- the value of a node with all that stands below it, and the node's depth
pub record Placed : Type 0 where
  pub depth : ℕ
  pub value : Data

-- of values in a row, how many stand below a folder of this depth: up to the first that is not
-- deeper
abbrev pub count_below : ℕ → List Placed → ℕ
count_below depth values = prefix_len (λ (v : Placed). nat_lt depth v.depth) values

abbrev pub items : List Placed → Items
items values = items_of (map (λ (v : Placed). v.value) values)

-- a node in front of those behind it: a folder takes those that stand below it
abbrev pub put_front : ItemKind → Node → List Placed → List Placed
put_front Bookmark node behind = record { depth = node.depth; value = bookmark node } ∷ behind
put_front Separator node behind = record { depth = node.depth; value = separator node } ∷ behind
put_front Folder node behind =
    record {
      depth = node.depth;
      value = folder node (items (take (count_below node.depth behind) behind));
    }
    ∷ drop (count_below node.depth behind) behind

-- the values of nodes in preorder
abbrev pub values : List Node → List Placed
values [] = []
values (node ∷ nodes) = put_front node.kind node (values nodes)

-- ---- the backup

-- one of the roots: it has no dates and no title
abbrev pub root : List ℕ → List ℕ → Items → Data
root guid name children =
    with_children children
    (count (codes "dateAdded") 0
    (text (codes "guid") guid
    (count (codes "lastModified") 0 (text (codes "root") name (container [])))))

-- the value of a tree: the four roots, in this order, with or without nodes
abbrev pub backup : Tree → Data
backup tree =
    root (codes "root________") (codes "placesRoot")
    (item (root (codes "menu________") (codes "bookmarksMenuFolder") (items (values tree.menu)))
    (item (root (codes "toolbar_____") (codes "toolbarFolder") (items (values tree.toolbar)))
    (item
    (root (codes "unfiled_____") (codes "unfiledBookmarksFolder") (items (values tree.unfiled)))
    (item (root (codes "mobile______") (codes "mobileFolder") (items (values tree.mobile)))
    no_items))))

-- the text of a tree: that value without a space, and a line feed
abbrev pub backup_text : Tree → List ℕ
backup_text tree = compact_text (backup tree) ++ codes "\n"

-- Worked rows of trees that backups hold.
use Rattle.std.proofs.Common.{◌≡◌, ◌++◌, ℕ, List, [], ◌∷◌, Option, Some, None, map, refl}
use Rattle.std.specs.Prelude.{Result, Ok, Err, codes}
use Rattle.std.specs.Fmt.{digits}
use Rattle.std.specs.Str.{chars, is_utf8}
use lib.Utf8.{encode}
use Rattle.caseless.proofs.Computing.{caseless}
use Rattle.url.proofs.OnLiterals.{url_on_literals}
use Rattle.pl_base.specs.declared.item.ItemKind.{ItemKind}
use Rattle.pl_base.specs.declared.item.ItemKind.TheVariants.{Bookmark, Folder, Separator}
use Rattle.pl_nbread.specs.declared.tree.Node.{Node}
use Rattle.pl_nbread.specs.declared.tree.Tree.{Tree}
use Rattle.pl_backup.specs.declared.error.Fault.{Fault}
use Rattle.pl_backup.specs.declared.error.Fault.TheVariants.{NoChildren, NotJson}
use Rattle.pl_backup.specs.BackupText.{backup_text}
use Rattle.pl_backup.specs.BackupTree.{backup_tree, empty_tree}
use Rattle.serde_json.proofs.OnLiterals.{serde_json_on_literals}

-- ---- what is refused

no_json : map backup_tree (codes "{" ∷ codes "" ∷ (34 ∷ 255 ∷ 34 ∷ []) ∷ codes "{\"children\":[1e999]}" ∷ [])
    ≡ Err NotJson ∷ Err NotJson ∷ Err NotJson ∷ Err NotJson ∷ []
unfolding serde_json_on_literals digits chars encode is_utf8
no_json = refl

no_children : map backup_tree
    (codes "[1]" ∷ codes "null" ∷ codes "{}" ∷ codes "{\"children\":{}}" ∷ codes "{\"children\":[],\"children\":1}" ∷ [])
    ≡ Err NoChildren ∷ Err NoChildren ∷ Err NoChildren ∷ Err NoChildren ∷ Err NoChildren ∷ []
unfolding serde_json_on_literals digits chars encode is_utf8
no_children = refl

empty : map backup_tree (codes "{\"children\":[]}" ∷ codes " {\"children\":1,\"children\":[1,{},[]]}\n" ∷ [])
    ≡ Ok empty_tree ∷ Ok empty_tree ∷ []
unfolding serde_json_on_literals digits chars encode is_utf8
empty = refl

-- ---- kinds

-- a backup with these values in the list of the toolbar
listed : List ℕ → List ℕ
listed values = codes "{\"children\":[{\"guid\":\"toolbar_____\",\"children\":[" ++ values ++ codes "]}]}"

in_toolbar : List Node → ℕ → Result Tree Fault
in_toolbar nodes skipped =
    Ok (record { menu = []; toolbar = nodes; unfiled = []; mobile = []; skipped = skipped })

row : ItemKind → ℕ → Option (List ℕ) → List ℕ → ℕ → ℕ → List (List ℕ) → Node
row kind depth url title added modified tags =
    record {
      depth = depth;
      kind = kind;
      url = url;
      title = title;
      added = record { 0 = added };
      modified = record { 0 = modified };
      tags = tags;
    }

plain : ItemKind → ℕ → Node
plain kind depth = row kind depth None [] 0 0 []

-- a whole number decides, and a float leaves it to the type
numbers : backup_tree
    (listed
    (codes "{\"typeCode\":2},{\"typeCode\":3,\"type\":\"text/x-moz-place-container\"},"
    ++ codes "{\"typeCode\":4,\"type\":\"text/x-moz-place-container\"},"
    ++ codes "{\"typeCode\":-2,\"type\":\"text/x-moz-place-container\"},"
    ++ codes "{\"typeCode\":1.0,\"type\":\"text/x-moz-place-container\"},"
    ++ codes "{\"typeCode\":-0,\"type\":\"text/x-moz-place-separator\"},"
    ++ codes "{\"typeCode\":\"2\",\"type\":\"text/x-moz-place-separator\"},"
    ++ codes "{\"typeCode\":2e0},{\"type\":\"text/x-moz-place-Container\"},{},2,[{\"typeCode\":2}],null"))
    ≡ in_toolbar
    (plain Folder 0 ∷ plain Separator 0 ∷ plain Folder 0 ∷ plain Separator 0 ∷ plain Separator 0 ∷ []) 8
unfolding serde_json_on_literals digits chars encode is_utf8 listed in_toolbar row plain
numbers = refl

-- children of a folder alone count, and only in an array
children : backup_tree
    (listed
    (codes "{\"typeCode\":2,\"title\":\"A\",\"children\":[{\"typeCode\":2,\"children\":[{\"typeCode\":3}]},1]},"
    ++ codes "{\"typeCode\":3,\"children\":[{\"typeCode\":3},1]},"
    ++ codes "{\"typeCode\":2,\"children\":{\"typeCode\":3}},{\"typeCode\":2,\"children\":[1],\"children\":[]}"))
    ≡ in_toolbar
    (row Folder 0 None (codes "A") 0 0 [] ∷ plain Folder 1 ∷ plain Separator 2 ∷ plain Separator 0
    ∷ plain Folder 0 ∷ plain Folder 0 ∷ [])
    1
unfolding serde_json_on_literals digits chars encode is_utf8 listed in_toolbar row plain
children = refl

-- ---- bookmarks

bookmarks : backup_tree
    (listed
    (codes "{\"typeCode\":1},{\"typeCode\":1,\"uri\":1},{\"typeCode\":1,\"uri\":\"no url\"},"
    ++ codes "{\"typeCode\":1,\"uri\":\"HTTPS://A.example\",\"children\":[1],\"tags\":\"red, RED ,,Blue\",\"title\":1}"))
    ≡ in_toolbar
    (row Bookmark 0 (Some (codes "https://a.example/")) [] 0 0 (codes "red" ∷ codes "Blue" ∷ []) ∷ []) 3
unfolding serde_json_on_literals digits chars encode is_utf8 url_on_literals caseless listed in_toolbar row
bookmarks = refl

-- ---- dates

dates : backup_tree
    (listed
    (codes "{\"typeCode\":3,\"dateAdded\":253402300799999999,\"lastModified\":253402300800000000},"
    ++ codes "{\"typeCode\":3,\"dateAdded\":253402300800000000,\"lastModified\":7},"
    ++ codes "{\"typeCode\":3,\"dateAdded\":-1,\"lastModified\":1.0},{\"typeCode\":3,\"dateAdded\":\"5\"},"
    ++ codes "{\"typeCode\":3,\"dateAdded\":5,\"title\":\"S\"}"))
    ≡ in_toolbar
    (row Separator 0 None [] 253_402_300_799_999_999 253_402_300_799_999_999 []
    ∷ row Separator 0 None [] 0 7 [] ∷ plain Separator 0 ∷ plain Separator 0
    ∷ row Separator 0 None (codes "S") 5 5 [] ∷ [])
    0
unfolding serde_json_on_literals digits chars encode is_utf8 listed in_toolbar row plain
dates = refl

-- ---- roots

-- a guid of a root decides, and another leaves it to `root`; what is no root is passed over
roots : backup_tree
    (codes "{\"children\":[{\"guid\":\"mobile______\",\"root\":\"toolbarFolder\",\"children\":[{\"typeCode\":2}]},"
    ++ codes "{\"guid\":\"x\",\"root\":\"toolbarFolder\",\"children\":[{\"typeCode\":3},1]},"
    ++ codes "{\"guid\":1,\"root\":\"bookmarksMenuFolder\",\"children\":[{\"typeCode\":3}]},"
    ++ codes "{\"root\":\"unfiledBookmarksFolder\",\"children\":1},{\"root\":\"tagsFolder\",\"children\":[2]},3,"
    ++ codes "{\"guid\":\"toolbar_____\",\"children\":[{\"typeCode\":2},4]}]}")
    ≡ Ok
    (record {
      menu = plain Separator 0 ∷ [];
      toolbar = plain Separator 0 ∷ plain Folder 0 ∷ [];
      unfiled = [];
      mobile = plain Folder 0 ∷ [];
      skipped = 2;
    })
unfolding serde_json_on_literals digits chars encode is_utf8 row plain
roots = refl

-- ---- a backup that was written

written : Tree
written =
    record {
      menu = row Folder 0 None (codes "F") 1 2 [] ∷ row Separator 1 None (codes "S") 3 4 [] ∷ plain Folder 1
          ∷ row Bookmark 0 (Some (codes "https://a.example/")) (codes "\"" ++ 195 ∷ 169 ∷ codes "\n") 5 6 (codes "Red" ∷ codes "b" ∷ []) ∷ [];
      toolbar = [];
      unfiled = plain Separator 0 ∷ [];
      mobile = row Bookmark 0 (Some (codes "https://b.example/x")) [] 0 0 [] ∷ [];
      skipped = 0;
    }

reads_back : backup_tree (backup_text written) ≡ Ok written
unfolding serde_json_on_literals digits chars encode is_utf8 url_on_literals caseless row plain written
reads_back = refl

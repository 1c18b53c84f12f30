-- Worked rows of backups.
use Rattle.std.proofs.Common.{◌≡◌, ◌++◌, ℕ, List, [], ◌∷◌, Option, Some, None, false, refl}
use Rattle.std.specs.Prelude.{codes}
use Rattle.std.specs.Fmt.{digits}
use Rattle.pl_base.specs.declared.item.ItemKind.{ItemKind}
use Rattle.pl_base.specs.declared.item.ItemKind.TheVariants.{Bookmark, Folder, Separator}
use Rattle.pl_nbread.specs.declared.tree.Node.{Node}
use Rattle.pl_backup.specs.BackupText.{backup_text, bookmark, folder, items, separator, values}
use Rattle.serde_json.proofs.OnLiterals.{serde_json_on_literals}
use Rattle.serde_json.specs.Data.{no_items}
use Rattle.serde_json.specs.Written.{compact_text, items_text}

abbrev row : ItemKind → ℕ → Option (List ℕ) → List ℕ → ℕ → ℕ → List (List ℕ) → Node
row kind depth url title added modified tags =
    record {
      depth = depth;
      kind = kind;
      url = url;
      title = title;
      added = record { 0 = added };
      modified = record { 0 = modified };
      tags = tags;
    }

abbrev link : ℕ → List ℕ → Node
link depth title = row Bookmark depth (Some (codes "https://a.example/")) title 0 0 []

one_tag : compact_text (bookmark (row Bookmark 0 (Some (codes "https://a.example/")) (codes "A") 0 0 (codes "Red" ∷ [])))
    ≡ codes "{\"dateAdded\":0,\"lastModified\":0,\"tags\":\"Red\",\"title\":\"A\",\"type\":\"text/x-moz-place\","
    ++ codes "\"typeCode\":1,\"uri\":\"https://a.example/\"}"
unfolding serde_json_on_literals digits
one_tag = refl

-- quotes and control characters are escaped, and no others; dates have their microseconds
escapes : compact_text
    (bookmark
    (row Bookmark 0 (Some (codes "https://a.example/")) (codes "\"\\\n\u{1}/é") 1_700_000_000_123_456 7
    (codes "a\"b" ∷ codes "c" ∷ [])))
    ≡ codes "{\"dateAdded\":1700000000123456,\"lastModified\":7,\"tags\":\"a\\\"b,c\","
    ++ codes "\"title\":\"\\\"\\\\\\n\\u0001/é\",\"type\":\"text/x-moz-place\",\"typeCode\":1,"
    ++ codes "\"uri\":\"https://a.example/\"}"
unfolding serde_json_on_literals digits
escapes = refl

rule : compact_text (separator (row Separator 0 None (codes "S") 1 2 []))
    ≡ codes "{\"dateAdded\":1,\"lastModified\":2,\"title\":\"S\",\"type\":\"text/x-moz-place-separator\",\"typeCode\":3}"
unfolding serde_json_on_literals digits
rule = refl

empty_folder : compact_text (folder (row Folder 0 None (codes "F") 1 2 []) no_items)
    ≡ codes "{\"children\":[],\"dateAdded\":1,\"lastModified\":2,\"title\":\"F\",\"type\":\"text/x-moz-place-container\","
    ++ codes "\"typeCode\":2}"
unfolding serde_json_on_literals digits
empty_folder = refl

-- a folder has the nodes behind it that are deeper, up to the first that is not
nested : items_text false
    (items
    (values
    (row Folder 0 None (codes "F") 0 0 [] ∷ row Folder 1 None (codes "G") 0 0 [] ∷ link 2 (codes "A")
    ∷ link 1 (codes "B") ∷ link 0 (codes "C") ∷ [])))
    ≡ codes "{\"children\":[{\"children\":["
    ++ compact_text (bookmark (link 2 (codes "A")))
    ++ codes "],\"dateAdded\":0,\"lastModified\":0,\"title\":\"G\",\"type\":\"text/x-moz-place-container\",\"typeCode\":2},"
    ++ compact_text (bookmark (link 1 (codes "B")))
    ++ codes "],\"dateAdded\":0,\"lastModified\":0,\"title\":\"F\",\"type\":\"text/x-moz-place-container\",\"typeCode\":2},"
    ++ compact_text (bookmark (link 0 (codes "C"))) ++ codes "]"
unfolding serde_json_on_literals digits
nested = refl

-- the roots are there without a node too
one_link : backup_text
    (record { menu = []; toolbar = link 0 (codes "A") ∷ []; unfiled = []; mobile = []; skipped = 0 })
    ≡ codes "{\"children\":[{\"children\":[],\"dateAdded\":0,\"guid\":\"menu________\",\"lastModified\":0,"
    ++ codes "\"root\":\"bookmarksMenuFolder\",\"title\":\"\",\"type\":\"text/x-moz-place-container\",\"typeCode\":2},"
    ++ codes "{\"children\":[{\"dateAdded\":0,\"lastModified\":0,\"title\":\"A\",\"type\":\"text/x-moz-place\","
    ++ codes "\"typeCode\":1,\"uri\":\"https://a.example/\"}],\"dateAdded\":0,\"guid\":\"toolbar_____\","
    ++ codes "\"lastModified\":0,\"root\":\"toolbarFolder\",\"title\":\"\",\"type\":\"text/x-moz-place-container\","
    ++ codes "\"typeCode\":2},{\"children\":[],\"dateAdded\":0,\"guid\":\"unfiled_____\",\"lastModified\":0,"
    ++ codes "\"root\":\"unfiledBookmarksFolder\",\"title\":\"\",\"type\":\"text/x-moz-place-container\",\"typeCode\":2},"
    ++ codes "{\"children\":[],\"dateAdded\":0,\"guid\":\"mobile______\",\"lastModified\":0,\"root\":\"mobileFolder\","
    ++ codes "\"title\":\"\",\"type\":\"text/x-moz-place-container\",\"typeCode\":2}],\"dateAdded\":0,"
    ++ codes "\"guid\":\"root________\",\"lastModified\":0,\"root\":\"placesRoot\",\"title\":\"\","
    ++ codes "\"type\":\"text/x-moz-place-container\",\"typeCode\":2}\n"
unfolding serde_json_on_literals digits
one_link = refl

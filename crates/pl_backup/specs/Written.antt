-- What the writer's steps append: texts of nodes, piece by piece, and what is still to come of
-- lists while their folders are open.
use Rattle.std.specs.Prelude.{◌≡◌, ◌<◌, ⊤, ℕ, Bool, true, false, List, [], ◌∷◌, ◌++◌, codes}
use Rattle.std.specs.Prelude.{decimal, drop, reverse, take, unwrap_or}
use Rattle.json.specs.Print.{quoted}
use Rattle.pl_base.specs.declared.date.Micros.{Micros}
use Rattle.pl_base.specs.Tags.{comma_joined}
use Rattle.pl_nbread.specs.declared.tree.Node.{Node}
use Rattle.pl_backup.specs.BackupText.{Placed, count_below, items, values}
use Rattle.serde_json.specs.Written.{items_text}

-- ---- nodes

-- dates, behind what the first key begins with
abbrev pub dates_text : List ℕ → Micros → Micros → List ℕ
dates_text start added modified =
    start ++ codes "\"dateAdded\":" ++ decimal added.0 ++ codes ",\"lastModified\":"
    ++ decimal modified.0

-- the member of a bookmark's tags, if it has any
abbrev pub tags_text : List (List ℕ) → List ℕ
tags_text [] = []
tags_text (tag ∷ names) = codes ",\"tags\":" ++ quoted (comma_joined (tag ∷ names))

-- a comma before texts, if there are any
abbrev pub comma_before : List (List ℕ) → List ℕ
comma_before [] = []
comma_before (text ∷ texts) = codes ","

-- a title, and the name and the number of a kind
abbrev pub titled_text : List ℕ → List ℕ → ℕ → List ℕ
titled_text title type code =
    codes ",\"title\":" ++ quoted title ++ codes ",\"type\":\"" ++ type
    ++ codes "\",\"typeCode\":" ++ decimal code

abbrev pub bookmark_text : Node → List ℕ
bookmark_text node =
    dates_text (codes "{") node.added node.modified ++ tags_text node.tags
    ++ titled_text node.title (codes "text/x-moz-place") 1
    ++ (codes ",\"uri\":" ++ quoted (unwrap_or node.url [])) ++ codes "}"

abbrev pub separator_text : Node → List ℕ
separator_text node =
    dates_text (codes "{") node.added node.modified
    ++ titled_text node.title (codes "text/x-moz-place-separator") 3 ++ codes "}"

-- where the children of a folder or a root stand
abbrev pub children_start : List ℕ
children_start = codes "{\"children\":["

-- what stands behind the children of a folder
abbrev pub folder_end : Node → List ℕ
folder_end folder =
    dates_text (codes ",") folder.added folder.modified
    ++ titled_text folder.title (codes "text/x-moz-place-container") 2 ++ codes "}"

-- ---- roots

-- what stands behind the children of a root
abbrev pub root_end : List ℕ → List ℕ → List ℕ
root_end guid name =
    codes ",\"dateAdded\":0,\"guid\":\"" ++ guid
    ++ codes "\",\"lastModified\":0,\"root\":\"" ++ name
    ++ codes "\",\"title\":\"\",\"type\":\"text/x-moz-place-container\",\"typeCode\":2}"

abbrev pub root_text : List ℕ → List ℕ → List Node → List ℕ
root_text guid name nodes =
    children_start ++ items_text false (items (values nodes)) ++ root_end guid name

-- what stands behind the last root
abbrev pub backup_end : List ℕ
backup_end = codes "]" ++ root_end (codes "root________") (codes "placesRoot") ++ codes "\n"

-- ---- lists

-- the values that are left, with the ends of the folders that are open, from the innermost on;
-- whether something stands before them in the innermost list
abbrev pub within : Bool → List Node → List Placed → List ℕ
within later [] left = items_text later (items left)
within later (folder ∷ outer) left =
    items_text later (items (take (count_below folder.depth left) left))
    ++ (folder_end folder ++ within true outer (drop (count_below folder.depth left) left))

-- the same where the folders stand from the outermost on
abbrev pub to_come : Bool → List Node → List Placed → List ℕ
to_come later around left = within later (reverse around) left

-- what has this depth stands below the first of these folders
abbrev pub IsUnder : ℕ → List Node → Type 0
IsUnder depth [] = ⊤
IsUnder depth (folder ∷ outer) = folder.depth < depth

-- the same where the folders stand from the outermost on
abbrev pub IsBelow : ℕ → List Node → Type 0
IsBelow depth around = IsUnder depth (reverse around)

-- the first of these values has this depth, if there is one
abbrev pub Starts : ℕ → List Placed → Type 0
Starts depth [] = ⊤
Starts depth (placed ∷ left) = placed.depth ≡ depth

-- The bookmark file of a tree: a line for each node, as browsers write it.
use Rattle.std.specs.Prelude.{ℕ, zero, suc, ◌+◌, ◌-◌, ◌*◌, ◌/◌, ◌==◌, List, [], ◌∷◌, ◌++◌}
use Rattle.std.specs.Prelude.{codes, decimal, replicate, unwrap_or, if◌then◌else◌}
use Rattle.std.specs.List.{flat_map}
use Rattle.pl_base.specs.declared.date.Micros.{Micros}
use Rattle.pl_base.specs.declared.item.ItemKind.{ItemKind}
use Rattle.pl_base.specs.declared.item.ItemKind.TheVariants.{Bookmark, Folder, Separator}
use Rattle.pl_base.specs.Tags.{comma_joined}
use Rattle.pl_nbread.specs.declared.tree.Node.{Node}
use Rattle.pl_nbread.specs.declared.tree.Tree.{Tree}
use Rattle.pl_nbread.specs.WellFormed.{is_folder}

-- ---- texts and values

-- a byte as it stands in a text or a value
abbrev pub escape : ℕ → List ℕ
escape b =
    if b == 38 then codes "&amp;" else if b == 60 then codes "&lt;" else
    if b == 62 then codes "&gt;" else if b == 34 then codes "&quot;" else
    if b == 39 then codes "&#39;" else if b == 9 then codes "&#9;" else
    if b == 10 then codes "&#10;" else if b == 12 then codes "&#12;" else
    if b == 13 then codes "&#13;" else b ∷ []

abbrev pub escaped : List ℕ → List ℕ
escaped text = flat_map escape text

-- the first and the last byte of a title, where a reader would cut a space
abbrev pub edge : ℕ → List ℕ
edge b = if b == 32 then codes "&#32;" else escape b

-- a title behind its first byte
abbrev pub title_end : List ℕ → List ℕ
title_end [] = []
title_end (b ∷ []) = edge b
title_end (b ∷ c ∷ bytes) = escape b ++ title_end (c ∷ bytes)

abbrev pub title_text : List ℕ → List ℕ
title_text [] = []
title_text (b ∷ bytes) = edge b ++ title_end bytes

-- ---- lines

-- ` NAME="VALUE"`
abbrev pub attribute : List ℕ → List ℕ → List ℕ
attribute name value = codes " " ++ name ++ codes "=\"" ++ value ++ codes "\""

-- a date in whole seconds
abbrev pub seconds : Micros → List ℕ
seconds date = decimal (date.0 / 1_000_000)

abbrev pub dates : Micros → Micros → List ℕ
dates added modified =
    attribute (codes "ADD_DATE") (seconds added)
    ++ attribute (codes "LAST_MODIFIED") (seconds modified)

-- tags apart by commas, where there are any
abbrev pub tags_text : List (List ℕ) → List ℕ
tags_text [] = []
tags_text (tag ∷ tags) = attribute (codes "TAGS") (escaped (comma_joined (tag ∷ tags)))

-- a line at a level: four spaces for each
abbrev pub line : ℕ → List ℕ → List ℕ
line level text = replicate (4 * level) 32 ++ text ++ codes "\n"

abbrev pub list_start : ℕ → List ℕ
list_start level = line level (codes "<DL><p>")

abbrev pub list_end : ℕ → List ℕ
list_end level = line level (codes "</DL><p>")

-- a heading, with what else its tag says
abbrev pub heading : Micros → Micros → List ℕ → List ℕ → List ℕ
heading added modified more title =
    codes "<DT><H3" ++ dates added modified ++ more ++ codes ">" ++ title_text title
    ++ codes "</H3>"

abbrev pub link : Node → List ℕ
link node =
    codes "<DT><A" ++ attribute (codes "HREF") (escaped (unwrap_or node.url []))
    ++ dates node.added node.modified ++ tags_text node.tags ++ codes ">"
    ++ title_text node.title ++ codes "</A>"

-- the line of a node, and the start of a folder's list
abbrev pub lines_of : ItemKind → ℕ → Node → List ℕ
lines_of Bookmark level node = line level (link node)
lines_of Folder level node =
    line level (heading node.added node.modified [] node.title) ++ list_start level
lines_of Separator level node = line level (codes "<HR>")

-- ---- lists

-- the ends of so many lists, from the innermost on; the last of them is at this level
abbrev pub list_ends : ℕ → ℕ → List ℕ
list_ends level zero = []
list_ends level (suc n) = list_end (level + n) ++ list_ends level n

-- how many lists are open behind a node
abbrev pub lists_open : Node → ℕ
lists_open node = if is_folder node.kind then node.depth + 1 else node.depth

-- a node, and the lists that end before the next one, which has this depth
abbrev pub node_text : ℕ → Node → ℕ → List ℕ
node_text level node next =
    lines_of node.kind (level + node.depth) node
    ++ list_ends (level + next) (lists_open node - next)

-- nodes in preorder, those of depth 0 at this level
abbrev pub nodes_text : ℕ → List Node → List ℕ
nodes_text level [] = []
nodes_text level (node ∷ []) = node_text level node 0
nodes_text level (node ∷ next ∷ nodes) =
    node_text level node next.depth ++ nodes_text level (next ∷ nodes)

-- ---- the file

-- another root than the menu, where it has a node: a folder with dates 0 and its attribute
abbrev pub root_text : List ℕ → List ℕ → List Node → List ℕ
root_text name title [] = []
root_text name title (node ∷ nodes) =
    line 1
    (heading (record { 0 = 0 }) (record { 0 = 0 }) (attribute name (codes "true")) title)
    ++ list_start 1 ++ nodes_text 2 (node ∷ nodes) ++ list_end 1

abbrev pub header : List ℕ
header =
    codes "<!DOCTYPE NETSCAPE-Bookmark-file-1>\n"
    ++ codes "<META HTTP-EQUIV=\"Content-Type\" CONTENT=\"text/html; charset=UTF-8\">\n"
    ++ codes "<TITLE>Bookmarks</TITLE>\n<H1>Bookmarks Menu</H1>\n\n<DL><p>\n"

-- the file of a tree: the menu's nodes, and then the other roots
abbrev pub file_text : Tree → List ℕ
file_text tree =
    header ++ nodes_text 1 tree.menu
    ++ root_text (codes "PERSONAL_TOOLBAR_FOLDER") (codes "Bookmarks Toolbar") tree.toolbar
    ++ root_text (codes "UNFILED_BOOKMARKS_FOLDER") (codes "Other Bookmarks") tree.unfiled
    ++ root_text (codes "MOBILE_BOOKMARKS_FOLDER") (codes "Mobile Bookmarks") tree.mobile
    ++ list_end 0

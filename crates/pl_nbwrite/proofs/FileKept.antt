-- The file of a plain tree is UTF-8.
use Rattle.std.proofs.Common.{◌≡◌, ◌+◌, ◌-◌, ◌*◌, ℕ, zero, suc, true, List, [], ◌∷◌, ◌++◌, refl}
use Rattle.std.proofs.Common.{replicate}
use Rattle.std.specs.Prelude.{codes, unwrap_or}
use Rattle.std.specs.List.{All, AllByRecursion, list_all}
use Rattle.std.specs.Str.{IsUtf8}
use Rattle.std.proofs.lemmas.Bool.{and_parts}
use Rattle.std.proofs.lemmas.List.Elements.{recursion_from_All}
use Rattle.std.proofs.lemmas.Str.{IsUtf8-from_is_utf8, IsUtf8-nil}
use Rattle.pl_base.specs.declared.date.Micros.{Micros}
use Rattle.pl_base.specs.declared.item.ItemKind.{ItemKind}
use Rattle.pl_base.specs.declared.item.ItemKind.TheVariants.{Bookmark, Folder, Separator}
use Rattle.pl_base.specs.Tags.{comma_joined}
use Rattle.pl_words.specs.TagName.{is_tag_name}
use Rattle.pl_nbread.specs.declared.tree.Node.{Node}
use Rattle.pl_nbread.specs.declared.tree.Tree.{Tree}
use Rattle.pl_nbread.specs.Listed.{IsListed}
use Rattle.pl_nbread.specs.WellFormed.{is_date, is_formed}
use Rattle.pl_nbread.proofs.NodeLaws.{IsFormed, formed, url_text}
use Rattle.pl_nbread.proofs.TagsRead as read
use Rattle.pl_nbwrite.specs.BookmarkText.{attribute, dates, escaped, file_text, header, heading, line, lines_of, link}
use Rattle.pl_nbwrite.specs.BookmarkText.{list_end, list_ends, list_start, lists_open, node_text, nodes_text, root_text}
use Rattle.pl_nbwrite.specs.BookmarkText.{seconds, tags_text, title_text}
use Rattle.pl_nbwrite.specs.Plain.{IsKept, IsPlain}
use Rattle.pl_nbwrite.proofs.TextKept.{are_low, escaped_text, low_digits, low_spaces, low_text, text_both}
use Rattle.pl_nbwrite.proofs.TextKept.{title_kept}
use Rattle.pl_nbwrite.proofs.ValuesBack.{digits_date}

-- ---- lines

line_kept : (level : ℕ) (own : List ℕ) → IsUtf8 own → IsUtf8 (line level own)
line_kept level own utf8 =
    let spaces : List ℕ = replicate (4 * level) 32 in
    text_both (spaces ++ own) (codes "\n")
    (text_both spaces own (low_text spaces (low_spaces (4 * level))) utf8) (low_text (codes "\n") refl)

attribute_kept : (name value : List ℕ) → are_low name → IsUtf8 value → IsUtf8 (attribute name value)
attribute_kept name value low utf8 =
    text_both (codes " " ++ name ++ codes "=\"" ++ value) (codes "\"")
    (text_both (codes " " ++ name ++ codes "=\"") value
    (text_both (codes " " ++ name) (codes "=\"")
    (text_both (codes " ") name (low_text (codes " ") refl) (low_text name low)) (low_text (codes "=\"") refl))
    utf8)
    (low_text (codes "\"") refl)

dates_kept : (added modified : Micros) → is_date added ≡ true → is_date modified ≡ true → IsUtf8 (dates added modified)
dates_kept added modified a m =
    text_both (attribute (codes "ADD_DATE") (seconds added)) (attribute (codes "LAST_MODIFIED") (seconds modified))
    (attribute_kept (codes "ADD_DATE") (seconds added) refl
    (low_text (seconds added) (low_digits (seconds added) (digits_date added a))))
    (attribute_kept (codes "LAST_MODIFIED") (seconds modified) refl
    (low_text (seconds modified) (low_digits (seconds modified) (digits_date modified m))))

tags_kept : (tags : List (List ℕ)) → list_all is_tag_name tags ≡ true → IsUtf8 (tags_text tags)
tags_kept [] own = IsUtf8-nil
tags_kept (tag ∷ tags) own =
    attribute_kept (codes "TAGS") (escaped (comma_joined (tag ∷ tags))) refl
    (escaped_text (comma_joined (tag ∷ tags)) (read.tags_text (tag ∷ tags) own))

heading_kept : (added modified : Micros) (more title : List ℕ) → is_date added ≡ true → is_date modified ≡ true
    → IsUtf8 more → IsUtf8 title → IsUtf8 (heading added modified more title)
heading_kept added modified more title a m own utf8 =
    let to_dates : List ℕ = codes "<DT><H3" ++ dates added modified in
    text_both (to_dates ++ more ++ codes ">" ++ title_text title) (codes "</H3>")
    (text_both (to_dates ++ more ++ codes ">") (title_text title)
    (text_both (to_dates ++ more) (codes ">")
    (text_both to_dates more
    (text_both (codes "<DT><H3") (dates added modified) (low_text (codes "<DT><H3") refl)
    (dates_kept added modified a m))
    own)
    (low_text (codes ">") refl))
    (title_kept title utf8))
    (low_text (codes "</H3>") refl)

link_kept : (node : Node) → IsFormed node → IsKept node → IsUtf8 (link node)
link_kept node good kept =
    let value : List ℕ = escaped (unwrap_or node.url []) in
    let href : List ℕ = codes "<DT><A" ++ attribute (codes "HREF") value in
    let said : List ℕ = href ++ dates node.added node.modified in
    text_both (said ++ tags_text node.tags ++ codes ">" ++ title_text node.title) (codes "</A>")
    (text_both (said ++ tags_text node.tags ++ codes ">") (title_text node.title)
    (text_both (said ++ tags_text node.tags) (codes ">")
    (text_both said (tags_text node.tags)
    (text_both href (dates node.added node.modified)
    (text_both (codes "<DT><A") (attribute (codes "HREF") value) (low_text (codes "<DT><A") refl)
    (attribute_kept (codes "HREF") value refl (escaped_text (unwrap_or node.url []) (url_text node.url kept.url))))
    (dates_kept node.added node.modified good.added good.modified))
    (tags_kept node.tags good.named))
    (low_text (codes ">") refl))
    (title_kept node.title (IsUtf8-from_is_utf8 node.title kept.title)))
    (low_text (codes "</A>") refl)

start_kept : (level : ℕ) → IsUtf8 (list_start level)
start_kept level = line_kept level (codes "<DL><p>") (low_text (codes "<DL><p>") refl)

end_kept : (level : ℕ) → IsUtf8 (list_end level)
end_kept level = line_kept level (codes "</DL><p>") (low_text (codes "</DL><p>") refl)

lines_kept : (kind : ItemKind) (level : ℕ) (node : Node) → IsFormed node → IsKept node
    → IsUtf8 (lines_of kind level node)
lines_kept Bookmark level node good kept = line_kept level (link node) (link_kept node good kept)
lines_kept Folder level node good kept =
    text_both (line level (heading node.added node.modified [] node.title)) (list_start level)
    (line_kept level (heading node.added node.modified [] node.title)
    (heading_kept node.added node.modified [] node.title good.added good.modified IsUtf8-nil
    (IsUtf8-from_is_utf8 node.title kept.title)))
    (start_kept level)
lines_kept Separator level node good kept = line_kept level (codes "<HR>") (low_text (codes "<HR>") refl)

-- ---- lists

ends_kept : (level count : ℕ) → IsUtf8 (list_ends level count)
ends_kept level zero = IsUtf8-nil
ends_kept level (suc count) =
    text_both (list_end (level + count)) (list_ends level count) (end_kept (level + count)) (ends_kept level count)

node_kept : (level : ℕ) (node : Node) (next : ℕ) → is_formed node ≡ true → IsKept node
    → IsUtf8 (node_text level node next)
node_kept level node next good kept =
    text_both (lines_of node.kind (level + node.depth) node) (list_ends (level + next) (lists_open node - next))
    (lines_kept node.kind (level + node.depth) node (formed node good) kept)
    (ends_kept (level + next) (lists_open node - next))

nodes_kept : (level : ℕ) (nodes : List Node) → list_all is_formed nodes ≡ true → AllByRecursion IsKept nodes
    → IsUtf8 (nodes_text level nodes)
nodes_kept level [] good kept = IsUtf8-nil
nodes_kept level (node ∷ []) good kept =
    node_kept level node 0 (and_parts (is_formed node) true good).0 kept.0
nodes_kept level (node ∷ next ∷ nodes) good kept =
    let parts = and_parts (is_formed node) (list_all is_formed (next ∷ nodes)) good in
    text_both (node_text level node next.depth) (nodes_text level (next ∷ nodes))
    (node_kept level node next.depth parts.0 kept.0) (nodes_kept level (next ∷ nodes) parts.1 kept.1)

list_kept : (level : ℕ) (nodes : List Node) → IsListed nodes → All IsKept nodes → IsUtf8 (nodes_text level nodes)
list_kept level nodes listed kept = nodes_kept level nodes listed.formed (recursion_from_All IsKept nodes kept)

abbrev no_date : Micros
no_date = record { 0 = 0 }

root_kept : (name title : List ℕ) (nodes : List Node) → are_low name → IsUtf8 title → IsListed nodes → All IsKept nodes
    → IsUtf8 (root_text name title nodes)
root_kept name title [] low utf8 listed kept = IsUtf8-nil
root_kept name title (node ∷ nodes) low utf8 listed kept =
    let more : List ℕ = attribute name (codes "true") in
    let head : List ℕ = line 1 (heading no_date no_date more title) in
    text_both (head ++ list_start 1 ++ nodes_text 2 (node ∷ nodes)) (list_end 1)
    (text_both (head ++ list_start 1) (nodes_text 2 (node ∷ nodes))
    (text_both head (list_start 1)
    (line_kept 1 (heading no_date no_date more title)
    (heading_kept no_date no_date more title refl refl
    (attribute_kept name (codes "true") low (low_text (codes "true") refl)) utf8))
    (start_kept 1))
    (list_kept 2 (node ∷ nodes) listed kept))
    (end_kept 1)

-- ---- the file

pub file_kept : (tree : Tree) → IsPlain tree → IsUtf8 (file_text tree)
file_kept tree plain =
    let a : List ℕ = root_text (codes "PERSONAL_TOOLBAR_FOLDER") (codes "Bookmarks Toolbar") tree.toolbar in
    let b : List ℕ = root_text (codes "UNFILED_BOOKMARKS_FOLDER") (codes "Other Bookmarks") tree.unfiled in
    let c : List ℕ = root_text (codes "MOBILE_BOOKMARKS_FOLDER") (codes "Mobile Bookmarks") tree.mobile in
    let menu : List ℕ = header ++ nodes_text 1 tree.menu in
    text_both (menu ++ a ++ b ++ c) (list_end 0)
    (text_both (menu ++ a ++ b) c
    (text_both (menu ++ a) b
    (text_both menu a
    (text_both header (nodes_text 1 tree.menu) (low_text header refl)
    (list_kept 1 tree.menu plain.listed.menu plain.menu))
    (root_kept (codes "PERSONAL_TOOLBAR_FOLDER") (codes "Bookmarks Toolbar") tree.toolbar refl
    (low_text (codes "Bookmarks Toolbar") refl) plain.listed.toolbar plain.toolbar))
    (root_kept (codes "UNFILED_BOOKMARKS_FOLDER") (codes "Other Bookmarks") tree.unfiled refl
    (low_text (codes "Other Bookmarks") refl) plain.listed.unfiled plain.unfiled))
    (root_kept (codes "MOBILE_BOOKMARKS_FOLDER") (codes "Mobile Bookmarks") tree.mobile refl
    (low_text (codes "Mobile Bookmarks") refl) plain.listed.mobile plain.mobile))
    (end_kept 0)

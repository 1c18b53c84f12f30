-- Worked rows of bookmark files: tokens and references at their edges, which folder is whose, and
-- what is written.
use Rattle.std.proofs.Common.{◌≡◌, ◌++◌, ℕ, List, [], ◌∷◌, None, Some, map, refl}
use Rattle.std.specs.Prelude.{codes}
use Rattle.std.specs.Fmt.{digits}
use lib.Utf8.{encode}
use Rattle.url.proofs.OnLiterals.{url_on_literals}
use Rattle.pl_base.specs.declared.item.ItemKind.TheVariants.{Bookmark, Folder, Separator}
use Rattle.pl_nbread.specs.declared.tree.Node.{Node}
use Rattle.pl_nbread.specs.declared.tree.Tree.{Tree}
use Rattle.pl_nbread.specs.BookmarkTree.{micros, tree_of}
use Rattle.pl_nbread.specs.References.{decoded}
use Rattle.pl_nbread.specs.Tokens.{Attribute, Close, Open, Text, tokens}
use Rattle.pl_nbwrite.specs.BookmarkText.{escaped, file_text, seconds}

-- ---- tokens

abbrev attribute : List ℕ → List ℕ → Attribute
attribute name value = record { name = name; value = value }

-- a value without quotes may begin with `=` and have quotes within, and blanks may stand around the
-- `=` before it
odd_values : tokens (codes "<a b==c d = e=f\"g'>") ≡
    Open (codes "a") (attribute (codes "b") (codes "=c") ∷ attribute (codes "d") (codes "e=f\"g'") ∷ []) ∷ []
odd_values = refl

-- the shortest comment, and `>` in the quotes of a declaration, which end nothing there
passed_over : tokens (codes "a<!---->b<!c \">\">d") ≡
    Text (codes "a") ∷ Text (codes "b") ∷ Text (codes "\">d") ∷ []
passed_over = refl

-- the end tag of a list has attributes, and `</` and `<` with a digit begin no tag
ends : tokens (codes "</dl x=\">\">a</1>b<2>") ≡
    Close (codes "dl") ∷ Text (codes "a") ∷ Text (codes "b") ∷ Text (codes "<") ∷ Text (codes "2>") ∷ []
ends = refl

-- ---- references

-- the last scalar values before the surrogates and of all, and the first one behind the surrogates
edges_of_scalars : map decoded (codes "&#55295;" ∷ codes "&#xE000;" ∷ codes "&#1114111;" ∷ []) ≡
    (237 ∷ 159 ∷ 191 ∷ []) ∷ (238 ∷ 128 ∷ 128 ∷ []) ∷ (244 ∷ 143 ∷ 191 ∷ 191 ∷ []) ∷ []
unfolding encode
edges_of_scalars = refl

no_scalars : map decoded (codes "&#55296;" ∷ codes "&#xDFFF;" ∷ codes "&#1114112;" ∷ codes "&&#x;" ∷ []) ≡
    codes "&#55296;" ∷ codes "&#xDFFF;" ∷ codes "&#1114112;" ∷ codes "&&#x;" ∷ []
unfolding encode
no_scalars = refl

-- ---- trees

-- the tree of a text behind the doctype
abbrev tree : List ℕ → Tree
tree text = tree_of (codes "<!DOCTYPE NETSCAPE-Bookmark-file-1>" ++ text)

abbrev empty : Tree
empty = record { menu = []; toolbar = []; unfiled = []; mobile = []; skipped = 0 }

abbrev folder : ℕ → List ℕ → Node
folder depth title = record {
  depth = depth;
  kind = Folder;
  url = None;
  title = title;
  added = micros 0;
  modified = micros 0;
  tags = [];
}

abbrev separator : ℕ → Node
separator depth = record (folder depth []) { kind = Separator }

nothing : tree [] ≡ empty
nothing = refl

-- of two roots that a heading names the first counts, and its title and dates say nothing
first_root : tree (codes "<H3 MOBILE_BOOKMARKS_FOLDER=true UNFILED_BOOKMARKS_FOLDER=TRUE ADD_DATE=5>x</H3><DL><HR>")
    ≡ record empty { unfiled = separator 0 ∷ [] }
first_root = refl

-- what stands between a heading and a list leaves the list to the folder that is open
root_left : tree (codes "<H3 MOBILE_BOOKMARKS_FOLDER=true>x</H3><HR><DL><HR>")
    ≡ record empty { menu = separator 0 ∷ separator 0 ∷ [] }
root_left = refl

folder_left : tree (codes "<H3>f</H3><A HREF=x>y</A><DL><HR>")
    ≡ record empty { menu = folder 0 (codes "f") ∷ separator 0 ∷ []; skipped = 1 }
unfolding url_on_literals
folder_left = refl

-- a list without a heading goes on with the root that is open
root_again : tree (codes "<H3 PERSONAL_TOOLBAR_FOLDER=true></H3><DL><DL><HR></DL><HR></DL><HR>")
    ≡ record empty { menu = separator 0 ∷ []; toolbar = separator 0 ∷ separator 0 ∷ [] }
root_again = refl

-- the menu root never ends, and a heading in a folder stands for no root
never_the_last : tree (codes "</DL><DL></DL></DL><H3>f<DL><H3 PERSONAL_TOOLBAR_FOLDER=true>g<DL><HR></DL></DL><HR>")
    ≡ record empty { menu = folder 0 (codes "f") ∷ folder 1 (codes "g") ∷ separator 2 ∷ separator 0 ∷ [] }
never_the_last = refl

-- ---- what is written

-- parts of a second are dropped
whole_seconds : map seconds (record { 0 = 999_999 } ∷ record { 0 = 1_000_000 } ∷ record { 0 = 1_999_999 } ∷ [])
    ≡ codes "0" ∷ codes "1" ∷ codes "1" ∷ []
unfolding digits
whole_seconds = refl

-- each byte that is escaped, and a space, which is not within a value
escapes : escaped (codes " &<>\"'\t\n\r" ++ 12 ∷ codes " ")
    ≡ codes " &amp;&lt;&gt;&quot;&#39;&#9;&#10;&#13;&#12; "
escapes = refl

empty_file : file_text empty
    ≡ codes "<!DOCTYPE NETSCAPE-Bookmark-file-1>\n"
    ++ codes "<META HTTP-EQUIV=\"Content-Type\" CONTENT=\"text/html; charset=UTF-8\">\n"
    ++ codes "<TITLE>Bookmarks</TITLE>\n<H1>Bookmarks Menu</H1>\n\n<DL><p>\n</DL><p>\n"
unfolding digits
empty_file = refl

-- two lists that end at once, the second one empty, a separator, and the roots behind the toolbar
lists_and_roots :
    file_text
    (record {
      menu = folder 0 (codes "f") ∷ folder 1 [] ∷ separator 0 ∷ [];
      toolbar = [];
      unfiled = separator 0 ∷ [];
      mobile =
          record {
            depth = 0;
            kind = Bookmark;
            url = Some (codes "http://a/?b&c");
            title = codes " ";
            added = record { 0 = 5_999_999 };
            modified = micros 4;
            tags = codes "x" ∷ codes "\"y\"" ∷ [];
          } ∷ [];
      skipped = 7;
    })
    ≡ codes "<!DOCTYPE NETSCAPE-Bookmark-file-1>\n"
    ++ codes "<META HTTP-EQUIV=\"Content-Type\" CONTENT=\"text/html; charset=UTF-8\">\n"
    ++ codes "<TITLE>Bookmarks</TITLE>\n<H1>Bookmarks Menu</H1>\n\n<DL><p>\n"
    ++ codes "    <DT><H3 ADD_DATE=\"0\" LAST_MODIFIED=\"0\">f</H3>\n    <DL><p>\n"
    ++ codes "        <DT><H3 ADD_DATE=\"0\" LAST_MODIFIED=\"0\"></H3>\n        <DL><p>\n        </DL><p>\n"
    ++ codes "    </DL><p>\n    <HR>\n"
    ++ codes "    <DT><H3 ADD_DATE=\"0\" LAST_MODIFIED=\"0\" UNFILED_BOOKMARKS_FOLDER=\"true\">Other Bookmarks</H3>\n"
    ++ codes "    <DL><p>\n        <HR>\n    </DL><p>\n"
    ++ codes "    <DT><H3 ADD_DATE=\"0\" LAST_MODIFIED=\"0\" MOBILE_BOOKMARKS_FOLDER=\"true\">Mobile Bookmarks</H3>\n"
    ++ codes "    <DL><p>\n        <DT><A HREF=\"http://a/?b&amp;c\" ADD_DATE=\"5\" LAST_MODIFIED=\"4\" "
    ++ codes "TAGS=\"x,&quot;y&quot;\">&#32;</A>\n    </DL><p>\n</DL><p>\n"
unfolding digits
lists_and_roots = refl

-- Worked rows of bookmark files that are written.
use Rattle.std.proofs.Common.{◌≡◌, ℕ, List, [], ◌∷◌, ◌++◌, Some, None, map, refl}
use Rattle.std.specs.Prelude.{codes}
use Rattle.std.specs.Fmt.{digits}
use Rattle.pl_base.specs.declared.item.ItemKind.TheVariants.{Bookmark, Folder}
use Rattle.pl_nbread.specs.declared.tree.Node.{Node}
use Rattle.pl_nbread.specs.BookmarkTree.{micros}
use Rattle.pl_nbwrite.specs.BookmarkText.{file_text, title_text}

titles : map title_text (codes "" ∷ codes " " ∷ codes "  " ∷ codes " a b " ∷ codes "\t<&>'\"\n" ∷ []) ≡
    codes "" ∷ codes "&#32;" ∷ codes "&#32;&#32;" ∷ codes "&#32;a b&#32;" ∷ codes "&#9;&lt;&amp;&gt;&#39;&quot;&#10;" ∷ []
titles = refl

abbrev pub bookmark : ℕ → List ℕ → List ℕ → ℕ → List (List ℕ) → Node
bookmark depth url title added tags = record {
  depth = depth;
  kind = Bookmark;
  url = Some url;
  title = title;
  added = micros added;
  modified = micros added;
  tags = tags;
}

abbrev pub folder : ℕ → List ℕ → ℕ → ℕ → Node
folder depth title added modified = record {
  depth = depth;
  kind = Folder;
  url = None;
  title = title;
  added = micros added;
  modified = micros modified;
  tags = [];
}

worked : file_text
    (record {
      menu = bookmark 0 (codes "https://c.example/") (codes "D") 0 (codes "Blue" ∷ codes "red" ∷ []) ∷ [];
      toolbar =
          bookmark 0 (codes "https://a.example/") (codes "A & B") 1_700_000_000 []
          ∷ folder 0 (codes "Sub") 1_700_000_001 1_700_000_002
          ∷ bookmark 1 (codes "https://b.example/x") (codes "B") 1_700_000_003 [] ∷ [];
      unfiled = [];
      mobile = [];
      skipped = 0;
    })
    ≡ codes "<!DOCTYPE NETSCAPE-Bookmark-file-1>\n<META HTTP-EQUIV=\"Content-Type\" CONTENT=\"text/html; charset=UTF-8\">\n"
    ++ codes "<TITLE>Bookmarks</TITLE>\n<H1>Bookmarks Menu</H1>\n\n<DL><p>\n"
    ++ codes "    <DT><A HREF=\"https://c.example/\" ADD_DATE=\"0\" LAST_MODIFIED=\"0\" TAGS=\"Blue,red\">D</A>\n"
    ++ codes "    <DT><H3 ADD_DATE=\"0\" LAST_MODIFIED=\"0\" PERSONAL_TOOLBAR_FOLDER=\"true\">Bookmarks Toolbar</H3>\n"
    ++ codes "    <DL><p>\n        <DT><A HREF=\"https://a.example/\" ADD_DATE=\"1700000000\" "
    ++ codes "LAST_MODIFIED=\"1700000000\">A &amp; B</A>\n"
    ++ codes "        <DT><H3 ADD_DATE=\"1700000001\" LAST_MODIFIED=\"1700000002\">Sub</H3>\n        <DL><p>\n"
    ++ codes "            <DT><A HREF=\"https://b.example/x\" ADD_DATE=\"1700000003\" LAST_MODIFIED=\"1700000003\">B</A>\n"
    ++ codes "        </DL><p>\n    </DL><p>\n</DL><p>\n"
unfolding bookmark folder digits
worked = refl

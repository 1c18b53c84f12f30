-- Worked rows of bookmark files.
use Rattle.std.proofs.Common.{◌≡◌, ℕ, List, [], ◌∷◌, ◌++◌, Some, None, map, refl}
use Rattle.std.specs.Prelude.{codes}
use Rattle.std.specs.Str.{chars, is_utf8}
use Rattle.std.specs.Str.Lossy.{utf8_valid_len}
use lib.Utf8.{encode}
use Rattle.caseless.proofs.Computing.{caseless}
use Rattle.url.proofs.OnLiterals.{url_on_literals}
use Rattle.pl_base.specs.declared.item.ItemKind.TheVariants.{Bookmark, Folder}
use Rattle.pl_nbread.specs.declared.tree.Node.{Node}
use Rattle.pl_nbread.specs.BookmarkFile.{offset}
use Rattle.pl_nbread.specs.BookmarkTree.{micros, tree_of, seconds}
use Rattle.pl_nbread.specs.References.{decoded}
use Rattle.pl_nbread.specs.Tokens.{Attribute, Open, Close, Text, tokens}

-- ---- how a file begins

no_doctype : map offset (codes "<HTML>" ∷ codes "" ∷ codes " \n" ∷ []) ≡ Some 0 ∷ Some 0 ∷ Some 2 ∷ []
unfolding is_utf8 chars encode
no_doctype = refl

-- U+FEFF and blanks may stand in front, and letters are of either case
begins : offset (239 ∷ 187 ∷ 191 ∷ codes "\r\n <!doctype netscape-bookmark-FILE-1>") ≡ None
unfolding is_utf8 chars encode
begins = refl

no_utf8 : offset (codes "<!DOC" ++ 195 ∷ 40 ∷ []) ≡ Some 5
unfolding is_utf8 chars encode utf8_valid_len
no_utf8 = refl

-- ---- tokens

text_alone : tokens (codes "a < b </ c> & <!d>e<!-- > -->f") ≡
    Text (codes "a ") ∷ Text (codes "<") ∷ Text (codes " b ") ∷ Text (codes " & ") ∷ Text (codes "e") ∷ Text (codes "f")
    ∷ []
text_alone = refl

attribute : List ℕ → List ℕ → Attribute
attribute name value = record { name = name; value = value }

a_tag : tokens (codes "<A HREF = \"x>y\" b='\"' c=d/e / =f g>T</A x=1>") ≡
    Open (codes "A")
    (attribute (codes "HREF") (codes "x>y") ∷ attribute (codes "b") (codes "\"") ∷ attribute (codes "c") (codes "d/e")
    ∷ attribute (codes "f") [] ∷ attribute (codes "g") [] ∷ [])
    ∷ Text (codes "T") ∷ Close (codes "A") ∷ []
unfolding attribute
a_tag = refl

-- a tag that the end cuts off is no text
cut_off : map tokens (codes "T<a" ∷ codes "T<a b=\"c>" ∷ codes "T</" ∷ codes "T<!--->" ∷ codes "T<" ∷ []) ≡
    (Text (codes "T") ∷ []) ∷ (Text (codes "T") ∷ []) ∷ (Text (codes "T") ∷ []) ∷ (Text (codes "T") ∷ [])
    ∷ (Text (codes "T") ∷ Text (codes "<") ∷ []) ∷ []
cut_off = refl

-- ---- references

references : decoded (codes "&amp;lt; &lt;&gt;&quot;&apos; &#0065;&#x00e9;&#xD800; &#;&#X41;&amp &Amp;") ≡
    codes "&lt; <>\"' A" ++ 195 ∷ 169 ∷ codes "&#xD800; &#;&#X41;&amp &Amp;"
unfolding encode
references = refl

-- ---- values

dates : map seconds (codes "253402300799" ∷ codes "253402300800" ∷ codes "01" ∷ codes "" ∷ []) ≡
    Some 253_402_300_799 ∷ None ∷ None ∷ None ∷ []
dates = refl

-- ---- trees

bookmark : ℕ → List ℕ → List ℕ → ℕ → ℕ → List (List ℕ) → Node
bookmark depth url title added modified tags = record {
  depth = depth;
  kind = Bookmark;
  url = Some url;
  title = title;
  added = micros added;
  modified = micros modified;
  tags = tags;
}

folder : ℕ → List ℕ → ℕ → ℕ → Node
folder depth title added modified = record {
  depth = depth;
  kind = Folder;
  url = None;
  title = title;
  added = micros added;
  modified = micros modified;
  tags = [];
}

worked : tree_of
    (codes "<!DOCTYPE NETSCAPE-Bookmark-file-1>\n<!-- This is an automatically generated file.\n     DO NOT EDIT! -->\n"
    ++ codes "<META HTTP-EQUIV=\"Content-Type\" CONTENT=\"text/html; charset=UTF-8\">\n<TITLE>Bookmarks</TITLE>\n"
    ++ codes "<H1>Bookmarks</H1>\n<DL><p>\n    <DT><H3 ADD_DATE=\"1700000000\" LAST_MODIFIED=\"1700000100\" "
    ++ codes "PERSONAL_TOOLBAR_FOLDER=\"true\">Bookmarks bar</H3>\n    <DL><p>\n        <DT><A HREF=\"https://a.example/\" "
    ++ codes "ADD_DATE=\"1700000000\" ICON=\"data:image/png;base64,AAAA\">A &amp; B</A>\n        "
    ++ codes "<DT><H3 ADD_DATE=\"1700000001\" LAST_MODIFIED=\"1700000002\">Sub</H3>\n        <DL><p>\n            "
    ++ codes "<DT><A HREF=\"https://b.example/x\" ADD_DATE=\"1700000003\">B</A>\n        </DL><p>\n        "
    ++ codes "<DT><A HREF=\"not a url\" ADD_DATE=\"1700000004\">C</A>\n    </DL><p>\n    "
    ++ codes "<DT><A HREF=\"https://c.example/\" TAGS=\"red,Blue\">D</A>\n</DL><p>\n")
    ≡ record {
      menu = bookmark 0 (codes "https://c.example/") (codes "D") 0 0 (codes "red" ∷ codes "Blue" ∷ []) ∷ [];
      toolbar =
          bookmark 0 (codes "https://a.example/") (codes "A & B") 1_700_000_000 1_700_000_000 []
          ∷ folder 0 (codes "Sub") 1_700_000_001 1_700_000_002
          ∷ bookmark 1 (codes "https://b.example/x") (codes "B") 1_700_000_003 1_700_000_003 [] ∷ [];
      unfiled = [];
      mobile = [];
      skipped = 1;
    }
unfolding url_on_literals bookmark folder caseless chars encode
worked = refl

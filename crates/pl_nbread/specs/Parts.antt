-- What the tokens of a bookmark file are to its tree.
use Rattle.std.specs.Prelude.{ℕ, ◌||◌, Bool, List, bytes_eq, codes, if◌then◌else◌}
use Rattle.pl_nbread.specs.BookmarkFile.{lowered}
use Rattle.pl_nbread.specs.Tokens.{Attribute, Token, Open, Close, Text}

pub data Part : Type 0 where
  -- `<H3>`: the heading of a folder
  Heading : List Attribute → Part
  -- `<A>`: a bookmark
  Link : List Attribute → Part
  -- `<DL>` and `</DL>`, around the children of a folder
  ListStart : Part
  ListEnd : Part
  -- `<HR>`: a separator
  Rule : Part
  -- another tag at which a title ends
  TitleEnd : Part
  Words : List ℕ → Part
  -- a tag that says nothing
  Other : Part

-- a name is this one, its letters of either case
abbrev pub is_name : List ℕ → List ℕ → Bool
is_name known name = bytes_eq (lowered name) known

abbrev pub opened : List ℕ → List Attribute → Part
opened name attributes =
    if is_name (codes "h3") name then Heading attributes else
    if is_name (codes "a") name then Link attributes else
    if is_name (codes "dl") name then ListStart else
    if is_name (codes "hr") name then Rule else
    if is_name (codes "dt") name || is_name (codes "dd") name then TitleEnd else Other

abbrev pub closed : List ℕ → Part
closed name =
    if is_name (codes "dl") name then ListEnd else
    if is_name (codes "h3") name || is_name (codes "a") name then TitleEnd else Other

abbrev pub part_of : Token → Part
part_of (Open name attributes) = opened name attributes
part_of (Close name) = closed name
part_of (Text text) = Words text

-- The tree that a bookmark file holds: of its tokens, by recursion on the nesting of its lists.
use Rattle.std.specs.Prelude.{ℕ, ◌+◌, ◌*◌, ◌==◌, ◌&&◌, Bool, true, false, List, [], ◌∷◌, ◌++◌}
use Rattle.std.specs.Prelude.{bytes_eq, codes, map, nat_lt, unwrap_or}
use Rattle.std.specs.Prelude.{Option, Some, None, if◌then◌else◌}
use Rattle.std.specs.List.{filter_map, find, slice_split}
use Rattle.std.specs.Option.{option_and_then, option_map}
use Rattle.pl_base.specs.declared.date.Micros.{Micros}
use Rattle.pl_base.specs.declared.item.ItemKind.TheVariants.{Bookmark, Folder, Separator}
use Rattle.pl_base.specs.Address.{canon}
use Rattle.pl_base.specs.NumberText.{number_of}
use Rattle.pl_words.specs.TagLists.{firsts, is_same_tag}
use Rattle.pl_words.specs.TagName.{tag_named, trimmed}
use Rattle.pl_nbread.specs.declared.open_list.OpenList.{OpenList}
use Rattle.pl_nbread.specs.declared.open_list.Root.{Root}
use Rattle.pl_nbread.specs.declared.open_list.Root.TheVariants.{Menu, Toolbar, Unfiled, Mobile}
use Rattle.pl_nbread.specs.declared.tree.Node.{Node}
use Rattle.pl_nbread.specs.declared.tree.Tree.{Tree}
use Rattle.pl_nbread.specs.BookmarkFile.{body, lowered}
use Rattle.pl_nbread.specs.Parts.{Part, Heading, Link, ListStart, ListEnd, Rule, TitleEnd, Words}
use Rattle.pl_nbread.specs.Parts.{Other, is_name, part_of}
use Rattle.pl_nbread.specs.References.{decoded}
use Rattle.pl_nbread.specs.Tokens.{Attribute, tokens}

-- ---- what attributes say

-- what stands in the first attribute with this name
abbrev pub raw : List ℕ → List Attribute → Option (List ℕ)
raw name attributes =
    option_map (λ (a : Attribute). a.value)
    (find (λ (a : Attribute). is_name name a.name) attributes)

-- a value, its references decoded; without one it is empty
abbrev pub said : Option (List ℕ) → List ℕ
said text = decoded (unwrap_or text [])

abbrev pub value : List ℕ → List Attribute → List ℕ
value name attributes = said (raw name attributes)

-- a text is `true`, its letters of either case
abbrev pub says_true : List ℕ → Bool
says_true text = bytes_eq (lowered text) (codes "true")

abbrev pub is_true : List ℕ → List Attribute → Bool
is_true name attributes = says_true (value name attributes)

-- no number of seconds is greater: it is one past 9999-12-31
abbrev pub seconds_limit : ℕ
seconds_limit = 253_402_300_800

abbrev pub if_date : ℕ → Option ℕ
if_date seconds = if nat_lt seconds seconds_limit then Some seconds else None

-- a date of seconds since 1970
abbrev pub seconds : List ℕ → Option ℕ
seconds text = option_and_then if_date (number_of text)

abbrev pub micros : ℕ → Micros
micros seconds = record { 0 = seconds * 1_000_000 }

abbrev pub added_seconds : List Attribute → ℕ
added_seconds attributes = unwrap_or (seconds (value (codes "add_date") attributes)) 0

abbrev pub added : List Attribute → Micros
added attributes = micros (added_seconds attributes)

-- without a date of its own the date on which it was added
abbrev pub modified : List Attribute → Micros
modified attributes =
    micros
    (unwrap_or (seconds (value (codes "last_modified") attributes)) (added_seconds attributes))

abbrev pub url : List Attribute → Option (List ℕ)
url attributes = canon (value (codes "href") attributes)

-- the tags that a text names, apart by commas, each one once
abbrev pub tags_in : List ℕ → List (List ℕ)
tags_in text = firsts is_same_tag (filter_map tag_named (slice_split (λ b. b == 44) text))

abbrev pub tags : List Attribute → List (List ℕ)
tags attributes = tags_in (value (codes "tags") attributes)

-- ---- open lists

-- the list of the menu root's children
abbrev pub menu : OpenList
menu = record { root = Menu; depth = 0 }

-- the root of the store that a heading names; the first of these three counts
abbrev pub root_named : List Attribute → Option Root
root_named attributes =
    if is_true (codes "personal_toolbar_folder") attributes then Some Toolbar else
    if is_true (codes "unfiled_bookmarks_folder") attributes then Some Unfiled else
    if is_true (codes "mobile_bookmarks_folder") attributes then Some Mobile else None

abbrev pub is_menu_root : Root → Bool
is_menu_root Menu = true
is_menu_root Toolbar = false
is_menu_root Unfiled = false
is_menu_root Mobile = false

-- children of the menu root stand here
abbrev pub is_menu : OpenList → Bool
is_menu here = is_menu_root here.root && here.depth == 0

-- the root that a heading stands for; in the menu root alone it may stand for one
abbrev pub root_at : OpenList → List Attribute → Option Root
root_at here attributes = if is_menu here then root_named attributes else None

-- the list of the children of a folder that is a child here
abbrev pub below : OpenList → OpenList
below here = record { root = here.root; depth = here.depth + 1 }

abbrev pub inside_of : OpenList → Option Root → OpenList
inside_of here None = below here
inside_of here (Some root) = record { root = root; depth = 0 }

-- the list of the children of the folder that a heading makes or stands for
abbrev pub inside : OpenList → List Attribute → OpenList
inside here attributes = inside_of here (root_at here attributes)

-- ---- what is made

-- a node of a root's list, or a bookmark whose address is no URL of the store
pub data Made : Type 0 where
  Child : Root → Node → Made
  Skipped : Made

abbrev pub folder : OpenList → List Attribute → List ℕ → Node
folder here attributes title =
    record {
      depth = here.depth;
      kind = Folder;
      url = None;
      title = title;
      added = added attributes;
      modified = modified attributes;
      tags = [];
    }

-- a heading that stands for a root makes no folder
abbrev pub folder_unless : Option Root → OpenList → List Attribute → List ℕ → List Made
folder_unless None here attributes title =
    Child here.root (folder here attributes title) ∷ []
folder_unless (Some root) here attributes title = []

abbrev pub bookmark : OpenList → List ℕ → List Attribute → List ℕ → Node
bookmark here url attributes title =
    record {
      depth = here.depth;
      kind = Bookmark;
      url = Some url;
      title = title;
      added = added attributes;
      modified = modified attributes;
      tags = tags attributes;
    }

abbrev pub bookmark_if : Option (List ℕ) → OpenList → List Attribute → List ℕ → Made
bookmark_if None here attributes title = Skipped
bookmark_if (Some url) here attributes title =
    Child here.root (bookmark here url attributes title)

abbrev pub separator : OpenList → Node
separator here =
    record {
      depth = here.depth;
      kind = Separator;
      url = None;
      title = [];
      added = micros 0;
      modified = micros 0;
      tags = [];
    }

-- ---- nesting

-- what stands in a list: tags and text, and lists with what stands in them and behind them
pub data Content : Type 0 where
  Nothing : Content
  Then : Part → Content → Content
  Inner : Content → Content → Content

-- one part more in the list that is open
abbrev pub put_front : Part → List Content → List Content
put_front part [] = []
put_front part (content ∷ outer) = Then part content ∷ outer

-- a list is begun within the one that is open; it may never have been ended
abbrev pub enclosed : List Content → List Content
enclosed [] = []
enclosed (inner ∷ []) = Inner inner Nothing ∷ []
enclosed (inner ∷ behind ∷ outer) = Inner inner behind ∷ outer

-- what follows in the list that is open, then in the one around it, and so on, each up to its end
abbrev pub levels : List Part → List Content
levels [] = Nothing ∷ []
levels (ListStart ∷ parts) = enclosed (levels parts)
levels (ListEnd ∷ parts) = Nothing ∷ levels parts
levels (Heading attributes ∷ parts) = put_front (Heading attributes) (levels parts)
levels (Link attributes ∷ parts) = put_front (Link attributes) (levels parts)
levels (Rule ∷ parts) = put_front Rule (levels parts)
levels (TitleEnd ∷ parts) = put_front TitleEnd (levels parts)
levels (Words text ∷ parts) = put_front (Words text) (levels parts)
levels (Other ∷ parts) = put_front Other (levels parts)

-- the text up to the next tag at which a title ends
abbrev pub title_text : Content → List ℕ
title_text Nothing = []
title_text (Inner inner behind) = []
title_text (Then (Words text) more) = text ++ title_text more
title_text (Then Other more) = title_text more
title_text (Then (Heading attributes) more) = []
title_text (Then (Link attributes) more) = []
title_text (Then ListStart more) = []
title_text (Then ListEnd more) = []
title_text (Then Rule more) = []
title_text (Then TitleEnd more) = []

-- a title: without the blanks at both ends, its references decoded
abbrev pub title_in : List ℕ → List ℕ
title_in text = decoded (trimmed text)

abbrev pub title : Content → List ℕ
title behind = title_in (title_text behind)

-- what stands here, behind a heading whose list has not begun: its children stand there. Lists are
-- `Inner` content, so their tags by themselves say nothing
abbrev pub made : OpenList → Option OpenList → Content → List Made
made here pending Nothing = []
made here pending (Inner inner behind) =
    made (unwrap_or pending here) None inner ++ made here None behind
made here pending (Then (Heading attributes) more) =
    folder_unless (root_at here attributes) here attributes (title more)
    ++ made here (Some (inside here attributes)) more
made here pending (Then (Link attributes) more) =
    bookmark_if (url attributes) here attributes (title more) ∷ made here None more
made here pending (Then Rule more) = Child here.root (separator here) ∷ made here None more
made here pending (Then TitleEnd more) = made here pending more
made here pending (Then (Words text) more) = made here pending more
made here pending (Then Other more) = made here pending more
made here pending (Then ListStart more) = made here pending more
made here pending (Then ListEnd more) = made here pending more

-- all that parts make: where a list ends and none is open, the menu root goes on
abbrev pub made_of_all : List Content → List Made
made_of_all [] = []
made_of_all (content ∷ outer) = made menu None content ++ made_of_all outer

abbrev pub made_of : List Part → List Made
made_of parts = made_of_all (levels parts)

-- ---- the tree

abbrev pub is_same_root : Root → Root → Bool
is_same_root Menu other = is_menu_root other
is_same_root Toolbar Toolbar = true
is_same_root Unfiled Unfiled = true
is_same_root Mobile Mobile = true
is_same_root root other = false

abbrev pub node_in : Root → Made → Option Node
node_in root Skipped = None
node_in root (Child other node) = if is_same_root root other then Some node else None

-- the nodes of a root's list, in preorder
abbrev pub nodes_in : Root → List Made → List Node
nodes_in root all = filter_map (node_in root) all

abbrev pub skipped_in : List Made → ℕ
skipped_in [] = 0
skipped_in (Skipped ∷ more) = skipped_in more + 1
skipped_in (Child root node ∷ more) = skipped_in more

abbrev pub tree_with : List Made → Tree
tree_with all =
    record {
      menu = nodes_in Menu all;
      toolbar = nodes_in Toolbar all;
      unfiled = nodes_in Unfiled all;
      mobile = nodes_in Mobile all;
      skipped = skipped_in all;
    }

-- the tree of a text behind the doctype
abbrev pub tree_in : List ℕ → Tree
tree_in text = tree_with (made_of (map part_of (tokens text)))

-- the tree that a bookmark file holds
abbrev pub tree_of : List ℕ → Tree
tree_of bytes = tree_in (body bytes)

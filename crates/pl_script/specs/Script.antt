-- The script: one command a line, its fields apart by one TAB.
use Rattle.std.specs.Prelude.{ℕ, ◌+◌, ◌-◌, ◌==◌, ◌&&◌, Bool, true, false}
use Rattle.std.specs.Prelude.{List, [], ◌∷◌, length, codes, bytes_eq, nat_lt}
use Rattle.std.specs.Prelude.{nat_le, Option, Some, None, Result, Ok, Err, if◌then◌else◌}
use Rattle.std.specs.List.{filter_map, find, flat_map, slice_split}
use Rattle.std.specs.Option.{ok_or, option_and_then, option_map}
use Rattle.std.specs.Str.{is_utf8}
use Rattle.std.specs.Str.Lines.{lines}
use Rattle.pl_base.specs.declared.date.Micros.{Micros}
use Rattle.pl_base.specs.declared.id.ItemId.{ItemId}
use Rattle.pl_base.specs.declared.id.VisitId.{VisitId}
use Rattle.pl_base.specs.declared.refusal.Refusal.TheVariants.{BadUrl, BadLine, BadDate}
use Rattle.pl_base.specs.declared.refusal.Refusal.TheVariants.{BadQuery}
use Rattle.pl_base.specs.declared.transition.Transition.{Transition}
use Rattle.pl_base.specs.Address.{canon}
use Rattle.pl_base.specs.Date.{last_date}
use Rattle.pl_base.specs.NumberText.{number_32_of, number_of}
use Rattle.pl_base.specs.Transition.{transition_at}
use Rattle.pl_place.specs.declared.query.Query.{Query as PlaceQuery}
use Rattle.pl_place.specs.ReadQuery.{read_as}
use Rattle.pl_tree.specs.declared.place.Place.{Place as ItemPlace}
use Rattle.pl_tree.specs.declared.place.Place.TheVariants.{End, Number}
use Rattle.pl_step.specs.declared.command.Command.{Command}
use Rattle.pl_step.specs.declared.command.Command.TheVariants.{Day, Visit, Title, Page}
use Rattle.pl_step.specs.declared.command.Command.TheVariants.{Origin, Stats}
use Rattle.pl_step.specs.declared.command.Command.TheVariants.{Unvisit, Forget, Expire, Trim}
use Rattle.pl_step.specs.declared.command.Command.TheVariants.{Folder, Bookmark, Separator}
use Rattle.pl_step.specs.declared.command.Command.TheVariants.{Move, Retitle, Remove}
use Rattle.pl_step.specs.declared.command.Command.TheVariants.{Tag, Untag}
use Rattle.pl_step.specs.declared.command.Command.TheVariants.{List as ListItems}
use Rattle.pl_step.specs.declared.command.Command.TheVariants.{Query, Place, Bar, Fill}
use Rattle.pl_step.specs.Parsed.{Parsed}
use Rattle.pl_script.specs.DayText.{day_in_range, day_of}
use Rattle.pl_script.specs.TagText.{tag_of}
use Rattle.pl_script.specs.declared.word.Word.{Word}
use Rattle.pl_script.specs.declared.word.Word.TheVariants as word

-- ---- what one field stands for

-- the byte that stands behind a backslash for another: `\\`, `\t`, `\n` and `\r`
abbrev pub escaped_byte : ℕ → Option ℕ
escaped_byte b =
    if b == 92 then Some 92 else
    if b == 116 then Some 9 else
    if b == 110 then Some 10 else
    if b == 114 then Some 13 else None

-- a byte put before a text, if there are both
abbrev pub before_text : Option ℕ → Option (List ℕ) → Option (List ℕ)
before_text None text = None
before_text (Some b) text = option_map (λ bytes. b ∷ bytes) text

-- a byte put before a text, unless it is the backslash of an escape
abbrev pub after_byte : ℕ → Option (List ℕ) → Option (List ℕ)
after_byte b text = if b == 92 then text else before_text (Some b) text

-- the bytes that a field stands for, by whether a backslash stands before them: a backslash and the
-- byte behind it stand for one byte, and each other byte for itself
abbrev pub unescaped : Bool → List ℕ → Option (List ℕ)
unescaped false [] = Some []
unescaped true [] = None
unescaped true (b ∷ bytes) = before_text (escaped_byte b) (unescaped false bytes)
unescaped false (b ∷ bytes) = after_byte b (unescaped (b == 92) bytes)

-- the text, where it is UTF-8
abbrev if_utf8 : Option (List ℕ) → Option (List ℕ)
if_utf8 None = None
if_utf8 (Some text) = if is_utf8 text then Some text else None

-- the text of a field. Its escapes are ASCII, so the field is UTF-8 exactly
-- where what it stands for is
abbrev pub text_of : List ℕ → Option (List ℕ)
text_of field = if_utf8 (unescaped false field)

-- the byte that stands behind a backslash for a byte that is escaped
abbrev pub escape_of : ℕ → Option ℕ
escape_of b =
    if b == 92 then Some 92 else
    if b == 9 then Some 116 else
    if b == 10 then Some 110 else
    if b == 13 then Some 114 else None

-- a byte by itself, or a backslash and the letter that stands for it
abbrev pub escaped_as : ℕ → Option ℕ → List ℕ
escaped_as b None = b ∷ []
escaped_as b (Some letter) = 92 ∷ letter ∷ []

-- a text as replies write it: the four escapes, and nothing else escaped
abbrev pub escaped : List ℕ → List ℕ
escaped text = flat_map (λ b. escaped_as b (escape_of b)) text

-- a transition is a number from 1 to 9
abbrev pub transition_of : List ℕ → Option Transition
transition_of field = option_and_then transition_at (number_of field)

-- a date is a number of microseconds. Whether it is in range is asked behind the whole line's form
abbrev pub date_of : List ℕ → Option Micros
date_of field = option_map (λ n. record { 0 = n }) (number_of field)

-- the id of a visit is a number of at most 32 bits
abbrev pub visit_id_of : List ℕ → Option VisitId
visit_id_of field = option_map (λ id. record { 0 = id }) (number_32_of field)

-- and so is that of an item
abbrev pub item_id_of : List ℕ → Option ItemId
item_id_of field = option_map (λ id. record { 0 = id }) (number_32_of field)

-- a place in a folder is `end`, or such a number: of the items that come before it
abbrev pub place_of : List ℕ → Option ItemPlace
place_of field =
    if bytes_eq field (codes "end") then Some End else option_map Number (number_32_of field)

-- the most pages that the address bar may be asked for
abbrev pub most_offered : ℕ
most_offered = 1_000

-- the number, where it is from 1 to that
abbrev pub if_offered : ℕ → Option ℕ
if_offered n = if nat_le 1 n && nat_le n most_offered then Some n else None

-- how many pages the address bar is asked for
abbrev pub max_of : List ℕ → Option ℕ
max_of field = option_and_then if_offered (number_of field)

-- ---- the fields of a line

-- what is read next, unless the line is refused already
infixl 10 ◌>>=◌
abbrev pub ◌>>=◌ : {A B : Type 0} → Parsed A → (A → Parsed B) → Parsed B
(Ok x) >>= next = next x
(Err refusal) >>= next = Err refusal

-- the fields that are left, and the column at which the first of them begins, from 1 on
pub record Fields : Type 0 where
  pub column : ℕ
  pub left : List (List ℕ)

-- the fields of a line, which stand apart by a TAB
abbrev pub fields_of : List ℕ → Fields
fields_of line = record { column = 1; left = slice_split (λ b. b == 9) line }

-- a field that was read, and the fields behind it
abbrev pub read_field : {A : Type 0} → ℕ → List ℕ → List (List ℕ) → Option A → Parsed (A × Fields)
read_field column field rest None = Err (BadLine column)
read_field column field rest (Some x) =
    Ok (x, record { column = column + length field + 1; left = rest })

-- the first field by its form; a missing one is refused at the column behind the line's end
abbrev pub field_in : {A : Type 0} → (List ℕ → Option A) → ℕ → List (List ℕ) → Parsed (A × Fields)
field_in form column [] = Err (BadLine (column - 1))
field_in form column (field ∷ rest) = read_field column field rest (form field)

-- the next field by its form, and the fields behind it: a field of another form is refused at its
-- column, and a missing one at the column behind the line's end
abbrev pub next_field : {A : Type 0} → (List ℕ → Option A) → Fields → Parsed (A × Fields)
next_field form fields = field_in form fields.column fields.left

-- the first field by its form, unless there is none
abbrev pub last_field_in : {A : Type 0} → (List ℕ → Option A) → ℕ → List (List ℕ)
    → Parsed (Option A × Fields)
last_field_in form column [] = Ok (None, record { column = column; left = [] })
last_field_in form column (field ∷ rest) =
    read_field column field rest (option_map (λ x. Some x) (form field))

-- a last field by its form, which the line may lack
abbrev pub last_field : {A : Type 0} → (List ℕ → Option A) → Fields → Parsed (Option A × Fields)
last_field form fields = last_field_in form fields.column fields.left

-- a first field is refused at its column
abbrev pub none_in : ℕ → List (List ℕ) → Parsed (Unit {0})
none_in column [] = Ok tt
none_in column (field ∷ rest) = Err (BadLine column)

-- a field too many is refused at its column
abbrev pub no_more_fields : Fields → Parsed (Unit {0})
no_more_fields fields = none_in fields.column fields.left

-- ---- the lines

-- the words of lines
abbrev pub words : List (List ℕ × Word)
words =
    (codes "day", word.Day)
    ∷ (codes "visit", word.Visit) ∷ (codes "title", word.Title) ∷ (codes "page", word.Page)
    ∷ (codes "origin", word.Origin) ∷ (codes "stats", word.Stats)
    ∷ (codes "unvisit", word.Unvisit) ∷ (codes "forget", word.Forget)
    ∷ (codes "expire", word.Expire) ∷ (codes "trim", word.Trim)
    ∷ (codes "folder", word.Folder) ∷ (codes "bookmark", word.Bookmark)
    ∷ (codes "separator", word.Separator) ∷ (codes "move", word.Move)
    ∷ (codes "retitle", word.Retitle) ∷ (codes "remove", word.Remove)
    ∷ (codes "tag", word.Tag) ∷ (codes "untag", word.Untag) ∷ (codes "list", word.List)
    ∷ (codes "query", word.Query) ∷ (codes "place", word.Place) ∷ (codes "bar", word.Bar)
    ∷ (codes "fill", word.Fill) ∷ []

-- the word that a line begins with
abbrev pub word_of : List ℕ → Option Word
word_of field = option_map (λ row. row.1) (find (λ row. bytes_eq field row.0) words)

-- a date that is later than the last one is refused
abbrev pub in_range : Micros → Parsed Micros
in_range date = if nat_le date.0 last_date then Ok date else Err BadDate

-- the URL that an address gives
abbrev pub url_of : List ℕ → Parsed (List ℕ)
url_of address = ok_or (canon address) BadUrl

-- `day` and a day
abbrev pub day_line : Fields → Parsed Command
day_line fields = do
  named ← next_field day_of fields
  end ← no_more_fields named.1
  day ← day_in_range named.0
  Ok (Day day)

-- `visit`, an address, a transition, a date, and its source or none
abbrev pub visit_line : Fields → Parsed Command
visit_line fields = do
  address ← next_field text_of fields
  transition ← next_field transition_of address.1
  micros ← next_field date_of transition.1
  source ← last_field visit_id_of micros.1
  end ← no_more_fields source.1
  date ← in_range micros.0
  url ← url_of address.0
  Ok (Visit url transition.0 date source.0)

-- `title`, an address and a title
abbrev pub title_line : Fields → Parsed Command
title_line fields = do
  address ← next_field text_of fields
  title ← next_field text_of address.1
  end ← no_more_fields title.1
  url ← url_of address.0
  Ok (Title url title.0)

-- `page` and an address
abbrev pub page_line : Fields → Parsed Command
page_line fields = do
  address ← next_field text_of fields
  end ← no_more_fields address.1
  url ← url_of address.0
  Ok (Page url)

-- `origin` and an address
abbrev pub origin_line : Fields → Parsed Command
origin_line fields = do
  address ← next_field text_of fields
  end ← no_more_fields address.1
  url ← url_of address.0
  Ok (Origin url)

-- `stats` alone
abbrev pub stats_line : Fields → Parsed Command
stats_line fields = do
  end ← no_more_fields fields
  Ok Stats

-- `unvisit` and a visit
abbrev pub unvisit_line : Fields → Parsed Command
unvisit_line fields = do
  visit ← next_field visit_id_of fields
  end ← no_more_fields visit.1
  Ok (Unvisit visit.0)

-- `forget` and an address
abbrev pub forget_line : Fields → Parsed Command
forget_line fields = do
  address ← next_field text_of fields
  end ← no_more_fields address.1
  url ← url_of address.0
  Ok (Forget url)

-- `expire` and a day
abbrev pub expire_line : Fields → Parsed Command
expire_line fields = do
  named ← next_field day_of fields
  end ← no_more_fields named.1
  day ← day_in_range named.0
  Ok (Expire day)

-- `trim` and a number of pages
abbrev pub trim_line : Fields → Parsed Command
trim_line fields = do
  most ← next_field number_32_of fields
  end ← no_more_fields most.1
  Ok (Trim most.0)

-- `folder`, its parent, a place in it, a title and a date
abbrev pub folder_line : Fields → Parsed Command
folder_line fields = do
  parent ← next_field item_id_of fields
  place ← next_field place_of parent.1
  title ← next_field text_of place.1
  micros ← next_field date_of title.1
  end ← no_more_fields micros.1
  date ← in_range micros.0
  Ok (Folder parent.0 place.0 title.0 date)

-- `bookmark`, its parent, a place in it, an address, a title and a date
abbrev pub bookmark_line : Fields → Parsed Command
bookmark_line fields = do
  parent ← next_field item_id_of fields
  place ← next_field place_of parent.1
  address ← next_field text_of place.1
  title ← next_field text_of address.1
  micros ← next_field date_of title.1
  end ← no_more_fields micros.1
  date ← in_range micros.0
  url ← url_of address.0
  Ok (Bookmark parent.0 place.0 url title.0 date)

-- `separator`, its parent, a place in it and a date
abbrev pub separator_line : Fields → Parsed Command
separator_line fields = do
  parent ← next_field item_id_of fields
  place ← next_field place_of parent.1
  micros ← next_field date_of place.1
  end ← no_more_fields micros.1
  date ← in_range micros.0
  Ok (Separator parent.0 place.0 date)

-- `move`, an item, the parent that it goes to, a place in it and a date
abbrev pub move_line : Fields → Parsed Command
move_line fields = do
  item ← next_field item_id_of fields
  parent ← next_field item_id_of item.1
  place ← next_field place_of parent.1
  micros ← next_field date_of place.1
  end ← no_more_fields micros.1
  date ← in_range micros.0
  Ok (Move item.0 parent.0 place.0 date)

-- `retitle`, an item, a title and a date
abbrev pub retitle_line : Fields → Parsed Command
retitle_line fields = do
  item ← next_field item_id_of fields
  title ← next_field text_of item.1
  micros ← next_field date_of title.1
  end ← no_more_fields micros.1
  date ← in_range micros.0
  Ok (Retitle item.0 title.0 date)

-- `remove` and an item
abbrev pub remove_line : Fields → Parsed Command
remove_line fields = do
  item ← next_field item_id_of fields
  end ← no_more_fields item.1
  Ok (Remove item.0)

-- `tag`, an address, a text that names a tag, and a date
abbrev pub tag_line : Fields → Parsed Command
tag_line fields = do
  address ← next_field text_of fields
  text ← next_field text_of address.1
  micros ← next_field date_of text.1
  end ← no_more_fields micros.1
  date ← in_range micros.0
  url ← url_of address.0
  name ← tag_of text.0
  Ok (Tag url name date)

-- `untag`, an address and a text that names a tag
abbrev pub untag_line : Fields → Parsed Command
untag_line fields = do
  address ← next_field text_of fields
  text ← next_field text_of address.1
  end ← no_more_fields text.1
  url ← url_of address.0
  name ← tag_of text.0
  Ok (Untag url name)

-- `list` and an item
abbrev pub list_line : Fields → Parsed Command
list_line fields = do
  item ← next_field item_id_of fields
  end ← no_more_fields item.1
  Ok (ListItems item.0)

-- what a text reads as, or the refusal of the piece that is not of its form
abbrev pub query_or_refusal : Result PlaceQuery ℕ → Parsed PlaceQuery
query_or_refusal (Ok query) = Ok query
query_or_refusal (Err piece) = Err (BadQuery piece)

-- the query that a text reads as
abbrev pub query_of : List ℕ → Parsed PlaceQuery
query_of text = query_or_refusal (read_as text)

-- `query` and a text that holds a query
abbrev pub query_line : Fields → Parsed Command
query_line fields = do
  text ← next_field text_of fields
  end ← no_more_fields text.1
  query ← query_of text.0
  Ok (Query query)

-- `place` and such a text
abbrev pub place_line : Fields → Parsed Command
place_line fields = do
  text ← next_field text_of fields
  end ← no_more_fields text.1
  query ← query_of text.0
  Ok (Place query)

-- `bar`, how many pages at the most, and what is typed
abbrev pub bar_line : Fields → Parsed Command
bar_line fields = do
  most ← next_field max_of fields
  text ← next_field text_of most.1
  end ← no_more_fields text.1
  Ok (Bar most.0 text.0)

-- `fill` and what is typed
abbrev pub fill_line : Fields → Parsed Command
fill_line fields = do
  text ← next_field text_of fields
  end ← no_more_fields text.1
  Ok (Fill text.0)

-- the rest of a line by its word
abbrev pub line_of : Word → Fields → Parsed Command
line_of word.Day fields = day_line fields
line_of word.Visit fields = visit_line fields
line_of word.Title fields = title_line fields
line_of word.Page fields = page_line fields
line_of word.Origin fields = origin_line fields
line_of word.Stats fields = stats_line fields
line_of word.Unvisit fields = unvisit_line fields
line_of word.Forget fields = forget_line fields
line_of word.Expire fields = expire_line fields
line_of word.Trim fields = trim_line fields
line_of word.Folder fields = folder_line fields
line_of word.Bookmark fields = bookmark_line fields
line_of word.Separator fields = separator_line fields
line_of word.Move fields = move_line fields
line_of word.Retitle fields = retitle_line fields
line_of word.Remove fields = remove_line fields
line_of word.Tag fields = tag_line fields
line_of word.Untag fields = untag_line fields
line_of word.List fields = list_line fields
line_of word.Query fields = query_line fields
line_of word.Place fields = place_line fields
line_of word.Bar fields = bar_line fields
line_of word.Fill fields = fill_line fields

-- the bytes of the longest line that is read
abbrev pub longest_line : ℕ
longest_line = 262_144

-- a longer line is refused at the column behind these, whatever it says
abbrev pub command_line : List ℕ → Parsed Command
command_line line =
    if nat_lt longest_line (length line) then Err (BadLine (longest_line + 1))
    else (next_field word_of (fields_of line) >>= λ word. line_of word.0 word.1)

-- the command of a line, or its refusal; an empty line and a line that begins with `#` have none
abbrev pub entry : List ℕ → Option (Parsed Command)
entry [] = None
entry (b ∷ line) = if b == 35 then None else Some (command_line (b ∷ line))

-- what the lines of the input ask for: a line ends with LF, or CR and LF, or with the input
abbrev pub script : List ℕ → List (Parsed Command)
script bytes = filter_map entry (lines bytes)

-- The text of a reply: its lines, each with its fields apart by TAB, and LF.
use Rattle.std.specs.Prelude.{◌≡◌, ℕ, Bool, true, false, List, [], ◌∷◌, ◌++◌, length, map}
use Rattle.std.specs.Prelude.{codes, decimal, drop, Option, None, Some, take, unwrap_or}
use Rattle.std.specs.Fmt.{signed_decimal}
use Rattle.std.specs.List.{flat_map, join_with_byte}
use Rattle.std.specs.Str.Lines.{lines}
use Rattle.pl_base.specs.declared.date.Micros.{Micros}
use Rattle.pl_base.specs.declared.item.ItemKind.{ItemKind}
use Rattle.pl_base.specs.declared.item.ItemKind.TheVariants.{Bookmark, Folder, Separator}
use Rattle.pl_base.specs.Refusal.{refusal_number, refusal_values}
use Rattle.pl_step.specs.declared.reply.BarRow.{BarRow}
use Rattle.pl_step.specs.declared.reply.ListRow.{ListRow}
use Rattle.pl_step.specs.declared.reply.Reply.{Reply}
use Rattle.pl_step.specs.declared.reply.Reply.TheVariants.{Day, Visit, Done, Page, Origin, Stats}
use Rattle.pl_step.specs.declared.reply.Reply.TheVariants.{Removed, Item}
use Rattle.pl_step.specs.declared.reply.Reply.TheVariants.{Rows, Place, Bar, Fill, NoFill, Imported, Restored}
use Rattle.pl_step.specs.declared.reply.Reply.TheVariants.{Refused}
use Rattle.pl_step.specs.declared.reply.Reply.TheVariants.{List as ListReply}
use Rattle.pl_query.specs.declared.result_row.ResultRow.{ResultRow}
use Rattle.pl_script.specs.Script.{escaped, fields_of, text_of}

-- a date, or `-` where there is none
abbrev pub date_text : Option Micros → List ℕ
date_text None = codes "-"
date_text (Some date) = decimal date.0

-- a truth value
abbrev pub truth_text : Bool → List ℕ
truth_text true = codes "1"
truth_text false = codes "0"

-- the word of a kind of items
abbrev pub kind_word : ItemKind → List ℕ
kind_word Bookmark = codes "bookmark"
kind_word Folder = codes "folder"
kind_word Separator = codes "separator"

-- the title that a list tells of an item: of a separator none
abbrev pub told_title : ItemKind → List ℕ → List ℕ
told_title Bookmark title = title
told_title Folder title = title
told_title Separator title = []

-- the address that it tells: of a bookmark alone
abbrev pub told_url : ItemKind → Option (List ℕ) → List ℕ
told_url Bookmark url = unwrap_or url []
told_url Folder url = []
told_url Separator url = []

-- both of them
abbrev pub told_texts : ListRow → List (List ℕ)
told_texts row = told_title row.kind row.title ∷ told_url row.kind row.url ∷ []

-- the fields of an item that is listed
abbrev pub row_fields : ListRow → List (List ℕ)
row_fields row = kind_word row.kind ∷ decimal row.id.0 ∷ map escaped (told_texts row)

-- the texts of a row that answers a query: its page's URL and tags, and between them its title
abbrev pub found_texts : ResultRow → List (List ℕ)
found_texts row = row.url ∷ row.title ∷ row.tags ∷ []

-- the fields of such a row
abbrev pub found_fields : ResultRow → List (List ℕ)
found_fields row =
    codes "row" ∷ decimal row.id ∷ escaped row.url ∷ escaped row.title ∷ date_text row.date
    ∷ decimal row.count ∷ signed_decimal row.frecency ∷ escaped row.tags ∷ []

-- the fields of a page that the address bar offers
abbrev pub bar_fields : BarRow → List (List ℕ)
bar_fields row =
    codes "page" ∷ decimal row.id.0 ∷ signed_decimal row.frecency ∷ escaped row.url
    ∷ escaped row.title ∷ []

-- the fields of the first line of a reply, which of a list says how many rows it has
abbrev pub reply_fields : Reply → List (List ℕ)
reply_fields (Day day changed) =
    codes "day" ∷ decimal day.0 ∷ codes "changed" ∷ decimal changed ∷ []
reply_fields (Visit id page frecency) =
    codes "visit" ∷ decimal id.0 ∷ codes "page" ∷ decimal page.0
    ∷ codes "frecency" ∷ signed_decimal frecency ∷ []
reply_fields Done = codes "ok" ∷ []
reply_fields (Page id frecency count last typed hidden bookmarked url title tags) =
    codes "page" ∷ decimal id.0 ∷ signed_decimal frecency ∷ decimal count ∷ date_text last
    ∷ truth_text typed ∷ truth_text hidden ∷ truth_text bookmarked
    ∷ escaped url ∷ escaped title ∷ escaped tags ∷ []
reply_fields (Origin prefix host reversed total pages passes) =
    codes "origin" ∷ escaped prefix ∷ escaped host ∷ escaped reversed ∷ decimal total
    ∷ decimal pages ∷ truth_text passes ∷ []
reply_fields (Stats pages visits items origins sum slots) =
    codes "stats" ∷ codes "pages" ∷ decimal pages ∷ codes "visits" ∷ decimal visits
    ∷ codes "items" ∷ decimal items ∷ codes "origins" ∷ decimal origins
    ∷ codes "sum" ∷ decimal sum ∷ codes "slots" ∷ decimal slots ∷ []
reply_fields (Removed visits pages) =
    codes "removed" ∷ codes "visits" ∷ decimal visits ∷ codes "pages" ∷ decimal pages ∷ []
reply_fields (Item id) = codes "item" ∷ decimal id.0 ∷ []
reply_fields (ListReply rows) = codes "rows" ∷ decimal (length rows) ∷ []
reply_fields (Rows rows) = codes "rows" ∷ decimal (length rows) ∷ []
reply_fields (Place text) = codes "place" ∷ escaped text ∷ []
reply_fields (Bar rows) = codes "rows" ∷ decimal (length rows) ∷ []
reply_fields (Fill group total) = codes "fill" ∷ escaped group ∷ decimal total ∷ []
reply_fields NoFill = codes "nofill" ∷ []
reply_fields (Imported items tags skipped) =
    codes "imported" ∷ codes "items" ∷ decimal items ∷ codes "tags" ∷ decimal tags
    ∷ codes "skipped" ∷ decimal skipped ∷ []
reply_fields (Restored items tags skipped) =
    codes "restored" ∷ codes "items" ∷ decimal items ∷ codes "tags" ∷ decimal tags
    ∷ codes "skipped" ∷ decimal skipped ∷ []
reply_fields (Refused refusal) =
    codes "refused" ∷ decimal (refusal_number refusal) ∷ map decimal (refusal_values refusal)

-- those of the lines behind it: one for each row of a list, and else none
abbrev pub more_fields : Reply → List (List (List ℕ))
more_fields (Day day changed) = []
more_fields (Visit id page frecency) = []
more_fields Done = []
more_fields (Page id frecency count last typed hidden bookmarked url title tags) = []
more_fields (Origin prefix host reversed total pages passes) = []
more_fields (Stats pages visits items origins sum slots) = []
more_fields (Removed visits pages) = []
more_fields (Item id) = []
more_fields (ListReply rows) = map row_fields rows
more_fields (Rows rows) = map found_fields rows
more_fields (Place text) = []
more_fields (Bar rows) = map bar_fields rows
more_fields (Fill group total) = []
more_fields NoFill = []
more_fields (Imported items tags skipped) = []
more_fields (Restored items tags skipped) = []
more_fields (Refused refusal) = []

-- the fields of each line of a reply
abbrev pub reply_lines : Reply → List (List (List ℕ))
reply_lines reply = reply_fields reply ∷ more_fields reply

-- a line of these fields, with its LF
abbrev pub line_text : List (List ℕ) → List ℕ
line_text fields = join_with_byte 9 fields ++ 10 ∷ []

-- the lines of a reply
abbrev pub reply_text : Reply → List ℕ
reply_text reply = flat_map line_text (reply_lines reply)

-- the fields of each line of a text
abbrev pub fields_in : List ℕ → List (List (List ℕ))
fields_in text = map (λ line. (fields_of line).left) (lines text)

-- as many lines as there are lists of fields, and from each line its fields are read again
abbrev pub AreLinesOf : List (List (List ℕ)) → List ℕ → Type 0
AreLinesOf all text = fields_in text ≡ all

-- a text is read again from what is written of it
abbrev pub IsReadAgain : List ℕ → Type 0
IsReadAgain text = text_of (escaped text) ≡ Some text

-- the title and the address that are told of an item are read again
pub record IsToldAgain (row : ListRow) : Type 0 where
  pub title : IsReadAgain (told_title row.kind row.title)
  pub url : IsReadAgain (told_url row.kind row.url)

-- the texts of a row that answers a query are read again
pub record IsFoundAgain (row : ResultRow) : Type 0 where
  pub url : IsReadAgain row.url
  pub title : IsReadAgain row.title
  pub tags : IsReadAgain row.tags

-- those of a page that the address bar offers are read again
pub record IsOfferedAgain (row : BarRow) : Type 0 where
  pub url : IsReadAgain row.url
  pub title : IsReadAgain row.title

-- of the fields of a row that answers a query those that are texts
abbrev pub found_in : List (List ℕ) → List (List ℕ)
found_in fields = take 2 (drop 2 fields) ++ drop 7 fields

-- the texts of the reply are read again: of a page from the last fields of its line, of an origin
-- from the three behind its word, of a canonical text and a group from the field behind theirs, and
-- of the rows of a list from the fields of the lines behind the first, in order
abbrev pub TellsTexts : Reply → List ℕ → Type 0
TellsTexts (Day day changed) text = Unit {0}
TellsTexts (Visit id page frecency) text = Unit {0}
TellsTexts Done text = Unit {0}
TellsTexts (Page id frecency count last typed hidden bookmarked url title tags) text =
    map (λ fields. map text_of (drop 8 fields)) (fields_in text)
    ≡ (Some url ∷ Some title ∷ Some tags ∷ []) ∷ []
TellsTexts (Origin prefix host reversed total pages passes) text =
    map (λ fields. map text_of (take 3 (drop 1 fields))) (fields_in text)
    ≡ (Some prefix ∷ Some host ∷ Some reversed ∷ []) ∷ []
TellsTexts (Stats pages visits items origins sum slots) text = Unit {0}
TellsTexts (Removed visits pages) text = Unit {0}
TellsTexts (Item id) text = Unit {0}
TellsTexts (ListReply rows) text =
    map (λ fields. map text_of (drop 2 fields)) (drop 1 (fields_in text))
    ≡ map (λ row. map (λ told. Some told) (told_texts row)) rows
TellsTexts (Rows rows) text =
    map (λ fields. map text_of (found_in fields)) (drop 1 (fields_in text))
    ≡ map (λ row. map (λ told. Some told) (found_texts row)) rows
TellsTexts (Place canonical) text =
    map (λ fields. map text_of (drop 1 fields)) (fields_in text) ≡ (Some canonical ∷ []) ∷ []
TellsTexts (Bar rows) text =
    map (λ fields. map text_of (drop 3 fields)) (drop 1 (fields_in text))
    ≡ map (λ (row : BarRow). Some row.url ∷ Some row.title ∷ []) rows
TellsTexts (Fill group total) text =
    map (λ fields. map text_of (take 1 (drop 1 fields))) (fields_in text) ≡ (Some group ∷ []) ∷ []
TellsTexts NoFill text = Unit {0}
TellsTexts (Imported items tags skipped) text = Unit {0}
TellsTexts (Restored items tags skipped) text = Unit {0}
TellsTexts (Refused refusal) text = Unit {0}

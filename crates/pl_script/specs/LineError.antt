-- What a reader of lines gives: what the grammar says, but that want of memory is
-- free where a text is read.
use Rattle.std.specs.Prelude.{◌≡◌, ◌≤◌, ℕ, List, length, Option, Some, None, Result, Ok, Err}
use Rattle.pl_base.specs.declared.refusal.Refusal.TheVariants as refusal
use Rattle.pl_link.specs.declared.canon.CanonError.{CanonError}
use Rattle.pl_link.specs.declared.canon.CanonError.TheVariants as canon
use Rattle.pl_place.specs.declared.reader.QueryError.{QueryError}
use Rattle.pl_place.specs.declared.reader.QueryError.TheVariants as query
use Rattle.pl_words.specs.declared.tag_name.TagError.{TagError}
use Rattle.pl_words.specs.declared.tag_name.TagError.TheVariants as tag
use Rattle.pl_step.specs.declared.command.Command.{Command}
use Rattle.pl_step.specs.Parsed.{Parsed}
use Rattle.pl_script.specs.declared.lines.LineError.{LineError}
use Rattle.pl_script.specs.declared.lines.LineError.TheVariants.{Refused, NoMemory}
use Rattle.pl_script.specs.declared.word.Word.{Word}
use Rattle.pl_script.specs.declared.word.Word.TheVariants as word
use Rattle.pl_script.specs.Script.{Fields, fields_of, longest_line, next_field, word_of}

-- the line is refused so, and want of memory says nothing
abbrev pub Fails : {A : Type 0} → LineError → Parsed A → Type 0
Fails (Refused refusal) expected = expected ≡ Err refusal
Fails NoMemory expected = Unit {0}

-- the result, seen by view, is the expected one
abbrev pub ReadsAs : {X A : Type 0} → (X → A) → Result X LineError → Parsed A → Type 0
ReadsAs view (Ok x) expected = expected ≡ Ok (view x)
ReadsAs view (Err e) expected = Fails e expected

-- the same, and memory is never wanted
abbrev pub ReadsInPlace : {X A : Type 0} → (X → A) → Result X LineError → Parsed A → Type 0
ReadsInPlace view (Ok x) expected = expected ≡ Ok (view x)
ReadsInPlace view (Err (Refused refusal)) expected = expected ≡ Err refusal
ReadsInPlace view (Err NoMemory) expected = ⊥

-- the same of an entry, which a line may lack
abbrev pub ReadsEntry : Result (Option Command) LineError → Option (Parsed Command) → Type 0
ReadsEntry (Ok None) expected = expected ≡ None
ReadsEntry (Ok (Some command)) expected = expected ≡ Some (Ok command)
ReadsEntry (Err (Refused refusal)) expected = expected ≡ Some (Err refusal)
ReadsEntry (Err NoMemory) expected = Unit {0}

-- the lines with this word have texts
abbrev pub HasTexts : Word → Type 0
HasTexts word.Day = ⊥
HasTexts word.Visit = Unit {0}
HasTexts word.Title = Unit {0}
HasTexts word.Page = Unit {0}
HasTexts word.Origin = Unit {0}
HasTexts word.Stats = ⊥
HasTexts word.Unvisit = ⊥
HasTexts word.Forget = Unit {0}
HasTexts word.Expire = ⊥
HasTexts word.Trim = ⊥
HasTexts word.Folder = Unit {0}
HasTexts word.Bookmark = Unit {0}
HasTexts word.Separator = ⊥
HasTexts word.Move = ⊥
HasTexts word.Retitle = Unit {0}
HasTexts word.Remove = ⊥
HasTexts word.Tag = Unit {0}
HasTexts word.Untag = Unit {0}
HasTexts word.List = ⊥
HasTexts word.Query = Unit {0}
HasTexts word.Place = Unit {0}
HasTexts word.Bar = Unit {0}
HasTexts word.Fill = Unit {0}

-- a word was read, and the lines with it have texts
abbrev pub ReadsTexts : Parsed (Word × Fields) → Type 0
ReadsTexts (Ok read) = HasTexts read.0
ReadsTexts (Err refusal) = ⊥

-- the line is not too long, and begins with a word whose lines have texts
pub record MayHaveTexts (line : List ℕ) : Type 0 where
  pub short : length line ≤ longest_line
  pub word : ReadsTexts (next_field word_of (fields_of line))

-- the error of a line whose address is refused
abbrev pub BecomesLineError : CanonError → LineError → Type 0
BecomesLineError canon.BadUrl e = e ≡ Refused refusal.BadUrl
BecomesLineError canon.NoMemory e = e ≡ NoMemory

-- the error of a line whose text names no tag
abbrev pub TagBecomesLineError : TagError → LineError → Type 0
TagBecomesLineError tag.BadTag e = e ≡ Refused refusal.BadTag
TagBecomesLineError tag.NoMemory e = e ≡ NoMemory

-- the error of a line whose text holds no query
abbrev pub QueryBecomesLineError : QueryError → LineError → Type 0
QueryBecomesLineError (query.BadQuery piece) e = e ≡ Refused (refusal.BadQuery piece)
QueryBecomesLineError query.NoMemory e = e ≡ NoMemory

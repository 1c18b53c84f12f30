-- The bookmark of a page that was modified last, as it is found.
use Rattle.std.specs.Prelude.{List, Option, Some, None, if◌then◌else◌, nat_lt}
use Rattle.std.specs.Option.{is_none}
use Rattle.pl_base.specs.Store.{Item}
use Rattle.pl_marks.specs.declared.bookmarks.Dated.{Dated}
use Rattle.pl_marks.specs.TagFolders.{tag_folder}

-- an item and its date
abbrev pub dated : Item → Dated
dated i = record { item = i.id; modified = i.modified }

-- an item and its date, where it is in no tag folder
abbrev pub dated_bookmark : List Item → Item → Option Dated
dated_bookmark items i = if is_none (tag_folder items i.id) then Some (dated i) else None

-- what was modified last of two, and the second where their dates are the same
abbrev pub later : Option Dated → Option Dated → Option Dated
later first None = first
later None (Some second) = Some second
later (Some first) (Some second) =
    if nat_lt second.modified.0 first.modified.0 then Some first else Some second

-- When bookmarks were added and modified at the latest, as it is found.
use Rattle.std.specs.Prelude.{max, if◌then◌else◌}
use Rattle.pl_base.specs.Store.{Item, Store}
use Rattle.pl_base.specs.Tags.{is_tag_entry}
use Rattle.pl_query.specs.declared.mark_dates.MarkDates.{MarkDates}

-- the dates with those of an item more
abbrev pub later_of : MarkDates → Item → MarkDates
later_of dates i =
    record {
      added = record { 0 = max dates.added.0 i.added.0 };
      modified = record { 0 = max dates.modified.0 i.modified.0 };
    }

-- the dates with those of an item more, where it is a bookmark
abbrev pub with_item : Store → MarkDates → Item → MarkDates
with_item store dates i = if is_tag_entry store i.id then dates else later_of dates i

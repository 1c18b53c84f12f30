-- The constants of the crate are those of the definitions: the last date and its day, the ids, a page, a title,
-- the slots.
use Rattle.std.proofs.Common.{◌≡◌, refl}
use Rattle.pl_base.specs.declared.date.TheConstants.Micros.{LAST as LAST_DATE}
use Rattle.pl_base.specs.declared.date.TheConstants.Day.{LAST as LAST_DAY}
use Rattle.pl_base.specs.declared.id.TheConstants.Ids.{END, OPENING}
use Rattle.pl_base.specs.declared.id.TheConstants.ItemId.{TAGS}
use Rattle.pl_base.specs.declared.date.TheConstants.{MICROS_PER_DAY}
use Rattle.pl_base.specs.declared.rows.TheConstants.{SLOT_LIMIT}
use Rattle.pl_base.specs.declared.touched.TheConstants.{PAGE_SIZE}
use Rattle.pl_base.specs.declared.txt.TheConstants.{LONGEST_TITLE}
use Rattle.pl_base.specs.Date.{day_number, last_date, last_day, micros_per_day}
use Rattle.pl_base.specs.Good.{end_of_ids, longest_title}
use Rattle.pl_base.specs.Live.{slot_limit}
use Rattle.pl_base.specs.Store.{opening}
use Rattle.pl_base.specs.Tags.{tags_root}
use Rattle.pl_base.specs.Touched.{page_size}

-- the last microsecond of 9999-12-31, and its day
last_date_is : LAST_DATE.0 ≡ last_date
last_date_is = refl

last_day_is : LAST_DAY.0 ≡ last_day
last_day_is = refl

last_date_of_last_day : day_number LAST_DATE ≡ last_day
last_date_of_last_day = refl

micros_per_day_are : MICROS_PER_DAY ≡ micros_per_day
micros_per_day_are = refl

opening_ids_are : OPENING ≡ opening.ids
opening_ids_are = refl

tags_root_is : TAGS ≡ tags_root
tags_root_is = refl

end_of_ids_is : END ≡ end_of_ids
end_of_ids_is = refl

page_size_is : PAGE_SIZE ≡ page_size
page_size_is = refl

longest_title_is : LONGEST_TITLE ≡ longest_title
longest_title_is = refl

slot_limit_is : SLOT_LIMIT ≡ slot_limit
slot_limit_is = refl

-- Where a visit goes: to a page that is there, or to a new one.
use Rattle.std.specs.Prelude.{◌≡◌, ◌+◌, ◌≤◌, ◌<◌, ℕ, Bool, true, false, List, Some, None}
use Rattle.std.specs.Prelude.{if◌then◌else◌}
use Rattle.std.specs.Option.{option_map}
use Rattle.pl_base.specs.declared.id.PageId.{PageId}
use Rattle.pl_base.specs.Good.{end_of_ids}
use Rattle.pl_base.specs.Live.{chunks, slot_limit}
use Rattle.pl_base.specs.Rows.{IsOriginOf, Kept, WithPageIn, live_with_page, store_of}
use Rattle.pl_base.specs.Store.{Page}
use Rattle.pl_base.specs.Touched.{row_pages}
use Rattle.pl_base.specs.Visiting.{find_page}
use Rattle.pl_history.specs.declared.find.Target.{Target}
use Rattle.pl_history.specs.declared.find.Target.TheVariants.{Known, New}

-- the page that has the URL, or the origin of the URL where no page has it
abbrev pub IsTargetOf : Kept → List ℕ → Target → Type 0
IsTargetOf kept url (Known page) =
    option_map (λ (p : Page). p.id) (find_page url (store_of kept).pages) ≡ Some page
IsTargetOf kept url (New origin) =
    (find_page url (store_of kept).pages ≡ None) × IsOriginOf kept url origin

-- no page has the URL yet
abbrev pub is_new : Target → Bool
is_new (Known page) = false
is_new (New origin) = true

-- the most pages of the file that the page touches: none where it is known
abbrev pub target_pages : List ℕ → Target → ℕ
target_pages url target = if is_new target then row_pages + chunks url else 0

-- a new page may still have an id and its slots
abbrev pub HasRoom : List ℕ → Target → Kept → Type 0
HasRoom url (Known page) kept = Unit {0}
HasRoom url (New origin) kept =
    (kept.ids.page < end_of_ids) × (live_with_page url kept ≤ slot_limit)

-- the rows with the page, which is the known one or has the next id
abbrev pub WithTarget : List ℕ → Target → Kept → Kept → PageId → Type 0
WithTarget url (Known known) old new page = (page ≡ known) × (new ≡ old)
WithTarget url (New origin) old new page =
    (page.0 ≡ old.ids.page) × WithPageIn url origin old new

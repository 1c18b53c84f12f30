-- When the items of a file are those of a good store, as tests: their pages, their dates, and the
-- six roots.
use Rattle.std.specs.Prelude.{◌≡◌, ◌==◌, ◌&&◌, ◌||◌, not, ℕ, Bool, true, false, List, [], ◌∷◌}
use Rattle.std.specs.Prelude.{length, map, nat_le, Option, Some, None}
use Rattle.std.specs.List.{filter_map, list_all, list_any, range_with_len}
use Rattle.std.specs.Option.{is_none, option_map}
use Rattle.pl_base.specs.declared.id.ItemId.{ItemId}
use Rattle.pl_base.specs.declared.id.PageId.{PageId}
use Rattle.pl_base.specs.declared.item.ItemKind.{ItemKind}
use Rattle.pl_base.specs.declared.item.ItemKind.TheVariants.{Bookmark, Folder, Separator}
use Rattle.pl_base.specs.Date.{last_date}
use Rattle.pl_base.specs.Store.{Item, item_id}
use Rattle.pl_base.specs.Tree.{is_page, item_at}
use Rattle.pl_stored.specs.declared.stored.StoredPage.{StoredPage}

-- ---- pages

-- an item has the page
abbrev pub has_reference : List Item → PageId → Bool
has_reference items page = list_any (λ (i : Item). is_page page i.page) items

-- these are the numbers of the pages that the items have
abbrev pub AreReferences : List Item → List ℕ → Type 0
AreReferences items numbers =
    (page : PageId) → list_any (λ n. n == page.0) numbers ≡ has_reference items page

-- the number of an item's page
abbrev pub own_page : Item → Option ℕ
own_page i = option_map (λ (page : PageId). page.0) i.page

-- the numbers of the items' pages
abbrev pub referenced_pages : List Item → List ℕ
referenced_pages items = filter_map own_page items

-- ---- items

-- the ids of the items
abbrev pub item_ids : List Item → List ℕ
item_ids items = map (λ (i : Item). i.id.0) items

-- the kind of a folder
abbrev pub is_folder : ItemKind → Bool
is_folder Folder = true
is_folder Bookmark = false
is_folder Separator = false

-- the kind of a bookmark
abbrev pub is_bookmark : ItemKind → Bool
is_bookmark Bookmark = true
is_bookmark Folder = false
is_bookmark Separator = false

-- a bookmark has a page that is there, and no other item has one
abbrev pub has_own_page : List StoredPage → ItemKind → Option PageId → Bool
has_own_page pages kind None = not (is_bookmark kind)
has_own_page pages kind (Some page) =
    is_bookmark kind && list_any (λ (p : StoredPage). p.id.0 == page.0) pages

-- an item has dates, a page where it is a bookmark, and children only where it is a folder
abbrev pub is_good_item : List StoredPage → Item → Bool
is_good_item pages i =
    nat_le i.added.0 last_date && nat_le i.modified.0 last_date && has_own_page pages i.kind i.page
    && ((length i.children == 0) || is_folder i.kind)

-- ---- the roots

-- there is an item, and it passes the test
abbrev pub passes : (Item → Bool) → Option Item → Bool
passes test None = false
passes test (Some i) = test i

-- a folder as a root stands at first, but for its id and its children
abbrev pub is_plain_folder : Item → Bool
is_plain_folder i =
    is_folder i.kind && (length i.title == 0) && is_none i.page && (i.added.0 == 0)
    && (i.modified.0 == 0)

-- the numbers of the five roots below item 1
abbrev pub top_numbers : List ℕ
top_numbers = range_with_len 2 5

-- the children are the five roots, in order
abbrev pub are_top_folders : List ItemId → Bool
are_top_folders (a ∷ b ∷ c ∷ d ∷ e ∷ []) =
    (a.0 == 2) && (b.0 == 3) && (c.0 == 4) && (d.0 == 5) && (e.0 == 6)
are_top_folders ids = false

-- the root over all
abbrev pub is_root : Item → Bool
is_root i = is_plain_folder i && are_top_folders i.children

-- item n is one of the five roots below it
abbrev pub has_top_folder : List Item → ℕ → Bool
has_top_folder items n = passes is_plain_folder (item_at items (item_id n))

-- item 1 is the root over them
abbrev pub has_root : List Item → Bool
has_root items = passes is_root (item_at items (item_id 1))

-- the items have the six roots
abbrev pub have_roots : List Item → Bool
have_roots items = has_root items && list_all (has_top_folder items) top_numbers

-- The tags of a store: its tag folders in their order, each with its entries.
use Rattle.std.specs.Prelude.{ℕ, ◌+◌, ◌==◌, Bool, false, List, [], ◌∷◌, ◌++◌, bytes_eq, map}
use Rattle.std.specs.Prelude.{Option, Some, None, if◌then◌else◌}
use Rattle.std.specs.List.{find, list_any}
use Rattle.pl_base.specs.declared.id.ItemId.{ItemId}
use Rattle.pl_base.specs.declared.id.PageId.{PageId}
use Rattle.pl_base.specs.Fold.{folded}
use Rattle.pl_base.specs.Store.{Item}
use Rattle.pl_base.specs.Tags.{tags_root}
use Rattle.pl_base.specs.Tree.{child_items, is_page}

-- an entry of a tag folder: its id and its page
pub record TagEntry : Type 0 where
  pub id : ℕ
  pub page : Option PageId

-- a tag folder: its id, its title and its entries
pub record TagRow : Type 0 where
  pub id : ℕ
  pub title : List ℕ
  pub entries : List TagEntry

abbrev pub entry_row : Item → TagEntry
entry_row i = record { id = i.id.0; page = i.page }

-- the entries of a tag folder
abbrev pub entries_of : List Item → ItemId → List TagEntry
entries_of items folder = map entry_row (child_items items folder)

abbrev pub tag_row : List Item → Item → TagRow
tag_row items t =
    record { id = t.id.0; title = t.title; entries = entries_of items t.id }

-- the tags of these items
abbrev pub tag_rows : List Item → List TagRow
tag_rows items = map (tag_row items) (child_items items tags_root)

-- ---- looking up

-- the tag with this fold
abbrev pub row_with : List ℕ → List TagRow → Option TagRow
row_with folds rows = find (λ (r : TagRow). bytes_eq (folded r.title) folds) rows

-- a page stands in a tag folder
abbrev pub holds : PageId → TagRow → Bool
holds page row = list_any (λ (e : TagEntry). is_page page e.page) row.entries

-- a page has the tag, if it is there
abbrev pub holds_in : PageId → Option TagRow → Bool
holds_in page None = false
holds_in page (Some row) = holds page row

-- ---- a page gets a tag

-- a tag with an entry more, if it has this id
abbrev pub with_entry : ℕ → PageId → ℕ → TagRow → TagRow
with_entry tag page next row =
    if row.id == tag
    then record row { entries = row.entries ++ record { id = next; page = Some page } ∷ [] }
    else row

-- a new tag folder with the next id, and its entry with the one behind it
abbrev pub new_row : PageId → List ℕ → ℕ → TagRow
new_row page name next =
    record {
      id = next;
      title = name;
      entries = record { id = next + 1; page = Some page } ∷ [];
    }

-- the tags where a page has one more, which is there already or is new
abbrev pub with_entry_in : Option TagRow → PageId → List ℕ → ℕ → List TagRow → List TagRow
with_entry_in None page name next rows = rows ++ new_row page name next ∷ []
with_entry_in (Some row) page name next rows = map (with_entry row.id page next) rows

-- the tags where a page has this one, from the next id on
abbrev pub entered : PageId → List ℕ → ℕ → List TagRow → List TagRow
entered page name next rows =
    if holds_in page (row_with (folded name) rows) then rows
    else with_entry_in (row_with (folded name) rows) page name next rows

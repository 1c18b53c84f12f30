-- Rows whose slots are linked, seen as what is kept of a store: the pages that hold them, and the
-- slots of pages, visits and items by the numbers of their ids.
use Rattle.std.specs.Prelude.{◌≡◌, ◌==◌, ℕ, false, List, length, map, nat_lt, Option}
use Rattle.std.specs.Prelude.{◌≤◌, ◌<◌}
use Rattle.std.specs.List.{find}
use Rattle.std.specs.Option.{option_map}
use Rattle.pl_base.specs.declared.id.Slot.{Slot}
use Rattle.pl_base.specs.declared.id.VisitId.{VisitId}
use Rattle.pl_base.specs.Rows.{Kept, KeptPage}
use Rattle.pl_base.specs.Store.{Item, Visit}
use Rattle.pl_base.specs.Touched.{bytes_before, page_of}
use Rattle.pl_record.specs.Form.{AreRows, IsLaid}
use Rattle.pl_record.specs.Records.{Layout}
use Rattle.pl_sheets.specs.Sheets.{Pages, changed_below, has_changed, image_of, page_count}

-- ---- slots by ids

-- the number of an id and the slot of its row, in ascending order
abbrev pub Entries : Type 0
Entries = List (ℕ × Slot)

-- the slot of the row with this id
abbrev pub slot_at : Entries → ℕ → Option Slot
slot_at entries id =
    option_map (λ (e : ℕ × Slot). e.1) (find (λ (e : ℕ × Slot). e.0 == id) entries)

-- the next id behind this one
abbrev pub id_behind : Entries → ℕ → Option ℕ
id_behind entries id =
    option_map (λ (e : ℕ × Slot). e.0) (find (λ (e : ℕ × Slot). nat_lt id e.0) entries)

-- the entries name the slots of the rows
pub record AreIndexed (at : Layout) (kept : Kept) (ps vs is : Entries) : Type 0 where
  pub pages : ps ≡ map (λ (p : KeptPage). (p.page.id.0, at.page p.page.id)) kept.pages
  pub visits : vs ≡ map (λ (v : Visit). (v.id.0, at.visit v.id)) kept.visits
  pub items : is ≡ map (λ (i : Item). (i.id.0, at.item i.id)) kept.items

-- the pages are the form of these rows, and the entries name their slots
pub record AreLinked (kept : Kept) (targets : VisitId → List Visit) (sheets : Pages)
    (pages visits items : Entries) : Type 0 where
  pub at : Layout
  pub rows : AreRows kept targets
  pub laid : IsLaid at kept targets sheets
  pub indexed : AreIndexed at kept pages visits items

-- what is kept in the pages: there are such rows
pub record Keeps (sheets : Pages) (pages visits items : Entries) : Type 0 where
  pub kept : Kept
  pub targets : VisitId → List Visit
  pub linked : ∥ AreLinked kept targets sheets pages visits items ∥₁

-- ---- what changed

-- the bytes may have been these at the last `touched`: they are as many as then, and the same in
-- each page that has not changed
pub record IsBaseOf (sheets : Pages) (bytes : List ℕ) : Type 0 where
  pub len : length bytes ≡ bytes_before sheets.before
  pub same : (page : ℕ) → 1 ≤ page → page < sheets.before → has_changed page sheets ≡ false
      → page_of page bytes ≡ (image_of sheets page).image

-- how many pages have changed
abbrev pub changes : Pages → ℕ
changes sheets = length (changed_below (page_count sheets) sheets)

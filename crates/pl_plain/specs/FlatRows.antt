-- The parts of a flat store seen as what is kept of a store, and what holds of them.
use Rattle.std.specs.Prelude.{◌≡◌, ◌≢◌, ◌-◌, ◌≤◌, ◌<◌, ◌==◌, ℕ, Bool, false, IsTrue}
use Rattle.std.specs.Prelude.{List, [], ◌∷◌, map, true, if◌then◌else◌}
use Rattle.std.specs.List.{All, AllPairs, enumerate_from, list_any, swap_remove}
use Rattle.pl_base.specs.declared.date.Day.{Day}
use Rattle.pl_base.specs.declared.id.Ids.{Ids}
use Rattle.pl_base.specs.declared.id.PageId.{PageId}
use Rattle.pl_base.specs.declared.id.Slot.{Slot}
use Rattle.pl_base.specs.declared.id.VisitId.{VisitId}
use Rattle.pl_base.specs.declared.row.Mark.{Mark}
use Rattle.pl_base.specs.Address.{is_store_url}
use Rattle.pl_base.specs.Date.{IsDate, IsDay}
use Rattle.pl_base.specs.Good.{AreIds, IsTitle}
use Rattle.pl_base.specs.Live.{live_slots, origin_count, slot_limit}
use Rattle.pl_base.specs.Removal.{source_left}
use Rattle.pl_base.specs.Rows.{AreAlike, HasSource, Kept, KeptOrigin, KeptPage}
use Rattle.pl_base.specs.Rows.{has_page, store_of}
use Rattle.pl_base.specs.Store.{Item, Visit}
use Rattle.pl_plain.specs.declared.flat.row.FlatPage.{FlatPage}
use Rattle.pl_stored.specs.declared.stored.StoredVisit.{StoredVisit}
use Rattle.pl_stored.specs.Stored.{visit_of}

-- a page seen as what is kept of it
abbrev pub page_of : FlatPage → KeptPage
page_of p =
    record {
      page = record { id = p.id; url = p.url; title = p.title; typed = p.typed };
      origin = p.origin;
      frecency = p.frecency;
      count = p.count;
      hidden = p.hidden;
    }

-- a page with this mark
abbrev pub with_mark_of : Mark → FlatPage → FlatPage
with_mark_of mark p =
    record p {
      typed = mark.typed;
      frecency = mark.frecency;
      count = mark.count;
      hidden = mark.hidden;
    }

-- the page with this id is changed so
abbrev pub row_with : PageId → (FlatPage → FlatPage) → FlatPage → FlatPage
row_with id change p = if p.id.0 == id.0 then change p else p

-- the page with this id has the mark
abbrev pub marked_row : PageId → Mark → FlatPage → FlatPage
marked_row id mark p = row_with id (with_mark_of mark) p

-- a page with this title
abbrev pub with_title_of : List ℕ → FlatPage → FlatPage
with_title_of title p = record p { title = title }

-- the page with this id has the title
abbrev pub titled_row : PageId → List ℕ → FlatPage → FlatPage
titled_row id title p = row_with id (with_title_of title) p

-- a page has this name as that of its origin
abbrev pub has_name : Slot → List FlatPage → Bool
has_name name pages = list_any (λ (p : FlatPage). p.origin.0 == name.0) pages

-- what an origin is named once this name is free, unless it is in use: it goes to the last one
abbrev pub name_left : Bool → ℕ → Slot → Slot → Slot
name_left true last name origin = origin
name_left false last name origin = if origin.0 == last then name else origin

-- a page whose origin is named so
abbrev pub renamed_row : Bool → ℕ → Slot → FlatPage → FlatPage
renamed_row in_use last name p = record p { origin = name_left in_use last name p.origin }

-- the totals that are left, where the origin by a name goes unless it is in use, and the last one
-- takes its place
abbrev pub totals_left : Bool → Slot → List ℕ → List ℕ
totals_left true name totals = totals
totals_left false name totals = swap_remove totals (name.0 - 1) 0

-- a visit that stays where the one with this id goes
abbrev pub left_by : VisitId → StoredVisit → StoredVisit
left_by id v = record v { source = source_left (id ∷ []) v.source }

-- the ids of the pages
abbrev pub flat_page_ids : List FlatPage → List ℕ
flat_page_ids pages = map (λ (p : FlatPage). p.id.0) pages

-- the ids of the visits
abbrev pub flat_visit_ids : List StoredVisit → List ℕ
flat_visit_ids visits = map (λ (v : StoredVisit). v.id.0) visits

-- an origin by its name, with its total
abbrev pub origin_with : ℕ × ℕ → KeptOrigin
origin_with o = record { origin = record { 0 = o.0 }; total = o.1 }

-- the origins with these totals, which are named 1 and so on in their order
abbrev pub origins_from : List ℕ → List KeptOrigin
origins_from totals = map origin_with (enumerate_from 1 totals)

-- the rows, with the totals of the origins
abbrev pub kept_from : Day → Ids → List FlatPage → List ℕ → List StoredVisit → List Item → Kept
kept_from day ids pages totals visits items =
    record {
      day = day;
      ids = ids;
      pages = map page_of pages;
      origins = origins_from totals;
      visits = map visit_of visits;
      items = items;
    }

-- the rows are well kept, where the names of the origins are 1 to `origins`,
-- and they take so many slots
pub record IsFlat (kept : Kept) (origins live : ℕ) : Type 0 where
  pub day : IsDay kept.day
  pub page_ids : AreIds 1 kept.ids.page (map (λ (p : KeptPage). p.page.id.0) kept.pages)
  pub visit_ids : AreIds 1 kept.ids.visit (map (λ (v : Visit). v.id.0) kept.visits)
  pub item_ids : AreIds 7 kept.ids.item (map (λ (i : Item). i.id.0) kept.items)
  pub urls : All (λ (p : KeptPage). IsTrue (is_store_url p.page.url)) kept.pages
  pub distinct_urls : AllPairs (λ (p q : KeptPage). p.page.url ≢ q.page.url) kept.pages
  pub titles : All (λ (p : KeptPage). IsTitle p.page.title) kept.pages
  pub visits : All (λ (v : Visit). IsDate v.date × IsTrue (has_page kept v.page)) kept.visits
  pub sources : All (HasSource kept) kept.visits
  pub named : All (λ (p : KeptPage). (0 < p.origin.0) × (p.origin.0 ≤ origins)) kept.pages
  pub used : (n : ℕ) → 0 < n → n ≤ origins
      → list_any (λ (p : KeptPage). p.origin.0 == n) kept.pages ≡ true
  pub same : All (λ (p : KeptPage). All (AreAlike p) kept.pages) kept.pages
  pub counted : origins ≡ origin_count (map (λ (p : KeptPage). p.page.url) kept.pages)
  pub filled : live ≡ live_slots (store_of kept)
  pub few : live ≤ slot_limit

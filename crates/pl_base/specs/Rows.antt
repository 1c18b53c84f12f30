-- What is kept of a store: its rows, and beside each page what was computed of it last.
use Rattle.std.specs.Prelude.{◌≡◌, ◌≢◌, ◌↔◌, ◌&&◌, not, ℕ, ℤ, pos, ◌+◌, ◌≤◌, ◌<◌, ◌==◌, Bool}
use Rattle.std.specs.Prelude.{true, false, IsTrue, IsFalse, Contains, List, [], ◌∷◌}
use Rattle.std.specs.Prelude.{◌++◌, map, nat_lt, Option, Some, None, IfSome, if◌then◌else◌}
use Rattle.std.specs.List.{All, AllPairs, filter, filter_map, find, list_any}
use Rattle.std.specs.List.Sorted.{IsPermutation}
use Rattle.std.specs.Option.{option_and_then, option_map}
use Rattle.pl_base.specs.declared.date.Day.{Day}
use Rattle.pl_base.specs.declared.date.Micros.{Micros}
use Rattle.pl_base.specs.declared.id.Ids.{Ids}
use Rattle.pl_base.specs.declared.id.ItemId.{ItemId}
use Rattle.pl_base.specs.declared.id.PageId.{PageId}
use Rattle.pl_base.specs.declared.id.Slot.{Slot}
use Rattle.pl_base.specs.declared.id.VisitId.{VisitId}
use Rattle.pl_base.specs.declared.item.ItemRow.{ItemRow}
use Rattle.pl_base.specs.declared.row.Mark.{Mark}
use Rattle.pl_base.specs.declared.row.VisitRow.{VisitRow}
use Rattle.pl_base.specs.Address.{is_store_url, origin_of_url, same_origin}
use Rattle.pl_base.specs.Date.{IsDate, IsDay}
use Rattle.pl_base.specs.Frecency.{frecency_of}
use Rattle.pl_base.specs.Good.{AreIds, IsGood, IsTitle}
use Rattle.pl_base.specs.Live.{live_slots, slot_limit}
use Rattle.pl_base.specs.Marks.{is_hidden, visit_count}
use Rattle.pl_base.specs.Redirects.{others_from, redirects_from}
use Rattle.pl_base.specs.Removal.{visits_left}
use Rattle.pl_base.specs.Store.{Store, Page, Visit, Item, item_id, roots}
use Rattle.pl_base.specs.Totals.{Origin, Scored, most_share, scored_pages, share, total_of}
use Rattle.pl_base.specs.Tree.{inserted, retitled}
use Rattle.pl_base.specs.Visits.{latest_first, visits_of}

-- the most records that a call on one row reads
abbrev pub most_reads : ℕ
most_reads = 4

-- a page, the name of its origin, and what was computed of it last
pub record KeptPage : Type 0 where
  pub page : Page
  pub origin : Slot
  pub frecency : ℤ
  pub count : ℕ
  pub hidden : Bool

-- the name of an origin, and the sum of the positive frecencies of its
-- pages as it was computed last
pub record KeptOrigin : Type 0 where
  pub origin : Slot
  pub total : ℕ

-- the day, the next ids and the rows, each list by ascending id but that of the origins
pub record Kept : Type 0 where
  pub day : Day
  pub ids : Ids
  pub pages : List KeptPage
  pub origins : List KeptOrigin
  pub visits : List Visit
  pub items : List Item

-- the store of the rows
abbrev pub store_of : Kept → Store
store_of kept =
    record {
      day = kept.day;
      ids = kept.ids;
      pages = map (λ (p : KeptPage). p.page) kept.pages;
      visits = kept.visits;
      items = kept.items;
    }

-- the opening store with these next ids
abbrev pub opening_with : Ids → Kept
opening_with ids =
    record {
      day = record { 0 = 0 };
      ids = ids;
      pages = [];
      origins = [];
      visits = [];
      items = roots;
    }

-- ---- looking up

-- the page with this id
abbrev pub page_at : Kept → PageId → Option KeptPage
page_at kept id = find (λ (p : KeptPage). p.page.id.0 == id.0) kept.pages

-- the visit with this id
abbrev pub visit_at : Kept → VisitId → Option Visit
visit_at kept id = find (λ (v : Visit). v.id.0 == id.0) kept.visits

-- a page has this id
abbrev pub has_page : Kept → PageId → Bool
has_page kept id = list_any (λ (p : KeptPage). p.page.id.0 == id.0) kept.pages

-- a visit has this id
abbrev pub has_visit : Kept → VisitId → Bool
has_visit kept id = list_any (λ (v : Visit). v.id.0 == id.0) kept.visits

-- what is kept of a page beside its texts
abbrev pub mark_of : KeptPage → Mark
mark_of p =
    record { frecency = p.frecency; count = p.count; typed = p.page.typed; hidden = p.hidden }

-- a visit without its id
abbrev pub row_of : Visit → VisitRow
row_of v = record { page = v.page; date = v.date; transition = v.transition; source = v.source }

-- the number of a page, and 0 of none
abbrev number_or_zero : Option PageId → ℕ
number_or_zero None = 0
number_or_zero (Some id) = id.0

-- the first page with a greater id, or the first of all
abbrev pub page_behind : Kept → Option PageId → Option PageId
page_behind kept id =
    option_map (λ (p : KeptPage). p.page.id)
    (find (λ (p : KeptPage). nat_lt (number_or_zero id) p.page.id.0) kept.pages)

-- the id of the first visit
abbrev pub first_id : List Visit → Option VisitId
first_id [] = None
first_id (v ∷ vs) = Some v.id

-- the visit that stands behind the one with this id
abbrev pub id_behind : VisitId → List Visit → Option VisitId
id_behind id [] = None
id_behind id (v ∷ vs) = if v.id.0 == id.0 then first_id vs else id_behind id vs

-- the visits of a page, the latest first
abbrev pub page_visits : Kept → PageId → List Visit
page_visits kept page = latest_first (visits_of (store_of kept) page)

-- the URL of the page with this id
abbrev pub url_of : Kept → PageId → Option (List ℕ)
url_of kept page = option_map (λ (p : KeptPage). p.page.url) (page_at kept page)

-- the title of the page with this id
abbrev pub title_of : Kept → PageId → Option (List ℕ)
title_of kept page = option_map (λ (p : KeptPage). p.page.title) (page_at kept page)

-- the name of the origin of the page with this id
abbrev pub origin_of : Kept → PageId → Option Slot
origin_of kept page = option_map (λ (p : KeptPage). p.origin) (page_at kept page)

-- an origin has this name
abbrev pub has_origin : Kept → Slot → Bool
has_origin kept origin = list_any (λ (a : KeptOrigin). a.origin.0 == origin.0) kept.origins

-- the total of the origin with this name, as it was computed last
abbrev pub total_at : Kept → Slot → Option ℕ
total_at kept origin =
    option_map (λ (a : KeptOrigin). a.total)
    (find (λ (a : KeptOrigin). a.origin.0 == origin.0) kept.origins)

-- the visit of the same page that comes next before it
abbrev pub older_visit : Kept → VisitId → Option VisitId
older_visit kept id =
    option_and_then (λ (v : Visit). id_behind id (page_visits kept v.page)) (visit_at kept id)

-- the visits that came from one: the redirects in some order, and behind them the others
pub record AreTargets (store : Store) (source : VisitId) (targets : List Visit) : Type 0 where
  pub redirects : List Visit
  pub others : List Visit
  pub is : targets ≡ redirects ++ others
  pub all_redirects : IsPermutation redirects (redirects_from store source)
  pub all_others : IsPermutation others (others_from store source)

-- the visit that stands behind this one among the targets of its source
abbrev pub target_behind : (VisitId → List Visit) → Kept → VisitId → Option VisitId
target_behind targets kept id =
    option_and_then
    (λ (v : Visit). option_and_then (λ source. id_behind id (targets source)) v.source)
    (visit_at kept id)

-- ---- changes

-- the rows on another day
abbrev pub with_day : Day → Kept → Kept
with_day day kept = record kept { day = day }

-- a page with the next id, in an origin, with nothing computed of it yet
abbrev pub next_page : List ℕ → Slot → Kept → KeptPage
next_page url origin kept =
    record {
      page = record { id = record { 0 = kept.ids.page }; url = url; title = []; typed = false };
      origin = origin;
      frecency = pos 0;
      count = 0;
      hidden = false;
    }

-- the rows with that page
abbrev pub with_new_page : List ℕ → Slot → Kept → Kept
with_new_page url origin kept =
    record kept {
      ids = record kept.ids { page = kept.ids.page + 1 };
      pages = kept.pages ++ next_page url origin kept ∷ [];
    }

-- an origin more, with no total yet
abbrev pub with_origin : Slot → Kept → Kept
with_origin origin kept =
    record kept { origins = kept.origins ++ record { origin = origin; total = 0 } ∷ [] }

-- an origin with this total, where it has the name
abbrev pub totaled : Slot → ℕ → KeptOrigin → KeptOrigin
totaled origin total a = if a.origin.0 == origin.0 then record a { total = total } else a

-- the origin with this name has this total
abbrev pub with_total : Slot → ℕ → Kept → Kept
with_total origin total kept = record kept { origins = map (totaled origin total) kept.origins }

-- the rows with these origins
abbrev pub with_origins : List KeptOrigin → Kept → Kept
with_origins origins kept = record kept { origins = origins }

-- the slots of the store with a page of this URL more
abbrev pub live_with_page : List ℕ → Kept → ℕ
live_with_page url kept = live_slots (store_of (with_new_page url (record { 0 = 0 }) kept))

-- a visit with the next id
abbrev pub next_visit : VisitRow → Kept → Visit
next_visit row kept =
    record {
      id = record { 0 = kept.ids.visit };
      page = row.page;
      date = row.date;
      transition = row.transition;
      source = row.source;
    }

-- the rows with that visit
abbrev pub with_visit : VisitRow → Kept → Kept
with_visit row kept =
    record kept {
      ids = record kept.ids { visit = kept.ids.visit + 1 };
      visits = kept.visits ++ next_visit row kept ∷ [];
    }

-- the rows without the visit with this id, from which no visit came from then on
abbrev pub without_visit : VisitId → Kept → Kept
without_visit id kept = record kept { visits = visits_left (id ∷ []) kept.visits }

-- the page with this mark
abbrev pub marked : Mark → KeptPage → KeptPage
marked mark p =
    record p {
      page = record p.page { typed = mark.typed };
      frecency = mark.frecency;
      count = mark.count;
      hidden = mark.hidden;
    }

-- the page with this id has this mark
abbrev pub with_mark : PageId → Mark → Kept → Kept
with_mark id mark kept =
    record kept {
      pages = map (λ (p : KeptPage). if p.page.id.0 == id.0 then marked mark p else p) kept.pages;
    }

-- the page with this title
abbrev pub titled : List ℕ → KeptPage → KeptPage
titled title p = record p { page = record p.page { title = title } }

-- the page with this id has this title
abbrev pub with_title : PageId → List ℕ → Kept → Kept
with_title id title kept =
    record kept {
      pages = map (λ (p : KeptPage). if p.page.id.0 == id.0 then titled title p else p) kept.pages;
    }

-- the slots of the store where the page has this title
abbrev pub live_with_title : PageId → List ℕ → Kept → ℕ
live_with_title id title kept = live_slots (store_of (with_title id title kept))

-- the rows with a new item, which has the next id
abbrev pub with_item : ItemRow → List ℕ → Option ItemId → Kept → Kept
with_item row title after kept =
    record kept {
      ids = record kept.ids { item = kept.ids.item + 1 };
      items = inserted (item_id kept.ids.item) row title after kept.items;
    }

-- the rows with these items
abbrev pub with_items : List Item → Kept → Kept
with_items items kept = record kept { items = items }

-- the slots of the store with that item
abbrev pub live_with_item : ItemRow → List ℕ → Option ItemId → Kept → ℕ
live_with_item row title after kept = live_slots (store_of (with_item row title after kept))

-- the slots of the store where the item has this title
abbrev pub live_with_item_title : ItemId → List ℕ → Micros → Kept → ℕ
live_with_item_title id title modified kept =
    live_slots (store_of (with_items (retitled id title modified kept.items) kept))

-- a page but for the name of its origin
abbrev pub unnamed : KeptPage → KeptPage
unnamed p = record p { origin = record { 0 = 0 } }

-- the pages but the one with this id
abbrev pub other_pages : PageId → List KeptPage → List KeptPage
other_pages page pages = filter (λ (p : KeptPage). not (p.page.id.0 == page.0)) pages

-- the totals of the origins of these pages
abbrev pub totals_of : Kept → List KeptPage → List (Option ℕ)
totals_of kept pages = map (λ (p : KeptPage). total_at kept p.origin) pages

-- the rows without the page, where the origins of the others may have other names than before
pub record WithoutPage (page : PageId) (old new : Kept) : Type 0 where
  pub day : new.day ≡ old.day
  pub ids : new.ids ≡ old.ids
  pub pages : map unnamed new.pages ≡ map unnamed (other_pages page old.pages)
  pub totals : totals_of new new.pages ≡ totals_of old (other_pages page old.pages)
  pub visits : new.visits ≡ old.visits
  pub items : new.items ≡ old.items

-- ---- what holds of the rows

-- the names of the origins
abbrev pub origin_names : Kept → List ℕ
origin_names kept = map (λ (a : KeptOrigin). a.origin.0) kept.origins

-- the names that the pages have
abbrev pub page_origins : Kept → List ℕ
page_origins kept = map (λ (p : KeptPage). p.origin.0) kept.pages

-- two pages have the same name exactly where they have the same origin
abbrev pub AreAlike : KeptPage → KeptPage → Type 0
AreAlike p q = (p.origin ≡ q.origin) ↔ IsTrue (same_origin p.page.url q.page.url)

-- each origin has a name of its own, and pages have the same name exactly where
-- they have the same origin
pub record NamesOrigins (kept : Kept) : Type 0 where
  pub distinct : AllPairs (λ (a b : KeptOrigin). a.origin ≢ b.origin) kept.origins
  pub some : All (λ (a : KeptOrigin). 0 < a.origin.0) kept.origins
  pub known : All (λ (p : KeptPage). Contains (origin_names kept) p.origin.0) kept.pages
  pub used : All (λ (a : KeptOrigin). Contains (page_origins kept) a.origin.0) kept.origins
  pub same : All (λ (p : KeptPage). All (AreAlike p) kept.pages) kept.pages

-- the origin by this name is that of the URL; without a name no page has it
abbrev pub IsOriginOf : Kept → List ℕ → Option Slot → Type 0
IsOriginOf kept url None = All (λ (p : KeptPage). IsFalse (same_origin p.page.url url)) kept.pages
IsOriginOf kept url (Some origin) =
    list_any (λ (p : KeptPage). (p.origin.0 == origin.0) && same_origin p.page.url url) kept.pages
    ≡ true

-- the origin of a new page: the one by the name, or a new one
abbrev pub WithPageIn : List ℕ → Option Slot → Kept → Kept → Type 0
WithPageIn url (Some origin) old new = new ≡ with_new_page url origin old
WithPageIn url None old new =
    (origin : Slot) × (new ≡ with_new_page url origin (with_origin origin old))

-- the source of a visit, if it has one, stands among the rows and has a smaller id
abbrev pub HasSource : Kept → Visit → Type 0
HasSource kept v = IfSome v.source (λ id. (id.0 < v.id.0) × IsTrue (has_visit kept id))

-- the numbers of each kind lie below the next, dates and days are in range, sources stand before
-- their visits, and no URL stands twice
pub record IsWellKept (kept : Kept) : Type 0 where
  pub day : IsDay kept.day
  pub page_ids : AreIds 1 kept.ids.page (map (λ (p : KeptPage). p.page.id.0) kept.pages)
  pub visit_ids : AreIds 1 kept.ids.visit (map (λ (v : Visit). v.id.0) kept.visits)
  pub item_ids : AreIds 7 kept.ids.item (map (λ (i : Item). i.id.0) kept.items)
  pub urls : All (λ (p : KeptPage). IsTrue (is_store_url p.page.url)) kept.pages
  pub distinct_urls : AllPairs (λ (p q : KeptPage). p.page.url ≢ q.page.url) kept.pages
  pub titles : All (λ (p : KeptPage). IsTitle p.page.title) kept.pages
  pub visits : All (λ (v : Visit). IsDate v.date × IsTrue (has_page kept v.page)) kept.visits
  pub sources : All (HasSource kept) kept.visits
  pub origins : NamesOrigins kept
  pub live : live_slots (store_of kept) ≤ slot_limit

-- what was computed of each page is what the definitions give on the store's day
pub record IsRight (kept : Kept) : Type 0 where
  pub frecencies :
      All (λ (p : KeptPage). p.frecency ≡ frecency_of (store_of kept) p.page) kept.pages
  pub counts : All (λ (p : KeptPage). p.count ≡ visit_count (store_of kept) p.page.id) kept.pages
  pub hidden : All (λ (p : KeptPage). p.hidden ≡ is_hidden (store_of kept) p.page) kept.pages

-- the total of each page's origin is what the definition gives
abbrev pub HaveTotals : Kept → Type 0
HaveTotals kept =
    All (λ (p : KeptPage). total_at kept p.origin
    ≡ option_map (total_of (scored_pages (store_of kept))) (origin_of_url p.page.url)) kept.pages

-- the store is good, what was computed of its pages is right, and its origins have their totals
pub record IsSound (kept : Kept) : Type 0 where
  pub good : IsGood (store_of kept)
  pub right : IsRight kept
  pub totals : HaveTotals kept

-- the origins of the pages, and their frecencies as they were computed last
abbrev pub kept_scores : Kept → List Scored
kept_scores kept =
    filter_map (λ (p : KeptPage). option_map (λ (o : Origin). (o, p.frecency))
    (origin_of_url p.page.url)) kept.pages

-- the total of each page's origin is the sum of the positive frecencies as its pages keep them,
-- right or not, each of which is small
pub record HaveSums (kept : Kept) : Type 0 where
  pub sums :
      All (λ (p : KeptPage). total_at kept p.origin
      ≡ option_map (total_of (kept_scores kept)) (origin_of_url p.page.url)) kept.pages
  pub small : All (λ (p : KeptPage). share p.frecency ≤ most_share) kept.pages

-- What the slots of an origin or a page that comes or goes leave of the records, the chains and the
-- header.
use Rattle.std.specs.Prelude.{◌≡◌, ℕ, ◌+◌, ◌≤◌, ◌==◌, true, false, List, [], ◌∷◌, ◌++◌, length}
use Rattle.std.specs.Prelude.{Some, None, if◌then◌else◌, pos}
use Rattle.pl_base.specs.declared.id.Ids.{Ids}
use Rattle.pl_base.specs.declared.id.PageId.{PageId}
use Rattle.pl_base.specs.declared.id.Slot.{Slot}
use Rattle.pl_record.specs.ChainMap.{AreApart, AreChains, ChainMap, with_chain}
use Rattle.pl_record.specs.Chains.{IsAlone}
use Rattle.pl_record.specs.declared.rows.Place.{Place}
use Rattle.pl_record.specs.Rows.{origin_row, place_row, record_at}
use Rattle.pl_rail.specs.declared.owner.Owner.{Owner}
use Rattle.pl_rail.specs.declared.owner.Owner.TheVariants.{At, Header}
use Rattle.pl_rail.specs.Rails.{ChangesAround, HasMember, KeepsOwners, KeepsRails, KeepsRest, Lists}
use Rattle.pl_rail.specs.Rails.{none}
use Rattle.pl_sheets.specs.Sheets.{Pages, page_count}
use Rattle.pl_slot.specs.declared.kind.LiveKind.TheVariants as kinds
use Rattle.pl_slot.specs.declared.links.Rail.{Rail}
use Rattle.pl_slot.specs.declared.links.Rail.TheVariants.{Live, OriginPages, PageVisits}
use Rattle.pl_slot.specs.declared.links.Rail.TheVariants.{References}
use Rattle.pl_slot.specs.declared.row.SlotRow.{SlotRow}
use Rattle.pl_slot.specs.declared.row.SlotRow.TheVariants as rows
use Rattle.pl_slot.specs.Arena.{ChangesOnly, IsArena, KeepsFields, SetsHeader, first_in, header_of}
use Rattle.pl_slot.specs.Arena.{header_page, is_among, is_live, live_count, slot_page}
use Rattle.pl_slot.specs.Links.{is_rail}
use Rattle.pl_text.specs.Chunks.{Hold, KeepsLive, pages_of}

-- the header but for the chains and what tells of pages and free slots
pub record KeepsBody (old new : Pages) : Type 0 where
  pub form : (header_of new).form ≡ (header_of old).form
  pub day : (header_of new).day ≡ (header_of old).day
  pub ids : (header_of new).ids ≡ (header_of old).ids
  pub live : (header_of new).live ≡ (header_of old).live
  pub rest : (header_of new).rest ≡ (header_of old).rest

-- slots that stand alone in a rail still do, but for the rails of live slots and of origins
abbrev pub KeepsAlone : Pages → Pages → Type 0
KeepsAlone old new =
    (rail : Rail) (slot : Slot) → is_rail rail Live ≡ false → is_rail rail OriginPages ≡ false
    → IsAlone rail slot old → IsAlone rail slot new

-- a slot stands behind all members of an owner's chain. All but the links of the rail is as it was
pub record Appends (rail : Rail) (owner : Owner) (slot : Slot) (old new : Pages) : Type 0 where
  pub list : (slots : List Slot) → Lists rail owner slots old
      → Lists rail owner (slots ++ slot ∷ []) new
  pub owners : (slots : List Slot) → Lists rail owner slots old
      → KeepsOwners rail owner slots old new
  pub others : KeepsRails rail old new
  pub rest : KeepsRest rail owner old new
  pub pages : (slots : List Slot) → Lists rail owner slots old
      → ChangesAround owner slots slot [] old new

-- the origins with one more, and the pages with one more, behind all others, also of its origin
abbrev pub with_origin_slot : Slot → ChainMap → ChainMap
with_origin_slot slot chains =
    with_chain Live (Header kinds.Origin) (chains Live (Header kinds.Origin) ++ slot ∷ []) chains

abbrev pub with_page_slot : Slot → Slot → ChainMap → ChainMap
with_page_slot origin slot chains =
    with_chain OriginPages (At origin) (chains OriginPages (At origin) ++ slot ∷ [])
    (with_chain Live (Header kinds.Place) (chains Live (Header kinds.Place) ++ slot ∷ []) chains)

-- the chains with these pages left of the origin's, and of all
abbrev pub without_page_slot : Slot → List Slot → List Slot → ChainMap → ChainMap
without_page_slot origin pages places chains =
    with_chain Live (Header kinds.Place) places (with_chain OriginPages (At origin) pages chains)

-- a slot that was not live is that of an origin, which has no page yet and stands behind all others
pub record InsertsOrigin (slot : Slot) (old new : Pages) : Type 0 where
  pub fresh : is_live slot.0 old ≡ false
  pub records : (n : ℕ) → record_at n new
      ≡ (if n == slot.0 then Some (origin_row 0) else record_at n old)
  pub chains : (chains : ChainMap) → AreChains chains old
      → AreChains (with_origin_slot slot chains) new
  pub alone : KeepsAlone old new
  pub count : live_count new ≡ live_count old + 1
  pub body : KeepsBody old new
  pub longer : page_count old ≤ page_count new
  pub before : ℕ
  pub pages : ChangesOnly (header_page ∷ slot_page slot.0 ∷ before ∷ []) old new

-- the slot of an origin without pages is free, and all others stand in their order
pub record RemovesOrigin (slot : Slot) (old new : Pages) : Type 0 where
  pub records : (n : ℕ) → record_at n new ≡ (if n == slot.0 then None else record_at n old)
  pub chains : (chains : ChainMap) (front back : List Slot) → AreChains chains old
      → chains Live (Header kinds.Origin) ≡ front ++ slot ∷ back
      → AreChains (with_chain Live (Header kinds.Origin) (front ++ back) chains) new
  pub alone : KeepsAlone old new
  pub count : live_count new + 1 ≡ live_count old
  pub body : KeepsBody old new
  pub longer : page_count old ≤ page_count new
  pub before : ℕ
  pub behind : ℕ
  pub pages : ChangesOnly (header_page ∷ slot_page slot.0 ∷ before ∷ behind ∷ []) old new

-- the row of a new page, whose URL begins in a slot
abbrev pub new_place : PageId → Slot → Slot → ℕ → SlotRow
new_place page origin url size =
    rows.Place false false none none page origin none none none none none none url size none 0
    (pos 0) 0

-- a slot that was not live has the row of a page, behind all pages, also of its origin
pub record TakesPlace (row : SlotRow) (origin slot : Slot) (old new : Pages) : Type 0 where
  pub fresh : is_live slot.0 old ≡ false
  pub records : (n : ℕ) → record_at n new ≡ (if n == slot.0 then Some row else record_at n old)
  pub chains : (chains : ChainMap) → AreChains chains old → AreApart OriginPages chains
      → AreChains (with_page_slot origin slot chains) new
  pub alone : KeepsAlone old new
  pub count : live_count new ≡ live_count old + 1
  pub body : KeepsBody old new
  pub longer : page_count old ≤ page_count new
  pub before : ℕ
  pub beside : ℕ
  pub pages : ChangesOnly
      (header_page ∷ slot_page slot.0 ∷ slot_page origin.0 ∷ before ∷ beside ∷ []) old new

-- slots that were not live hold a new page and its URL, behind all pages, also of its origin
pub record InsertsPlace (page : PageId) (url : List ℕ) (origin slot : Slot) (old new : Pages)
    : Type 0 where
  pub text : List ℕ
  pub fresh : (n : ℕ) → is_among n (slot.0 ∷ text) ≡ true → is_live n old ≡ false
  pub apart : is_among slot.0 text ≡ false
  pub row : record_at slot.0 new ≡ Some (new_place page origin (first_in text) (length url))
  pub held : Hold text url new
  pub others : (n : ℕ) → is_among n (slot.0 ∷ text) ≡ false → record_at n new ≡ record_at n old
  pub chains : (chains : ChainMap) → AreChains chains old → AreApart OriginPages chains
      → AreChains (with_page_slot origin slot chains) new
  pub alone : KeepsAlone old new
  pub count : live_count new ≡ live_count old + 1 + length text
  pub body : KeepsBody old new
  pub longer : page_count old ≤ page_count new
  pub before : ℕ
  pub beside : ℕ
  pub pages : ChangesOnly (pages_of text
      ++ header_page ∷ slot_page slot.0 ∷ slot_page origin.0 ∷ before ∷ beside ∷ []) old new

-- all live slots hold what they held, and as many are live: only the free ones may be others
pub record KeepsAll (old new : Pages) : Type 0 where
  pub live : KeepsLive [] old new
  pub count : live_count new ≡ live_count old
  pub fields : KeepsFields old new
  pub arena : IsArena old → IsArena new

-- a slot holds a page without visits and items, with its texts in slots of their own
pub record HoldsBare (slot : Slot) (pages : Pages) : Type 0 where
  pub place : Place
  pub row : record_at slot.0 pages ≡ Some (place_row place)
  pub url : List ℕ
  pub url_slots : List ℕ
  pub url_begins : place.url.slot ≡ first_in url_slots
  pub url_held : Hold url_slots url pages
  pub title : List ℕ
  pub title_slots : List ℕ
  pub title_begins : place.title.slot ≡ first_in title_slots
  pub title_held : Hold title_slots title pages
  pub apart : (n : ℕ) → is_among n url_slots ≡ true → is_among n title_slots ≡ false
  pub of_origin : HasMember OriginPages (At place.origin) slot pages
  pub of_header : HasMember Live (Header kinds.Place) slot pages
  pub no_visit : Lists PageVisits (At slot) [] pages
  pub no_item : Lists References (At slot) [] pages

-- the slot of a page is free, and all others stand in their order
pub record FreesPlace (origin slot : Slot) (old new : Pages) : Type 0 where
  pub records : (n : ℕ) → record_at n new ≡ (if n == slot.0 then None else record_at n old)
  pub chains : (chains : ChainMap) (front back before behind : List Slot) → AreChains chains old
      → AreApart OriginPages chains → chains OriginPages (At origin) ≡ front ++ slot ∷ back
      → chains Live (Header kinds.Place) ≡ before ++ slot ∷ behind
      → AreChains (without_page_slot origin (front ++ back) (before ++ behind) chains) new
  pub alone : KeepsAlone old new
  pub count : live_count new + 1 ≡ live_count old
  pub body : KeepsBody old new
  pub longer : page_count old ≤ page_count new
  pub these : List ℕ
  pub pages : ChangesOnly these old new

-- the slots of a page and its texts are free, and all others stand in their order
pub record RemovesPlace (url title : List ℕ) (origin slot : Slot) (old new : Pages) : Type 0 where
  pub gone : (n : ℕ) → is_among n (slot.0 ∷ url ++ title) ≡ true → record_at n new ≡ None
  pub others : (n : ℕ) → is_among n (slot.0 ∷ url ++ title) ≡ false
      → record_at n new ≡ record_at n old
  pub chains : (chains : ChainMap) (front back before behind : List Slot) → AreChains chains old
      → AreApart OriginPages chains → chains OriginPages (At origin) ≡ front ++ slot ∷ back
      → chains Live (Header kinds.Place) ≡ before ++ slot ∷ behind
      → AreChains (without_page_slot origin (front ++ back) (before ++ behind) chains) new
  pub alone : KeepsAlone old new
  pub count : live_count new + 1 + length url + length title ≡ live_count old
  pub body : KeepsBody old new
  pub longer : page_count old ≤ page_count new
  pub these : List ℕ
  pub pages : ChangesOnly these old new

-- the header has these next ids, and so many more slots are live by it. All else is as it was
pub record CountsRow (next : Ids) (more : ℕ) (old new : Pages) : Type 0 where
  pub middle : Pages
  pub ids : SetsHeader (λ h. record h { ids = next }) old middle
  pub live : SetsHeader (λ h. record h { live = (header_of old).live + more }) middle new
  pub arena : IsArena new
  pub pages : ChangesOnly (header_page ∷ []) old new
  pub as_many : page_count new ≡ page_count old

-- so for a page, a visit and an item
abbrev pub CountsPage : ℕ → Pages → Pages → Type 0
CountsPage more old new =
    CountsRow (record (header_of old).ids { page = (header_of old).ids.page + 1 }) more old new

abbrev pub CountsVisit : Pages → Pages → Type 0
CountsVisit old new =
    CountsRow (record (header_of old).ids { visit = (header_of old).ids.visit + 1 }) 1 old new

abbrev pub CountsItem : ℕ → Pages → Pages → Type 0
CountsItem more old new =
    CountsRow (record (header_of old).ids { item = (header_of old).ids.item + 1 }) more old new

-- What was read are the rows of a store, each in the slot that its id gives.
use Rattle.std.proofs.Common.{◌≡◌, ◌∙◌, [], ℕ, List, Some, ap, length, map, refl, sym}
use Rattle.std.specs.List.{AllByRecursion, AllZip}
use Rattle.std.specs.Option.{option_and_then}
use Rattle.std.proofs.lemmas.Slice.Zip.{AllZip-long}
use Rattle.pl_base.specs.declared.id.ItemId.{ItemId}
use Rattle.pl_base.specs.declared.id.PageId.{PageId}
use Rattle.pl_base.specs.declared.id.Slot.{Slot}
use Rattle.pl_base.specs.declared.id.VisitId.{VisitId}
use Rattle.pl_base.specs.Good.{IsGood}
use Rattle.pl_base.specs.Rows.{Kept, KeptOrigin, KeptPage}
use Rattle.pl_base.specs.Store.{Item as TreeItem, Visit as StoreVisit}
use Rattle.pl_base.specs.Tree.{parent_of}
use Rattle.pl_base.proofs.ListLaws.{map-map, to_map}
use Rattle.pl_load.specs.Members.{parent_members}
use Rattle.pl_load.specs.Reads.{AreRead, AreReadFrom, Reads, item_at, place_at, stored_page, stored_rows, stored_visit}
use Rattle.pl_load.specs.Reads.{text_at, visit_at}
use Rattle.pl_load.proofs.FoundSlots.{names_found, own_said, said_found}
use Rattle.pl_load.proofs.Layouts.{AreParents, HasParts, HasTitle, IsRead, item_number, items_apart, itself, kept_of}
use Rattle.pl_load.proofs.Layouts.{kept_origin, kept_page, layout_of}
use Rattle.pl_load.proofs.Layouts.{page_number, pages_apart, visit_number, visits_apart}
use Rattle.pl_load.proofs.MetSlots.{item_kind, item_there, page_kind, place_there, visit_kind, visit_there}
use Rattle.pl_load.proofs.Zips.{all_made, beside_own, first_again, given_back, map_same, second_again, zip_alike}
use Rattle.pl_load.proofs.Zips.{zip_both, zip_paired, zip_second, zip_through, zip_weaker}
use Rattle.pl_owned.specs.Owned.{IsListed}
use Rattle.pl_reading.specs.Live.{HoldsItem, HoldsPlace, HoldsTotal, HoldsVisit}
use Rattle.pl_reading.specs.Read.{IsItemOf, IsItemRead, IsPageRead, IsText, IsVisitRead}
use Rattle.pl_reading.specs.Texts.{text_parts}
use Rattle.pl_reading.proofs.Parts.{parts_are}
use Rattle.pl_record.specs.declared.rows.Item.{Item}
use Rattle.pl_record.specs.declared.rows.Place.{Place}
use Rattle.pl_record.specs.declared.rows.TextAt.{TextAt}
use Rattle.pl_record.specs.declared.rows.Visit.{Visit}
use Rattle.pl_record.specs.Chains.{item_slots, page_slots, visit_slots}
use Rattle.pl_record.specs.Records.{Layout, slot_or_none}
use Rattle.pl_record.specs.Rows.{item_id, item_in, page_id, page_in, visit_id, visit_in}
use Rattle.pl_rail.specs.Rails.{none}
use Rattle.pl_sheets.specs.Sheets.{Pages}
use Rattle.pl_slot.specs.declared.links.Rail.TheVariants.{Children}
use Rattle.pl_slot.specs.Arena.{first_in}
use Rattle.pl_stored.specs.declared.stored.StoredPage.{StoredPage}
use Rattle.pl_stored.specs.declared.stored.StoredVisit.{StoredVisit}
use Rattle.pl_stored.specs.Stored.{stored_store, visit_of}

-- a text that is there, with the slots of its parts, is where its row says
text_is : (pages : Pages) (t : TextAt) (text ns : List ℕ) → IsText pages t text → ns ≡ text_parts pages t
    → text_at ns text ≡ t
text_is pages t text ns is parts =
    let these : ns ≡ is.held.slots =
    parts ∙ parts_are is.held.slots text t pages is.held.held is.held.first is.size in
    let slot : first_in ns ≡ t.slot = ap first_in these ∙ sym is.held.first in
    λ i. record { slot = slot i; length = is.size i }

-- ---- the children of items

module _ (pages : Pages) (reads : Reads) (from : AreReadFrom pages reads) where
  -- each item has a list of children
  lists_long : length reads.items ≡ length from.children
  lists_long =
      AllZip-long (HoldsItem pages) reads.item_slots reads.items from.items
      ∙ sym (AllZip-long (IsListed Children (parent_members reads.item_slots reads.items) pages) reads.item_slots
      from.children from.parents)

  -- and is read with the children that its list has
  pub items_read : AllZip (IsRead pages) reads.items reads.stored.items
  items_read = zip_paired (IsItemOf pages) reads.items from.children reads.stored.items lists_long from.stored_items

module _ (pages : Pages) (reads : Reads) (from : AreReadFrom pages reads)
    (good : IsGood (stored_store reads.stored)) where
  abbrev at : Layout
  at = layout_of pages reads

  abbrev kept : Kept
  kept = kept_of reads

  -- ---- the slots of pages

  abbrev PageIn : Slot → StoredPage → Type 0
  PageIn slot s = (p : Place) × HoldsPlace pages slot p × IsPageRead pages p s

  page_rows : AllZip PageIn reads.place_slots reads.stored.pages
  page_rows =
      zip_through (HoldsPlace pages) (IsPageRead pages) reads.place_slots reads.places reads.stored.pages from.places
      from.stored_pages

  page_own : AllZip (λ (slot : Slot) (s : StoredPage). at.page s.id ≡ slot) reads.place_slots reads.stored.pages
  page_own =
      beside_own PageIn page_number itself none reads.place_slots reads.stored.pages page_rows (pages_apart reads good)

  page_told : AllZip (λ (slot : Slot) (s : StoredPage). page_in pages slot ≡ Some s.id) reads.place_slots
      reads.stored.pages
  page_told =
      zip_weaker PageIn (λ (slot : Slot) (s : StoredPage). page_in pages slot ≡ Some s.id) reads.place_slots
      reads.stored.pages
      (λ slot s row. ap (option_and_then page_id) row.1 ∙ ap (λ (id : PageId). Some id) (sym row.2.id)) page_rows

  -- a slot that says the id of a page is the page's
  pub page_found : (slot : Slot) (id : PageId) → page_in pages slot ≡ Some id → at.page id ≡ slot
  page_found slot id says =
      said_found (page_in pages) (λ (s : StoredPage). s.id) at.page reads.place_slots reads.stored.pages page_told
      page_own slot id (place_there pages reads from slot (page_kind pages slot id says)) says

  -- the slot of each page says its id
  pub pages_said : AllByRecursion (λ (p : KeptPage). page_in pages (at.page p.page.id) ≡ Some p.page.id) kept.pages
  pages_said =
      all_made kept_page (λ (p : KeptPage). page_in pages (at.page p.page.id) ≡ Some p.page.id) reads.places
      reads.stored.pages
      (zip_second (IsPageRead pages) (λ (s : StoredPage). page_in pages (at.page s.id) ≡ Some s.id)
      (λ (p : Place) (s : StoredPage). page_in pages (at.page s.id) ≡ Some s.id) reads.places reads.stored.pages
      (λ p s read said. said) from.stored_pages
      (own_said (page_in pages) (λ (s : StoredPage). s.id) at.page reads.place_slots reads.stored.pages page_told
      page_own))

  pub place_slots_are : reads.place_slots ≡ page_slots at kept.pages
  place_slots_are =
      sym (second_again kept_page (λ (p : KeptPage). at.page p.page.id) (λ (s : StoredPage). at.page s.id) reads.places
      reads.stored.pages
      (zip_weaker (IsPageRead pages) (λ (p : Place) (s : StoredPage). at.page s.id ≡ at.page s.id) reads.places
      reads.stored.pages (λ p s read. refl) from.stored_pages)
      ∙ given_back (λ (s : StoredPage). at.page s.id) reads.place_slots reads.stored.pages page_own)

  -- ---- the rows of pages

  -- the texts of a page are in the parts that its row names
  pub url_own : AllZip (λ (p : Place) (s : StoredPage). at.url s.id ≡ text_parts pages p.url) reads.places
      reads.stored.pages
  url_own =
      beside_own (IsPageRead pages) page_number (λ (p : Place). text_parts pages p.url) [] reads.places
      reads.stored.pages from.stored_pages (pages_apart reads good)

  pub title_own : AllZip (λ (p : Place) (s : StoredPage). at.title s.id ≡ text_parts pages p.title) reads.places
      reads.stored.pages
  title_own =
      beside_own (IsPageRead pages) page_number (λ (p : Place). text_parts pages p.title) [] reads.places
      reads.stored.pages from.stored_pages (pages_apart reads good)

  pub parts_own : AllZip (HasParts pages reads) reads.places reads.stored.pages
  parts_own =
      zip_both (λ (p : Place) (s : StoredPage). at.url s.id ≡ text_parts pages p.url)
      (λ (p : Place) (s : StoredPage). at.title s.id ≡ text_parts pages p.title) (HasParts pages reads) reads.places
      reads.stored.pages (λ p s url title. (url, title)) url_own title_own

  same_place : (p : Place) (s : StoredPage) → IsPageRead pages p s → HasParts pages reads p s
      → place_at at (kept_page (p, s)) ≡ p
  same_place p s read parts =
      let url : text_at (at.url s.id) s.url ≡ p.url = text_is pages p.url s.url (at.url s.id) read.url parts.0 in
      let title : text_at (at.title s.id) s.title ≡ p.title =
      text_is pages p.title s.title (at.title s.id) read.title parts.1 in
      λ i.
      record {
        id = read.id i;
        mark =
            record {
              frecency = p.mark.frecency;
              count = p.mark.count;
              typed = read.typed i;
              hidden = p.mark.hidden;
            };
        origin = p.origin;
        url = url i;
        title = title i;
      }

  pub places_are : reads.places ≡ map (place_at at) kept.pages
  places_are =
      sym (first_again kept_page (place_at at) (λ (p : Place). p) reads.places reads.stored.pages
      (zip_both (IsPageRead pages) (HasParts pages reads)
      (λ (p : Place) (s : StoredPage). place_at at (kept_page (p, s)) ≡ p)
      reads.places reads.stored.pages same_place from.stored_pages parts_own)
      ∙ map_same reads.places)

  -- ---- the slots of visits

  abbrev VisitIn : Slot → StoredVisit → Type 0
  VisitIn slot s = (v : Visit) × HoldsVisit pages slot v × IsVisitRead pages v s

  visit_rows : AllZip VisitIn reads.visit_slots reads.stored.visits
  visit_rows =
      zip_through (HoldsVisit pages) (IsVisitRead pages) reads.visit_slots reads.visits reads.stored.visits from.visits
      from.stored_visits

  visit_own : AllZip (λ (slot : Slot) (s : StoredVisit). at.visit s.id ≡ slot) reads.visit_slots reads.stored.visits
  visit_own =
      beside_own VisitIn visit_number itself none reads.visit_slots reads.stored.visits visit_rows
      (visits_apart reads good)

  visit_told : AllZip (λ (slot : Slot) (s : StoredVisit). visit_in pages slot ≡ Some s.id) reads.visit_slots
      reads.stored.visits
  visit_told =
      zip_weaker VisitIn (λ (slot : Slot) (s : StoredVisit). visit_in pages slot ≡ Some s.id) reads.visit_slots
      reads.stored.visits
      (λ slot s row. ap (option_and_then visit_id) row.1 ∙ ap (λ (id : VisitId). Some id) (sym row.2.id)) visit_rows

  pub visit_found : (slot : Slot) (id : VisitId) → visit_in pages slot ≡ Some id → at.visit id ≡ slot
  visit_found slot id says =
      said_found (visit_in pages) (λ (s : StoredVisit). s.id) at.visit reads.visit_slots reads.stored.visits visit_told
      visit_own slot id (visit_there pages reads from slot (visit_kind pages slot id says)) says

  pub visits_said : AllByRecursion (λ (v : StoreVisit). visit_in pages (at.visit v.id) ≡ Some v.id) kept.visits
  visits_said =
      to_map (λ (v : StoreVisit). visit_in pages (at.visit v.id) ≡ Some v.id) visit_of reads.stored.visits
      (own_said (visit_in pages) (λ (s : StoredVisit). s.id) at.visit reads.visit_slots reads.stored.visits visit_told
      visit_own)

  pub visit_slots_are : reads.visit_slots ≡ visit_slots at kept.visits
  visit_slots_are =
      sym (map-map (λ (v : StoreVisit). at.visit v.id) visit_of reads.stored.visits
      ∙ given_back (λ (s : StoredVisit). at.visit s.id) reads.visit_slots reads.stored.visits visit_own)

  -- ---- the rows of visits

  same_visit : (v : Visit) (s : StoredVisit) → IsVisitRead pages v s → visit_at at (visit_of s) ≡ v
  same_visit v s read =
      let page : at.page s.page ≡ v.page = page_found v.page s.page read.page in
      let source : slot_or_none at.visit s.source ≡ v.source =
      names_found (visit_in pages) at.visit visit_found v.source s.source read.source in
      λ i.
      record {
        id = read.id i;
        transition = read.transition i;
        page = page i;
        source = source i;
        date = read.date i;
      }

  pub visits_are : reads.visits ≡ map (visit_at at) kept.visits
  visits_are =
      sym (map-map (visit_at at) visit_of reads.stored.visits
      ∙ given_back (λ (s : StoredVisit). visit_at at (visit_of s)) reads.visits reads.stored.visits
      (zip_weaker (IsVisitRead pages) (λ (v : Visit) (s : StoredVisit). visit_at at (visit_of s) ≡ v) reads.visits
      reads.stored.visits same_visit from.stored_visits))

  -- ---- the slots of items

  abbrev ItemIn : Slot → TreeItem → Type 0
  ItemIn slot s = (i : Item) × HoldsItem pages slot i × IsRead pages i s

  item_rows : AllZip ItemIn reads.item_slots reads.stored.items
  item_rows =
      zip_through (HoldsItem pages) (IsRead pages) reads.item_slots reads.items reads.stored.items from.items
      (items_read pages reads from)

  pub item_own : AllZip (λ (slot : Slot) (s : TreeItem). at.item s.id ≡ slot) reads.item_slots reads.stored.items
  item_own =
      beside_own ItemIn item_number itself none reads.item_slots reads.stored.items item_rows (items_apart reads good)

  item_told : AllZip (λ (slot : Slot) (s : TreeItem). item_in pages slot ≡ Some s.id) reads.item_slots
      reads.stored.items
  item_told =
      zip_weaker ItemIn (λ (slot : Slot) (s : TreeItem). item_in pages slot ≡ Some s.id) reads.item_slots
      reads.stored.items
      (λ slot s row. ap (option_and_then item_id) row.1 ∙ ap (λ (id : ItemId). Some id) (sym row.2.1.id)) item_rows

  pub item_found : (slot : Slot) (id : ItemId) → item_in pages slot ≡ Some id → at.item id ≡ slot
  item_found slot id says =
      said_found (item_in pages) (λ (s : TreeItem). s.id) at.item reads.item_slots reads.stored.items item_told
      item_own slot id (item_there pages reads from slot (item_kind pages slot id says)) says

  pub items_said : AllByRecursion (λ (i : TreeItem). item_in pages (at.item i.id) ≡ Some i.id) kept.items
  items_said =
      own_said (item_in pages) (λ (s : TreeItem). s.id) at.item reads.item_slots reads.stored.items item_told item_own

  pub item_slots_are : reads.item_slots ≡ item_slots at (map (λ (i : TreeItem). i.id) kept.items)
  item_slots_are =
      sym (map-map at.item (λ (i : TreeItem). i.id) reads.stored.items
      ∙ given_back (λ (i : TreeItem). at.item i.id) reads.item_slots reads.stored.items item_own)

  -- ---- the rows of items

  pub item_title_own : AllZip (λ (i : Item) (s : TreeItem). at.item_title s.id ≡ text_parts pages i.title) reads.items
      reads.stored.items
  item_title_own =
      beside_own (IsRead pages) item_number (λ (i : Item). text_parts pages i.title) [] reads.items reads.stored.items
      (items_read pages reads from) (items_apart reads good)

  abbrev HasParent : Item → TreeItem → Type 0
  HasParent i s = i.parent ≡ slot_or_none at.item (parent_of kept.items s.id)

  abbrev HasBoth : Item → TreeItem → Type 0
  HasBoth i s = HasParent i s × HasTitle pages reads i s

  same_item : (i : Item) (s : TreeItem) → IsRead pages i s → HasBoth i s → item_at at kept.items s ≡ i
  same_item i s row names =
      let read : IsItemRead pages i row.0 s = row.1 in
      let parent : slot_or_none at.item (parent_of kept.items s.id) ≡ i.parent = sym names.0 in
      let page : slot_or_none at.page s.page ≡ i.page =
      names_found (page_in pages) at.page page_found i.page s.page read.page in
      let title : text_at (at.item_title s.id) s.title ≡ i.title =
      text_is pages i.title s.title (at.item_title s.id) read.title names.1 in
      λ k.
      record {
        id = read.id k;
        kind = read.kind k;
        parent = parent k;
        page = page k;
        title = title k;
        added = read.added k;
        modified = read.modified k;
      }

  pub items_are : AreParents pages reads → reads.items ≡ map (item_at at kept.items) kept.items
  items_are parents =
      sym (given_back (item_at at kept.items) reads.items reads.stored.items
      (zip_both (IsRead pages) HasBoth (λ (i : Item) (s : TreeItem). item_at at kept.items s ≡ i) reads.items
      reads.stored.items same_item (items_read pages reads from)
      (zip_both HasParent (HasTitle pages reads) HasBoth reads.items reads.stored.items
      (λ i s parent title. (parent, title))
      (zip_alike (λ (i : Item). i.parent) (λ (s : TreeItem). slot_or_none at.item (parent_of kept.items s.id))
      reads.items reads.stored.items parents)
      item_title_own)))

  -- ---- origins and their totals

  pub origins_are : reads.origins ≡ map (λ (o : KeptOrigin). o.origin) kept.origins
  origins_are =
      sym (first_again kept_origin (λ (o : KeptOrigin). o.origin) itself reads.origins reads.totals
      (zip_weaker (HoldsTotal pages) (λ (s : Slot) (t : ℕ). s ≡ s) reads.origins reads.totals (λ s t holds. refl)
      from.totals)
      ∙ map_same reads.origins)

  pub totals_are : reads.totals ≡ map (λ (o : KeptOrigin). o.total) kept.origins
  totals_are =
      sym (second_again kept_origin (λ (o : KeptOrigin). o.total) (λ (t : ℕ). t) reads.origins reads.totals
      (zip_weaker (HoldsTotal pages) (λ (s : Slot) (t : ℕ). t ≡ t) reads.origins reads.totals (λ s t holds. refl)
      from.totals)
      ∙ map_same reads.totals)

  -- ---- the rows as a file has them

  same_stored : (p : Place) (s : StoredPage) → IsPageRead pages p s → stored_page (kept_page (p, s)) ≡ s
  same_stored p s read =
      let frecency : p.mark.frecency ≡ s.frecency = sym read.frecency in
      λ i. record { id = s.id; typed = s.typed; frecency = frecency i; url = s.url; title = s.title }

  pub stored_is : reads.stored ≡ stored_rows kept
  stored_is =
      let pages_same : reads.stored.pages ≡ map stored_page kept.pages =
      sym (second_again kept_page stored_page (λ (s : StoredPage). s) reads.places reads.stored.pages
      (zip_weaker (IsPageRead pages) (λ (p : Place) (s : StoredPage). stored_page (kept_page (p, s)) ≡ s) reads.places
      reads.stored.pages same_stored from.stored_pages)
      ∙ map_same reads.stored.pages) in
      let visits_same : reads.stored.visits ≡ map stored_visit kept.visits =
      sym (map-map stored_visit visit_of reads.stored.visits ∙ map_same reads.stored.visits) in
      λ i.
      record {
        day = reads.stored.day;
        ids = reads.stored.ids;
        pages = pages_same i;
        visits = visits_same i;
        items = reads.stored.items;
      }

  -- ---- all of them

  pub are_read : AreParents pages reads → AreRead at kept reads
  are_read parents =
      record {
        origins = origins_are;
        totals = totals_are;
        place_slots = place_slots_are;
        places = places_are;
        visit_slots = visit_slots_are;
        visits = visits_are;
        item_slots = item_slots_are;
        items = items_are parents;
        stored = stored_is;
      }

-- Pages that are the form of a store are read as its rows.
use Rattle.std.proofs.Common.{◌≡◌, ◌∙◌, ◌∷◌, ◌++◌, ◌<◌, [], All, List, None, Option, Some, append_assoc, eqb}
use Rattle.std.proofs.Common.{map, refl, subst, sym, true, ℕ}
use Rattle.std.proofs.lemmas.Grind.{flat_map-append}
use Rattle.std.proofs.lemmas.List.Elements.{All-from_recursion, recursion_from_All}
use Rattle.std.proofs.lemmas.Str.{IsUtf8-from_ascii}
use Rattle.std.specs.List.{AllByRecursion, AllZip, IsDistinct, flat_map, zip}
use Rattle.std.specs.Option.{IfSome}
use Rattle.std.specs.Prelude.{IsTrue}
use Rattle.pl_base.specs.declared.id.ItemId.{ItemId}
use Rattle.pl_base.specs.declared.id.PageId.{PageId}
use Rattle.pl_base.specs.declared.id.Slot.{Slot}
use Rattle.pl_base.specs.declared.id.VisitId.{VisitId}
use Rattle.pl_base.specs.Address.{is_store_url}
use Rattle.pl_base.specs.Date.{IsDate}
use Rattle.pl_base.specs.Good.{IsTitle}
use Rattle.pl_base.specs.Rows.{HasSource, Kept, KeptOrigin, KeptPage, has_page, has_visit}
use Rattle.pl_base.specs.Store.{Item as TreeItem, Visit as StoreVisit}
use Rattle.pl_base.specs.Tree.{has_item}
use Rattle.pl_base.proofs.Among.{In, all_from_in, at_in}
use Rattle.pl_base.proofs.ListLaws.{all_append, map-map, to_map}
use Rattle.pl_base.proofs.OriginLaws.{store_url_own}
use Rattle.pl_link.proofs.UrlTexts.{store_url_ascii}
use Rattle.pl_load.specs.Members.{parent_members}
use Rattle.pl_load.specs.Reads.{AreRead, AreReadFrom, Reads, item_at, met_slots, numbers, place_at, stored_page}
use Rattle.pl_load.specs.Reads.{stored_rows, stored_visit, text_at, visit_at}
use Rattle.pl_load.proofs.ListParts.{zip_made}
use Rattle.pl_load.proofs.Lists.{zip_maps}
use Rattle.pl_load.proofs.OneReads.{one_reads}
use Rattle.pl_owned.specs.Owned.{IsListed}
use Rattle.pl_reading.specs.Live.{HoldsItem, HoldsPlace, HoldsTotal, HoldsVisit}
use Rattle.pl_reading.specs.Read.{IsItemOf, IsItemRead, IsPageRead, IsText, IsVisitRead, Names}
use Rattle.pl_reading.specs.Texts.{IsHeld, page_texts, row_texts, text_parts}
use Rattle.pl_reading.proofs.Parts.{parts_are}
use Rattle.pl_record.specs.declared.rows.Item.{Item}
use Rattle.pl_record.specs.declared.rows.Place.{Place}
use Rattle.pl_record.specs.declared.rows.TextAt.{TextAt}
use Rattle.pl_record.specs.Chains.{item_slots, page_slots, visit_slots}
use Rattle.pl_record.specs.Form.{AreRows, IsLaid}
use Rattle.pl_record.specs.Records.{HoldsRow, Layout, item_record, origin_record, page_record, row_slots}
use Rattle.pl_record.specs.Records.{slot_or_none, text_slots, visit_record}
use Rattle.pl_record.specs.Rows.{item_in, page_in, visit_in}
use Rattle.pl_record.proofs.NamedSlots.{item_named, page_named, visit_named}
use Rattle.pl_sheets.specs.Sheets.{Pages}
use Rattle.pl_slot.specs.declared.links.Rail.TheVariants.{Children}
use Rattle.pl_slot.specs.Arena.{is_among}
use Rattle.pl_stored.specs.Fits.{IsUrl}
use Rattle.pl_text.specs.Chunks.{Hold}

-- ---- lists made of the same one

-- where the one on the right is the list itself
pub zipped_own : {X Y : Type 0} (R : Y → X → Type 0) (f : X → Y) (xs : List X)
    → AllByRecursion (λ x. R (f x) x) xs → AllZip R (map f xs) xs
zipped_own R f [] all = tt
zipped_own R f (x ∷ xs) all = (all.0, zipped_own R f xs all.1)

-- what holds of all holds of one among them
pub of_one : {X : Type 0} (P : X → Type 0) (xs : List X) (x : X) → All P xs → In x xs → P x
of_one P xs x all here = at_in P xs x (recursion_from_All P xs all) here

-- ---- texts of rows

page_texts_all : {X : Type 0} (P : TextAt → Type 0) (f : X → Place) (xs : List X)
    → AllByRecursion (λ x. P (f x).url × P (f x).title) xs → AllByRecursion P (flat_map page_texts (map f xs))
page_texts_all P f [] all = tt
page_texts_all P f (x ∷ xs) all = (all.0.0, (all.0.1, page_texts_all P f xs all.1))

page_parts : {X : Type 0} (parts : TextAt → List ℕ) (f : X → Place) (first second : X → List ℕ) (xs : List X)
    → AllByRecursion (λ x. (parts (f x).url ≡ first x) × (parts (f x).title ≡ second x)) xs
    → flat_map parts (flat_map page_texts (map f xs)) ≡ flat_map (λ x. first x ++ second x) xs
page_parts parts f first second [] all = refl
page_parts {X} parts f first second (x ∷ xs) all =
    let rest = page_parts parts f first second xs all.1 in
    (λ i. all.0.0 i ++ (all.0.1 i ++ rest i))
    ∙ sym (append_assoc (first x) (second x) (flat_map (λ (y : X). first y ++ second y) xs))

item_parts : {X : Type 0} (parts : TextAt → List ℕ) (f : X → Item) (title : X → List ℕ) (xs : List X)
    → AllByRecursion (λ x. parts (f x).title ≡ title x) xs
    → flat_map parts (map (λ (i : Item). i.title) (map f xs)) ≡ flat_map title xs
item_parts parts f title [] all = refl
item_parts parts f title (x ∷ xs) all =
    let rest = item_parts parts f title xs all.1 in
    λ i. all.0 i ++ rest i

-- ---- a text that its slots hold

text_held : (ns text : List ℕ) (pages : Pages) → Hold ns text pages → IsHeld pages (text_at ns text)
text_held ns text pages held = (text, record { slots = ns; first = refl; held = held }, refl)

text_there : (ns text : List ℕ) (pages : Pages) → Hold ns text pages → IsText pages (text_at ns text) text
text_there ns text pages held =
    record { held = record { slots = ns; first = refl; held = held }; size = refl }

parts_there : (ns text : List ℕ) (pages : Pages) → Hold ns text pages → text_parts pages (text_at ns text) ≡ ns
parts_there ns text pages held = parts_are ns text (text_at ns text) pages held refl refl

-- a URL of the store is one of a file
pub url_of_file : (url : List ℕ) → is_store_url url ≡ true → IsUrl url
url_of_file url own = (IsUtf8-from_ascii url (store_url_ascii url own), store_url_own url own)

-- ---- what is read

-- the slots of each item's children
abbrev pub child_slots : Layout → Kept → List (List Slot)
child_slots at kept = map (λ (i : TreeItem). item_slots at i.children) kept.items

-- the rows of a store in the slots of a layout, as they are read
abbrev pub reads_of : Layout → Kept → Reads
reads_of at kept =
    record {
      origins = map (λ (o : KeptOrigin). o.origin) kept.origins;
      totals = map (λ (o : KeptOrigin). o.total) kept.origins;
      place_slots = page_slots at kept.pages;
      places = map (place_at at) kept.pages;
      visit_slots = visit_slots at kept.visits;
      visits = map (visit_at at) kept.visits;
      item_slots = item_slots at (map (λ (i : TreeItem). i.id) kept.items);
      items = map (item_at at kept.items) kept.items;
      stored = stored_rows kept;
    }

pub are_read : (at : Layout) (kept : Kept) → AreRead at kept (reads_of at kept)
are_read at kept =
    record {
      origins = refl;
      totals = refl;
      place_slots = refl;
      places = refl;
      visit_slots = refl;
      visits = refl;
      item_slots = refl;
      items = refl;
      stored = refl;
    }

-- and nothing else that is read are these rows
pub reads_are : (at : Layout) (kept : Kept) (reads : Reads) → AreRead at kept reads → reads ≡ reads_of at kept
reads_are at kept reads are =
    λ i.
    record {
      origins = are.origins i;
      totals = are.totals i;
      place_slots = are.place_slots i;
      places = are.places i;
      visit_slots = are.visit_slots i;
      visits = are.visits i;
      item_slots = are.item_slots i;
      items = are.items i;
      stored = are.stored i;
    }

-- each item's owner of children has the list of those that name it
abbrev pub HaveParents : Layout → Kept → Pages → Type 0
HaveParents at kept pages =
    AllZip (IsListed Children (parent_members (reads_of at kept).item_slots (reads_of at kept).items) pages)
    (reads_of at kept).item_slots (child_slots at kept)

module _ (at : Layout) (kept : Kept) (targets : VisitId → List StoreVisit) (pages : Pages)
    (rows : AreRows kept targets) (laid : IsLaid at kept targets pages) where
  -- ---- rows in their slots

  totals_held : AllZip (HoldsTotal pages) (reads_of at kept).origins (reads_of at kept).totals
  totals_held =
      zip_made (HoldsTotal pages) (λ (o : KeptOrigin). o.origin) (λ (o : KeptOrigin). o.total) kept.origins
      (recursion_from_All (λ (o : KeptOrigin). HoldsRow (origin_record o) pages) kept.origins laid.rows.origins)

  places_held : AllZip (HoldsPlace pages) (reads_of at kept).place_slots (reads_of at kept).places
  places_held =
      zip_made (HoldsPlace pages) (λ (p : KeptPage). at.page p.page.id) (place_at at) kept.pages
      (recursion_from_All (λ (p : KeptPage). HoldsRow (page_record at p) pages) kept.pages laid.rows.places)

  visits_held : AllZip (HoldsVisit pages) (reads_of at kept).visit_slots (reads_of at kept).visits
  visits_held =
      zip_made (HoldsVisit pages) (λ (v : StoreVisit). at.visit v.id) (visit_at at) kept.visits
      (recursion_from_All (λ (v : StoreVisit). HoldsRow (visit_record at v) pages) kept.visits laid.rows.visits)

  items_held : AllZip (HoldsItem pages) (reads_of at kept).item_slots (reads_of at kept).items
  items_held =
      subst (λ (ss : List Slot). AllZip (HoldsItem pages) ss (map (item_at at kept.items) kept.items))
      (sym (map-map at.item (λ (i : TreeItem). i.id) kept.items))
      (zip_made (HoldsItem pages) (λ (i : TreeItem). at.item i.id) (item_at at kept.items) kept.items
      (recursion_from_All (λ (i : TreeItem). HoldsRow (item_record at kept.items i) pages) kept.items laid.rows.items))

  -- ---- texts

  url_held : (p : KeptPage) → In p kept.pages → Hold (at.url p.page.id) p.page.url pages
  url_held p here =
      of_one (λ (q : KeptPage). Hold (at.url q.page.id) q.page.url pages) kept.pages p laid.texts.urls here

  title_held : (p : KeptPage) → In p kept.pages → Hold (at.title p.page.id) p.page.title pages
  title_held p here =
      of_one (λ (q : KeptPage). Hold (at.title q.page.id) q.page.title pages) kept.pages p laid.texts.titles here

  item_title_held : (i : TreeItem) → In i kept.items → Hold (at.item_title i.id) i.title pages
  item_title_held i here =
      of_one (λ (j : TreeItem). Hold (at.item_title j.id) j.title pages) kept.items i laid.texts.item_titles here

  texts_held : All (IsHeld pages) (row_texts (reads_of at kept).places (reads_of at kept).items)
  texts_held =
      All-from_recursion (IsHeld pages) (row_texts (reads_of at kept).places (reads_of at kept).items)
      (all_append (IsHeld pages) (flat_map page_texts (map (place_at at) kept.pages))
      (map (λ (i : Item). i.title) (map (item_at at kept.items) kept.items))
      (page_texts_all (IsHeld pages) (place_at at) kept.pages
      (all_from_in (λ (p : KeptPage). IsHeld pages (place_at at p).url × IsHeld pages (place_at at p).title) kept.pages
      (λ p here. (
        text_held (at.url p.page.id) p.page.url pages (url_held p here),
        text_held (at.title p.page.id) p.page.title pages (title_held p here),
      ))))
      (to_map (IsHeld pages) (λ (i : Item). i.title) (map (item_at at kept.items) kept.items)
      (to_map (λ (i : Item). IsHeld pages i.title) (item_at at kept.items) kept.items
      (all_from_in (λ (i : TreeItem). IsHeld pages (item_at at kept.items i).title) kept.items
      (λ i here. text_held (at.item_title i.id) i.title pages (item_title_held i here))))))

  -- ---- slots

  -- the slots of texts are those along their parts
  parts_met : flat_map (text_parts pages) (row_texts (reads_of at kept).places (reads_of at kept).items)
      ≡ text_slots at kept
  parts_met =
      flat_map-append (text_parts pages) (flat_map page_texts (map (place_at at) kept.pages))
      (map (λ (i : Item). i.title) (map (item_at at kept.items) kept.items))
      ∙ (λ i. of_pages i ++ of_items i)
    where
      of_pages : flat_map (text_parts pages) (flat_map page_texts (map (place_at at) kept.pages))
          ≡ flat_map (λ (p : KeptPage). at.url p.page.id ++ at.title p.page.id) kept.pages
      of_pages =
          page_parts (text_parts pages) (place_at at) (λ (p : KeptPage). at.url p.page.id)
          (λ (p : KeptPage). at.title p.page.id) kept.pages
          (all_from_in (λ (p : KeptPage). (text_parts pages (place_at at p).url ≡ at.url p.page.id)
          × (text_parts pages (place_at at p).title ≡ at.title p.page.id)) kept.pages
          (λ p here. (
            parts_there (at.url p.page.id) p.page.url pages (url_held p here),
            parts_there (at.title p.page.id) p.page.title pages (title_held p here),
          )))

      of_items : flat_map (text_parts pages) (map (λ (i : Item). i.title) (map (item_at at kept.items) kept.items))
          ≡ flat_map (λ (i : TreeItem). at.item_title i.id) kept.items
      of_items =
          item_parts (text_parts pages) (item_at at kept.items) (λ (i : TreeItem). at.item_title i.id) kept.items
          (all_from_in (λ (i : TreeItem). text_parts pages (item_at at kept.items i).title ≡ at.item_title i.id)
          kept.items (λ i here. parts_there (at.item_title i.id) i.title pages (item_title_held i here)))

  -- all that is met is what the layout has
  pub slots_met : met_slots pages (reads_of at kept) ≡ row_slots at kept ++ text_slots at kept
  slots_met =
      let of_origins : numbers (reads_of at kept).origins ≡ map (λ (o : KeptOrigin). o.origin.0) kept.origins =
      map-map (λ (s : Slot). s.0) (λ (o : KeptOrigin). o.origin) kept.origins in
      let of_places : numbers (reads_of at kept).place_slots
      ≡ map (λ (p : KeptPage). (at.page p.page.id).0) kept.pages =
      map-map (λ (s : Slot). s.0) (λ (p : KeptPage). at.page p.page.id) kept.pages in
      let of_visits : numbers (reads_of at kept).visit_slots
      ≡ map (λ (v : StoreVisit). (at.visit v.id).0) kept.visits =
      map-map (λ (s : Slot). s.0) (λ (v : StoreVisit). at.visit v.id) kept.visits in
      let of_items : numbers (reads_of at kept).item_slots ≡ map (λ (i : TreeItem). (at.item i.id).0) kept.items =
      map-map (λ (s : Slot). s.0) at.item (map (λ (i : TreeItem). i.id) kept.items)
      ∙ map-map (λ (c : ItemId). (at.item c).0) (λ (i : TreeItem). i.id) kept.items in
      λ i. of_origins i ++ of_places i ++ of_visits i ++ of_items i ++ parts_met i

  -- ---- rows with their texts and ids

  page_read : (p : KeptPage) → In p kept.pages → IsPageRead pages (place_at at p) (stored_page p)
  page_read p here =
      record {
        id = refl;
        typed = refl;
        frecency = refl;
        url = text_there (at.url p.page.id) p.page.url pages (url_held p here);
        title = text_there (at.title p.page.id) p.page.title pages (title_held p here);
        is_url =
            url_of_file p.page.url
            (of_one (λ (q : KeptPage). IsTrue (is_store_url q.page.url)) kept.pages p rows.well.urls here);
        is_title = of_one (λ (q : KeptPage). IsTitle q.page.title) kept.pages p rows.well.titles here;
      }

  source_named : (v : StoreVisit) (s : Option VisitId) → IfSome s (λ id. (id.0 < v.id.0) × IsTrue (has_visit kept id))
      → Names (visit_in pages) (slot_or_none at.visit s) s
  source_named v None has = refl
  source_named v (Some id) has = visit_named at kept pages laid.rows id has.1

  visit_read : (v : StoreVisit) → In v kept.visits → IsVisitRead pages (visit_at at v) (stored_visit v)
  visit_read v here =
      record {
        id = refl;
        page =
            page_named at kept pages laid.rows v.page
            (of_one (λ (w : StoreVisit). IsDate w.date × IsTrue (has_page kept w.page)) kept.visits v rows.well.visits
            here).1;
        date = refl;
        transition = refl;
        source = source_named v v.source (of_one (HasSource kept) kept.visits v rows.well.sources here);
      }

  own_named : (own : Option PageId) → IfSome own (λ id. has_page kept id ≡ true)
      → Names (page_in pages) (slot_or_none at.page own) own
  own_named None has = refl
  own_named (Some id) has = page_named at kept pages laid.rows id has

  children_named : (cs : List ItemId) → AllByRecursion (λ c. has_item kept.items c ≡ true) cs
      → map (item_in pages) (item_slots at cs) ≡ map Some cs
  children_named [] all = refl
  children_named (c ∷ cs) all =
      let head = item_named at kept pages laid.rows c all.0 in
      let rest = children_named cs all.1 in
      λ i. head i ∷ rest i

  item_read : (i : TreeItem) → In i kept.items
      → IsItemRead pages (item_at at kept.items i) (item_slots at i.children) i
  item_read i here =
      record {
        id = refl;
        kind = refl;
        title = text_there (at.item_title i.id) i.title pages (item_title_held i here);
        is_title = of_one (λ (j : TreeItem). IsTitle j.title) kept.items i rows.titles here;
        page =
            own_named i.page
            (of_one (λ (j : TreeItem). IfSome j.page (λ id. has_page kept id ≡ true)) kept.items i rows.own here);
        added = refl;
        modified = refl;
        children =
            children_named i.children
            (recursion_from_All (λ (c : ItemId). has_item kept.items c ≡ true) i.children
            (of_one (λ (j : TreeItem). All (λ c. has_item kept.items c ≡ true) j.children) kept.items i rows.children
            here));
      }

  items_read : AllZip (IsItemOf pages) (zip (reads_of at kept).items (child_slots at kept)) kept.items
  items_read =
      subst (λ (rs : List (Item × List Slot)). AllZip (IsItemOf pages) rs kept.items)
      (sym (zip_maps (item_at at kept.items) (λ (i : TreeItem). item_slots at i.children) kept.items))
      (zipped_own (IsItemOf pages) (λ (i : TreeItem). (item_at at kept.items i, item_slots at i.children)) kept.items
      (all_from_in (λ (i : TreeItem). IsItemOf pages (item_at at kept.items i, item_slots at i.children) i) kept.items
      item_read))

  -- ---- all of it

  pub form_reads : HaveParents at kept pages → AreReadFrom pages (reads_of at kept)
  form_reads parents =
      record {
        listed =
            record {
              origins = laid.live.origins;
              places = laid.live.places;
              visits = laid.live.visits;
              items = laid.live.items;
            };
        totals = totals_held;
        places = places_held;
        visits = visits_held;
        items = items_held;
        texts = texts_held;
        once = subst (λ (ns : List ℕ). IsDistinct eqb ns) (sym slots_met) laid.slots.once;
        whole =
            λ n live.
            subst (λ (ns : List ℕ). is_among n ns ≡ true) (sym slots_met) (laid.slots.whole n live);
        day = sym laid.header.day;
        ids = sym laid.header.ids;
        stored_pages =
            zip_made (IsPageRead pages) (place_at at) stored_page kept.pages
            (all_from_in (λ (p : KeptPage). IsPageRead pages (place_at at p) (stored_page p)) kept.pages page_read);
        stored_visits =
            zip_made (IsVisitRead pages) (visit_at at) stored_visit kept.visits
            (all_from_in (λ (v : StoreVisit). IsVisitRead pages (visit_at at v) (stored_visit v)) kept.visits
            visit_read);
        children = child_slots at kept;
        parents = parents;
        stored_items = items_read;
      }

  -- so what is read from them are these rows
  pub form_read : HaveParents at kept pages → (reads : Reads) → AreReadFrom pages reads → AreRead at kept reads
  form_read parents reads read =
      subst (AreRead at kept) (one_reads pages (reads_of at kept) reads (form_reads parents) read) (are_read at kept)

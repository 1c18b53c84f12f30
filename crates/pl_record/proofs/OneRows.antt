-- That pages hold the rows of one store at most.
use Rattle.std.proofs.Common.{◌≡◌, ◌≢◌, ◌∙◌, ◌<◌, List, Option, Some, None, ap}
use Rattle.std.proofs.Common.{length, map, refl, subst, sym, true}
use Rattle.std.specs.List.{All, AllByRecursion}
use Rattle.std.specs.Prelude.{IsTrue}
use Rattle.std.specs.Option.{IfSome, option_and_then, option_map}
use Rattle.std.proofs.lemmas.List.Elements.{recursion_from_All}
use Rattle.pl_base.specs.declared.id.ItemId.{ItemId}
use Rattle.pl_base.specs.declared.id.PageId.{PageId}
use Rattle.pl_base.specs.declared.id.Slot.{Slot}
use Rattle.pl_base.specs.declared.id.VisitId.{VisitId}
use Rattle.pl_base.specs.Rows.{HasSource, Kept, KeptOrigin, KeptPage, has_page, has_visit}
use Rattle.pl_base.specs.Date.{IsDate}
use Rattle.pl_base.specs.Store.{Item, Visit}
use Rattle.pl_base.specs.Tree.{has_item}
use Rattle.pl_base.proofs.ListLaws.{map-map}
use Rattle.pl_base.proofs.LookUps.{both}
use Rattle.pl_record.specs.Chains.{item_slots, page_slots, visit_slots}
use Rattle.pl_record.specs.Form.{AreRows, IsLaid}
use Rattle.pl_record.specs.Records.{HoldsRow, Layout, item_record, origin_record, page_record}
use Rattle.pl_record.specs.Records.{slot_or_none, unlinked}
use Rattle.pl_record.specs.Records.{visit_record}
use Rattle.pl_record.specs.Rows.{item_id, page_id, visit_id}
use Rattle.pl_record.proofs.NamedSlots.{item_named, matched, one_row, page_named}
use Rattle.pl_record.proofs.NamedSlots.{visit_named}
use Rattle.pl_rail.specs.declared.owner.Owner.TheVariants.{Header, At}
use Rattle.pl_rail.specs.Rails.{Lists, none}
use Rattle.pl_rail.proofs.ListLaws.{one_list}
use Rattle.pl_sheets.specs.Sheets.{Pages}
use Rattle.pl_slot.specs.declared.kind.LiveKind.TheVariants as kinds
use Rattle.pl_slot.specs.declared.links.Rail.TheVariants.{Live}
use Rattle.pl_slot.specs.declared.links.Rail.TheVariants.{Children}
use Rattle.pl_slot.specs.declared.row.SlotRow.{SlotRow}
use Rattle.pl_slot.specs.declared.row.SlotRow.TheVariants as rows
use Rattle.pl_slot.specs.Arena.{first_in, row_at}
use Rattle.pl_slot.proofs.SlotPlaces.{no_slot}
use Rattle.pl_text.specs.Chunks.{Hold}
use Rattle.pl_text.proofs.HeldTexts.{one_text}

-- the source of a visit, if it has one, is there
abbrev SourceThere : Kept → Option VisitId → Type 0
SourceThere kept None = Unit {0}
SourceThere kept (Some id) = has_visit kept id ≡ true

-- the page of an item
abbrev PageThere : Kept → Option PageId → Type 0
PageThere kept None = Unit {0}
PageThere kept (Some id) = has_page kept id ≡ true

-- the children of an item are there, and in its chain
abbrev Known : Kept → Item → Type 0
Known k i = All (λ c. has_item k.items c ≡ true) i.children

abbrev Linked : Layout → Pages → Item → Type 0
Linked lt pages i = Lists Children (At (lt.item i.id)) (item_slots lt i.children) pages

-- a slot that says something is one
slot_there : {X : Type 0} (says : SlotRow → Option X) (slot : Slot) (x : X) (pages : Pages)
    → option_and_then says (option_map unlinked (row_at slot.0 pages)) ≡ Some x → none ≢ slot
slot_there says slot x pages said zero =
    let nothing : None ≡ Some x =
    sym (ap (λ r. option_and_then says (option_map unlinked r)) (no_slot 0 pages refl))
    ∙ ap (λ (s : Slot). option_and_then says (option_map unlinked (row_at s.0 pages))) zero
    ∙ said in
    absurd (cc)

module _ (at bt : Layout) (kept other : Kept) (targets others : VisitId → List Visit)
    (pages : Pages)
    (mine : AreRows kept targets) (its : AreRows other others) (a : IsLaid at kept targets pages)
    (b : IsLaid bt other others pages) where
  -- ---- ids

  one_page : (id ie : PageId) → has_page kept id ≡ true → has_page other ie ≡ true → at.page id
      ≡ bt.page ie
      → id ≡ ie
  one_page id ie first second same =
      let is : Some id ≡ Some ie =
      sym (page_named at kept pages a.rows id first)
      ∙ ap (λ (s : Slot). option_and_then page_id (option_map unlinked (row_at s.0 pages))) same
      ∙ page_named bt other pages b.rows ie second in
      cc

  pub one_visit : (id ie : VisitId) → has_visit kept id ≡ true → has_visit other ie ≡ true → at.visit id
      ≡ bt.visit ie
      → id ≡ ie
  one_visit id ie first second same =
      let is : Some id ≡ Some ie =
      sym (visit_named at kept pages a.rows id first)
      ∙ ap (λ (s : Slot). option_and_then visit_id (option_map unlinked (row_at s.0 pages))) same
      ∙ visit_named bt other pages b.rows ie second in
      cc

  one_item : (id ie : ItemId) → has_item kept.items id ≡ true → has_item other.items ie ≡ true
      → at.item id ≡ bt.item ie → id ≡ ie
  one_item id ie first second same =
      let is : Some id ≡ Some ie =
      sym (item_named at kept pages a.rows id first)
      ∙ ap (λ (s : Slot). option_and_then item_id (option_map unlinked (row_at s.0 pages))) same
      ∙ item_named bt other pages b.rows ie second in
      cc

  one_source : (s t : Option VisitId) → SourceThere kept s → SourceThere other t
      → slot_or_none at.visit s ≡ slot_or_none bt.visit t → s ≡ t
  one_source None None first second same = refl
  one_source None (Some ie) first second same =
      absurd (slot_there visit_id (bt.visit ie) ie pages
      (visit_named bt other pages b.rows ie second) same)
  one_source (Some id) None first second same =
      absurd (slot_there visit_id (at.visit id) id pages (visit_named at kept pages a.rows id first)
      (sym same))
  one_source (Some id) (Some ie) first second same =
      ap (λ (i : VisitId). Some i) (one_visit id ie first second same)

  one_own : (s t : Option PageId) → PageThere kept s → PageThere other t
      → slot_or_none at.page s ≡ slot_or_none bt.page t → s ≡ t
  one_own None None first second same = refl
  one_own None (Some ie) first second same =
      absurd (slot_there page_id (bt.page ie) ie pages (page_named bt other pages b.rows ie second)
      same)
  one_own (Some id) None first second same =
      absurd (slot_there page_id (at.page id) id pages (page_named at kept pages a.rows id first)
      (sym same))
  one_own (Some id) (Some ie) first second same =
      ap (λ (i : PageId). Some i) (one_page id ie first second same)

  -- ---- rows

  same_origin_row : (o p : KeptOrigin) → HoldsRow (origin_record o) pages
      → HoldsRow (origin_record p) pages
      → o.origin ≡ p.origin → o ≡ p
  same_origin_row o p first second same =
      let row : rows.Origin none none none none o.total ≡ rows.Origin none none none none p.total =
      one_row (origin_record o) (origin_record p) pages first second same in
      let total : o.total ≡ p.total = cc in
      λ i. record { origin = same i; total = total i }

  -- a page with its texts
  pub record IsPage (lt : Layout) (p : KeptPage) : Type 0 where
    pub row : HoldsRow (page_record lt p) pages
    pub url : Hold (lt.url p.page.id) p.page.url pages
    pub title : Hold (lt.title p.page.id) p.page.title pages

  same_page_row : (p q : KeptPage) → IsPage at p → IsPage bt q → at.page p.page.id
      ≡ bt.page q.page.id → p ≡ q
  same_page_row p q first second same =
      let row : (page_record at p).row ≡ (page_record bt q).row =
      one_row (page_record at p) (page_record bt q) pages first.row second.row same in
      let id : p.page.id ≡ q.page.id = cc in
      let typed : p.page.typed ≡ q.page.typed = cc in
      let hidden : p.hidden ≡ q.hidden = cc in
      let origin : p.origin ≡ q.origin = cc in
      let frecency : p.frecency ≡ q.frecency = cc in
      let count : p.count ≡ q.count = cc in
      let url_slot : first_in (at.url p.page.id) ≡ first_in (bt.url q.page.id) = cc in
      let url_length : length p.page.url ≡ length q.page.url = cc in
      let title_slot : first_in (at.title p.page.id) ≡ first_in (bt.title q.page.id) = cc in
      let title_length : length p.page.title ≡ length q.page.title = cc in
      let url : p.page.url ≡ q.page.url =
      (one_text (at.url p.page.id) (bt.url q.page.id) p.page.url q.page.url pages first.url
      second.url url_slot).texts in
      let title : p.page.title ≡ q.page.title =
      (one_text (at.title p.page.id) (bt.title q.page.id) p.page.title q.page.title pages
      first.title second.title
      title_slot).texts in
      λ i.
      record {
        page = record { id = id i; url = url i; title = title i; typed = typed i };
        origin = origin i;
        frecency = frecency i;
        count = count i;
        hidden = hidden i;
      }

  pages_hold : (lt : Layout) (k : Kept) (ts : VisitId → List Visit) → IsLaid lt k ts pages
      → AllByRecursion (IsPage lt) k.pages
  pages_hold lt k ts laid =
      both (λ (p : KeptPage). HoldsRow (page_record lt p) pages)
      (λ (p : KeptPage). Hold (lt.url p.page.id) p.page.url pages
      × Hold (lt.title p.page.id) p.page.title pages)
      (IsPage lt) k.pages (λ p row texts. record { row = row; url = texts.0; title = texts.1 })
      (recursion_from_All (λ (p : KeptPage). HoldsRow (page_record lt p) pages) k.pages
      laid.rows.places)
      (both (λ (p : KeptPage). Hold (lt.url p.page.id) p.page.url pages)
      (λ (p : KeptPage). Hold (lt.title p.page.id) p.page.title pages)
      (λ (p : KeptPage). Hold (lt.url p.page.id) p.page.url pages
      × Hold (lt.title p.page.id) p.page.title pages) k.pages
      (λ p url title. (url, title))
      (recursion_from_All (λ (p : KeptPage). Hold (lt.url p.page.id) p.page.url pages) k.pages
      laid.texts.urls)
      (recursion_from_All (λ (p : KeptPage). Hold (lt.title p.page.id) p.page.title pages) k.pages
      laid.texts.titles))

  same_pages : kept.pages ≡ other.pages
  same_pages =
      matched (IsPage at) (IsPage bt) (λ (p : KeptPage). at.page p.page.id)
      (λ (p : KeptPage). bt.page p.page.id)
      kept.pages other.pages (pages_hold at kept targets a) (pages_hold bt other others b)
      same_page_row
      (one_list Live (Header kinds.Place) (page_slots at kept.pages) (page_slots bt other.pages)
      pages a.live.places
      b.live.places)

  same_origins : kept.origins ≡ other.origins
  same_origins =
      matched (λ (o : KeptOrigin). HoldsRow (origin_record o) pages)
      (λ (o : KeptOrigin). HoldsRow (origin_record o) pages)
      (λ (o : KeptOrigin). o.origin) (λ (o : KeptOrigin). o.origin) kept.origins other.origins
      (recursion_from_All (λ (o : KeptOrigin). HoldsRow (origin_record o) pages) kept.origins
      a.rows.origins)
      (recursion_from_All (λ (o : KeptOrigin). HoldsRow (origin_record o) pages) other.origins
      b.rows.origins)
      same_origin_row
      (one_list Live (Header kinds.Origin) (map (λ (o : KeptOrigin). o.origin) kept.origins)
      (map (λ (o : KeptOrigin). o.origin) other.origins) pages a.live.origins b.live.origins)

  -- a visit whose page and source are there
  pub record IsVisit (lt : Layout) (k : Kept) (v : Visit) : Type 0 where
    pub row : HoldsRow (visit_record lt v) pages
    pub page : has_page k v.page ≡ true
    pub source : SourceThere k v.source

  same_visit_row : (v w : Visit) → IsVisit at kept v → IsVisit bt other w → at.visit v.id
      ≡ bt.visit w.id → v ≡ w
  same_visit_row v w first second same =
      let row : (visit_record at v).row ≡ (visit_record bt w).row =
      one_row (visit_record at v) (visit_record bt w) pages first.row second.row same in
      let id : v.id ≡ w.id = cc in
      let transition : v.transition ≡ w.transition = cc in
      let date : v.date ≡ w.date = cc in
      let page_slot : at.page v.page ≡ bt.page w.page = cc in
      let source_slot : slot_or_none at.visit v.source ≡ slot_or_none bt.visit w.source = cc in
      let page : v.page ≡ w.page = one_page v.page w.page first.page second.page page_slot in
      let source : v.source
      ≡ w.source = one_source v.source w.source first.source second.source source_slot in
      λ i. record {
        id = id i;
        page = page i;
        date = date i;
        transition = transition i;
        source =
            source i;
      }

  visits_hold : (lt : Layout) (k : Kept) (ts : VisitId → List Visit) → AreRows k ts
      → IsLaid lt k ts pages
      → AllByRecursion (IsVisit lt k) k.visits
  visits_hold lt k ts rows laid =
      both (λ (v : Visit). HoldsRow (visit_record lt v) pages)
      (λ (v : Visit). (has_page k v.page ≡ true) × SourceThere k v.source) (IsVisit lt k) k.visits
      (λ v row there. record { row = row; page = there.0; source = there.1 })
      (recursion_from_All (λ (v : Visit). HoldsRow (visit_record lt v) pages) k.visits
      laid.rows.visits)
      (both (λ (v : Visit). IsDate v.date × IsTrue (has_page k v.page)) (HasSource k)
      (λ (v : Visit). (has_page k v.page ≡ true) × SourceThere k v.source) k.visits
      (λ v is source. (is.1, source_there v v.source source))
      (recursion_from_All (λ (v : Visit). IsDate v.date × IsTrue (has_page k v.page)) k.visits
      rows.well.visits)
      (recursion_from_All (HasSource k) k.visits rows.well.sources))
    where
      source_there : (v : Visit) (s : Option VisitId)
          → IfSome s (λ id. (id.0 < v.id.0) × IsTrue (has_visit k id))
          → SourceThere k s
      source_there v None source = tt
      source_there v (Some id) source = source.1

  same_visits : kept.visits ≡ other.visits
  same_visits =
      matched (IsVisit at kept) (IsVisit bt other) (λ (v : Visit). at.visit v.id)
      (λ (v : Visit). bt.visit v.id)
      kept.visits other.visits (visits_hold at kept targets mine a)
      (visits_hold bt other others its b) same_visit_row
      (one_list Live (Header kinds.Visit) (visit_slots at kept.visits) (visit_slots bt other.visits)
      pages a.live.visits
      b.live.visits)

  -- an item with its title, its page, if it has one, and its children
  pub record IsItem (lt : Layout) (k : Kept) (i : Item) : Type 0 where
    pub row : HoldsRow (item_record lt k.items i) pages
    pub title : Hold (lt.item_title i.id) i.title pages
    pub page : PageThere k i.page
    pub known : AllByRecursion (λ (c : ItemId). has_item k.items c ≡ true) i.children
    pub chain : Lists Children (At (lt.item i.id)) (item_slots lt i.children) pages

  same_item_row : (i j : Item) → IsItem at kept i → IsItem bt other j → at.item i.id ≡ bt.item j.id
      → i ≡ j
  same_item_row i j first second same =
      let row : (item_record at kept.items i).row ≡ (item_record bt other.items j).row =
      one_row (item_record at kept.items i) (item_record bt other.items j) pages first.row
      second.row same in
      let id : i.id ≡ j.id = cc in
      let kind : i.kind ≡ j.kind = cc in
      let added : i.added ≡ j.added = cc in
      let modified : i.modified ≡ j.modified = cc in
      let page_slot : slot_or_none at.page i.page ≡ slot_or_none bt.page j.page = cc in
      let title_slot : first_in (at.item_title i.id) ≡ first_in (bt.item_title j.id) = cc in
      let page : i.page ≡ j.page = one_own i.page j.page first.page second.page page_slot in
      let title : i.title ≡ j.title =
      (one_text (at.item_title i.id) (bt.item_title j.id) i.title j.title pages first.title
      second.title
      title_slot).texts in
      let here : Lists Children (At (at.item i.id)) (item_slots bt j.children) pages =
      subst (λ (s : Slot). Lists Children (At s) (item_slots bt j.children) pages) (sym same)
      second.chain in
      let children : i.children ≡ j.children =
      matched (λ (c : ItemId). has_item kept.items c ≡ true) (λ (c : ItemId). has_item other.items c
      ≡ true) at.item
      bt.item i.children j.children first.known second.known one_item
      (one_list Children (At (at.item i.id)) (item_slots at i.children) (item_slots bt j.children)
      pages first.chain here)
      in
      λ k.
      record {
        id = id k;
        kind = kind k;
        title = title k;
        page = page k;
        added = added k;
        modified = modified k;
        children = children k;
      }

  items_hold : (lt : Layout) (k : Kept) (ts : VisitId → List Visit) → AreRows k ts
      → IsLaid lt k ts pages
      → AllByRecursion (IsItem lt k) k.items
  items_hold lt k ts rows laid =
      both (λ (i : Item). HoldsRow (item_record lt k.items i) pages
      × Hold (lt.item_title i.id) i.title pages)
      (λ (i : Item). IfSome i.page (λ id. has_page k id ≡ true) × (Known k) i × (Linked lt pages) i)
      (IsItem lt k) k.items
      (λ i first second.
      record {
        row = first.0;
        title = first.1;
        page = page_there i.page second.0;
        known = recursion_from_All (λ (c : ItemId). has_item k.items c ≡ true) i.children second.1;
        chain = second.2;
      })
      (both (λ (i : Item). HoldsRow (item_record lt k.items i) pages)
      (λ (i : Item). Hold (lt.item_title i.id) i.title pages)
      (λ (i : Item). HoldsRow (item_record lt k.items i) pages
      × Hold (lt.item_title i.id) i.title pages) k.items
      (λ i row title. (row, title))
      (recursion_from_All (λ (i : Item). HoldsRow (item_record lt k.items i) pages) k.items
      laid.rows.items)
      (recursion_from_All (λ (i : Item). Hold (lt.item_title i.id) i.title pages) k.items
      laid.texts.item_titles))
      (both (λ (i : Item). IfSome i.page (λ id. has_page k id ≡ true)) (λ (i : Item). (Known k) i
      × (Linked lt pages) i)
      (λ (i : Item). IfSome i.page (λ id. has_page k id ≡ true) × (Known k) i × (Linked lt pages) i)
      k.items
      (λ i own both. (own, both.0, both.1))
      (recursion_from_All (λ (i : Item). IfSome i.page (λ id. has_page k id ≡ true)) k.items
      rows.own)
      (both (Known k) (Linked lt pages) (λ (i : Item). (Known k) i × (Linked lt pages) i) k.items
      (λ i known linked. (known, linked))
      (recursion_from_All (Known k) k.items rows.children)
      (recursion_from_All (Linked lt pages) k.items laid.chains.children)))
    where
      page_there : (s : Option PageId) → IfSome s (λ id. has_page k id ≡ true) → PageThere k s
      page_there None there = tt
      page_there (Some id) there = there

  same_items : kept.items ≡ other.items
  same_items =
      matched (IsItem at kept) (IsItem bt other) (λ (i : Item). at.item i.id)
      (λ (i : Item). bt.item i.id) kept.items
      other.items (items_hold at kept targets mine a) (items_hold bt other others its b)
      same_item_row (slots
      (one_list Live (Header kinds.Item) (item_slots at (map (λ (i : Item). i.id) kept.items))
      (item_slots bt (map (λ (i : Item). i.id) other.items)) pages a.live.items b.live.items))
    where
      slots : item_slots at (map (λ (i : Item). i.id) kept.items)
          ≡ item_slots bt (map (λ (i : Item). i.id) other.items)
          → map (λ (i : Item). at.item i.id) kept.items
          ≡ map (λ (i : Item). bt.item i.id) other.items
      slots same =
          sym (map-map at.item (λ (i : Item). i.id) kept.items) ∙ same
          ∙ map-map bt.item (λ (i : Item). i.id) other.items

  -- ---- all of them

  pub same_kept : kept ≡ other
  same_kept =
      let day : kept.day ≡ other.day = sym a.header.day ∙ b.header.day in
      let ids : kept.ids ≡ other.ids = sym a.header.ids ∙ b.header.ids in
      λ i.
      record {
        day = day i;
        ids = ids i;
        pages = same_pages i;
        origins = same_origins i;
        visits = same_visits i;
        items = same_items i;
      }

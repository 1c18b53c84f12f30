-- What is read from pages is read in one way.
use Rattle.std.proofs.Common.{◌≡◌, ◌∙◌, ◌∷◌, [], ℕ, List, Option, Some, None, ap, refl, subst, sym}
use Rattle.std.specs.List.{AllZip, zip}
use Rattle.pl_base.specs.declared.id.Slot.{Slot}
use Rattle.pl_base.specs.Store.{Item as TreeItem}
use Rattle.pl_base.proofs.ListLaws.{same_somes}
use Rattle.pl_load.specs.Members.{parent_members}
use Rattle.pl_load.specs.Reads.{AreReadFrom, Reads}
use Rattle.pl_load.proofs.OwnedLists.{no_page}
use Rattle.pl_load.proofs.SourceSlots.{no_visit}
use Rattle.pl_owned.specs.declared.owned.Member.{Member}
use Rattle.pl_owned.specs.Owned.{IsListed}
use Rattle.pl_rail.specs.declared.owner.Owner.TheVariants.{At, Header}
use Rattle.pl_rail.specs.Rails.{none}
use Rattle.pl_rail.proofs.ListLaws.{one_list}
use Rattle.pl_reading.specs.Live.{HoldsItem, HoldsPlace, HoldsTotal, HoldsVisit}
use Rattle.pl_reading.specs.Read.{IsItemOf, IsPageRead, IsText, IsVisitRead, Names}
use Rattle.pl_record.specs.declared.rows.Item.{Item}
use Rattle.pl_record.specs.declared.rows.Place.{Place}
use Rattle.pl_record.specs.declared.rows.TextAt.{TextAt}
use Rattle.pl_record.specs.declared.rows.Visit.{Visit}
use Rattle.pl_record.specs.Rows.{item_row, origin_row, page_in, place_row, visit_in, visit_row}
use Rattle.pl_sheets.specs.Sheets.{Pages}
use Rattle.pl_slot.specs.declared.kind.LiveKind.TheVariants as kinds
use Rattle.pl_slot.specs.declared.links.Rail.TheVariants.{Children, Live}
use Rattle.pl_stored.specs.declared.stored.StoredPage.{StoredPage}
use Rattle.pl_stored.specs.declared.stored.StoredVisit.{StoredVisit}
use Rattle.pl_text.proofs.HeldTexts.{one_text}

-- ---- lists

-- two relations by which one on the left has one on the right make one list of a list
pub one_right : {X Y : Type 0} (R S : X → Y → Type 0) → ((x : X) (y z : Y) → R x y → S x z → y ≡ z)
    → (xs ws : List X) (ys zs : List Y) → xs ≡ ws → AllZip R xs ys → AllZip S ws zs → ys ≡ zs
one_right {X} {Y} R S one xs ws ys zs same first second =
    go xs ys zs first (subst (λ (l : List X). AllZip S l zs) (sym same) second)
  where
    go : (xs : List X) (ys zs : List Y) → AllZip R xs ys → AllZip S xs zs → ys ≡ zs
    go [] [] [] first second = refl
    go [] [] (z ∷ zs) first second = absurd second
    go [] (y ∷ ys) zs first second = absurd first
    go (x ∷ xs) [] zs first second = absurd first
    go (x ∷ xs) (y ∷ ys) [] first second = absurd second
    go (x ∷ xs) (y ∷ ys) (z ∷ zs) first second =
        let head = one x y z first.0 second.0 in
        let tail = go xs ys zs first.1 second.1 in
        λ i. head i ∷ tail i

-- ---- what numbers name

one_name : {Id : Type 0} (held : Slot → Option Id) → held none ≡ None → (slot : Slot) (a b : Option Id)
    → Names held slot a → Names held slot b → a ≡ b
one_name held empty slot None None first second = refl
one_name held empty slot None (Some b) first second =
    let nothing : None ≡ Some b = sym empty ∙ ap held (sym first) ∙ second in
    absurd (cc)
one_name held empty slot (Some a) None first second =
    let nothing : None ≡ Some a = sym empty ∙ ap held (sym second) ∙ first in
    absurd (cc)
one_name held empty slot (Some a) (Some b) first second = sym first ∙ second

module _ (pages : Pages) where
  -- ---- rows

  pub one_total : (slot : Slot) (t u : ℕ) → HoldsTotal pages slot t → HoldsTotal pages slot u → t ≡ u
  one_total slot t u first second =
      let rows : Some (origin_row t) ≡ Some (origin_row u) = sym first ∙ second in
      cc

  pub one_place : (slot : Slot) (p q : Place) → HoldsPlace pages slot p → HoldsPlace pages slot q → p ≡ q
  one_place slot p q first second =
      let rows : Some (place_row p) ≡ Some (place_row q) = sym first ∙ second in
      let id : p.id ≡ q.id = cc in
      let typed : p.mark.typed ≡ q.mark.typed = cc in
      let hidden : p.mark.hidden ≡ q.mark.hidden = cc in
      let frecency : p.mark.frecency ≡ q.mark.frecency = cc in
      let count : p.mark.count ≡ q.mark.count = cc in
      let origin : p.origin ≡ q.origin = cc in
      let url_slot : p.url.slot ≡ q.url.slot = cc in
      let url_length : p.url.length ≡ q.url.length = cc in
      let title_slot : p.title.slot ≡ q.title.slot = cc in
      let title_length : p.title.length ≡ q.title.length = cc in
      λ i.
      record {
        id = id i;
        mark = record { frecency = frecency i; count = count i; typed = typed i; hidden = hidden i };
        origin = origin i;
        url = record { slot = url_slot i; length = url_length i };
        title = record { slot = title_slot i; length = title_length i };
      }

  pub one_visit : (slot : Slot) (v w : Visit) → HoldsVisit pages slot v → HoldsVisit pages slot w → v ≡ w
  one_visit slot v w first second =
      let rows : Some (visit_row v) ≡ Some (visit_row w) = sym first ∙ second in
      let id : v.id ≡ w.id = cc in
      let transition : v.transition ≡ w.transition = cc in
      let page : v.page ≡ w.page = cc in
      let source : v.source ≡ w.source = cc in
      let date : v.date ≡ w.date = cc in
      λ i.
      record { id = id i; transition = transition i; page = page i; source = source i; date = date i }

  pub one_item : (slot : Slot) (v w : Item) → HoldsItem pages slot v → HoldsItem pages slot w → v ≡ w
  one_item slot v w first second =
      let rows : Some (item_row v) ≡ Some (item_row w) = sym first ∙ second in
      let id : v.id ≡ w.id = cc in
      let kind : v.kind ≡ w.kind = cc in
      let parent : v.parent ≡ w.parent = cc in
      let page : v.page ≡ w.page = cc in
      let title_slot : v.title.slot ≡ w.title.slot = cc in
      let title_length : v.title.length ≡ w.title.length = cc in
      let added : v.added ≡ w.added = cc in
      let modified : v.modified ≡ w.modified = cc in
      λ i.
      record {
        id = id i;
        kind = kind i;
        parent = parent i;
        page = page i;
        title = record { slot = title_slot i; length = title_length i };
        added = added i;
        modified = modified i;
      }

  -- ---- rows with their texts and ids

  one_read_text : (at : TextAt) (t u : List ℕ) → IsText pages at t → IsText pages at u → t ≡ u
  one_read_text at t u first second =
      (one_text first.held.slots second.held.slots t u pages first.held.held second.held.held
      (sym first.held.first ∙ second.held.first)).texts

  one_page_read : (p : Place) (s t : StoredPage) → IsPageRead pages p s → IsPageRead pages p t → s ≡ t
  one_page_read p s t first second =
      let id : s.id ≡ t.id = first.id ∙ sym second.id in
      let typed : s.typed ≡ t.typed = first.typed ∙ sym second.typed in
      let frecency : s.frecency ≡ t.frecency = first.frecency ∙ sym second.frecency in
      let url : s.url ≡ t.url = one_read_text p.url s.url t.url first.url second.url in
      let title : s.title ≡ t.title = one_read_text p.title s.title t.title first.title second.title in
      λ i.
      record { id = id i; typed = typed i; frecency = frecency i; url = url i; title = title i }

  one_visit_read : (v : Visit) (s t : StoredVisit) → IsVisitRead pages v s → IsVisitRead pages v t → s ≡ t
  one_visit_read v s t first second =
      let id : s.id ≡ t.id = first.id ∙ sym second.id in
      let pages_same : Some s.page ≡ Some t.page = sym first.page ∙ second.page in
      let page : s.page ≡ t.page = cc in
      let date : s.date ≡ t.date = first.date ∙ sym second.date in
      let transition : s.transition ≡ t.transition = first.transition ∙ sym second.transition in
      let source : s.source ≡ t.source =
      one_name (visit_in pages) (no_visit pages) v.source s.source t.source first.source second.source in
      λ i.
      record { id = id i; page = page i; date = date i; transition = transition i; source = source i }

  one_item_read : (row : Item × List Slot) (s t : TreeItem) → IsItemOf pages row s → IsItemOf pages row t → s ≡ t
  one_item_read row s t first second =
      let id : s.id ≡ t.id = first.id ∙ sym second.id in
      let kind : s.kind ≡ t.kind = first.kind ∙ sym second.kind in
      let title : s.title ≡ t.title = one_read_text row.0.title s.title t.title first.title second.title in
      let page : s.page ≡ t.page =
      one_name (page_in pages) (no_page pages) row.0.page s.page t.page first.page second.page in
      let added : s.added ≡ t.added = first.added ∙ sym second.added in
      let modified : s.modified ≡ t.modified = first.modified ∙ sym second.modified in
      let children : s.children ≡ t.children =
      same_somes s.children t.children (sym first.children ∙ second.children) in
      λ i.
      record {
        id = id i;
        kind = kind i;
        title = title i;
        page = page i;
        added = added i;
        modified = modified i;
        children = children i;
      }

  -- an owner has one list of children, whatever its members
  pub one_children : (ms ns : List Member) (owner : Slot) (xs ys : List Slot) → IsListed Children ms pages owner xs
      → IsListed Children ns pages owner ys → xs ≡ ys
  one_children ms ns owner xs ys first second =
      one_list Children (At owner) xs ys pages first.lists second.lists

  -- ---- all of it

  pub one_reads : (a b : Reads) → AreReadFrom pages a → AreReadFrom pages b → a ≡ b
  one_reads a b first second =
      let origins : a.origins ≡ b.origins =
      one_list Live (Header kinds.Origin) a.origins b.origins pages first.listed.origins second.listed.origins in
      let place_slots : a.place_slots ≡ b.place_slots =
      one_list Live (Header kinds.Place) a.place_slots b.place_slots pages first.listed.places second.listed.places in
      let visit_slots : a.visit_slots ≡ b.visit_slots =
      one_list Live (Header kinds.Visit) a.visit_slots b.visit_slots pages first.listed.visits second.listed.visits in
      let item_slots : a.item_slots ≡ b.item_slots =
      one_list Live (Header kinds.Item) a.item_slots b.item_slots pages first.listed.items second.listed.items in
      let totals : a.totals ≡ b.totals =
      one_right (HoldsTotal pages) (HoldsTotal pages) one_total a.origins b.origins a.totals b.totals origins
      first.totals second.totals in
      let places : a.places ≡ b.places =
      one_right (HoldsPlace pages) (HoldsPlace pages) one_place a.place_slots b.place_slots a.places b.places
      place_slots first.places second.places in
      let visits : a.visits ≡ b.visits =
      one_right (HoldsVisit pages) (HoldsVisit pages) one_visit a.visit_slots b.visit_slots a.visits b.visits
      visit_slots first.visits second.visits in
      let items : a.items ≡ b.items =
      one_right (HoldsItem pages) (HoldsItem pages) one_item a.item_slots b.item_slots a.items b.items
      item_slots first.items second.items in
      let children : first.children ≡ second.children =
      one_right (IsListed Children (parent_members a.item_slots a.items) pages)
      (IsListed Children (parent_members b.item_slots b.items) pages)
      (one_children (parent_members a.item_slots a.items) (parent_members b.item_slots b.items))
      a.item_slots b.item_slots first.children second.children item_slots first.parents second.parents in
      let rows : zip a.items first.children ≡ zip b.items second.children = λ i. zip (items i) (children i) in
      let stored_pages : a.stored.pages ≡ b.stored.pages =
      one_right (IsPageRead pages) (IsPageRead pages) one_page_read a.places b.places a.stored.pages b.stored.pages
      places first.stored_pages second.stored_pages in
      let stored_visits : a.stored.visits ≡ b.stored.visits =
      one_right (IsVisitRead pages) (IsVisitRead pages) one_visit_read a.visits b.visits a.stored.visits
      b.stored.visits visits first.stored_visits second.stored_visits in
      let stored_items : a.stored.items ≡ b.stored.items =
      one_right (IsItemOf pages) (IsItemOf pages) one_item_read (zip a.items first.children)
      (zip b.items second.children) a.stored.items b.stored.items rows first.stored_items second.stored_items in
      let day : a.stored.day ≡ b.stored.day = first.day ∙ sym second.day in
      let ids : a.stored.ids ≡ b.stored.ids = first.ids ∙ sym second.ids in
      λ i.
      record {
        origins = origins i;
        totals = totals i;
        place_slots = place_slots i;
        places = places i;
        visit_slots = visit_slots i;
        visits = visits i;
        item_slots = item_slots i;
        items = items i;
        stored =
            record {
              day = day i;
              ids = ids i;
              pages = stored_pages i;
              visits = stored_visits i;
              items = stored_items i;
            };
      }

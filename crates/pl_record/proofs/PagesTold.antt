-- What the rows of pages and origins tell.
use Rattle.std.proofs.Common.{◌≡◌, ◌∙◌, ◌==◌, ℕ, List, Option, Some, None, ap, eqb-true, find, length, nat_lt, refl, subst, sym, true}
use Rattle.std.proofs.Common.{if◌then◌else◌, inl, inr}
use Rattle.std.proofs.lemmas.Bool.{cases_eq, ne_eqb}
use Rattle.std.specs.Prelude.{IsTrue}
use Rattle.std.specs.Str.{IsUtf8}
use Rattle.std.specs.Option.{option_map}
use Rattle.pl_base.specs.declared.id.PageId.{PageId}
use Rattle.pl_base.specs.declared.id.Slot.{Slot}
use Rattle.pl_base.specs.declared.id.VisitId.{VisitId}
use Rattle.pl_base.specs.Address.{is_store_url}
use Rattle.pl_base.specs.Good.{IsTitle}
use Rattle.pl_base.specs.Rows.{Kept, KeptOrigin, KeptPage, has_origin, has_page, mark_of, origin_of, page_at, title_of}
use Rattle.pl_base.specs.Rows.{total_at, url_of}
use Rattle.pl_base.specs.Store.{Visit}
use Rattle.pl_base.proofs.ListLaws.{find-map}
use Rattle.pl_base.proofs.LookUps.{found_passes}
use Rattle.pl_base.proofs.PageLaws.{id_at}
use Rattle.pl_record.specs.declared.rows.Place.{Place}
use Rattle.pl_record.specs.LinkedRows.{AreLinked, Entries, id_behind, slot_at}
use Rattle.pl_record.specs.Records.{HoldsRow, origin_record, page_record, unlinked}
use Rattle.pl_record.specs.Rows.{origin_row, place_row, row_in}
use Rattle.pl_record.proofs.LookUps.{Found, finds, finds_none}
use Rattle.pl_record.proofs.NamedSlots.{found_all, found_of, page_row_is}
use Rattle.pl_rail.specs.Rails.{named}
use Rattle.pl_sheets.specs.Sheets.{Pages}
use Rattle.pl_slot.specs.declared.kind.SlotKind.{SlotKind}
use Rattle.pl_slot.specs.declared.kind.SlotKind.TheVariants as kinds
use Rattle.pl_slot.specs.declared.row.SlotRow.{SlotRow}
use Rattle.pl_slot.specs.declared.row.SlotRow.TheVariants as rows
use Rattle.pl_slot.specs.Arena.{first_in, row_at}
use Rattle.pl_slot.specs.Links.{kind_at}
use Rattle.pl_slot.specs.Slot.{slot_kind}
use Rattle.pl_slot.proofs.SlotPlaces.{no_slot}
use Rattle.std.proofs.lemmas.Str.{IsUtf8-from_ascii}
use Rattle.pl_link.proofs.UrlTexts.{store_url_ascii}
use Rattle.pl_text.proofs.HeldTexts.{one_text}
use Rattle.pl_text.specs.Chunks.{HasText, Hold, HoldsText}

-- ---- kinds

-- a row is of the same kind without its links
pub unlinked_kind : (row : SlotRow) → slot_kind (unlinked row) ≡ slot_kind row
unlinked_kind (rows.Free next) = refl
unlinked_kind (rows.Origin lp ln fp la total) = refl
unlinked_kind (rows.Place typed hidden lp ln id origin op on fv lv fr lr ut ul tt' tl frecency count) = refl
unlinked_kind (rows.Visit transition lp ln id page pp pn source tp tn ft lt date) = refl
unlinked_kind (rows.Item kind lp ln id parent sp sn fc lc page rp rn tt' tl added modified) = refl
unlinked_kind (rows.Text used next payload) = refl

pub kind_told : (slot : Slot) (row : SlotRow) (pages : Pages) → row_in slot pages ≡ Some row
    → kind_at slot.0 pages ≡ Some (slot_kind row)
unfolding kind_at
kind_told slot row pages is = choose (row_at slot.0 pages) is
  where
    choose : (o : Option SlotRow) → option_map unlinked o ≡ Some row → option_map slot_kind o ≡ Some (slot_kind row)
    choose None is = absurd (cc)
    choose (Some other) is =
        let same : unlinked other ≡ row = cc in
        ap Some (sym (unlinked_kind other) ∙ ap slot_kind same)

-- slot 0 is of no kind
pub named_slot : (slot : Slot) (kind : SlotKind) (pages : Pages) → kind_at slot.0 pages ≡ Some kind
    → named slot ≡ Some slot
unfolding kind_at
named_slot slot kind pages is = elim (cases_eq slot.0 0) [
  | inl zero ↦
      let never : None ≡ Some kind =
      sym (ap (option_map slot_kind) (no_slot 0 pages refl)) ∙ ap (λ n. option_map slot_kind (row_at n pages)) (sym zero)
      ∙ is in
      absurd (cc)
  | inr apart ↦ ap (λ b. if b then None else Some slot) (ne_eqb slot.0 0 apart)
]

-- ---- pages

abbrev pub page_numbered : ℕ → PageId
page_numbered n = record { 0 = n }

module _ (kept : Kept) (targets : VisitId → List Visit) (sheets : Pages) (pages visits items : Entries)
    (l : AreLinked kept targets sheets pages visits items) where
  pub page_found : (id : PageId) (slot : Slot) → slot_at pages id.0 ≡ Some slot
      → Found (λ (p : KeptPage). l.at.page p.page.id) (page_at kept id) slot
  page_found id slot some =
      finds (λ (p : KeptPage). p.page.id.0) (λ (p : KeptPage). l.at.page p.page.id) kept.pages pages l.indexed.pages id.0
      slot some

  pub no_page : (id : PageId) → slot_at pages id.0 ≡ None → page_at kept id ≡ None
  no_page id none =
      finds_none (λ (p : KeptPage). p.page.id.0) (λ (p : KeptPage). l.at.page p.page.id) kept.pages pages l.indexed.pages
      id.0 none

  page_row : (id : PageId) (slot : Slot) (f : Found (λ (p : KeptPage). l.at.page p.page.id) (page_at kept id) slot)
      → row_in slot sheets ≡ Some (page_record l.at f.row).row
  page_row id slot f =
      ap (λ (s : Slot). row_in s sheets) (sym f.here) ∙ page_row_is l.at kept sheets l.laid.rows id f.row f.there

  pub page_kind : (id : PageId) (slot : Slot) → slot_at pages id.0 ≡ Some slot → kind_at slot.0 sheets ≡ Some kinds.Place
  page_kind id slot some =
      let f = page_found id slot some in
      kind_told slot (page_record l.at f.row).row sheets (page_row id slot f)

  -- the row of a page, as it was read
  module _ (id : PageId) (slot : Slot) (place : Place) (some : slot_at pages id.0 ≡ Some slot)
      (read : row_in slot sheets ≡ Some (place_row place)) where
    pub same_row : place_row place ≡ (page_record l.at (page_found id slot some).row).row
    same_row =
        let both : Some (place_row place) ≡ Some (page_record l.at (page_found id slot some).row).row =
        sym read ∙ page_row id slot (page_found id slot some) in
        cc

    pub mark_told : Some place.mark ≡ option_map mark_of (page_at kept id)
    mark_told =
        let f = page_found id slot some in
        let row : place_row place ≡ (page_record l.at f.row).row = same_row in
        let typed : place.mark.typed ≡ f.row.page.typed = cc in
        let hidden : place.mark.hidden ≡ f.row.hidden = cc in
        let frecency : place.mark.frecency ≡ f.row.frecency = cc in
        let count : place.mark.count ≡ f.row.count = cc in
        let mark : place.mark ≡ mark_of f.row =
        (λ i. record { frecency = frecency i; count = count i; typed = typed i; hidden = hidden i }) in
        ap Some mark ∙ sym (ap (option_map mark_of) f.there)

    pub origin_told : Some place.origin ≡ origin_of kept id
    origin_told =
        let f = page_found id slot some in
        let row : place_row place ≡ (page_record l.at f.row).row = same_row in
        let origin : place.origin ≡ f.row.origin = cc in
        ap Some origin ∙ sym (ap (option_map (λ (p : KeptPage). p.origin)) f.there)

    pub id_told : place.id ≡ id
    id_told =
        let f = page_found id slot some in
        let row : place_row place ≡ (page_record l.at f.row).row = same_row in
        let same : place.id ≡ f.row.page.id = cc in
        same ∙ id_at kept id f.row f.there

    -- its texts are held where the row says
    url_held : HoldsText place.url.slot (page_found id slot some).row.page.url sheets
    url_held =
        let f = page_found id slot some in
        let row : place_row place ≡ (page_record l.at f.row).row = same_row in
        let first : place.url.slot ≡ first_in (l.at.url f.row.page.id) = cc in
        record {
          slots = l.at.url f.row.page.id;
          first = first;
          held =
              found_all (λ (p : KeptPage). Hold (l.at.url p.page.id) p.page.url sheets)
              (λ (p : KeptPage). p.page.id.0 == id.0) kept.pages f.row l.laid.texts.urls f.there;
        }

    pub url_text : HasText place.url.slot place.url.length sheets
    url_text =
        let f = page_found id slot some in
        let row : place_row place ≡ (page_record l.at f.row).row = same_row in
        let long : length f.row.page.url ≡ place.url.length = cc in
        (f.row.page.url, url_held, long)

    pub url_told : (url : List ℕ) → ((text : List ℕ) → HoldsText place.url.slot text sheets → url ≡ text)
        → Some url ≡ url_of kept id
    url_told url is =
        let f = page_found id slot some in
        ap Some (is f.row.page.url url_held) ∙ sym (ap (option_map (λ (p : KeptPage). p.page.url)) f.there)

    title_held : HoldsText place.title.slot (page_found id slot some).row.page.title sheets
    title_held =
        let f = page_found id slot some in
        let row : place_row place ≡ (page_record l.at f.row).row = same_row in
        let first : place.title.slot ≡ first_in (l.at.title f.row.page.id) = cc in
        record {
          slots = l.at.title f.row.page.id;
          first = first;
          held =
              found_all (λ (p : KeptPage). Hold (l.at.title p.page.id) p.page.title sheets)
              (λ (p : KeptPage). p.page.id.0 == id.0) kept.pages f.row l.laid.texts.titles f.there;
        }

    pub title_text : HasText place.title.slot place.title.length sheets
    title_text =
        let f = page_found id slot some in
        let row : place_row place ≡ (page_record l.at f.row).row = same_row in
        let long : length f.row.page.title ≡ place.title.length = cc in
        (f.row.page.title, title_held, long)

    pub url_utf8 : (text : List ℕ) → HoldsText place.url.slot text sheets → IsUtf8 text
    unfolding url_held
    url_utf8 text held =
        let f = page_found id slot some in
        let same : text ≡ f.row.page.url =
        (one_text held.slots (l.at.url f.row.page.id) text f.row.page.url sheets held.held url_held.held
        (sym held.first ∙ url_held.first)).texts in
        subst IsUtf8 (sym same)
        (IsUtf8-from_ascii f.row.page.url
        (store_url_ascii f.row.page.url
        (found_all (λ (p : KeptPage). IsTrue (is_store_url p.page.url)) (λ (p : KeptPage). p.page.id.0 == id.0) kept.pages
        f.row l.rows.well.urls f.there)))

    pub title_utf8 : (text : List ℕ) → HoldsText place.title.slot text sheets → IsUtf8 text
    unfolding title_held
    title_utf8 text held =
        let f = page_found id slot some in
        let same : text ≡ f.row.page.title =
        (one_text held.slots (l.at.title f.row.page.id) text f.row.page.title sheets held.held title_held.held
        (sym held.first ∙ title_held.first)).texts in
        subst IsUtf8 (sym same)
        (found_all (λ (p : KeptPage). IsTitle p.page.title) (λ (p : KeptPage). p.page.id.0 == id.0) kept.pages f.row
        l.rows.well.titles f.there).0

    pub title_told : (title : List ℕ) → ((text : List ℕ) → HoldsText place.title.slot text sheets → title ≡ text)
        → Some title ≡ title_of kept id
    title_told title is =
        let f = page_found id slot some in
        ap Some (is f.row.page.title title_held) ∙ sym (ap (option_map (λ (p : KeptPage). p.page.title)) f.there)

  -- a page that is there has a slot
  pub page_there : (id : PageId) → has_page kept id ≡ true → (slot : Slot) × (slot_at pages id.0 ≡ Some slot)
  page_there id there = choose (slot_at pages id.0) refl
    where
      choose : (o : Option Slot) → slot_at pages id.0 ≡ o → (slot : Slot) × (slot_at pages id.0 ≡ Some slot)
      choose None is =
          let found = found_of (λ (p : KeptPage). p.page.id.0 == id.0) kept.pages there in
          let never : None ≡ Some found.0 = sym (no_page id is) ∙ found.1 in
          absurd (cc)
      choose (Some slot) is = (slot, is)

  pub page_missing : (id : PageId) → has_page kept id ≡ true → slot_at pages id.0 ≡ None → ⊥
  page_missing id there nothing =
      let found = page_there id there in
      let never : None ≡ Some found.0 = sym nothing ∙ found.1 in
      absurd (cc)

  -- ---- origins

  origin_found : (origin : Slot) → has_origin kept origin ≡ true
      → (o : KeptOrigin) × (find (λ (o : KeptOrigin). o.origin.0 == origin.0) kept.origins ≡ Some o)
  origin_found origin there = found_of (λ (o : KeptOrigin). o.origin.0 == origin.0) kept.origins there

  origin_row_is : (origin : Slot) (there : has_origin kept origin ≡ true)
      → row_in origin sheets ≡ Some (origin_row (origin_found origin there).0.total)
  origin_row_is origin there =
      let f = origin_found origin there in
      let number : f.0.origin.0 ≡ origin.0 =
      eqb-true f.0.origin.0 origin.0 (found_passes (λ (o : KeptOrigin). o.origin.0 == origin.0) kept.origins f.0 f.1) in
      let slot : f.0.origin ≡ origin = ap (λ (n : ℕ). record { 0 = n }) number in
      ap (λ (s : Slot). row_in s sheets) (sym slot)
      ∙ found_all (λ (o : KeptOrigin). HoldsRow (origin_record o) sheets) (λ (o : KeptOrigin). o.origin.0 == origin.0)
      kept.origins f.0 l.laid.rows.origins f.1

  pub origin_kind : (origin : Slot) → has_origin kept origin ≡ true → kind_at origin.0 sheets ≡ Some kinds.Origin
  origin_kind origin there =
      kind_told origin (origin_row (origin_found origin there).0.total) sheets (origin_row_is origin there)

  pub total_told : (origin : Slot) (total : ℕ) → has_origin kept origin ≡ true
      → row_in origin sheets ≡ Some (origin_row total) → Some total ≡ total_at kept origin
  total_told origin total there read =
      let f = origin_found origin there in
      let both : Some (origin_row total) ≡ Some (origin_row f.0.total) = sym read ∙ origin_row_is origin there in
      let same : total ≡ f.0.total = cc in
      ap Some same ∙ sym (ap (option_map (λ (o : KeptOrigin). o.total)) f.1)

  -- ---- the next page

  pub next_told : (n : ℕ) → option_map page_numbered (id_behind pages n)
      ≡ option_map (λ (p : KeptPage). p.page.id) (find (λ (p : KeptPage). nat_lt n p.page.id.0) kept.pages)
  next_told n =
      ap (λ (es : Entries). option_map page_numbered (id_behind es n)) l.indexed.pages
      ∙ ap (λ o. option_map page_numbered (option_map (λ (e : ℕ × Slot). e.0) o))
      (find-map (λ (e : ℕ × Slot). nat_lt n e.0) (λ (p : KeptPage). (p.page.id.0, l.at.page p.page.id)) kept.pages)
      ∙ ids (find (λ (p : KeptPage). nat_lt n p.page.id.0) kept.pages)
    where
      ids : (o : Option KeptPage)
          → option_map page_numbered
          (option_map (λ (e : ℕ × Slot). e.0)
          (option_map (λ (p : KeptPage). (p.page.id.0, l.at.page p.page.id)) o))
          ≡ option_map (λ (p : KeptPage). p.page.id) o
      ids None = refl
      ids (Some p) = refl

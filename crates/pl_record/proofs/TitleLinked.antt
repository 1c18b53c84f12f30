-- The rows that linked slots keep where the title of a page goes, and where one comes.
use Rattle.std.specs.Option.{option_map}
use Rattle.std.proofs.Common.{◌≡◌, ◌∙◌, ◌+◌, ◌-◌, ◌≤◌, [], ℕ, List, Some, ap, arith, length, subst, sym, true}
use Rattle.pl_base.specs.declared.id.PageId.{PageId}
use Rattle.pl_base.specs.declared.id.Slot.{Slot}
use Rattle.pl_base.specs.declared.id.VisitId.{VisitId}
use Rattle.pl_base.specs.Good.{IsTitle}
use Rattle.pl_base.specs.Live.{chunks, live_slots, slot_limit}
use Rattle.pl_base.specs.Rows.{Kept, KeptPage, has_page, page_at, store_of, title_of, with_title}
use Rattle.pl_base.specs.Store.{Visit}
use Rattle.pl_record.specs.declared.rows.Place.{Place}
use Rattle.pl_record.specs.declared.rows.TextAt.{TextAt}
use Rattle.pl_record.specs.LinkedRows.{AreLinked, Entries, slot_at}
use Rattle.pl_record.proofs.NamedSlots.{page_row_is}
use Rattle.pl_record.specs.Records.{page_record}
use Rattle.pl_record.specs.Rows as rows
use Rattle.pl_record.specs.Rows.{SetsRow, place_row, row_in}
use Rattle.pl_record.proofs.ChainsKept.{KeepsEnds, fields_ends, freed_ends}
use Rattle.pl_record.proofs.LiveCounted.{live_counted}
use Rattle.pl_record.proofs.LookUps.{Found}
use Rattle.pl_record.proofs.PageMaps.{entries_mapped}
use Rattle.pl_record.proofs.PagesChanged.{titled_rows, titled_slots}
use Rattle.pl_record.proofs.PagesTold.{kind_told, page_found, same_row}
use Rattle.pl_record.proofs.SlotsBeside.{AreIdle, fresh_idle, held_idle}
use Rattle.pl_record.proofs.TitleMoved.{alone_left, chains_left, dropped_once, dropped_texts, given_once, given_texts}
use Rattle.pl_record.proofs.TitleMoved.{live_left, owned, rows_left}
use Rattle.pl_record.proofs.TitleSet.{title_put}
use Rattle.pl_record.proofs.TitleSlots.{titling, titling_id, titling_origin, with_title_at}
use Rattle.pl_sheets.specs.Sheets.{Pages}
use Rattle.pl_slot.specs.declared.kind.SlotKind.TheVariants as kinds
use Rattle.pl_slot.specs.Arena.{IsArena, KeepsFields, SetsHeader, first_in, header_of, live_count}
use Rattle.pl_slot.specs.Links.{kind_at}
use Rattle.pl_text.specs.Chunks.{FreesSlots, Hold, KeepsLive, StoresText, chunk_count}

module _ (kept : Kept) (targets : VisitId → List Visit) (old : Pages) (pages visits items : Entries)
    (l : AreLinked kept targets old pages visits items) (id : PageId) (slot : Slot)
    (some : slot_at pages id.0 ≡ Some slot) where
  pub page : Found (λ (p : KeptPage). l.at.page p.page.id) (page_at kept id) slot
  page = page_found kept targets old pages visits items l id slot some

  -- the row says where the title begins, and how long it is
  module _ (place : Place) (read : row_in slot old ≡ Some (place_row place)) where
    pub title_first : place.title.slot ≡ first_in (l.at.title page.row.page.id)
    unfolding page
    title_first =
        let row : place_row place ≡ (page_record l.at page.row).row =
        same_row kept targets old pages visits items l id slot place some read in
        cc

    pub title_long : length page.row.page.title ≡ place.title.length
    unfolding page
    title_long =
        let row : place_row place ≡ (page_record l.at page.row).row =
        same_row kept targets old pages visits items l id slot place some read in
        cc

  -- its title
  pub title_is : title_of kept id ≡ Some page.row.page.title
  title_is = ap (option_map (λ (p : KeptPage). p.page.title)) page.there

  pub title_held : Hold (l.at.title page.row.page.id) page.row.page.title old
  title_held = owned l.at kept targets old old l.rows l.laid id page.row page.there

  -- its slot holds a page where slots beside it change
  pub kind_left : (slots : List ℕ) (a : Pages) → KeepsLive slots old a → AreIdle slots old → KeepsEnds old a
      → kind_at slot.0 a ≡ Some kinds.Place
  kind_left slots a others idle ends =
      subst (λ (s : Slot). kind_at s.0 a ≡ Some kinds.Place) page.here
      (kind_told (l.at.page page.row.page.id) (page_record l.at page.row).row a
      (page_row_is l.at kept a (rows_left l.at kept targets slots old a others idle ends l.laid.rows) id page.row
      page.there))

  -- how many slots are live without the title, and with another one
  pub dropped_count : (place : Place) → row_in slot old ≡ Some (place_row place) → has_page kept id ≡ true
      → (live slots : ℕ) → live ≡ live_slots (store_of kept) → slots ≡ chunk_count place.title.length
      → (slots ≤ live) × (live - slots ≡ live_slots (store_of (with_title id [] kept)))
  dropped_count place read there live slots live_is slots_is =
      let counted : live_slots (store_of (with_title id [] kept)) + chunks page.row.page.title
      ≡ live_slots (store_of kept) + chunks [] =
      titled_slots kept id [] page.row.page.title l.rows.well there (sym title_is) in
      let same : slots ≡ chunks page.row.page.title =
      slots_is ∙ sym (ap chunk_count (title_long place read)) in
      (omega (arith, counted, same, live_is), omega (arith, counted, same, live_is))

  pub given_count : (title : List ℕ) → has_page kept id ≡ true → title_of kept id ≡ Some []
      → live_slots (store_of (with_title id title kept)) ≡ live_slots (store_of kept) + chunks title
  given_count title there bare = omega (arith, titled_slots kept id title [] l.rows.well there (sym bare))

  pub given_room : (title : List ℕ) → has_page kept id ≡ true → title_of kept id ≡ Some []
      → live_slots (store_of (with_title id title kept)) ≤ slot_limit → live_count old + chunks title ≤ slot_limit
  given_room title there bare few =
      omega (arith, live_counted l.at kept targets old l.rows l.laid, given_count title there bare, few)

  module _ (a b c : Pages) (text : TextAt) (sets : SetsRow slot (rows.with_title text) a b) (number : ℕ)
      (counts : SetsHeader (λ h. record h { live = number }) b c) (arena : IsArena c) where
    -- the slots of the old title are free
    pub title_dropped : text ≡ record { slot = record { 0 = 0 }; length = 0 } → IsTitle []
        → live_slots (store_of (with_title id [] kept)) ≤ slot_limit
        → number ≡ live_slots (store_of (with_title id [] kept))
        → FreesSlots (l.at.title page.row.page.id) old a → AreLinked
        (with_title id [] kept) targets c pages visits items
    title_dropped bare title few counted freed =
        let slots : List ℕ = l.at.title page.row.page.id in
        let idle = held_idle slots page.row.page.title old
        (owned l.at kept targets old a l.rows l.laid id page.row page.there) in
        let ends : KeepsEnds old a = freed_ends (header_of a).first_free old a freed.header in
        record {
          at = with_title_at id [] l.at;
          rows = titled_rows kept targets id [] l.rows title few;
          laid =
              title_put kept targets l.at [] [] text id slot page.row page.there page.here (ap (λ t. t.slot) bare)
              (ap (λ t. t.length) bare) a b c sets number counts arena
              (rows_left l.at kept targets slots old a freed.others idle ends l.laid.rows)
              (dropped_texts l.at kept targets old a l.rows l.laid id page.row page.there freed)
              (dropped_once l.at kept targets old a l.rows l.laid id page.row page.there freed)
              (live_left l.at kept targets slots old a freed.others idle ends l.laid.live)
              (chains_left l.at kept targets slots old a freed.others idle ends l.laid.chains)
              (alone_left l.at kept targets slots old a freed.others idle ends l.laid.alone)
              (record {
                form =
                    ap (λ h. h.form) counts.header ∙ ap (λ h. h.form) sets.header ∙ ap (λ h. h.form) freed.header
                    ∙ l.laid.header.form;
                day =
                    ap (λ h. h.day) counts.header ∙ ap (λ h. h.day) sets.header ∙ ap (λ h. h.day) freed.header
                    ∙ l.laid.header.day;
                ids =
                    ap (λ h. h.ids) counts.header ∙ ap (λ h. h.ids) sets.header ∙ ap (λ h. h.ids) freed.header
                    ∙ l.laid.header.ids;
                live = ap (λ h. h.live) counts.header ∙ counted;
                rest =
                    ap (λ h. h.rest) counts.header ∙ ap (λ h. h.rest) sets.header ∙ ap (λ h. h.rest) freed.header
                    ∙ l.laid.header.rest;
              });
          indexed =
              let mapped = entries_mapped (titling id []) (titling_id id []) (titling_origin id []) l.at kept pages
              visits items l.indexed in
              record { pages = mapped.pages; visits = mapped.visits; items = mapped.items };
        }

    -- the new title is stored, and there was none
    pub title_given : (title : List ℕ) → page.row.page.title ≡ [] → IsTitle title
        → live_slots (store_of (with_title id title kept)) ≤ slot_limit
        → number ≡ live_slots (store_of (with_title id title kept)) → text.length ≡ length title
        → StoresText text.slot title old a → KeepsFields old a
        → AreLinked (with_title id title kept) targets c pages visits items
    title_given title empty is few counted long stored fields =
        let idle = fresh_idle stored.slots old stored.fresh in
        let ends : KeepsEnds old a = fields_ends old a fields in
        record {
          at = with_title_at id stored.slots l.at;
          rows = titled_rows kept targets id title l.rows is few;
          laid =
              title_put kept targets l.at title stored.slots text id slot page.row page.there page.here stored.first
              long
              a b c sets number counts arena
              (rows_left l.at kept targets stored.slots old a stored.others idle ends l.laid.rows)
              (given_texts l.at kept targets old a l.rows l.laid id page.row page.there title empty stored.slots
              stored.held stored.fresh stored.others)
              (given_once l.at kept targets old a l.rows l.laid id page.row page.there title empty stored.slots
              stored.held stored.fresh stored.others)
              (live_left l.at kept targets stored.slots old a stored.others idle ends l.laid.live)
              (chains_left l.at kept targets stored.slots old a stored.others idle ends l.laid.chains)
              (alone_left l.at kept targets stored.slots old a stored.others idle ends l.laid.alone)
              (record {
                form =
                    ap (λ h. h.form) counts.header ∙ ap (λ h. h.form) sets.header ∙ ap (λ h. h.form) fields
                    ∙ l.laid.header.form;
                day =
                    ap (λ h. h.day) counts.header ∙ ap (λ h. h.day) sets.header ∙ ap (λ h. h.day) fields
                    ∙ l.laid.header.day;
                ids =
                    ap (λ h. h.ids) counts.header ∙ ap (λ h. h.ids) sets.header ∙ ap (λ h. h.ids) fields
                    ∙ l.laid.header.ids;
                live = ap (λ h. h.live) counts.header ∙ counted;
                rest =
                    ap (λ h. h.rest) counts.header ∙ ap (λ h. h.rest) sets.header ∙ ap (λ h. h.rest) fields
                    ∙ l.laid.header.rest;
              });
          indexed =
              let mapped = entries_mapped (titling id title) (titling_id id title) (titling_origin id title) l.at kept
              pages visits items l.indexed in
              record { pages = mapped.pages; visits = mapped.visits; items = mapped.items };
        }

-- The rows that linked slots keep where the title of an item goes, and where one comes: each by
-- three calls.
use Rattle.std.specs.Option.{option_map}
use Rattle.std.proofs.Common.{◌≡◌, ◌∙◌, ◌+◌, ◌-◌, ◌∷◌, ◌==◌, ◌≤◌, [], ℕ, Bool, List, None, Option, Some, ap, arith}
use Rattle.std.proofs.Common.{find, if◌then◌else◌, length, map, refl, subst, sym, true, false}
use Rattle.std.proofs.lemmas.Option.{same_Some}
use Rattle.pl_base.specs.declared.date.Micros.{Micros}
use Rattle.pl_base.specs.declared.id.ItemId.{ItemId}
use Rattle.pl_base.specs.declared.id.Slot.{Slot}
use Rattle.pl_base.specs.declared.id.VisitId.{VisitId}
use Rattle.pl_base.specs.Good.{IsTitle}
use Rattle.pl_base.specs.Live.{chunks, live_slots, slot_limit}
use Rattle.pl_base.specs.Rows.{IsWellKept, Kept, store_of, with_items}
use Rattle.pl_base.specs.Store.{Item, Visit}
use Rattle.pl_base.specs.Tree.{has_item, item_at, item_title, redated, retitled}
use Rattle.pl_base.proofs.ItemLaws.{titles_changed}
use Rattle.pl_base.proofs.ListLaws.{map-alike, map-map}
use Rattle.pl_base.proofs.LookUps.{found_some}
use Rattle.pl_base.proofs.OneChanged.{once_by_number, sum_changed}
use Rattle.pl_record.specs.declared.rows.Item.{Item as Row}
use Rattle.pl_record.specs.declared.rows.TextAt.{TextAt}
use Rattle.pl_record.specs.Form.{AreRows, IsHeader}
use Rattle.pl_record.specs.LinkedRows.{AreLinked, Entries, IsBaseOf, slot_at}
use Rattle.pl_record.proofs.NamedSlots.{found_of, item_row_is}
use Rattle.pl_record.specs.Records.{item_record}
use Rattle.pl_record.specs.Rows as rows
use Rattle.pl_record.specs.Rows.{SetsRow, item_row, row_in}
use Rattle.pl_record.proofs.Bases.{base_kept}
use Rattle.pl_record.proofs.ChainsKept.{KeepsEnds, fields_ends, freed_ends}
use Rattle.pl_record.proofs.ItemMaps.{at_item, entries_mapped, rows_mapped, slots_mapped, tree_at}
use Rattle.pl_record.proofs.ItemTitleSet.{title_put}
use Rattle.pl_record.proofs.ItemTitleSlots.{dropped_once, dropped_texts, given_once, given_texts, keeps_titled, owned}
use Rattle.pl_record.proofs.ItemTitleSlots.{title_there, titled, with_entitled, with_title_there}
use Rattle.pl_record.proofs.ItemRowsTold.{item_found}
use Rattle.pl_record.proofs.LiveCounted.{live_counted}
use Rattle.pl_record.proofs.LookUps.{Found}
use Rattle.pl_record.proofs.PagesTold.{kind_told}
use Rattle.pl_record.proofs.SlotsBeside.{AreIdle, fresh_idle, held_idle}
use Rattle.pl_record.proofs.TitleMoved.{alone_left, chains_left, live_left, rows_left}
use Rattle.pl_sheets.specs.Sheets.{Pages}
use Rattle.pl_slot.specs.declared.kind.SlotKind.TheVariants as kinds
use Rattle.pl_slot.specs.Arena.{IsArena, KeepsFields, SetsHeader, first_in, header_of, header_page, live_count}
use Rattle.pl_slot.specs.Arena.{slot_page}
use Rattle.pl_slot.specs.Links.{kind_at}
use Rattle.pl_text.specs.Chunks.{FreesSlots, Hold, KeepsLive, StoresText, chunk_count, pages_of}

-- ---- rows with another title

entitled_rows : (kept : Kept) (targets : VisitId → List Visit) (id : ItemId) (title : List ℕ) → AreRows kept targets
    → IsTitle title → live_slots (store_of (with_entitled id title kept)) ≤ slot_limit
    → AreRows (with_entitled id title kept) targets
entitled_rows kept targets id title h own few =
    rows_mapped (at_item id (titled title)) (tree_at id (titled title) (keeps_titled title)) kept targets
    (titles_changed IsTitle id (titled title) kept.items (λ i is. own) h.titles) few h

-- the slots of the old title go, and those of the new one come
entitled_slots : (kept : Kept) (id : ItemId) (title : List ℕ) (owner : Item) → IsWellKept kept
    → item_at kept.items id ≡ Some owner
    → live_slots (store_of (with_entitled id title kept)) + chunks owner.title
    ≡ live_slots (store_of kept) + chunks title
entitled_slots kept id title owner well found =
    omega (
      arith,
      slots_mapped (at_item id (titled title)) (tree_at id (titled title) (keeps_titled title)) kept,
      sum_changed (λ (i : Item). i.id.0 == id.0) (titled title) (λ (i : Item). chunks i.title) kept.items owner
          (once_by_number (λ (i : Item). i.id.0) id.0 kept.items well.item_ids.ascending) found,
    )

-- ---- a title goes, then another one comes, and then a date

both : (id : ItemId) (f g h : Item → Item) (items : List Item) → ((i : Item) → (g i).id ≡ i.id)
    → ((i : Item) → f (g i) ≡ h i) → map (at_item id f) (map (at_item id g) items) ≡ map (at_item id h) items
both id f g h items ids same =
    map-map (at_item id f) (at_item id g) items
    ∙ map-alike (λ (i : Item). at_item id f (at_item id g i)) (at_item id h) items
    (λ i. twice i (i.id.0 == id.0) refl)
  where
    twice : (i : Item) (b : Bool) → (i.id.0 == id.0) ≡ b
        → at_item id f (if b then g i else i) ≡ (if b then h i else i)
    twice i true is =
        ap (λ (c : Bool). if c then f (g i) else g i) (ap (λ (c : ItemId). c.0 == id.0) (ids i) ∙ is) ∙ same i
    twice i false is = ap (λ (c : Bool). if c then f i else i) is

pub entitled_twice : (kept : Kept) (id : ItemId) (title : List ℕ)
    → with_entitled id title (with_entitled id [] kept) ≡ with_entitled id title kept
entitled_twice kept id title =
    ap (λ (js : List Item). with_items js kept)
    (both id (titled title) (titled []) (titled title) kept.items (λ i. refl) (λ i. refl))

pub entitled_dated : (kept : Kept) (id : ItemId) (title : List ℕ) (date : Micros)
    → with_items (redated id date (with_entitled id title kept).items) (with_entitled id title kept)
    ≡ with_items (retitled id title date kept.items) kept
entitled_dated kept id title date =
    ap (λ (js : List Item). with_items js kept)
    (both id (λ (i : Item). record i { modified = date }) (titled title)
    (λ (i : Item). record i { title = title; modified = date }) kept.items (λ i. refl) (λ i. refl))

-- the item is still there, with that title
pub entitled_there : (kept : Kept) (id : ItemId) (title : List ℕ) → has_item kept.items id ≡ true
    → item_title (with_entitled id title kept).items id ≡ Some title
entitled_there kept id title there =
    let found = found_of (λ (i : Item). i.id.0 == id.0) kept.items there in
    there_now kept.items found.0 found.1
  where
    there_now : (is : List Item) (i : Item) → find (λ (j : Item). j.id.0 == id.0) is ≡ Some i
        → option_map (λ (j : Item). j.title)
        (find (λ (j : Item). j.id.0 == id.0) (map (at_item id (titled title)) is)) ≡ Some title
    there_now [] i found = absurd (cc)
    there_now (j ∷ js) i found = choose (j.id.0 == id.0) refl found (there_now js i)
      where
        choose : (b : Bool) → (j.id.0 == id.0) ≡ b
            → (if b then Some j else find (λ (k : Item). k.id.0 == id.0) js) ≡ Some i
            → (find (λ (k : Item). k.id.0 == id.0) js ≡ Some i
            → option_map (λ (k : Item). k.title)
            (find (λ (k : Item). k.id.0 == id.0) (map (at_item id (titled title)) js)) ≡ Some title)
            → option_map (λ (k : Item). k.title)
            (find (λ (k : Item). k.id.0 == id.0)
            ((if b then titled title j else j) ∷ map (at_item id (titled title)) js)) ≡ Some title
        choose true is here rest = rw is refl
        choose false is here rest = rw is (rest here)

-- an item that has a title is there
pub titled_there : (kept : Kept) (id : ItemId) (title : List ℕ) → item_title kept.items id ≡ Some title
    → has_item kept.items id ≡ true
titled_there kept id title is = choose (item_at kept.items id) refl is
  where
    choose : (o : Option Item) → item_at kept.items id ≡ o → option_map (λ (i : Item). i.title) o ≡ Some title
        → has_item kept.items id ≡ true
    choose None found some = absurd (cc)
    choose (Some i) found some = found_some (λ (j : Item). j.id.0 == id.0) kept.items i found

module _ (kept : Kept) (targets : VisitId → List Visit) (old : Pages) (pages visits items : Entries)
    (l : AreLinked kept targets old pages visits items) (id : ItemId) (slot : Slot)
    (some : slot_at items id.0 ≡ Some slot) where
  item : Found (λ (i : Item). l.at.item i.id) (item_at kept.items id) slot
  item = item_found kept targets old pages visits items l id slot some

  abbrev own_slots : List ℕ
  own_slots = l.at.item_title item.row.id

  held : Hold own_slots item.row.title old
  held = owned l.at kept targets old old l.rows l.laid id item.row item.there

  -- its slot holds an item where slots beside it change
  kind_left : (slots : List ℕ) (a : Pages) → KeepsLive slots old a → AreIdle slots old → KeepsEnds old a
      → kind_at slot.0 a ≡ Some kinds.Item
  kind_left slots a others idle ends =
      subst (λ (s : Slot). kind_at s.0 a ≡ Some kinds.Item) item.here
      (kind_told (l.at.item item.row.id) (item_record l.at kept.items item.row).row a
      (item_row_is l.at kept a (rows_left l.at kept targets slots old a others idle ends l.laid.rows) id item.row
      item.there))

  -- ---- a title goes

  module _ (row : Row) (read : row_in slot old ≡ Some (item_row row)) (a : Pages)
      (freed : (slots text : List ℕ) → row.title.slot ≡ first_in slots → Hold slots text old → FreesSlots slots old a)
    where
      same_row : item_row row ≡ (item_record l.at kept.items item.row).row
      same_row =
          let is : Some (item_row row) ≡ Some (item_record l.at kept.items item.row).row =
          sym read ∙ ap (λ (s : Slot). row_in s old) (sym item.here)
          ∙ item_row_is l.at kept old l.laid.rows id item.row item.there in
          cc

      -- the row says where the title begins, and how long it is
      title_first : row.title.slot ≡ first_in own_slots
      title_first =
          let is : item_row row ≡ (item_record l.at kept.items item.row).row = same_row in
          cc

      title_long : length item.row.title ≡ row.title.length
      title_long =
          let is : item_row row ≡ (item_record l.at kept.items item.row).row = same_row in
          cc

      frees : FreesSlots own_slots old a
      frees = freed own_slots item.row.title title_first held

      pub freed_kind : kind_at slot.0 a ≡ Some kinds.Item
      freed_kind =
          kind_left own_slots a frees.others (held_idle own_slots item.row.title old held)
          (freed_ends (header_of a).first_free old a frees.header)

      dropped_count : (live slots : ℕ) → live ≡ live_slots (store_of kept) → slots ≡ chunk_count row.title.length
          → (slots ≤ live) × (live - slots ≡ live_slots (store_of (with_entitled id [] kept)))
      dropped_count live slots live_is slots_is =
          let counted : live_slots (store_of (with_entitled id [] kept)) + chunks item.row.title
          ≡ live_slots (store_of kept) + chunks [] =
          entitled_slots kept id [] item.row l.rows.well item.there in
          let same : slots ≡ chunks item.row.title = slots_is ∙ sym (ap chunk_count title_long) in
          (omega (arith, counted, same, live_is), omega (arith, counted, same, live_is))

      -- the title's slots are among the live ones
      pub drop_few : (b : Pages) (text : TextAt) → SetsRow slot (rows.with_item_title text) a b → (live slots : ℕ)
          → live ≡ (header_of b).live → slots ≡ chunk_count row.title.length → slots ≤ live
      drop_few b text sets live slots live_is slots_is =
          (dropped_count live slots
          (live_is ∙ ap (λ h. h.live) sets.header ∙ ap (λ h. h.live) frees.header ∙ l.laid.header.live) slots_is).0

      module _ (b c : Pages) (text : TextAt) (bare : text ≡ record { slot = record { 0 = 0 }; length = 0 })
          (sets : SetsRow slot (rows.with_item_title text) a b) (live slots : ℕ) (live_is : live ≡ (header_of b).live)
          (slots_is : slots ≡ chunk_count row.title.length)
          (counts : SetsHeader (λ h. record h { live = live - slots }) b c) (arena : IsArena c) where
        dropped_header : live - slots ≡ live_slots (store_of (with_entitled id [] kept))
            → IsHeader (with_entitled id [] kept) (header_of c)
        dropped_header counted =
            record {
              form =
                  ap (λ h. h.form) counts.header ∙ ap (λ h. h.form) sets.header ∙ ap (λ h. h.form) frees.header
                  ∙ l.laid.header.form;
              day =
                  ap (λ h. h.day) counts.header ∙ ap (λ h. h.day) sets.header ∙ ap (λ h. h.day) frees.header
                  ∙ l.laid.header.day;
              ids =
                  ap (λ h. h.ids) counts.header ∙ ap (λ h. h.ids) sets.header ∙ ap (λ h. h.ids) frees.header
                  ∙ l.laid.header.ids;
              live = ap (λ h. h.live) counts.header ∙ counted;
              rest =
                  ap (λ h. h.rest) counts.header ∙ ap (λ h. h.rest) sets.header ∙ ap (λ h. h.rest) frees.header
                  ∙ l.laid.header.rest;
            }

        pub drop_moves : IsTitle [] → AreLinked (with_entitled id [] kept) targets c pages visits items
        drop_moves title =
            let live_was : live ≡ live_slots (store_of kept) =
            live_is ∙ ap (λ h. h.live) sets.header ∙ ap (λ h. h.live) frees.header ∙ l.laid.header.live in
            let counted = dropped_count live slots live_was slots_is in
            let idle = held_idle own_slots item.row.title old held in
            let ends : KeepsEnds old a = freed_ends (header_of a).first_free old a frees.header in
            record {
              at = with_title_there id [] l.at;
              rows =
                  entitled_rows kept targets id [] l.rows title
                  (omega (arith, counted.1, live_was, l.rows.well.live));
              laid =
                  title_put kept targets l.at [] [] text id slot item.row item.there item.here
                  (ap (λ t. t.slot) bare) (ap (λ t. t.length) bare) a b c sets (live - slots) counts arena
                  (rows_left l.at kept targets own_slots old a frees.others idle ends l.laid.rows)
                  (dropped_texts l.at kept targets old a l.rows l.laid id item.row item.there frees)
                  (dropped_once l.at kept targets old a l.rows l.laid id item.row item.there frees)
                  (live_left l.at kept targets own_slots old a frees.others idle ends l.laid.live)
                  (chains_left l.at kept targets own_slots old a frees.others idle ends l.laid.chains)
                  (alone_left l.at kept targets own_slots old a frees.others idle ends l.laid.alone)
                  (dropped_header counted.1);
              indexed =
                  entries_mapped (at_item id (titled [])) (tree_at id (titled []) (keeps_titled [])) kept l.at
                  (title_there l.at id []) pages visits items l.indexed;
            }

        pub drop_base : (IsArena old → IsArena a) → (bytes : List ℕ) → IsBaseOf old bytes → IsBaseOf c bytes
        drop_base still bytes base =
            base_kept (header_page ∷ []) b c sets.arena.whole counts.pages bytes
            (base_kept (slot_page slot.0 ∷ []) a b (still l.laid.arena).whole sets.pages bytes
            (base_kept (pages_of own_slots) old a l.laid.arena.whole frees.pages bytes base))

  -- ---- a title comes

  module _ (title : List ℕ) (bare : item_title kept.items id ≡ Some [])
      (few : live_slots (store_of (with_entitled id title kept)) ≤ slot_limit) where
    empty : item.row.title ≡ []
    empty =
        same_Some item.row.title []
        (sym (ap (option_map (λ (i : Item). i.title)) item.there) ∙ bare)

    given_count : live_slots (store_of (with_entitled id title kept)) ≡ live_slots (store_of kept) + chunks title
    given_count = omega (arith, entitled_slots kept id title item.row l.rows.well item.there, ap chunks empty)

    pub given_room : live_count old + chunks title ≤ slot_limit
    given_room = omega (arith, live_counted l.at kept targets old l.rows l.laid, given_count, few)

    module _ (a : Pages) (text : TextAt) (stored : StoresText text.slot title old a) (fields : KeepsFields old a) where
      pub stored_kind : kind_at slot.0 a ≡ Some kinds.Item
      stored_kind =
          kind_left stored.slots a stored.others (fresh_idle stored.slots old stored.fresh) (fields_ends old a fields)

      module _ (b : Pages) (sets : SetsRow slot (rows.with_item_title text) a b) (live slots : ℕ)
          (live_is : live ≡ (header_of b).live) (long : text.length ≡ length title)
          (slots_is : slots ≡ chunk_count text.length) where
        counted : live + slots ≡ live_slots (store_of (with_entitled id title kept))
        counted =
            let same : slots ≡ chunks title = slots_is ∙ ap chunk_count long in
            omega (
              arith,
              live_is ∙ ap (λ h. h.live) sets.header ∙ ap (λ h. h.live) fields ∙ l.laid.header.live,
              same,
              given_count,
            )

        pub give_few : live + slots ≤ slot_limit
        give_few = omega (arith, counted, few)

        module _ (c : Pages) (counts : SetsHeader (λ h. record h { live = live + slots }) b c) (arena : IsArena c)
          where
            given_header : IsHeader (with_entitled id title kept) (header_of c)
            given_header =
                record {
                  form =
                      ap (λ h. h.form) counts.header ∙ ap (λ h. h.form) sets.header ∙ ap (λ h. h.form) fields
                      ∙ l.laid.header.form;
                  day =
                      ap (λ h. h.day) counts.header ∙ ap (λ h. h.day) sets.header ∙ ap (λ h. h.day) fields
                      ∙ l.laid.header.day;
                  ids =
                      ap (λ h. h.ids) counts.header ∙ ap (λ h. h.ids) sets.header ∙ ap (λ h. h.ids) fields
                      ∙ l.laid.header.ids;
                  live = ap (λ h. h.live) counts.header ∙ counted;
                  rest =
                      ap (λ h. h.rest) counts.header ∙ ap (λ h. h.rest) sets.header ∙ ap (λ h. h.rest) fields
                      ∙ l.laid.header.rest;
                }

            pub give_moves : IsTitle title → AreLinked (with_entitled id title kept) targets c pages visits items
            give_moves is =
                let idle = fresh_idle stored.slots old stored.fresh in
                let ends : KeepsEnds old a = fields_ends old a fields in
                record {
                  at = with_title_there id stored.slots l.at;
                  rows = entitled_rows kept targets id title l.rows is few;
                  laid =
                      title_put kept targets l.at title stored.slots text id slot item.row item.there item.here
                      stored.first long a b c sets (live + slots) counts arena
                      (rows_left l.at kept targets stored.slots old a stored.others idle ends l.laid.rows)
                      (given_texts l.at kept targets old a l.rows l.laid id item.row item.there title empty
                      stored.slots stored.held stored.fresh stored.others)
                      (given_once l.at kept targets old a l.rows l.laid id item.row item.there title empty
                      stored.slots stored.held stored.fresh stored.others)
                      (live_left l.at kept targets stored.slots old a stored.others idle ends l.laid.live)
                      (chains_left l.at kept targets stored.slots old a stored.others idle ends l.laid.chains)
                      (alone_left l.at kept targets stored.slots old a stored.others idle ends l.laid.alone)
                      given_header;
                  indexed =
                      entries_mapped (at_item id (titled title)) (tree_at id (titled title) (keeps_titled title)) kept
                      l.at (title_there l.at id stored.slots) pages visits items l.indexed;
                }

            pub give_base : (IsArena old → IsArena a) → (bytes : List ℕ) → IsBaseOf old bytes → IsBaseOf c bytes
            give_base still bytes base =
                base_kept (header_page ∷ []) b c sets.arena.whole counts.pages bytes
                (base_kept (slot_page slot.0 ∷ []) a b (still l.laid.arena).whole sets.pages bytes
                (base_kept (pages_of stored.slots) old a l.laid.arena.whole stored.pages bytes base))

-- The title of a page goes by three calls, and comes by three: what they leave of the rows and the
-- bytes.
use Rattle.std.proofs.Common.{◌≡◌, ◌∙◌, ◌+◌, ◌-◌, ◌∷◌, ◌≤◌, [], ℕ, List, Some, ap, arith, length, sym, true}
use Rattle.std.proofs.Common.{◌==◌, Bool, None, Option, false, find, if◌then◌else◌, map, refl}
use Rattle.std.specs.Option.{option_map}
use Rattle.std.proofs.lemmas.Str.{IsUtf8-nil}
use Rattle.std.proofs.lemmas.Option.{same_Some}
use Rattle.pl_base.specs.declared.id.PageId.{PageId}
use Rattle.pl_base.specs.declared.id.Slot.{Slot}
use Rattle.pl_base.specs.declared.id.VisitId.{VisitId}
use Rattle.pl_base.specs.Good.{IsTitle}
use Rattle.pl_base.specs.Live.{chunks, live_slots, slot_limit}
use Rattle.pl_base.specs.Rows.{Kept, KeptPage, has_page, page_at, store_of, title_of, titled, with_title}
use Rattle.pl_base.specs.Store.{Visit}
use Rattle.pl_base.proofs.LookUps.{found_some}
use Rattle.pl_record.specs.declared.rows.Place.{Place}
use Rattle.pl_record.specs.declared.rows.TextAt.{TextAt}
use Rattle.pl_record.specs.LinkedRows.{AreLinked, Entries, IsBaseOf, slot_at}
use Rattle.pl_record.proofs.NamedSlots.{found_of}
use Rattle.pl_record.specs.Rows as rows
use Rattle.pl_record.specs.Rows.{SetsRow, place_row, row_in}
use Rattle.pl_record.proofs.Bases.{base_kept}
use Rattle.pl_record.proofs.ChainsKept.{fields_ends, freed_ends}
use Rattle.pl_record.proofs.SlotsBeside.{fresh_idle, held_idle}
use Rattle.pl_record.proofs.TitleLinked.{dropped_count, given_count, kind_left, page}
use Rattle.pl_record.proofs.TitleLinked.{title_dropped, title_first, title_given, title_held, title_is}
use Rattle.pl_sheets.specs.Sheets.{Pages}
use Rattle.pl_slot.specs.declared.kind.SlotKind.TheVariants as kinds
use Rattle.pl_slot.specs.Arena.{IsArena, KeepsFields, SetsHeader, first_in, header_of, header_page, slot_page}
use Rattle.pl_slot.specs.Links.{kind_at}
use Rattle.pl_text.specs.Chunks.{FreesSlots, Hold, StoresText, chunk_count, pages_of}

module _ (kept : Kept) (targets : VisitId → List Visit) (old : Pages) (pages visits items : Entries)
    (l : AreLinked kept targets old pages visits items) (id : PageId) (slot : Slot)
    (some : slot_at pages id.0 ≡ Some slot) (there : has_page kept id ≡ true) where
  -- ---- a title goes

  module _ (place : Place) (read : row_in slot old ≡ Some (place_row place)) (a : Pages)
      (freed : (slots text : List ℕ) → place.title.slot ≡ first_in slots → Hold slots text old → FreesSlots slots old a)
    where
      frees : FreesSlots (l.at.title (page kept targets old pages visits items l id slot some).row.page.id) old a
      frees =
          let p = page kept targets old pages visits items l id slot some in
          freed (l.at.title p.row.page.id) p.row.page.title
          (title_first kept targets old pages visits items l id slot some place read)
          (title_held kept targets old pages visits items l id slot some)

      pub freed_kind : kind_at slot.0 a ≡ Some kinds.Place
      freed_kind =
          let p = page kept targets old pages visits items l id slot some in
          kind_left kept targets old pages visits items l id slot some (l.at.title p.row.page.id) a frees.others
          (held_idle (l.at.title p.row.page.id) p.row.page.title old
          (title_held kept targets old pages visits items l id slot some))
          (freed_ends (header_of a).first_free old a frees.header)

      module _ (b c : Pages) (text : TextAt) (bare : text ≡ record { slot = record { 0 = 0 }; length = 0 })
          (sets : SetsRow slot (rows.with_title text) a b) (live slots : ℕ) (live_is : live ≡ (header_of b).live)
          (slots_is : slots ≡ chunk_count place.title.length)
          (counts : SetsHeader (λ h. record h { live = live - slots }) b c) (arena : IsArena c) where
        live_was : live ≡ live_slots (store_of kept)
        live_was =
            live_is ∙ ap (λ h. h.live) sets.header ∙ ap (λ h. h.live) frees.header ∙ l.laid.header.live

        pub drop_moves : IsTitle [] → AreLinked (with_title id [] kept) targets c pages visits items
        drop_moves title =
            let counted = dropped_count kept targets old pages visits items l id slot some place read there live slots
            live_was slots_is in
            title_dropped kept targets old pages visits items l id slot some a b c text sets (live - slots) counts arena
            bare title (omega (arith, counted.1, live_was, l.rows.well.live)) counted.1 frees

        pub drop_base : (IsArena old → IsArena a) → (bytes : List ℕ) → IsBaseOf old bytes → IsBaseOf c bytes
        drop_base still bytes base =
            let p = page kept targets old pages visits items l id slot some in
            base_kept (header_page ∷ []) b c sets.arena.whole counts.pages bytes
            (base_kept (slot_page slot.0 ∷ []) a b (still l.laid.arena).whole sets.pages bytes
            (base_kept (pages_of (l.at.title p.row.page.id)) old a l.laid.arena.whole frees.pages bytes base))

      -- the title's slots are among the live ones
      pub drop_few : (b : Pages) (text : TextAt) → SetsRow slot (rows.with_title text) a b → (live slots : ℕ)
          → live ≡ (header_of b).live → slots ≡ chunk_count place.title.length → slots ≤ live
      drop_few b text sets live slots live_is slots_is =
          (dropped_count kept targets old pages visits items l id slot some place read there live slots
          (live_is ∙ ap (λ h. h.live) sets.header ∙ ap (λ h. h.live) frees.header ∙ l.laid.header.live) slots_is).0

  -- ---- a title comes

  module _ (title : List ℕ) (bare : title_of kept id ≡ Some [])
      (few : live_slots (store_of (with_title id title kept)) ≤ slot_limit) (a : Pages) (text : TextAt)
      (stored : StoresText text.slot title old a) (fields : KeepsFields old a) where
    pub stored_kind : kind_at slot.0 a ≡ Some kinds.Place
    stored_kind =
        kind_left kept targets old pages visits items l id slot some stored.slots a stored.others
        (fresh_idle stored.slots old stored.fresh) (fields_ends old a fields)

    module _ (b : Pages) (sets : SetsRow slot (rows.with_title text) a b) (live slots : ℕ)
        (live_is : live ≡ (header_of b).live) (long : text.length ≡ length title)
        (slots_is : slots ≡ chunk_count text.length) where
      counted : live + slots ≡ live_slots (store_of (with_title id title kept))
      counted =
          let same : slots ≡ chunks title = slots_is ∙ ap chunk_count long in
          omega (
            arith,
            live_is ∙ ap (λ h. h.live) sets.header ∙ ap (λ h. h.live) fields ∙ l.laid.header.live,
            same,
            given_count kept targets old pages visits items l id slot some title there bare,
          )

      pub give_few : live + slots ≤ slot_limit
      give_few = omega (arith, counted, few)

      module _ (c : Pages) (counts : SetsHeader (λ h. record h { live = live + slots }) b c) (arena : IsArena c) where
        pub give_moves : IsTitle title → AreLinked (with_title id title kept) targets c pages visits items
        give_moves is =
            let empty : (page kept targets old pages visits items l id slot some).row.page.title ≡ [] =
            same_Some _ _ (sym (title_is kept targets old pages visits items l id slot some) ∙ bare) in
            title_given kept targets old pages visits items l id slot some a b c text sets (live + slots) counts arena
            title empty is few counted long stored fields

        pub give_base : (IsArena old → IsArena a) → (bytes : List ℕ) → IsBaseOf old bytes → IsBaseOf c bytes
        give_base still bytes base =
            base_kept (header_page ∷ []) b c sets.arena.whole counts.pages bytes
            (base_kept (slot_page slot.0 ∷ []) a b (still l.laid.arena).whole sets.pages bytes
            (base_kept (pages_of stored.slots) old a l.laid.arena.whole stored.pages bytes base))

-- an empty title is one
pub empty_title : IsTitle []
empty_title = (IsUtf8-nil, omega arith)

-- a page that has a title is there, and it has none where its title was set to that
pub titled_there : (kept : Kept) (id : PageId) (title : List ℕ) → title_of kept id ≡ Some title → has_page kept id
    ≡ true
titled_there kept id title is = choose (page_at kept id) refl is
  where
    choose : (o : Option KeptPage) → page_at kept id ≡ o → option_map (λ (p : KeptPage). p.page.title) o ≡ Some title
        → has_page kept id ≡ true
    choose None found some = absurd (cc)
    choose (Some p) found some = found_some (λ (p : KeptPage). p.page.id.0 == id.0) kept.pages p found

pub bare_then : (kept : Kept) (id : PageId) → has_page kept id ≡ true → title_of (with_title id [] kept) id ≡ Some []
bare_then kept id there =
    let found = found_of (λ (p : KeptPage). p.page.id.0 == id.0) kept.pages there in
    bare kept.pages found.0 found.1
  where
    bare : (ps : List KeptPage) (p : KeptPage) → find (λ (q : KeptPage). q.page.id.0 == id.0) ps ≡ Some p
        → option_map (λ (q : KeptPage). q.page.title)
        (find (λ (q : KeptPage). q.page.id.0 == id.0)
        (map (λ (q : KeptPage). if q.page.id.0 == id.0 then titled [] q else q) ps)) ≡ Some []
    bare [] p found = absurd (cc)
    bare (q ∷ qs) p found = choose (q.page.id.0 == id.0) refl found (bare qs p)
      where
        choose : (b : Bool) → (q.page.id.0 == id.0) ≡ b
            → (if b then Some q else find (λ (r : KeptPage). r.page.id.0 == id.0) qs) ≡ Some p
            → (find (λ (r : KeptPage). r.page.id.0 == id.0) qs ≡ Some p
            → option_map (λ (r : KeptPage). r.page.title)
            (find (λ (r : KeptPage). r.page.id.0 == id.0)
            (map (λ (r : KeptPage). if r.page.id.0 == id.0 then titled [] r else r) qs)) ≡ Some [])
            → option_map (λ (r : KeptPage). r.page.title)
            (find (λ (r : KeptPage). r.page.id.0 == id.0)
            ((if b then titled [] q else q)
            ∷ map (λ (r : KeptPage). if r.page.id.0 == id.0 then titled [] r else r) qs)) ≡ Some []
        choose true is here rest = rw is refl
        choose false is here rest = rw is (rest here)

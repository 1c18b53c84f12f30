-- A page comes with an origin of its own, by a few calls: what these ask for, and what they leave
-- of the rows.
use Rattle.std.proofs.Common.{◌≡◌, ◌≢◌, ◌∙◌, ◌+◌, ◌++◌, ◌==◌, ◌<◌, ◌≤◌, ◌||◌, ◌∷◌, [], ℕ, List, None, Some, ap, arith}
use Rattle.std.proofs.Common.{eq-eqb, false, if◌then◌else◌, inl, inr, length, map, not, refl, subst, sym, true}
use Rattle.std.specs.List.{All, AllByRecursion}
use Rattle.std.proofs.lemmas.Bool.{cases_Bool, or_right, true≢false}
use Rattle.std.proofs.lemmas.List.{map-append}
use Rattle.std.proofs.lemmas.List.Elements.{recursion_from_All}
use Rattle.std.proofs.lemmas.List.Folds.{list_any-append}
use Rattle.pl_base.specs.declared.id.Ids.{Ids}
use Rattle.pl_base.specs.declared.id.Slot.{Slot}
use Rattle.pl_base.specs.declared.id.VisitId.{VisitId}
use Rattle.pl_base.specs.Address.{is_store_url}
use Rattle.pl_base.specs.Good.{end_of_ids}
use Rattle.pl_base.specs.Live.{chunks, live_slots, slot_limit}
use Rattle.pl_base.specs.Rows.{IsOriginOf, Kept, KeptOrigin, KeptPage, has_origin, live_with_page, store_of}
use Rattle.pl_base.specs.Rows.{with_new_page, with_origin, with_origins}
use Rattle.pl_base.specs.Store.{Visit}
use Rattle.pl_base.proofs.LookUps.{none_pass, part}
use Rattle.pl_record.specs.ChainMap.{AreApart, AreChains, ChainMap}
use Rattle.pl_record.specs.Chains.{page_slots, pages_in}
use Rattle.pl_record.specs.LinkedRows.{AreLinked, Entries}
use Rattle.pl_record.specs.Records.{HoldsRow, origin_record}
use Rattle.pl_record.specs.Rows.{origin_row, record_at}
use Rattle.pl_record.specs.SlotChanges.{CountsPage, InsertsOrigin, InsertsPlace, KeepsAll, RemovesOrigin}
use Rattle.pl_record.proofs.ChainsKept.{fields_ends}
use Rattle.pl_record.proofs.Filled.{IsFilled, filled, laid_out}
use Rattle.pl_record.proofs.FilledMoves.{filled_live}
use Rattle.pl_record.proofs.LaidSlots.{kind_live}
use Rattle.pl_record.proofs.LiveCounted.{live_counted}
use Rattle.pl_record.proofs.OriginComes.{no_pages, origin_comes}
use Rattle.pl_record.proofs.OriginGoes.{origin_goes, other_origins}
use Rattle.pl_record.proofs.PageAdded.{new_rows, new_slots}
use Rattle.pl_record.proofs.PageCalls.{few_then, next_id, number_is, room_then, same_live}
use Rattle.pl_record.proofs.PageInserted.{page_inserted}
use Rattle.pl_record.proofs.PagesTold.{kind_told, origin_kind}
use Rattle.pl_record.proofs.RecordMaps.{record_held}
use Rattle.pl_record.proofs.RowKinds.{link_there, slot_of_kind}
use Rattle.pl_rail.specs.declared.owner.Owner.TheVariants.{At, Header}
use Rattle.pl_rail.specs.Rails.{HasMember, Lists}
use Rattle.pl_sheets.specs.Sheets.{Pages}
use Rattle.pl_slot.specs.declared.kind.LiveKind.TheVariants as live
use Rattle.pl_slot.specs.declared.kind.SlotKind.TheVariants as kinds
use Rattle.pl_slot.specs.declared.links.Link.TheVariants.{First}
use Rattle.pl_slot.specs.declared.links.Rail.TheVariants.{Live, OriginPages}
use Rattle.pl_slot.specs.Arena.{IsArena, SetsHeader, header_of, live_count}
use Rattle.pl_slot.specs.Links.{kind_at}
use Rattle.pl_slot.proofs.ArenaLaws.{live_slot}
use Rattle.pl_slot.proofs.SlotPlaces.{slot_bounds}
use Rattle.pl_text.specs.Chunks.{chunk_count}

module _ (kept : Kept) (targets : VisitId → List Visit) (old : Pages) (pages visits items : Entries)
    (l : AreLinked kept targets old pages visits items) (url : List ℕ) (own : is_store_url url ≡ true)
    (apart : IsOriginOf kept url None) where
  -- no origin has a name past all slots
  far : Slot
  far = record { 0 = slot_limit + 1 }

  none_far : has_origin kept far ≡ false
  unfolding far
  none_far = elim (cases_Bool (has_origin kept far)) [
    | inl there ↦
        absurd (omega (
          arith,
          (slot_bounds far.0 old
              (slot_of_kind far.0 kinds.Origin old (origin_kind kept targets old pages visits items l far there))).1,
          l.laid.arena.few,
        ))
    | inr none ↦ none
  ]

  pub apart_room : live_with_page url kept ≤ slot_limit → live_count old < slot_limit
  unfolding far
  apart_room fits =
      let few : live_slots (store_of (with_new_page url far kept)) ≤ slot_limit =
      subst (λ n. n ≤ slot_limit) (same_live url (record { 0 = 0 }) far kept) fits in
      room_then (live_slots (store_of (with_new_page url far kept))) (live_slots (store_of kept)) (live_count old)
      (chunks url) (live_counted l.at kept targets old l.rows l.laid)
      (new_slots url far kept own apart (omega arith) none_far l.rows.well.origins) few

  module _ (origin : Slot) (one : Pages) (comes : InsertsOrigin origin old one) where
    abbrev mid : Kept
    mid = with_origin origin kept

    row_is : HoldsRow (record { slot = origin; row = origin_row 0 }) one
    row_is =
        record_held (record { slot = origin; row = origin_row 0 }) one
        (comes.records origin.0
        ∙ ap (λ b. if b then Some (origin_row 0) else record_at origin.0 old) (eq-eqb origin.0 origin.0 refl))

    pub apart_kind : kind_at origin.0 one ≡ Some kinds.Origin
    apart_kind = kind_told origin (origin_row 0) one row_is

    some : 0 < origin.0
    some =
        omega (
          arith,
          (slot_bounds origin.0 one
              (live_slot origin.0 one (kind_live origin.0 kinds.Origin one apart_kind (λ free. absurd (cc))))).0,
        )

    free : has_origin kept origin ≡ false
    free = elim (cases_Bool (has_origin kept origin)) [
      | inl there ↦
          absurd (true≢false
          (sym (kind_live origin.0 kinds.Origin old
          (origin_kind kept targets old pages visits items l origin there) (λ free. absurd (cc))) ∙ comes.fresh))
      | inr none ↦ none
    ]

    filled_one : IsFilled l.at mid targets one
    filled_one =
        origin_comes l.at kept targets origin old one l.rows.well (filled l.at kept targets old l.rows l.laid) comes

    pub apart_chains : (chains : ChainMap) × AreChains chains one × AreApart OriginPages chains
    apart_chains = (filled_one.chains, filled_one.are, filled_one.apart)

    slots_then : live_slots (store_of (with_new_page url origin mid)) ≡ live_slots (store_of kept) + 1 + chunks url + 1
    slots_then = new_slots url origin kept own apart some free l.rows.well.origins

    few_slots : live_with_page url kept ≤ slot_limit → live_slots (store_of (with_new_page url origin mid)) ≤ slot_limit
    few_slots fits = subst (λ n. n ≤ slot_limit) (same_live url (record { 0 = 0 }) origin kept) fits

    pub apart_fits : live_with_page url kept ≤ slot_limit → live_count one + 1 + chunks url ≤ slot_limit
    apart_fits fits =
        omega (
          arith,
          comes.count,
          live_counted l.at kept targets old l.rows l.laid,
          slots_then,
          few_slots fits,
        )

    module _ (absent : All (λ (p : KeptPage). p.page.url ≢ url) kept.pages) (room : kept.ids.page < end_of_ids)
        (fits : live_with_page url kept ≤ slot_limit) (ids : Ids) (told : ids ≡ (header_of old).ids) (slot : Slot)
        (a : Pages) (places : InsertsPlace (record { 0 = ids.page }) url origin slot one a) where
      next : ids ≡ kept.ids
      next = told ∙ l.laid.header.ids

      live_was : (header_of a).live ≡ live_slots (store_of kept)
      live_was = places.body.live ∙ comes.body.live ∙ l.laid.header.live

      pub apart_id : (header_of a).ids.page + 1 ≤ end_of_ids
      apart_id =
          next_id a (header_of old).ids kept.ids (places.body.ids ∙ comes.body.ids) l.laid.header.ids room

      pub apart_few : (header_of a).live + 1 + chunk_count (length url) + 1 ≤ slot_limit
      apart_few =
          few_then (live_slots (store_of (with_new_page url origin mid))) (live_slots (store_of kept))
          (header_of a).live (chunk_count (length url)) 1 live_was slots_then (few_slots fits)

      pub apart_moves : (c : Pages) → CountsPage (1 + chunk_count (length url) + 1) a c → (ps : Entries)
          → ps ≡ pages ++ (ids.page, slot) ∷ []
          → AreLinked (with_new_page url origin mid) targets c ps visits items
      apart_moves c counts ps is =
          subst (λ es. AreLinked (with_new_page url origin mid) targets c es visits items)
          (sym (is ∙ ap (λ (i : Ids). pages ++ (i.page, slot) ∷ []) next))
          (page_inserted l.at mid targets url origin slot one a counts.middle c l.rows.well.page_ids
          (λ k d within. (l.rows.well.visits k d within).1) l.rows.own filled_one
          (subst (λ (i : Ids). InsertsPlace (record { 0 = i.page }) url origin slot one a) next places)
          (new_rows url origin kept own apart some free targets absent room fits l.rows)
          (record {
            form = comes.body.form ∙ l.laid.header.form;
            day = comes.body.day ∙ l.laid.header.day;
            rest = comes.body.rest ∙ l.laid.header.rest;
          })
          ((header_of a).live + (1 + chunk_count (length url) + 1))
          (subst (λ ids. SetsHeader (λ h. record h { ids = record ids { page = ids.page + 1 } }) a counts.middle)
          (places.body.ids ∙ comes.body.ids ∙ l.laid.header.ids) counts.ids)
          counts.live
          (number_is (live_slots (store_of (with_new_page url origin mid))) (live_slots (store_of kept))
          (header_of a).live (chunk_count (length url)) 1 live_was slots_then)
          counts.arena pages visits items
          (record { pages = l.indexed.pages; visits = l.indexed.visits; items = l.indexed.items }))

    -- ---- the page doesn't come, and the origin goes again

    module _ (two : Pages) (keeps : KeepsAll one two) where
      abbrev last : KeptOrigin
      last = record { origin = origin; total = 0 }

      filled_two : IsFilled l.at mid targets two
      filled_two = filled_live l.at mid targets one two filled_one (fields_ends one two keeps.fields) keeps.live

      pub undo_member : HasMember Live (Header live.Origin) origin two
      undo_member =
          record {
            front = map (λ (o : KeptOrigin). o.origin) kept.origins;
            back = [];
            lists =
                subst (λ slots. Lists Live (Header live.Origin) slots two)
                (filled_two.named.live_origins ∙ map-append (λ (o : KeptOrigin). o.origin) kept.origins (last ∷ []))
                (filled_two.are.lists Live (Header live.Origin) refl);
          }

      pub undo_chains : (chains : ChainMap) × AreChains chains two
      undo_chains = (filled_two.chains, filled_two.are)

      kind_two : kind_at origin.0 two ≡ Some kinds.Origin
      kind_two =
          kind_told origin (origin_row 0) two
          (part (λ (o : KeptOrigin). HoldsRow (origin_record o) two) kept.origins last []
          (recursion_from_All (λ (o : KeptOrigin). HoldsRow (origin_record o) two) mid.origins filled_two.rows.origins))

      pub undo_empty : Lists OriginPages (At origin) [] two
      undo_empty =
          subst (λ slots. Lists OriginPages (At origin) slots two)
          (part (λ (o : KeptOrigin). filled_two.chains OriginPages (At o.origin)
          ≡ page_slots l.at (pages_in mid o.origin)) kept.origins last []
          (recursion_from_All (λ (o : KeptOrigin). filled_two.chains OriginPages (At o.origin)
          ≡ page_slots l.at (pages_in mid o.origin)) mid.origins filled_two.named.origins)
          ∙ ap (page_slots l.at)
          (no_pages l.at kept targets origin old one l.rows.well (filled l.at kept targets old l.rows l.laid) comes))
          (filled_two.are.lists OriginPages (At origin)
          (link_there OriginPages First origin.0 kinds.Origin 12 two kind_two refl))

      module _ (three : Pages) (goes : RemovesOrigin origin two three) (arena : IsArena three) where
        there : has_origin mid origin ≡ true
        there =
            list_any-append (λ (o : KeptOrigin). o.origin.0 == origin.0) kept.origins (last ∷ [])
            ∙ or_right (has_origin kept origin) ((origin.0 == origin.0) || false)
            (ap (λ b. b || false) (eq-eqb origin.0 origin.0 refl))

        others : other_origins origin mid.origins ≡ kept.origins
        others = but_last kept.origins (none_pass (λ (o : KeptOrigin). o.origin.0 == origin.0) kept.origins free)
          where
            but_last : (os : List KeptOrigin) → AllByRecursion (λ (o : KeptOrigin). (o.origin.0 == origin.0) ≡ false) os
                → other_origins origin (os ++ last ∷ []) ≡ os
            but_last [] none = ap (λ b. if not b then last ∷ [] else []) (eq-eqb origin.0 origin.0 refl)
            but_last (o ∷ os) none =
                ap
                (λ b. if not b then o ∷ other_origins origin (os ++ last ∷ []) else other_origins origin (os ++ last ∷ []))
                none.0
                ∙ ap (λ rest. o ∷ rest) (but_last os none.1)

        same : with_origins (other_origins origin mid.origins) mid ≡ kept
        same = ap (λ os. record kept { origins = os }) others

        pub apart_undone : AreLinked kept targets three pages visits items
        apart_undone =
            record {
              at = l.at;
              rows = l.rows;
              laid =
                  laid_out l.at kept targets three
                  (subst (λ k. IsFilled l.at k targets three) same
                  (origin_goes l.at mid targets origin two there filled_two three goes)) arena
                  (record {
                    form =
                        goes.body.form ∙ ap (λ h. h.form) keeps.fields ∙ comes.body.form ∙ l.laid.header.form;
                    day = goes.body.day ∙ ap (λ h. h.day) keeps.fields ∙ comes.body.day ∙ l.laid.header.day;
                    ids = goes.body.ids ∙ ap (λ h. h.ids) keeps.fields ∙ comes.body.ids ∙ l.laid.header.ids;
                    live = goes.body.live ∙ ap (λ h. h.live) keeps.fields ∙ comes.body.live ∙ l.laid.header.live;
                    rest = goes.body.rest ∙ ap (λ h. h.rest) keeps.fields ∙ comes.body.rest ∙ l.laid.header.rest;
                  });
              indexed = l.indexed;
            }

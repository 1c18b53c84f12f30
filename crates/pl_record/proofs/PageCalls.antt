-- A page comes by a few calls: what these ask for, and what they leave of the rows.
use Rattle.std.proofs.Common.{◌≡◌, ◌≢◌, ◌∙◌, ◌+◌, ◌++◌, ◌==◌, ◌&&◌, ◌<◌, ◌≤◌, ◌∷◌, [], ℕ, List, Some, ap, arith, eqb-true}
use Rattle.std.proofs.Common.{length, map, subst, sym, true}
use Rattle.std.specs.List.{All, AllByRecursion}
use Rattle.std.proofs.lemmas.Bool.{and_parts}
use Rattle.std.proofs.lemmas.List.{map-append}
use Rattle.std.proofs.lemmas.List.Elements.{All-weaker, recursion_from_All}
use Rattle.pl_base.specs.declared.id.Ids.{Ids}
use Rattle.pl_base.specs.declared.id.Slot.{Slot}
use Rattle.pl_base.specs.declared.id.VisitId.{VisitId}
use Rattle.pl_base.specs.Address.{is_store_url, same_origin}
use Rattle.pl_base.specs.Good.{end_of_ids}
use Rattle.pl_base.specs.Live.{chunks, live_slots, slot_limit}
use Rattle.pl_base.specs.Rows.{IsOriginOf, Kept, KeptPage, has_origin, live_with_page, next_page, store_of, with_new_page}
use Rattle.pl_base.specs.Store.{Page, Visit}
use Rattle.pl_base.proofs.ListLaws.{from_map, to_map}
use Rattle.pl_base.proofs.LookUps.{found_passes}
use Rattle.pl_record.specs.ChainMap.{AreApart, AreChains, ChainMap}
use Rattle.pl_record.specs.LinkedRows.{AreLinked, Entries}
use Rattle.pl_record.proofs.NamedSlots.{found_all, found_of}
use Rattle.pl_record.specs.SlotChanges.{CountsPage, InsertsPlace}
use Rattle.pl_record.proofs.Filled.{filled}
use Rattle.pl_record.proofs.LaidChains.{chains_of, laid_chains, origins_apart}
use Rattle.pl_record.proofs.LiveCounted.{live_counted, room_for}
use Rattle.pl_record.proofs.OriginsCounted.{all_named}
use Rattle.pl_record.proofs.PageAdded.{known_rows, known_slots}
use Rattle.pl_record.proofs.PageInserted.{page_inserted}
use Rattle.pl_record.proofs.PagesTold.{origin_kind}
use Rattle.pl_sheets.specs.Sheets.{Pages}
use Rattle.pl_slot.specs.declared.kind.SlotKind.TheVariants as kinds
use Rattle.pl_slot.specs.declared.links.Rail.TheVariants.{OriginPages}
use Rattle.pl_slot.specs.Arena.{SetsHeader, header_of, live_count}
use Rattle.pl_slot.specs.Links.{kind_at}
use Rattle.pl_text.specs.Chunks.{chunk_count}

-- ---- numbers of slots

no_more : (live chunks : ℕ) → live + 1 + chunks ≡ live + 1 + chunks + 0
no_more live chunks = omega arith

pub room_then : (after before count chunks : ℕ) → count ≡ before → after ≡ before + 1 + chunks + 1
    → after ≤ slot_limit → count < slot_limit
room_then after before count chunks is more few = omega (arith, is, more, few)

pub few_then : (after before live chunks more : ℕ) → live ≡ before → after ≡ before + 1 + chunks + more
    → after ≤ slot_limit → live + 1 + chunks + more ≤ slot_limit
few_then after before live chunks more is then_is few = omega (arith, is, then_is, few)

pub number_is : (after before live chunks more : ℕ) → live ≡ before → after ≡ before + 1 + chunks + more
    → live + (1 + chunks + more) ≡ after
number_is after before live chunks more is then_is = omega (arith, is, then_is)

pub next_id : (pages : Pages) (before ids : Ids) → (header_of pages).ids ≡ before → before ≡ ids → ids.page < end_of_ids
    → (header_of pages).ids.page + 1 ≤ end_of_ids
next_id pages before ids same is room = omega (arith, ap (λ (i : Ids). i.page) (same ∙ is), room)

-- the store is the same in whatever origin the page is
pub same_live : (url : List ℕ) (one other : Slot) (kept : Kept)
    → live_slots (store_of (with_new_page url one kept)) ≡ live_slots (store_of (with_new_page url other kept))
same_live url one other kept =
    ap (λ (ps : List Page). live_slots (record (store_of (with_new_page url one kept)) { pages = ps }))
    (map-append (λ (p : KeptPage). p.page) kept.pages (next_page url one kept ∷ [])
    ∙ sym (map-append (λ (p : KeptPage). p.page) kept.pages (next_page url other kept ∷ [])))

module _ (kept : Kept) (targets : VisitId → List Visit) (old : Pages) (pages visits items : Entries)
    (l : AreLinked kept targets old pages visits items) where
  pub next_page_id : (ids : Ids) → ids ≡ (header_of old).ids → ids.page ≡ kept.ids.page
  next_page_id ids told = ap (λ (i : Ids). i.page) (told ∙ l.laid.header.ids)

  -- the next id is behind all others
  pub last_id : (ids : Ids) → ids ≡ (header_of old).ids → AllByRecursion (λ (e : ℕ × Slot). e.0 < ids.page) pages
  last_id ids told =
      subst (λ n. AllByRecursion (λ (e : ℕ × Slot). e.0 < n) pages) (sym (next_page_id ids told))
      (subst (AllByRecursion (λ (e : ℕ × Slot). e.0 < kept.ids.page)) (sym l.indexed.pages)
      (to_map (λ (e : ℕ × Slot). e.0 < kept.ids.page) (λ (p : KeptPage). (p.page.id.0, l.at.page p.page.id)) kept.pages
      (from_map (λ n. n < kept.ids.page) (λ (p : KeptPage). p.page.id.0) kept.pages
      (recursion_from_All (λ n. n < kept.ids.page) (map (λ (p : KeptPage). p.page.id.0) kept.pages)
      (All-weaker (λ n. (0 < n) × (n < kept.ids.page)) (λ n. n < kept.ids.page) (λ n given. given.1)
      (map (λ (p : KeptPage). p.page.id.0) kept.pages) l.rows.well.page_ids.given)))))

  pub page_chains : (chains : ChainMap) × AreChains chains old × AreApart OriginPages chains
  page_chains = (
    chains_of l.at kept targets,
    laid_chains l.at kept targets old l.rows l.laid,
    origins_apart l.at kept targets old l.laid.rows,
  )

  -- ---- in an origin that is there

  module _ (url : List ℕ) (origin : Slot) (own : is_store_url url ≡ true)
      (there : IsOriginOf kept url (Some origin)) where
    known_origin : has_origin kept origin ≡ true
    known_origin =
        let found =
        found_of (λ (p : KeptPage). (p.origin.0 == origin.0) && same_origin p.page.url url) kept.pages there in
        let passes : ((found.0.origin.0 == origin.0) && same_origin found.0.page.url url) ≡ true =
        found_passes (λ (p : KeptPage). (p.origin.0 == origin.0) && same_origin p.page.url url) kept.pages found.0
        found.1 in
        let parts = and_parts (found.0.origin.0 == origin.0) (same_origin found.0.page.url url) passes in
        ap (λ n. has_origin kept (record { 0 = n })) (sym (eqb-true found.0.origin.0 origin.0 parts.0))
        ∙ found_all (λ (p : KeptPage). has_origin kept p.origin ≡ true)
        (λ (p : KeptPage). (p.origin.0 == origin.0) && same_origin p.page.url url) kept.pages found.0
        (all_named kept l.rows.well.origins) found.1

    pub known_kind : kind_at origin.0 old ≡ Some kinds.Origin
    known_kind = origin_kind kept targets old pages visits items l origin known_origin

    pub known_room : live_with_page url kept ≤ slot_limit → live_count old + 1 + chunks url ≤ slot_limit
    known_room fits =
        let few : live_slots (store_of (with_new_page url origin kept)) ≤ slot_limit =
        subst (λ n. n ≤ slot_limit) (same_live url (record { 0 = 0 }) origin kept) fits in
        room_for (live_slots (store_of (with_new_page url origin kept))) (live_slots (store_of kept)) (live_count old)
        (chunks url) (live_counted l.at kept targets old l.rows l.laid)
        (known_slots url origin kept own there l.rows.well.origins) few

    module _ (absent : All (λ (p : KeptPage). p.page.url ≢ url) kept.pages) (room : kept.ids.page < end_of_ids)
        (fits : live_with_page url kept ≤ slot_limit) (ids : Ids) (told : ids ≡ (header_of old).ids) (slot : Slot)
        (a : Pages) (places : InsertsPlace (record { 0 = ids.page }) url origin slot old a) where
      next : ids ≡ kept.ids
      next = told ∙ l.laid.header.ids

      live_was : (header_of a).live ≡ live_slots (store_of kept)
      live_was = places.body.live ∙ l.laid.header.live

      slots_then : live_slots (store_of (with_new_page url origin kept))
          ≡ live_slots (store_of kept) + 1 + chunks url + 0
      slots_then =
          known_slots url origin kept own there l.rows.well.origins ∙ no_more (live_slots (store_of kept)) (chunks url)

      pub known_id : (header_of a).ids.page + 1 ≤ end_of_ids
      known_id = next_id a (header_of old).ids kept.ids places.body.ids l.laid.header.ids room

      pub known_few : (header_of a).live + 1 + chunk_count (length url) + 0 ≤ slot_limit
      known_few =
          few_then (live_slots (store_of (with_new_page url origin kept))) (live_slots (store_of kept))
          (header_of a).live (chunk_count (length url)) 0 live_was slots_then
          (subst (λ n. n ≤ slot_limit) (same_live url (record { 0 = 0 }) origin kept) fits)

      pub known_moves : (c : Pages) → CountsPage (1 + chunk_count (length url) + 0) a c → (ps : Entries)
          → ps ≡ pages ++ (ids.page, slot) ∷ []
          → AreLinked (with_new_page url origin kept) targets c ps visits items
      known_moves c counts ps is =
          subst (λ es. AreLinked (with_new_page url origin kept) targets c es visits items)
          (sym (is ∙ ap (λ (i : Ids). pages ++ (i.page, slot) ∷ []) next))
          (page_inserted l.at kept targets url origin slot old a counts.middle c l.rows.well.page_ids
          (λ k d within. (l.rows.well.visits k d within).1) l.rows.own
          (filled l.at kept targets old l.rows l.laid)
          (subst (λ (i : Ids). InsertsPlace (record { 0 = i.page }) url origin slot old a) next places)
          (known_rows url origin kept own there targets absent room fits l.rows)
          (record { form = l.laid.header.form; day = l.laid.header.day; rest = l.laid.header.rest })
          ((header_of a).live + (1 + chunk_count (length url) + 0))
          (subst (λ ids. SetsHeader (λ h. record h { ids = record ids { page = ids.page + 1 } }) a counts.middle)
          (places.body.ids ∙ l.laid.header.ids) counts.ids)
          counts.live
          (number_is (live_slots (store_of (with_new_page url origin kept))) (live_slots (store_of kept))
          (header_of a).live (chunk_count (length url)) 0 live_was slots_then) counts.arena pages visits items l.indexed)

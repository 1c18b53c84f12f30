-- The rows that linked slots keep without a page, and the bytes that may have been before.
use Rattle.std.proofs.Common.{◌≡◌, ◌∙◌, ◌+◌, ◌-◌, ◌∷◌, ◌≤◌, [], ℕ, List, Some, ap, arith, false, if◌then◌else◌, refl}
use Rattle.std.proofs.Common.{subst, sym}
use Rattle.std.specs.BTreeMap.{is_at}
use Rattle.std.specs.Map.{remove_entry}
use Rattle.std.specs.Ordering.{nat_cmp}
use Rattle.pl_base.specs.declared.id.PageId.{PageId}
use Rattle.pl_base.specs.declared.id.Slot.{Slot}
use Rattle.pl_base.specs.declared.id.VisitId.{VisitId}
use Rattle.pl_base.specs.Good.{is_visited}
use Rattle.pl_base.specs.Live.{chunks, live_slots, slot_limit}
use Rattle.pl_base.specs.Marks.{is_referenced}
use Rattle.pl_base.specs.Rows.{Kept, KeptPage, WithoutPage, other_pages, page_at, store_of}
use Rattle.pl_base.specs.Store.{Visit}
use Rattle.pl_base.proofs.OneChanged.{once_by_number}
use Rattle.pl_record.specs.declared.rows.Place.{Place}
use Rattle.pl_record.specs.Form.{AreRows}
use Rattle.pl_record.specs.LastPage.{LeavesOrigin}
use Rattle.pl_record.specs.LinkedRows.{AreLinked, Entries, IsBaseOf, slot_at}
use Rattle.pl_record.specs.Rows.{place_row, row_in}
use Rattle.pl_record.specs.SlotChanges.{HoldsBare, KeepsBody, RemovesPlace}
use Rattle.pl_record.proofs.Bases.{base_kept}
use Rattle.pl_record.proofs.Filled.{laid_out}
use Rattle.pl_record.proofs.FilledMoves.{filled_still}
use Rattle.pl_record.proofs.OriginsCounted.{texts_of}
use Rattle.pl_record.proofs.PageGone.{gone_page, gone_rows, gone_slots, is_shared, without_page}
use Rattle.pl_record.proofs.PageRemoved.{Dropped, dropped, dropped_base, gone, origin_is, page, row, title_long}
use Rattle.pl_record.proofs.PageRemoved.{url_long}
use Rattle.pl_record.proofs.SlotsById.{removed}
use Rattle.pl_record.proofs.TitleSet.{live_ends}
use Rattle.pl_rail.specs.declared.owner.Owner.TheVariants.{At}
use Rattle.pl_rail.specs.Rails.{Lists}
use Rattle.pl_sheets.specs.Sheets.{Pages}
use Rattle.pl_slot.specs.declared.links.Rail.TheVariants.{OriginPages}
use Rattle.pl_slot.specs.Arena.{IsArena, SetsHeader, header_of, header_page}
use Rattle.pl_text.specs.Chunks.{chunk_count}

-- the rows without the page, and without its origin if no other page has that
abbrev pub without : PageId → Slot → Kept → Kept
without id origin kept = without_page id (is_shared origin (other_pages id kept.pages)) origin kept

module _ (kept : Kept) (targets : VisitId → List Visit) (old : Pages) (pages visits items : Entries)
    (l : AreLinked kept targets old pages visits items) (id : PageId) (slot : Slot)
    (some : slot_at pages id.0 ≡ Some slot) (place : Place) (read : row_in slot old ≡ Some (place_row place)) where
  abbrev p : KeptPage
  p = row kept targets old pages visits items l id slot some place read

  abbrev others : List KeptPage
  others = other_pages id kept.pages

  same_origin : place.origin ≡ p.origin
  same_origin = origin_is kept targets old pages visits items l id slot some place read

  found : page_at kept id ≡ Some p
  found = (page kept targets old pages visits items l id slot some place read).there

  pub page_without : WithoutPage id kept (without id place.origin kept)
  page_without =
      subst (λ o. WithoutPage id kept (without id o kept)) (sym same_origin)
      (gone_page kept id p l.rows.well found (is_shared p.origin others) refl)

  module _ (unvisited : is_visited (store_of kept) id ≡ false) (unreferenced : is_referenced (store_of kept) id ≡ false)
      (a : Pages) (removes : (held : HoldsBare slot old)
      → RemovesPlace held.url_slots held.title_slots held.place.origin slot old a) (still : IsArena a) (b : Pages)
      (more : ℕ) (leaves : (slots : List Slot) → Lists OriginPages (At place.origin) slots a
      → LeavesOrigin place.origin slots more a b) where
    drop : Dropped l.at kept targets id place.origin more a b
    drop =
        dropped kept targets old pages visits items l id slot some place read unvisited unreferenced a removes still b
        more leaves

    body : KeepsBody old a
    body =
        (gone kept targets old pages visits items l id slot some place read unvisited unreferenced a removes
        still).body

    -- ---- how many slots are live

    module _ (live urls titles : ℕ) (live_is : live ≡ (header_of b).live)
        (urls_are : urls ≡ chunk_count place.url.length) (titles_are : titles ≡ chunk_count place.title.length) where
      was : live ≡ live_slots (store_of kept)
      was = live_is ∙ drop.body.live ∙ body.live ∙ l.laid.header.live

      counted : live ≡ live_slots (store_of (without id place.origin kept)) + (1 + urls + titles + more)
      counted =
          let sum
          : live_slots (store_of kept)
          ≡ live_slots (store_of (without id place.origin kept)) + (1 + texts_of p)
          + (if is_shared place.origin others then 0 else 1) =
          subst (λ (o : Slot). live_slots (store_of kept)
          ≡ live_slots (store_of (without id o kept)) + (1 + texts_of p) + (if is_shared o others then 0 else 1))
          (sym same_origin) (gone_slots kept id p l.rows.well found (is_shared p.origin others) refl) in
          let url : urls ≡ chunks p.page.url =
          urls_are
          ∙ sym (ap chunk_count (url_long kept targets old pages visits items l id slot some place read)) in
          let title : titles ≡ chunks p.page.title =
          titles_are
          ∙ sym (ap chunk_count (title_long kept targets old pages visits items l id slot some place read)) in
          omega (arith, sum, was, url, title, drop.more_is)

      pub few_gone : (1 + urls + titles + more ≤ live) × (live ≤ slot_limit)
      few_gone = (omega (arith, counted), omega (arith, was, l.rows.well.live))

      module _ (c : Pages)
          (counts : SetsHeader (λ h. record h { live = live - (1 + urls + titles + more) }) b c)
          (arena : IsArena c) where
        pub linked_without : AreLinked (without id place.origin kept) targets c
            (remove_entry (is_at (nat_cmp id.0)) pages) visits items
        linked_without =
            record {
              at = l.at;
              rows =
                  subst (λ (o : Slot). AreRows (without id o kept) targets) (sym same_origin)
                  (gone_rows kept id p l.rows.well found targets (is_shared p.origin others) refl unvisited unreferenced
                  l.rows);
              laid =
                  laid_out l.at (without id place.origin kept) targets c
                  (filled_still l.at (without id place.origin kept) targets b c drop.filled
                  (live_ends (live - (1 + urls + titles + more)) b c counts) counts.rows) arena
                  (record {
                    form = ap (λ h. h.form) counts.header ∙ drop.body.form ∙ body.form ∙ l.laid.header.form;
                    day = ap (λ h. h.day) counts.header ∙ drop.body.day ∙ body.day ∙ l.laid.header.day;
                    ids = ap (λ h. h.ids) counts.header ∙ drop.body.ids ∙ body.ids ∙ l.laid.header.ids;
                    live = ap (λ h. h.live) counts.header ∙ omega (arith, counted);
                    rest = ap (λ h. h.rest) counts.header ∙ drop.body.rest ∙ body.rest ∙ l.laid.header.rest;
                  });
              indexed = record {
                pages =
                    ap (remove_entry (is_at (nat_cmp id.0))) l.indexed.pages
                    ∙ removed (λ (q : KeptPage). q.page.id.0) (λ (q : KeptPage). l.at.page q.page.id) id.0 kept.pages
                    (once_by_number (λ (q : KeptPage). q.page.id.0) id.0 kept.pages l.rows.well.page_ids.ascending);
                visits = l.indexed.visits;
                items = l.indexed.items;
              };
            }

        pub base_without : (bytes : List ℕ) → IsBaseOf old bytes → IsBaseOf c bytes
        base_without bytes base =
            base_kept (header_page ∷ []) b c drop.arena.whole counts.pages bytes
            (dropped_base kept targets old pages visits items l id slot some place read unvisited unreferenced a removes
            still b more leaves bytes base)

-- What was read is well kept, where it is the rows of a good store.
use Rattle.std.proofs.Common.{◌≡◌, ◌≢◌, ◌<◌, ◌∙◌, ◌==◌, IsTrue, All, Option, Some, None, length, map, subst, sym}
use Rattle.std.specs.Option.{IfSome, IsSome}
use Rattle.std.proofs.lemmas.List.Elements.{All-weaker}
use Rattle.pl_base.specs.declared.id.PageId.{PageId}
use Rattle.pl_base.specs.declared.id.VisitId.{VisitId}
use Rattle.pl_base.specs.Address.{is_store_url}
use Rattle.pl_base.specs.Date.{IsDate}
use Rattle.pl_base.specs.Good.{AreIds, IsGood, IsGoodPage, IsGoodVisit, IsTitle, has_page_at}
use Rattle.pl_base.specs.Live.{origin_count}
use Rattle.pl_base.specs.Redirects.{visit_by_id}
use Rattle.pl_base.specs.Rows.{HasSource, IsWellKept, Kept, KeptPage, has_page, has_visit, store_of}
use Rattle.pl_base.specs.Store.{Page, Visit}
use Rattle.pl_base.proofs.ListLaws.{All-from_map, AllPairs-from_map, list_any-map, map-map, some_in}
use Rattle.pl_base.proofs.OriginLaws.{store_url-from_canon}
use Rattle.pl_load.specs.Chained.{HasOwnLists}
use Rattle.pl_load.specs.Owners.{NameOwners}
use Rattle.pl_load.specs.Reads.{AreReadFrom, Reads}
use Rattle.pl_load.proofs.Layouts.{kept_of}
use Rattle.pl_load.proofs.LiveRead.{live_few, store_same}
use Rattle.pl_load.proofs.NamedOrigins.{names_origins}
use Rattle.pl_origins.specs.Names.{AreNamed, named}
use Rattle.pl_record.specs.declared.rows.Place.{Place}
use Rattle.pl_sheets.specs.Sheets.{Pages}
use Rattle.pl_slot.specs.Arena.{IsArena}
use Rattle.pl_stored.specs.declared.stored.StoredPage.{StoredPage}
use Rattle.pl_stored.specs.Stored.{stored_store}

module _ (pages : Pages) (reads : Reads) (from : AreReadFrom pages reads)
    (good : IsGood (stored_store reads.stored)) where
  abbrev kept : Kept
  kept = kept_of reads

  pub good_rows : IsGood (store_of kept)
  good_rows = subst IsGood (sym (store_same pages reads from)) good

  -- what a good store tells of each page
  page_told : (P : Page → Type 0) → ((p : Page) → IsGoodPage (store_of kept) p → P p)
      → All (λ (p : KeptPage). P p.page) kept.pages
  page_told P tells =
      All-from_map P (λ (p : KeptPage). p.page) kept.pages
      (All-weaker (IsGoodPage (store_of kept)) P tells (store_of kept).pages good_rows.pages)

  -- a page of the store is one of the rows
  pub page_known : (id : PageId) → IsTrue (has_page_at (store_of kept) id) → IsTrue (has_page kept id)
  page_known id there =
      sym (list_any-map (λ (p : Page). p.id.0 == id.0) (λ (p : KeptPage). p.page) kept.pages) ∙ there

  source_known : (v : Visit) (o : Option VisitId)
      → IfSome o (λ id. (id.0 < v.id.0) × IsSome (visit_by_id (store_of kept) id))
      → IfSome o (λ id. (id.0 < v.id.0) × IsTrue (has_visit kept id))
  source_known v None has = tt
  source_known v (Some id) has = (has.0, some_in (λ (w : Visit). w.id.0 == id.0) kept.visits has.1)

  module _ (owners : NameOwners pages reads) (own : HasOwnLists pages reads)
      (names : AreNamed (named reads.stored.pages (map (λ (p : Place). p.origin) reads.places)))
      (arena : IsArena pages)
      (count : length reads.origins ≡ origin_count (map (λ (p : StoredPage). p.url) reads.stored.pages)) where
    pub well_read : IsWellKept kept
    well_read =
        record {
          day = good_rows.day;
          page_ids =
              subst (AreIds 1 kept.ids.page) (map-map (λ (p : Page). p.id.0) (λ (p : KeptPage). p.page) kept.pages)
              good_rows.page_ids;
          visit_ids = good_rows.visit_ids;
          item_ids = good_rows.item_ids;
          urls =
              page_told (λ p. IsTrue (is_store_url p.url)) (λ p h. store_url-from_canon p.url p.url h.url);
          distinct_urls =
              AllPairs-from_map (λ (p q : Page). p.url ≢ q.url) (λ (p : KeptPage). p.page) kept.pages good_rows.urls;
          titles = page_told (λ p. IsTitle p.title) (λ p h. h.title);
          visits =
              All-weaker (IsGoodVisit (store_of kept)) (λ (v : Visit). IsDate v.date × IsTrue (has_page kept v.page))
              (λ v h. (h.date, page_known v.page h.page)) kept.visits good_rows.visits;
          sources =
              All-weaker (IsGoodVisit (store_of kept)) (HasSource kept) (λ v h. source_known v v.source h.source)
              kept.visits good_rows.visits;
          origins = names_origins pages reads from good owners own names;
          live = live_few pages reads from good count arena;
        }

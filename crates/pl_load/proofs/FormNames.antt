-- In pages that are the form of a store two URLs have the same name exactly where they have the
-- same origin, and there are as many origins as have names.
use Rattle.std.proofs.Common.{◌≡◌, ◌∙◌, List, ap, length, map, subst, sym}
use Rattle.std.specs.List.{All}
use Rattle.std.proofs.lemmas.List.{length-map}
use Rattle.std.proofs.lemmas.List.Elements.{All-from_recursion, recursion_from_All}
use Rattle.pl_base.specs.declared.id.VisitId.{VisitId}
use Rattle.pl_base.specs.Live.{origin_count}
use Rattle.pl_base.specs.Rows.{AreAlike as AreAlikePages, Kept, KeptOrigin, KeptPage}
use Rattle.pl_base.specs.Store.{Visit as StoreVisit}
use Rattle.pl_base.proofs.Among.{In, all_from_in}
use Rattle.pl_base.proofs.ListLaws.{map-map, to_map}
use Rattle.pl_load.specs.Reads.{place_at, stored_page}
use Rattle.pl_load.proofs.FormReads.{of_one, reads_of}
use Rattle.pl_load.proofs.Lists.{zip_maps}
use Rattle.pl_origins.specs.Names.{AreAlike, AreNamed, Named, named, named_url}
use Rattle.pl_record.specs.declared.rows.Place.{Place}
use Rattle.pl_record.specs.Form.{AreRows, IsLaid}
use Rattle.pl_record.specs.Records.{Layout}
use Rattle.pl_record.proofs.OriginsCounted.{origins_counted}
use Rattle.pl_sheets.specs.Sheets.{Pages}
use Rattle.pl_stored.specs.declared.stored.StoredPage.{StoredPage}

module _ (at : Layout) (kept : Kept) (targets : VisitId → List StoreVisit) (pages : Pages)
    (rows : AreRows kept targets) (laid : IsLaid at kept targets pages) where
  -- ---- names

  -- a page's URL, and the name of its origin
  abbrev page_named : KeptPage → Named
  page_named p = record { url = p.page.url; name = p.origin }

  names_are : named (reads_of at kept).stored.pages (map (λ (p : Place). p.origin) (reads_of at kept).places)
      ≡ map page_named kept.pages
  names_are =
      ap (named (map stored_page kept.pages)) (map-map (λ (p : Place). p.origin) (place_at at) kept.pages)
      ∙ ap (map named_url) (zip_maps stored_page (λ (p : KeptPage). p.origin) kept.pages)
      ∙ map-map named_url (λ (p : KeptPage). (stored_page p, p.origin)) kept.pages

  -- a page's name is the same as another's exactly where their origins are
  page_alike : (p : KeptPage) → In p kept.pages → All (AreAlike (page_named p)) (map page_named kept.pages)
  page_alike p here =
      All-from_recursion (AreAlike (page_named p)) (map page_named kept.pages)
      (to_map (AreAlike (page_named p)) page_named kept.pages
      (recursion_from_All (AreAlikePages p) kept.pages
      (of_one (λ (q : KeptPage). All (AreAlikePages q) kept.pages) kept.pages p rows.well.origins.same here)))

  pub form_names
      : AreNamed (named (reads_of at kept).stored.pages (map (λ (p : Place). p.origin) (reads_of at kept).places))
  form_names =
      subst AreNamed (sym names_are)
      (All-from_recursion (λ (a : Named). All (AreAlike a) (map page_named kept.pages)) (map page_named kept.pages)
      (to_map (λ (a : Named). All (AreAlike a) (map page_named kept.pages)) page_named kept.pages
      (all_from_in (λ (p : KeptPage). All (AreAlike (page_named p)) (map page_named kept.pages)) kept.pages
      page_alike)))

  -- ---- how many

  pub form_origin_count : length (reads_of at kept).origins
      ≡ origin_count (map (λ (p : StoredPage). p.url) (reads_of at kept).stored.pages)
  form_origin_count =
      length-map kept.origins (λ (o : KeptOrigin). o.origin)
      ∙ sym (origins_counted kept rows.well.origins)
      ∙ ap origin_count (sym (map-map (λ (p : StoredPage). p.url) stored_page kept.pages))

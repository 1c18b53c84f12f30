-- Marks and totals that were read, as those of a store's rows.
use Rattle.std.proofs.Common.{◌≡◌, ◌∙◌, All, List, ap, get_or, map, subst, sym}
use Rattle.std.specs.List.{AllByRecursion}
use Rattle.std.proofs.lemmas.List.Elements.{All-from_recursion, recursion_from_All}
use Rattle.pl_base.specs.declared.row.Mark.{Mark}
use Rattle.pl_base.specs.Frecency.{frecency_of}
use Rattle.pl_base.specs.Marks.{is_hidden, visit_count}
use Rattle.pl_base.specs.Rows.{IsRight, IsWellKept, Kept, KeptOrigin, KeptPage, mark_of, store_of}
use Rattle.pl_base.specs.Store.{Store}
use Rattle.pl_base.proofs.ListLaws.{All-from_map, map-map, weaker}
use Rattle.pl_load.specs.Reads.{AreRead, Reads, place_at, stored_page, stored_rows, stored_visit}
use Rattle.pl_load.proofs.Zips.{map_same}
use Rattle.pl_record.specs.declared.rows.Place.{Place}
use Rattle.pl_record.specs.Records.{Layout}
use Rattle.pl_sound.specs.Marks.{right_mark}
use Rattle.pl_sound.specs.Right.{AreComputed, IsMarked}
use Rattle.pl_sound.specs.Sums.{origin_sum}
use Rattle.pl_sound.proofs.NamedSums.{kept_same, kept_sum, totals_from, totals_to}
use Rattle.pl_sound.proofs.SameLists.{alike_each, each_alike, each_one}
use Rattle.pl_stored.specs.Stored.{Stored, stored_page as page_of, stored_store, visit_of}

-- the store of rows as a file has them
pub stored_again : (kept : Kept) → store_of kept ≡ stored_store (stored_rows kept)
stored_again kept =
    let pages_same = map-map page_of stored_page kept.pages in
    let visits_same = map-map visit_of stored_visit kept.visits ∙ map_same kept.visits in
    λ i.
    record {
      day = kept.day;
      ids = kept.ids;
      pages = sym pages_same i;
      visits = sym visits_same i;
      items = kept.items;
    }

-- what the definitions give of a page of a store
abbrev mark_in : Store → KeptPage → Mark
mark_in store p =
    record {
      frecency = frecency_of store p.page;
      count = visit_count store p.page.id;
      typed = p.page.typed;
      hidden = is_hidden store p.page;
    }

module _ (at : Layout) (kept : Kept) (reads : Reads) (are : AreRead at kept reads) (well : IsWellKept kept) where
  -- ---- marks

  as_kept : map (right_mark reads.stored) reads.stored.pages ≡ map (mark_in (store_of kept)) kept.pages
  as_kept =
      ap (λ (s : Stored). map (right_mark s) s.pages) are.stored
      ∙ map-map (right_mark (stored_rows kept)) stored_page kept.pages
      ∙ ap (λ (s : Store). map (mark_in s) kept.pages) (sym (stored_again kept))

  were_kept : map (λ (p : Place). p.mark) reads.places ≡ map mark_of kept.pages
  were_kept =
      ap (map (λ (p : Place). p.mark)) are.places ∙ map-map (λ (p : Place). p.mark) (place_at at) kept.pages

  right_from : map (right_mark reads.stored) reads.stored.pages ≡ map (λ (p : Place). p.mark) reads.places
      → IsRight kept
  right_from same =
      let all : AllByRecursion (λ (p : KeptPage). mark_in (store_of kept) p ≡ mark_of p) kept.pages =
      each_alike (mark_in (store_of kept)) mark_of kept.pages (sym as_kept ∙ same ∙ were_kept) in
      let each : (P : KeptPage → Type 0)
      → ((p : KeptPage) → mark_in (store_of kept) p ≡ mark_of p → P p) → All P kept.pages =
      λ P told.
      All-from_recursion P kept.pages
      (weaker (λ (p : KeptPage). mark_in (store_of kept) p ≡ mark_of p) P kept.pages told all) in
      record {
        frecencies =
            each (λ (p : KeptPage). p.frecency ≡ frecency_of (store_of kept) p.page)
            (λ p is. sym (ap (λ (m : Mark). m.frecency) is));
        counts =
            each (λ (p : KeptPage). p.count ≡ visit_count (store_of kept) p.page.id)
            (λ p is. sym (ap (λ (m : Mark). m.count) is));
        hidden =
            each (λ (p : KeptPage). p.hidden ≡ is_hidden (store_of kept) p.page)
            (λ p is. sym (ap (λ (m : Mark). m.hidden) is));
      }

  right_to : IsRight kept
      → map (right_mark reads.stored) reads.stored.pages ≡ map (λ (p : Place). p.mark) reads.places
  right_to right =
      as_kept
      ∙ alike_each (mark_in (store_of kept)) mark_of kept.pages
      (recursion_from_All (λ (p : KeptPage). mark_in (store_of kept) p ≡ mark_of p) kept.pages
      (λ k d within.
      let frecency = right.frecencies k d within in
      let count = right.counts k d within in
      let hidden = right.hidden k d within in
      λ i.
      record {
        frecency = sym frecency i;
        count = sym count i;
        typed = (get_or kept.pages k d).page.typed;
        hidden = sym hidden i;
      }))
      ∙ sym were_kept

  -- ---- totals

  sums_kept : map (origin_sum reads.places) reads.origins
      ≡ map (λ (a : KeptOrigin). kept_sum kept.pages a.origin.0) kept.origins
  sums_kept =
      ap (map (origin_sum reads.places)) are.origins
      ∙ map-map (origin_sum reads.places) (λ (a : KeptOrigin). a.origin) kept.origins
      ∙ ap (λ (ps : List Place). map (λ (a : KeptOrigin). origin_sum ps a.origin) kept.origins) are.places
      ∙ alike_each (λ (a : KeptOrigin). origin_sum (map (place_at at) kept.pages) a.origin)
      (λ (a : KeptOrigin). kept_sum kept.pages a.origin.0) kept.origins
      (each_one (λ (a : KeptOrigin). origin_sum (map (place_at at) kept.pages) a.origin ≡ kept_sum kept.pages a.origin.0)
      (λ a. kept_same at kept.pages a.origin.0) kept.origins)

  pub marked_from : AreComputed reads.stored reads.places reads.origins reads.totals → IsMarked kept
  marked_from computed =
      let right : IsRight kept = right_from computed.marks in
      record {
        right = right;
        totals =
            totals_from kept well right
            (each_alike (λ (a : KeptOrigin). kept_sum kept.pages a.origin.0) (λ (a : KeptOrigin). a.total)
            kept.origins (sym sums_kept ∙ computed.sums ∙ are.totals));
      }

  pub computed_to : IsMarked kept → AreComputed reads.stored reads.places reads.origins reads.totals
  computed_to marked =
      record {
        marks = right_to marked.right;
        sums =
            sums_kept
            ∙ alike_each (λ (a : KeptOrigin). kept_sum kept.pages a.origin.0) (λ (a : KeptOrigin). a.total)
            kept.origins (totals_to kept well marked.right marked.totals)
            ∙ sym are.totals;
      }

-- marks that are small are so where the pages have them
pub small_places : (marks : List Mark) (places : List Place) (P : Mark → Type 0)
    → marks ≡ map (λ (p : Place). p.mark) places → All P marks → All (λ (p : Place). P p.mark) places
small_places marks places P same all =
    All-from_map P (λ (p : Place). p.mark) places (subst (All P) same all)

-- What the tests of rows that were read require of them, as it follows from how they were read.
use Rattle.std.proofs.Common.{◌≡◌, ◌≢◌, ◌≤◌, ◌<◌, ◌^◌, ◌++◌, ℕ, List, Option, Some, None, ap, arith, eqb}
use Rattle.std.proofs.Common.{is_some, length, map, refl, subst, sym, true}
use Rattle.std.specs.List.{AllByRecursion, AllPairs, IsDistinct, flat_map}
use Rattle.std.specs.List.Sorted.{IsStrictlyIncreasing}
use Rattle.std.specs.Option.{option_map}
use Rattle.std.proofs.lemmas.List.{length-map}
use Rattle.std.proofs.lemmas.List.Elements.{All-from_recursion}
use Rattle.std.proofs.lemmas.List.Kept.{AllPairs-from_increasing}
use Rattle.std.proofs.lemmas.Slice.Zip.{AllZip-long}
use Rattle.pl_accept.specs.Held.{HasOwnersBelow}
use Rattle.pl_base.specs.declared.id.PageId.{PageId}
use Rattle.pl_base.specs.declared.id.Slot.{Slot}
use Rattle.pl_base.specs.declared.id.VisitId.{VisitId}
use Rattle.pl_base.specs.Good.{IsTitle}
use Rattle.pl_base.specs.Live.{slot_limit}
use Rattle.pl_base.specs.Store.{Item as TreeItem}
use Rattle.pl_base.proofs.KeyCounts.{count-append}
use Rattle.pl_base.proofs.ListLaws.{AllPairs-from_map, weaker}
use Rattle.pl_check.specs.Readable.{AreReadable}
use Rattle.pl_check.specs.Rows.{stored_visit_ids}
use Rattle.pl_load.specs.Owners.{NameOwners, names_origin}
use Rattle.pl_load.specs.Reads.{AreReadFrom, Reads, numbers}
use Rattle.pl_load.specs.RowSlots.{HasListed, HasRowEach}
use Rattle.pl_load.proofs.KeptRows.{items_read}
use Rattle.pl_load.proofs.Layouts.{IsRead}
use Rattle.pl_load.proofs.ListParts.{all_pass}
use Rattle.pl_load.proofs.MetSlots.{of_kind, page_kind, visit_kind}
use Rattle.pl_load.proofs.MetTexts.{few}
use Rattle.pl_load.proofs.Zips.{alike_made, firsts, seconds, zip_weaker}
use Rattle.pl_reading.specs.Live.{HoldsItem, HoldsPlace, HoldsVisit}
use Rattle.pl_reading.specs.Read.{IsPageRead, IsVisitRead, Names}
use Rattle.pl_reading.specs.Texts.{row_texts, text_parts}
use Rattle.pl_record.specs.declared.rows.Item.{Item}
use Rattle.pl_record.specs.declared.rows.Place.{Place}
use Rattle.pl_record.specs.declared.rows.Visit.{Visit}
use Rattle.pl_record.specs.Rows.{page_in, visit_in}
use Rattle.pl_record.proofs.LaidSlots.{kind_live}
use Rattle.pl_record.proofs.SlotCounts.{distinct_few, few_times, times}
use Rattle.pl_record.proofs.SlotSteps.{origin_by_kind}
use Rattle.pl_sheets.specs.Sheets.{Pages}
use Rattle.pl_slot.specs.declared.kind.SlotKind.{SlotKind}
use Rattle.pl_slot.specs.declared.kind.SlotKind.TheVariants as kinds
use Rattle.pl_slot.specs.declared.row.SlotRow.{SlotRow}
use Rattle.pl_slot.specs.Arena.{IsArena, is_live, row_at, slot_count}
use Rattle.pl_slot.specs.Links.{kind_at}
use Rattle.pl_slot.specs.Slot.{slot_kind}
use Rattle.pl_slot.proofs.SlotPlaces.{row_slot, slot_bounds}
use Rattle.pl_stored.specs.declared.stored.StoredPage.{StoredPage}
use Rattle.pl_stored.specs.declared.stored.StoredVisit.{StoredVisit}
use Rattle.pl_stored.specs.Fits.{IsUrl}
use Rattle.pl_stored.specs.Stored.{AreIdsFour}

-- ---- numbers of slots

-- a slot that holds a row is one of those that there are
kind_below : (slot : Slot) (kind : SlotKind) (pages : Pages) → kind_at slot.0 pages ≡ Some kind
    → slot.0 ≤ slot_count pages
unfolding kind_at
kind_below slot kind pages is = (slot_bounds slot.0 pages (row_slot slot.0 pages (some (row_at slot.0 pages) is))).1
  where
    some : (o : Option SlotRow) → option_map slot_kind o ≡ Some kind → is_some o ≡ true
    some None is = absurd (cc)
    some (Some row) is = refl

-- so is one that names what it holds, and one that names none is 0
page_below : (pages : Pages) (slot : Slot) (id : PageId) → page_in pages slot ≡ Some id → slot.0 ≤ slot_count pages
page_below pages slot id says = kind_below slot kinds.Place pages (page_kind pages slot id says)

visit_below : (pages : Pages) (slot : Slot) (id : VisitId) → visit_in pages slot ≡ Some id → slot.0 ≤ slot_count pages
visit_below pages slot id says = kind_below slot kinds.Visit pages (visit_kind pages slot id says)

named_below : {Id : Type 0} (held : Slot → Option Id) (pages : Pages) (slot : Slot) (o : Option Id)
    → ((id : Id) → held slot ≡ Some id → slot.0 ≤ slot_count pages) → Names held slot o → slot.0 ≤ slot_count pages
named_below held pages slot None below names =
    let zero : slot.0 ≡ 0 = ap (λ (s : Slot). s.0) names in
    omega arith
named_below held pages slot (Some id) below names = below id names

-- ---- lists

-- of numbers that stand once, those of the second and the third part do
module _ (a b c d e : List ℕ) (once : IsDistinct eqb (a ++ b ++ c ++ d ++ e)) where
  once_each : (n : ℕ) → (times n b ≤ 1) × (times n c ≤ 1)
  once_each n =
      let all = few_times (a ++ b ++ c ++ d ++ e) once n in
      let four = count-append (λ (m : ℕ). m) n (a ++ b ++ c ++ d) e in
      let three = count-append (λ (m : ℕ). m) n (a ++ b ++ c) d in
      let two = count-append (λ (m : ℕ). m) n (a ++ b) c in
      let one = count-append (λ (m : ℕ). m) n a b in
      (omega arith, omega arith)

  second_distinct : IsDistinct eqb b
  second_distinct = distinct_few b (λ n. (once_each n).0)

  third_distinct : IsDistinct eqb c
  third_distinct = distinct_few c (λ n. (once_each n).1)

-- ---- what was read

module _ (pages : Pages) (reads : Reads) (from : AreReadFrom pages reads) where
  pub listed : HasListed pages reads
  listed = from.listed

  pub row_each : HasRowEach reads
  row_each =
      record {
        places = sym (AllZip-long (HoldsPlace pages) reads.place_slots reads.places from.places);
        visits = sym (AllZip-long (HoldsVisit pages) reads.visit_slots reads.visits from.visits);
        items = sym (AllZip-long (HoldsItem pages) reads.item_slots reads.items from.items);
      }

  pub pages_each : length reads.stored.pages ≡ length reads.places
  pages_each = AllZip-long (IsPageRead pages) reads.places reads.stored.pages from.stored_pages

  -- ---- texts

  pub readable : AreIdsFour reads.stored.ids → AreReadable reads.stored
  readable ids =
      record {
        ids = ids;
        urls =
            All-from_recursion (λ (s : StoredPage). IsUrl s.url) reads.stored.pages
            (seconds (IsPageRead pages) (λ (s : StoredPage). IsUrl s.url) reads.places reads.stored.pages
            (λ p s read. read.is_url) from.stored_pages);
        titles =
            All-from_recursion (λ (s : StoredPage). IsTitle s.title) reads.stored.pages
            (seconds (IsPageRead pages) (λ (s : StoredPage). IsTitle s.title) reads.places reads.stored.pages
            (λ p s read. read.is_title) from.stored_pages);
        item_titles =
            All-from_recursion (λ (s : TreeItem). IsTitle s.title) reads.stored.items
            (seconds (IsRead pages) (λ (s : TreeItem). IsTitle s.title) reads.items reads.stored.items
            (λ i s read. read.1.is_title) (items_read pages reads from));
      }

  -- ---- owners

  pub below : NameOwners pages reads → HasOwnersBelow pages reads
  below owners =
      record {
        origins =
            All-from_recursion (λ (p : Place). p.origin.0 ≤ slot_count pages) reads.places
            (weaker (λ (p : Place). names_origin pages p ≡ true) (λ (p : Place). p.origin.0 ≤ slot_count pages)
            reads.places
            (λ p named.
            kind_below p.origin kinds.Origin pages (origin_by_kind (kind_at p.origin.0 pages) named))
            (all_pass (names_origin pages) reads.places owners.origins));
        visited =
            All-from_recursion (λ (v : Visit). v.page.0 ≤ slot_count pages) reads.visits
            (firsts (IsVisitRead pages) (λ (v : Visit). v.page.0 ≤ slot_count pages) reads.visits reads.stored.visits
            (λ v s read. page_below pages v.page s.page read.page) from.stored_visits);
        sources =
            All-from_recursion (λ (v : Visit). v.source.0 ≤ slot_count pages) reads.visits
            (firsts (IsVisitRead pages) (λ (v : Visit). v.source.0 ≤ slot_count pages) reads.visits
            reads.stored.visits
            (λ v s read.
            named_below (visit_in pages) pages v.source s.source (visit_below pages v.source) read.source)
            from.stored_visits);
        referenced =
            All-from_recursion (λ (i : Item). i.page.0 ≤ slot_count pages) reads.items
            (firsts (IsRead pages) (λ (i : Item). i.page.0 ≤ slot_count pages) reads.items reads.stored.items
            (λ i s read.
            named_below (page_in pages) pages i.page s.page (page_below pages i.page) read.1.page)
            (items_read pages reads from));
      }

  -- ---- numbers

  -- the slots of pages differ, and are live, so that there are no more pages than slots
  places_live : AllByRecursion (λ (n : ℕ). is_live n pages ≡ true) (numbers reads.place_slots)
  places_live =
      weaker (λ (n : ℕ). kind_at n pages ≡ Some kinds.Place) (λ (n : ℕ). is_live n pages ≡ true)
      (numbers reads.place_slots) (λ n is. kind_live n kinds.Place pages is (λ free. absurd (cc)))
      (of_kind pages reads from kinds.Place)

  places_once : IsDistinct eqb (numbers reads.place_slots)
  places_once =
      second_distinct (numbers reads.origins) (numbers reads.place_slots) (numbers reads.visit_slots)
      (numbers reads.item_slots) (flat_map (text_parts pages) (row_texts reads.places reads.items)) from.once

  pub few_places : IsArena pages → length reads.places ≤ slot_limit
  few_places arena =
      omega (
        arith,
        few pages (numbers reads.place_slots) places_once places_live,
        arena.few,
        row_each.places,
        length-map reads.place_slots (λ (s : Slot). s.0),
      )

  pub few_pages : IsArena pages → length reads.stored.pages < 2 ^ 32
  few_pages arena = omega (arith, few_places arena, pages_each)

  -- so are the visits
  visits_live : AllByRecursion (λ (n : ℕ). is_live n pages ≡ true) (numbers reads.visit_slots)
  visits_live =
      weaker (λ (n : ℕ). kind_at n pages ≡ Some kinds.Visit) (λ (n : ℕ). is_live n pages ≡ true)
      (numbers reads.visit_slots) (λ n is. kind_live n kinds.Visit pages is (λ free. absurd (cc)))
      (of_kind pages reads from kinds.Visit)

  visits_once : IsDistinct eqb (numbers reads.visit_slots)
  visits_once =
      third_distinct (numbers reads.origins) (numbers reads.place_slots) (numbers reads.visit_slots)
      (numbers reads.item_slots) (flat_map (text_parts pages) (row_texts reads.places reads.items)) from.once

  pub few_visits : IsArena pages → length reads.stored.visits ≤ slot_limit
  few_visits arena =
      omega (
        arith,
        few pages (numbers reads.visit_slots) visits_once visits_live,
        arena.few,
        AllZip-long (IsVisitRead pages) reads.visits reads.stored.visits from.stored_visits,
        row_each.visits,
        length-map reads.visit_slots (λ (s : Slot). s.0),
      )

  -- ids of visits that ascend differ
  pub visits_differ : IsStrictlyIncreasing (stored_visit_ids reads.stored.visits)
      → AllPairs (λ (v w : Visit). v.id.0 ≢ w.id.0) reads.visits
  visits_differ ascend =
      let ids : map (λ (v : Visit). v.id.0) reads.visits ≡ stored_visit_ids reads.stored.visits =
      alike_made (λ (v : Visit). v.id.0) (λ (s : StoredVisit). s.id.0) reads.visits reads.stored.visits
      (zip_weaker (IsVisitRead pages) (λ (v : Visit) (s : StoredVisit). v.id.0 ≡ s.id.0) reads.visits
      reads.stored.visits (λ v s read. ap (λ (id : VisitId). id.0) (sym read.id)) from.stored_visits) in
      let pairs : AllPairs (λ (v w : Visit). v.id.0 < w.id.0) reads.visits =
      AllPairs-from_map (λ (m n : ℕ). m < n) (λ (v : Visit). v.id.0) reads.visits
      (AllPairs-from_increasing (map (λ (v : Visit). v.id.0) reads.visits)
      (subst IsStrictlyIncreasing (sym ids) ascend)) in
      λ i j d before within same.
      let less = pairs i j d before within in
      omega arith

-- How many slots are live, where what was read are the rows of a store: as many as the definition
-- counts, and no more than an arena has.
use Rattle.std.proofs.Common.{◌≡◌, ◌≤◌, ◌∙◌, ◌∷◌, ◌++◌, ◌+◌, [], ℕ, List, Some, ap, arith, length, map, refl, sym}
use Rattle.std.proofs.Common.{true}
use Rattle.std.specs.List.{AllByRecursion, AllZip, flat_map, sum_by}
use Rattle.std.proofs.lemmas.List.{length-append, length-map}
use Rattle.std.proofs.lemmas.List.Elements.{recursion_from_All}
use Rattle.std.proofs.lemmas.List.Sums.{sum_by-append, sum_by-cons}
use Rattle.std.proofs.lemmas.Slice.Zip.{AllZip-long}
use Rattle.pl_base.specs.declared.id.Slot.{Slot}
use Rattle.pl_base.specs.Good.{IsGood}
use Rattle.pl_base.specs.Live.{chunks, live_slots, origin_count, slot_limit}
use Rattle.pl_base.specs.Rows.{Kept, KeptPage, store_of}
use Rattle.pl_base.specs.Store.{Item as TreeItem, Page}
use Rattle.pl_base.proofs.ListLaws.{all_append, map-map, sum_by-map, weaker}
use Rattle.pl_load.specs.Reads.{AreReadFrom, Reads, met_slots, numbers}
use Rattle.pl_load.proofs.KeptRows.{items_read}
use Rattle.pl_load.proofs.Layouts.{kept_of, kept_page}
use Rattle.pl_load.proofs.MetSlots as met
use Rattle.pl_load.proofs.MetTexts.{few, parts_live, parts_long}
use Rattle.pl_load.proofs.Zips.{second_again, zip_weaker}
use Rattle.pl_reading.specs.Live.{HoldsItem, HoldsPlace, HoldsVisit}
use Rattle.pl_reading.specs.Read.{IsItemRead, IsPageRead, IsVisitRead}
use Rattle.pl_reading.specs.Texts.{IsHeld, page_texts, row_texts, text_parts, wanted}
use Rattle.pl_record.specs.declared.rows.Item.{Item}
use Rattle.pl_record.specs.declared.rows.Place.{Place}
use Rattle.pl_record.specs.declared.rows.TextAt.{TextAt}
use Rattle.pl_record.proofs.LaidSlots.{kind_live}
use Rattle.pl_sheets.specs.Sheets.{Pages}
use Rattle.pl_slot.specs.declared.kind.SlotKind.TheVariants as kinds
use Rattle.pl_slot.specs.Arena.{IsArena, is_live}
use Rattle.pl_slot.specs.Links.{kind_at}
use Rattle.pl_stored.specs.declared.stored.StoredPage.{StoredPage}
use Rattle.pl_stored.specs.Stored.{stored_page, stored_store, visit_of}
use Rattle.pl_text.specs.Chunks.{chunk_count}

-- ---- sums

two_more : (a b c d x y whole rest : ℕ) → a ≡ c → b ≡ d → x ≡ y → whole ≡ a + rest → rest ≡ b + x
    → whole ≡ (c + d) + y
two_more a b c d x y whole rest first second same here behind = omega (arith, first, second, same, here, behind)

one_more : (a c x y whole : ℕ) → a ≡ c → x ≡ y → whole ≡ a + x → whole ≡ c + y
one_more a c x y whole first same here = omega (arith, first, same, here)

-- the slots of a page's texts
abbrev stored_texts : StoredPage → ℕ
stored_texts s = chunks s.url + chunks s.title

abbrev text_long : TextAt → ℕ
text_long t = chunk_count t.length

-- the texts of pages want as many slots as they take
pages_want : (pages : Pages) (ps : List Place) (ss : List StoredPage) → AllZip (IsPageRead pages) ps ss
    → wanted (flat_map page_texts ps) ≡ sum_by stored_texts ss
pages_want pages [] [] all = refl
pages_want pages [] (s ∷ ss) all = absurd all
pages_want pages (p ∷ ps) [] all = absurd all
pages_want pages (p ∷ ps) (s ∷ ss) all =
    let url : chunk_count p.url.length ≡ chunks s.url = sym (ap chunk_count all.0.url.size) in
    let title : chunk_count p.title.length ≡ chunks s.title = sym (ap chunk_count all.0.title.size) in
    two_more (chunk_count p.url.length) (chunk_count p.title.length) (chunks s.url) (chunks s.title)
    (wanted (flat_map page_texts ps)) (sum_by stored_texts ss)
    (wanted (p.url ∷ p.title ∷ flat_map page_texts ps)) (wanted (p.title ∷ flat_map page_texts ps))
    url title (pages_want pages ps ss all.1)
    (sum_by-cons text_long p.url (p.title ∷ flat_map page_texts ps))
    (sum_by-cons text_long p.title (flat_map page_texts ps))
    ∙ sym (sum_by-cons stored_texts s ss)

abbrev ItemRead : Pages → Item → TreeItem → Type 0
ItemRead pages i s = (slots : List Slot) × IsItemRead pages i slots s

-- so do the titles of items
items_want : (pages : Pages) (is : List Item) (ss : List TreeItem) → AllZip (ItemRead pages) is ss
    → wanted (map (λ (i : Item). i.title) is) ≡ sum_by (λ (i : TreeItem). chunks i.title) ss
items_want pages [] [] all = refl
items_want pages [] (s ∷ ss) all = absurd all
items_want pages (i ∷ is) [] all = absurd all
items_want pages (i ∷ is) (s ∷ ss) all =
    let title : chunk_count i.title.length ≡ chunks s.title = sym (ap chunk_count all.0.1.title.size) in
    one_more (chunk_count i.title.length) (chunks s.title) (wanted (map (λ (j : Item). j.title) is))
    (sum_by (λ (j : TreeItem). chunks j.title) ss) (wanted (i.title ∷ map (λ (j : Item). j.title) is)) title
    (items_want pages is ss all.1) (sum_by-cons text_long i.title (map (λ (j : Item). j.title) is))
    ∙ sym (sum_by-cons (λ (j : TreeItem). chunks j.title) s ss)

-- ---- the store

module _ (pages : Pages) (reads : Reads) (from : AreReadFrom pages reads) where
  abbrev kept : Kept
  kept = kept_of reads

  -- the rows are those of the store that was read
  pub store_same : store_of kept ≡ stored_store reads.stored
  store_same =
      let pages_same : map (λ (p : KeptPage). p.page) kept.pages ≡ map stored_page reads.stored.pages =
      second_again kept_page (λ (p : KeptPage). p.page) stored_page reads.places reads.stored.pages
      (zip_weaker (IsPageRead pages) (λ (p : Place) (s : StoredPage). stored_page s ≡ stored_page s) reads.places
      reads.stored.pages (λ p s read. refl) from.stored_pages) in
      λ i.
      record {
        day = reads.stored.day;
        ids = reads.stored.ids;
        pages = pages_same i;
        visits = kept.visits;
        items = reads.stored.items;
      }

  -- ---- how many slots were met

  all_live : AllByRecursion (λ (n : ℕ). is_live n pages ≡ true) (met_slots pages reads)
  all_live =
      let o : List ℕ = numbers reads.origins in
      let p : List ℕ = numbers reads.place_slots in
      let v : List ℕ = numbers reads.visit_slots in
      let i : List ℕ = numbers reads.item_slots in
      let origins : AllByRecursion (λ (n : ℕ). is_live n pages ≡ true) o =
      weaker (λ (n : ℕ). kind_at n pages ≡ Some kinds.Origin) (λ (n : ℕ). is_live n pages ≡ true) o
      (λ n is. kind_live n kinds.Origin pages is (λ free. absurd (cc))) (met.of_kind pages reads from kinds.Origin) in
      let places : AllByRecursion (λ (n : ℕ). is_live n pages ≡ true) p =
      weaker (λ (n : ℕ). kind_at n pages ≡ Some kinds.Place) (λ (n : ℕ). is_live n pages ≡ true) p
      (λ n is. kind_live n kinds.Place pages is (λ free. absurd (cc))) (met.of_kind pages reads from kinds.Place) in
      let visits : AllByRecursion (λ (n : ℕ). is_live n pages ≡ true) v =
      weaker (λ (n : ℕ). kind_at n pages ≡ Some kinds.Visit) (λ (n : ℕ). is_live n pages ≡ true) v
      (λ n is. kind_live n kinds.Visit pages is (λ free. absurd (cc))) (met.of_kind pages reads from kinds.Visit) in
      let items : AllByRecursion (λ (n : ℕ). is_live n pages ≡ true) i =
      weaker (λ (n : ℕ). kind_at n pages ≡ Some kinds.Item) (λ (n : ℕ). is_live n pages ≡ true) i
      (λ n is. kind_live n kinds.Item pages is (λ free. absurd (cc))) (met.of_kind pages reads from kinds.Item) in
      all_append (λ (n : ℕ). is_live n pages ≡ true) (o ++ p ++ v ++ i)
      (flat_map (text_parts pages) (row_texts reads.places reads.items))
      (all_append (λ (n : ℕ). is_live n pages ≡ true) (o ++ p ++ v) i
      (all_append (λ (n : ℕ). is_live n pages ≡ true) (o ++ p) v
      (all_append (λ (n : ℕ). is_live n pages ≡ true) o p origins places) visits) items)
      (parts_live pages (row_texts reads.places reads.items)
      (recursion_from_All (IsHeld pages) (row_texts reads.places reads.items) from.texts))

  -- the rows and the slots that their texts want
  abbrev pub slots_read : ℕ
  slots_read =
      length reads.origins + length reads.places + length reads.visits + length reads.items
      + wanted (row_texts reads.places reads.items)

  met_long : length (met_slots pages reads) ≡ slots_read
  met_long =
      let o : List ℕ = numbers reads.origins in
      let p : List ℕ = numbers reads.place_slots in
      let v : List ℕ = numbers reads.visit_slots in
      let i : List ℕ = numbers reads.item_slots in
      omega (
        arith,
        length-append (o ++ p ++ v ++ i) (flat_map (text_parts pages) (row_texts reads.places reads.items)),
        length-append (o ++ p ++ v) i,
        length-append (o ++ p) v,
        length-append o p,
        length-map reads.origins (λ (s : Slot). s.0),
        length-map reads.place_slots (λ (s : Slot). s.0),
        length-map reads.visit_slots (λ (s : Slot). s.0),
        length-map reads.item_slots (λ (s : Slot). s.0),
        AllZip-long (HoldsPlace pages) reads.place_slots reads.places from.places,
        AllZip-long (HoldsVisit pages) reads.visit_slots reads.visits from.visits,
        AllZip-long (HoldsItem pages) reads.item_slots reads.items from.items,
        parts_long pages (row_texts reads.places reads.items)
            (recursion_from_All (IsHeld pages) (row_texts reads.places reads.items) from.texts),
      )

  slots_few : IsArena pages → slots_read ≤ slot_limit
  slots_few arena = omega (arith, met_long, few pages (met_slots pages reads) from.once all_live, arena.few)

  -- ---- how many the definition counts

  module _ (good : IsGood (stored_store reads.stored))
      (count : length reads.origins ≡ origin_count (map (λ (p : StoredPage). p.url) reads.stored.pages)) where
    pub live_counted : live_slots (store_of kept) ≡ slots_read
    live_counted =
        ap live_slots store_same
        ∙ omega (
          arith,
          count,
          ap origin_count (map-map (λ (p : Page). p.url) stored_page reads.stored.pages),
          length-map reads.stored.pages stored_page,
          length-map reads.stored.visits visit_of,
          AllZip-long (IsPageRead pages) reads.places reads.stored.pages from.stored_pages,
          AllZip-long (IsVisitRead pages) reads.visits reads.stored.visits from.stored_visits,
          AllZip-long (ItemRead pages) reads.items reads.stored.items (items_read pages reads from),
          sum_by-map (λ (p : Page). chunks p.url + chunks p.title) stored_page reads.stored.pages,
          sum_by-append text_long (flat_map page_texts reads.places) (map (λ (i : Item). i.title) reads.items),
          pages_want pages reads.places reads.stored.pages from.stored_pages,
          items_want pages reads.items reads.stored.items (items_read pages reads from),
        )

    pub live_few : IsArena pages → live_slots (store_of kept) ≤ slot_limit
    live_few arena = omega (arith, live_counted, slots_few arena)

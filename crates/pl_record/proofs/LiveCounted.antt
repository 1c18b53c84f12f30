-- How many slots of a layout are live: as many as the definition counts of the store.
use Rattle.std.proofs.Common.{◌≡◌, ◌+◌, ◌++◌, ℕ, List, arith, filter, length, ◌≤◌}
use Rattle.std.specs.Cmp.{nat_eq_equiv}
use Rattle.std.specs.List.{AllByRecursion, flat_map, sum_by}
use Rattle.std.proofs.lemmas.List.{length-append, length-map}
use Rattle.std.proofs.lemmas.List.Concat.{length-flat_map}
use Rattle.std.proofs.lemmas.List.Elements.{All-from_recursion, recursion_from_All}
use Rattle.std.proofs.lemmas.Map.Made.{length-from_same_keys}
use Rattle.pl_base.specs.declared.id.VisitId.{VisitId}
use Rattle.pl_base.specs.Live.{chunks, live_slots, slot_limit}
use Rattle.pl_base.specs.Rows.{Kept, KeptOrigin, KeptPage, store_of}
use Rattle.pl_base.specs.Store.{Item, Visit}
use Rattle.pl_base.proofs.ListLaws.{sum_by-agree, weaker}
use Rattle.pl_base.proofs.LookUps.{both}
use Rattle.pl_base.proofs.Truths.{same_tests}
use Rattle.pl_record.specs.Form.{AreRows, IsLaid}
use Rattle.pl_record.specs.Records.{Layout, row_slots, text_slots}
use Rattle.pl_record.proofs.OriginsCounted.{slots_of as store_slots, texts_of}
use Rattle.pl_record.proofs.LaidSlots.{layout_live, slots_with}
use Rattle.pl_rail.proofs.MemberCount.{live_among}
use Rattle.pl_sheets.specs.Sheets.{Pages}
use Rattle.pl_slot.specs.declared.kind.SlotKind.TheVariants as kinds
use Rattle.pl_slot.specs.Arena.{is_among, is_live, live_count, slot_count, slots_of}
use Rattle.pl_slot.proofs.ChainCount.{passes_within, range_distinct}
use Rattle.pl_text.specs.Chunks.{Hold}
use Rattle.pl_text.proofs.HeldTexts.{held_count}

-- there is room for a slot more and those of a text, where as many live then are not too many
pub room_for : (after before count chunks : ℕ) → count ≡ before → after ≡ before + 1 + chunks → after ≤ slot_limit
    → count + 1 + chunks ≤ slot_limit
room_for after before count chunks is more few = omega (arith, is, more, few)

length-four : (a b c d : List ℕ) → length (a ++ b ++ c ++ d) ≡ length a + length b + length c + length d
length-four a b c d = omega (arith, length-append (a ++ b ++ c) d, length-append (a ++ b) c, length-append a b)

module _ (at : Layout) (kept : Kept) (targets : VisitId → List Visit) (pages : Pages) (rows : AreRows kept targets)
    (laid : IsLaid at kept targets pages) where
  rows_long : length (row_slots at kept)
      ≡ length kept.origins + length kept.pages + length kept.visits + length kept.items
  rows_long =
      omega (
        arith,
        length-four (slots_with at kept kinds.Origin) (slots_with at kept kinds.Place) (slots_with at kept kinds.Visit)
            (slots_with at kept kinds.Item),
        length-map kept.origins (λ (o : KeptOrigin). o.origin.0),
        length-map kept.pages (λ (p : KeptPage). (at.page p.page.id).0),
        length-map kept.visits (λ (v : Visit). (at.visit v.id).0),
        length-map kept.items (λ (i : Item). (at.item i.id).0),
      )

  page_texts : AllByRecursion (λ (p : KeptPage). length (at.url p.page.id ++ at.title p.page.id)
      ≡ chunks p.page.url + chunks p.page.title) kept.pages
  page_texts =
      both (λ (p : KeptPage). Hold (at.url p.page.id) p.page.url pages)
      (λ (p : KeptPage). Hold (at.title p.page.id) p.page.title pages)
      (λ (p : KeptPage). length (at.url p.page.id ++ at.title p.page.id) ≡ chunks p.page.url + chunks p.page.title)
      kept.pages
      (λ p url title.
      two (at.url p.page.id) (at.title p.page.id) (chunks p.page.url) (chunks p.page.title)
      (held_count (at.url p.page.id) p.page.url pages url) (held_count (at.title p.page.id) p.page.title pages title))
      (recursion_from_All (λ (p : KeptPage). Hold (at.url p.page.id) p.page.url pages) kept.pages laid.texts.urls)
      (recursion_from_All (λ (p : KeptPage). Hold (at.title p.page.id) p.page.title pages) kept.pages laid.texts.titles)
    where
      two : (xs ys : List ℕ) (m n : ℕ) → length xs ≡ m → length ys ≡ n → length (xs ++ ys) ≡ m + n
      two xs ys m n first second = omega (arith, length-append xs ys, first, second)

  texts_long : length (text_slots at kept)
      ≡ sum_by texts_of kept.pages + sum_by (λ (i : Item). chunks i.title) kept.items
  texts_long =
      omega (
        arith,
        length-append (flat_map (λ (p : KeptPage). at.url p.page.id ++ at.title p.page.id) kept.pages)
            (flat_map (λ (i : Item). at.item_title i.id) kept.items),
        length-flat_map (λ (p : KeptPage). at.url p.page.id ++ at.title p.page.id) kept.pages,
        length-flat_map (λ (i : Item). at.item_title i.id) kept.items,
        sum_by-agree (λ (p : KeptPage). length (at.url p.page.id ++ at.title p.page.id))
            texts_of kept.pages
            (All-from_recursion (λ (p : KeptPage). length (at.url p.page.id ++ at.title p.page.id)
            ≡ chunks p.page.url + chunks p.page.title) kept.pages page_texts),
        sum_by-agree (λ (i : Item). length (at.item_title i.id)) (λ (i : Item). chunks i.title) kept.items
            (All-from_recursion (λ (i : Item). length (at.item_title i.id) ≡ chunks i.title) kept.items
            (weaker (λ (i : Item). Hold (at.item_title i.id) i.title pages)
            (λ (i : Item). length (at.item_title i.id) ≡ chunks i.title) kept.items
            (λ i title. held_count (at.item_title i.id) i.title pages title)
            (recursion_from_All (λ (i : Item). Hold (at.item_title i.id) i.title pages) kept.items
            laid.texts.item_titles))),
      )

  -- a slot is live where it is one of the layout's
  same_live : (n : ℕ) → is_among n (row_slots at kept ++ text_slots at kept)
      ≡ is_among n (filter (λ k. is_live k pages) (slots_of pages))
  same_live n =
      same_tests (is_among n (row_slots at kept ++ text_slots at kept))
      (is_among n (filter (λ k. is_live k pages) (slots_of pages)))
      (λ among. live_among n pages (layout_live at kept targets pages laid n among))
      (λ among. laid.slots.whole n (passes_within (λ k. is_live k pages) n 1 (slot_count pages) among).0)

  pub live_counted : live_count pages ≡ live_slots (store_of kept)
  unfolding live_count
  live_counted =
      omega (
        arith,
        length-from_same_keys nat_eq_equiv (row_slots at kept ++ text_slots at kept)
            (filter (λ k. is_live k pages) (slots_of pages)) laid.slots.once
            (range_distinct (λ k. is_live k pages) 1 (slot_count pages)) same_live,
        length-append (row_slots at kept) (text_slots at kept),
        rows_long,
        texts_long,
        store_slots kept rows.well.origins,
      )

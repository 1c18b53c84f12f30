-- The rows stay well kept where items change.
use Rattle.std.proofs.Common.{◌≡◌, ◌+◌, ◌<◌, ◌≤◌, ◌==◌, ◌∙◌, ℕ, Bool, true, false, List}
use Rattle.std.proofs.Common.{Option, Some, arith, get_or, if◌then◌else◌, length, refl}
use Rattle.std.specs.Prelude.{not}
use Rattle.std.proofs.lemmas.List.{length-map}
use Rattle.std.proofs.lemmas.List.Elements.{All-filter}
use Rattle.std.proofs.lemmas.List.Kept.{IsStrictlyIncreasing-filter}
use Rattle.pl_base.specs.declared.date.Micros.{Micros}
use Rattle.pl_base.specs.declared.id.ItemId.{ItemId}
use Rattle.pl_base.specs.declared.item.ItemRow.{ItemRow}
use Rattle.pl_base.specs.Good.{AreIds, end_of_ids}
use Rattle.pl_base.specs.Live.{chunks, live_slots, slot_limit}
use Rattle.pl_base.specs.Rows.{Kept, live_with_item, live_with_item_title, store_of, with_item, with_items}
use Rattle.pl_base.specs.Store.{Item, item_id}
use Rattle.pl_base.specs.Tree.{inserted, item_at, moved, redated, removed, retitled, with_changed}
use Rattle.pl_base.proofs.ItemLaws.{count_inserted, count_moved, count_removed, ids_changed, ids_inserted, ids_moved}
use Rattle.pl_base.proofs.ItemLaws.{ids_of, ids_removed, once, slots_inserted, slots_moved, slots_removed, title_slots}
use Rattle.pl_base.proofs.ListLaws.{sum_by-agree, sum_by-map}
use Rattle.pl_base.proofs.OneChanged.{sum_changed}
use Rattle.pl_plain.specs.FlatRows.{IsFlat}
use Rattle.pl_plain.proofs.FlatChanges.{slots_of}
use Rattle.pl_plain.proofs.Lists.{AreIds_push}

-- other items and another next id, with which the rows take so many slots
IsFlat-with_items : (kept : Kept) (next : ℕ) (items : List Item) (origins live after : ℕ)
    → AreIds 7 next (ids_of items)
    → after ≡ live_slots (store_of (record kept { ids = record kept.ids { item = next }; items = items }))
    → after ≤ slot_limit → IsFlat kept origins live
    → IsFlat (record kept { ids = record kept.ids { item = next }; items = items }) origins after
IsFlat-with_items kept next items origins live after ids filled few h =
    record {
      day = h.day;
      page_ids = h.page_ids;
      visit_ids = h.visit_ids;
      item_ids = ids;
      urls = h.urls;
      distinct_urls = h.distinct_urls;
      titles = h.titles;
      visits = h.visits;
      sources = h.sources;
      named = h.named;
      used = h.used;
      same = h.same;
      counted = h.counted;
      filled = filled;
      few = few;
    }

-- the slots of the items alone differ
slots_apart : (kept : Kept) (next : ℕ) (items : List Item)
    → live_slots (store_of (record kept { ids = record kept.ids { item = next }; items = items }))
    + (length kept.items + title_slots kept.items)
    ≡ live_slots (store_of kept) + (length items + title_slots items)
slots_apart kept next items =
    omega (
      arith,
      slots_of kept,
      slots_of (record kept { ids = record kept.ids { item = next }; items = items }),
    )

-- ---- a new item

pub slots_with_item : (row : ItemRow) (title : List ℕ) (after : Option ItemId) (kept : Kept)
    → live_slots (store_of (with_item row title after kept)) ≡ live_slots (store_of kept) + (1 + chunks title)
slots_with_item row title after kept =
    let items : List Item = inserted (item_id kept.ids.item) row title after kept.items in
    omega (
      arith,
      slots_apart kept (kept.ids.item + 1) items,
      count_inserted (item_id kept.ids.item) row title after kept.items,
      slots_inserted (item_id kept.ids.item) row title after kept.items,
    )

pub IsFlat-with_item : (row : ItemRow) (title : List ℕ) (after : Option ItemId) (kept : Kept) (origins live : ℕ)
    → kept.ids.item < end_of_ids → live_with_item row title after kept ≤ slot_limit
    → IsFlat kept origins live → IsFlat (with_item row title after kept) origins (live + (1 + chunks title))
IsFlat-with_item row title after kept origins live room fits h =
    let id : ItemId = item_id kept.ids.item in
    IsFlat-with_items kept (kept.ids.item + 1) (inserted id row title after kept.items) origins live
    (live + (1 + chunks title))
    (rw (ids_inserted id row title after kept.items)
    (AreIds_push 7 kept.ids.item (ids_of kept.items) (omega arith) (λ full. omega arith) h.item_ids))
    (omega (arith, slots_with_item row title after kept, h.filled))
    (omega (arith, slots_with_item row title after kept, h.filled, fits)) h

-- ---- a move

pub IsFlat-with_moved : (id parent : ItemId) (after : Option ItemId) (kept : Kept) (origins live : ℕ)
    → IsFlat kept origins live → IsFlat (with_items (moved id parent after kept.items) kept) origins live
IsFlat-with_moved id parent after kept origins live h =
    let items : List Item = moved id parent after kept.items in
    IsFlat-with_items kept kept.ids.item items origins live live
    (rw (ids_moved id parent after kept.items) h.item_ids)
    (omega (
      arith,
      h.filled,
      slots_apart kept kept.ids.item items,
      count_moved id parent after kept.items,
      slots_moved id parent after kept.items,
    ))
    h.few h

-- ---- another title or date

count_changed : (id : ItemId) (change : Item → Item) (items : List Item)
    → length (with_changed id change items) ≡ length items
count_changed id change items = length-map items (λ (i : Item). if i.id.0 == id.0 then change i else i)

IsFlat-with_changed : (id : ItemId) (change : Item → Item) (kept : Kept) (origins live after : ℕ)
    → ((i : Item) → (change i).id ≡ i.id)
    → after ≡ live_slots (store_of (with_items (with_changed id change kept.items) kept)) → after ≤ slot_limit
    → IsFlat kept origins live → IsFlat (with_items (with_changed id change kept.items) kept) origins after
IsFlat-with_changed id change kept origins live after same filled few h =
    IsFlat-with_items kept kept.ids.item (with_changed id change kept.items) origins live after
    (rw (ids_changed id change kept.items same) h.item_ids) filled few h

-- the slots of the old title go, and those of the new one come
pub slots_retitled : (id : ItemId) (title : List ℕ) (modified : Micros) (kept : Kept) (origins live : ℕ) (i : Item)
    → IsFlat kept origins live → item_at kept.items id ≡ Some i
    → live_slots (store_of (with_items (retitled id title modified kept.items) kept)) + chunks i.title
    ≡ live_slots (store_of kept) + chunks title
slots_retitled id title modified kept origins live i h found =
    let change : Item → Item = λ (i : Item). record i { title = title; modified = modified } in
    omega (
      arith,
      slots_apart kept kept.ids.item (retitled id title modified kept.items),
      count_changed id change kept.items,
      sum_changed (λ (x : Item). x.id.0 == id.0) change (λ (x : Item). chunks x.title) kept.items i
          (once id kept.items h.item_ids.ascending) found,
    )

pub IsFlat-with_retitled : (id : ItemId) (title : List ℕ) (modified : Micros) (kept : Kept) (origins live after : ℕ)
    → after ≡ live_with_item_title id title modified kept → after ≤ slot_limit
    → IsFlat kept origins live
    → IsFlat (with_items (retitled id title modified kept.items) kept) origins after
IsFlat-with_retitled id title modified kept origins live after filled few h =
    IsFlat-with_changed id (λ (i : Item). record i { title = title; modified = modified }) kept origins live after
    (λ i. refl) filled few h

redated_title : (id : ItemId) (modified : Micros) (items : List Item)
    → title_slots (redated id modified items) ≡ title_slots items
redated_title id modified items =
    sum_by-map (λ (i : Item). chunks i.title)
    (λ (i : Item). if i.id.0 == id.0 then record i { modified = modified } else i) items
    ∙ sum_by-agree (λ (i : Item). chunks (if i.id.0 == id.0 then record i { modified = modified } else i).title)
    (λ (i : Item). chunks i.title) items (λ k d within. choose (get_or items k d) ((get_or items k d).id.0 == id.0))
  where
    choose : (i : Item) (b : Bool) → chunks (if b then record i { modified = modified } else i).title ≡ chunks i.title
    choose i true = refl
    choose i false = refl

pub IsFlat-with_redated : (id : ItemId) (modified : Micros) (kept : Kept) (origins live : ℕ) → IsFlat kept origins live
    → IsFlat (with_items (redated id modified kept.items) kept) origins live
IsFlat-with_redated id modified kept origins live h =
    let change : Item → Item = λ (i : Item). record i { modified = modified } in
    IsFlat-with_changed id change kept origins live live (λ i. refl)
    (omega (
      arith,
      h.filled,
      slots_apart kept kept.ids.item (redated id modified kept.items),
      count_changed id change kept.items,
      redated_title id modified kept.items,
    ))
    h.few h

-- ---- an item less

pub slots_with_removed : (id : ItemId) (kept : Kept) (origins live : ℕ) (i : Item) → IsFlat kept origins live
    → item_at kept.items id ≡ Some i
    → live_slots (store_of (with_items (removed id kept.items) kept)) + (1 + chunks i.title)
    ≡ live_slots (store_of kept)
slots_with_removed id kept origins live i h found =
    omega (
      arith,
      slots_apart kept kept.ids.item (removed id kept.items),
      count_removed id kept.items i h.item_ids.ascending found,
      slots_removed id kept.items i h.item_ids.ascending found,
    )

pub IsFlat-with_removed : (id : ItemId) (kept : Kept) (origins live after : ℕ)
    → after ≡ live_slots (store_of (with_items (removed id kept.items) kept)) → after ≤ slot_limit
    → IsFlat kept origins live → IsFlat (with_items (removed id kept.items) kept) origins after
IsFlat-with_removed id kept origins live after filled few h =
    IsFlat-with_items kept kept.ids.item (removed id kept.items) origins live after
    (rw (ids_removed id kept.items)
    record {
      ascending = IsStrictlyIncreasing-filter (λ n. not (n == id.0)) (ids_of kept.items) h.item_ids.ascending;
      given =
          All-filter (λ n. not (n == id.0)) (λ n. (0 < n) × (n < kept.ids.item)) (ids_of kept.items) h.item_ids.given;
      next_first = h.item_ids.next_first;
      next_last = h.item_ids.next_last;
    })
    filled few h

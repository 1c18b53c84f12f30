-- The header of pages that are the form of a store: it counts the slots of all rows that are read,
-- and those that their texts want, and begins and ends as any store's does.
use Rattle.std.proofs.Common.{◌≡◌, ◌+◌, ◌-◌, ◌∷◌, [], ℕ, List, arith, length, map, refl, replicate}
use Rattle.std.specs.List.{flat_map, sum_by}
use Rattle.std.proofs.lemmas.List.{length-map}
use Rattle.std.proofs.lemmas.List.Sums.{sum_by-append, sum_by-cons}
use Rattle.pl_base.specs.declared.id.VisitId.{VisitId}
use Rattle.pl_base.specs.Live.{chunks, live_slots}
use Rattle.pl_base.specs.Rows.{Kept, KeptOrigin, KeptPage, store_of}
use Rattle.pl_base.specs.Store.{Item as TreeItem, Visit as StoreVisit}
use Rattle.pl_base.specs.Touched.{page_size}
use Rattle.pl_load.specs.Reads.{Reads, item_at, place_at, visit_at}
use Rattle.pl_load.proofs.FormReads.{reads_of}
use Rattle.pl_reading.specs.Texts.{page_texts, row_texts, wanted}
use Rattle.pl_record.specs.declared.rows.Item.{Item}
use Rattle.pl_record.specs.declared.rows.TextAt.{TextAt}
use Rattle.pl_record.specs.Form.{AreRows, IsLaid, form_name, header_size}
use Rattle.pl_record.specs.Records.{Layout}
use Rattle.pl_record.proofs.OriginsCounted.{slots_of, texts_of}
use Rattle.pl_sheets.specs.Sheets.{Pages}
use Rattle.pl_slot.specs.Arena.{header_of}
use Rattle.pl_text.specs.Chunks.{chunk_count}

-- ---- what texts want

abbrev wants : TextAt → ℕ
wants t = chunk_count t.length

-- the URLs and titles of pages want what their texts take, and so do the titles of items
pages_want : (at : Layout) (ps : List KeptPage)
    → sum_by wants (flat_map page_texts (map (place_at at) ps)) ≡ sum_by texts_of ps
pages_want at [] = refl
pages_want at (p ∷ ps) =
    let rest : List TextAt = flat_map page_texts (map (place_at at) ps) in
    let first : sum_by wants ((place_at at p).url ∷ (place_at at p).title ∷ rest)
    ≡ chunks p.page.url + sum_by wants ((place_at at p).title ∷ rest) =
    sum_by-cons wants (place_at at p).url ((place_at at p).title ∷ rest) in
    let second : sum_by wants ((place_at at p).title ∷ rest) ≡ chunks p.page.title + sum_by wants rest =
    sum_by-cons wants (place_at at p).title rest in
    let all : sum_by texts_of (p ∷ ps) ≡ (chunks p.page.url + chunks p.page.title) + sum_by texts_of ps =
    sum_by-cons texts_of p ps in
    omega (arith, first, second, all, pages_want at ps)

items_want : (at : Layout) (items is : List TreeItem)
    → sum_by wants (map (λ (i : Item). i.title) (map (item_at at items) is))
    ≡ sum_by (λ (i : TreeItem). chunks i.title) is
items_want at items [] = refl
items_want at items (i ∷ is) =
    let rest : List TextAt = map (λ (j : Item). j.title) (map (item_at at items) is) in
    let first : sum_by wants ((item_at at items i).title ∷ rest) ≡ chunks i.title + sum_by wants rest =
    sum_by-cons wants (item_at at items i).title rest in
    let all : sum_by (λ (j : TreeItem). chunks j.title) (i ∷ is)
    ≡ chunks i.title + sum_by (λ (j : TreeItem). chunks j.title) is =
    sum_by-cons (λ (j : TreeItem). chunks j.title) i is in
    omega (arith, first, all, items_want at items is)

texts_want : (at : Layout) (kept : Kept) → wanted (row_texts (reads_of at kept).places (reads_of at kept).items)
    ≡ sum_by texts_of kept.pages + sum_by (λ (i : TreeItem). chunks i.title) kept.items
texts_want at kept =
    let of_pages : List TextAt = flat_map page_texts (map (place_at at) kept.pages) in
    let of_items : List TextAt = map (λ (i : Item). i.title) (map (item_at at kept.items) kept.items) in
    omega (
      arith,
      sum_by-append wants of_pages of_items,
      pages_want at kept.pages,
      items_want at kept.items kept.items,
    )

module _ (at : Layout) (kept : Kept) (targets : VisitId → List StoreVisit) (pages : Pages)
    (rows : AreRows kept targets) (laid : IsLaid at kept targets pages) where
  -- ---- how many slots are live

  abbrev live_read : Reads → ℕ
  live_read reads =
      length reads.origins + length reads.places + length reads.visits + length reads.items
      + wanted (row_texts reads.places reads.items)

  pub form_live : (header_of pages).live ≡ live_read (reads_of at kept)
  form_live =
      let is : (header_of pages).live ≡ live_slots (store_of kept) = laid.header.live in
      omega (
        arith,
        is,
        slots_of kept rows.well.origins,
        texts_want at kept,
        length-map kept.origins (λ (o : KeptOrigin). o.origin),
        length-map kept.pages (place_at at),
        length-map kept.visits (visit_at at),
        length-map kept.items (item_at at kept.items),
      )

  -- ---- the rest of the header

  pub form_named : (header_of pages).form ≡ form_name
  form_named = laid.header.form

  pub form_rest : (header_of pages).rest ≡ replicate (page_size - header_size) 0
  form_rest = laid.header.rest

-- What the rows and texts of a layout keep where other slots come or go, and how often a slot
-- stands among theirs.
use Rattle.std.proofs.Common.{◌≡◌, ◌∙◌, ◌+◌, ◌++◌, ◌<◌, ◌≤◌, ◌∷◌, [], ℕ, List, None, Some, ap, arith, drop, eqb}
use Rattle.std.proofs.Common.{false, get_or, inl, inr, is_some, length, map, refl, sym, take, true}
use Rattle.std.specs.List.{slice_index_or, sum_by}
use Rattle.std.proofs.lemmas.Bool.{cases_Bool, cases_eq, true≢false}
use Rattle.std.proofs.lemmas.List.Sums.{get_or-le-sum_by}
use Rattle.pl_base.specs.Rows.{Kept, KeptOrigin, KeptPage}
use Rattle.pl_base.specs.Store.{Item, Visit}
use Rattle.pl_base.proofs.KeyCounts.{count, count-append, count-cons, tick, tick_other, tick_same}
use Rattle.pl_base.proofs.ListLaws.{sum_by-map}
use Rattle.pl_record.specs.Chains.{HasAlone}
use Rattle.pl_record.specs.Records.{HoldsOnce, HoldsRow, HoldsRows, HoldsTexts, Layout, Record, item_record}
use Rattle.pl_record.specs.Records.{origin_record, page_record, row_slots, text_slots, visit_record}
use Rattle.pl_record.specs.Rows.{record_at}
use Rattle.pl_record.specs.SlotChanges.{KeepsAlone}
use Rattle.pl_record.proofs.LaidSlots.{held_live}
use Rattle.pl_record.proofs.RecordMaps.{held_record, part_record, record_held, record_live, record_part}
use Rattle.pl_record.proofs.SlotCounts.{among_some, few_once, item_title_times, live_once, none_times, once_counted}
use Rattle.pl_record.proofs.SlotCounts.{page_texts, slot_times, texts_times, times, title_times, url_times}
use Rattle.pl_sheets.specs.Sheets.{Pages}
use Rattle.pl_slot.specs.declared.links.Rail.TheVariants.{Children, References, Targets}
use Rattle.pl_slot.specs.Arena.{first_in, is_among, is_live, live_row}
use Rattle.pl_slot.specs.Slot.{payload_size}
use Rattle.pl_text.specs.Chunks.{Hold}
use Rattle.pl_text.proofs.HeldTexts.{held_once}

-- ---- how often a slot stands among those of a layout

-- among those of origins, of pages with their texts, and of all others
abbrev pub origin_times : List KeptOrigin → ℕ → ℕ
origin_times origins n = count (λ (o : KeptOrigin). o.origin.0) n origins

abbrev pub page_times : Layout → List KeptPage → ℕ → ℕ
page_times at pages n =
    count (λ (p : KeptPage). (at.page p.page.id).0) n pages + sum_by (λ (p : KeptPage). times n (page_texts at p)) pages

abbrev pub other_times : Layout → Kept → ℕ → ℕ
other_times at kept n =
    count (λ (v : Visit). (at.visit v.id).0) n kept.visits + count (λ (i : Item). (at.item i.id).0) n kept.items
    + sum_by (λ (i : Item). times n (at.item_title i.id)) kept.items

map_times : {X : Type 0} (f : X → ℕ) (n : ℕ) (xs : List X) → times n (map f xs) ≡ count f n xs
map_times f n xs = sum_by-map (λ m. tick (eqb m n)) f xs

pub kinds_times : (at : Layout) (kept : Kept) (n : ℕ)
    → slot_times at kept n ≡ origin_times kept.origins n + page_times at kept.pages n + other_times at kept n
kinds_times at kept n =
    omega (
      arith,
      texts_times at kept n,
      count-append (λ (m : ℕ). m) n (origins ++ pages ++ visits) items,
      count-append (λ (m : ℕ). m) n (origins ++ pages) visits,
      count-append (λ (m : ℕ). m) n origins pages,
      map_times (λ (o : KeptOrigin). o.origin.0) n kept.origins,
      map_times (λ (p : KeptPage). (at.page p.page.id).0) n kept.pages,
      map_times (λ (v : Visit). (at.visit v.id).0) n kept.visits,
      map_times (λ (i : Item). (at.item i.id).0) n kept.items,
    )
  where
    origins : List ℕ
    origins = map (λ (o : KeptOrigin). o.origin.0) kept.origins

    pages : List ℕ
    pages = map (λ (p : KeptPage). (at.page p.page.id).0) kept.pages

    visits : List ℕ
    visits = map (λ (v : Visit). (at.visit v.id).0) kept.visits

    items : List ℕ
    items = map (λ (i : Item). (at.item i.id).0) kept.items

own_times : {X : Type 0} (f : X → ℕ) (xs : List X) (k : ℕ) (d : X) → k < length xs
    → 1 ≤ count f (f (get_or xs k d)) xs
own_times f xs k d within =
    let n : ℕ = f (get_or xs k d) in
    omega (arith, get_or-le-sum_by (λ x. tick (eqb (f x) n)) xs k d within, tick_same n n refl)

-- a text has each slot once
pub held_few : (ns text : List ℕ) (pages : Pages) → Hold ns text pages → (n : ℕ) → times n ns ≤ 1
held_few [] text pages held n = omega arith
held_few (m ∷ ns) text pages held n = elim (cases_eq m n) [
  | inl here ↦
      omega (
        arith,
        count-cons (λ (k : ℕ). k) n m ns,
        tick_same m n here,
        none_times n ns (ap (λ k. is_among k ns) (sym here) ∙ held_once m ns text pages held),
      )
  | inr apart ↦
      omega (
        arith,
        count-cons (λ (k : ℕ). k) n m ns,
        tick_other m n apart,
        held_few ns (drop payload_size text) pages held.2 n,
      )
]

-- a slot that is not live is none of the layout's
pub dead_times : (at : Layout) (kept : Kept) (pages : Pages) → HoldsRows at kept pages → HoldsTexts at kept pages
    → (n : ℕ) → is_live n pages ≡ false → slot_times at kept n ≡ 0
dead_times at kept pages held texts n dead = elim (cases_Bool (is_among n (row_slots at kept ++ text_slots at kept))) [
  | inl one ↦ absurd (true≢false (sym (held_live at kept pages held texts n one) ∙ dead))
  | inr none ↦ none_times n (row_slots at kept ++ text_slots at kept) none
]

-- ---- the slots of the layout have the records that they had

module _ (at : Layout) (kept : Kept) (old new : Pages)
    (same : (n : ℕ) → 1 ≤ slot_times at kept n → record_at n new ≡ record_at n old) where
  row_beside : (r : Record) → live_row r.row ≡ Some r.row → 1 ≤ slot_times at kept r.slot.0 → HoldsRow r old
      → HoldsRow r new
  row_beside r live counted held = record_held r new (same r.slot.0 counted ∙ held_record r old live held)

  pub rows_beside : HoldsRows at kept old → HoldsRows at kept new
  rows_beside held =
      record {
        origins = λ k d within.
            let o : KeptOrigin = slice_index_or kept.origins k d in
            row_beside (origin_record o) refl
            (omega (
              arith,
              kinds_times at kept o.origin.0,
              own_times (λ (q : KeptOrigin). q.origin.0) kept.origins k d within,
            )) (held.origins k d within);
        places = λ k d within.
            let p : KeptPage = slice_index_or kept.pages k d in
            row_beside (page_record at p) refl
            (omega (
              arith,
              kinds_times at kept (at.page p.page.id).0,
              own_times (λ (q : KeptPage). (at.page q.page.id).0) kept.pages k d within,
            )) (held.places k d within);
        visits = λ k d within.
            let v : Visit = slice_index_or kept.visits k d in
            row_beside (visit_record at v) refl
            (omega (
              arith,
              kinds_times at kept (at.visit v.id).0,
              own_times (λ (w : Visit). (at.visit w.id).0) kept.visits k d within,
            )) (held.visits k d within);
        items = λ k d within.
            let i : Item = slice_index_or kept.items k d in
            row_beside (item_record at kept.items i) refl
            (omega (
              arith,
              kinds_times at kept (at.item i.id).0,
              own_times (λ (j : Item). (at.item j.id).0) kept.items k d within,
            )) (held.items k d within);
      }

  text_beside : (ns text : List ℕ) → ((n : ℕ) → times n ns ≤ slot_times at kept n) → Hold ns text old
      → Hold ns text new
  text_beside [] text few held = held
  text_beside (m ∷ ns) text few held = (
    held.0,
    record_part m (take payload_size text) (first_in ns) new
        (same m (omega (arith, few m, count-cons (λ (k : ℕ). k) m m ns, tick_same m m refl))
        ∙ part_record m (take payload_size text) (first_in ns) old held.1),
    text_beside ns (drop payload_size text) (λ n. omega (arith, few n, count-cons (λ (k : ℕ). k) n m ns)) held.2,
  )

  pub texts_beside : HoldsTexts at kept old → HoldsTexts at kept new
  texts_beside held =
      record {
        urls = λ k d within.
            let p : KeptPage = slice_index_or kept.pages k d in
            text_beside (at.url p.page.id) p.page.url (λ n. url_times at kept n k d within) (held.urls k d within);
        titles = λ k d within.
            let p : KeptPage = slice_index_or kept.pages k d in
            text_beside (at.title p.page.id) p.page.title (λ n. title_times at kept n k d within)
            (held.titles k d within);
        item_titles = λ k d within.
            let i : Item = slice_index_or kept.items k d in
            text_beside (at.item_title i.id) i.title (λ n. item_title_times at kept n k d within)
            (held.item_titles k d within);
      }

pub alone_beside : (at : Layout) (kept : Kept) (old new : Pages) → KeepsAlone old new → HasAlone at kept old
    → HasAlone at kept new
alone_beside at kept old new keeps alone =
    record {
      visits = λ k d within none.
          keeps Targets (at.visit (slice_index_or kept.visits k d).id) refl refl (alone.visits k d within none);
      roots = λ k d within none.
          keeps Children (at.item (slice_index_or kept.items k d).id) refl refl (alone.roots k d within none);
      others = λ k d within none.
          keeps References (at.item (slice_index_or kept.items k d).id) refl refl (alone.others k d within none);
    }

-- ---- slots come

module _ (at : Layout) (kept : Kept) (ns : List ℕ) (old new : Pages) (held : HoldsRows at kept old)
    (texts : HoldsTexts at kept old) (fresh : (n : ℕ) → is_among n ns ≡ true → is_live n old ≡ false)
    (others : (n : ℕ) → is_among n ns ≡ false → record_at n new ≡ record_at n old) where
  pub same_before : (n : ℕ) → 1 ≤ slot_times at kept n → record_at n new ≡ record_at n old
  same_before n counted = elim (cases_Bool (is_among n ns)) [
    | inl comes ↦ absurd (omega (arith, counted, dead_times at kept old held texts n (fresh n comes)))
    | inr stays ↦ others n stays
  ]

  pub once_more : (bt : Layout) (now : Kept) → HoldsOnce at kept old → ((n : ℕ) → times n ns ≤ 1)
      → ((n : ℕ) → slot_times bt now n ≡ slot_times at kept n + times n ns) → HoldsOnce bt now new
  once_more bt now once few more =
      once_counted bt now new
      (λ n. elim (cases_Bool (is_among n ns)) [
        | inl comes ↦ omega (arith, more n, dead_times at kept old held texts n (fresh n comes), few n)
        | inr stays ↦ omega (arith, more n, none_times n ns stays, few_once at kept old once n)
      ])
      (λ n live. elim (cases_Bool (is_among n ns)) [
        | inl comes ↦ omega (arith, more n, among_some n ns comes)
        | inr stays ↦
            omega (
              arith,
              more n,
              live_once at kept old once n
                  (record_live n old ∙ sym (ap is_some (others n stays)) ∙ sym (record_live n new) ∙ live),
            )
      ])

-- ---- slots go

module _ (at : Layout) (kept now : Kept) (ns : List ℕ) (old new : Pages) (once : HoldsOnce at kept old)
    (gone : (n : ℕ) → is_among n ns ≡ true → record_at n new ≡ None)
    (others : (n : ℕ) → is_among n ns ≡ false → record_at n new ≡ record_at n old)
    (fewer : (n : ℕ) → slot_times at now n + times n ns ≡ slot_times at kept n) where
  pub same_left : (n : ℕ) → 1 ≤ slot_times at now n → record_at n new ≡ record_at n old
  same_left n counted = elim (cases_Bool (is_among n ns)) [
    | inl goes ↦ absurd (omega (arith, counted, fewer n, among_some n ns goes, few_once at kept old once n))
    | inr stays ↦ others n stays
  ]

  pub once_fewer : HoldsOnce at now new
  once_fewer =
      once_counted at now new (λ n. omega (arith, fewer n, few_once at kept old once n))
      (λ n live. elim (cases_Bool (is_among n ns)) [
        | inl goes ↦ absurd (true≢false (sym live ∙ record_live n new ∙ ap is_some (gone n goes)))
        | inr stays ↦
            omega (
              arith,
              fewer n,
              none_times n ns stays,
              live_once at kept old once n
                  (record_live n old ∙ sym (ap is_some (others n stays)) ∙ sym (record_live n new) ∙ live),
            )
      ])

-- What the slots of a store hold, and how they are chained, with a page more, which has the next
-- id.
use Rattle.std.proofs.Common.{◌≡◌, ◌∙◌, ◌∷◌, ◌==◌, ◌+◌, ◌++◌, ◌||◌, ◌<◌, ◌≤◌, [], ℕ, All, Bool, List, None, Option}
use Rattle.std.proofs.Common.{Some}
use Rattle.std.proofs.Common.{ap, append-nil, arith, eq-eqb, eqb, eqb-true, false, filter, if◌then◌else◌, IfSome, inl}
use Rattle.std.proofs.Common.{inr, length, map, ne_eqb, refl, subst, sym, true}
use Rattle.std.specs.Cmp.{nat_eq_equiv}
use Rattle.std.specs.List.{AllByRecursion, slice_index_or}
use Rattle.std.proofs.lemmas.Bool.{cases_eq, true≢false}
use Rattle.std.proofs.lemmas.List.{map-append}
use Rattle.std.proofs.lemmas.List.Elements.{All-push, filter-append, recursion_from_All}
use Rattle.std.proofs.lemmas.List.Sums.{sum_by-append, sum_by-cons}
use Rattle.pl_base.specs.declared.id.PageId.{PageId}
use Rattle.pl_base.specs.declared.id.Slot.{Slot}
use Rattle.pl_base.specs.declared.id.VisitId.{VisitId}
use Rattle.pl_base.specs.Good.{AreIds}
use Rattle.pl_base.specs.Rows.{Kept, KeptOrigin, KeptPage, has_page, next_page, page_visits, store_of, with_new_page}
use Rattle.pl_base.specs.Store.{Item, Visit}
use Rattle.pl_base.specs.Tree.{is_page, parent_of, references}
use Rattle.pl_base.specs.Visits.{latest_first, visits_of}
use Rattle.pl_base.proofs.KeyCounts.{count-append, count-cons, tick, tick_other, tick_same}
use Rattle.pl_base.proofs.ListLaws.{All-from_map, all-filter, sum_by-agree, weaker}
use Rattle.pl_base.proofs.LookUps.{any_none, none_kept}
use Rattle.pl_base.proofs.Truths.{no_test}
use Rattle.pl_record.specs.ChainMap.{AreApart, with_chain}
use Rattle.pl_record.specs.Chains.{item_slots, page_slots, pages_in, visit_slots}
use Rattle.pl_record.specs.Records.{HoldsRow, HoldsRows, HoldsTexts, Layout, Record, page_record, slot_or_none}
use Rattle.pl_record.specs.Records.{visit_record}
use Rattle.pl_record.specs.Rows.{record_at}
use Rattle.pl_record.specs.SlotChanges.{InsertsPlace, with_page_slot}
use Rattle.pl_record.proofs.ChainMaps.{fresh_linkless, fresh_loose, inserted_apart, linkless_empty}
use Rattle.pl_record.proofs.Filled.{IsFilled}
use Rattle.pl_record.proofs.LaidChains.{NamesChains}
use Rattle.pl_record.proofs.RecordMaps.{record_held}
use Rattle.pl_record.proofs.RowsBeside.{alone_beside, held_few, kinds_times, once_more, page_times, rows_beside}
use Rattle.pl_record.proofs.RowsBeside.{same_before, texts_beside}
use Rattle.pl_record.proofs.SlotCounts.{none_times, page_texts, slot_times, times}
use Rattle.pl_rail.specs.declared.owner.Owner.TheVariants.{At, Header}
use Rattle.pl_rail.specs.Rails.{none}
use Rattle.pl_sheets.specs.Sheets.{Pages}
use Rattle.pl_slot.specs.declared.kind.LiveKind.TheVariants as kinds
use Rattle.pl_slot.specs.declared.links.Rail.TheVariants.{Live, OriginPages, PageVisits, References}
use Rattle.pl_slot.specs.declared.row.SlotRow.TheVariants as rows
use Rattle.pl_slot.specs.Arena.{first_in, is_among, is_live}
use Rattle.pl_text.specs.Chunks.{Hold}

-- the layout in which a page lies in this slot, its URL in these, and its title in none
abbrev pub with_page_at : PageId → Slot → List ℕ → Layout → Layout
with_page_at id slot url at =
    record at {
      page = λ i. if i.0 == id.0 then slot else at.page i;
      url = λ i. if i.0 == id.0 then url else at.url i;
      title = λ i. if i.0 == id.0 then [] else at.title i;
    }

module _ (at : Layout) (kept : Kept) (targets : VisitId → List Visit) (url : List ℕ) (origin slot : Slot)
    (old new : Pages) (ids : AreIds 1 kept.ids.page (map (λ (p : KeptPage). p.page.id.0) kept.pages))
    (visited : All (λ (v : Visit). has_page kept v.page ≡ true) kept.visits)
    (own : All (λ (i : Item). IfSome i.page (λ page. has_page kept page ≡ true)) kept.items)
    (filled : IsFilled at kept targets old)
    (comes : InsertsPlace (next_page url origin kept).page.id url origin slot old new) where
  abbrev next : KeptPage
  next = next_page url origin kept

  abbrev id : PageId
  id = next.page.id

  abbrev now : Kept
  now = with_new_page url origin kept

  abbrev bt : Layout
  bt = with_page_at id slot comes.text at

  -- ---- no page has the id yet

  abbrev pub IsOther : KeptPage → Type 0
  IsOther p = (p.page.id.0 == id.0) ≡ false

  pub apart : All IsOther kept.pages
  apart k d within =
      let p : KeptPage = slice_index_or kept.pages k d in
      let given : (0 < p.page.id.0) × (p.page.id.0 < kept.ids.page) =
      All-from_map (λ n. (0 < n) × (n < kept.ids.page)) (λ (q : KeptPage). q.page.id.0) kept.pages ids.given k d within
      in
      ne_eqb p.page.id.0 id.0 (λ same. omega (arith, given.1, same))

  pub each_apart : AllByRecursion IsOther kept.pages
  each_apart = recursion_from_All IsOther kept.pages apart

  other : (page : PageId) → has_page kept page ≡ true → (page.0 == id.0) ≡ false
  other page there =
      no_test (page.0 == id.0) (λ same.
      true≢false (sym there
      ∙ any_none (λ (p : KeptPage). p.page.id.0 == page.0) kept.pages
      (weaker IsOther (λ (p : KeptPage). (p.page.id.0 == page.0) ≡ false) kept.pages
      (λ p beside. ap (λ n. p.page.id.0 == n) (eqb-true page.0 id.0 same) ∙ beside) each_apart)))

  no_visits : visits_of (store_of kept) id ≡ []
  no_visits =
      none_kept (λ (v : Visit). v.page.0 == id.0) kept.visits
      (weaker (λ (v : Visit). has_page kept v.page ≡ true) (λ (v : Visit). (v.page.0 == id.0) ≡ false) kept.visits
      (λ v there. other v.page there)
      (recursion_from_All (λ (v : Visit). has_page kept v.page ≡ true) kept.visits visited))

  no_items : references kept.items id ≡ []
  no_items =
      ap (map (λ (i : Item). i.id))
      (none_kept (λ (i : Item). is_page id i.page) kept.items
      (weaker (λ (i : Item). IfSome i.page (λ page. has_page kept page ≡ true))
      (λ (i : Item). is_page id i.page ≡ false) kept.items (λ i there. beside i.page there)
      (recursion_from_All (λ (i : Item). IfSome i.page (λ page. has_page kept page ≡ true)) kept.items own)))
    where
      beside : (o : Option PageId) → IfSome o (λ page. has_page kept page ≡ true) → is_page id o ≡ false
      beside None there = refl
      beside (Some page) there = other page there

  -- ---- where all stands

  -- the layout of the page, and of the others
  abbrev by : Bool → Layout
  by is =
      record at {
        page = λ i. if is then slot else at.page i;
        url = λ i. if is then comes.text else at.url i;
        title = λ i. if is then [] else at.title i;
      }

  itself : (id.0 == id.0) ≡ true
  itself = eq-eqb id.0 id.0 refl

  here : bt.page id ≡ slot
  here = ap (λ b. if b then slot else at.page id) itself

  page_same : (page : PageId) → (page.0 == id.0) ≡ false → bt.page page ≡ at.page page
  page_same page beside = ap (λ b. if b then slot else at.page page) beside

  slots_same : (ps : List KeptPage) → AllByRecursion IsOther ps → page_slots bt ps ≡ page_slots at ps
  slots_same [] all = refl
  slots_same (p ∷ ps) all = λ i. page_same p.page.id all.0 i ∷ slots_same ps all.1 i

  -- the pages of an origin as they were, and the new one if it is one of them
  abbrev with : Slot → Bool → List Slot
  with x is = page_slots at (pages_in kept x) ++ (if is then slot ∷ [] else [])

  in_origin : (x : Slot) → page_slots bt (pages_in now x) ≡ with x (origin.0 == x.0)
  in_origin x =
      ap (page_slots bt) (filter-append (λ (p : KeptPage). p.origin.0 == x.0) kept.pages (next ∷ []))
      ∙ map-append (λ (p : KeptPage). bt.page p.page.id) (pages_in kept x)
      (filter (λ (p : KeptPage). p.origin.0 == x.0) (next ∷ []))
      ∙ (λ i.
      slots_same (pages_in kept x)
      (all-filter IsOther (λ (p : KeptPage). p.origin.0 == x.0) kept.pages each_apart) i
      ++ last (origin.0 == x.0) i)
    where
      last : (b : Bool) → page_slots bt (if b then next ∷ [] else []) ≡ (if b then slot ∷ [] else [])
      last true = ap (λ s. s ∷ []) here
      last false = refl

  -- ---- chains

  origin_named : (o : KeptOrigin) → filled.chains OriginPages (At o.origin) ≡ page_slots at (pages_in kept o.origin)
      → with_page_slot origin slot filled.chains OriginPages (At o.origin) ≡ page_slots bt (pages_in now o.origin)
  origin_named o is = choose (o.origin.0 == origin.0) refl ∙ sym (in_origin o.origin)
    where
      choose : (b : Bool) → (o.origin.0 == origin.0) ≡ b
          → (if b then filled.chains OriginPages (At origin) ++ slot ∷ [] else filled.chains OriginPages (At o.origin))
          ≡ with o.origin (origin.0 == o.origin.0)
      choose true same =
          let one : origin.0 ≡ o.origin.0 = sym (eqb-true o.origin.0 origin.0 same) in
          ap (λ n. filled.chains OriginPages (At (record { 0 = n })) ++ slot ∷ []) one
          ∙ ap (λ slots. slots ++ slot ∷ []) is ∙ sym (ap (with o.origin) (eq-eqb origin.0 o.origin.0 one))
      choose false differs =
          is ∙ sym (append-nil (page_slots at (pages_in kept o.origin)))
          ∙ sym (ap (with o.origin) (nat_eq_equiv.symm origin.0 o.origin.0 ∙ differs))

  is_fresh : is_live slot.0 old ≡ false
  is_fresh = comes.fresh slot.0 (ap (λ b. b || is_among slot.0 comes.text) (eq-eqb slot.0 slot.0 refl))

  named : NamesChains bt now targets (with_page_slot origin slot filled.chains)
  named =
      record {
        live_origins = filled.named.live_origins;
        live_places =
            (λ i. filled.named.live_places i ++ slot ∷ [])
            ∙ sym (map-append (λ (p : KeptPage). bt.page p.page.id) kept.pages (next ∷ [])
            ∙ (λ i. slots_same kept.pages each_apart i ++ here i ∷ []));
        live_visits = filled.named.live_visits;
        live_items = filled.named.live_items;
        origins = λ k d within. origin_named (slice_index_or kept.origins k d) (filled.named.origins k d within);
        visits =
            All-push (λ (p : KeptPage). filled.chains PageVisits (At (bt.page p.page.id))
            ≡ visit_slots at (page_visits now p.page.id)) kept.pages next
            (λ k d within.
            let p : KeptPage = slice_index_or kept.pages k d in
            ap (λ s. filled.chains PageVisits (At s)) (page_same p.page.id (apart k d within))
            ∙ filled.named.visits k d within)
            (ap (λ s. filled.chains PageVisits (At s)) here
            ∙ linkless_empty filled.chains old filled.are PageVisits slot (fresh_linkless slot.0 old is_fresh)
            ∙ sym (ap (λ vs. visit_slots at (latest_first vs)) no_visits));
        references =
            All-push (λ (p : KeptPage). filled.chains References (At (bt.page p.page.id))
            ≡ item_slots at (references kept.items p.page.id)) kept.pages next
            (λ k d within.
            let p : KeptPage = slice_index_or kept.pages k d in
            ap (λ s. filled.chains References (At s)) (page_same p.page.id (apart k d within))
            ∙ filled.named.references k d within)
            (ap (λ s. filled.chains References (At s)) here
            ∙ linkless_empty filled.chains old filled.are References slot (fresh_linkless slot.0 old is_fresh)
            ∙ sym (ap (item_slots at) no_items));
        targeted = filled.named.targeted;
        children = filled.named.children;
      }

  still_apart : AreApart OriginPages (with_page_slot origin slot filled.chains)
  still_apart =
      inserted_apart OriginPages (At origin) slot (filled.chains OriginPages (At origin)) []
      (with_chain Live (Header kinds.Place) (filled.chains Live (Header kinds.Place) ++ slot ∷ []) filled.chains)
      filled.apart
      (sym (append-nil (filled.chains OriginPages (At origin))))
      (fresh_loose filled.chains old filled.are OriginPages slot is_fresh)

  -- ---- rows and texts

  still : (n : ℕ) → 1 ≤ slot_times at kept n → record_at n new ≡ record_at n old
  still = same_before at kept (slot.0 ∷ comes.text) old new filled.rows filled.texts comes.fresh comes.others

  abbrev of_page : Item → Slot → Record
  of_page i page =
      record {
        slot = at.item i.id;
        row = rows.Item i.kind none none i.id (slot_or_none at.item (parent_of kept.items i.id)) none none none none
            page none none (first_in (at.item_title i.id)) (length i.title) i.added i.modified;
      }

  page_or_none : (o : Option PageId) → IfSome o (λ page. has_page kept page ≡ true)
      → slot_or_none bt.page o ≡ slot_or_none at.page o
  page_or_none None there = refl
  page_or_none (Some page) there = page_same page (other page there)

  held : HoldsRows bt now new
  held =
      let before : HoldsRows at kept new = rows_beside at kept old new still filled.rows in
      record {
        origins = before.origins;
        places =
            All-push (λ (p : KeptPage). HoldsRow (page_record bt p) new) kept.pages next
            (λ k d within.
            let p : KeptPage = slice_index_or kept.pages k d in
            subst (λ r. HoldsRow r new) (sym (ap (λ b. page_record (by b) p) (apart k d within)))
            (before.places k d within))
            (subst (λ r. HoldsRow r new) (sym (ap (λ b. page_record (by b) next) itself))
            (record_held (page_record (by true) next) new comes.row));
        visits = λ k d within.
            let v : Visit = slice_index_or kept.visits k d in
            subst (λ r. HoldsRow r new)
            (sym (ap (λ b. visit_record (by b) v) (other v.page (visited k d within)))) (before.visits k d within);
        items = λ k d within.
            let i : Item = slice_index_or kept.items k d in
            subst (λ s. HoldsRow (of_page i s) new) (sym (page_or_none i.page (own k d within)))
            (before.items k d within);
      }

  texts : HoldsTexts bt now new
  texts =
      let before : HoldsTexts at kept new = texts_beside at kept old new still filled.texts in
      record {
        urls =
            All-push (λ (p : KeptPage). Hold (bt.url p.page.id) p.page.url new) kept.pages next
            (λ k d within.
            let p : KeptPage = slice_index_or kept.pages k d in
            subst (λ ns. Hold ns p.page.url new)
            (sym (ap (λ b. if b then comes.text else at.url p.page.id) (apart k d within))) (before.urls k d within))
            (subst (λ ns. Hold ns url new) (sym (ap (λ b. if b then comes.text else at.url id) itself)) comes.held);
        titles =
            All-push (λ (p : KeptPage). Hold (bt.title p.page.id) p.page.title new) kept.pages next
            (λ k d within.
            let p : KeptPage = slice_index_or kept.pages k d in
            subst (λ ns. Hold ns p.page.title new)
            (sym (ap (λ b. if b then [] else at.title p.page.id) (apart k d within))) (before.titles k d within))
            (subst (λ ns. Hold ns [] new) (sym (ap (λ b. if b then [] else at.title id) itself)) refl);
        item_titles = before.item_titles;
      }

  -- ---- each slot has one

  few : (n : ℕ) → times n (slot.0 ∷ comes.text) ≤ 1
  few n = elim (cases_eq slot.0 n) [
    | inl is ↦
        omega (
          arith,
          count-cons (λ (m : ℕ). m) n slot.0 comes.text,
          tick_same slot.0 n is,
          none_times n comes.text (ap (λ k. is_among k comes.text) (sym is) ∙ comes.apart),
        )
    | inr beside ↦
        omega (
          arith,
          count-cons (λ (m : ℕ). m) n slot.0 comes.text,
          tick_other slot.0 n beside,
          held_few comes.text url new comes.held n,
        )
  ]

  others_same : (n : ℕ) → page_times bt kept.pages n ≡ page_times at kept.pages n
  others_same n =
      omega (
        arith,
        sum_by-agree (λ (p : KeptPage). tick (eqb (bt.page p.page.id).0 n))
            (λ (p : KeptPage). tick (eqb (at.page p.page.id).0 n)) kept.pages
            (λ k d within.
            ap (λ (s : Slot). tick (eqb s.0 n)) (page_same (slice_index_or kept.pages k d).page.id (apart k d within))),
        sum_by-agree (λ (p : KeptPage). times n (page_texts bt p)) (λ (p : KeptPage). times n (page_texts at p))
            kept.pages
            (λ k d within.
            ap (λ b. times n (page_texts (by b) (slice_index_or kept.pages k d))) (apart k d within)),
      )

  more : (n : ℕ) → slot_times bt now n ≡ slot_times at kept n + times n (slot.0 ∷ comes.text)
  more n =
      omega (
        arith,
        kinds_times at kept n,
        kinds_times bt now n,
        others_same n,
        count-append (λ (p : KeptPage). (bt.page p.page.id).0) n kept.pages (next ∷ []),
        count-cons (λ (p : KeptPage). (bt.page p.page.id).0) n next [],
        ap (λ (s : Slot). tick (eqb s.0 n)) here,
        sum_by-append (λ (p : KeptPage). times n (page_texts bt p)) kept.pages (next ∷ []),
        sum_by-cons (λ (p : KeptPage). times n (page_texts bt p)) next [],
        ap (λ b. times n (page_texts (by b) next)) itself,
        count-append (λ (m : ℕ). m) n comes.text [],
        count-cons (λ (m : ℕ). m) n slot.0 comes.text,
      )

  pub place_comes : IsFilled (with_page_at (next_page url origin kept).page.id slot comes.text at)
      (with_new_page url origin kept) targets new
  place_comes =
      let alone = alone_beside at kept old new comes.alone filled.alone in
      record {
        chains = with_page_slot origin slot filled.chains;
        are = comes.chains filled.chains filled.are filled.apart;
        named = named;
        apart = still_apart;
        rows = held;
        texts = texts;
        slots =
            once_more at kept (slot.0 ∷ comes.text) old new filled.rows filled.texts comes.fresh comes.others bt now
            filled.slots few more;
        alone = record { visits = alone.visits; roots = alone.roots; others = alone.others };
      }

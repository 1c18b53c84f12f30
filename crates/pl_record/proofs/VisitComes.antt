-- What the slots of a store hold, and how they are chained, with a visit more, which has the next
-- id.
use Rattle.std.proofs.Common.{◌≡◌, ◌∙◌, ◌∷◌, ◌==◌, ◌+◌, ◌<◌, ◌≤◌, [], ℕ, All, List, None}
use Rattle.std.proofs.Common.{Option, Some, ap, arith, eq-eqb, eqb, false, if◌then◌else◌, IfSome, inl}
use Rattle.std.proofs.Common.{inr, nat_lt, not, refl, subst, sym, true}
use Rattle.std.specs.List.{AllByRecursion, slice_index_or}
use Rattle.std.specs.Prelude.{IsTrue}
use Rattle.std.proofs.lemmas.Bool.{cases_eq, or_parts, true≢false}
use Rattle.std.proofs.lemmas.List.Elements.{All-push}
use Rattle.pl_base.specs.declared.id.PageId.{PageId}
use Rattle.pl_base.specs.declared.id.Slot.{Slot}
use Rattle.pl_base.specs.declared.id.VisitId.{VisitId}
use Rattle.pl_base.specs.declared.row.VisitRow.{VisitRow}
use Rattle.pl_base.specs.Rows.{HasSource, Kept, has_page, has_visit, next_visit, page_visits}
use Rattle.pl_base.specs.Rows.{with_visit}
use Rattle.pl_base.specs.Store.{Visit}
use Rattle.pl_base.specs.Visits.{in_place, is_later}
use Rattle.pl_base.proofs.KeyCounts.{count-append, count-cons, tick, tick_other, tick_same}
use Rattle.pl_base.proofs.ListLaws.{sum_by-agree}
use Rattle.pl_record.specs.declared.rows.Visit.{Visit as Row}
use Rattle.pl_record.specs.ChainMap.{AreApart, ChainMap, IsLoose}
use Rattle.pl_record.specs.Chains.{HasAlone, IsAlone}
use Rattle.pl_record.specs.Form.{AreRows}
use Rattle.pl_record.specs.Records.{HoldsRow, HoldsRows, Layout, Record, slot_or_none, visit_record}
use Rattle.pl_record.specs.Rows.{record_at, visit_row}
use Rattle.pl_record.specs.VisitChanges.{TakesVisit}
use Rattle.pl_record.specs.VisitChanges.{with_visit_slot}
use Rattle.pl_record.proofs.ChainMapsKept.{only_one}
use Rattle.pl_record.proofs.Filled.{IsFilled}
use Rattle.pl_record.proofs.LaidChains.{NamesChains}
use Rattle.pl_record.proofs.RecordMaps.{record_held}
use Rattle.pl_record.proofs.RowsBeside.{kinds_times, once_more, rows_beside, same_before, texts_beside}
use Rattle.pl_record.proofs.SlotCounts.{slot_times, times}
use Rattle.pl_record.proofs.TargetLists.{with_target}
use Rattle.pl_record.proofs.VisitChains.{slotted}
use Rattle.pl_rail.specs.Rails.{none}
use Rattle.pl_sheets.specs.Sheets.{Pages}
use Rattle.pl_slot.specs.declared.links.Rail.TheVariants.{Children, OriginPages, PageVisits, References, Targets}
use Rattle.pl_slot.specs.declared.row.SlotRow.TheVariants as slot_rows
use Rattle.pl_slot.specs.Arena.{is_among, is_live}
use Rattle.pl_record.proofs.VisitNamed as before
use Rattle.pl_record.proofs.VisitNamed.{with_visit_at}

module _ (at : Layout) (kept : Kept) (targets : VisitId → List Visit) (row : VisitRow) (slot : Slot) (old new : Pages)
    (rows : AreRows kept targets) (own_page : has_page kept row.page ≡ true)
    (own_source : IfSome row.source (λ id. has_visit kept id ≡ true))
    (filled : IsFilled at kept targets old)
    (lone : All (λ (v : Visit). v.source ≡ None → IsLoose Targets (at.visit v.id) filled.chains) kept.visits)
    (visits_apart : AreApart PageVisits filled.chains) (targets_apart : AreApart Targets filled.chains)
    (later : AllByRecursion (λ (w : Visit). is_later (next_visit row kept) w ≡ not (nat_lt row.date.0 w.date.0))
    kept.visits)
    (of_page : (page : PageId) → page_visits (with_visit row kept) page
    ≡ (if row.page.0 == page.0 then in_place (next_visit row kept) (page_visits kept page) else page_visits kept page))
    (comes : TakesVisit (slotted at (next_visit row kept)) slot old new) where
  abbrev next : Visit
  next = next_visit row kept

  abbrev id : VisitId
  id = next.id

  abbrev now : Kept
  now = with_visit row kept

  abbrev bt : Layout
  bt = with_visit_at id slot at

  abbrev made : Row
  made = slotted at next

  abbrev IsOther : Visit → Type 0
  IsOther v = (v.id.0 == id.0) ≡ false

  abbrev chains : ChainMap
  chains = with_visit_slot old made slot filled.chains

  -- ---- where all stands

  apart : All IsOther kept.visits
  apart = before.apart at kept targets row slot old new rows own_page own_source filled later of_page comes

  here : bt.visit id ≡ slot
  here = before.here at kept targets row slot old new rows own_page own_source filled later of_page comes

  visit_same : (visit : VisitId) → (visit.0 == id.0) ≡ false → bt.visit visit ≡ at.visit visit
  visit_same = before.visit_same at kept targets row slot old new rows own_page own_source filled later of_page comes

  source_same : (source : Option VisitId) → IfSome source (λ s. has_visit kept s ≡ true)
      → slot_or_none bt.visit source ≡ slot_or_none at.visit source
  source_same = before.source_same at kept targets row slot old new rows own_page own_source filled later of_page comes

  named : NamesChains bt now (with_target next targets) chains
  named = before.named at kept targets row slot old new rows own_page own_source filled later of_page comes

  still_apart : AreApart OriginPages chains
  still_apart = before.still_apart at kept targets row slot old new rows own_page own_source filled later of_page comes

  -- ---- rows and texts

  fresh : (n : ℕ) → is_among n (slot.0 ∷ []) ≡ true → is_live n old ≡ false
  fresh n among = ap (λ k. is_live k old) (only_one n slot.0 among) ∙ comes.fresh

  beside_slot : (n : ℕ) → is_among n (slot.0 ∷ []) ≡ false → record_at n new ≡ record_at n old
  beside_slot n apart =
      comes.records n
      ∙ ap (λ b. if b then Some (visit_row made) else record_at n old) (or_parts (n == slot.0) false apart).0

  still : (n : ℕ) → 1 ≤ slot_times at kept n → record_at n new ≡ record_at n old
  still = same_before at kept (slot.0 ∷ []) old new filled.rows filled.texts fresh beside_slot

  abbrev of_visit : Visit → Slot → Slot → Record
  of_visit v at_slot source =
      record {
        slot = at_slot;
        row = slot_rows.Visit v.transition none none v.id (at.page v.page) none none source none none none none v.date;
      }

  source_there : (v : Visit) → HasSource kept v → IfSome v.source (λ s. has_visit kept s ≡ true)
  source_there v known = choose v.source known
    where
      choose : (s : Option VisitId) → IfSome s (λ id. (id.0 < v.id.0) × IsTrue (has_visit kept id))
          → IfSome s (λ id. has_visit kept id ≡ true)
      choose None is = tt
      choose (Some source) is = is.1

  held : HoldsRows bt now new
  held =
      let before : HoldsRows at kept new = rows_beside at kept old new still filled.rows in
      record {
        origins = before.origins;
        places = before.places;
        visits =
            All-push (λ (v : Visit). HoldsRow (visit_record bt v) new) kept.visits next
            (λ k d within.
            let v : Visit = slice_index_or kept.visits k d in
            subst (λ r. HoldsRow r new)
            (sym (λ i. of_visit v (visit_same v.id (apart k d within) i)
            (source_same v.source (source_there v (rows.well.sources k d within)) i)))
            (before.visits k d within))
            (subst (λ r. HoldsRow r new) (sym (λ i. of_visit next (here i) (source_same row.source own_source i)))
            (record_held (of_visit next slot (slot_or_none at.visit row.source)) new
            (comes.records slot.0
            ∙ ap (λ b. if b then Some (visit_row made) else record_at slot.0 old) (eq-eqb slot.0 slot.0 refl))));
        items = before.items;
      }

  -- ---- each slot has one

  few : (n : ℕ) → times n (slot.0 ∷ []) ≤ 1
  few n = elim (cases_eq slot.0 n) [
    | inl is ↦ omega (arith, count-cons (λ (m : ℕ). m) n slot.0 [], tick_same slot.0 n is)
    | inr beside ↦ omega (arith, count-cons (λ (m : ℕ). m) n slot.0 [], tick_other slot.0 n beside)
  ]

  more : (n : ℕ) → slot_times bt now n ≡ slot_times at kept n + times n (slot.0 ∷ [])
  more n =
      omega (
        arith,
        kinds_times at kept n,
        kinds_times bt now n,
        sum_by-agree (λ (v : Visit). tick (eqb (bt.visit v.id).0 n)) (λ (v : Visit). tick (eqb (at.visit v.id).0 n))
            kept.visits
            (λ k d within.
            ap (λ (s : Slot). tick (eqb s.0 n)) (visit_same (slice_index_or kept.visits k d).id (apart k d within))),
        count-append (λ (v : Visit). (bt.visit v.id).0) n kept.visits (next ∷ []),
        count-cons (λ (v : Visit). (bt.visit v.id).0) n next [],
        ap (λ (s : Slot). tick (eqb s.0 n)) here,
        count-cons (λ (m : ℕ). m) n slot.0 [],
      )

  -- ---- slots that stand alone

  alone : HasAlone bt now new
  alone =
      record {
        visits =
            All-push (λ (v : Visit). v.source ≡ None → IsAlone Targets (bt.visit v.id) new) kept.visits next
            (λ k d within none.
            subst (λ s. IsAlone Targets s new)
            (sym (visit_same (slice_index_or kept.visits k d).id (apart k d within)))
            (comes.alone filled.chains filled.are Targets (at.visit (slice_index_or kept.visits k d).id) refl refl
            (λ _. lone k d within none) (filled.alone.visits k d within none)))
            (λ none. subst (λ s. IsAlone Targets s new) (sym here)
            (comes.own (ap (λ s. (slot_or_none at.visit s).0) none)));
        roots = λ k d within none.
            comes.alone filled.chains filled.are Children (at.item (slice_index_or kept.items k d).id) refl refl
            (λ is. absurd (true≢false (sym is))) (filled.alone.roots k d within none);
        others = λ k d within none.
            comes.alone filled.chains filled.are References (at.item (slice_index_or kept.items k d).id) refl refl
            (λ is. absurd (true≢false (sym is))) (filled.alone.others k d within none);
      }

  pub visit_comes : IsFilled (with_visit_at (next_visit row kept).id slot at) (with_visit row kept)
      (with_target (next_visit row kept) targets) new
  visit_comes =
      let texts = texts_beside at kept old new still filled.texts in
      record {
        chains = chains;
        are = comes.chains filled.chains filled.are visits_apart targets_apart;
        named = named;
        apart = still_apart;
        rows = held;
        texts = record { urls = texts.urls; titles = texts.titles; item_titles = texts.item_titles };
        slots =
            once_more at kept (slot.0 ∷ []) old new filled.rows filled.texts fresh beside_slot bt now filled.slots few
            more;
        alone = alone;
      }

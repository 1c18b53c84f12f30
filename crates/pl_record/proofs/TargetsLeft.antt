-- The visits that came from one come from none: what the slots of a store hold then, and which
-- stand alone.
use Rattle.std.proofs.Common.{◌≡◌, ◌∙◌, ◌∷◌, ◌==◌, ◌++◌, ◌&&◌, [], ℕ, All, Bool, List, None}
use Rattle.std.proofs.Common.{Option, Some, ap, eq-eqb, eqb, eqb-true, false, filter, if◌then◌else◌}
use Rattle.std.proofs.Common.{inl, inr, is_some, map, not, refl, subst, sym, true}
use Rattle.std.specs.List.{AllByRecursion, IsDistinct, list_any, slice_index_or}
use Rattle.std.specs.Option.{option_map}
use Rattle.std.proofs.lemmas.Bool.{cases_Bool, or_left, or_right}
use Rattle.std.proofs.lemmas.List.Elements.{All-map}
use Rattle.std.proofs.lemmas.List.Folds.{list_any-append}
use Rattle.std.proofs.lemmas.Option.{same_Some}
use Rattle.pl_base.specs.declared.id.Slot.{Slot}
use Rattle.pl_base.specs.declared.id.VisitId.{VisitId}
use Rattle.pl_base.specs.Redirects.{is_redirect, is_source, others_from, redirects_from}
use Rattle.pl_base.specs.Removal.{source_left, visit_left}
use Rattle.pl_base.specs.Rows.{Kept, KeptOrigin, KeptPage, store_of, visit_at}
use Rattle.pl_base.specs.Store.{Item, Visit}
use Rattle.pl_base.proofs.IdsLaws.{same_slot}
use Rattle.pl_base.proofs.ListLaws.{list_any-map, map-map}
use Rattle.pl_base.proofs.LookUps.{found_any, found_passes}
use Rattle.pl_base.proofs.TargetsRun.{IsAny, all_any, targets_of}
use Rattle.pl_base.proofs.Truths.{no_test, same_tests}
use Rattle.pl_base.proofs.VisitLists.{each_visit_found, visits_found}
use Rattle.pl_base.proofs.VisitsRun.{visit_is}
use Rattle.pl_record.specs.ChainMap.{AreApart, AreChains, ChainMap, IsLoose, is_owner, with_chain}
use Rattle.pl_record.specs.Chains.{IsAlone, visit_slots}
use Rattle.pl_record.specs.Form.{AreRows}
use Rattle.pl_record.proofs.NamedSlots.{found_all, found_of, one_row, visit_row_is}
use Rattle.pl_record.specs.Records.{HoldsOnce, HoldsRow, HoldsRows, HoldsTexts, Layout, Record, item_record}
use Rattle.pl_record.specs.Records.{origin_record, page_record, row_slots, slot_or_none, text_slots, visit_record}
use Rattle.pl_record.specs.Rows.{record_at, with_source}
use Rattle.pl_record.specs.VisitChanges.{DropsTargets}
use Rattle.pl_record.proofs.ChainMaps.{loose_with, other_owner}
use Rattle.pl_record.proofs.Filled.{IsFilled}
use Rattle.pl_record.proofs.RecordMaps.{held_record, part_record, record_held, record_live, record_part}
use Rattle.pl_record.proofs.RowSets.{texts_by_parts, texts_each}
use Rattle.pl_record.proofs.Splits.{any_kept, any_permuted}
use Rattle.pl_record.proofs.TargetLists.{sourceless}
use Rattle.pl_record.proofs.VisitChains.{visit_of}
use Rattle.pl_base.proofs.VisitLists.{among_one}
use Rattle.pl_rail.specs.declared.owner.Owner.TheVariants.{At}
use Rattle.pl_rail.specs.Rails.{is_in, none}
use Rattle.pl_sheets.specs.Sheets.{Pages}
use Rattle.pl_slot.specs.declared.links.Rail.TheVariants.{Targets}
use Rattle.pl_slot.specs.declared.row.SlotRow.{SlotRow}
use Rattle.pl_slot.specs.declared.row.SlotRow.TheVariants as slot_rows
use Rattle.pl_slot.specs.Arena.{is_among, is_live, live_row}
use Rattle.pl_text.specs.Chunks.{HoldsPart, chunk_row}

-- ---- sources

-- what came from the one has no source left, and others have theirs
left_none : (id : VisitId) (source : Option VisitId) → is_source id source ≡ true → source_left (id ∷ []) source ≡ None
left_none id None is = refl
left_none id (Some s) is = ap (λ (b : Bool). if b then None else Some s) (among_one id s ∙ is)

left_still : (id : VisitId) (source : Option VisitId) → is_source id source ≡ false
    → source_left (id ∷ []) source ≡ source
left_still id None is = refl
left_still id (Some s) is = ap (λ (b : Bool). if b then None else Some s) (among_one id s ∙ is)

module _ (at : Layout) (kept : Kept) (targets : VisitId → List Visit) (id : VisitId) (v : Visit)
    (found : visit_at kept id ≡ Some v) (old mid : Pages) (rows : AreRows kept targets)
    (filled : IsFilled at kept targets old)
    (lone : All (λ (w : Visit). w.source ≡ None → IsLoose Targets (at.visit w.id) filled.chains) kept.visits)
    (targets_apart : AreApart Targets filled.chains)
    (drops : DropsTargets (at.visit id) (visit_slots at (targets id)) old mid) where
  abbrev slot : Slot
  slot = at.visit id

  abbrev own : List Slot
  own = visit_slots at (targets id)

  -- a visit that stays, as it is left, and the rows that are left
  abbrev left : Visit → Visit
  left = visit_left (id ∷ [])

  abbrev other : Visit → Bool
  other w = not (w.id.0 == id.0)

  abbrev bare : Kept
  bare = sourceless id kept

  -- ---- visits that are there

  abbrev IsThere : Visit → Type 0
  IsThere w = visit_at kept w.id ≡ Some w

  pub all_there : AllByRecursion IsThere kept.visits
  all_there = each_visit_found kept rows.well

  pub own_id : v.id ≡ id
  own_id = visit_is kept id v found

  pub held_at : (w : Visit) → IsThere w → HoldsRow (visit_record at w) old
  held_at w there = visit_row_is at kept old filled.rows w.id w there

  -- two visits in one slot are one
  same_visit : (u w : Visit) → IsThere u → IsThere w → at.visit u.id ≡ at.visit w.id → u ≡ w
  same_visit u w first second same =
      let one : (visit_record at u).row ≡ (visit_record at w).row =
      one_row (visit_record at u) (visit_record at w) old (held_at u first) (held_at w second) same in
      let ids : u.id ≡ w.id = cc in
      same_Some u w (sym first ∙ ap (visit_at kept) ids ∙ second)

  -- one with the id is the visit
  pub is_it : (w : Visit) → IsThere w → (w.id.0 == id.0) ≡ true → w ≡ v
  is_it w there same =
      let ids : w.id ≡ id = ap (λ (n : ℕ). record { 0 = n }) (eqb-true w.id.0 id.0 same) in
      same_Some w v (sym there ∙ ap (visit_at kept) ids ∙ found)

  -- the slot of the visit is that of no other
  pub one_test : (w : Visit) → IsThere w → ((at.visit w.id).0 == slot.0) ≡ (w.id.0 == id.0)
  one_test w there = same_tests ((at.visit w.id).0 == slot.0) (w.id.0 == id.0) by_slot by_id
    where
      by_slot : ((at.visit w.id).0 == slot.0) ≡ true → (w.id.0 == id.0) ≡ true
      by_slot same =
          let one : w ≡ v =
          same_visit w v there (ap (visit_at kept) own_id ∙ found)
          (same_slot (at.visit w.id) slot (eqb-true (at.visit w.id).0 slot.0 same) ∙ sym (ap at.visit own_id)) in
          eq-eqb w.id.0 id.0 (ap (λ (x : Visit). x.id.0) one ∙ ap (λ (i : VisitId). i.0) own_id)

      by_id : (w.id.0 == id.0) ≡ true → ((at.visit w.id).0 == slot.0) ≡ true
      by_id same =
          eq-eqb (at.visit w.id).0 slot.0
          (ap (λ (n : ℕ). (at.visit (record { 0 = n })).0) (eqb-true w.id.0 id.0 same))

  pub there_targets : (source : VisitId) → AllByRecursion (IsAny kept source) (targets source)
  there_targets source =
      all_any kept source (targets source) (targets_of kept source (targets source) rows.well (rows.targeted source))

  -- ---- the visits that came from it

  module _ (w : Visit) (there : IsThere w) where
    abbrev has_slot : Visit → Bool
    has_slot u = (at.visit u.id).0 == (at.visit w.id).0

    comes : is_in (at.visit w.id) own ≡ true → is_source id w.source ≡ true
    comes among =
        let u = visit_of at (IsAny kept id) (targets id) (at.visit w.id) (there_targets id) among in
        let one : u.0 ≡ w = same_visit u.0 w u.1.0 there u.2 in
        ap (λ (x : Visit). is_source id x.source) (sym one) ∙ ap (is_source id) u.1.1 ∙ eq-eqb id.0 id.0 refl

    -- it is among those of a part that has it
    in_part : (test : Visit → Bool) → test w ≡ true → list_any has_slot (filter test kept.visits) ≡ true
    in_part test passes =
        let u =
        found_of (λ (x : Visit). x.id.0 == w.id.0) (filter test kept.visits)
        (any_kept (λ (x : Visit). x.id.0 == w.id.0) test kept.visits w there passes) in
        found_any (λ (x : Visit). x.id.0 == w.id.0) has_slot (filter test kept.visits) u.0 u.1
        (eq-eqb (at.visit u.0.id).0 (at.visit w.id).0
        (ap (λ (n : ℕ). (at.visit (record { 0 = n })).0)
        (eqb-true u.0.id.0 w.id.0
        (found_passes (λ (x : Visit). x.id.0 == w.id.0) (filter test kept.visits) u.0 u.1))))

    is_target : is_source id w.source ≡ true → is_in (at.visit w.id) own ≡ true
    is_target from =
        let t = rows.targeted id in
        list_any-map (λ (s : Slot). s.0 == (at.visit w.id).0) (λ (u : Visit). at.visit u.id) (targets id)
        ∙ ap (list_any has_slot) t.is
        ∙ list_any-append has_slot t.redirects t.others
        ∙ elim (cases_Bool (is_redirect w.transition)) [
          | inl redirect ↦
              or_left (list_any has_slot t.redirects) (list_any has_slot t.others)
              (any_permuted has_slot t.redirects (redirects_from (store_of kept) id) t.all_redirects
              (in_part (λ (x : Visit). is_redirect x.transition && is_source id x.source)
              (λ i. redirect i && from i)))
          | inr differs ↦
              or_right (list_any has_slot t.redirects) (list_any has_slot t.others)
              (any_permuted has_slot t.others (others_from (store_of kept) id) t.all_others
              (in_part (λ (x : Visit). not (is_redirect x.transition) && is_source id x.source)
              (λ i. not (differs i) && from i)))
        ]

    came : is_in (at.visit w.id) own ≡ is_source id w.source
    came = same_tests (is_in (at.visit w.id) own) (is_source id w.source) comes is_target

  -- ---- rows and texts where none came from it

  fixed : (n : ℕ) (row : SlotRow) → with_source none row ≡ row → record_at n old ≡ Some row
      → record_at n mid ≡ Some row
  fixed n row same was = drops.records n ∙ choose (is_in (record { 0 = n }) own)
    where
      choose : (b : Bool) → (if b then option_map (with_source none) (record_at n old) else record_at n old) ≡ Some row
      choose true = ap (option_map (with_source none)) was ∙ ap Some same
      choose false = was

  row_fixed : (r : Record) → with_source none r.row ≡ r.row → live_row r.row ≡ Some r.row → HoldsRow r old
      → HoldsRow r mid
  row_fixed r same live held = record_held r mid (fixed r.slot.0 r.row same (held_record r old live held))

  -- a visit's record with this source, and what its slot had
  abbrev row_from : Visit → Option VisitId → SlotRow
  row_from w source =
      slot_rows.Visit w.transition none none w.id (at.page w.page) none none (slot_or_none at.visit source) none none
      none none w.date

  abbrev before : Visit → Option SlotRow
  before w = record_at (at.visit w.id).0 old

  left_row : (w : Visit) → IsThere w → HoldsRow (visit_record at (left w)) mid
  left_row w there =
      record_held (visit_record at (left w)) mid
      (drops.records (at.visit w.id).0
      ∙ ap (λ (b : Bool). if b then option_map (with_source none) (before w) else before w) (came w there)
      ∙ choose (is_source id w.source) refl)
    where
      was : before w ≡ Some (row_from w w.source)
      was = held_record (visit_record at w) old refl (held_at w there)

      choose : (b : Bool) → is_source id w.source ≡ b
          → (if b then option_map (with_source none) (before w) else before w)
          ≡ Some (row_from w (source_left (id ∷ []) w.source))
      choose true is =
          ap (option_map (with_source none)) was
          ∙ ap (λ (s : Option VisitId). Some (row_from w s)) (sym (left_none id w.source is))
      choose false is = was ∙ ap (λ (s : Option VisitId). Some (row_from w s)) (sym (left_still id w.source is))

  pub bare_rows : HoldsRows at bare mid
  bare_rows =
      record {
        origins = λ k d within.
            row_fixed (origin_record (slice_index_or kept.origins k d)) refl refl (filled.rows.origins k d within);
        places = λ k d within.
            row_fixed (page_record at (slice_index_or kept.pages k d)) refl refl (filled.rows.places k d within);
        visits =
            All-map (λ (w : Visit). HoldsRow (visit_record at w) mid) left kept.visits
            (λ k d within. left_row (slice_index_or kept.visits k d) (visits_found kept rows.well k d within));
        items = λ k d within.
            row_fixed (item_record at kept.items (slice_index_or kept.items k d)) refl refl
            (filled.rows.items k d within);
      }

  part_fixed : (n : ℕ) (part : List ℕ) (next : Slot) → HoldsPart n part next old → HoldsPart n part next mid
  part_fixed n part next held =
      record_part n part next mid (fixed n (chunk_row part next) refl (part_record n part next old held))

  pub mid_texts : HoldsTexts at kept mid
  mid_texts = texts_each at kept old mid (texts_by_parts old mid part_fixed) filled.texts

  -- ---- each slot has one, where none came from it

  live_same : (n : ℕ) → is_live n mid ≡ is_live n old
  live_same n =
      record_live n mid ∙ ap is_some (drops.records n) ∙ choose (is_in (record { 0 = n }) own) (record_at n old)
      ∙ sym (record_live n old)
    where
      choose : (b : Bool) (o : Option SlotRow) → is_some (if b then option_map (with_source none) o else o) ≡ is_some o
      choose true None = refl
      choose true (Some row) = refl
      choose false o = refl

  same_slots : row_slots at kept ++ text_slots at kept ≡ row_slots at bare ++ text_slots at bare
  same_slots =
      ap (λ (ns : List ℕ). (map (λ (o : KeptOrigin). o.origin.0) kept.origins
      ++ map (λ (p : KeptPage). (at.page p.page.id).0) kept.pages
      ++ ns ++ map (λ (i : Item). (at.item i.id).0) kept.items) ++ text_slots at kept)
      (sym (map-map (λ (w : Visit). (at.visit w.id).0) left kept.visits))

  pub bare_once : HoldsOnce at bare mid
  bare_once =
      record {
        once = subst (IsDistinct eqb) same_slots filled.slots.once;
        whole = λ n live.
            subst (λ (ns : List ℕ). is_among n ns ≡ true) same_slots
            (filled.slots.whole n (sym (live_same n) ∙ live));
      }

  -- ---- chains where none came from it

  abbrev cleared : ChainMap
  cleared = with_chain Targets (At slot) [] filled.chains

  pub are_cleared : AreChains cleared mid
  are_cleared = drops.chains filled.chains filled.are targets_apart

  own_chain : filled.chains Targets (At slot) ≡ own
  own_chain =
      subst (λ (i : VisitId). filled.chains Targets (At (at.visit i)) ≡ visit_slots at (targets i)) own_id
      (found_all (λ (w : Visit). filled.chains Targets (At (at.visit w.id)) ≡ visit_slots at (targets w.id))
      (λ (w : Visit). w.id.0 == id.0) kept.visits v filled.named.targeted found)

  -- those that came from it are in no chain of targets then
  came_loose : (s : Slot) → is_in s own ≡ true → IsLoose Targets s cleared
  came_loose s among o = choose (is_owner o (At slot)) refl
    where
      choose : (b : Bool) → is_owner o (At slot) ≡ b → is_in s (if b then [] else filled.chains Targets o) ≡ false
      choose true is = refl
      choose false differs =
          no_test (is_in s (filled.chains Targets o))
          (λ also. other_owner o (At slot) differs
          (targets_apart o (At slot) s also (ap (is_in s) own_chain ∙ among)))

  -- one that has no source left, and did not come from it, had none
  source_was : (w : Visit) → IsThere w → is_in (at.visit w.id) own ≡ false → source_left (id ∷ []) w.source ≡ None
      → w.source ≡ None
  source_was w there apart none = sym (left_still id w.source (sym (came w there) ∙ apart)) ∙ none

  pub lone_left : All (λ (w : Visit). w.source ≡ None → IsLoose Targets (at.visit w.id) cleared) bare.visits
  lone_left =
      All-map (λ (w : Visit). w.source ≡ None → IsLoose Targets (at.visit w.id) cleared) left kept.visits
      (λ k d within none.
      let w : Visit = slice_index_or kept.visits k d in
      elim (cases_Bool (is_in (at.visit w.id) own)) [
        | inl among ↦ came_loose (at.visit w.id) among
        | inr apart ↦
            loose_with Targets (At slot) [] filled.chains Targets (at.visit w.id)
            (lone k d within (source_was w (visits_found kept rows.well k d within) apart none)) (λ _. refl)
      ])

  pub alone_left : All (λ (w : Visit). w.source ≡ None → IsAlone Targets (at.visit w.id) mid) bare.visits
  alone_left =
      All-map (λ (w : Visit). w.source ≡ None → IsAlone Targets (at.visit w.id) mid) left kept.visits
      (λ k d within none.
      let w : Visit = slice_index_or kept.visits k d in
      elim (cases_Bool (is_in (at.visit w.id) own)) [
        | inl among ↦ drops.loose (at.visit w.id) among
        | inr apart ↦
            drops.alone Targets (at.visit w.id) (λ _. apart)
            (filled.alone.visits k d within (source_was w (visits_found kept rows.well k d within) apart none))
      ])

-- How the slots of a store are chained with a visit more, which has the next id.
use Rattle.std.proofs.Common.{◌≡◌, ◌∙◌, ◌∷◌, ◌==◌, ◌++◌, ◌<◌, [], All, Bool, List, None}
use Rattle.std.proofs.Common.{Option, Some, ap, arith, eq-eqb, eqb-true, false, if◌then◌else◌, IfSome}
use Rattle.std.proofs.Common.{is_some, nat_lt, ne_eqb, not, refl, sym, true}
use Rattle.std.specs.List.{AllByRecursion, slice_index_or}
use Rattle.std.specs.Option.{option_and_then}
use Rattle.std.proofs.lemmas.Bool.{true≢false}
use Rattle.std.proofs.lemmas.List.{map-append}
use Rattle.std.proofs.lemmas.List.Elements.{All-from_recursion, All-push, recursion_from_All}
use Rattle.pl_base.specs.declared.id.PageId.{PageId}
use Rattle.pl_base.specs.declared.id.Slot.{Slot}
use Rattle.pl_base.specs.declared.id.VisitId.{VisitId}
use Rattle.pl_base.specs.declared.row.VisitRow.{VisitRow}
use Rattle.pl_base.specs.Redirects.{is_redirect, is_source}
use Rattle.pl_base.specs.Rows.{Kept, KeptPage, has_page, has_visit, next_visit, page_visits, visit_at}
use Rattle.pl_base.specs.Rows.{with_visit}
use Rattle.pl_base.specs.Store.{Item, Visit}
use Rattle.pl_base.specs.Visits.{in_place, is_later}
use Rattle.pl_base.proofs.IdsLaws.{same_slot}
use Rattle.pl_base.proofs.ListLaws.{All-from_map, weaker}
use Rattle.pl_base.proofs.LookUps.{any_none, both, found_holds}
use Rattle.pl_base.proofs.PageLaws.{id_at}
use Rattle.pl_base.proofs.TargetsRun.{IsAny, all_any, targets_of}
use Rattle.pl_base.proofs.Truths.{no_test}
use Rattle.pl_base.proofs.VisitsRun.{IsVisitOf, visit_is, visits_stand}
use Rattle.pl_record.specs.declared.rows.Visit.{Visit as Row}
use Rattle.pl_record.specs.ChainMap.{AreApart, ChainMap, with_chain}
use Rattle.pl_record.specs.Chains.{visit_slots}
use Rattle.pl_record.specs.Form.{AreRows}
use Rattle.pl_record.proofs.NamedSlots.{found_all, found_of, one_row, some_slot}
use Rattle.pl_record.proofs.OneForm.{no_targets}
use Rattle.pl_record.specs.Records.{HoldsRow, Layout, page_record, slot_or_none, visit_record}
use Rattle.pl_record.specs.VisitChanges.{TakesVisit, date_in, is_after, put_in_time, put_target, visit_date}
use Rattle.pl_record.specs.VisitChanges.{with_target_slot, with_visit_slot}
use Rattle.pl_record.proofs.ChainMaps.{apart_beside, fresh_linkless, linkless_empty}
use Rattle.pl_record.proofs.Filled.{IsFilled}
use Rattle.pl_record.proofs.LaidChains.{NamesChains}
use Rattle.pl_record.proofs.RecordMaps.{held_record, record_live}
use Rattle.pl_record.proofs.TargetLists.{target_put, with_target}
use Rattle.pl_record.proofs.VisitChains.{slotted}
use Rattle.pl_rail.specs.declared.owner.Owner.{Owner}
use Rattle.pl_rail.specs.declared.owner.Owner.TheVariants.{At, Header}
use Rattle.pl_rail.specs.Rails.{none}
use Rattle.pl_sheets.specs.Sheets.{Pages}
use Rattle.pl_slot.specs.declared.kind.LiveKind.TheVariants as kinds
use Rattle.pl_slot.specs.declared.links.Rail.{Rail}
use Rattle.pl_slot.specs.declared.links.Rail.TheVariants.{Children, Live, OriginPages, PageVisits, References, Targets}
use Rattle.pl_slot.specs.Arena.{is_live}
use Rattle.pl_slot.specs.Links.{is_rail}
use Rattle.pl_record.proofs.OwnedChains.{owner_apart, owner_beside}

-- the layout in which a visit lies in this slot
abbrev pub with_visit_at : VisitId → Slot → Layout → Layout
with_visit_at id slot at = record at { visit = λ i. if i.0 == id.0 then slot else at.visit i }

-- a map with a target more has the chains of other rails that it had
target_beside : (v : Row) (slot : Slot) (chains : ChainMap) (r : Rail) (o : Owner) → is_rail r Targets ≡ false
    → with_target_slot v slot chains r o ≡ chains r o
target_beside v slot chains =
    owner_beside Targets v.source (put_target v.transition slot (chains Targets (At v.source))) chains (v.source.0 == 0)

target_apart : (v : Row) (slot : Slot) (chains : ChainMap) (r : Rail) → is_rail r Targets ≡ false → AreApart r chains
    → AreApart r (with_target_slot v slot chains)
target_apart v slot chains =
    owner_apart Targets v.source (put_target v.transition slot (chains Targets (At v.source))) chains (v.source.0 == 0)

module _ (at : Layout) (kept : Kept) (targets : VisitId → List Visit) (row : VisitRow) (slot : Slot) (old new : Pages)
    (rows : AreRows kept targets) (own_page : has_page kept row.page ≡ true)
    (own_source : IfSome row.source (λ id. has_visit kept id ≡ true))
    (filled : IsFilled at kept targets old)
    (later : AllByRecursion (λ (w : Visit). is_later (next_visit row kept) w ≡ not (nat_lt row.date.0 w.date.0))
    kept.visits)
    (of_page : (page : PageId) → page_visits (with_visit row kept) page
    ≡ (if row.page.0 == page.0 then in_place (next_visit row kept) (page_visits kept page) else page_visits kept page))
    (comes : TakesVisit (slotted at (next_visit row kept)) slot old new) where
  abbrev next : Visit
  next = next_visit row kept

  abbrev id : VisitId
  id = next.id

  abbrev now : Kept
  now = with_visit row kept

  abbrev bt : Layout
  bt = with_visit_at id slot at

  abbrev made : Row
  made = slotted at (next_visit row kept)

  -- ---- no visit has the id yet

  abbrev pub IsOther : Visit → Type 0
  IsOther v = (v.id.0 == id.0) ≡ false

  pub apart : All IsOther kept.visits
  apart k d within =
      let v : Visit = slice_index_or kept.visits k d in
      let given : (0 < v.id.0) × (v.id.0 < kept.ids.visit) =
      All-from_map (λ n. (0 < n) × (n < kept.ids.visit)) (λ (w : Visit). w.id.0) kept.visits rows.well.visit_ids.given
      k d within in
      ne_eqb v.id.0 id.0 (λ same. omega (arith, given.1, same))

  pub each_apart : AllByRecursion IsOther kept.visits
  each_apart = recursion_from_All IsOther kept.visits apart

  absent : has_visit kept id ≡ false
  absent = any_none (λ (v : Visit). v.id.0 == id.0) kept.visits each_apart

  other : (visit : VisitId) → has_visit kept visit ≡ true → (visit.0 == id.0) ≡ false
  other visit there =
      no_test (visit.0 == id.0) (λ same.
      true≢false (sym there ∙ ap (λ n. has_visit kept (record { 0 = n })) (eqb-true visit.0 id.0 same) ∙ absent))

  -- ---- where all stands

  abbrev by : Bool → Layout
  by is = record at { visit = λ i. if is then slot else at.visit i }

  itself : (id.0 == id.0) ≡ true
  itself = eq-eqb id.0 id.0 refl

  pub here : bt.visit id ≡ slot
  here = ap (λ b. if b then slot else at.visit id) itself

  pub visit_same : (visit : VisitId) → (visit.0 == id.0) ≡ false → bt.visit visit ≡ at.visit visit
  visit_same visit beside = ap (λ b. if b then slot else at.visit visit) beside

  slots_same : (vs : List Visit) → AllByRecursion IsOther vs → visit_slots bt vs ≡ visit_slots at vs
  slots_same [] all = refl
  slots_same (v ∷ vs) all = λ i. visit_same v.id all.0 i ∷ slots_same vs all.1 i

  pub source_same : (source : Option VisitId) → IfSome source (λ s. has_visit kept s ≡ true)
      → slot_or_none bt.visit source ≡ slot_or_none at.visit source
  source_same None there = refl
  source_same (Some s) there = visit_same s (other s there)

  -- ---- what is known of visits that are there

  record IsKnown (v : Visit) : Type 0 where
    beside : IsOther v
    held : HoldsRow (visit_record at v) old
    order : is_later next v ≡ not (nat_lt row.date.0 v.date.0)

  all_known : AllByRecursion IsKnown kept.visits
  all_known =
      both (λ (v : Visit). HoldsRow (visit_record at v) old)
      (λ (v : Visit). IsOther v × (is_later next v ≡ not (nat_lt row.date.0 v.date.0))) IsKnown kept.visits
      (λ v held rest. record { beside = rest.0; held = held; order = rest.1 })
      (recursion_from_All (λ (v : Visit). HoldsRow (visit_record at v) old) kept.visits filled.rows.visits)
      (both IsOther (λ (v : Visit). is_later next v ≡ not (nat_lt row.date.0 v.date.0))
      (λ (v : Visit). IsOther v × (is_later next v ≡ not (nat_lt row.date.0 v.date.0))) kept.visits
      (λ v beside order. (beside, order)) each_apart later)

  known_at : (visit : VisitId) (v : Visit) → visit_at kept visit ≡ Some v → IsKnown v
  known_at visit v found = found_holds IsKnown (λ (w : Visit). w.id.0 == visit.0) kept.visits v all_known found

  all_beside : (vs : List Visit) → AllByRecursion IsKnown vs → AllByRecursion IsOther vs
  all_beside vs known = weaker IsKnown IsOther vs (λ v k. k.beside) known

  -- two rows in one slot are one
  same_id : (v w : Visit) → HoldsRow (visit_record at v) old → HoldsRow (visit_record at w) old
      → at.visit v.id ≡ at.visit w.id → v.id ≡ w.id
  same_id v w first second same =
      let one : (visit_record at v).row ≡ (visit_record at w).row =
      one_row (visit_record at v) (visit_record at w) old first second same in
      cc

  same_page_id : (p q : KeptPage) → HoldsRow (page_record at p) old → HoldsRow (page_record at q) old
      → at.page p.page.id ≡ at.page q.page.id → p.page.id ≡ q.page.id
  same_page_id p q first second same =
      let one : (page_record at p).row ≡ (page_record at q).row =
      one_row (page_record at p) (page_record at q) old first second same in
      cc

  -- the page of the visit is the one in its slot
  page_is : (p : KeptPage) → HoldsRow (page_record at p) old → (at.page p.page.id).0 ≡ (at.page row.page).0
      → p.page.id ≡ row.page
  page_is p held same =
      let found = found_of (λ (q : KeptPage). q.page.id.0 == row.page.0) kept.pages own_page in
      let own : found.0.page.id ≡ row.page = id_at kept row.page found.0 found.1 in
      same_page_id p found.0 held
      (found_all (λ (q : KeptPage). HoldsRow (page_record at q) old) (λ (q : KeptPage). q.page.id.0 == row.page.0)
      kept.pages found.0 filled.rows.places found.1)
      (same_slot (at.page p.page.id) (at.page found.0.page.id) (same ∙ ap (λ (i : PageId). (at.page i).0) (sym own)))
      ∙ own

  -- ---- the visits of its page

  in_time : (ws : List Visit) → AllByRecursion IsKnown ws
      → put_in_time old row.date slot (visit_slots at ws) ≡ visit_slots bt (in_place next ws)
  in_time [] all = ap (λ s. s ∷ []) (sym here)
  in_time (w ∷ ws) all =
      (λ i. if is_after row.date (date i) then at.visit w.id ∷ put_in_time old row.date slot (visit_slots at ws)
      else slot ∷ at.visit w.id ∷ visit_slots at ws)
      ∙ choose (nat_lt row.date.0 w.date.0) (in_time ws all.1)
      ∙ ap (λ b. visit_slots bt (if b then next ∷ w ∷ ws else w ∷ in_place next ws)) (sym all.0.order)
    where
      date : date_in old (at.visit w.id) ≡ Some w.date
      date = ap (option_and_then visit_date) all.0.held

      choose : (b : Bool) → put_in_time old row.date slot (visit_slots at ws) ≡ visit_slots bt (in_place next ws)
          → (if b then at.visit w.id ∷ put_in_time old row.date slot (visit_slots at ws)
          else slot ∷ at.visit w.id ∷ visit_slots at ws)
          ≡ visit_slots bt (if not b then next ∷ w ∷ ws else w ∷ in_place next ws)
      choose true rest = λ i. sym (visit_same w.id all.0.beside) i ∷ rest i
      choose false rest =
          sym (λ i. here i ∷ visit_same w.id all.0.beside i ∷ slots_same ws (all_beside ws all.1) i)

  known_visits : (page : PageId) → AllByRecursion IsKnown (page_visits kept page)
  known_visits page =
      weaker (IsVisitOf kept page) IsKnown (page_visits kept page) (λ v of. known_at v.id v of.0)
      (visits_stand kept page rows.well)

  abbrev live : ChainMap
  live = with_chain Live (Header kinds.Visit) (filled.chains Live (Header kinds.Visit) ++ slot ∷ []) filled.chains

  abbrev dated : ChainMap
  dated =
      with_chain PageVisits (At made.page)
      (put_in_time old made.date slot (filled.chains PageVisits (At made.page))) live

  page_named : (p : KeptPage) → HoldsRow (page_record at p) old
      → filled.chains PageVisits (At (at.page p.page.id)) ≡ visit_slots at (page_visits kept p.page.id)
      → dated PageVisits (At (at.page p.page.id)) ≡ visit_slots bt (page_visits now p.page.id)
  page_named p held is = choose ((at.page p.page.id).0 == made.page.0) refl
    where
      choose : (b : Bool) → ((at.page p.page.id).0 == made.page.0) ≡ b
          → (if b then put_in_time old made.date slot (filled.chains PageVisits (At made.page))
          else filled.chains PageVisits (At (at.page p.page.id))) ≡ visit_slots bt (page_visits now p.page.id)
      choose true same =
          let own : p.page.id ≡ row.page =
          page_is p held (eqb-true (at.page p.page.id).0 made.page.0 same) in
          ap (λ (i : PageId). put_in_time old made.date slot (filled.chains PageVisits (At (at.page i)))) (sym own)
          ∙ ap (put_in_time old made.date slot) is
          ∙ in_time (page_visits kept p.page.id) (known_visits p.page.id)
          ∙ sym (ap (visit_slots bt) (of_page p.page.id
          ∙ ap (λ b. if b then in_place next (page_visits kept p.page.id) else page_visits kept p.page.id)
          (eq-eqb row.page.0 p.page.id.0 (ap (λ (i : PageId). i.0) (sym own)))))
      choose false differs =
          let beside : (row.page.0 == p.page.id.0) ≡ false =
          no_test (row.page.0 == p.page.id.0) (λ same.
          true≢false (sym (eq-eqb (at.page p.page.id).0 made.page.0
          (ap (λ n. (at.page (record { 0 = n })).0) (sym (eqb-true row.page.0 p.page.id.0 same)))) ∙ differs)) in
          is ∙ sym (slots_same (page_visits kept p.page.id)
          (all_beside (page_visits kept p.page.id) (known_visits p.page.id)))
          ∙ sym (ap (visit_slots bt) (of_page p.page.id
          ∙ ap (λ b. if b then in_place next (page_visits kept p.page.id) else page_visits kept p.page.id) beside))

  -- ---- the targets of its source

  known_targets : (source : VisitId) → AllByRecursion IsKnown (targets source)
  known_targets source =
      weaker (IsAny kept source) IsKnown (targets source) (λ v any. known_at v.id v any.0)
      (all_any kept source (targets source) (targets_of kept source (targets source) rows.well (rows.targeted source)))

  targets_same : (source : VisitId) → visit_slots bt (targets source) ≡ visit_slots at (targets source)
  targets_same source = slots_same (targets source) (all_beside (targets source) (known_targets source))

  put_same : (source : VisitId)
      → put_target row.transition slot (visit_slots at (targets source))
      ≡ visit_slots bt (target_put next (targets source))
  put_same source = choose (is_redirect row.transition)
    where
      choose : (b : Bool)
          → (if b then slot ∷ visit_slots at (targets source) else visit_slots at (targets source) ++ slot ∷ [])
          ≡ visit_slots bt (if b then next ∷ targets source else targets source ++ next ∷ [])
      choose true = sym (λ i. here i ∷ targets_same source i)
      choose false =
          sym (λ i. targets_same source i ++ here i ∷ [])
          ∙ sym (map-append (λ (v : Visit). bt.visit v.id) (targets source) (next ∷ []))

  abbrev chain_at : Slot → Owner → List Slot
  chain_at source owner =
      (if source.0 == 0 then dated
      else with_chain Targets (At source) (put_target row.transition slot (dated Targets (At source))) dated)
      Targets owner

  abbrev list_at : Option VisitId → VisitId → List Visit
  list_at source visit = if is_source visit source then target_put next (targets visit) else targets visit

  -- the slot of a visit that is there
  slot_of : (visit : VisitId) → has_visit kept visit ≡ true
      → (v : Visit) × IsKnown v × (v.id ≡ visit)
  slot_of visit there =
      let found = found_of (λ (v : Visit). v.id.0 == visit.0) kept.visits there in
      (found.0, known_at visit found.0 found.1, visit_is kept visit found.0 found.1)

  not_none : (visit : VisitId) → has_visit kept visit ≡ true → ((at.visit visit).0 == 0) ≡ false
  not_none visit there =
      let own = slot_of visit there in
      ne_eqb (at.visit visit).0 0
      (λ zero. some_slot (visit_record at own.0) old own.1.held
      (ap at.visit own.2 ∙ same_slot (at.visit visit) none zero))

  -- the chain of a slot, by whether it is the source's
  abbrev by_source : Slot → Slot → Bool → List Slot
  by_source source owner is =
      if is then put_target row.transition slot (filled.chains Targets (At source))
      else filled.chains Targets (At owner)

  some_chain : (source : VisitId) → has_visit kept source ≡ true → (owner : Slot)
      → chain_at (at.visit source) (At owner) ≡ by_source (at.visit source) owner (owner.0 == (at.visit source).0)
  some_chain source there owner =
      ap (λ (b : Bool). (if b then dated
      else with_chain Targets (At (at.visit source))
      (put_target row.transition slot (dated Targets (At (at.visit source)))) dated) Targets (At owner))
      (not_none source there)

  old_targets : (v : Visit) → IsKnown v → filled.chains Targets (At (at.visit v.id)) ≡ visit_slots at (targets v.id)
      → (source : Option VisitId) → IfSome source (λ s. has_visit kept s ≡ true)
      → chain_at (slot_or_none at.visit source) (At (at.visit v.id)) ≡ visit_slots bt (list_at source v.id)
  old_targets v known is None there = is ∙ sym (targets_same v.id)
  old_targets v known is (Some s) there =
      some_chain s there (at.visit v.id) ∙ choose ((at.visit v.id).0 == (at.visit s).0) refl
    where
      choose : (b : Bool) → ((at.visit v.id).0 == (at.visit s).0) ≡ b
          → by_source (at.visit s) (at.visit v.id) b ≡ visit_slots bt (list_at (Some s) v.id)
      choose true same =
          let own = slot_of s there in
          let one : v.id ≡ s =
          same_id v own.0 known.held own.1.held
          (same_slot (at.visit v.id) (at.visit s) (eqb-true (at.visit v.id).0 (at.visit s).0 same)
          ∙ sym (ap at.visit own.2)) ∙ own.2 in
          ap (λ (i : VisitId). put_target row.transition slot (filled.chains Targets (At (at.visit i)))) (sym one)
          ∙ ap (put_target row.transition slot) is ∙ put_same v.id
          ∙ sym (ap (λ b. visit_slots bt (if b then target_put next (targets v.id) else targets v.id))
          (eq-eqb s.0 v.id.0 (ap (λ (i : VisitId). i.0) (sym one))))
      choose false differs =
          let beside : (s.0 == v.id.0) ≡ false =
          no_test (s.0 == v.id.0) (λ same.
          true≢false (sym (eq-eqb (at.visit v.id).0 (at.visit s).0
          (ap (λ n. (at.visit (record { 0 = n })).0) (sym (eqb-true s.0 v.id.0 same)))) ∙ differs)) in
          is ∙ sym (targets_same v.id)
          ∙ sym (ap (λ b. visit_slots bt (if b then target_put next (targets v.id) else targets v.id)) beside)

  no_chain : filled.chains Targets (At slot) ≡ visit_slots bt (targets id)
  no_chain =
      linkless_empty filled.chains old filled.are Targets slot (fresh_linkless slot.0 old comes.fresh)
      ∙ sym (ap (visit_slots bt) (no_targets kept targets id rows absent))

  new_targets : (source : Option VisitId) → IfSome source (λ s. has_visit kept s ≡ true)
      → chain_at (slot_or_none at.visit source) (At slot) ≡ visit_slots bt (list_at source id)
  new_targets None there = no_chain
  new_targets (Some s) there =
      some_chain s there slot ∙ ap (by_source (at.visit s) slot) beside ∙ no_chain
      ∙ sym (ap (λ b. visit_slots bt (if b then target_put next (targets id) else targets id)) (other s there))
    where
      beside : (slot.0 == (at.visit s).0) ≡ false
      beside =
          no_test (slot.0 == (at.visit s).0) (λ same.
          let own = slot_of s there in
          let kept_live : is_live (at.visit own.0.id).0 old ≡ true =
          record_live (at.visit own.0.id).0 old
          ∙ ap is_some (held_record (visit_record at own.0) old refl own.1.held) in
          true≢false (sym kept_live ∙ ap (λ n. is_live n old)
          (ap (λ (i : VisitId). (at.visit i).0) own.2 ∙ sym (eqb-true slot.0 (at.visit s).0 same)) ∙ comes.fresh))

  -- ---- all chains

  abbrev chains : ChainMap
  chains = with_visit_slot old made slot filled.chains

  pub named : NamesChains bt now (with_target next targets) chains
  named =
      record {
        live_origins = target_beside made slot dated Live (Header kinds.Origin) refl ∙ filled.named.live_origins;
        live_places = target_beside made slot dated Live (Header kinds.Place) refl ∙ filled.named.live_places;
        live_visits =
            target_beside made slot dated Live (Header kinds.Visit) refl
            ∙ (λ i. filled.named.live_visits i ++ slot ∷ [])
            ∙ sym (map-append (λ (v : Visit). bt.visit v.id) kept.visits (next ∷ [])
            ∙ (λ i. slots_same kept.visits each_apart i ++ here i ∷ []));
        live_items = target_beside made slot dated Live (Header kinds.Item) refl ∙ filled.named.live_items;
        origins = λ k d within.
            target_beside made slot dated OriginPages (At (slice_index_or kept.origins k d).origin) refl
            ∙ filled.named.origins k d within;
        visits = λ k d within.
            let p : KeptPage = slice_index_or kept.pages k d in
            target_beside made slot dated PageVisits (At (at.page p.page.id)) refl
            ∙ page_named p (filled.rows.places k d within) (filled.named.visits k d within);
        references = λ k d within.
            let p : KeptPage = slice_index_or kept.pages k d in
            target_beside made slot dated References (At (at.page p.page.id)) refl
            ∙ filled.named.references k d within;
        targeted =
            All-push (λ (v : Visit). chains Targets (At (bt.visit v.id))
            ≡ visit_slots bt (with_target next targets v.id)) kept.visits next
            (λ k d within.
            let v : Visit = slice_index_or kept.visits k d in
            ap (λ s. chains Targets (At s)) (visit_same v.id (apart k d within))
            ∙ old_targets v (All-from_recursion IsKnown kept.visits all_known k d within)
            (filled.named.targeted k d within) row.source own_source)
            (ap (λ s. chains Targets (At s)) here ∙ new_targets row.source own_source);
        children = λ k d within.
            let i : Item = slice_index_or kept.items k d in
            target_beside made slot dated Children (At (at.item i.id)) refl ∙ filled.named.children k d within;
      }

  pub still_apart : AreApart OriginPages chains
  still_apart =
      target_apart made slot dated OriginPages refl
      (apart_beside PageVisits (At made.page) (put_in_time old made.date slot (filled.chains PageVisits (At made.page)))
      live OriginPages refl
      (apart_beside Live (Header kinds.Visit) (filled.chains Live (Header kinds.Visit) ++ slot ∷ []) filled.chains
      OriginPages refl filled.apart))

-- What the slots of a store hold, and how they are chained, without a visit: those that came from
-- it come from none, and then its slot is free.
use Rattle.std.proofs.Common.{◌≡◌, ◌≢◌, ◌∙◌, ◌∷◌, ◌==◌, ◌+◌, ◌<◌, ◌≤◌, [], ℕ, All, Bool, List, None}
use Rattle.std.proofs.Common.{Option, Some, ap, arith, eq-eqb, eqb, eqb-true, false, filter, if◌then◌else◌, IfSome}
use Rattle.std.proofs.Common.{map, not, refl, subst, sym, true}
use Rattle.std.specs.List.{AllByRecursion, slice_index_or}
use Rattle.std.specs.Option.{option_map}
use Rattle.std.specs.Prelude.{IsTrue}
use Rattle.std.proofs.lemmas.Bool.{ne_eqb, not-true, or_parts, true≢false}
use Rattle.std.proofs.lemmas.List.Elements.{All-filter, All-from_recursion, All-map, recursion_from_All}
use Rattle.std.proofs.lemmas.Option.{same_Some}
use Rattle.pl_base.specs.declared.id.PageId.{PageId}
use Rattle.pl_base.specs.declared.id.Slot.{Slot}
use Rattle.pl_base.specs.declared.id.VisitId.{VisitId}
use Rattle.pl_base.specs.Removal.{visit_left}
use Rattle.pl_base.specs.Rows.{HasSource, Kept, KeptPage, has_visit, page_visits, visit_at}
use Rattle.pl_base.specs.Rows.{without_visit}
use Rattle.pl_base.specs.Store.{Item, Visit}
use Rattle.pl_base.proofs.IdsLaws.{same_page, same_slot}
use Rattle.pl_base.proofs.KeyCounts.{count, count-append, count-cons, tick}
use Rattle.pl_base.proofs.ListLaws.{all_stay, find-map, map-map, to_map, weaker}
use Rattle.pl_base.proofs.LookUps.{both, where_passes}
use Rattle.pl_base.proofs.TargetsRun.{IsAny}
use Rattle.pl_base.proofs.Truths.{no_test}
use Rattle.pl_base.proofs.VisitLists.{visits_found}
use Rattle.pl_base.proofs.VisitsRun.{IsVisitOf, visit_is, visits_stand}
use Rattle.pl_record.specs.declared.rows.Visit.{Visit as Row}
use Rattle.pl_record.specs.ChainMap.{AreApart, AreChains, ChainMap, IsLoose, with_chain}
use Rattle.pl_record.specs.Chains.{HasAlone, IsAlone, visit_slots}
use Rattle.pl_record.specs.Form.{AreRows}
use Rattle.pl_record.proofs.NamedSlots.{found_all, found_of, one_row, some_slot, visit_row_is}
use Rattle.pl_record.specs.Records.{HoldsOnce, HoldsRow, HoldsRows, HoldsTexts, Layout, item_record}
use Rattle.pl_record.specs.Records.{slot_or_none, visit_record}
use Rattle.pl_record.specs.Rows.{record_at}
use Rattle.pl_record.specs.VisitChanges.{DropsTargets, FreesVisit, without_member, without_slot, without_target_slot}
use Rattle.pl_record.specs.VisitChanges.{without_visit_slot}
use Rattle.pl_record.proofs.ChainMaps.{apart_beside, apart_with, loose_with}
use Rattle.pl_record.proofs.ChainMapsKept.{only_one}
use Rattle.pl_record.proofs.Filled.{IsFilled}
use Rattle.pl_record.proofs.LaidChains.{NamesChains}
use Rattle.pl_record.proofs.RowsBeside.{kinds_times, once_fewer, rows_beside, same_left, texts_beside}
use Rattle.pl_record.proofs.SlotCounts.{few_once, slot_times, times}
use Rattle.pl_record.proofs.Splits.{Only, only_slot}
use Rattle.pl_record.proofs.TargetLists.{but_visit, sourceless, without_targets}
use Rattle.pl_record.proofs.VisitChains.{slotted}
use Rattle.pl_record.proofs.VisitGone.{gone_is, left_is, page_visits_but, page_visits_sourceless}
use Rattle.pl_rail.specs.declared.owner.Owner.{Owner}
use Rattle.pl_rail.specs.declared.owner.Owner.TheVariants.{At, Header}
use Rattle.pl_rail.specs.Rails.{none}
use Rattle.pl_sheets.specs.Sheets.{Pages}
use Rattle.pl_slot.specs.declared.kind.LiveKind.TheVariants as kinds
use Rattle.pl_slot.specs.declared.links.Rail.{Rail}
use Rattle.pl_slot.specs.declared.links.Rail.TheVariants.{Children, Live, OriginPages, PageVisits, References, Targets}
use Rattle.pl_slot.specs.Arena.{is_among}
use Rattle.pl_slot.specs.Links.{is_rail}
use Rattle.pl_record.proofs.TargetsLeft as before
use Rattle.pl_record.proofs.OwnedChains.{owned_apart, owned_beside}

-- ---- maps

-- a map with a target less has the chains of other rails that it had
target_beside : (v : Row) (slot : Slot) (chains : ChainMap) (r : Rail) (o : Owner) → is_rail r Targets ≡ false
    → without_target_slot v slot chains r o ≡ chains r o
target_beside v slot chains = owned_beside Targets v.source slot chains

target_apart : (v : Row) (slot : Slot) (chains : ChainMap) (r : Rail) → is_rail r Targets ≡ false → AreApart r chains
    → AreApart r (without_target_slot v slot chains)
target_apart v slot chains = owned_apart Targets v.source slot chains

module _ (at : Layout) (kept : Kept) (targets : VisitId → List Visit) (id : VisitId) (v : Visit)
    (found : visit_at kept id ≡ Some v) (old mid new : Pages) (rows : AreRows kept targets)
    (filled : IsFilled at kept targets old)
    (lone : All (λ (w : Visit). w.source ≡ None → IsLoose Targets (at.visit w.id) filled.chains) kept.visits)
    (visits_apart : AreApart PageVisits filled.chains) (targets_apart : AreApart Targets filled.chains)
    (drops : DropsTargets (at.visit id) (visit_slots at (targets id)) old mid)
    (frees : FreesVisit (slotted at v) (at.visit id) mid new) where
  abbrev slot : Slot
  slot = at.visit id

  -- a visit that stays, as it is left, and the rows that are left
  abbrev left : Visit → Visit
  left = visit_left (id ∷ [])

  abbrev other : Visit → Bool
  other w = not (w.id.0 == id.0)

  abbrev bare : Kept
  bare = sourceless id kept

  abbrev now : Kept
  now = but_visit id bare

  abbrev IsThere : Visit → Type 0
  IsThere w = visit_at kept w.id ≡ Some w

  abbrev cleared : ChainMap
  cleared = with_chain Targets (At slot) [] filled.chains

  -- ---- what is left where none came from it

  all_there : AllByRecursion IsThere kept.visits
  all_there = before.all_there at kept targets id v found old mid rows filled lone targets_apart drops

  own_id : v.id ≡ id
  own_id = before.own_id at kept targets id v found old mid rows filled lone targets_apart drops

  held_at : (w : Visit) → IsThere w → HoldsRow (visit_record at w) old
  held_at = before.held_at at kept targets id v found old mid rows filled lone targets_apart drops

  is_it : (w : Visit) → IsThere w → (w.id.0 == id.0) ≡ true → w ≡ v
  is_it = before.is_it at kept targets id v found old mid rows filled lone targets_apart drops

  one_test : (w : Visit) → IsThere w → ((at.visit w.id).0 == slot.0) ≡ (w.id.0 == id.0)
  one_test = before.one_test at kept targets id v found old mid rows filled lone targets_apart drops

  there_targets : (source : VisitId) → AllByRecursion (IsAny kept source) (targets source)
  there_targets = before.there_targets at kept targets id v found old mid rows filled lone targets_apart drops

  bare_rows : HoldsRows at bare mid
  bare_rows = before.bare_rows at kept targets id v found old mid rows filled lone targets_apart drops

  mid_texts : HoldsTexts at kept mid
  mid_texts = before.mid_texts at kept targets id v found old mid rows filled lone targets_apart drops

  bare_once : HoldsOnce at bare mid
  bare_once = before.bare_once at kept targets id v found old mid rows filled lone targets_apart drops

  are_cleared : AreChains cleared mid
  are_cleared = before.are_cleared at kept targets id v found old mid rows filled lone targets_apart drops

  lone_left : All (λ (w : Visit). w.source ≡ None → IsLoose Targets (at.visit w.id) cleared) bare.visits
  lone_left = before.lone_left at kept targets id v found old mid rows filled lone targets_apart drops

  alone_left : All (λ (w : Visit). w.source ≡ None → IsAlone Targets (at.visit w.id) mid) bare.visits
  alone_left = before.alone_left at kept targets id v found old mid rows filled lone targets_apart drops

  -- ---- slots that stand alone

  -- no other row stands in its slot
  apart_left : All (λ (w : Visit). other w ≡ true → at.visit w.id ≢ slot) bare.visits
  apart_left =
      All-map (λ (w : Visit). other w ≡ true → at.visit w.id ≢ slot) left kept.visits
      (λ k d within passes same.
      let w : Visit = slice_index_or kept.visits k d in
      true≢false (sym passes
      ∙ ap not (sym (one_test w (visits_found kept rows.well k d within))
      ∙ eq-eqb (at.visit w.id).0 slot.0 (ap (λ (s : Slot). s.0) same))))

  item_apart : (i : Item) → HoldsRow (item_record at kept.items i) old → at.item i.id ≢ slot
  item_apart i held same =
      let row : (item_record at kept.items i).row ≡ (visit_record at v).row =
      one_row (item_record at kept.items i) (visit_record at v) old held
      (held_at v (ap (visit_at kept) own_id ∙ found)) (same ∙ sym (ap at.visit own_id)) in
      absurd (cc)

  alone : HasAlone at now new
  alone =
      record {
        visits =
            All-from_recursion (λ (w : Visit). w.source ≡ None → IsAlone Targets (at.visit w.id) new) now.visits
            (where_passes (λ (w : Visit). w.source ≡ None → IsAlone Targets (at.visit w.id) new) other bare.visits
            (recursion_from_All (λ (w : Visit). other w ≡ true → w.source ≡ None → IsAlone Targets (at.visit w.id) new)
            bare.visits
            (λ k d within passes none.
            frees.alone cleared are_cleared Targets (at.visit (slice_index_or bare.visits k d).id)
            (apart_left k d within passes) refl refl (λ _. lone_left k d within none) (alone_left k d within none))));
        roots = λ k d within none.
            let i : Item = slice_index_or kept.items k d in
            frees.alone cleared are_cleared Children (at.item i.id) (item_apart i (filled.rows.items k d within)) refl
            refl (λ is. absurd (true≢false (sym is)))
            (drops.alone Children (at.item i.id) (λ is. absurd (true≢false (sym is)))
            (filled.alone.roots k d within none));
        others = λ k d within none.
            let i : Item = slice_index_or kept.items k d in
            frees.alone cleared are_cleared References (at.item i.id) (item_apart i (filled.rows.items k d within)) refl
            refl (λ is. absurd (true≢false (sym is)))
            (drops.alone References (at.item i.id) (λ is. absurd (true≢false (sym is)))
            (filled.alone.others k d within none));
      }

  -- ---- the slots of visits without it

  slots_without : (ws : List Visit) → AllByRecursion IsThere ws
      → without_slot slot (visit_slots at ws) ≡ visit_slots at (filter other ws)
  slots_without [] all = refl
  slots_without (w ∷ ws) all =
      ap (λ (b : Bool). if not b then at.visit w.id ∷ without_slot slot (visit_slots at ws)
      else without_slot slot (visit_slots at ws)) (one_test w all.0)
      ∙ choose (w.id.0 == id.0) (slots_without ws all.1)
    where
      choose : (b : Bool) → without_slot slot (visit_slots at ws) ≡ visit_slots at (filter other ws)
          → (if not b then at.visit w.id ∷ without_slot slot (visit_slots at ws)
          else without_slot slot (visit_slots at ws))
          ≡ visit_slots at (if not b then w ∷ filter other ws else filter other ws)
      choose true rest = rest
      choose false rest = ap (λ (slots : List Slot). at.visit w.id ∷ slots) rest

  abbrev made : Row
  made = slotted at v

  abbrev cut : ChainMap
  cut = without_target_slot made slot cleared

  abbrev chains : ChainMap
  chains = without_visit_slot made slot cleared

  -- ---- the visits of pages

  pages_left : (page : PageId)
      → visit_slots at (page_visits now page) ≡ visit_slots at (filter other (page_visits kept page))
  pages_left page =
      ap (λ (k : Kept). visit_slots at (page_visits k page))
      (sym (gone_is id kept) ∙ ap (λ (vs : List Visit). record kept { visits = vs }) (left_is id kept.visits))
      ∙ ap (visit_slots at)
      (page_visits_sourceless id (but_visit id kept) page ∙ ap (map left) (page_visits_but id kept page rows.well))
      ∙ map-map (λ (w : Visit). at.visit w.id) left (filter other (page_visits kept page))

  page_named : (p : KeptPage)
      → filled.chains PageVisits (At (at.page p.page.id)) ≡ visit_slots at (page_visits kept p.page.id)
      → chains PageVisits (At (at.page p.page.id)) ≡ visit_slots at (page_visits now p.page.id)
  page_named p is = choose ((at.page p.page.id).0 == made.page.0) refl ∙ sym (pages_left p.page.id)
    where
      were : cut PageVisits (At (at.page p.page.id)) ≡ visit_slots at (page_visits kept p.page.id)
      were = target_beside made slot cleared PageVisits (At (at.page p.page.id)) refl ∙ is

      stay : ((at.page p.page.id).0 == made.page.0) ≡ false → (w : Visit) → IsVisitOf kept p.page.id w
          → other w ≡ true
      stay differs w of =
          ap not (no_test (w.id.0 == id.0) (λ same.
          let pages : p.page.id ≡ v.page =
          sym (same_page w.page p.page.id of.1) ∙ ap (λ (x : Visit). x.page) (is_it w of.0 same) in
          true≢false (sym (eq-eqb (at.page p.page.id).0 made.page.0 (ap (λ (i : PageId). (at.page i).0) pages))
          ∙ differs)))

      choose : (b : Bool) → ((at.page p.page.id).0 == made.page.0) ≡ b
          → (if b then without_slot slot (cut PageVisits (At made.page)) else cut PageVisits (At (at.page p.page.id)))
          ≡ visit_slots at (filter other (page_visits kept p.page.id))
      choose true same =
          ap (λ (n : ℕ). without_slot slot (cut PageVisits (At (record { 0 = n }))))
          (sym (eqb-true (at.page p.page.id).0 made.page.0 same))
          ∙ ap (without_slot slot) were
          ∙ slots_without (page_visits kept p.page.id)
          (weaker (IsVisitOf kept p.page.id) IsThere (page_visits kept p.page.id) (λ w of. of.0)
          (visits_stand kept p.page.id rows.well))
      choose false differs =
          were
          ∙ sym (ap (visit_slots at)
          (all_stay other (page_visits kept p.page.id)
          (weaker (IsVisitOf kept p.page.id) (λ (w : Visit). other w ≡ true) (page_visits kept p.page.id) (stay differs)
          (visits_stand kept p.page.id rows.well))))

  -- ---- the targets of visits

  not_none : (visit : VisitId) → has_visit kept visit ≡ true → ((at.visit visit).0 == 0) ≡ false
  not_none visit there =
      let u = found_of (λ (w : Visit). w.id.0 == visit.0) kept.visits there in
      ne_eqb (at.visit visit).0 0
      (λ zero.
      some_slot (visit_record at u.0) old (visit_row_is at kept old filled.rows visit u.0 u.1)
      (ap at.visit (visit_is kept visit u.0 u.1) ∙ same_slot (at.visit visit) none zero))

  source_there : (s : VisitId) → v.source ≡ Some s → has_visit kept s ≡ true
  source_there s of =
      let has : IfSome (Some s) (λ i. (i.0 < v.id.0) × IsTrue (has_visit kept i)) =
      subst (λ (o : Option VisitId). IfSome o (λ i. (i.0 < v.id.0) × IsTrue (has_visit kept i))) of
      (found_all (HasSource kept) (λ (w : Visit). w.id.0 == id.0) kept.visits v rows.well.sources found) in
      has.1

  abbrev cut_at : Slot → Owner → List Slot
  cut_at source owner =
      (if source.0 == 0 then cleared else without_member Targets (At source) slot cleared) Targets owner

  module _ (w : Visit) (there : IsThere w) (apart : (w.id.0 == id.0) ≡ false)
      (is : filled.chains Targets (At (at.visit w.id)) ≡ visit_slots at (targets w.id)) where
    were : cleared Targets (At (at.visit w.id)) ≡ visit_slots at (targets w.id)
    were =
        ap (λ (b : Bool). if b then [] else filled.chains Targets (At (at.visit w.id))) (one_test w there ∙ apart) ∙ is

    -- where it did not come from this one
    stay : v.source ≢ Some w.id → visit_slots at (targets w.id) ≡ visit_slots at (filter other (targets w.id))
    stay differs =
        ap (visit_slots at)
        (sym (all_stay other (targets w.id)
        (weaker (IsAny kept w.id) (λ (u : Visit). other u ≡ true) (targets w.id)
        (λ u any.
        ap not (no_test (u.id.0 == id.0) (λ same.
        differs (sym (ap (λ (x : Visit). x.source) (is_it u any.0 same)) ∙ any.1))))
        (there_targets w.id))))

    left_targets : (source : Option VisitId) → v.source ≡ source
        → cut_at (slot_or_none at.visit source) (At (at.visit w.id)) ≡ visit_slots at (filter other (targets w.id))
    left_targets None of =
        were ∙ stay (λ some.
        let never : None ≡ Some w.id = sym of ∙ some in
        absurd (cc))
    left_targets (Some s) of =
        ap (λ (b : Bool). (if b then cleared else without_member Targets (At (at.visit s)) slot cleared)
        Targets (At (at.visit w.id))) (not_none s (source_there s of))
        ∙ choose ((at.visit w.id).0 == (at.visit s).0) refl
      where
        choose : (b : Bool) → ((at.visit w.id).0 == (at.visit s).0) ≡ b
            → (if b then without_slot slot (cleared Targets (At (at.visit s)))
            else cleared Targets (At (at.visit w.id)))
            ≡ visit_slots at (filter other (targets w.id))
        choose true same =
            ap (λ (n : ℕ). without_slot slot (cleared Targets (At (record { 0 = n }))))
            (sym (eqb-true (at.visit w.id).0 (at.visit s).0 same))
            ∙ ap (without_slot slot) were
            ∙ slots_without (targets w.id)
            (weaker (IsAny kept w.id) IsThere (targets w.id) (λ u any. any.0) (there_targets w.id))
        choose false differs =
            were ∙ stay (λ some.
            true≢false (sym (eq-eqb (at.visit w.id).0 (at.visit s).0
            (ap (λ (i : VisitId). (at.visit i).0) (sym (same_Some s w.id (sym of ∙ some))))) ∙ differs))

    target_named : chains Targets (At (at.visit w.id)) ≡ visit_slots at (without_targets id targets w.id)
    target_named =
        left_targets v.source refl
        ∙ sym (ap (λ (b : Bool). visit_slots at (if b then [] else filter other (targets w.id))) apart)

  abbrev IsNamed : Visit → Type 0
  IsNamed w = chains Targets (At (at.visit w.id)) ≡ visit_slots at (without_targets id targets w.id)

  targets_named : AllByRecursion (λ (w : Visit). other w ≡ true → IsNamed w) kept.visits
  targets_named =
      both IsThere (λ (w : Visit). filled.chains Targets (At (at.visit w.id)) ≡ visit_slots at (targets w.id))
      (λ (w : Visit). other w ≡ true → IsNamed w) kept.visits
      (λ w there is passes. target_named w there (not-true (w.id.0 == id.0) passes) is) all_there
      (recursion_from_All
      (λ (w : Visit). filled.chains Targets (At (at.visit w.id)) ≡ visit_slots at (targets w.id)) kept.visits
      filled.named.targeted)

  -- ---- all chains

  named : NamesChains at now (without_targets id targets) chains
  named =
      record {
        live_origins = target_beside made slot cleared Live (Header kinds.Origin) refl ∙ filled.named.live_origins;
        live_places = target_beside made slot cleared Live (Header kinds.Place) refl ∙ filled.named.live_places;
        live_visits =
            ap (without_slot slot)
            (target_beside made slot cleared Live (Header kinds.Visit) refl ∙ filled.named.live_visits)
            ∙ slots_without kept.visits all_there
            ∙ sym (map-map (λ (w : Visit). at.visit w.id) left (filter other kept.visits))
            ∙ ap (visit_slots at) (sym (left_is id kept.visits) ∙ ap (λ (k : Kept). k.visits) (gone_is id kept));
        live_items = target_beside made slot cleared Live (Header kinds.Item) refl ∙ filled.named.live_items;
        origins = λ k d within.
            target_beside made slot cleared OriginPages (At (slice_index_or kept.origins k d).origin) refl
            ∙ filled.named.origins k d within;
        visits = λ k d within. page_named (slice_index_or kept.pages k d) (filled.named.visits k d within);
        references = λ k d within.
            let p : KeptPage = slice_index_or kept.pages k d in
            target_beside made slot cleared References (At (at.page p.page.id)) refl
            ∙ filled.named.references k d within;
        targeted =
            All-from_recursion IsNamed now.visits
            (where_passes IsNamed other bare.visits
            (to_map (λ (w : Visit). other w ≡ true → IsNamed w) left kept.visits targets_named));
        children = λ k d within.
            let i : Item = slice_index_or kept.items k d in
            target_beside made slot cleared Children (At (at.item i.id)) refl ∙ filled.named.children k d within;
      }

  still_apart : AreApart OriginPages chains
  still_apart =
      apart_beside Live (Header kinds.Visit) (without_slot slot (cut Live (Header kinds.Visit)))
      (without_member PageVisits (At made.page) slot cut) OriginPages refl
      (apart_beside PageVisits (At made.page) (without_slot slot (cut PageVisits (At made.page))) cut OriginPages refl
      (target_apart made slot cleared OriginPages refl
      (apart_beside Targets (At slot) [] filled.chains OriginPages refl filled.apart)))

  -- one that came from none is in no chain of targets
  own_loose : (slot_or_none at.visit v.source).0 ≡ 0 → IsLoose Targets slot cleared
  own_loose zero = choose v.source refl zero
    where
      choose : (s : Option VisitId) → v.source ≡ s → (slot_or_none at.visit s).0 ≡ 0 → IsLoose Targets slot cleared
      choose None is nothing =
          loose_with Targets (At slot) [] filled.chains Targets slot
          (subst (λ (i : VisitId). IsLoose Targets (at.visit i) filled.chains) own_id
          (found_all (λ (w : Visit). w.source ≡ None → IsLoose Targets (at.visit w.id) filled.chains)
          (λ (w : Visit). w.id.0 == id.0) kept.visits v lone found is)) (λ _. refl)
      choose (Some s) is nothing =
          absurd (true≢false (sym (eq-eqb (at.visit s).0 0 nothing) ∙ not_none s (source_there s is)))

  are : AreChains chains new
  are =
      frees.chains cleared are_cleared
      (apart_beside Targets (At slot) [] filled.chains PageVisits refl visits_apart)
      (apart_with Targets (At slot) [] filled.chains targets_apart (λ s o within. absurd (true≢false (sym within))))
      own_loose

  -- ---- its slot is free

  gone : (n : ℕ) → is_among n (slot.0 ∷ []) ≡ true → record_at n new ≡ None
  gone n among =
      frees.records n
      ∙ ap (λ (b : Bool). if b then None else record_at n mid) (eq-eqb n slot.0 (only_one n slot.0 among))

  beside_slot : (n : ℕ) → is_among n (slot.0 ∷ []) ≡ false → record_at n new ≡ record_at n mid
  beside_slot n apart =
      frees.records n
      ∙ ap (λ (b : Bool). if b then None else record_at n mid) (or_parts (n == slot.0) false apart).0

  parts : Only (λ (w : Visit). w.id.0 == id.0) bare.visits (left v)
  parts =
      only_slot (λ (w : Visit). w.id.0) (λ (w : Visit). (at.visit w.id).0) id.0 bare.visits (left v)
      (λ n. omega (arith, kinds_times at bare n, few_once at bare mid bare_once n))
      (λ a b one. ap (λ (n : ℕ). (at.visit (record { 0 = n })).0) one)
      (find-map (λ (w : Visit). w.id.0 == id.0) left kept.visits ∙ ap (option_map left) found)

  fewer : (n : ℕ) → slot_times at now n + times n (slot.0 ∷ []) ≡ slot_times at bare n
  fewer n =
      omega (
        arith,
        kinds_times at bare n,
        kinds_times at now n,
        ap (count (λ (w : Visit). (at.visit w.id).0) n) parts.whole,
        ap (count (λ (w : Visit). (at.visit w.id).0) n) parts.others,
        count-append (λ (w : Visit). (at.visit w.id).0) n parts.front (left v ∷ parts.back),
        count-append (λ (w : Visit). (at.visit w.id).0) n parts.front parts.back,
        count-cons (λ (w : Visit). (at.visit w.id).0) n (left v) parts.back,
        ap (λ (i : VisitId). tick (eqb (at.visit i).0 n)) own_id,
        count-cons (λ (m : ℕ). m) n slot.0 [],
      )

  still : (n : ℕ) → 1 ≤ slot_times at now n → record_at n new ≡ record_at n mid
  still = same_left at bare now (slot.0 ∷ []) mid new bare_once gone beside_slot fewer

  held : HoldsRows at now new
  held =
      rows_beside at now mid new still
      (record {
        origins = bare_rows.origins;
        places = bare_rows.places;
        visits = All-filter other (λ (w : Visit). HoldsRow (visit_record at w) mid) bare.visits bare_rows.visits;
        items = bare_rows.items;
      })

  texts : HoldsTexts at now new
  texts =
      texts_beside at now mid new still
      (record { urls = mid_texts.urls; titles = mid_texts.titles; item_titles = mid_texts.item_titles })

  pub visit_goes : IsFilled at (without_visit id kept) (without_targets id targets) new
  visit_goes =
      subst (λ (k : Kept). IsFilled at k (without_targets id targets) new) (sym (gone_is id kept))
      (record {
        chains = chains;
        are = are;
        named = named;
        apart = still_apart;
        rows = held;
        texts = texts;
        slots = once_fewer at bare now (slot.0 ∷ []) mid new bare_once gone beside_slot fewer;
        alone = alone;
      })

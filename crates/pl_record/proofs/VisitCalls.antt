-- A visit comes by a few calls: what these ask for, and what they leave of the rows.
use Rattle.std.proofs.Common.{◌≡◌, ◌∙◌, ◌∷◌, ◌++◌, ◌+◌, ◌<◌, ◌≤◌, ◌==◌, [], ℕ, List, None, Option, Some, ap, arith}
use Rattle.std.proofs.Common.{Bool, eq-eqb, false}
use Rattle.std.proofs.Common.{IfSome, if◌then◌else◌, map, refl, subst, sym, true}
use Rattle.std.specs.List.{AllByRecursion}
use Rattle.std.specs.Option.{option_and_then}
use Rattle.std.proofs.lemmas.List.{length-append}
use Rattle.std.proofs.lemmas.List.Elements.{All-weaker, recursion_from_All}
use Rattle.pl_base.specs.declared.id.Ids.{Ids}
use Rattle.pl_base.specs.declared.id.Slot.{Slot}
use Rattle.pl_base.specs.declared.id.VisitId.{VisitId}
use Rattle.pl_base.specs.declared.row.VisitRow.{VisitRow}
use Rattle.pl_base.specs.Date.{IsDate}
use Rattle.pl_base.specs.Good.{end_of_ids}
use Rattle.pl_base.specs.Live.{live_slots, slot_limit}
use Rattle.pl_base.specs.Rows.{Kept, has_page, has_visit, next_visit, store_of, with_visit}
use Rattle.pl_base.specs.Store.{Visit}
use Rattle.pl_base.specs.Touched.{IsAtMostMore, row_pages}
use Rattle.pl_base.proofs.ListLaws.{from_map, to_map}
use Rattle.pl_base.proofs.PageLaws.{id_at}
use Rattle.pl_base.proofs.VisitsRun.{visit_is}
use Rattle.pl_record.specs.declared.rows.Visit.{Visit as Row}
use Rattle.pl_record.specs.ChainMap.{AreApart, AreChains, ChainMap}
use Rattle.pl_record.specs.LinkedRows.{AreLinked, Entries, IsBaseOf, changes, slot_at}
use Rattle.pl_record.specs.Records.{slot_or_none}
use Rattle.pl_record.specs.SlotChanges.{CountsVisit}
use Rattle.pl_record.specs.VisitChanges.{IsNextVisit, TakesVisit}
use Rattle.pl_record.proofs.Bases.{at_most, base_kept, both_only}
use Rattle.pl_record.proofs.Filled.{filled, laid_out}
use Rattle.pl_record.proofs.FilledMoves.{filled_still}
use Rattle.pl_record.proofs.LaidChains.{chains_of, laid_chains}
use Rattle.pl_record.proofs.LiveCounted.{live_counted}
use Rattle.pl_record.proofs.PageInserted.{ids_ends}
use Rattle.pl_record.proofs.PagesTold.{named_slot, page_found, page_kind}
use Rattle.pl_record.proofs.TargetLists.{with_target}
use Rattle.pl_record.proofs.TitleSet.{live_ends}
use Rattle.pl_record.proofs.VisitAdded.{added_later, live_added, page_visits_added, visit_added}
use Rattle.pl_record.proofs.VisitChains.{slotted, sourceless_loose, targets_apart, visits_apart}
use Rattle.pl_record.proofs.VisitComes.{visit_comes}
use Rattle.pl_record.proofs.VisitNamed.{each_apart, with_visit_at}
use Rattle.pl_record.proofs.VisitsTold.{visit_found, visit_missing, visit_slot_kind}
use Rattle.pl_rail.specs.Rails.{named, or_none}
use Rattle.pl_sheets.specs.Sheets.{ArePages, Pages}
use Rattle.pl_slot.specs.declared.kind.SlotKind.TheVariants as kinds
use Rattle.pl_slot.specs.declared.links.Rail.TheVariants.{PageVisits, Targets}
use Rattle.pl_slot.specs.Arena.{ChangesOnly, header_of, header_page, live_count}
use Rattle.pl_slot.specs.Links.{kind_at}

module _ (kept : Kept) (targets : VisitId → List Visit) (old : Pages) (pages visits items : Entries)
    (l : AreLinked kept targets old pages visits items) where
  -- no visit is in two chains
  pub visit_chains : (chains : ChainMap) × AreChains chains old × AreApart PageVisits chains × AreApart Targets chains
  visit_chains = (
    chains_of l.at kept targets,
    laid_chains l.at kept targets old l.rows l.laid,
    visits_apart l.at kept targets old l.rows l.laid.rows,
    targets_apart l.at kept targets old l.rows l.laid.rows,
  )

  pub visit_room : live_slots (store_of kept) < slot_limit → live_count old < slot_limit
  visit_room few = omega (arith, live_counted l.at kept targets old l.rows l.laid, few)

  module _ (row : VisitRow) (own_page : has_page kept row.page ≡ true)
      (own_source : IfSome row.source (λ id. has_visit kept id ≡ true)) (v : Row)
      (next : IsNextVisit row pages visits old v) where
    -- ---- the visit with its slots

    number : v.id.0 ≡ kept.ids.visit
    number = next.id ∙ ap (λ (i : Ids). i.visit) l.laid.header.ids

    pub visit_number : v.id.0 ≡ kept.ids.visit
    visit_number = number

    page_slot : v.page ≡ l.at.page row.page
    page_slot =
        let f = page_found kept targets old pages visits items l row.page v.page next.page in
        sym f.here ∙ ap l.at.page (id_at kept row.page f.row f.there)

    source_slot : v.source ≡ slot_or_none l.at.visit row.source
    source_slot = next.source ∙ of_source row.source own_source
      where
        of_slot : (id : VisitId) → has_visit kept id ≡ true → (o : Option Slot) → slot_at visits id.0 ≡ o
            → or_none o ≡ l.at.visit id
        of_slot id there None is = absurd (visit_missing kept targets old pages visits items l id there is)
        of_slot id there (Some slot) is =
            let f = visit_found kept targets old pages visits items l id slot is in
            sym f.here ∙ ap l.at.visit (visit_is kept id f.row f.there)

        of_source : (s : Option VisitId) → IfSome s (λ id. has_visit kept id ≡ true)
            → or_none (option_and_then (λ (id : VisitId). slot_at visits id.0) s) ≡ slot_or_none l.at.visit s
        of_source None there = refl
        of_source (Some id) there = of_slot id there (slot_at visits id.0) refl

    same : v ≡ slotted l.at (next_visit row kept)
    same =
        λ i.
        record {
          id = record { 0 = number i };
          transition = next.transition i;
          page = page_slot i;
          source = source_slot i;
          date = next.date i;
        }

    -- ---- what the call asks for

    pub visit_last : AllByRecursion (λ (e : ℕ × Slot). e.0 < v.id.0) visits
    visit_last =
        subst (λ n. AllByRecursion (λ (e : ℕ × Slot). e.0 < n) visits) (sym number)
        (subst (AllByRecursion (λ (e : ℕ × Slot). e.0 < kept.ids.visit)) (sym l.indexed.visits)
        (to_map (λ (e : ℕ × Slot). e.0 < kept.ids.visit) (λ (w : Visit). (w.id.0, l.at.visit w.id)) kept.visits
        (from_map (λ n. n < kept.ids.visit) (λ (w : Visit). w.id.0) kept.visits
        (recursion_from_All (λ n. n < kept.ids.visit) (map (λ (w : Visit). w.id.0) kept.visits)
        (All-weaker (λ n. (0 < n) × (n < kept.ids.visit)) (λ n. n < kept.ids.visit) (λ n given. given.1)
        (map (λ (w : Visit). w.id.0) kept.visits) l.rows.well.visit_ids.given)))))

    pub visit_page_kind : kind_at v.page.0 old ≡ Some kinds.Place
    visit_page_kind = page_kind kept targets old pages visits items l row.page v.page next.page

    pub visit_source_kind : IfSome (named v.source) (λ s. kind_at s.0 old ≡ Some kinds.Visit)
    visit_source_kind =
        subst (λ s. IfSome (named s) (λ t. kind_at t.0 old ≡ Some kinds.Visit)) (sym source_slot)
        (of_source row.source own_source)
      where
        of_source : (s : Option VisitId) → IfSome s (λ id. has_visit kept id ≡ true)
            → IfSome (named (slot_or_none l.at.visit s)) (λ t. kind_at t.0 old ≡ Some kinds.Visit)
        of_source None there = tt
        of_source (Some id) there =
            let kind = visit_slot_kind kept targets old pages visits items l id there in
            subst (λ o. IfSome o (λ t. kind_at t.0 old ≡ Some kinds.Visit))
            (sym (named_slot (l.at.visit id) kinds.Visit old kind)) kind

    -- ---- what it leaves

    module _ (room : kept.ids.visit < end_of_ids) (fits : live_slots (store_of kept) < slot_limit) (slot : Slot)
        (a : Pages) (takes : TakesVisit v slot old a) where
      ids_were : (header_of a).ids ≡ kept.ids
      ids_were = takes.body.ids ∙ l.laid.header.ids

      live_was : (header_of a).live ≡ live_slots (store_of kept)
      live_was = takes.body.live ∙ l.laid.header.live

      pub visit_next_id : (header_of a).ids.visit + 1 ≤ end_of_ids
      visit_next_id = omega (arith, ap (λ (i : Ids). i.visit) ids_were, room)

      pub visit_next_live : (header_of a).live + 1 ≤ slot_limit
      visit_next_live = omega (arith, live_was, fits)

      abbrev whole : Kept
      whole = with_visit row kept

      abbrev ts : VisitId → List Visit
      ts = with_target (next_visit row kept) targets

      abbrev id : VisitId
      id = (next_visit row kept).id

      entries_more : (vs : List Visit) → AllByRecursion (λ (w : Visit). (w.id.0 == id.0) ≡ false) vs
          → map {B = ℕ × Slot} (λ (w : Visit). (w.id.0, (with_visit_at id slot l.at).visit w.id))
          (vs ++ next_visit row kept ∷ [])
          ≡ map {B = ℕ × Slot} (λ (w : Visit). (w.id.0, l.at.visit w.id)) vs ++ (id.0, slot) ∷ []
      entries_more [] all =
          ap (λ (b : Bool). (id.0, if b then slot else l.at.visit id) ∷ []) (eq-eqb id.0 id.0 refl)
      entries_more (w ∷ vs) all =
          λ i.
          (w.id.0, ap (λ (b : Bool). if b then slot else l.at.visit w.id) all.0 i)
          ∷ entries_more vs all.1 i

      pub visit_moves : IsDate row.date → (c : Pages) → CountsVisit a c → (vs : Entries)
          → vs ≡ visits ++ (v.id.0, slot) ∷ [] → AreLinked whole ts c pages vs items
      unfolding filled
      visit_moves date c counts vs is =
          let before = filled l.at kept targets old l.rows l.laid in
          let lone = sourceless_loose l.at kept targets old l.rows l.laid.rows in
          let apart_visits = visits_apart l.at kept targets old l.rows l.laid.rows in
          let apart_targets = targets_apart l.at kept targets old l.rows l.laid.rows in
          let taken : TakesVisit (slotted l.at (next_visit row kept)) slot old a =
          subst (λ w. TakesVisit w slot old a) same takes in
          let comes = visit_comes l.at kept targets row slot old a l.rows own_page own_source before lone apart_visits
          apart_targets (added_later row kept l.rows.well) (λ page. page_visits_added row kept page l.rows.well)
          taken in
          let at = with_visit_at id slot l.at in
          let named = filled_still at whole ts a counts.middle comes
          (ids_ends (record (header_of a).ids { visit = (header_of a).ids.visit + 1 }) a counts.middle counts.ids)
          counts.ids.rows in
          let counted = filled_still at whole ts counts.middle c named
          (live_ends ((header_of a).live + 1) counts.middle c counts.live) counts.live.rows in
          record {
            at = at;
            rows = visit_added row kept targets l.rows own_page date own_source room fits;
            laid =
                laid_out at whole ts c counted counts.arena
                (record {
                  form =
                      ap (λ h. h.form) counts.live.header ∙ ap (λ h. h.form) counts.ids.header ∙ takes.body.form
                      ∙ l.laid.header.form;
                  day =
                      ap (λ h. h.day) counts.live.header ∙ ap (λ h. h.day) counts.ids.header ∙ takes.body.day
                      ∙ l.laid.header.day;
                  ids =
                      ap (λ h. h.ids) counts.live.header ∙ ap (λ h. h.ids) counts.ids.header
                      ∙ ap (λ (i : Ids). record i { visit = i.visit + 1 }) ids_were;
                  live =
                      ap (λ h. h.live) counts.live.header ∙ ap (λ n. n + 1) live_was ∙ sym (live_added row kept);
                  rest =
                      ap (λ h. h.rest) counts.live.header ∙ ap (λ h. h.rest) counts.ids.header ∙ takes.body.rest
                      ∙ l.laid.header.rest;
                });
            indexed = record {
              pages = l.indexed.pages;
              visits =
                  is ∙ (λ i. l.indexed.visits i ++ (number i, slot) ∷ [])
                  ∙ sym (entries_more kept.visits
                  (each_apart l.at kept targets row slot old a l.rows own_page own_source before
                  (added_later row kept l.rows.well)
                  (λ page. page_visits_added row kept page l.rows.well) taken));
              items = l.indexed.items;
            };
          }

-- ---- pages

module _ (v : Row) (slot : Slot) (old a c : Pages) (takes : TakesVisit v slot old a) (counts : CountsVisit a c) where
  changed : ChangesOnly (takes.these ++ header_page ∷ []) old c
  changed = both_only takes.these (header_page ∷ []) old a c takes.longer takes.pages counts.pages

  pub visit_pages : IsAtMostMore row_pages (Some (changes old)) (Some (changes c))
  visit_pages =
      at_most (takes.these ++ header_page ∷ []) row_pages old c (omega (arith, takes.longer, counts.as_many)) changed
      (omega (arith, length-append takes.these (header_page ∷ []), takes.few))

  pub visit_base : ArePages old → (bytes : List ℕ) → IsBaseOf old bytes → IsBaseOf c bytes
  visit_base are = base_kept (takes.these ++ header_page ∷ []) old c are changed

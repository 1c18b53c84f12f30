-- The rows that linked slots keep without a visit, and the bytes that may have been before.
use Rattle.std.proofs.Common.{◌≡◌, ◌∙◌, ◌+◌, ◌-◌, ◌≤◌, ◌∷◌, ◌==◌, [], ℕ, List, Some, ap, arith, filter, map}
use Rattle.std.proofs.Common.{not, subst, sym, true}
use Rattle.std.specs.BTreeMap.{is_at}
use Rattle.std.specs.Map.{remove_entry}
use Rattle.std.specs.Ordering.{nat_cmp}
use Rattle.pl_base.specs.declared.id.Slot.{Slot}
use Rattle.pl_base.specs.declared.id.VisitId.{VisitId}
use Rattle.pl_base.specs.Live.{live_slots}
use Rattle.pl_base.specs.Removal.{visit_left}
use Rattle.pl_base.specs.Rows.{Kept, has_visit, store_of, without_visit}
use Rattle.pl_base.specs.Store.{Visit}
use Rattle.pl_base.proofs.ListLaws.{map-map}
use Rattle.pl_base.proofs.OneChanged.{once_by_number}
use Rattle.pl_record.specs.Chains.{visit_slots}
use Rattle.pl_record.specs.LinkedRows.{AreLinked, Entries, IsBaseOf, slot_at}
use Rattle.pl_record.specs.VisitChanges.{DropsTargets, FreesVisit, HoldsVisit}
use Rattle.pl_record.proofs.Bases.{base_kept}
use Rattle.pl_record.proofs.Filled.{IsFilled, filled, laid_out}
use Rattle.pl_record.proofs.FilledMoves.{filled_still}
use Rattle.pl_record.proofs.SlotsById.{removed}
use Rattle.pl_record.proofs.TargetLists.{without_targets}
use Rattle.pl_record.proofs.TitleSet.{live_ends}
use Rattle.pl_record.proofs.VisitChains.{slotted, sourceless_loose, targets_apart, visits_apart}
use Rattle.pl_record.proofs.VisitGoes.{visit_goes}
use Rattle.pl_record.proofs.VisitGone.{left_is, live_gone, visit_gone}
use Rattle.pl_record.proofs.VisitHeld.{found, held_is, slot_is, targets_listed, visit_held}
use Rattle.pl_rail.specs.declared.owner.Owner.TheVariants.{At}
use Rattle.pl_rail.specs.Rails.{Lists}
use Rattle.pl_sheets.specs.Sheets.{Pages}
use Rattle.pl_slot.specs.declared.links.Rail.TheVariants.{Targets}
use Rattle.pl_slot.specs.Arena.{IsArena, SetsHeader, header_of, header_page}

module _ (kept : Kept) (targets : VisitId → List Visit) (old : Pages) (pages visits items : Entries)
    (l : AreLinked kept targets old pages visits items) (id : VisitId) (slot : Slot)
    (some : slot_at visits id.0 ≡ Some slot) (there : has_visit kept id ≡ true) (mid : Pages)
    (dropped : (slots : List Slot) → Lists Targets (At slot) slots old → DropsTargets slot slots old mid) where
  drops : DropsTargets slot (visit_slots l.at (targets id)) old mid
  drops = dropped (visit_slots l.at (targets id)) (targets_listed kept targets old pages visits items l id slot some)

  pub held : HoldsVisit slot mid
  held = visit_held kept targets old pages visits items l id slot some mid drops

  module _ (still : IsArena mid) (b : Pages) (freed : (h : HoldsVisit slot mid) → FreesVisit h.visit slot mid b)
      (arena : IsArena b) where
    abbrev gone : Visit
    gone = (found kept targets old pages visits items l id slot some).row

    frees : FreesVisit (slotted l.at gone) slot mid b
    unfolding held
    frees =
        subst (λ v. FreesVisit v slot mid b)
        (held_is kept targets old pages visits items l id slot some mid drops) (freed held)

    abbrev whole : Kept
    whole = without_visit id kept

    abbrev ts : VisitId → List Visit
    ts = without_targets id targets

    left : IsFilled l.at whole ts b
    unfolding filled
    left =
        let f = found kept targets old pages visits items l id slot some in
        let here = slot_is kept targets old pages visits items l id slot some in
        visit_goes l.at kept targets id f.row f.there old mid b l.rows (filled l.at kept targets old l.rows l.laid)
        (sourceless_loose l.at kept targets old l.rows l.laid.rows)
        (visits_apart l.at kept targets old l.rows l.laid.rows)
        (targets_apart l.at kept targets old l.rows l.laid.rows)
        (subst (λ s. DropsTargets s (visit_slots l.at (targets id)) old mid) (sym here) drops)
        (subst (λ s. FreesVisit (slotted l.at gone) s mid b) (sym here) frees)

    was : (header_of b).live ≡ live_slots (store_of kept)
    was = frees.body.live ∙ drops.body.live ∙ l.laid.header.live

    module _ (live : ℕ) (live_is : live ≡ (header_of b).live) where
      counted : live ≡ live_slots (store_of whole) + 1
      counted = omega (arith, live_is, was, live_gone id kept l.rows.well there)

      pub some_live : 1 ≤ live
      some_live = omega (arith, counted)

      module _ (c : Pages) (counts : SetsHeader (λ h. record h { live = live - 1 }) b c) (whole_c : IsArena c) where
        abbrev entry : Visit → ℕ × Slot
        entry w = (w.id.0, l.at.visit w.id)

        pub removed_visit : AreLinked whole ts c pages (remove_entry (is_at (nat_cmp id.0)) visits) items
        removed_visit =
            record {
              at = l.at;
              rows = visit_gone id kept targets l.rows there;
              laid =
                  laid_out l.at whole ts c
                  (filled_still l.at whole ts b c left (live_ends (live - 1) b c counts) counts.rows) whole_c
                  (record {
                    form = ap (λ h. h.form) counts.header ∙ frees.body.form ∙ drops.body.form ∙ l.laid.header.form;
                    day = ap (λ h. h.day) counts.header ∙ frees.body.day ∙ drops.body.day ∙ l.laid.header.day;
                    ids = ap (λ h. h.ids) counts.header ∙ frees.body.ids ∙ drops.body.ids ∙ l.laid.header.ids;
                    live = ap (λ h. h.live) counts.header ∙ omega (arith, counted);
                    rest = ap (λ h. h.rest) counts.header ∙ frees.body.rest ∙ drops.body.rest ∙ l.laid.header.rest;
                  });
              indexed = record {
                pages = l.indexed.pages;
                visits =
                    ap (remove_entry (is_at (nat_cmp id.0))) l.indexed.visits
                    ∙ removed (λ (w : Visit). w.id.0) (λ (w : Visit). l.at.visit w.id) id.0 kept.visits
                    (once_by_number (λ (w : Visit). w.id.0) id.0 kept.visits l.rows.well.visit_ids.ascending)
                    ∙ sym (ap (map {B = ℕ × Slot} entry) (left_is id kept.visits)
                    ∙ map-map entry (visit_left (id ∷ [])) (filter (λ (w : Visit). not (w.id.0 == id.0)) kept.visits));
                items = l.indexed.items;
              };
            }

        pub removed_base : (bytes : List ℕ) → IsBaseOf old bytes → IsBaseOf c bytes
        removed_base bytes base =
            base_kept (header_page ∷ []) b c arena.whole counts.pages bytes
            (base_kept frees.these mid b still.whole frees.pages bytes
            (base_kept drops.these old mid l.laid.arena.whole drops.pages bytes base))

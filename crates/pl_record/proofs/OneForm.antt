-- That pages are the form of one store's rows at most, with one order of the targets of visits.
use Rattle.std.proofs.Common.{◌≡◌, ◌∙◌, ◌<◌, ◌∷◌, ◌==◌, [], List, Option, Some, ap}
use Rattle.std.proofs.Common.{map, refl, subst, sym, false, inl, inr}
use Rattle.std.specs.List.{AllByRecursion}
use Rattle.std.specs.Prelude.{IsTrue}
use Rattle.std.specs.Option.{IfSome}
use Rattle.std.proofs.lemmas.Bool.{cases_Bool, true≢false}
use Rattle.std.proofs.lemmas.Option.{same_Some}
use Rattle.pl_base.specs.declared.id.Slot.{Slot}
use Rattle.pl_base.specs.declared.id.VisitId.{VisitId}
use Rattle.pl_base.specs.Rows.{HasSource, Kept, has_visit, visit_at}
use Rattle.pl_base.specs.Store.{Visit}
use Rattle.pl_base.proofs.ListLaws.{weaker}
use Rattle.pl_base.proofs.LookUps.{found_holds, found_some}
use Rattle.pl_base.proofs.TargetsRun.{IsAny, all_any, targets_of}
use Rattle.pl_base.proofs.VisitsRun.{visit_is}
use Rattle.pl_record.specs.Chains.{visit_slots}
use Rattle.pl_record.specs.Form.{AreRows, IsForm, IsLaid}
use Rattle.pl_record.specs.Records.{Layout}
use Rattle.pl_record.proofs.NamedSlots.{found_all, found_of, matched}
use Rattle.pl_rail.specs.declared.owner.Owner.TheVariants.{Header, At}
use Rattle.pl_rail.specs.Rails.{Lists}
use Rattle.pl_rail.proofs.ListLaws.{one_list}
use Rattle.pl_sheets.specs.Sheets.{Pages}
use Rattle.pl_slot.specs.declared.kind.LiveKind.TheVariants as kinds
use Rattle.pl_slot.specs.declared.links.Rail.TheVariants.{Live, Targets}
use Rattle.pl_record.proofs.OneRows.{one_visit, same_kept}

-- a visit that is not there has no targets
pub no_targets : (kept : Kept) (targets : VisitId → List Visit) (id : VisitId)
    → AreRows kept targets
    → has_visit kept id ≡ false → targets id ≡ []
no_targets kept targets id rows none =
    choose (targets id)
    (all_any kept id (targets id) (targets_of kept id (targets id) rows.well (rows.targeted id)))
  where
    choose : (ts : List Visit) → AllByRecursion (IsAny kept id) ts → ts ≡ []
    choose [] any = refl
    choose (t ∷ ts) any =
        let source : HasSource kept t =
        found_all (HasSource kept) (λ (v : Visit). v.id.0 == t.id.0) kept.visits t
        rows.well.sources any.0.0 in
        let there : IfSome (Some id) (λ s. (s.0 < t.id.0) × IsTrue (has_visit kept s)) =
        subst (λ (s : Option VisitId). IfSome s (λ s. (s.0 < t.id.0) × IsTrue (has_visit kept s)))
        any.0.1 source in
        absurd (true≢false (sym there.1 ∙ none))

-- lists of the same names name each alike
each_same : {X : Type 0} (f g : X → Slot) (xs : List X) → map f xs ≡ map g xs
    → AllByRecursion (λ x. f x ≡ g x) xs
each_same f g [] same = tt
each_same f g (x ∷ xs) same =
    let head : f x ≡ g x = cc in
    let tail : map f xs ≡ map g xs = cc in
    (head, each_same f g xs tail)

module _ (at bt : Layout) (kept : Kept) (targets others : VisitId → List Visit) (pages : Pages)
    (mine : AreRows kept targets) (its : AreRows kept others) (a : IsLaid at kept targets pages)
    (b : IsLaid bt kept others pages) where
  same_visit_slot : (id : VisitId) (v : Visit) → visit_at kept id ≡ Some v → at.visit v.id
      ≡ bt.visit v.id
  same_visit_slot id v found =
      found_holds (λ (w : Visit). at.visit w.id ≡ bt.visit w.id) (λ (w : Visit). w.id.0 == id.0)
      kept.visits v
      (each_same (λ (w : Visit). at.visit w.id) (λ (w : Visit). bt.visit w.id) kept.visits
      (one_list Live (Header kinds.Visit) (visit_slots at kept.visits) (visit_slots bt kept.visits)
      pages a.live.visits
      b.live.visits)) found

  one_found : (t u : Visit) → visit_at kept t.id ≡ Some t → visit_at kept u.id ≡ Some u
      → at.visit t.id ≡ bt.visit u.id
      → t ≡ u
  one_found t u first second same =
      let id : t.id ≡ u.id =
      one_visit at bt kept kept targets others pages mine its a b t.id u.id
      (found_some (λ (w : Visit). w.id.0 == t.id.0) kept.visits t first)
      (found_some (λ (w : Visit). w.id.0 == u.id.0) kept.visits u second) same in
      same_Some t u (sym first ∙ ap (visit_at kept) id ∙ second)

  targets_found : (ts : VisitId → List Visit) (id : VisitId) → AreRows kept ts
      → AllByRecursion (λ (t : Visit). visit_at kept t.id ≡ Some t) (ts id)
  targets_found ts id rows =
      weaker (IsAny kept id) (λ (t : Visit). visit_at kept t.id ≡ Some t) (ts id) (λ t any. any.0)
      (all_any kept id (ts id) (targets_of kept id (ts id) rows.well (rows.targeted id)))

  targets_at : (id : VisitId) → targets id ≡ others id
  targets_at id = elim (cases_Bool (has_visit kept id)) [
    | inl there ↦
        let found = found_of (λ (v : Visit). v.id.0 == id.0) kept.visits there in
        let here : found.0.id ≡ id = visit_is kept id found.0 found.1 in
        let owner : at.visit found.0.id
        ≡ bt.visit found.0.id = same_visit_slot id found.0 found.1 in
        let first : Lists Targets (At (at.visit found.0.id)) (visit_slots at (targets found.0.id))
        pages =
        found_all (λ (v : Visit). Lists Targets (At (at.visit v.id)) (visit_slots at (targets v.id))
        pages)
        (λ (v : Visit). v.id.0 == id.0) kept.visits found.0 a.chains.targeted found.1 in
        let second : Lists Targets (At (bt.visit found.0.id)) (visit_slots bt (others found.0.id))
        pages =
        found_all (λ (v : Visit). Lists Targets (At (bt.visit v.id)) (visit_slots bt (others v.id))
        pages)
        (λ (v : Visit). v.id.0 == id.0) kept.visits found.0 b.chains.targeted found.1 in
        let slots : visit_slots at (targets found.0.id) ≡ visit_slots bt (others found.0.id) =
        one_list Targets (At (at.visit found.0.id)) (visit_slots at (targets found.0.id))
        (visit_slots bt (others found.0.id)) pages first
        (subst (λ (s : Slot). Lists Targets (At s) (visit_slots bt (others found.0.id)) pages)
        (sym owner) second) in
        subst (λ (v : VisitId). targets v ≡ others v) here
        (matched (λ (t : Visit). visit_at kept t.id ≡ Some t) (λ (t : Visit). visit_at kept t.id
        ≡ Some t)
        (λ (t : Visit). at.visit t.id) (λ (t : Visit). bt.visit t.id) (targets found.0.id)
        (others found.0.id)
        (targets_found targets found.0.id mine) (targets_found others found.0.id its) one_found
        slots)
    | inr none ↦ no_targets kept targets id mine none ∙ sym (no_targets kept others id its none)
  ]

-- pages are the form of the same rows, with the targets in the same order
pub one_form : (kept other : Kept) (targets others : VisitId → List Visit) (pages : Pages)
    → IsForm kept targets pages
    → IsForm other others pages → (kept ≡ other) × (targets ≡ others)
one_form kept other targets others pages first second =
    let same : kept ≡ other =
    same_kept first.at second.at kept other targets others pages first.rows second.rows first.laid
    second.laid in
    let again : IsForm kept others pages =
    subst (λ (k : Kept). IsForm k others pages) (sym same) second in (
      same,
      λ i id.
          targets_at first.at again.at kept targets others pages first.rows again.rows first.laid
          again.laid id i,
    )

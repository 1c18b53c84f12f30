-- No visit stands in the chains of two pages, nor in those of two sources; and one that came from
-- none stands in no chain of targets.
use Rattle.std.proofs.Common.{◌≡◌, ◌≢◌, ◌∙◌, ◌==◌, List, Option, Some, None, ap, eqb-true, find}
use Rattle.std.proofs.Common.{◌<◌, arith, refl, sym, true, false}
use Rattle.std.specs.Option.{IfSome}
use Rattle.std.specs.Prelude.{IsTrue}
use Rattle.std.specs.List.{All, AllByRecursion, list_any}
use Rattle.std.proofs.lemmas.Bool.{true≢false}
use Rattle.std.proofs.lemmas.List.Elements.{All-from_recursion}
use Rattle.pl_base.specs.declared.id.Slot.{Slot}
use Rattle.pl_base.specs.declared.id.VisitId.{VisitId}
use Rattle.pl_base.specs.Rows.{HasSource, Kept, KeptPage, has_visit, page_visits, visit_at}
use Rattle.pl_base.specs.Store.{Visit}
use Rattle.pl_base.proofs.IdsLaws.{same_page, same_slot}
use Rattle.pl_base.proofs.ListLaws.{list_any-map, weaker}
use Rattle.pl_base.proofs.LookUps.{found_holds, found_passes}
use Rattle.pl_base.proofs.TargetsRun.{IsAny, all_any, targets_of}
use Rattle.pl_base.proofs.Truths.{no_test}
use Rattle.pl_base.proofs.VisitLists.{each_visit_found}
use Rattle.pl_base.proofs.VisitsRun.{IsVisitOf, visit_is, visits_stand}
use Rattle.pl_record.specs.declared.rows.Visit.{Visit as Row}
use Rattle.pl_record.specs.ChainMap.{AreApart, IsLoose}
use Rattle.pl_record.specs.Chains.{visit_slots}
use Rattle.pl_record.specs.Form.{AreRows}
use Rattle.pl_record.proofs.NamedSlots.{found_all, found_of, one_row, some_slot, visit_row_is}
use Rattle.pl_record.specs.Records.{HoldsRow, HoldsRows, Layout, slot_or_none, visit_record}
use Rattle.pl_record.proofs.LaidChains.{chain_or_none, chains_of}
use Rattle.pl_rail.specs.declared.owner.Owner.TheVariants.{At, Header}
use Rattle.pl_rail.specs.Rails.{is_in, none}
use Rattle.pl_sheets.specs.Sheets.{Pages}
use Rattle.pl_slot.specs.declared.links.Rail.TheVariants.{PageVisits, Targets}

-- a visit with the slots of its page and its source
abbrev pub slotted : Layout → Visit → Row
slotted at v =
    record {
      id = v.id;
      transition = v.transition;
      page = at.page v.page;
      source = slot_or_none at.visit v.source;
      date = v.date;
    }

-- ---- what is in a chain

-- a chain that has a slot is that of a row
pub owner_of : {X : Type 0} (chain : X → List Slot) (o : Option X) (slot : Slot)
    → is_in slot (chain_or_none chain o) ≡ true
    → (x : X) × (o ≡ Some x) × (is_in slot (chain x) ≡ true)
owner_of chain None slot among = absurd (true≢false (sym among))
owner_of chain (Some x) slot among = (x, refl, among)

-- what is in the slots of visits is the slot of one
pub visit_of : (at : Layout) (P : Visit → Type 0) (vs : List Visit) (slot : Slot) → AllByRecursion P vs
    → is_in slot (visit_slots at vs) ≡ true → (v : Visit) × P v × (at.visit v.id ≡ slot)
visit_of at P vs slot all among =
    let there : list_any (λ (v : Visit). (at.visit v.id).0 == slot.0) vs ≡ true =
    sym (list_any-map (λ (s : Slot). s.0 == slot.0) (λ (v : Visit). at.visit v.id) vs) ∙ among in
    let found = found_of (λ (v : Visit). (at.visit v.id).0 == slot.0) vs there in (
      found.0,
      found_holds P (λ (v : Visit). (at.visit v.id).0 == slot.0) vs found.0 all found.1,
      same_slot (at.visit found.0.id) slot
          (eqb-true (at.visit found.0.id).0 slot.0
          (found_passes (λ (v : Visit). (at.visit v.id).0 == slot.0) vs found.0 found.1)),
    )

module _ (at : Layout) (kept : Kept) (targets : VisitId → List Visit) (pages : Pages) (rows : AreRows kept targets)
    (held : HoldsRows at kept pages) where
  row_of : (v : Visit) → visit_at kept v.id ≡ Some v → HoldsRow (visit_record at v) pages
  row_of v found = visit_row_is at kept pages held v.id v found

  -- two visits in one slot have one page and one source
  same_owners : (v w : Visit) → visit_at kept v.id ≡ Some v → visit_at kept w.id ≡ Some w
      → at.visit v.id ≡ at.visit w.id
      → (at.page v.page ≡ at.page w.page) × (slot_or_none at.visit v.source ≡ slot_or_none at.visit w.source)
  same_owners v w first second same =
      let row : (visit_record at v).row ≡ (visit_record at w).row =
      one_row (visit_record at v) (visit_record at w) pages (row_of v first) (row_of w second) same in
      (cc, cc)

  -- the visit of a page's chain, and that its row names the page
  record InPage (slot owner : Slot) : Type 0 where
    visit : Visit
    found : visit_at kept visit.id ≡ Some visit
    here : at.visit visit.id ≡ slot
    page : at.page visit.page ≡ owner

  in_page : (owner slot : Slot) → is_in slot (chains_of at kept targets PageVisits (At owner)) ≡ true
      → InPage slot owner
  in_page owner slot among =
      let o =
      owner_of (λ (p : KeptPage). visit_slots at (page_visits kept p.page.id))
      (find (λ (p : KeptPage). (at.page p.page.id).0 == owner.0) kept.pages) slot among in
      let p : KeptPage = o.0 in
      let v = visit_of at (IsVisitOf kept p.page.id) (page_visits kept p.page.id) slot
      (visits_stand kept p.page.id rows.well) o.2 in
      record {
        visit = v.0;
        found = v.1.0;
        here = v.2;
        page =
            ap at.page (same_page v.0.page p.page.id v.1.1)
            ∙ same_slot (at.page p.page.id) owner
            (eqb-true (at.page p.page.id).0 owner.0
            (found_passes (λ (q : KeptPage). (at.page q.page.id).0 == owner.0) kept.pages p o.1));
      }

  pub visits_apart : AreApart PageVisits (chains_of at kept targets)
  visits_apart (At one) (At other) slot first second =
      let v = in_page one slot first in
      let w = in_page other slot second in
      ap At (sym v.page ∙ (same_owners v.visit w.visit v.found w.found (v.here ∙ sym w.here)).0 ∙ w.page)
  visits_apart (Header kind) other slot first second = absurd (true≢false (sym first))
  visits_apart (At one) (Header kind) slot first second = absurd (true≢false (sym second))

  -- the visit of a chain of targets, and that its row names the source, which is there
  record InTargets (slot owner : Slot) : Type 0 where
    visit : Visit
    found : visit_at kept visit.id ≡ Some visit
    here : at.visit visit.id ≡ slot
    source : slot_or_none at.visit visit.source ≡ owner
    some : owner ≢ none

  in_targets : (owner slot : Slot) → is_in slot (chains_of at kept targets Targets (At owner)) ≡ true
      → InTargets slot owner
  in_targets owner slot among =
      let o =
      owner_of (λ (v : Visit). visit_slots at (targets v.id))
      (find (λ (v : Visit). (at.visit v.id).0 == owner.0) kept.visits) slot among in
      let u : Visit = o.0 in
      let v = visit_of at (IsAny kept u.id) (targets u.id) slot
      (all_any kept u.id (targets u.id) (targets_of kept u.id (targets u.id) rows.well (rows.targeted u.id))) o.2 in
      let own : at.visit u.id ≡ owner =
      same_slot (at.visit u.id) owner
      (eqb-true (at.visit u.id).0 owner.0
      (found_passes (λ (w : Visit). (at.visit w.id).0 == owner.0) kept.visits u o.1)) in
      record {
        visit = v.0;
        found = v.1.0;
        here = v.2;
        source = ap (slot_or_none at.visit) v.1.1 ∙ own;
        some = λ zero.
            some_slot (visit_record at u) pages
            (found_holds (λ (w : Visit). HoldsRow (visit_record at w) pages)
            (λ (w : Visit). (at.visit w.id).0 == owner.0) kept.visits u visits_held o.1) (own ∙ zero);
      }
    where
      visits_held : AllByRecursion (λ (w : Visit). HoldsRow (visit_record at w) pages) kept.visits
      visits_held =
          weaker (λ (w : Visit). visit_at kept w.id ≡ Some w) (λ (w : Visit). HoldsRow (visit_record at w) pages)
          kept.visits row_of (each_visit_found kept rows.well)

  pub targets_apart : AreApart Targets (chains_of at kept targets)
  targets_apart (At one) (At other) slot first second =
      let v = in_targets one slot first in
      let w = in_targets other slot second in
      ap At (sym v.source ∙ (same_owners v.visit w.visit v.found w.found (v.here ∙ sym w.here)).1 ∙ w.source)
  targets_apart (Header kind) other slot first second = absurd (true≢false (sym first))
  targets_apart (At one) (Header kind) slot first second = absurd (true≢false (sym second))

  -- a visit that came from none is no target
  pub sourceless_loose
      : All (λ (v : Visit). v.source ≡ None → IsLoose Targets (at.visit v.id) (chains_of at kept targets)) kept.visits
  sourceless_loose =
      All-from_recursion
      (λ (v : Visit). v.source ≡ None → IsLoose Targets (at.visit v.id) (chains_of at kept targets)) kept.visits
      (weaker (λ (v : Visit). visit_at kept v.id ≡ Some v)
      (λ (v : Visit). v.source ≡ None → IsLoose Targets (at.visit v.id) (chains_of at kept targets)) kept.visits loose
      (each_visit_found kept rows.well))
    where
      loose : (v : Visit) → visit_at kept v.id ≡ Some v → v.source ≡ None
          → IsLoose Targets (at.visit v.id) (chains_of at kept targets)
      loose v found own (Header kind) = refl
      loose v found own (At owner) =
          no_test (is_in (at.visit v.id) (chains_of at kept targets Targets (At owner))) (λ among.
          let w = in_targets owner (at.visit v.id) among in
          w.some (sym w.source ∙ (same_owners w.visit v w.found found w.here).1 ∙ ap (slot_or_none at.visit) own))

  -- no visit came from itself
  pub not_own : (v : Visit) → visit_at kept v.id ≡ Some v
      → is_in (at.visit v.id) (chains_of at kept targets Targets (At (at.visit v.id))) ≡ false
  not_own v found =
      no_test (is_in (at.visit v.id) (chains_of at kept targets Targets (At (at.visit v.id)))) (λ among.
      let w = in_targets (at.visit v.id) (at.visit v.id) among in
      choose v.source
      (found_all (HasSource kept) (λ (u : Visit). u.id.0 == v.id.0) kept.visits v rows.well.sources found)
      (sym (same_owners w.visit v w.found found w.here).1 ∙ w.source))
    where
      choose : (s : Option VisitId) → IfSome s (λ id. (id.0 < v.id.0) × IsTrue (has_visit kept id))
          → slot_or_none at.visit s ≡ at.visit v.id → ⊥
      choose None source own = some_slot (visit_record at v) pages (row_of v found) (sym own)
      choose (Some id) source own =
          let there = found_of (λ (u : Visit). u.id.0 == id.0) kept.visits source.1 in
          let is : there.0.id ≡ id = visit_is kept id there.0 there.1 in
          let row : (visit_record at there.0).row ≡ (visit_record at v).row =
          one_row (visit_record at there.0) (visit_record at v) pages
          (visit_row_is at kept pages held id there.0 there.1) (row_of v found) (ap at.visit is ∙ own) in
          let same : there.0.id ≡ v.id = cc in
          omega (arith, source.0, ap (λ (i : VisitId). i.0) (sym is ∙ same))

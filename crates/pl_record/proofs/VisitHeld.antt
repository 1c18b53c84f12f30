-- A visit goes by a few calls: what these ask for.
use Rattle.std.proofs.Common.{◌≡◌, ◌≢◌, ◌∙◌, ◌==◌, ◌∷◌, ◌++◌, [], List, None, Option, Some, ap, eq-eqb, eqb-true}
use Rattle.std.proofs.Common.{false, if◌then◌else◌, inl, inr, refl, subst, sym, true}
use Rattle.std.specs.List.{list_any}
use Rattle.std.specs.Option.{IsSome, option_map}
use Rattle.std.proofs.lemmas.Bool.{or_cases, or_left, or_right, true≢false}
use Rattle.pl_base.specs.declared.id.Slot.{Slot}
use Rattle.pl_base.specs.declared.id.VisitId.{VisitId}
use Rattle.pl_base.specs.Rows.{Kept, KeptPage, page_visits, store_of, visit_at}
use Rattle.pl_base.specs.Store.{Visit}
use Rattle.pl_base.specs.Visits.{visits_of}
use Rattle.pl_base.proofs.IdsLaws.{same_slot}
use Rattle.pl_base.proofs.LookUps.{found_some}
use Rattle.pl_base.proofs.PageLaws.{id_at}
use Rattle.pl_base.proofs.Truths.{no_test}
use Rattle.pl_base.proofs.VisitLists.{any-latest_first}
use Rattle.pl_base.proofs.VisitsRun.{visit_is}
use Rattle.pl_record.specs.ChainMap.{AreChains, ChainMap, with_chain}
use Rattle.pl_record.specs.Chains.{visit_slots}
use Rattle.pl_record.specs.LinkedRows.{AreLinked, Entries, slot_at}
use Rattle.pl_record.proofs.NamedSlots.{found_all, found_of, visit_row_is}
use Rattle.pl_record.specs.Records.{Layout, slot_or_none, visit_record}
use Rattle.pl_record.specs.Rows.{record_at, visit_row, with_source}
use Rattle.pl_record.specs.VisitChanges.{DropsTargets, HoldsVisit}
use Rattle.pl_record.proofs.ChainMaps.{chain_beside, chain_here, has_member}
use Rattle.pl_record.proofs.LaidChains.{NamesChains, chains_named, chains_of, laid_chains}
use Rattle.pl_record.proofs.LookUps.{Found}
use Rattle.pl_record.proofs.PagesTold.{kind_told}
use Rattle.pl_record.proofs.RecordMaps.{held_record, record_held}
use Rattle.pl_record.proofs.RowKinds.{link_there}
use Rattle.pl_record.proofs.Splits.{any_kept, split}
use Rattle.pl_record.proofs.VisitChains.{not_own, slotted, targets_apart}
use Rattle.pl_record.proofs.VisitsTold.{has_own_page, has_own_source, target_among, visit_found, visit_kind}
use Rattle.pl_rail.specs.declared.owner.Owner.{Owner}
use Rattle.pl_rail.specs.declared.owner.Owner.TheVariants.{At, Header}
use Rattle.pl_rail.specs.Rails.{HasMember, Lists, end_at, is_in, none}
use Rattle.pl_rail.specs.declared.owner.Side.TheVariants.{Behind}
use Rattle.pl_sheets.specs.Sheets.{Pages}
use Rattle.pl_slot.specs.declared.kind.LiveKind.TheVariants as live
use Rattle.pl_slot.specs.declared.kind.SlotKind.TheVariants as kinds
use Rattle.pl_slot.specs.declared.links.Link.TheVariants.{First}
use Rattle.pl_slot.specs.declared.links.Rail.{Rail}
use Rattle.pl_slot.specs.declared.links.Rail.TheVariants.{Live, PageVisits, Targets}

-- ---- members

-- a slot of a chain is a member of it
pub member_of : (chains : ChainMap) (pages : Pages) → AreChains chains pages → (r : Rail) (o : Owner) (slot : Slot)
    → is_in slot (chains r o) ≡ true → HasMember r o slot pages
member_of chains pages are r o slot among =
    let s = split (λ (other : Slot). other.0 == slot.0) (chains r o) among in
    has_member chains pages are r o s.front slot s.rest
    (s.whole
    ∙ ap (λ (m : Slot). s.front ++ m ∷ s.rest) (same_slot s.element slot (eqb-true s.element.0 slot.0 s.passes)))

-- the slot of a visit is among those of visits that have it
pub among_slots : (at : Layout) (id : VisitId) (vs : List Visit) → list_any (λ (w : Visit). w.id.0 == id.0) vs ≡ true
    → is_in (at.visit id) (visit_slots at vs) ≡ true
among_slots at id [] any = absurd (true≢false (sym any))
among_slots at id (w ∷ vs) any = elim (or_cases (w.id.0 == id.0) (list_any (λ (u : Visit). u.id.0 == id.0) vs) any) [
  | inl same ↦
      or_left ((at.visit w.id).0 == (at.visit id).0) (is_in (at.visit id) (visit_slots at vs))
      (eq-eqb (at.visit w.id).0 (at.visit id).0
      (ap (λ n. (at.visit (record { 0 = n })).0) (eqb-true w.id.0 id.0 same)))
  | inr rest ↦
      or_right ((at.visit w.id).0 == (at.visit id).0) (is_in (at.visit id) (visit_slots at vs))
      (among_slots at id vs rest)
]

module _ (kept : Kept) (targets : VisitId → List Visit) (old : Pages) (pages visits items : Entries)
    (l : AreLinked kept targets old pages visits items) (id : VisitId) (slot : Slot)
    (some : slot_at visits id.0 ≡ Some slot) where
  abbrev pub visit_place : Visit → Slot
  visit_place w = l.at.visit w.id

  pub found : Found visit_place (visit_at kept id) slot
  found = visit_found kept targets old pages visits items l id slot some

  abbrev v : Visit
  v = found.row

  number : v.id ≡ id
  number = visit_is kept id v found.there

  pub slot_is : l.at.visit id ≡ slot
  slot_is = ap l.at.visit (sym number) ∙ found.here

  abbrev before : ChainMap
  before = chains_of l.at kept targets

  are : AreChains before old
  are = laid_chains l.at kept targets old l.rows l.laid

  named : NamesChains l.at kept targets before
  named = chains_named l.at kept targets old l.laid.rows l.rows.well

  targets_named : (i : VisitId) (w : Visit) → visit_at kept i ≡ Some w
      → before Targets (At (l.at.visit i)) ≡ visit_slots l.at (targets i)
  targets_named i w is =
      subst (λ (j : VisitId). before Targets (At (l.at.visit j)) ≡ visit_slots l.at (targets j)) (visit_is kept i w is)
      (found_all (λ (u : Visit). before Targets (At (l.at.visit u.id)) ≡ visit_slots l.at (targets u.id))
      (λ (u : Visit). u.id.0 == i.0) kept.visits w named.targeted is)

  own_targets : before Targets (At slot) ≡ visit_slots l.at (targets id)
  own_targets =
      subst (λ s. before Targets (At s) ≡ visit_slots l.at (targets id)) slot_is (targets_named id v found.there)

  owner_there : IsSome (end_at Behind Targets (At slot) old)
  owner_there =
      link_there Targets First slot.0 kinds.Visit 40 old (visit_kind kept targets old pages visits items l id slot some)
      refl

  pub targets_listed : Lists Targets (At slot) (visit_slots l.at (targets id)) old
  targets_listed = subst (λ ts. Lists Targets (At slot) ts old) own_targets (are.lists Targets (At slot) owner_there)

  pub listed : (slots : List Slot) × Lists Targets (At slot) slots old
  listed = (visit_slots l.at (targets id), targets_listed)

  not_target : is_in slot (visit_slots l.at (targets id)) ≡ false
  not_target =
      sym (ap (is_in slot) own_targets)
      ∙ subst (λ s. is_in s (before Targets (At s)) ≡ false) found.here
      (not_own l.at kept targets old l.rows l.laid.rows v (ap (visit_at kept) number ∙ found.there))

  module _ (mid : Pages) (drops : DropsTargets slot (visit_slots l.at (targets id)) old mid) where
    abbrev now : ChainMap
    now = with_chain Targets (At slot) [] before

    are_now : AreChains now mid
    are_now = drops.chains before are (targets_apart l.at kept targets old l.rows l.laid.rows)

    row_held : record_at slot.0 mid ≡ Some (visit_row (slotted l.at v))
    row_held =
        drops.records slot.0
        ∙ ap (λ b. if b then option_map (with_source none) (record_at slot.0 old) else record_at slot.0 old) not_target
        ∙ subst (λ s. record_at s.0 old ≡ Some (visit_row (slotted l.at v))) found.here
        (held_record (visit_record l.at v) old refl (visit_row_is l.at kept old l.laid.rows id v found.there))

    owner_now : IsSome (end_at Behind Targets (At slot) mid)
    owner_now =
        link_there Targets First slot.0 kinds.Visit 40 mid
        (kind_told slot (visit_row (slotted l.at v)) mid
        (record_held (record { slot = slot; row = visit_row (slotted l.at v) }) mid row_held)) refl

    own : list_any (λ (w : Visit). w.id.0 == id.0) kept.visits ≡ true
    own = found_some (λ (w : Visit). w.id.0 == id.0) kept.visits v found.there

    page_named : before PageVisits (At (l.at.page v.page)) ≡ visit_slots l.at (page_visits kept v.page)
    page_named =
        let p = found_of (λ (q : KeptPage). q.page.id.0 == v.page.0) kept.pages
        (has_own_page kept targets old pages visits items l id v found.there) in
        subst (λ i. before PageVisits (At (l.at.page i)) ≡ visit_slots l.at (page_visits kept i))
        (id_at kept v.page p.0 p.1)
        (found_all (λ (q : KeptPage). before PageVisits (At (l.at.page q.page.id))
        ≡ visit_slots l.at (page_visits kept q.page.id)) (λ (q : KeptPage). q.page.id.0 == v.page.0) kept.pages p.0
        named.visits p.1)

    in_page : is_in slot (visit_slots l.at (page_visits kept v.page)) ≡ true
    in_page =
        subst (λ s. is_in s (visit_slots l.at (page_visits kept v.page)) ≡ true) slot_is
        (among_slots l.at id (page_visits kept v.page)
        (any-latest_first (λ (w : Visit). w.id.0 == id.0) (visits_of (store_of kept) v.page)
        ∙ any_kept (λ (w : Visit). w.id.0 == id.0) (λ (w : Visit). w.page.0 == v.page.0) kept.visits v found.there
        (eq-eqb v.page.0 v.page.0 refl)))

    of_source : (s : Option VisitId) → v.source ≡ s → (slot_or_none l.at.visit s).0 ≢ 0
        → HasMember Targets (At (slot_or_none l.at.visit s)) slot mid
    of_source None is some_source = absurd (some_source refl)
    of_source (Some s) is some_source =
        let u = found_of (λ (w : Visit). w.id.0 == s.0) kept.visits
        (has_own_source kept targets old pages visits items l id v found.there s is) in
        let among : is_in slot (before Targets (At (l.at.visit s))) ≡ true =
        ap (is_in slot) (targets_named s u.0 u.1)
        ∙ subst (λ t. is_in t (visit_slots l.at (targets s)) ≡ true) slot_is
        (among_slots l.at id (targets s)
        (target_among kept targets old pages visits items l id s v found.there is)) in
        member_of now mid are_now Targets (At (l.at.visit s)) slot
        (ap (is_in slot)
        (chain_beside Targets (At slot) [] before Targets (At (l.at.visit s))
        (no_test ((l.at.visit s).0 == slot.0) (λ same.
        true≢false (sym among
        ∙ ap (λ n. is_in slot (before Targets (At (record { 0 = n })))) (eqb-true (l.at.visit s).0 slot.0 same)
        ∙ ap (is_in slot) own_targets ∙ not_target)))) ∙ among)

    pub visit_held : HoldsVisit slot mid
    visit_held =
        record {
          visit = slotted l.at v;
          row = row_held;
          of_header =
              member_of now mid are_now Live (Header live.Visit) slot
              (subst (λ s. is_in s (visit_slots l.at kept.visits) ≡ true) slot_is
              (among_slots l.at id kept.visits own));
          of_page =
              member_of now mid are_now PageVisits (At (l.at.page v.page)) slot (ap (is_in slot) page_named ∙ in_page);
          of_source = of_source v.source refl;
          no_target =
              subst (λ ts. Lists Targets (At slot) ts mid) (chain_here Targets (At slot) [] before)
              (are_now.lists Targets (At slot) owner_now);
        }

    pub held_is : visit_held.visit ≡ slotted l.at v
    unfolding visit_held
    held_is = refl

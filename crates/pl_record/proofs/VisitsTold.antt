-- What the rows of visits and their chains tell.
use Rattle.std.proofs.Common.{◌≡◌, ◌∙◌, ◌<◌, ◌==◌, ◌&&◌, ◌||◌, is_some, not, ◌∷◌, ◌++◌, [], ℕ, Bool, List, Option, Some, None, ap, eq-eqb, eqb-true, false}
use Rattle.std.proofs.Common.{refl, subst, sym, true}
use Rattle.std.specs.Prelude.{IsTrue}
use Rattle.std.specs.List.{AllByRecursion, list_any}
use Rattle.std.specs.Option.{IfSome, IsSome, option_and_then, option_map}
use Rattle.std.proofs.lemmas.Option.{same_Some}
use Rattle.std.proofs.lemmas.List.{map-append}
use Rattle.std.proofs.lemmas.Bool.{and_from, cases_Bool, or_right, true≢false}
use Rattle.std.proofs.lemmas.List.Folds.{list_any-append}
use Rattle.pl_base.specs.declared.id.PageId.{PageId}
use Rattle.pl_base.specs.declared.id.Slot.{Slot}
use Rattle.pl_base.specs.declared.id.VisitId.{VisitId}
use Rattle.pl_base.specs.Date.{IsDate}
use Rattle.pl_base.specs.Redirects.{is_redirect, is_source, others_from, redirects_from}
use Rattle.pl_base.specs.Rows.{AreTargets, HasSource, Kept, KeptPage, first_id, has_page, has_visit, id_behind, older_visit, page_at}
use Rattle.pl_base.specs.Rows.{page_visits, row_of, store_of, target_behind, visit_at}
use Rattle.pl_base.specs.Store.{Visit}
use Rattle.pl_base.specs.Visits.{latest_first, visits_of}
use Rattle.std.proofs.Common.{inl, inr}
use Rattle.std.proofs.lemmas.List.Elements.{recursion_from_All}
use Rattle.pl_base.proofs.IdsLaws.{same_page}
use Rattle.pl_base.proofs.ListLaws.{weaker}
use Rattle.pl_base.proofs.LookUps.{found_some, none_kept, rest_of}
use Rattle.pl_base.proofs.PageLaws.{id_at}
use Rattle.pl_base.proofs.TargetsRun.{IsAny, all_any, targets_of}
use Rattle.pl_base.proofs.VisitLists.{any-latest_first}
use Rattle.pl_base.proofs.VisitsRun.{IsVisitOf, visit_is, visits_stand}
use Rattle.pl_record.specs.declared.rows.Visit.{Visit as Row}
use Rattle.pl_record.specs.Chains.{visit_slots}
use Rattle.pl_record.specs.LinkedRows.{AreLinked, Entries, slot_at}
use Rattle.pl_record.specs.Records.{page_record, slot_or_none, visit_record}
use Rattle.pl_record.specs.Rows.{page_in, row_in, visit_in, visit_row}
use Rattle.pl_record.proofs.LookUps.{Found, finds, finds_none}
use Rattle.pl_record.proofs.NamedSlots.{found_all, found_of, page_named, page_row_is, visit_named, visit_row_is}
use Rattle.pl_record.proofs.OneForm.{no_targets}
use Rattle.pl_record.proofs.PagesTold.{kind_told, named_slot, no_page, page_found}
use Rattle.pl_record.proofs.Splits.{any_kept, any_permuted, not_there, split, visit_behind}
use Rattle.pl_rail.specs.declared.owner.Owner.{Owner}
use Rattle.pl_rail.specs.declared.owner.Owner.TheVariants.{At}
use Rattle.pl_rail.specs.Rails.{Lists, first_of, named, none}
use Rattle.pl_sheets.specs.Sheets.{Pages}
use Rattle.pl_slot.specs.declared.kind.SlotKind.TheVariants as kinds
use Rattle.pl_slot.specs.declared.links.Rail.TheVariants.{PageVisits, Targets}
use Rattle.pl_slot.specs.Links.{kind_at}

module _ (kept : Kept) (targets : VisitId → List Visit) (sheets : Pages) (pages visits items : Entries)
    (l : AreLinked kept targets sheets pages visits items) where
  abbrev visit_place : Visit → Slot
  visit_place v = l.at.visit v.id

  pub visit_found : (id : VisitId) (slot : Slot) → slot_at visits id.0 ≡ Some slot
      → Found visit_place (visit_at kept id) slot
  visit_found id slot some = finds (λ (v : Visit). v.id.0) visit_place kept.visits visits l.indexed.visits id.0 slot some

  pub no_visit : (id : VisitId) → slot_at visits id.0 ≡ None → visit_at kept id ≡ None
  no_visit id none = finds_none (λ (v : Visit). v.id.0) visit_place kept.visits visits l.indexed.visits id.0 none

  pub visit_missing : (id : VisitId) → has_visit kept id ≡ true → slot_at visits id.0 ≡ None → ⊥
  visit_missing id there nothing =
      let found = found_of (λ (v : Visit). v.id.0 == id.0) kept.visits there in
      let never : None ≡ Some found.0 = sym (no_visit id nothing) ∙ found.1 in
      absurd (cc)

  -- ---- rows

  pub visit_row_here : (id : VisitId) (slot : Slot) (f : Found visit_place (visit_at kept id) slot)
      → row_in slot sheets ≡ Some (visit_record l.at f.row).row
  visit_row_here id slot f =
      ap (λ (s : Slot). row_in s sheets) (sym f.here) ∙ visit_row_is l.at kept sheets l.laid.rows id f.row f.there

  pub visit_kind : (id : VisitId) (slot : Slot) → slot_at visits id.0 ≡ Some slot
      → kind_at slot.0 sheets ≡ Some kinds.Visit
  visit_kind id slot some =
      let f = visit_found id slot some in
      kind_told slot (visit_record l.at f.row).row sheets (visit_row_here id slot f)

  -- a slot that says the id of a page or a visit holds one
  pub page_slot_kind : (id : PageId) → has_page kept id ≡ true → kind_at (l.at.page id).0 sheets ≡ Some kinds.Place
  page_slot_kind id there =
      let found = found_of (λ (p : KeptPage). p.page.id.0 == id.0) kept.pages there in
      ap (λ (i : PageId). kind_at (l.at.page i).0 sheets) (sym (id_at kept id found.0 found.1))
      ∙ kind_told (l.at.page found.0.page.id) (page_record l.at found.0).row sheets
      (page_row_is l.at kept sheets l.laid.rows id found.0 found.1)

  pub visit_slot_kind : (id : VisitId) → has_visit kept id ≡ true → kind_at (l.at.visit id).0 sheets ≡ Some kinds.Visit
  visit_slot_kind id there =
      let found = found_of (λ (v : Visit). v.id.0 == id.0) kept.visits there in
      ap (λ (i : VisitId). kind_at (l.at.visit i).0 sheets) (sym (visit_is kept id found.0 found.1))
      ∙ kind_told (l.at.visit found.0.id) (visit_record l.at found.0).row sheets
      (visit_row_is l.at kept sheets l.laid.rows id found.0 found.1)

  pub has_own_page : (id : VisitId) (v : Visit) → visit_at kept id ≡ Some v → has_page kept v.page ≡ true
  has_own_page id v found =
      (found_all (λ (w : Visit). IsDate w.date × IsTrue (has_page kept w.page)) (λ (w : Visit). w.id.0 == id.0) kept.visits
      v l.rows.well.visits found).1

  pub has_own_source : (id : VisitId) (v : Visit) → visit_at kept id ≡ Some v → (source : VisitId) → v.source ≡ Some source
      → has_visit kept source ≡ true
  has_own_source id v found source is =
      let known : IfSome v.source (λ s. (s.0 < v.id.0) × IsTrue (has_visit kept s)) =
      found_all (HasSource kept) (λ (w : Visit). w.id.0 == id.0) kept.visits v l.rows.well.sources found in
      let there : IfSome (Some source) (λ s. (s.0 < v.id.0) × IsTrue (has_visit kept s)) =
      subst (λ (s : Option VisitId). IfSome s (λ s. (s.0 < v.id.0) × IsTrue (has_visit kept s))) is known in
      there.1

  -- the row of a visit, as it was read
  module _ (id : VisitId) (slot : Slot) (row : Row) (some : slot_at visits id.0 ≡ Some slot)
      (read : row_in slot sheets ≡ Some (visit_row row)) where
    found : Found visit_place (visit_at kept id) slot
    found = visit_found id slot some

    same_row : visit_row row ≡ (visit_record l.at found.row).row
    same_row =
        let both : Some (visit_row row) ≡ Some (visit_record l.at found.row).row =
        sym read ∙ visit_row_here id slot found in
        cc

    own_page : row.page ≡ l.at.page found.row.page
    own_page =
        let same : visit_row row ≡ (visit_record l.at found.row).row = same_row in
        cc

    own_source : row.source ≡ slot_or_none l.at.visit found.row.source
    own_source =
        let same : visit_row row ≡ (visit_record l.at found.row).row = same_row in
        cc

    pub own_page_kind : kind_at row.page.0 sheets ≡ Some kinds.Place
    own_page_kind =
        ap (λ (s : Slot). kind_at s.0 sheets) own_page ∙ page_slot_kind found.row.page (has_own_page id found.row found.there)

    own_page_named : page_in sheets row.page ≡ Some found.row.page
    own_page_named =
        ap (page_in sheets) own_page
        ∙ page_named l.at kept sheets l.laid.rows found.row.page (has_own_page id found.row found.there)

    -- its source
    source_cases : (s : Option VisitId) → found.row.source ≡ s
        → (named row.source ≡ option_map l.at.visit s)
        × (option_and_then (visit_in sheets) (option_map l.at.visit s) ≡ s)
        × IfSome (option_map l.at.visit s) (λ t. kind_at t.0 sheets ≡ Some kinds.Visit)
    source_cases None is = (
      ap named (own_source ∙ ap (slot_or_none l.at.visit) is),
      refl,
      tt,
    )
    source_cases (Some source) is =
        let there : has_visit kept source ≡ true = has_own_source id found.row found.there source is in
        let slot_is : row.source ≡ l.at.visit source = own_source ∙ ap (slot_or_none l.at.visit) is in
        let kind : kind_at (l.at.visit source).0 sheets ≡ Some kinds.Visit = visit_slot_kind source there in (
          ap named slot_is ∙ named_slot (l.at.visit source) kinds.Visit sheets kind,
          visit_named l.at kept sheets l.laid.rows source there,
          kind,
        )

    source_known : (s : Option VisitId) → found.row.source ≡ s
        → (option_and_then (visit_in sheets) (named row.source) ≡ found.row.source)
        × IfSome (named row.source) (λ t. kind_at t.0 sheets ≡ Some kinds.Visit)
    source_known s is =
        let cases = source_cases s is in (
          ap (option_and_then (visit_in sheets)) cases.0 ∙ cases.1 ∙ sym is,
          subst (λ (o : Option Slot). IfSome o (λ t. kind_at t.0 sheets ≡ Some kinds.Visit)) (sym cases.0) cases.2,
        )

    pub source_kind : IfSome (named row.source) (λ t. kind_at t.0 sheets ≡ Some kinds.Visit)
    source_kind = (source_known found.row.source refl).1

    pub row_told : (page : PageId) (source : Option VisitId) → page_in sheets row.page ≡ Some page
        → source ≡ option_and_then (visit_in sheets) (named row.source)
        → Some (record { page = page; date = row.date; transition = row.transition; source = source })
        ≡ option_map row_of (visit_at kept id)
    row_told page source page_read source_read =
        let same : visit_row row ≡ (visit_record l.at found.row).row = same_row in
        let date : row.date ≡ found.row.date = cc in
        let transition : row.transition ≡ found.row.transition = cc in
        let own : Some page ≡ Some found.row.page = sym page_read ∙ own_page_named in
        let page_is : page ≡ found.row.page = cc in
        let source_is : source ≡ found.row.source = source_read ∙ (source_known found.row.source refl).0 in
        let whole
        : record { page = page; date = row.date; transition = row.transition; source = source } ≡ row_of found.row =
        (λ i. record { page = page_is i; date = date i; transition = transition i; source = source_is i }) in
        ap Some whole ∙ sym (ap (option_map row_of) found.there)

  -- ---- chains

  -- the visits of a list are found by their ids
  abbrev AreFound : List Visit → Type 0
  AreFound vs = AllByRecursion (λ (v : Visit). visit_at kept v.id ≡ Some v) vs

  slot_id : (v : Visit) → visit_at kept v.id ≡ Some v → visit_in sheets (l.at.visit v.id) ≡ Some v.id
  slot_id v found =
      visit_named l.at kept sheets l.laid.rows v.id (found_some (λ (w : Visit). w.id.0 == v.id.0) kept.visits v found)

  first_named : (vs : List Visit) → AreFound vs
      → option_and_then (visit_in sheets) (first_of (visit_slots l.at vs)) ≡ first_id vs
  first_named [] all = refl
  first_named (v ∷ vs) all = slot_id v all.0

  first_kind : (vs : List Visit) → AreFound vs
      → IfSome (first_of (visit_slots l.at vs)) (λ s. kind_at s.0 sheets ≡ Some kinds.Visit)
  first_kind [] all = tt
  first_kind (v ∷ vs) all =
      visit_slot_kind v.id (found_some (λ (w : Visit). w.id.0 == v.id.0) kept.visits v all.0)

  -- what a first or a next slot names
  pub record Tells (slot : Option Slot) (id : Option VisitId) : Type 0 where
    pub named : option_and_then (visit_in sheets) slot ≡ id
    pub kind : IfSome slot (λ s. kind_at s.0 sheets ≡ Some kinds.Visit)

  told_first : (vs : List Visit) (slot : Option Slot) → AreFound vs → slot ≡ first_of (visit_slots l.at vs)
      → Tells slot (first_id vs)
  told_first vs slot found is =
      record {
        named = ap (option_and_then (visit_in sheets)) is ∙ first_named vs found;
        kind =
            subst (λ (o : Option Slot). IfSome o (λ s. kind_at s.0 sheets ≡ Some kinds.Visit)) (sym is)
            (first_kind vs found);
      }

  visits_of_page : (page : PageId) → AreFound (page_visits kept page)
  visits_of_page page =
      weaker (IsVisitOf kept page) (λ (v : Visit). visit_at kept v.id ≡ Some v) (page_visits kept page) (λ v is. is.0)
      (visits_stand kept page l.rows.well)

  page_chain : (page : PageId) (p : KeptPage) → page_at kept page ≡ Some p
      → Lists PageVisits (At (l.at.page page)) (visit_slots l.at (page_visits kept page)) sheets
  page_chain page p found =
      subst (λ (i : PageId). Lists PageVisits (At (l.at.page i)) (visit_slots l.at (page_visits kept i)) sheets)
      (id_at kept page p found)
      (found_all (λ (q : KeptPage).
      Lists PageVisits (At (l.at.page q.page.id)) (visit_slots l.at (page_visits kept q.page.id)) sheets)
      (λ (q : KeptPage). q.page.id.0 == page.0) kept.pages p l.laid.chains.visits found)

  -- a page that is not there has no visits
  pub no_latest : (page : PageId) → slot_at pages page.0 ≡ None → first_id (page_visits kept page) ≡ None
  no_latest page nothing =
      ap (λ vs. first_id (latest_first vs))
      (none_kept (λ (v : Visit). v.page.0 == page.0) kept.visits
      (weaker (λ (v : Visit). IsDate v.date × IsTrue (has_page kept v.page)) (λ (v : Visit). (v.page.0 == page.0) ≡ false)
      kept.visits (λ v own. other_page v own.1)
      (recursion_from_All (λ (v : Visit). IsDate v.date × IsTrue (has_page kept v.page)) kept.visits
      l.rows.well.visits)))
    where
      other_page : (v : Visit) → has_page kept v.page ≡ true → (v.page.0 == page.0) ≡ false
      other_page v there = elim (cases_Bool (v.page.0 == page.0)) [
        | inl same ↦
            absurd (true≢false (sym there
            ∙ ap (has_page kept) (same_page v.page page same)
            ∙ not_there (λ (p : KeptPage). p.page.id.0 == page.0) kept.pages
            (no_page kept targets sheets pages visits items l page nothing)))
        | inr differs ↦ differs
      ]

  -- the first slot of a page's chain
  pub latest_told : (page : PageId) (slot : Slot) (first : Option Slot) → slot_at pages page.0 ≡ Some slot
      → ((slots : List Slot) → Lists PageVisits (At slot) slots sheets → first ≡ first_of slots)
      → Tells first (first_id (page_visits kept page))
  latest_told page slot first some told =
      let f = page_found kept targets sheets pages visits items l page slot some in
      let here : l.at.page page ≡ slot = ap l.at.page (sym (id_at kept page f.row f.there)) ∙ f.here in
      told_first (page_visits kept page) first (visits_of_page page)
      (told (visit_slots l.at (page_visits kept page))
      (subst (λ (s : Slot). Lists PageVisits (At s) (visit_slots l.at (page_visits kept page)) sheets) here
      (page_chain page f.row f.there)))

  -- the slot behind a visit of a list
  behind_told : (id : VisitId) (slot : Slot) (vs : List Visit) (next : Option Slot) → AreFound vs
      → (f : Found visit_place (visit_at kept id) slot) → list_any (λ (w : Visit). w.id.0 == id.0) vs ≡ true
      → ((front back : List Slot) → visit_slots l.at vs ≡ front ++ slot ∷ back → next ≡ first_of back)
      → Tells next (id_behind id vs)
  behind_told id slot vs next all f among told =
      let s = split (λ (w : Visit). w.id.0 == id.0) vs among in
      let rest : AreFound (s.element ∷ s.rest) =
      rest_of (λ (w : Visit). visit_at kept w.id ≡ Some w) s.front (s.element ∷ s.rest) (subst AreFound s.whole all) in
      let id_is : s.element.id ≡ id = ap (λ (n : ℕ). record { 0 = n }) (eqb-true s.element.id.0 id.0 s.passes) in
      let same : s.element ≡ f.row = same_Some s.element f.row (sym rest.0 ∙ ap (visit_at kept) id_is ∙ f.there) in
      let here : l.at.visit s.element.id ≡ slot = ap (λ (w : Visit). l.at.visit w.id) same ∙ f.here in
      let slots : visit_slots l.at vs ≡ visit_slots l.at s.front ++ slot ∷ visit_slots l.at s.rest =
      ap (visit_slots l.at) s.whole ∙ map-append visit_place s.front (s.element ∷ s.rest)
      ∙ ap (λ (t : Slot). visit_slots l.at s.front ++ t ∷ visit_slots l.at s.rest) here in
      let behind : Tells next (first_id s.rest) =
      told_first s.rest next rest.1 (told (visit_slots l.at s.front) (visit_slots l.at s.rest) slots) in
      subst (Tells next)
      (sym (ap (id_behind id) s.whole ∙ visit_behind id s.front s.element s.rest s.none s.passes)) behind

  -- the next slot of the chain of a visit's page
  pub older_told : (id : VisitId) (slot : Slot) (next : Option Slot) → slot_at visits id.0 ≡ Some slot
      → ((owner : Owner) (front back : List Slot) → Lists PageVisits owner (front ++ slot ∷ back) sheets
      → next ≡ first_of back) → Tells next (older_visit kept id)
  older_told id slot next some told =
      let f = visit_found id slot some in
      let page = found_of (λ (p : KeptPage). p.page.id.0 == f.row.page.0) kept.pages (has_own_page id f.row f.there) in
      let chain : Lists PageVisits (At (l.at.page f.row.page)) (visit_slots l.at (page_visits kept f.row.page)) sheets =
      page_chain f.row.page page.0 page.1 in
      let among : list_any (λ (w : Visit). w.id.0 == id.0) (page_visits kept f.row.page) ≡ true =
      any-latest_first (λ (w : Visit). w.id.0 == id.0) (visits_of (store_of kept) f.row.page)
      ∙ any_kept (λ (w : Visit). w.id.0 == id.0) (λ (w : Visit). w.page.0 == f.row.page.0) kept.visits f.row f.there
      (eq-eqb f.row.page.0 f.row.page.0 refl) in
      subst (Tells next)
      (sym (ap (option_and_then (λ (v : Visit). id_behind id (page_visits kept v.page))) f.there))
      (behind_told id slot (page_visits kept f.row.page) next (visits_of_page f.row.page) f among (λ front back whole.
      told (At (l.at.page f.row.page)) front back
      (subst (λ (slots : List Slot). Lists PageVisits (At (l.at.page f.row.page)) slots sheets) whole chain)))

  -- ---- targets

  targets_of_visit : (source : VisitId) → AreFound (targets source)
  targets_of_visit source =
      weaker (IsAny kept source) (λ (v : Visit). visit_at kept v.id ≡ Some v) (targets source) (λ v any. any.0)
      (all_any kept source (targets source)
      (targets_of kept source (targets source) l.rows.well (l.rows.targeted source)))

  targets_chain : (source : VisitId) (v : Visit) → visit_at kept source ≡ Some v
      → Lists Targets (At (l.at.visit source)) (visit_slots l.at (targets source)) sheets
  targets_chain source v found =
      subst (λ (i : VisitId). Lists Targets (At (l.at.visit i)) (visit_slots l.at (targets i)) sheets)
      (visit_is kept source v found)
      (found_all (λ (w : Visit). Lists Targets (At (l.at.visit w.id)) (visit_slots l.at (targets w.id)) sheets)
      (λ (w : Visit). w.id.0 == source.0) kept.visits v l.laid.chains.targeted found)

  pub first_target_told : (id : VisitId) (slot : Slot) (first : Option Slot) → slot_at visits id.0 ≡ Some slot
      → ((slots : List Slot) → Lists Targets (At slot) slots sheets → first ≡ first_of slots)
      → Tells first (first_id (targets id))
  first_target_told id slot first some told =
      let f = visit_found id slot some in
      let here : l.at.visit id ≡ slot = ap l.at.visit (sym (visit_is kept id f.row f.there)) ∙ f.here in
      told_first (targets id) first (targets_of_visit id)
      (told (visit_slots l.at (targets id))
      (subst (λ (s : Slot). Lists Targets (At s) (visit_slots l.at (targets id)) sheets) here
      (targets_chain id f.row f.there)))

  pub no_first_target : (id : VisitId) → slot_at visits id.0 ≡ None → first_id (targets id) ≡ None
  no_first_target id none =
      ap first_id (no_targets kept targets id l.rows
      (not_there (λ (v : Visit). v.id.0 == id.0) kept.visits (no_visit id none)))

  abbrev same_id : VisitId → Visit → Bool
  same_id id w = w.id.0 == id.0

  pub target_among : (id source : VisitId) (v : Visit) → visit_at kept id ≡ Some v → v.source ≡ Some source
      → list_any (λ (w : Visit). w.id.0 == id.0) (targets source) ≡ true
  target_among id source v found from =
      let t = l.rows.targeted source in
      let is : is_source source v.source ≡ true =
      ap (is_source source) from ∙ eq-eqb source.0 source.0 refl in
      ap (list_any (same_id id)) t.is ∙ list_any-append (same_id id) t.redirects t.others ∙ choose t is (is_redirect v.transition) refl
    where
      choose : (t : AreTargets (store_of kept) source (targets source)) → is_source source v.source ≡ true → (b : Bool)
          → is_redirect v.transition ≡ b → (list_any (same_id id) t.redirects || list_any (same_id id) t.others) ≡ true
      choose t is true made =
          ap (λ b. b || list_any (same_id id) t.others)
          (any_permuted (same_id id) t.redirects (redirects_from (store_of kept) source) t.all_redirects
          (any_kept (same_id id) (λ (w : Visit). is_redirect w.transition && is_source source w.source) kept.visits v found
          (and_from (is_redirect v.transition) (is_source source v.source) made is)))
      choose t is false made =
          or_right (list_any (same_id id) t.redirects) (list_any (same_id id) t.others)
          (any_permuted (same_id id) t.others (others_from (store_of kept) source) t.all_others
          (any_kept (same_id id) (λ (w : Visit). not (is_redirect w.transition) && is_source source w.source) kept.visits v found
          (and_from (not (is_redirect v.transition)) (is_source source v.source) (ap not made) is)))

  next_target_told : (id source : VisitId) (slot : Slot) (next : Option Slot)
      → (f : Found visit_place (visit_at kept id) slot) → f.row.source ≡ Some source
      → ((owner : Owner) (front back : List Slot) → Lists Targets owner (front ++ slot ∷ back) sheets
      → next ≡ first_of back) → Tells next (target_behind targets kept id)
  next_target_told id source slot next f from told =
      let there = found_of (λ (v : Visit). v.id.0 == source.0) kept.visits
      (has_own_source id f.row f.there source from) in
      let chain : Lists Targets (At (l.at.visit source)) (visit_slots l.at (targets source)) sheets =
      targets_chain source there.0 there.1 in
      subst (Tells next)
      (sym (ap (option_and_then (λ (v : Visit). option_and_then (λ s. id_behind id (targets s)) v.source)) f.there
      ∙ ap (option_and_then (λ s. id_behind id (targets s))) from))
      (behind_told id slot (targets source) next (targets_of_visit source) f (target_among id source f.row f.there from)
      (λ front back whole.
      told (At (l.at.visit source)) front back
      (subst (λ (slots : List Slot). Lists Targets (At (l.at.visit source)) slots sheets) whole chain)))

  -- the source that the row of a visit names decides
  pub target_told : (id : VisitId) (slot : Slot) (row : Row) (next : Option Slot)
      → (some : slot_at visits id.0 ≡ Some slot) → row_in slot sheets ≡ Some (visit_row row)
      → IsSome (named row.source)
      → ((owner : Owner) (front back : List Slot) → Lists Targets owner (front ++ slot ∷ back) sheets
      → next ≡ first_of back) → Tells next (target_behind targets kept id)
  target_told id slot row next some read there told = choose (found id slot row some read).row.source refl
    where
      choose : (s : Option VisitId) → (found id slot row some read).row.source ≡ s
          → Tells next (target_behind targets kept id)
      choose None is =
          let none_named : named row.source ≡ None = (source_cases id slot row some read None is).0 in
          absurd (true≢false (sym there ∙ ap is_some none_named))
      choose (Some source) is = next_target_told id source slot next (found id slot row some read) is told

  pub no_target : (id : VisitId) (slot : Slot) (row : Row) → (some : slot_at visits id.0 ≡ Some slot)
      → row_in slot sheets ≡ Some (visit_row row) → named row.source ≡ None → target_behind targets kept id ≡ None
  no_target id slot row some read none_named = choose (found id slot row some read).row.source refl
    where
      choose : (s : Option VisitId) → (found id slot row some read).row.source ≡ s → target_behind targets kept id ≡ None
      choose None is =
          ap (option_and_then (λ (v : Visit). option_and_then (λ s. id_behind id (targets s)) v.source))
          (found id slot row some read).there
          ∙ ap (option_and_then (λ s. id_behind id (targets s))) is
      choose (Some source) is =
          let never : Some (l.at.visit source) ≡ None =
          sym (source_cases id slot row some read (Some source) is).0 ∙ none_named in
          absurd (cc)

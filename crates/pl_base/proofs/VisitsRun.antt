-- The visits of a page, as the cursor of rows runs through them: the latest first.
use Rattle.std.proofs.Common.{◌≡◌, ◌≢◌, ◌==◌, ◌∙◌, ℕ, Bool, true, false, List, [], ◌∷◌}
use Rattle.std.proofs.Common.{Some, ap, filter, if◌then◌else◌, map, refl, subst, sym}
use Rattle.std.specs.List.{AllByRecursion}
use Rattle.std.specs.Option.{option_and_then, option_map}
use Rattle.std.proofs.lemmas.Bool.{eqb-true}
use Rattle.std.proofs.lemmas.List.Kept.{AllPairs-from_increasing}
use Rattle.std.proofs.lemmas.Option.{same_Some}
use Rattle.pl_base.specs.declared.id.PageId.{PageId}
use Rattle.pl_base.specs.declared.id.VisitId.{VisitId}
use Rattle.pl_base.specs.declared.row.VisitRow.{VisitRow}
use Rattle.pl_base.specs.Rows.{IsWellKept, Kept, first_id, has_visit, id_behind}
use Rattle.pl_base.specs.Rows.{older_visit, page_visits, row_of, store_of, visit_at}
use Rattle.pl_base.specs.Store.{Visit}
use Rattle.pl_base.specs.Visits.{in_place, is_later, latest_first, visits_of}
use Rattle.pl_base.proofs.IdsLaws.{same_page}
use Rattle.pl_base.proofs.ListLaws.{weaker}
use Rattle.pl_base.proofs.LookUps.{found_passes, found_some, part, where_passes}
use Rattle.pl_base.proofs.VisitLists.{each_visit_found, id_behind_is}
use Rattle.pl_base.proofs.VisitsLaws.{Differ, Differ-ascending, Differ-filter, all-in_place, all-latest_first}
use Rattle.pl_base.proofs.Walk.{Names, Runs, StandsAt, holds_here}

abbrev pub visit_names : Names Visit VisitId
visit_names =
    record {
      name = λ (v : Visit). v.id;
      first = first_id;
      of_none = refl;
      of_some = λ v vs. refl;
    }

-- ---- no two visits have the same id

Differ-in_place : (v : Visit) (ws : List Visit) → AllByRecursion (λ (w : Visit). w.id.0 ≢ v.id.0) ws → Differ ws
    → Differ (in_place v ws)
Differ-in_place v [] apart differ = (tt, tt)
Differ-in_place v (w ∷ ws) apart differ = choose (is_later v w) (Differ-in_place v ws apart.1 differ.1)
  where
    choose : (b : Bool) → Differ (in_place v ws) → Differ (if b then v ∷ w ∷ ws else w ∷ in_place v ws)
    choose true rest = (apart, differ)
    choose false rest = (all-in_place (λ (x : Visit). x.id.0 ≢ w.id.0) v ws (λ same. apart.0 (sym same)) differ.0, rest)

Differ-latest_first : (vs : List Visit) → Differ vs → Differ (latest_first vs)
Differ-latest_first [] differ = tt
Differ-latest_first (v ∷ vs) differ =
    Differ-in_place v (latest_first vs) (all-latest_first (λ (w : Visit). w.id.0 ≢ v.id.0) vs differ.0)
    (Differ-latest_first vs differ.1)

pub differ : (kept : Kept) (page : PageId) → IsWellKept kept → Differ (page_visits kept page)
differ kept page h =
    Differ-latest_first (visits_of (store_of kept) page)
    (Differ-filter (λ (v : Visit). v.page.0 == page.0) kept.visits
    (Differ-ascending kept.visits
    (AllPairs-from_increasing (map (λ (v : Visit). v.id.0) kept.visits) h.visit_ids.ascending)))

-- ---- each is found by its id

pub visit_is : (kept : Kept) (id : VisitId) (v : Visit) → visit_at kept id ≡ Some v → v.id ≡ id
visit_is kept id v at =
    ap (λ (n : ℕ). record { 0 = n })
    (eqb-true v.id.0 id.0 (found_passes (λ (w : Visit). w.id.0 == id.0) kept.visits v at))

pub row_is : (kept : Kept) (id : VisitId) (row : VisitRow) (v : Visit) → Some row ≡ option_map row_of (visit_at kept id)
    → visit_at kept id ≡ Some v → row ≡ row_of v
row_is kept id row v is at = same_Some row (row_of v) (is ∙ ap (option_map row_of) at)

-- a visit of the page, which is found by its id
abbrev pub IsVisitOf : Kept → PageId → Visit → Type 0
IsVisitOf kept page v = (visit_at kept v.id ≡ Some v) × ((v.page.0 == page.0) ≡ true)

pub visits_stand : (kept : Kept) (page : PageId) → IsWellKept kept
    → AllByRecursion (IsVisitOf kept page) (page_visits kept page)
visits_stand kept page h =
    all-latest_first (IsVisitOf kept page) (visits_of (store_of kept) page)
    (where_passes (IsVisitOf kept page) (λ (v : Visit). v.page.0 == page.0) kept.visits
    (weaker (λ (v : Visit). visit_at kept v.id ≡ Some v)
    (λ (v : Visit). (v.page.0 == page.0) ≡ true → IsVisitOf kept page v) kept.visits (λ v found of. (found, of))
    (each_visit_found kept h)))

-- ---- the cursor

pub visits_run : (kept : Kept) (page : PageId) → IsWellKept kept
    → Runs visit_names (older_visit kept) (page_visits kept page)
visits_run kept page h front v rest whole =
    let of : IsVisitOf kept page v =
    part (IsVisitOf kept page) front v rest (subst (AllByRecursion (IsVisitOf kept page)) whole (visits_stand kept page h))
    in
    ap (option_and_then (λ (w : Visit). id_behind v.id (page_visits kept w.page))) of.0
    ∙ ap (λ (n : ℕ). id_behind v.id (latest_first (filter (λ (w : Visit). w.page.0 == n) kept.visits)))
    (eqb-true v.page.0 page.0 of.1)
    ∙ ap (id_behind v.id) whole
    ∙ id_behind_is front v rest (subst Differ whole (differ kept page h))

module _ (kept : Kept) (page : PageId) (P : List Visit → Type 0) (id : VisitId) (h : IsWellKept kept)
    (w : StandsAt visit_names (page_visits kept page) P id) where
  -- the visit that a walk stands at is found by its id
  pub visit_here : visit_at kept id ≡ Some w.element
  visit_here =
      ap (visit_at kept) (sym w.is)
      ∙ (holds_here visit_names (page_visits kept page) P (IsVisitOf kept page) id (visits_stand kept page h) w).0

  pub has_visit_here : has_visit kept id ≡ true
  has_visit_here = found_some (λ (v : Visit). v.id.0 == id.0) kept.visits w.element visit_here

  -- it is a visit to the page
  pub visit_page_here : w.element.page ≡ page
  visit_page_here =
      same_page w.element.page page
      (holds_here visit_names (page_visits kept page) P (IsVisitOf kept page) id (visits_stand kept page h) w).1

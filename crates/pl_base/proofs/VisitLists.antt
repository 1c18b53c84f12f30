-- Lists of visits: the latest first, looked up by their ids, and the one behind another.
use Rattle.std.proofs.Common.{◌≡◌, ◌≢◌, ◌∙◌, ◌++◌, ◌||◌, ◌==◌, All, Bool, true, false, List, [], ◌∷◌, Some}
use Rattle.std.proofs.Common.{ap, eq-eqb, if◌then◌else◌, is_some, not, refl, sym}
use Rattle.std.specs.List.{AllByRecursion, list_all, list_any}
use Rattle.std.proofs.lemmas.Bool.{eqb-true, ne_eqb}
use Rattle.std.proofs.lemmas.List.Elements.{All-from_recursion}
use Rattle.pl_base.specs.Rows.{first_id, has_visit, id_behind, IsWellKept, Kept, row_of, visit_at}
use Rattle.pl_base.specs.Store.{Visit}
use Rattle.pl_base.specs.Visits.{in_place, is_later, latest_first}
use Rattle.pl_base.proofs.ListLaws.{list_all-by_any}
use Rattle.pl_base.proofs.LookUps.{apart_increasing, found_self, part, there_told}
use Rattle.pl_base.proofs.VisitsLaws.{Differ}
use Rattle.std.proofs.Math.Bool.{or-false}
use Rattle.pl_base.specs.declared.id.VisitId.{VisitId}
use Rattle.pl_base.specs.Removal.{is_among}
use Rattle.pl_base.proofs.Truths.{same_tests}
use Rattle.std.specs.Option.{option_map}
use Rattle.pl_base.specs.declared.row.VisitRow.{VisitRow}

-- ---- the latest first

pub any-in_place : (p : Visit → Bool) (v : Visit) (ws : List Visit)
    → list_any p (in_place v ws) ≡ (p v || list_any p ws)
any-in_place p v [] = refl
any-in_place p v (w ∷ ws) = choose (is_later v w) (any-in_place p v ws)
  where
    swap : (a b c : Bool) → (a || (b || c)) ≡ (b || (a || c))
    swap true true c = refl
    swap true false c = refl
    swap false true c = refl
    swap false false c = refl

    choose : (b : Bool) → list_any p (in_place v ws) ≡ (p v || list_any p ws)
        → list_any p (if b then v ∷ w ∷ ws else w ∷ in_place v ws) ≡ (p v || (p w || list_any p ws))
    choose true rest = refl
    choose false rest = ap (λ (b : Bool). p w || b) rest ∙ swap (p w) (p v) (list_any p ws)

pub any-latest_first : (p : Visit → Bool) (vs : List Visit) → list_any p (latest_first vs) ≡ list_any p vs
any-latest_first p [] = refl
any-latest_first p (v ∷ vs) =
    any-in_place p v (latest_first vs) ∙ ap (λ (b : Bool). p v || b) (any-latest_first p vs)

pub list_all-latest_first : (p : Visit → Bool) (vs : List Visit) → list_all p (latest_first vs) ≡ list_all p vs
list_all-latest_first p vs =
    list_all-by_any p (latest_first vs) ∙ ap not (any-latest_first (λ v. not (p v)) vs) ∙ sym (list_all-by_any p vs)

pub one_in_place : (v : Visit) (ws : List Visit) → is_some (first_id (in_place v ws)) ≡ true
one_in_place v [] = refl
one_in_place v (w ∷ ws) = choose (is_later v w)
  where
    choose : (b : Bool) → is_some (first_id (if b then v ∷ w ∷ ws else w ∷ in_place v ws)) ≡ true
    choose true = refl
    choose false = refl

-- ---- looked up

-- each visit is found by its id
pub each_visit_found : (kept : Kept) → IsWellKept kept
    → AllByRecursion (λ (v : Visit). visit_at kept v.id ≡ Some v) kept.visits
each_visit_found kept h =
    found_self (λ (v : Visit). v.id.0) kept.visits
    (apart_increasing (λ (v : Visit). v.id.0) kept.visits h.visit_ids.ascending)

pub visits_found : (kept : Kept) → IsWellKept kept → All (λ (v : Visit). visit_at kept v.id ≡ Some v) kept.visits
visits_found kept h =
    All-from_recursion (λ (v : Visit). visit_at kept v.id ≡ Some v) kept.visits (each_visit_found kept h)

-- the one behind a visit that stands there once
pub id_behind_is : (front : List Visit) (v : Visit) (rest : List Visit) → Differ (front ++ v ∷ rest)
    → id_behind v.id (front ++ v ∷ rest) ≡ first_id rest
id_behind_is [] v rest differ = rw (eq-eqb v.id.0 v.id.0 refl) refl
id_behind_is (w ∷ front) v rest differ =
    let apart : w.id.0 ≢ v.id.0 = λ same. part (λ (x : Visit). x.id.0 ≢ w.id.0) front v rest differ.0 (sym same) in
    rw (ne_eqb w.id.0 v.id.0 apart) (id_behind_is front v rest differ.1)

-- ---- ids

-- a visit of which its row is told is there
pub visit_there : (kept : Kept) (visit : VisitId) (row : VisitRow) → Some row ≡ option_map row_of (visit_at kept visit)
    → has_visit kept visit ≡ true
visit_there kept visit row told = there_told (λ (v : Visit). v.id.0 == visit.0) row_of kept.visits row told

-- one id among one
pub among_one : (id other : VisitId) → is_among (id ∷ []) other ≡ (other.0 == id.0)
among_one id other =
    or-false (id.0 == other.0)
    ∙ same_tests (id.0 == other.0) (other.0 == id.0)
    (λ same. eq-eqb other.0 id.0 (sym (eqb-true id.0 other.0 same)))
    (λ same. eq-eqb id.0 other.0 (sym (eqb-true other.0 id.0 same)))

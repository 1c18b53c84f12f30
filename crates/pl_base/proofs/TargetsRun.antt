-- The visits that came from one, as the cursor of rows runs through them: the redirects first.
use Rattle.std.proofs.Common.{◌≡◌, ◌≢◌, ◌+◌, ◌≤◌, ◌++◌, ◌&&◌, ◌==◌, ◌∙◌, ℕ, All, Bool, true}
use Rattle.std.proofs.Common.{false, List, [], ◌∷◌, Option, Some, None, ap, arith, cond, count_by}
use Rattle.std.proofs.Common.{eq-eqb, filter, map, not, refl, subst, sym}
use Rattle.std.specs.List.{AllByRecursion}
use Rattle.std.specs.List.Sorted.{IsPermutation}
use Rattle.std.specs.Option.{option_and_then}
use Rattle.std.proofs.lemmas.Bool.{and_parts, eqb-true, false≢true, ne_eqb}
use Rattle.std.proofs.lemmas.List.Elements.{All-filter, filter_passes, recursion_from_All}
use Rattle.std.proofs.lemmas.List.Kept.{AllPairs-from_increasing}
use Rattle.std.proofs.lemmas.List.Sorted.{All-permutation, IsPermutation-sym, sum_by-IsPermutation}
use Rattle.std.proofs.lemmas.List.Sums.{sum_by-cons}
use Rattle.pl_base.specs.declared.id.VisitId.{VisitId}
use Rattle.pl_base.specs.Redirects.{is_redirect, is_source, others_from, redirects_from}
use Rattle.pl_base.specs.Rows.{AreTargets, IsWellKept, Kept, id_behind, store_of, target_behind}
use Rattle.pl_base.specs.Rows.{visit_at}
use Rattle.pl_base.specs.Store.{Visit}
use Rattle.pl_base.proofs.ListLaws.{weaker}
use Rattle.pl_base.proofs.LookUps.{part}
use Rattle.pl_base.proofs.Truths.{negated}
use Rattle.pl_base.proofs.VisitLists.{id_behind_is, visits_found}
use Rattle.pl_base.proofs.VisitsLaws.{Differ, Differ-ascending, Differ-filter}
use Rattle.pl_base.proofs.VisitsRun.{visit_names}
use Rattle.pl_base.proofs.Walk.{Runs}

-- ---- what holds of each target

-- a visit that is found by its id, came from this one, and was made by a redirect or not
abbrev pub IsTarget : Kept → VisitId → Bool → Visit → Type 0
IsTarget kept source redirect v =
    (visit_at kept v.id ≡ Some v) × (v.source ≡ Some source) × (is_redirect v.transition ≡ redirect)

pub source_is : (id : VisitId) (source : Option VisitId) → is_source id source ≡ true → source ≡ Some id
source_is id None is = absurd (false≢true is)
source_is id (Some s) is = ap (λ (n : ℕ). Some (record { 0 = n })) (eqb-true s.0 id.0 is)

redirects_found : (kept : Kept) (id : VisitId) → IsWellKept kept
    → All (IsTarget kept id true) (redirects_from (store_of kept) id)
redirects_found kept id h k d within =
    let passes : (is_redirect _ ≡ true) × (is_source id _ ≡ true) =
    and_parts _ _ (filter_passes (λ (w : Visit). is_redirect w.transition && is_source id w.source) kept.visits k d
    within) in (
      All-filter (λ (w : Visit). is_redirect w.transition && is_source id w.source)
          (λ (v : Visit). visit_at kept v.id ≡ Some v) kept.visits (visits_found kept h) k d within,
      source_is id _ passes.1,
      passes.0,
    )

others_found : (kept : Kept) (id : VisitId) → IsWellKept kept
    → All (IsTarget kept id false) (others_from (store_of kept) id)
others_found kept id h k d within =
    let passes : (not (is_redirect _) && is_source id _) ≡ true =
    filter_passes (λ (w : Visit). not (is_redirect w.transition) && is_source id w.source) kept.visits k d within in (
      All-filter (λ (w : Visit). not (is_redirect w.transition) && is_source id w.source)
          (λ (v : Visit). visit_at kept v.id ≡ Some v) kept.visits (visits_found kept h) k d within,
      source_is id _ (and_parts _ _ passes).1,
      negated _ _ passes,
    )

-- ---- no two targets have the same id

bit : Bool → ℕ
bit b = cond b 1 0

has_id : ℕ → Visit → Bool
has_id n v = v.id.0 == n

ids_like : ℕ → List Visit → ℕ
ids_like n vs = count_by (has_id n) vs

like_cons : (n : ℕ) (v : Visit) (vs : List Visit) → ids_like n (v ∷ vs) ≡ bit (has_id n v) + ids_like n vs
unfolding ids_like bit
like_cons n v vs = sum_by-cons (λ (w : Visit). cond (has_id n w) 1 0) v vs

bit_true : bit true ≡ 1
unfolding bit
bit_true = refl

bit_false : bit false ≡ 0
unfolding bit
bit_false = refl

no_like : (n : ℕ) (vs : List Visit) → AllByRecursion (λ (w : Visit). w.id.0 ≢ n) vs → ids_like n vs ≡ 0
unfolding ids_like has_id
no_like n [] apart = refl
no_like n (v ∷ vs) apart =
    omega (arith, like_cons n v vs, ap bit (ne_eqb v.id.0 n apart.0), bit_false, no_like n vs apart.1)

none_like : (n : ℕ) (vs : List Visit) → ids_like n vs ≡ 0 → AllByRecursion (λ (w : Visit). w.id.0 ≢ n) vs
unfolding has_id
none_like n [] none = tt
none_like n (v ∷ vs) none = (
  λ same. absurd (omega (arith, like_cons n v vs, ap bit (eq-eqb v.id.0 n same), bit_true, none)),
  none_like n vs (omega (arith, like_cons n v vs, none)),
)

once_from : (vs : List Visit) → Differ vs → (n : ℕ) → ids_like n vs ≤ 1
unfolding ids_like has_id
once_from [] differ n = omega arith
once_from (v ∷ vs) differ n = choose (v.id.0 == n) refl (once_from vs differ.1 n)
  where
    choose : (b : Bool) → (v.id.0 == n) ≡ b → ids_like n vs ≤ 1 → ids_like n (v ∷ vs) ≤ 1
    choose true same rest =
        let at : v.id.0 ≡ n = eqb-true v.id.0 n same in
        let none : ids_like n vs ≡ 0 =
        no_like n vs (weaker (λ (w : Visit). w.id.0 ≢ v.id.0) (λ (w : Visit). w.id.0 ≢ n) vs
        (λ w other is. other (is ∙ sym at)) differ.0) in
        omega (arith, like_cons n v vs, ap bit same, bit_true, none)
    choose false other rest = omega (arith, like_cons n v vs, ap bit other, bit_false, rest)

from_once : (vs : List Visit) → ((n : ℕ) → ids_like n vs ≤ 1) → Differ vs
unfolding has_id
from_once [] once = tt
from_once (v ∷ vs) once = (
  none_like v.id.0 vs
      (omega (arith, like_cons v.id.0 v vs, ap bit (eq-eqb v.id.0 v.id.0 refl), bit_true, once v.id.0)),
  from_once vs (λ n. omega (arith, like_cons n v vs, once n)),
)

like_permuted : (n : ℕ) (vs ws : List Visit) → IsPermutation vs ws → ids_like n ws ≡ ids_like n vs
unfolding ids_like
like_permuted n vs ws same = sum_by-IsPermutation (λ (w : Visit). cond (has_id n w) 1 0) vs ws same

pub differ_all : (kept : Kept) → IsWellKept kept → Differ kept.visits
differ_all kept h =
    Differ-ascending kept.visits
    (AllPairs-from_increasing (map (λ (v : Visit). v.id.0) kept.visits) h.visit_ids.ascending)

differ_part : (kept : Kept) (test : Visit → Bool) (part : List Visit) → IsWellKept kept
    → IsPermutation part (filter test kept.visits) → Differ part
differ_part kept test part h same =
    from_once part (λ n.
    omega (
      arith,
      like_permuted n part (filter test kept.visits) same,
      once_from (filter test kept.visits) (Differ-filter test kept.visits (differ_all kept h)) n,
    ))

pub differ_append : (vs ws : List Visit) → Differ vs → Differ ws
    → AllByRecursion (λ (v : Visit). AllByRecursion (λ (w : Visit). w.id.0 ≢ v.id.0) ws) vs → Differ (vs ++ ws)
differ_append [] ws first second apart = second
differ_append (v ∷ vs) ws first second apart = (
  join vs first.0,
  differ_append vs ws first.1 second apart.1,
)
  where
    join : (us : List Visit) → AllByRecursion (λ (w : Visit). w.id.0 ≢ v.id.0) us
        → AllByRecursion (λ (w : Visit). w.id.0 ≢ v.id.0) (us ++ ws)
    join [] all = apart.0
    join (u ∷ us) all = (all.0, join us all.1)

-- the redirects and the others, with what holds of each
pub record Targets (kept : Kept) (source : VisitId) (targets : List Visit) : Type 0 where
  pub redirects : List Visit
  pub others : List Visit
  pub is : targets ≡ redirects ++ others
  pub all : IsPermutation redirects (redirects_from (store_of kept) source)
  pub made : AllByRecursion (IsTarget kept source true) redirects
  pub rest : AllByRecursion (IsTarget kept source false) others
  pub differ : Differ targets

apart_by : (kept : Kept) (source : VisitId) (v : Visit) (ws : List Visit) → IsTarget kept source true v
    → AllByRecursion (IsTarget kept source false) ws → AllByRecursion (λ (w : Visit). w.id.0 ≢ v.id.0) ws
apart_by kept source v ws t rest =
    weaker (IsTarget kept source false) (λ (w : Visit). w.id.0 ≢ v.id.0) ws
    (λ w o same.
    let ids : w.id ≡ v.id = ap (λ (n : ℕ). record { 0 = n }) same in
    let found : Some w ≡ Some v = sym o.0 ∙ ap (visit_at kept) ids ∙ t.0 in
    let is : w ≡ v = cc in
    false≢true (sym o.2 ∙ ap (λ (x : Visit). is_redirect x.transition) is ∙ t.2)) rest

pub targets_of : (kept : Kept) (source : VisitId) (targets : List Visit) → IsWellKept kept
    → AreTargets (store_of kept) source targets → Targets kept source targets
targets_of kept source targets h t =
    let made : AllByRecursion (IsTarget kept source true) t.redirects =
    recursion_from_All (IsTarget kept source true) t.redirects
    (All-permutation (IsTarget kept source true) (redirects_from (store_of kept) source) t.redirects
    (IsPermutation-sym t.redirects (redirects_from (store_of kept) source) t.all_redirects)
    (redirects_found kept source h)) in
    let rest : AllByRecursion (IsTarget kept source false) t.others =
    recursion_from_All (IsTarget kept source false) t.others
    (All-permutation (IsTarget kept source false) (others_from (store_of kept) source) t.others
    (IsPermutation-sym t.others (others_from (store_of kept) source) t.all_others) (others_found kept source h)) in
    record {
      redirects = t.redirects;
      others = t.others;
      is = t.is;
      all = t.all_redirects;
      made = made;
      rest = rest;
      differ =
          subst Differ (sym t.is)
          (differ_append t.redirects t.others
          (differ_part kept (λ (w : Visit). is_redirect w.transition && is_source source w.source) t.redirects h
          t.all_redirects)
          (differ_part kept (λ (w : Visit). not (is_redirect w.transition) && is_source source w.source) t.others h
          t.all_others)
          (weaker (IsTarget kept source true)
          (λ (v : Visit). AllByRecursion (λ (w : Visit). w.id.0 ≢ v.id.0) t.others) t.redirects
          (λ v target. apart_by kept source v t.others target rest) made));
    }

-- each target is found, and came from the source
abbrev pub IsAny : Kept → VisitId → Visit → Type 0
IsAny kept source v = (visit_at kept v.id ≡ Some v) × (v.source ≡ Some source)

pub all_any : (kept : Kept) (source : VisitId) (targets : List Visit) → Targets kept source targets
    → AllByRecursion (IsAny kept source) targets
all_any kept source targets t =
    subst (AllByRecursion (IsAny kept source)) (sym t.is) (join t.redirects t.made)
  where
    join : (vs : List Visit) → AllByRecursion (IsTarget kept source true) vs
        → AllByRecursion (IsAny kept source) (vs ++ t.others)
    join [] all =
        weaker (IsTarget kept source false) (IsAny kept source) t.others (λ v is. (is.0, is.1)) t.rest
    join (v ∷ vs) all = ((all.0.0, all.0.1), join vs all.1)

-- ---- the cursor

pub targets_run : (kept : Kept) (source : VisitId) (targets : VisitId → List Visit) → IsWellKept kept
    → AreTargets (store_of kept) source (targets source)
    → Runs visit_names (target_behind targets kept) (targets source)
targets_run kept source targets h are front v rest whole =
    let known : Targets kept source (targets source) = targets_of kept source (targets source) h are in
    let any : IsAny kept source v =
    part (IsAny kept source) front v rest
    (subst (AllByRecursion (IsAny kept source)) whole (all_any kept source (targets source) known)) in
    ap (option_and_then (λ (w : Visit). option_and_then (λ s. id_behind v.id (targets s)) w.source)) any.0
    ∙ ap (option_and_then (λ s. id_behind v.id (targets s))) any.1
    ∙ ap (id_behind v.id) whole
    ∙ id_behind_is front v rest (subst Differ whole known.differ)

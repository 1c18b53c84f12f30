-- Whether a visit led to a redirect, by the first of the visits that came from it.
use Rattle.std.proofs.Common.{◌≡◌, ◌≢◌, ◌++◌, ◌&&◌, ◌||◌, ◌∙◌, All, Bool, true, false, List, [], ◌∷◌, Option}
use Rattle.std.proofs.Common.{Some, None, ap, arith, filter, if◌then◌else◌, length, not, refl, sym}
use Rattle.std.specs.List.{list_any}
use Rattle.std.specs.Option.{IsSome, option_map}
use Rattle.std.proofs.lemmas.Bool.{and_parts}
use Rattle.std.proofs.lemmas.List.Elements.{All-filter, All-head, filter_passes}
use Rattle.std.proofs.lemmas.List.Sorted.{All-permutation, IsPermutation-sym, length_permutation}
use Rattle.pl_base.specs.declared.id.VisitId.{VisitId}
use Rattle.pl_base.specs.declared.row.VisitRow.{VisitRow}
use Rattle.pl_base.specs.Redirects.{is_redirect, is_redirect_source, is_source, others_from, redirects_from}
use Rattle.pl_base.specs.Rows.{AreTargets, IsWellKept, Kept, first_id, row_of, store_of, visit_at}
use Rattle.pl_base.specs.Store.{Visit}
use Rattle.pl_base.proofs.Truths.{negated}
use Rattle.pl_base.proofs.VisitLists.{visits_found}

-- ---- lists that are not empty

abbrev has_some : List Visit → Bool
has_some [] = false
has_some (v ∷ vs) = true

any-filter : (test : Visit → Bool) (vs : List Visit) → list_any test vs ≡ has_some (filter test vs)
any-filter test [] = refl
any-filter test (v ∷ vs) = choose (test v) (any-filter test vs)
  where
    choose : (b : Bool) → list_any test vs ≡ has_some (filter test vs)
        → (b || list_any test vs) ≡ has_some (if b then v ∷ filter test vs else filter test vs)
    choose true rest = refl
    choose false rest = rest

some-alike : (vs ws : List Visit) → length vs ≡ length ws → has_some vs ≡ has_some ws
some-alike [] [] same = refl
some-alike [] (w ∷ ws) same = absurd (omega (arith, same))
some-alike (v ∷ vs) [] same = absurd (omega (arith, same))
some-alike (v ∷ vs) (w ∷ ws) same = refl

-- ---- the first target

-- a visit that is found by its id, and whether a redirect made it
abbrev IsFound : Kept → Bool → Visit → Type 0
IsFound kept redirect v = (visit_at kept v.id ≡ Some v) × (is_redirect v.transition ≡ redirect)

redirects_found : (kept : Kept) (id : VisitId) → IsWellKept kept
    → All (IsFound kept true) (redirects_from (store_of kept) id)
redirects_found kept id h k d within = (
  All-filter (λ (w : Visit). is_redirect w.transition && is_source id w.source)
      (λ (v : Visit). visit_at kept v.id ≡ Some v) kept.visits (visits_found kept h) k d within,
  (and_parts _ _ (filter_passes (λ (w : Visit). is_redirect w.transition && is_source id w.source) kept.visits k d
      within)).0,
)

others_found : (kept : Kept) (id : VisitId) → IsWellKept kept
    → All (IsFound kept false) (others_from (store_of kept) id)
others_found kept id h k d within = (
  All-filter (λ (w : Visit). not (is_redirect w.transition) && is_source id w.source)
      (λ (v : Visit). visit_at kept v.id ≡ Some v) kept.visits (visits_found kept h) k d within,
  negated _ _ (filter_passes (λ (w : Visit). not (is_redirect w.transition) && is_source id w.source) kept.visits k d
      within),
)

-- the first target, and that it tells whether there is a redirect
record IsFirst (kept : Kept) (redirects : List Visit) (id : VisitId) : Type 0 where
  pub visit : Visit
  pub at : visit_at kept id ≡ Some visit
  pub tells : is_redirect visit.transition ≡ has_some redirects

first_of : (kept : Kept) (redirects others : List Visit) (first : VisitId) → All (IsFound kept true) redirects
    → All (IsFound kept false) others → Some first ≡ first_id (redirects ++ others) → IsFirst kept redirects first
first_of kept [] [] first made rest is = absurd (cc)
first_of kept [] (v ∷ others) first made rest is =
    let same : first ≡ v.id = cc in
    let here : IsFound kept false v = All-head (IsFound kept false) v others rest in
    record { visit = v; at = ap (visit_at kept) same ∙ here.0; tells = here.1 }
first_of kept (v ∷ redirects) others first made rest is =
    let same : first ≡ v.id = cc in
    let here : IsFound kept true v = All-head (IsFound kept true) v redirects made in
    record { visit = v; at = ap (visit_at kept) same ∙ here.0; tells = here.1 }

first_target : (kept : Kept) (id first : VisitId) (targets : List Visit) → IsWellKept kept
    → (t : AreTargets (store_of kept) id targets) → Some first ≡ first_id targets → IsFirst kept t.redirects first
first_target kept id first targets h t is =
    first_of kept t.redirects t.others first
    (All-permutation (IsFound kept true) (redirects_from (store_of kept) id) t.redirects
    (IsPermutation-sym t.redirects (redirects_from (store_of kept) id) t.all_redirects) (redirects_found kept id h))
    (All-permutation (IsFound kept false) (others_from (store_of kept) id) t.others
    (IsPermutation-sym t.others (others_from (store_of kept) id) t.all_others) (others_found kept id h))
    (is ∙ ap first_id t.is)

by_redirects : (kept : Kept) (id : VisitId) (targets : List Visit) (v : Visit)
    → (t : AreTargets (store_of kept) id targets) → v.id ≡ id
    → is_redirect_source (store_of kept) v ≡ has_some t.redirects
by_redirects kept id targets v t same =
    any-filter (λ (w : Visit). is_redirect w.transition && is_source v.id w.source) kept.visits
    ∙ ap (λ (i : VisitId). has_some (redirects_from (store_of kept) i)) same
    ∙ some-alike (redirects_from (store_of kept) id) t.redirects
    (length_permutation t.redirects (redirects_from (store_of kept) id) t.all_redirects)

-- ---- what the code asks

pub target_stands : (kept : Kept) (id first : VisitId) (targets : List Visit) (row : Option VisitRow) → IsWellKept kept
    → AreTargets (store_of kept) id targets → Some first ≡ first_id targets
    → row ≡ option_map row_of (visit_at kept first) → IsSome row
target_stands kept id first targets row h t is found =
    rw (found, (first_target kept id first targets h t is).at) refl

pub source_by_first : (kept : Kept) (id first : VisitId) (targets : List Visit) (row : VisitRow) (v : Visit)
    → IsWellKept kept → AreTargets (store_of kept) id targets → Some first ≡ first_id targets
    → Some row ≡ option_map row_of (visit_at kept first) → v.id ≡ id
    → is_redirect row.transition ≡ is_redirect_source (store_of kept) v
source_by_first kept id first targets row v h t is found same =
    let f : IsFirst kept t.redirects first = first_target kept id first targets h t is in
    let at : Some row ≡ Some (row_of f.visit) = found ∙ ap (option_map row_of) f.at in
    let rows : row ≡ row_of f.visit = cc in
    ap (λ (r : VisitRow). is_redirect r.transition) rows ∙ f.tells ∙ sym (by_redirects kept id targets v t same)

none-append : (vs ws : List Visit) → None ≡ first_id (vs ++ ws) → has_some vs ≡ false
none-append [] ws none = refl
none-append (v ∷ vs) ws none = absurd (cc)

pub no_source : (kept : Kept) (id : VisitId) (targets : List Visit) (first : Option VisitId) (v : Visit)
    → AreTargets (store_of kept) id targets → first ≡ first_id targets → ((i : VisitId) → first ≢ Some i)
    → v.id ≡ id → false ≡ is_redirect_source (store_of kept) v
no_source kept id targets None v t is none same =
    sym (by_redirects kept id targets v t same ∙ none-append t.redirects t.others (is ∙ ap first_id t.is))
no_source kept id targets (Some i) v t is none same = absurd (none i refl)

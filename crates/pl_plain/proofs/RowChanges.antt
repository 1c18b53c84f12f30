-- Pages of which one is changed.
use Rattle.std.proofs.Common.{◌≡◌, ◌≢◌, ◌<◌, ◌≤◌, ◌++◌, ◌==◌, ◌∙◌, ℕ, Bool, true, false, List}
use Rattle.std.proofs.Common.{[], ◌∷◌, Some, None, ap, arith, drop, get_or, if◌then◌else◌}
use Rattle.std.proofs.Common.{inl, inr, length, map, refl, set, suc, sym, take, zero}
use Rattle.std.specs.List.{All, position, position_or_len}
use Rattle.std.specs.List.Sorted.{IsStrictlyIncreasing}
use Rattle.std.proofs.lemmas.Bool.{cases_lt, eqb-true, ne_eqb}
use Rattle.std.proofs.lemmas.Grind.{common_steps}
use Rattle.std.proofs.lemmas.List.{append-nil, drop_all, get_or_default, take_all}
use Rattle.std.proofs.lemmas.List.Elements.{All-head, All-tail}
use Rattle.std.proofs.lemmas.List.Quantifiers.{position-Some}
use Rattle.std.proofs.lemmas.List.Sums.{fails_before_first}
use Rattle.pl_base.specs.declared.id.PageId.{PageId}
use Rattle.pl_base.specs.Rows.{KeptPage}
use Rattle.pl_plain.specs.declared.flat.row.FlatPage.{FlatPage}
use Rattle.pl_plain.specs.FlatRows.{flat_page_ids, page_of, row_with}
use Rattle.pl_base.proofs.Searches.{rises}

-- how a page is changed
abbrev Change : Type 0
Change = FlatPage → FlatPage

unchanged : (id : PageId) (change : Change) (xs : List FlatPage) → All (λ (x : FlatPage). (x.id.0 == id.0) ≡ false) xs
    → map (row_with id change) xs ≡ xs
unchanged id change [] others = refl
unchanged id change (x ∷ xs) others =
    rw (
      All-head (λ (y : FlatPage). (y.id.0 == id.0) ≡ false) x xs others,
      unchanged id change xs (All-tail (λ (y : FlatPage). (y.id.0 == id.0) ≡ false) x xs others),
    ) refl

pub changed_nowhere : (id : PageId) (change : Change) (xs : List FlatPage)
    → position (λ (x : FlatPage). x.id.0 == id.0) xs ≡ None → xs ≡ map (row_with id change) xs
changed_nowhere id change xs none =
    let past : length xs ≤ position_or_len (λ (x : FlatPage). x.id.0 == id.0) xs = grind (arith, common_steps) in
    sym (unchanged id change xs
    (λ k d within. fails_before_first (λ (x : FlatPage). x.id.0 == id.0) xs k d (omega arith)))

changed_one : (id : PageId) (change : Change) (xs : List FlatPage) (i : ℕ) (d : FlatPage) → i < length xs
    → ((j : ℕ) → j < length xs → j ≢ i → ((get_or xs j d).id.0 == id.0) ≡ false)
    → map (row_with id change) xs ≡ set xs i (row_with id change (get_or xs i d))
changed_one id change [] i d within others = absurd (omega arith)
changed_one id change (x ∷ xs) zero d within others =
    ap (λ ys. row_with id change x ∷ ys)
    (unchanged id change xs (λ k e inside. ap (λ (y : FlatPage). y.id.0 == id.0) (get_or_default xs k e d inside)
    ∙ others (suc k) (omega arith) (omega arith)))
changed_one id change (x ∷ xs) (suc i) d within others =
    rw (others zero (omega arith) (omega arith))
    (ap (λ ys. x ∷ ys) (changed_one id change xs i d (omega arith)
    (λ j inside apart. others (suc j) (omega arith) (omega arith))))

pub changed_there : (id : PageId) (change : Change) (xs : List FlatPage) (i : ℕ) (page new : FlatPage)
    → IsStrictlyIncreasing (flat_page_ids xs) → position (λ (x : FlatPage). x.id.0 == id.0) xs ≡ Some i
    → new ≡ change (get_or xs i page) → set xs i new ≡ map (row_with id change) xs
changed_there id change xs i page new ascending found is =
    let at = position-Some (λ (x : FlatPage). x.id.0 == id.0) xs i page found in
    let number : (get_or xs i page).id.0 ≡ id.0 = eqb-true (get_or xs i page).id.0 id.0 at.1 in
    let others : (j : ℕ) → j < length xs → j ≢ i → ((get_or xs j page).id.0 == id.0) ≡ false =
    λ j within apart.
    ne_eqb (get_or xs j page).id.0 id.0
    (λ same.
    elim (cases_lt j i) [
      | inl before ↦ omega (arith, rises (λ (x : FlatPage). x.id.0) xs ascending j i page before at.0)
      | inr behind ↦
          let past : i < j = omega arith in
          omega (arith, rises (λ (x : FlatPage). x.id.0) xs ascending i j page past within)
    ]) in
    let new_is : row_with id change (get_or xs i page) ≡ new = rw at.1 (sym is) in
    ap (set xs i) (sym new_is) ∙ sym (changed_one id change xs i page at.0 others)

-- the changed rows seen as what is kept
pub kept_changed : (id : PageId) (change : Change) (kept_change : KeptPage → KeptPage)
    → ((x : FlatPage) → page_of (change x) ≡ kept_change (page_of x)) → (xs : List FlatPage)
    → map page_of (map (row_with id change) xs)
    ≡ map (λ (p : KeptPage). if p.page.id.0 == id.0 then kept_change p else p) (map page_of xs)
kept_changed id change kept_change same [] = refl
kept_changed id change kept_change same (x ∷ xs) =
    rw (either (x.id.0 == id.0), kept_changed id change kept_change same xs)
  where
    either : (b : Bool)
        → page_of (if b then change x else x) ≡ (if b then kept_change (page_of x) else page_of x)
    either true = same x
    either false = refl

-- a vector whose elements were all written
pub all_written : {X : Type 0} (len : ℕ) (xs ys new : List X) → new ≡ ys → length ys ≡ length xs → length xs ≤ len
    → take len (new ++ drop (length new) xs) ≡ ys
all_written len xs ys new is whole fits =
    rw (is, whole, drop_all (length xs) xs (omega arith), append-nil ys) (take_all len ys (omega arith))

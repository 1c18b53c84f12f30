-- A view that comes at its place among views in order, or in place of that of its page.
use Rattle.std.proofs.Common.{◌≡◌, ◌+◌, ◌<◌, ◌≤◌, ◌∙◌, ℕ, Bool, true, false, List, [], ◌∷◌, ap, arith}
use Rattle.std.proofs.Common.{eq-eqb, get_or, if◌then◌else◌, length, map, nat_lt, not, refl, set, subst, suc, sym, zero}
use Rattle.std.specs.List.{AllByRecursion, AllPairs, insert}
use Rattle.std.specs.List.Sorted.{IsNonDecreasingBy, IsPartitionPoint, IsStrictlyIncreasing}
use Rattle.std.specs.Ordering.{nat_cmp, ordering_index}
use Rattle.std.specs.declared.cmp.Ordering.TheVariants.{Greater, Less}
use Rattle.std.proofs.lemmas.Bool.{ne_eqb}
use Rattle.std.proofs.lemmas.Bool.Decides.{nat_tests}
use Rattle.std.proofs.lemmas.Cmp.{ranked}
use Rattle.std.proofs.lemmas.List.Elements.{All-from_recursion, recursion_from_All}
use Rattle.pl_base.specs.declared.view.View.{View}
use Rattle.pl_base.proofs.ListLaws.{AllPairs-map}
use Rattle.pl_base.proofs.Searches.{never_falls}
use Rattle.pl_follow.specs.Changes.{AreInOrder, with_view, without_id}
use Rattle.pl_follow.proofs.Parted.{Ascend, all_above}

-- numbers of which each is less than all behind it
pub increasing : {X : Type 0} (n : X → ℕ) (xs : List X) → AllPairs (λ x y. n x < n y) xs
    → IsStrictlyIncreasing (map n xs)
increasing n xs pairs k within = AllPairs-map (λ a b. a < b) n xs pairs k (k + 1) 0 (omega arith) within

module _ (new : View) where
  -- in place of that of its page
  abbrev put_in : List View → List View
  put_in views = with_view new (without_id new.id views)

  -- in front of views with greater ids
  pub put_first : (views : List View) → AllByRecursion (λ (w : View). new.id.0 < w.id.0) views
      → put_in views ≡ new ∷ views
  put_first views above = ap (with_view new) (all_above new.id views above) ∙ first views above
    where
      first : (vs : List View) → AllByRecursion (λ (w : View). new.id.0 < w.id.0) vs → with_view new vs ≡ new ∷ vs
      first [] above = refl
      first (v ∷ vs) above = choose (nat_lt new.id.0 v.id.0) refl
        where
          choose : (b : Bool) → nat_lt new.id.0 v.id.0 ≡ b
              → (if b then new ∷ v ∷ vs else v ∷ with_view new vs) ≡ new ∷ v ∷ vs
          choose true is = refl
          choose false is = absurd (grind (arith, nat_tests, above.0))

  -- behind a view with a smaller id
  put_behind : (v : View) (vs : List View) → v.id.0 < new.id.0 → put_in (v ∷ vs) ≡ v ∷ put_in vs
  put_behind v vs below =
      ap (λ (b : Bool). with_view new (if not b then v ∷ without_id new.id vs else without_id new.id vs))
      (ne_eqb v.id.0 new.id.0 (λ same. absurd (omega (arith, below, same)))) ∙ choose (nat_lt new.id.0 v.id.0) refl
    where
      choose : (b : Bool) → nat_lt new.id.0 v.id.0 ≡ b
          → (if b then new ∷ v ∷ without_id new.id vs else v ∷ put_in vs) ≡ v ∷ put_in vs
      choose true is = absurd (grind (arith, nat_tests, below))
      choose false is = refl

  -- its page has a view at the place
  pub put_over : (views : List View) (place : ℕ) → Ascend views → place < length views
      → ((d : View) → (get_or views place d).id.0 ≡ new.id.0) → put_in views ≡ set views place new
  put_over [] place up within here = absurd (omega (arith, within))
  put_over (v ∷ vs) zero up within here =
      let same : v.id.0 ≡ new.id.0 = here v in
      ap (λ (b : Bool). with_view new (if not b then v ∷ without_id new.id vs else without_id new.id vs))
      (eq-eqb v.id.0 new.id.0 same)
      ∙ put_first vs (subst (λ n. AllByRecursion (λ (w : View). n < w.id.0) vs) same up.0)
  put_over (v ∷ vs) (suc k) up within here =
      let later : v.id.0 < (get_or vs k v).id.0 =
      All-from_recursion (λ (w : View). v.id.0 < w.id.0) vs up.0 k v (omega (arith, within)) in
      put_behind v vs (omega (arith, later, here v))
      ∙ ap (λ (ws : List View). v ∷ ws) (put_over vs k up.1 (omega (arith, within)) here)

  -- its page has none, and the place is between lesser and greater ids
  pub put_between : (views : List View) (place : ℕ) → place ≤ length views
      → IsPartitionPoint (λ (w : View). w.id.0 < new.id.0) (λ (w : View). new.id.0 < w.id.0) views place
      → put_in views ≡ insert views place new
  put_between views zero within parts =
      put_first views (recursion_from_All (λ (w : View). new.id.0 < w.id.0) views
      (λ k d inside. parts.1 k d (omega arith) inside))
  put_between [] (suc k) within parts = absurd (omega (arith, within))
  put_between (v ∷ vs) (suc k) within parts =
      put_behind v vs (parts.0 0 v (omega arith) (omega arith))
      ∙ ap (λ (ws : List View). v ∷ ws) (put_between vs k (omega (arith, within)) (
        λ j d low high. parts.0 (suc j) d (omega arith) (omega (arith, high)),
        λ j d low high. parts.1 (suc j) d (omega (arith, low)) (omega (arith, high)),
      ))

-- where a search by halves ends in vain, lesser ids stand in front of the place, and greater ones
-- behind it
pub between_ids : (views : List View) (id place : ℕ)
    → IsPartitionPoint (λ (w : View). nat_cmp w.id.0 id ≡ Less) (λ (w : View). nat_cmp w.id.0 id ≡ Greater) views place
    → IsPartitionPoint (λ (w : View). w.id.0 < id) (λ (w : View). id < w.id.0) views place
between_ids views id place parts = (
  λ k d low high. ranked (get_or views k d).id.0 id Less (sym (parts.0 k d low high)),
  λ k d low high. ranked (get_or views k d).id.0 id Greater (sym (parts.1 k d low high)),
)

-- the answers of such a search rise
pub ids_rise : (id : ℕ) (views : List View) → AreInOrder views
    → IsNonDecreasingBy (λ (w : View). ordering_index (nat_cmp w.id.0 id)) views
ids_rise id views ordered i j d before within =
    higher (get_or views i d).id.0 (get_or views j d).id.0
    (never_falls (λ (w : View). w.id.0) views (increasing (λ (w : View). w.id.0) views ordered) i j d before within)
  where
    higher : (a b : ℕ) → a ≤ b → ordering_index (nat_cmp a id) ≤ ordering_index (nat_cmp b id)
    higher a b le = grind (arith, nat_tests)

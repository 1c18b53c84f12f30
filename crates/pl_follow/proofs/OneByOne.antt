-- Views that come one after another, in the order of their ids.
use Rattle.std.proofs.Common.{◌≡◌, ◌≢◌, ◌+◌, ◌<◌, ◌++◌, ◌==◌, ◌∙◌, ℕ, Bool, true, false, List, [], ◌∷◌}
use Rattle.std.proofs.Common.{None, Some, ap, arith, get_or, if◌then◌else◌, length, nat_eq, nat_lt, refl, subst, suc}
use Rattle.std.proofs.Common.{sym, take}
use Rattle.std.specs.List.{AllByRecursion, AllPairs, starts_with}
use Rattle.std.proofs.Math.Seq.{take-suc}
use Rattle.std.proofs.lemmas.Bool.{ne_eqb}
use Rattle.std.proofs.lemmas.Bool.Decides.{nat_tests}
use Rattle.std.proofs.lemmas.List.{get_or-take, get_or_default, length-take}
use Rattle.std.proofs.lemmas.List.Elements.{All-from_recursion, All-take, recursion_from_All}
use Rattle.std.proofs.lemmas.List.Folds.{list_any_none}
use Rattle.std.proofs.lemmas.List.Sums.{sum_by-take-le}
use Rattle.pl_base.specs.declared.view.View.{View}
use Rattle.pl_base.specs.Totals.{share}
use Rattle.pl_base.proofs.ListLaws.{weaker}
use Rattle.pl_follow.specs.Changes.{AreInOrder, FitStore, Suits, changed, with_view}

-- ---- the first of views

pairs-take : (R : View → View → Type 0) (n : ℕ) (views : List View) → AllPairs R views → AllPairs R (take n views)
pairs-take R n views each = λ i j d below within.
    let inside : (j < n) × (j < length views) =
    (omega (arith, within, length-take n views), omega (arith, within, length-take n views)) in
    rw (get_or-take n views i d (omega (arith, below, inside.0)), get_or-take n views j d inside.0)
    (each i j d below inside.1)

pub first_in_order : (n : ℕ) (views : List View) → AreInOrder views → AreInOrder (take n views)
first_in_order n views ordered = pairs-take (λ (v w : View). v.id.0 < w.id.0) n views ordered

pub first_fit : (n : ℕ) (views : List View) → FitStore views → FitStore (take n views)
first_fit n views are =
    record {
      urls = pairs-take (λ (v w : View). v.url ≢ w.url) n views are.urls;
      prefixes = All-take (λ (v : View). starts_with nat_eq v.url v.prefix ≡ true) n views are.prefixes;
      few = omega (arith, are.few, length-take n views);
      sum = omega (arith, are.sum, sum_by-take-le (λ (v : View). share v.frecency) views n);
    }

-- ---- one more behind them

-- it comes behind all that have smaller ids
behind_all : (front : List View) (view : View) → AllByRecursion (λ (w : View). w.id.0 < view.id.0) front
    → with_view view front ≡ front ++ view ∷ []
behind_all [] view below = refl
behind_all (v ∷ front) view below =
    choose (nat_lt view.id.0 v.id.0) refl below.0 (behind_all front view below.1)
  where
    choose : (b : Bool) → nat_lt view.id.0 v.id.0 ≡ b → v.id.0 < view.id.0
        → with_view view front ≡ front ++ view ∷ []
        → (if b then view ∷ v ∷ front else v ∷ with_view view front) ≡ v ∷ (front ++ view ∷ [])
    choose true ahead before rest = absurd (grind (arith, nat_tests))
    choose false behind before rest = ap (λ (vs : List View). v ∷ vs) rest

-- the next of the views, and those in front of it
module _ (views : List View) (i : ℕ) (view : View) (ordered : AreInOrder views) (within : i < length views)
    (next : get_or views i view ≡ view) where
  below : AllByRecursion (λ (w : View). w.id.0 < view.id.0) (take i views)
  below =
      recursion_from_All (λ (w : View). w.id.0 < view.id.0) (take i views) (λ k d inside.
      let near : k < i = omega (arith, inside, length-take i views) in
      subst (λ (w : View). w.id.0 < view.id.0) (sym (get_or-take i views k d near))
      (subst (λ (w : View). (get_or views k d).id.0 < w.id.0) (there d) (ordered k i d near within)))
    where
      there : (d : View) → get_or views i d ≡ view
      there d = get_or_default views i d view within ∙ next

  pub next_taken : changed None (Some view) (take i views) ≡ take (i + 1) views
  next_taken =
      let more : take (i + 1) views ≡ take i views ++ view ∷ [] =
      ap (λ n. take n views) (plus_one i) ∙ take-suc views i view within
      ∙ ap (λ (w : View). take i views ++ w ∷ []) next in
      behind_all (take i views) view below ∙ sym more
    where
      plus_one : (n : ℕ) → n + 1 ≡ suc n
      plus_one n = omega arith

  pub next_suits : FitStore views → Suits None (Some view) (take i views)
  next_suits are =
      record {
        some = refl;
        goes = tt;
        comes =
            list_any_none (λ (w : View). w.id.0 == view.id.0) (take i views)
            (All-from_recursion (λ (w : View). (w.id.0 == view.id.0) ≡ false) (take i views)
            (weaker (λ (w : View). w.id.0 < view.id.0) (λ (w : View). (w.id.0 == view.id.0) ≡ false) (take i views)
            (λ w smaller. ne_eqb w.id.0 view.id.0 (λ same. absurd (omega (arith, smaller, same)))) below));
        becomes = subst FitStore (sym next_taken) (first_fit (i + 1) views are);
      }

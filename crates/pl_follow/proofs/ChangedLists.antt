-- What holds of a list of views that a change makes, and of the list on the way to it.
use Rattle.std.proofs.Common.{◌≡◌, ◌≢◌, ◌<◌, ◌++◌, ◌==◌, ◌||◌, Bool, true, false, List, [], ◌∷◌, All, Option, Some}
use Rattle.std.proofs.Common.{None, arith, if◌then◌else◌, nat_eq, nat_lt, refl, subst, suc, sym}
use Rattle.std.specs.List.{AllByRecursion, AllPairs, starts_with}
use Rattle.std.proofs.lemmas.Bool.Decides.{nat_tests}
use Rattle.std.proofs.lemmas.Bool.{eqb-false}
use Rattle.std.proofs.lemmas.List.Elements.{All-from_recursion, recursion_from_All}
use Rattle.std.proofs.lemmas.List.Kept.{AllPairs-cons}
use Rattle.pl_base.specs.declared.view.View.{View}
use Rattle.pl_base.specs.Totals.{share}
use Rattle.pl_base.proofs.ListLaws.{weaker}
use Rattle.pl_follow.specs.Changes.{AreInOrder, FitStore, Suits, changed, has_view, removed, with_view, without_id}
use Rattle.pl_follow.proofs.Parted.{Ascend, Parted, added_parted, ascend, in_order, parted_length}
use Rattle.pl_follow.proofs.Parted.{parted_sum, removed_in_order, removed_parted}

-- ---- the order of ids

-- what holds of a view and of others holds of all with it among them
pub all_with : (P : View → Type 0) (view : View) (views : List View) → P view → AllByRecursion P views
    → AllByRecursion P (with_view view views)
all_with P view [] one all = (one, tt)
all_with P view (v ∷ vs) one all = choose (nat_lt view.id.0 v.id.0) (all_with P view vs one all.1)
  where
    choose : (b : Bool) → AllByRecursion P (with_view view vs)
        → AllByRecursion P (if b then view ∷ v ∷ vs else v ∷ with_view view vs)
    choose true rest = (one, all)
    choose false rest = (all.0, rest)

added_ascends : (view : View) (views : List View) → Ascend views → has_view view.id views ≡ false
    → Ascend (with_view view views)
added_ascends view [] a none = (tt, tt)
added_ascends view (v ∷ vs) a none =
    choose (nat_lt view.id.0 v.id.0) refl apart (added_ascends view vs a.1 (others (v.id.0 == view.id.0) none))
  where
    others : (b : Bool) → (b || has_view view.id vs) ≡ false → has_view view.id vs ≡ false
    others true none = absurd (cc)
    others false none = none

    here : (b : Bool) → (b || has_view view.id vs) ≡ false → b ≡ false
    here true none = absurd (cc)
    here false none = refl

    apart : v.id.0 ≢ view.id.0
    apart = eqb-false v.id.0 view.id.0 (here (v.id.0 == view.id.0) none)

    choose : (b : Bool) → nat_lt view.id.0 v.id.0 ≡ b → v.id.0 ≢ view.id.0 → Ascend (with_view view vs)
        → Ascend (if b then view ∷ v ∷ vs else v ∷ with_view view vs)
    choose true below differ rest =
        let first : view.id.0 < v.id.0 = grind (arith, nat_tests) in (
          (
            first,
            weaker (λ (w : View). v.id.0 < w.id.0) (λ (w : View). view.id.0 < w.id.0) vs
                (λ w later. omega (arith, first, later)) a.0,
          ),
          a,
        )
    choose false above differ rest =
        let first : v.id.0 < view.id.0 = grind (arith, nat_tests) in
        (all_with (λ (w : View). v.id.0 < w.id.0) view vs first a.0, rest)

pub added_in_order : (view : View) (views : List View) → AreInOrder views → has_view view.id views ≡ false
    → AreInOrder (with_view view views)
added_in_order view views ordered none =
    in_order (with_view view views) (added_ascends view views (ascend views ordered) none)

pub changed_in_order : (old new : Option View) (views : List View) → AreInOrder views → Suits old new views
    → AreInOrder (changed old new views)
changed_in_order None None views ordered suits = ordered
changed_in_order (Some old) None views ordered suits = removed_in_order old.id views ordered
changed_in_order None (Some new) views ordered suits = added_in_order new views ordered suits.comes
changed_in_order (Some old) (Some new) views ordered suits =
    added_in_order new (without_id old.id views) (removed_in_order old.id views ordered) suits.comes

-- the old view stands among those that stay
pub old_parted : (old : View) (new : Option View) (views : List View) → AreInOrder views → Suits (Some old) new views
    → Parted views old (without_id old.id views)
old_parted old new views ordered suits = removed_parted old views (ascend views ordered) suits.goes

-- ---- what holds of all, and of each two

-- one fewer
pub all_but : (P : View → Type 0) (front : List View) (view : View) (back : List View)
    → AllByRecursion P (front ++ view ∷ back) → AllByRecursion P (front ++ back)
all_but P [] view back all = all.1
all_but P (v ∷ front) view back all = (all.0, all_but P front view back all.1)

pub parted_all : (P : View → Type 0) (views others : List View) (view : View) → Parted views view others
    → All P views → All P others
parted_all P views others view p all =
    subst (All P) (sym p.rest) (All-from_recursion P (p.front ++ p.back)
    (all_but P p.front view p.back (recursion_from_All P (p.front ++ view ∷ p.back) (subst (All P) p.whole all))))

-- the one is as the others are
pub parted_one : (P : View → Type 0) (views others : List View) (view : View) → Parted views view others
    → All P views → P view
parted_one P views others view p all =
    among p.front (recursion_from_All P (p.front ++ view ∷ p.back) (subst (All P) p.whole all))
  where
    among : (front : List View) → AllByRecursion P (front ++ view ∷ p.back) → P view
    among [] each = each.0
    among (v ∷ front) each = among front each.1

abbrev pub Pairs : (View → View → Type 0) → List View → Type 0
Pairs R [] = Unit {0}
Pairs R (v ∷ vs) = AllByRecursion (R v) vs × Pairs R vs

pub pairs : (R : View → View → Type 0) (views : List View) → AllPairs R views → Pairs R views
pairs R [] each = tt
pairs R (v ∷ vs) each = (
  recursion_from_All (R v) vs (λ k d within. each 0 (suc k) d (omega arith) (omega (arith, within))),
  pairs R vs (λ i j d below within. each (suc i) (suc j) d (omega (arith, below)) (omega (arith, within))),
)

pub all_pairs : (R : View → View → Type 0) (views : List View) → Pairs R views → AllPairs R views
all_pairs R [] each = λ i j d below within. absurd (omega (arith, within))
all_pairs R (v ∷ vs) each =
    AllPairs-cons R v vs (All-from_recursion (R v) vs each.0) (all_pairs R vs each.1)

pairs_but : (R : View → View → Type 0) (front : List View) (view : View) (back : List View)
    → Pairs R (front ++ view ∷ back) → Pairs R (front ++ back)
pairs_but R [] view back each = each.1
pairs_but R (v ∷ front) view back each = (all_but (R v) front view back each.0, pairs_but R front view back each.1)

pub parted_pairs : (R : View → View → Type 0) (views others : List View) (view : View) → Parted views view others
    → AllPairs R views → AllPairs R others
parted_pairs R views others view p each =
    subst (AllPairs R) (sym p.rest) (all_pairs R (p.front ++ p.back)
    (pairs_but R p.front view p.back (pairs R (p.front ++ view ∷ p.back) (subst (AllPairs R) p.whole each))))

-- the URL of the one is that of no other
pub parted_url : (views others : List View) (view : View) → Parted views view others
    → AllPairs (λ (v w : View). v.url ≢ w.url) views → All (λ (w : View). w.url ≢ view.url) others
parted_url views others view p each =
    subst (All (λ (w : View). w.url ≢ view.url)) (sym p.rest)
    (All-from_recursion (λ (w : View). w.url ≢ view.url) (p.front ++ p.back) (among p.front
    (pairs (λ (v w : View). v.url ≢ w.url) (p.front ++ view ∷ p.back)
    (subst (AllPairs (λ (v w : View). v.url ≢ w.url)) p.whole each))))
  where
    with_it : (v : View) (front : List View)
        → AllByRecursion (λ (w : View). v.url ≢ w.url) (front ++ view ∷ p.back) → v.url ≢ view.url
    with_it v [] each = each.0
    with_it v (w ∷ front) each = with_it v front each.1

    among : (front : List View) → Pairs (λ (v w : View). v.url ≢ w.url) (front ++ view ∷ p.back)
        → AllByRecursion (λ (w : View). w.url ≢ view.url) (front ++ p.back)
    among [] each =
        weaker (λ (w : View). view.url ≢ w.url) (λ (w : View). w.url ≢ view.url) p.back
        (λ w differ same. differ (sym same)) each.0
    among (v ∷ front) each = (with_it v front each.0, among front each.1)

-- ---- the others are views too

pub others_fit : (views others : List View) (view : View) → Parted views view others → FitStore views
    → FitStore others
others_fit views others view p are =
    record {
      urls = parted_pairs (λ (v w : View). v.url ≢ w.url) views others view p are.urls;
      prefixes = parted_all (λ (v : View). starts_with nat_eq v.url v.prefix ≡ true) views others view p are.prefixes;
      few = omega (arith, are.few, parted_length views others view p);
      sum = omega (arith, are.sum, parted_sum (λ (v : View). share v.frecency) views others view p);
    }

-- what stays where a view goes is a list of views
pub rest_fits : (old new : Option View) (views : List View) → Suits old new views → FitStore (removed old views)
rest_fits old None views suits = suits.becomes
rest_fits old (Some new) views suits =
    others_fit (with_view new (removed old views)) (removed old views) new
    (added_parted new (removed old views)) suits.becomes

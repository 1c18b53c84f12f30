-- A list of views, one of them, and the others: where one comes in or goes, the rest stay as they are.
use Rattle.std.proofs.Common.{◌≡◌, ◌∙◌, ◌+◌, ◌<◌, ◌++◌, ◌==◌, ◌||◌, ℕ, Bool, true, false, List, [], ◌∷◌}
use Rattle.std.proofs.Common.{ap, arith, eq-eqb, get_or, if◌then◌else◌, length, nat_lt, not, refl, subst, suc, sym}
use Rattle.std.proofs.Common.{zero}
use Rattle.std.specs.List.{AllByRecursion, Contains, list_any, sum_by}
use Rattle.std.proofs.lemmas.Bool.{ne_eqb}
use Rattle.std.proofs.lemmas.List.{length-append}
use Rattle.std.proofs.lemmas.List.Elements.{All-from_recursion, recursion_from_All}
use Rattle.std.proofs.lemmas.List.Folds.{list_any-append}
use Rattle.std.proofs.lemmas.List.Kept.{AllPairs-cons, AllPairs-filter}
use Rattle.std.proofs.lemmas.List.Sums.{sum_by-append, sum_by-cons}
use Rattle.pl_base.specs.declared.id.PageId.{PageId}
use Rattle.pl_base.specs.declared.view.View.{View}
use Rattle.pl_base.proofs.ListLaws.{all_stay, weaker}
use Rattle.pl_follow.specs.Changes.{AreInOrder, with_view, without_id}

-- what holds of all holds of the one at a place
all_at : {X : Type 0} (P : X → Type 0) (xs : List X) → AllByRecursion P xs → (k : ℕ) (x : X) → k < length xs
    → get_or xs k x ≡ x → P x
all_at {X} P xs all k x within is = subst P is (All-from_recursion P xs all k x within)

-- a view stands among others
pub record Parted (views : List View) (view : View) (others : List View) : Type 0 where
  pub front : List View
  pub back : List View
  pub whole : views ≡ front ++ view ∷ back
  pub rest : others ≡ front ++ back

-- ---- sums, tests and lengths

pub parted_sum : (h : View → ℕ) (views others : List View) (view : View) → Parted views view others
    → sum_by h views ≡ h view + sum_by h others
parted_sum h views others view p =
    let one : sum_by h views ≡ sum_by h p.front + sum_by h (view ∷ p.back) =
    ap (sum_by h) p.whole ∙ sum_by-append h p.front (view ∷ p.back) in
    let two : sum_by h others ≡ sum_by h p.front + sum_by h p.back =
    ap (sum_by h) p.rest ∙ sum_by-append h p.front p.back in
    omega (arith, one, two, sum_by-cons h view p.back)

pub parted_any : (test : View → Bool) (views others : List View) (view : View) → Parted views view others
    → list_any test views ≡ (test view || list_any test others)
parted_any test views others view p =
    ap (list_any test) p.whole ∙ list_any-append test p.front (view ∷ p.back)
    ∙ swapped (list_any test p.front) (test view) (list_any test p.back)
    ∙ ap (λ b. test view || b) (sym (ap (list_any test) p.rest ∙ list_any-append test p.front p.back))
  where
    swapped : (a b c : Bool) → (a || (b || c)) ≡ (b || (a || c))
    swapped true true c = refl
    swapped true false c = refl
    swapped false true c = refl
    swapped false false c = refl

pub parted_length : (views others : List View) (view : View) → Parted views view others
    → length views ≡ length others + 1
parted_length views others view p =
    let one : length views ≡ length p.front + length (view ∷ p.back) =
    ap (λ (vs : List View). length vs) p.whole ∙ length-append p.front (view ∷ p.back) in
    let two : length others ≡ length p.front + length p.back =
    ap (λ (vs : List View). length vs) p.rest ∙ length-append p.front p.back in
    omega (arith, one, two)

-- ---- a view that comes

-- one view more in front of both lists
front_more : (v : View) (views others : List View) (view : View) → Parted views view others
    → Parted (v ∷ views) view (v ∷ others)
front_more v views others view p =
    record {
      front = v ∷ p.front;
      back = p.back;
      whole = ap (λ (vs : List View). v ∷ vs) p.whole;
      rest = ap (λ (vs : List View). v ∷ vs) p.rest;
    }

pub added_parted : (view : View) (views : List View) → Parted (with_view view views) view views
added_parted view [] = record { front = []; back = []; whole = refl; rest = refl }
added_parted view (v ∷ vs) = choose (nat_lt view.id.0 v.id.0) (added_parted view vs)
  where
    choose : (b : Bool) → Parted (with_view view vs) view vs
        → Parted (if b then view ∷ v ∷ vs else v ∷ with_view view vs) view (v ∷ vs)
    choose true p = record { front = []; back = v ∷ vs; whole = refl; rest = refl }
    choose false p = front_more v (with_view view vs) vs view p

-- ---- the order of ids, by recursion

abbrev pub Ascend : List View → Type 0
Ascend [] = Unit {0}
Ascend (v ∷ vs) = AllByRecursion (λ (w : View). v.id.0 < w.id.0) vs × Ascend vs

pub ascend : (views : List View) → AreInOrder views → Ascend views
ascend [] in_order = tt
ascend (v ∷ vs) in_order = (
  recursion_from_All (λ (w : View). v.id.0 < w.id.0) vs
      (λ k d within. in_order 0 (suc k) d (omega arith) (omega arith)),
  ascend vs (λ i j d below within. in_order (suc i) (suc j) d (omega (arith, below)) (omega (arith, within))),
)

pub in_order : (views : List View) → Ascend views → AreInOrder views
in_order [] a = λ i j d below within. absurd (omega (arith, within))
in_order (v ∷ vs) a =
    AllPairs-cons (λ (x y : View). x.id.0 < y.id.0) v vs (All-from_recursion (λ (w : View). v.id.0 < w.id.0) vs a.0)
    (in_order vs a.1)

-- ---- a view that goes

pub removed_in_order : (id : PageId) (views : List View) → AreInOrder views → AreInOrder (without_id id views)
removed_in_order id views ordered =
    AllPairs-filter (λ (v w : View). v.id.0 < w.id.0) (λ (v : View). not (v.id.0 == id.0)) views ordered

-- views with greater ids all stay
pub all_above : (id : PageId) (views : List View) → AllByRecursion (λ (w : View). id.0 < w.id.0) views
    → without_id id views ≡ views
all_above id views above =
    all_stay (λ (v : View). not (v.id.0 == id.0)) views
    (weaker (λ (w : View). id.0 < w.id.0) (λ (w : View). not (w.id.0 == id.0) ≡ true) views
    (λ w below. ap not (ne_eqb w.id.0 id.0 (λ same. absurd (omega (arith, below, same))))) above)

pub removed_parted : (old : View) (views : List View) → Ascend views → Contains views old
    → Parted views old (without_id old.id views)
removed_parted old [] a has = absurd (omega (arith, has.1))
removed_parted old (v ∷ vs) a (zero, within, is) =
    let same : v ≡ old = is in
    let stays : without_id old.id vs ≡ vs =
    all_above old.id vs (subst (λ (o : View). AllByRecursion (λ (w : View). o.id.0 < w.id.0) vs) same a.0) in
    let goes : (v.id.0 == old.id.0) ≡ true =
    ap (λ (o : View). o.id.0 == old.id.0) same ∙ eq-eqb old.id.0 old.id.0 refl in
    record {
      front = [];
      back = vs;
      whole = ap (λ (o : View). o ∷ vs) same;
      rest = ap (λ b. if not b then v ∷ without_id old.id vs else without_id old.id vs) goes ∙ stays;
    }
removed_parted old (v ∷ vs) a (suc k, within, is) =
    let below : v.id.0 < old.id.0 =
    all_at (λ (w : View). v.id.0 < w.id.0) vs a.0 k old (omega (arith, within)) is in
    let stays : (v.id.0 == old.id.0) ≡ false = ne_eqb v.id.0 old.id.0 (λ same. absurd (omega (arith, below, same))) in
    moved stays (removed_parted old vs a.1 (k, omega (arith, within), is))
  where
    moved : (v.id.0 == old.id.0) ≡ false → Parted vs old (without_id old.id vs)
        → Parted (v ∷ vs) old (without_id old.id (v ∷ vs))
    moved stays p =
        subst (λ (others : List View). Parted (v ∷ vs) old others)
        (sym (ap (λ b. if not b then v ∷ without_id old.id vs else without_id old.id vs) stays))
        (front_more v vs (without_id old.id vs) old p)

-- The visit that stands behind another one is the latest of those that are earlier than it.
use Rattle.std.proofs.Common.{◌≡◌, ◌≢◌, ◌==◌, ◌&&◌, ◌||◌, Bool, true, false, List, [], ◌∷◌, Some, if◌then◌else◌}
use Rattle.std.proofs.Common.{find, filter, map, eqb, ltb, refl, ◌∙◌, sym, ap, subst, arith, eq-eqb, ℕ}
use Rattle.std.specs.List.Sorted.{IsStrictlyIncreasing}
use Rattle.std.specs.Option.{option_map}
use Rattle.std.specs.List.{AllByRecursion, list_any}
use Rattle.std.proofs.lemmas.Bool.{eqb-true, false≢true}
use Rattle.std.proofs.lemmas.Bool.Decides.{nat_tests}
use Rattle.std.proofs.lemmas.List.Kept.{AllPairs-from_increasing}
use Rattle.pl_base.specs.declared.id.PageId.{PageId}
use Rattle.pl_base.specs.declared.id.VisitId.{VisitId}
use Rattle.pl_base.specs.Rows.{Kept, first_id, id_behind, older_visit, visit_at}
use Rattle.pl_base.specs.Store.{Visit}
use Rattle.pl_base.specs.Visits.{in_place, is_later, latest_first}
use Rattle.pl_plain.specs.Latest.{first_of, is_within}
use Rattle.pl_base.proofs.ListLaws.{all-filter, all_stay, weaker}
use Rattle.pl_base.proofs.VisitOrder.{InOrder, latest_in_order, latest_part}
use Rattle.pl_base.proofs.VisitsLaws.{Differ, Differ-ascending, Differ-filter}
use Rattle.pl_base.proofs.VisitsLaws.{all-latest_first, is_later-once}

-- ---- no visit is later than itself

later_self : (date id : ℕ) → ltb date date || (eqb date date && ltb id id) ≡ false
later_self date id = grind (arith, nat_tests)

is_later-self : (v : Visit) → is_later v v ≡ false
is_later-self v = later_self v.date.0 v.id.0

-- ---- the visit behind another one

-- a visit is the only one of its id
abbrev IsOnly : Visit → List Visit → Type 0
IsOnly v vs = AllByRecursion (λ (w : Visit). w.id.0 ≡ v.id.0 → w ≡ v) vs

abbrev has_id : ℕ → List Visit → Bool
has_id n vs = list_any (λ (w : Visit). w.id.0 == n) vs

swapped : (a b c : Bool) → (a || (b || c)) ≡ (b || (a || c))
swapped true true c = refl
swapped true false c = refl
swapped false b c = refl

has_id-in_place : (n : ℕ) (v : Visit) (ws : List Visit) → has_id n (in_place v ws) ≡ has_id n (v ∷ ws)
has_id-in_place n v [] = refl
has_id-in_place n v (w ∷ ws) = choose (is_later v w) (has_id-in_place n v ws)
  where
    choose : (b : Bool) → has_id n (in_place v ws) ≡ has_id n (v ∷ ws)
        → has_id n (if b then v ∷ w ∷ ws else w ∷ in_place v ws) ≡ has_id n (v ∷ w ∷ ws)
    choose true rest = refl
    choose false rest = ap (λ b. (w.id.0 == n) || b) rest ∙ swapped (w.id.0 == n) (v.id.0 == n) (has_id n ws)

has_id-latest_first : (n : ℕ) (vs : List Visit) → has_id n (latest_first vs) ≡ has_id n vs
has_id-latest_first n [] = refl
has_id-latest_first n (v ∷ vs) =
    has_id-in_place n v (latest_first vs) ∙ ap (λ b. (v.id.0 == n) || b) (has_id-latest_first n vs)

-- a visit that is there is earlier than one that all are earlier than
earlier_there : (v w : Visit) (vs : List Visit) → AllByRecursion (λ (x : Visit). is_later w x ≡ true) vs → IsOnly v vs
    → has_id v.id.0 vs ≡ true → is_later w v ≡ true
earlier_there v w [] all only there = absurd (cc)
earlier_there v w (x ∷ xs) all only there = choose (x.id.0 == v.id.0) refl there (earlier_there v w xs all.1 only.1)
  where
    choose : (b : Bool) → (x.id.0 == v.id.0) ≡ b → (b || has_id v.id.0 xs) ≡ true
        → (has_id v.id.0 xs ≡ true → is_later w v ≡ true) → is_later w v ≡ true
    choose true same here rest = subst (λ (y : Visit). is_later w y ≡ true) (only.0 (eqb-true x.id.0 v.id.0 same)) all.0
    choose false other here rest = rest here

behind : (v : Visit) (vs : List Visit) → InOrder vs → IsOnly v vs → has_id v.id.0 vs ≡ true
    → first_id (filter (is_later v) vs) ≡ id_behind v.id vs
behind v [] ordered only there = absurd (cc)
behind v (w ∷ ws) ordered only there = choose (w.id.0 == v.id.0) refl there (behind v ws ordered.1 only.1)
  where
    choose : (b : Bool) → (w.id.0 == v.id.0) ≡ b → (b || has_id v.id.0 ws) ≡ true
        → (has_id v.id.0 ws ≡ true → first_id (filter (is_later v) ws) ≡ id_behind v.id ws)
        → first_id (if is_later v w then w ∷ filter (is_later v) ws else filter (is_later v) ws)
        ≡ (if b then first_id ws else id_behind v.id ws)
    choose true same here rest =
        let one : w ≡ v = only.0 (eqb-true w.id.0 v.id.0 same) in
        let first : is_later v w ≡ false = subst (λ (x : Visit). is_later v x ≡ false) (sym one) (is_later-self v) in
        let all : filter (is_later v) ws ≡ ws =
        all_stay (is_later v) ws
        (subst (λ (x : Visit). AllByRecursion (λ (y : Visit). is_later x y ≡ true) ws) one ordered.0) in
        rw first (ap first_id all)
    choose false other here rest =
        let first : is_later v w ≡ false = is_later-once w v (earlier_there v w ws ordered.0 only.1 here) in
        rw first (rest here)

only_from_found : (n : ℕ) (v : Visit) (vs : List Visit) → Differ vs → find (λ (w : Visit). w.id.0 == n) vs ≡ Some v
    → AllByRecursion (λ (w : Visit). w.id.0 ≡ n → w ≡ v) vs
only_from_found n v [] differ found = tt
only_from_found n v (w ∷ ws) differ found = choose (w.id.0 == n) refl found (only_from_found n v ws differ.1)
  where
    choose : (b : Bool) → (w.id.0 == n) ≡ b → (if b then Some w else find (λ (x : Visit). x.id.0 == n) ws) ≡ Some v
        → (find (λ (x : Visit). x.id.0 == n) ws ≡ Some v → AllByRecursion (λ (x : Visit). x.id.0 ≡ n → x ≡ v) ws)
        → AllByRecursion (λ (x : Visit). x.id.0 ≡ n → x ≡ v) (w ∷ ws)
    choose true same here rest = (
      λ _. cc,
      weaker (λ (x : Visit). x.id.0 ≢ w.id.0) (λ (x : Visit). x.id.0 ≡ n → x ≡ v) ws
          (λ x apart at. absurd (apart (at ∙ sym (eqb-true w.id.0 n same)))) differ.0,
    )
    choose false other here rest =
        (λ at. absurd (false≢true (sym other ∙ eq-eqb w.id.0 n at)), rest here)

-- what was found has the id, and stands among those of its page
found_there : (n : ℕ) (q : Visit → Bool) (v : Visit) (vs : List Visit) → find (λ (w : Visit). w.id.0 == n) vs ≡ Some v
    → q v ≡ true → (v.id.0 ≡ n) × (has_id n (filter q vs) ≡ true)
found_there n q v [] found passes = absurd (cc)
found_there n q v (w ∷ ws) found passes = choose (w.id.0 == n) refl found (λ later. found_there n q v ws later passes)
  where
    choose : (b : Bool) → (w.id.0 == n) ≡ b → (if b then Some w else find (λ (x : Visit). x.id.0 == n) ws) ≡ Some v
        → (find (λ (x : Visit). x.id.0 == n) ws ≡ Some v → (v.id.0 ≡ n) × (has_id n (filter q ws) ≡ true))
        → (v.id.0 ≡ n) × (has_id n (filter q (w ∷ ws)) ≡ true)
    choose true same here rest =
        let one : w ≡ v = cc in
        let kept : q w ≡ true = ap q one ∙ passes in
        (ap (λ (x : Visit). x.id.0) (sym one) ∙ eqb-true w.id.0 n same, rw (kept, same) refl)
    choose false other here rest = (
      (rest here).0,
      elim (q w) as (λ b. has_id n (if b then w ∷ filter q ws else filter q ws) ≡ true)
          [ true ↦ rw other (rest here).1 | false ↦ (rest here).1 ],
    )

filter-and : (p q : Visit → Bool) (vs : List Visit) → filter (λ v. p v && q v) vs ≡ filter q (filter p vs)
filter-and p q [] = refl
filter-and p q (v ∷ vs) = both (p v) (q v) v (filter (λ v. p v && q v) vs) (filter p vs) (filter-and p q vs)
  where
    both : (a b : Bool) (v : Visit) (xs ys : List Visit) → xs ≡ filter q ys
        → (if a && q v then v ∷ xs else xs) ≡ filter q (if a then v ∷ ys else ys)
    both true b v xs ys e = ap (λ zs. if q v then v ∷ zs else zs) e
    both false b v xs ys e = e

pub id_of-first : (vs : List Visit) → option_map (λ (v : Visit). v.id) (first_of vs) ≡ first_id vs
id_of-first [] = refl
id_of-first (v ∷ vs) = refl

abbrev of_page : PageId → Visit → Bool
of_page page v = v.page.0 == page.0

-- the visit behind one that was found
pub older_visit-found : (kept : Kept) (id : VisitId) (v : Visit)
    → IsStrictlyIncreasing (map (λ (w : Visit). w.id.0) kept.visits) → visit_at kept id ≡ Some v
    → option_map (λ (w : Visit). w.id) (first_of (latest_first (filter (is_within v.page (Some v)) kept.visits)))
    ≡ older_visit kept id
older_visit-found kept id v ascending found =
    let differ : Differ kept.visits =
    Differ-ascending kept.visits
    (AllPairs-from_increasing (map (λ (w : Visit). w.id.0) kept.visits) ascending) in
    let there = found_there id.0 (of_page v.page) v kept.visits found (eq-eqb v.page.0 v.page.0 refl) in
    let own : List Visit = filter (of_page v.page) kept.visits in
    let apart : Differ own = Differ-filter (of_page v.page) kept.visits differ in
    let only : IsOnly v own =
    subst (λ (n : ℕ). AllByRecursion (λ (w : Visit). w.id.0 ≡ n → w ≡ v) own) (sym there.0)
    (all-filter (λ (w : Visit). w.id.0 ≡ id.0 → w ≡ v) (of_page v.page) kept.visits
    (only_from_found id.0 v kept.visits differ found)) in
    let here : has_id v.id.0 (latest_first own) ≡ true =
    has_id-latest_first v.id.0 own ∙ ap (λ (n : ℕ). has_id n own) there.0 ∙ there.1 in
    let same_id : v.id ≡ id = ap (λ (n : ℕ). record { 0 = n }) there.0 in
    rw found
    (id_of-first (latest_first (filter (is_within v.page (Some v)) kept.visits))
    ∙ ap (λ (vs : List Visit). first_id (latest_first vs)) (filter-and (of_page v.page) (is_later v) kept.visits)
    ∙ ap first_id (sym (latest_part (is_later v) own apart))
    ∙ behind v (latest_first own) (latest_in_order own apart)
    (all-latest_first (λ (w : Visit). w.id.0 ≡ v.id.0 → w ≡ v) own only) here
    ∙ ap (λ (i : VisitId). id_behind i (latest_first own)) same_id)

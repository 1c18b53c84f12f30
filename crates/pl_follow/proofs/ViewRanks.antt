-- The ranks of views by frecency and by latest visit, their comparisons, and the ranks of a list that changes.
use Rattle.std.proofs.Common.{◌≡◌, ◌∙◌, ◌==◌, ◌&&◌, ◌||◌, ℕ, ℤ, Bool, true, false, List}
use Rattle.std.proofs.Common.{Option, Some, None, Ordering, ap, arith, if◌then◌else◌, int_lt, is_lt}
use Rattle.std.proofs.Common.{nat_cmp, nat_lt, refl, sym}
use Rattle.std.specs.declared.cmp.Ordering.TheVariants.{Less, Equal, Greater}
use Rattle.std.specs.Cmp.{IsTotalOrder}
use Rattle.std.specs.Option.{option_and_then, option_map, option_map_or}
use Rattle.std.specs.Ordering.{int_cmp, is_eq, ordering_then}
use Rattle.std.proofs.lemmas.Bool.Decides.{nat_tests}
use Rattle.std.proofs.lemmas.Cmp.{int_cmp_total, nat_cmp_total, on_total, then_total}
use Rattle.std.proofs.lemmas.Map.Lookups.{exact_signed, exact_unsigned}
use Rattle.pl_base.specs.declared.date.Micros.{Micros}
use Rattle.pl_base.specs.declared.id.PageId.{PageId}
use Rattle.pl_base.specs.declared.view.View.{View}
use Rattle.pl_base.specs.Sorting.{sorted_by}
use Rattle.pl_base.proofs.IdsLaws.{same_page_number}
use Rattle.pl_follow.specs.Changes.{AreInOrder, Suits, changed}
use Rattle.pl_follow.specs.Order.{IsExact, Replaces, is_above, is_ahead, is_below, is_later}
use Rattle.pl_follow.specs.Order.{next_rank, visit_rank_of, visit_ranks}
use Rattle.pl_follow.proofs.RankLists.{above_alike}
use Rattle.pl_follow.proofs.RanksChange.{follows}

-- ---- the comparisons

abbrev pub frecency_cmp : ℤ × PageId → ℤ × PageId → Ordering
frecency_cmp x y = ordering_then (int_cmp x.0 y.0) (nat_cmp x.1.0 y.1.0)

abbrev pub visit_cmp : Micros × PageId → Micros × PageId → Ordering
visit_cmp x y = ordering_then (nat_cmp x.0.0 y.0.0) (nat_cmp x.1.0 y.1.0)

pub frecency_total : IsTotalOrder frecency_cmp
frecency_total =
    then_total (on_total (λ (x : ℤ × PageId). x.0) int_cmp_total)
    (on_total (λ (x : ℤ × PageId). x.1.0) nat_cmp_total)

pub visit_total : IsTotalOrder visit_cmp
visit_total =
    then_total (on_total (λ (x : Micros × PageId). x.0.0) nat_cmp_total)
    (on_total (λ (x : Micros × PageId). x.1.0) nat_cmp_total)

pub both_equal : (a b : Ordering) → ordering_then a b ≡ Equal → (a ≡ Equal) × (b ≡ Equal)
both_equal Less b is = absurd (cc)
both_equal Equal b is = (refl, is)
both_equal Greater b is = absurd (cc)

same_date : (p q : Micros) → p.0 ≡ q.0 → p ≡ q
same_date p q is = ap (λ (n : ℕ). record { 0 = n }) is

pub frecency_exact : IsExact frecency_cmp
frecency_exact x y is =
    let parts : (int_cmp x.0 y.0 ≡ Equal) × (nat_cmp x.1.0 y.1.0 ≡ Equal) =
    both_equal (int_cmp x.0 y.0) (nat_cmp x.1.0 y.1.0) is in
    λ i. (exact_signed x.0 y.0 parts.0 i, same_page_number x.1 y.1 (exact_unsigned x.1.0 y.1.0 parts.1) i)

pub visit_exact : IsExact visit_cmp
visit_exact x y is =
    let parts : (nat_cmp x.0.0 y.0.0 ≡ Equal) × (nat_cmp x.1.0 y.1.0 ≡ Equal) =
    both_equal (nat_cmp x.0.0 y.0.0) (nat_cmp x.1.0 y.1.0) is in
    λ i. (
      same_date x.0 y.0 (exact_unsigned x.0.0 y.0.0 parts.0) i,
      same_page_number x.1 y.1 (exact_unsigned x.1.0 y.1.0 parts.1) i,
    )

-- a comparison by which of two numbers is greater, and then by two more
pub compared : (p q : Bool) (m n : ℕ)
    → is_lt (ordering_then (if q then Less else if p then Greater else Equal) (nat_cmp m n))
    ≡ (q || (is_eq (if p then Less else if q then Greater else Equal) && nat_lt m n))
compared true true m n = refl
compared true false m n = refl
compared false true m n = refl
compared false false m n = grind (arith, nat_tests)

pub ahead_below : (x y : ℤ × PageId) → is_below frecency_cmp y x ≡ is_ahead x y
ahead_below x y = compared (int_lt x.0 y.0) (int_lt y.0 x.0) y.1.0 x.1.0

later_below : (x y : Micros × PageId) → is_below visit_cmp y x ≡ is_later x y
later_below x y = dates x.0.0 y.0.0 x.1.0 y.1.0
  where
    dates : (a b m n : ℕ) → is_lt (ordering_then (nat_cmp b a) (nat_cmp n m))
        ≡ (nat_lt b a || ((a == b) && nat_lt n m))
    dates a b m n = grind (arith, nat_tests)

pub ahead_above : is_above frecency_cmp ≡ is_ahead
ahead_above i x y = (above_alike frecency_cmp frecency_total x y ∙ ahead_below x y) i

later_above : is_above visit_cmp ≡ is_later
later_above i x y = (above_alike visit_cmp visit_total x y ∙ later_below x y) i

pub frecencies_below : (ranks : List (ℤ × PageId))
    → sorted_by (λ x y. is_ahead y x) ranks ≡ sorted_by (is_below frecency_cmp) ranks
frecencies_below ranks = λ i. sorted_by (λ x y. sym (ahead_below y x) i) ranks

pub visits_below : (ranks : List (Micros × PageId))
    → sorted_by (λ x y. is_later y x) ranks ≡ sorted_by (is_below visit_cmp) ranks
visits_below ranks = λ i. sorted_by (λ x y. sym (later_below y x) i) ranks

pub frecencies_above : (ranks : List (ℤ × PageId))
    → sorted_by (is_above frecency_cmp) ranks ≡ sorted_by is_ahead ranks
frecencies_above ranks = ap (λ before. sorted_by before ranks) ahead_above

pub visits_above : (ranks : List (Micros × PageId))
    → sorted_by (is_above visit_cmp) ranks ≡ sorted_by is_later ranks
visits_above ranks = ap (λ before. sorted_by before ranks) later_above

pub next_ahead : (place : Option (ℤ × PageId)) (ranks : List (ℤ × PageId))
    → next_rank (is_above frecency_cmp) place ranks ≡ next_rank is_ahead place ranks
next_ahead place ranks = ap (λ before. next_rank before place ranks) ahead_above

pub next_later : (place : Option (Micros × PageId)) (ranks : List (Micros × PageId))
    → next_rank (is_above visit_cmp) place ranks ≡ next_rank is_later place ranks
next_later place ranks = ap (λ before. next_rank before place ranks) later_above

-- ---- a change

visit_ids : (v : View) (r : Micros × PageId) → visit_rank_of v ≡ Some r → r.1 ≡ v.id
visit_ids v r = choose v.last
  where
    choose : (last : Option Micros) → option_map (λ (date : Micros). (date, v.id)) last ≡ Some r → r.1 ≡ v.id
    choose None is = absurd (cc)
    choose (Some date) is =
        sym (ap (λ (o : Option (Micros × PageId)). option_map_or (λ (x : Micros × PageId). x.1) o v.id) is)

pub visits_follow : (old new : Option View) (views : List View) → AreInOrder views → Suits old new views
    → (leaving coming : Option (Micros × PageId)) → leaving ≡ option_and_then visit_rank_of old
    → coming ≡ option_and_then visit_rank_of new
    → (before after : List (Micros × PageId)) → Replaces visit_cmp leaving coming before after
    → before ≡ sorted_by (λ x y. is_later y x) (visit_ranks views)
    → after ≡ sorted_by (λ x y. is_later y x) (visit_ranks (changed old new views))
visits_follow old new views ordered suits leaving coming is_old is_new before after replaces stood =
    follows visit_cmp visit_total visit_exact visit_rank_of visit_ids old new views ordered suits leaving coming is_old
    is_new before after replaces (stood ∙ visits_below (visit_ranks views))
    ∙ sym (visits_below (visit_ranks (changed old new views)))

-- The comparison of days and ids, and the due days of a list of views that changes.
use Rattle.std.proofs.Common.{◌≡◌, ◌∙◌, ◌==◌, ◌&&◌, ◌||◌, ℕ, List, Option, Some, None, Ordering, ap, arith}
use Rattle.std.proofs.Common.{is_lt, nat_cmp, nat_lt, sym}
use Rattle.std.specs.declared.cmp.Ordering.TheVariants.{Equal}
use Rattle.std.specs.Cmp.{IsTotalOrder}
use Rattle.std.specs.Option.{option_and_then, option_map, option_map_or}
use Rattle.std.specs.Ordering.{ordering_then}
use Rattle.std.proofs.lemmas.Bool.Decides.{nat_tests}
use Rattle.std.proofs.lemmas.Cmp.{nat_cmp_total, on_total, then_total}
use Rattle.std.proofs.lemmas.Map.Lookups.{exact_unsigned}
use Rattle.pl_base.specs.declared.date.Day.{Day}
use Rattle.pl_base.specs.declared.id.PageId.{PageId}
use Rattle.pl_base.specs.declared.view.View.{View}
use Rattle.pl_base.specs.Sorting.{sorted_by}
use Rattle.pl_base.proofs.SortLaws.{sorted_same}
use Rattle.pl_base.proofs.IdsLaws.{same_page_number}
use Rattle.pl_follow.specs.Changes.{AreInOrder, Suits, changed}
use Rattle.pl_follow.specs.Order.{IsExact, Replaces, is_below}
use Rattle.pl_follow.proofs.RanksChange.{follows}
use Rattle.pl_follow.proofs.ViewRanks.{both_equal}
use Rattle.pl_calendar.specs.Days.{due_entries, entry_of, is_sooner}

-- by the day, and by the id where the days are the same
abbrev pub entry_cmp : Day × PageId → Day × PageId → Ordering
entry_cmp x y = ordering_then (nat_cmp x.0.0 y.0.0) (nat_cmp x.1.0 y.1.0)

entry_total : IsTotalOrder entry_cmp
entry_total =
    then_total (on_total (λ (x : Day × PageId). x.0.0) nat_cmp_total)
    (on_total (λ (x : Day × PageId). x.1.0) nat_cmp_total)

same_day : (p q : Day) → p.0 ≡ q.0 → p ≡ q
same_day p q is = ap (λ (n : ℕ). record { 0 = n }) is

entry_exact : IsExact entry_cmp
entry_exact x y is =
    let parts : (nat_cmp x.0.0 y.0.0 ≡ Equal) × (nat_cmp x.1.0 y.1.0 ≡ Equal) =
    both_equal (nat_cmp x.0.0 y.0.0) (nat_cmp x.1.0 y.1.0) is in
    λ i. (
      same_day x.0 y.0 (exact_unsigned x.0.0 y.0.0 parts.0) i,
      same_page_number x.1 y.1 (exact_unsigned x.1.0 y.1.0 parts.1) i,
    )

sooner_below : (x y : Day × PageId) → is_sooner x y ≡ is_below entry_cmp x y
sooner_below x y = numbers x.0.0 y.0.0 x.1.0 y.1.0
  where
    numbers : (a b m n : ℕ)
        → (nat_lt a b || ((a == b) && nat_lt m n)) ≡ is_lt (ordering_then (nat_cmp a b) (nat_cmp m n))
    numbers a b m n = grind (arith, nat_tests)

entries_below : (entries : List (Day × PageId)) → sorted_by is_sooner entries ≡ sorted_by (is_below entry_cmp) entries
entries_below = sorted_same is_sooner (is_below entry_cmp) sooner_below

entry_ids : (v : View) (e : Day × PageId) → entry_of v ≡ Some e → e.1 ≡ v.id
entry_ids v e = choose v.due
  where
    choose : (due : Option Day) → option_map (λ (day : Day). (day, v.id)) due ≡ Some e → e.1 ≡ v.id
    choose None is = absurd (cc)
    choose (Some day) is = sym (ap (λ (o : Option (Day × PageId)). option_map_or (λ (x : Day × PageId). x.1) o v.id) is)

-- the entries of the views after a change
pub days_follow : (old new : Option View) (views : List View) → AreInOrder views → Suits old new views
    → (leaving coming : Option (Day × PageId)) → leaving ≡ option_and_then entry_of old
    → coming ≡ option_and_then entry_of new
    → (before after : List (Day × PageId)) → Replaces entry_cmp leaving coming before after
    → before ≡ sorted_by is_sooner (due_entries views)
    → after ≡ sorted_by is_sooner (due_entries (changed old new views))
days_follow old new views ordered suits leaving coming is_old is_new before after replaces stood =
    follows entry_cmp entry_total entry_exact entry_of entry_ids old new views ordered suits leaving coming is_old
    is_new before after replaces (stood ∙ entries_below (due_entries views))
    ∙ sym (entries_below (due_entries (changed old new views)))

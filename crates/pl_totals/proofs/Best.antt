-- The best of groups as they are gone through.
use Rattle.std.proofs.Common.{◌≡◌, ◌∙◌, ◌==◌, ◌&&◌, ◌||◌, ◌++◌, ℕ, Bool, true, false, List, [], ◌∷◌}
use Rattle.std.proofs.Common.{Bor, String, Global, Option, Some, None, ap, arith, if◌then◌else◌, inl, inr}
use Rattle.std.proofs.Common.{map, nat_eq, nat_lt, not, refl, sym}
use Rattle.std.specs.declared.cmp.Ordering.{Ordering}
use Rattle.std.specs.declared.cmp.Ordering.TheVariants.{Less, Equal, Greater}
use Rattle.std.specs.Cmp.{IsStrictWeakOrder}
use Rattle.std.specs.Cmp.Lexicographic.{nat_list_cmp_total, slice_cmp}
use Rattle.std.specs.Map.Iter.{deref_pair}
use Rattle.std.specs.List.{starts_with}
use Rattle.std.specs.List.Sorted.{ties}
use Rattle.std.specs.Ordering.{is_lt, nat_cmp, ordering_reverse}
use Rattle.std.specs.String.{string_bytes}
use Rattle.std.proofs.lemmas.Bool.{false≢true}
use Rattle.std.proofs.lemmas.Bool.Decides.{nat_tests}
use Rattle.std.proofs.lemmas.List.{map-append}
use Rattle.std.proofs.lemmas.Map.Lookups.{exact_bytes}
use Rattle.std.proofs.lemmas.List.Sorted.{IsStrictWeakOrder-by_number, IsStrictWeakOrder-flip, ranks_by}
use Rattle.pl_base.proofs.SortLaws.{ranks_alike, then_by, then_ranks}
use Rattle.pl_base.proofs.Among.{In, in_front}
use Rattle.pl_totals.specs.declared.totals.Totals.{Totals}
use Rattle.pl_totals.specs.Groups.{Grouped, is_ahead, is_enough, or_best, or_better}
use Rattle.pl_totals.proofs.Members.{in_last, in_pushed}
use Rattle.pl_totals.proofs.Sorted.{itself}

-- an entry of the map as a group
abbrev pub entry : String Global × ℕ → Grouped
entry e = (string_bytes e.0, e.1)

-- the groups of these entries
abbrev pub shown : List (Bor (String Global) × Bor ℕ) → List Grouped
shown entries = map entry (map deref_pair entries)

pub shown_more : (entries : List (Bor (String Global) × Bor ℕ)) (name : Bor (String Global)) (total : Bor ℕ)
    (text : List ℕ) → text ≡ string_bytes name.now
    → shown entries ++ (text, total.now) ∷ [] ≡ shown (entries ++ (name, total) ∷ [])
shown_more entries name total text is =
    ap (λ (t : List ℕ). shown entries ++ (t, total.now) ∷ []) is
    ∙ sym (ap (map entry) (map-append deref_pair entries ((name, total) ∷ []))
    ∙ map-append entry (map deref_pair entries) ((name.now, total.now) ∷ []))

-- a group passes, and its name begins with the text
abbrev pub fills : Totals → List ℕ → Grouped → Bool
fills totals text group = is_enough totals group.1 && starts_with nat_eq group.0 text

-- ---- the order

abbrev pub greater : Grouped → Grouped → Bool
greater a b = nat_lt b.1 a.1

abbrev pub earlier : Grouped → Grouped → Bool
earlier a b = is_lt (slice_cmp nat_cmp a.0 b.0)

numbers : (m n : ℕ) (c : Bool) → (nat_lt n m || ((m == n) && c)) ≡ (nat_lt n m || (not (nat_lt m n) && c))
numbers m n c = grind (arith, nat_tests)

pub ahead_alike : (a b : Grouped) → is_ahead a b ≡ then_by greater earlier a b
ahead_alike a b = numbers a.1 b.1 (is_lt (slice_cmp nat_cmp a.0 b.0))

pub ahead_ranks : IsStrictWeakOrder is_ahead
ahead_ranks =
    ranks_alike is_ahead (then_by greater earlier) ahead_alike
    (then_ranks greater earlier
    (IsStrictWeakOrder-flip (λ (a b : Grouped). nat_lt a.1 b.1) (IsStrictWeakOrder-by_number (λ (a : Grouped). a.1)))
    (ranks_by nat_list_cmp_total (λ (a : Grouped). a.0)))

tie_parts : (m n : ℕ) (c d : Bool) → (not (nat_lt n m || ((m == n) && c)) && not (nat_lt m n || ((n == m) && d))) ≡ true
    → (m ≡ n) × (c ≡ false) × (d ≡ false)
tie_parts m n c d tie = (grind (arith, nat_tests), grind (arith, nat_tests), grind (arith, nat_tests))

same_names : (a b : List ℕ) → is_lt (slice_cmp nat_cmp a b) ≡ false → is_lt (slice_cmp nat_cmp b a) ≡ false → a ≡ b
same_names a b one two = choose (slice_cmp nat_cmp a b) refl one
  where
    choose : (o : Ordering) → slice_cmp nat_cmp a b ≡ o → is_lt o ≡ false → a ≡ b
    choose Less is not_so = absurd (false≢true (sym not_so))
    choose Equal is not_so = exact_bytes a b is
    choose Greater is not_so =
        let back : slice_cmp nat_cmp b a ≡ Less = nat_list_cmp_total.antisymm b a ∙ ap ordering_reverse is in
        absurd (false≢true (sym two ∙ ap is_lt back))

-- groups that tie are the same
pub ahead_tied : (a b : Grouped) → ties is_ahead a b ≡ true → a ≡ b
ahead_tied a b tie =
    let parts = tie_parts a.1 b.1 (is_lt (slice_cmp nat_cmp a.0 b.0)) (is_lt (slice_cmp nat_cmp b.0 a.0)) tie in
    ap (λ (n : List ℕ). (n, a.1)) (same_names a.0 b.0 parts.1 parts.2) ∙ ap (λ n. (b.0, n)) parts.0

-- ---- one after another

-- none passes the test, or the best is one of those that do, and none of them is ahead of it
abbrev pub IsBest : (Grouped → Bool) → List Grouped → Option Grouped → Type 0
IsBest test all None = (g : Grouped) → In g all → test g ≡ false
IsBest test all (Some best) =
    In best all × (test best ≡ true) × ((g : Grouped) → In g all → test g ≡ true → is_ahead g best ≡ false)

-- a group more that does not pass
pub best_passed : (test : Grouped → Bool) (all : List Grouped) (best : Option Grouped) (g : Grouped)
    → test g ≡ false → IsBest test all best → IsBest test (all ++ g ∷ []) best
best_passed test all None g fails none = λ z h.
    elim (in_pushed z all g h) as (λ _. test z ≡ false) [ inl old ↦ none z old | inr e ↦ ap test e ∙ fails ]
best_passed test all (Some b) g fails h = (
  in_front all (g ∷ []) b h.0,
  h.1,
  λ z member passes.
      elim (in_pushed z all g member) as (λ _. is_ahead z b ≡ false) [
        | inl old ↦ h.2 z old passes
        | inr e ↦ absurd (false≢true (sym fails ∙ ap test (sym e) ∙ passes))
      ],
)

-- one that does
pub best_more : (test : Grouped → Bool) (all : List Grouped) (best : Option Grouped) (g : Grouped) → test g ≡ true
    → IsBest test all best → IsBest test (all ++ g ∷ []) (Some (or_best g best))
best_more test all None g passes none = (
  in_last all g,
  passes,
  λ z member is.
      elim (in_pushed z all g member) as (λ _. is_ahead z g ≡ false) [
        | inl old ↦ absurd (false≢true (sym (none z old) ∙ is))
        | inr e ↦ ap (λ y. is_ahead y g) e ∙ itself is_ahead ahead_ranks g
      ],
)
best_more test all (Some b) g passes h = choose (is_ahead g b) refl
  where
    choose : (a : Bool) → is_ahead g b ≡ a → IsBest test (all ++ g ∷ []) (Some (if a then g else b))
    choose true ahead = (
      in_last all g,
      passes,
      λ z member is.
          elim (in_pushed z all g member) as (λ _. is_ahead z g ≡ false) [
            | inl old ↦ ahead_ranks.chain z b g (h.2 z old is) (ahead_ranks.one_way g b ahead)
            | inr e ↦ ap (λ y. is_ahead y g) e ∙ itself is_ahead ahead_ranks g
          ],
    )
    choose false behind = (
      in_front all (g ∷ []) b h.0,
      h.1,
      λ z member is.
          elim (in_pushed z all g member) as (λ _. is_ahead z b ≡ false) [
            | inl old ↦ h.2 z old is
            | inr e ↦ ap (λ y. is_ahead y b) e ∙ behind
          ],
    )

-- a group more that passes by its total, where it passes by its name
pub best_next : (passes : ℕ → Bool) (begins : Grouped → Bool) (all : List Grouped) (best : Option Grouped)
    (g : Grouped) → begins g ≡ true → IsBest (λ h. passes h.1 && begins h) all best
    → IsBest (λ h. passes h.1 && begins h) (all ++ g ∷ []) (or_better passes g best)
best_next passes begins all best g named h = choose (passes g.1) refl
  where
    choose : (b : Bool) → passes g.1 ≡ b
        → IsBest (λ h. passes h.1 && begins h) (all ++ g ∷ []) (if b then Some (or_best g best) else best)
    choose true is =
        best_more (λ h. passes h.1 && begins h) all best g (ap (λ b. b && begins g) is ∙ named) h
    choose false is = best_passed (λ h. passes h.1 && begins h) all best g (ap (λ b. b && begins g) is) h

-- the best of a part that has all that pass is that of all
pub best_of_part : (test : Grouped → Bool) (part all : List Grouped) (best : Option Grouped)
    → ((g : Grouped) → In g part → In g all) → ((g : Grouped) → In g all → test g ≡ true → In g part)
    → IsBest test part best → IsBest test all best
best_of_part test part all None of has none = λ g member. choose g member (test g) refl
  where
    choose : (g : Grouped) → In g all → (b : Bool) → test g ≡ b → b ≡ false
    choose g member true is = absurd (false≢true (sym (none g (has g member is)) ∙ is))
    choose g member false is = refl
best_of_part test part all (Some best) of has h =
    (of best h.0, h.1, λ g member is. h.2 g (has g member is) is)

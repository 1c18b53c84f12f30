-- Numbers that are marked one by one, and live slots whose marks are asked one by one.
use Rattle.std.proofs.Common.{◌≡◌, ◌∙◌, ◌==◌, ◌+◌, ◌<◌, ◌≤◌, ◌∷◌, [], ◌++◌, ◌||◌, ℕ, List, Bool, ap, arith, drop}
use Rattle.std.proofs.Common.{eq-eqb, eqb, eqb-true, false, get_or, inl, inr, length, refl, replicate, set, subst, sym}
use Rattle.std.proofs.Common.{take, true}
use Rattle.std.specs.List.{AllByRecursion, IsDistinct}
use Rattle.std.proofs.lemmas.Bool.{or_cases, true≢false}
use Rattle.std.specs.Cmp.{nat_eq_equiv}
use Rattle.std.proofs.lemmas.List.{drop_more, get_or-replicate, get_or-set_other, get_or-set_same, length-replicate}
use Rattle.std.proofs.lemmas.List.{length-set, take-append-drop, take_more}
use Rattle.std.proofs.lemmas.List.Folds.{list_any-append}
use Rattle.std.proofs.lemmas.Map.Keys.{IsDistinct-push}
use Rattle.pl_owned.specs.Marked.{AreMarked, HasLiveMarked}
use Rattle.pl_sheets.specs.Sheets.{Pages}
use Rattle.pl_slot.specs.Arena.{is_among, is_live, slot_count}
use Rattle.pl_slot.proofs.ArenaLaws.{live_slot}
use Rattle.pl_slot.proofs.SlotPlaces.{slot_bounds}

-- ---- a number that stands twice

differs : (a x : ℕ) (xs ys : List ℕ) → AllByRecursion (λ y. eqb a y ≡ false) (xs ++ x ∷ ys) → eqb a x ≡ false
differs a x [] ys all = all.0
differs a x (z ∷ xs) ys all = differs a x xs ys all.1

twice : (xs : List ℕ) (x : ℕ) (ys : List ℕ) → is_among x xs ≡ true → IsDistinct eqb (xs ++ x ∷ ys) → ⊥
unfolding IsDistinct
twice [] x ys among apart = true≢false (sym among)
twice (a ∷ xs) x ys among apart = elim (or_cases (x == a) (is_among x xs) among) [
  | inl here ↦
      true≢false (sym (eq-eqb a x (sym (eqb-true x a here))) ∙ differs a x xs ys apart.0)
  | inr there ↦ twice xs x ys there apart.1
]

-- ---- marks

or_true : (b : Bool) → (b || (true || false)) ≡ true
or_true true = refl
or_true false = refl

or_none : (b : Bool) → (b || (false || false)) ≡ b
or_none true = refl
or_none false = refl

-- none is marked
pub none_marked : (count : ℕ) (marks : List Bool) → marks ≡ replicate count false → AreMarked [] count marks
none_marked count marks are =
    record {
      long = ap length are ∙ length-replicate count false;
      each = λ n low. ap (λ l. get_or l n false) are ∙ get_or-replicate count n false false low;
    }

pub none_twice : IsDistinct eqb []
unfolding IsDistinct
none_twice = tt

module _ (slots : List ℕ) (i slot count : ℕ) (marks : List Bool) (within : i < length slots)
    (is : slot ≡ get_or slots i slot) (below : slot < count) (so_far : AreMarked (take i slots) count marks) where
  more : take (i + 1) slots ≡ take i slots ++ slot ∷ []
  more = take_more slots i slot within ∙ ap (λ k. take i slots ++ k ∷ []) (sym is)

  among_more : (n : ℕ) (b : Bool) → (n == slot) ≡ b
      → is_among n (take (i + 1) slots) ≡ (is_among n (take i slots) || (b || false))
  among_more n b told =
      ap (is_among n) more ∙ list_any-append (λ m. n == m) (take i slots) (slot ∷ [])
      ∙ ap (λ c. is_among n (take i slots) || (c || false)) told

  one_mark : (n : ℕ) (b : Bool) → (n == slot) ≡ b → n < count
      → get_or (set marks slot true) n false ≡ is_among n (take (i + 1) slots)
  one_mark n true here low =
      ap (λ k. get_or (set marks slot true) k false) (eqb-true n slot here)
      ∙ get_or-set_same marks slot true false (omega (arith, below, so_far.long))
      ∙ sym (among_more n true here ∙ or_true (is_among n (take i slots)))
  one_mark n false other low =
      get_or-set_other marks slot n true false (λ same. true≢false (sym (eq-eqb n slot same) ∙ other))
      ∙ so_far.each n low
      ∙ sym (among_more n false other ∙ or_none (is_among n (take i slots)))

  pub marked_more : AreMarked (take (i + 1) slots) count (set marks slot true)
  marked_more =
      record {
        long = length-set marks slot true ∙ so_far.long;
        each = λ n low. one_mark n (n == slot) refl low;
      }

  pub once_more : IsDistinct eqb (take i slots) → get_or marks slot false ≡ false → IsDistinct eqb (take (i + 1) slots)
  once_more apart unmarked =
      subst (IsDistinct eqb) (sym more)
      (IsDistinct-push nat_eq_equiv (take i slots) slot apart (sym (so_far.each slot below) ∙ unmarked))

  pub twice_marked : get_or marks slot false ≡ true → IsDistinct eqb slots → ⊥
  twice_marked marked apart =
      let whole : take i slots ++ slot ∷ drop (i + 1) slots ≡ slots =
      ap (λ l. take i slots ++ l)
      (sym (drop_more slots i slot within ∙ ap (λ k. k ∷ drop (i + 1) slots) (sym is)))
      ∙ take-append-drop i slots in
      twice (take i slots) slot (drop (i + 1) slots) (sym (so_far.each slot below) ∙ marked)
      (subst (IsDistinct eqb) (sym whole) apart)

-- ---- live slots

pub live_from_one : (n : ℕ) (pages : Pages) → is_live n pages ≡ true → 1 ≤ n
live_from_one n pages live = (slot_bounds n pages (live_slot n pages live)).0

pub live_below : (n : ℕ) (pages : Pages) → is_live n pages ≡ true → n ≤ slot_count pages
live_below n pages live =
    let bounds = slot_bounds n pages (live_slot n pages live) in
    omega (arith, bounds.1)

-- what is set of those that were met is set of all live ones
pub met_live : (slots : List ℕ) (count : ℕ) (marks : List Bool) (pages : Pages) → AreMarked slots count marks
    → count ≡ slot_count pages + 1 → HasLiveMarked marks pages → (n : ℕ) → is_live n pages ≡ true
    → is_among n slots ≡ true
met_live slots count marks pages marked count_is set n live =
    sym (marked.each n (omega (arith, count_is, live_below n pages live))) ∙ set n live

pub live_met : (slots : List ℕ) (count : ℕ) (marks : List Bool) (pages : Pages) → AreMarked slots count marks
    → count ≡ slot_count pages + 1 → ((n : ℕ) → is_live n pages ≡ true → is_among n slots ≡ true)
    → HasLiveMarked marks pages
live_met slots count marks pages marked count_is whole n live =
    marked.each n (omega (arith, count_is, live_below n pages live)) ∙ whole n live

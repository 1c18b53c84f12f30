-- The two lists of offers while pages are gone through.
use Rattle.std.proofs.Common.{◌≡◌, ◌∙◌, ◌+◌, ◌-◌, ◌<◌, ◌≤◌, ◌++◌, ℕ, Bool, true, false, List, [], ◌∷◌}
use Rattle.std.proofs.Common.{ap, arith, filter}
use Rattle.std.proofs.Common.{All, if◌then◌else◌, length, map, nat_le, refl, reverse, subst, sym}
use Rattle.std.specs.List.{AllByRecursion, sum_by}
use Rattle.std.proofs.lemmas.Bool.Decides.{nat_tests}
use Rattle.std.proofs.lemmas.List.{length-append, reverse-append}
use Rattle.std.proofs.lemmas.List.Elements.{filter-append, recursion_from_All}
use Rattle.std.proofs.lemmas.List.Sums.{sum_by-cons}
use Rattle.pl_base.specs.declared.id.PageId.{PageId}
use Rattle.pl_base.specs.Store.{Store}
use Rattle.pl_follow.specs.declared.texts.FoldedTexts.{FoldedTexts}
use Rattle.pl_follow.proofs.EntriesFollow.{Entry}
use Rattle.pl_words.specs.declared.bar_text.BarText.{BarText}
use Rattle.pl_words.specs.declared.stands.Standing.{Standing}
use Rattle.pl_bar.specs.declared.offers.Offers.{Offers}
use Rattle.pl_bar.specs.Cost.{page_cost}
use Rattle.pl_bar.specs.Offers.{GoOn, TellsTier, filled_up, has_counted, ids_of, in_first, in_second, is_boundary}
use Rattle.pl_bar.specs.Offers.{is_inside, up_to}
use Rattle.pl_bar.specs.Sketches.{AreSketched, TellsTexts}
use Rattle.pl_bar.proofs.FilledLists.{filled_all, filled_full, filled_more, filled_none, next_up_to, one_kept}

-- the first entry stands at the end of the list that is gone through from there
pub first_entry : (old new : List Entry) (entry : Entry) → old ≡ new ++ entry ∷ []
    → ids_of old ≡ entry.0.1 ∷ ids_of new
first_entry old new entry is =
    ap ids_of is ∙ ap (map (λ (e : Entry). e.0.1)) (reverse-append new (entry ∷ []))

module _ (store : Store) (asked : BarText) where
  abbrev first : PageId → Bool
  first = in_first store asked

  abbrev second : PageId → Bool
  second = in_second store asked

  -- the records that may be read until the first list is full
  abbrev cost_of : Offers → List PageId → ℕ
  cost_of offers ids = sum_by (page_cost store) (up_to first (offers.max - length offers.first.items) ids)

  -- with these ids still to come, the lists become what they become with all
  pub record Comes (all : List PageId) (old now : Offers) (before after : ℕ) (ids : List PageId) : Type 0 where
    pub most : now.max ≡ old.max
    pub first : filled_up old.max now.first.items (filter (in_first store asked) ids)
        ≡ filled_up old.max old.first.items (filter (in_first store asked) all)
    pub second : filled_up old.max now.second.items (filter (in_second store asked) ids)
        ≡ filled_up old.max old.second.items (filter (in_second store asked) all)
    pub cost : after + cost_of now ids ≤ before + cost_of old all
    pub counted : AllByRecursion (λ (id : PageId). has_counted store id ≡ true) ids

  pub comes_all : (all : List PageId) (old : Offers) (before : ℕ)
      → AllByRecursion (λ (id : PageId). has_counted store id ≡ true) all → Comes all old old before before all
  comes_all all old before counted =
      record { most = refl; first = refl; second = refl; cost = omega arith; counted = counted }

  -- where the first list is full, or none comes
  pub full : (all ids : List PageId) (old now : Offers) (before after : ℕ) → Comes all old now before after ids
      → nat_le now.max (length now.first.items) ≡ true → GoOn store asked all old now
  full all ids old now before after c is =
      let within : now.max ≤ length now.first.items = grind (arith, nat_tests) in
      let same : now.max ≡ old.max = c.most in
      record {
        most = c.most;
        first =
            sym (filled_full old.max now.first.items (filter (in_first store asked) ids) (omega arith)) ∙ c.first;
        second = λ room. absurd (omega arith);
      }

  pub ended : (all : List PageId) (old now : Offers) (before after : ℕ) → Comes all old now before after []
      → GoOn store asked all old now
  ended all old now before after c =
      record {
        most = c.most;
        first = sym (filled_none old.max now.first.items) ∙ c.first;
        second = λ room. sym (filled_none old.max now.second.items) ∙ c.second;
      }

  pub cost_so_far : (all ids : List PageId) (old now : Offers) (before after : ℕ)
      → Comes all old now before after ids → after ≤ before + cost_of old all
  cost_so_far all ids old now before after c = omega (arith, c.cost)

  module _ (all ids : List PageId) (id : PageId) (old now new : Offers) (before after later : ℕ) (tier : Standing)
      (c : Comes all old now before after (id ∷ ids)) (room : nat_le now.max (length now.first.items) ≡ false)
      (told : TellsTier store asked id tier) (reads : later ≤ after + page_cost store id) (most : new.max ≡ now.max)
      (is_first : new.first.items ≡ now.first.items ++ filter (λ _. is_boundary tier) (id ∷ []))
      (is_second : new.second.items
      ≡ filled_up now.max now.second.items (filter (λ _. is_inside tier) (id ∷ []))) where
    has_room : length now.first.items < now.max
    has_room = grind (arith, nat_tests)

    same_max : now.max ≡ old.max
    same_max = c.most

    one_first : filter (λ _. is_boundary tier) (id ∷ []) ≡ filter first (id ∷ [])
    one_first = ap (λ b. if b then id ∷ [] else []) told.first

    one_second : filter (λ _. is_inside tier) (id ∷ []) ≡ filter second (id ∷ [])
    one_second = ap (λ b. if b then id ∷ [] else []) told.second

    firsts : new.first.items ≡ filled_up old.max now.first.items (filter first (id ∷ []))
    firsts =
        is_first ∙ ap (λ ys. now.first.items ++ ys) one_first
        ∙ sym (filled_all old.max now.first.items (filter first (id ∷ [])) (omega (
          arith,
          has_room,
          same_max,
          one_kept first id,
        )))

    seconds : new.second.items ≡ filled_up old.max now.second.items (filter second (id ∷ []))
    seconds =
        is_second ∙ ap (λ ys. filled_up now.max now.second.items ys) one_second
        ∙ ap (λ m. filled_up m now.second.items (filter second (id ∷ []))) same_max

    goes : (list : Offers → List PageId) (test : PageId → Bool)
        → list new ≡ filled_up old.max (list now) (filter test (id ∷ []))
        → filled_up old.max (list now) (filter test (id ∷ ids)) ≡ filled_up old.max (list old) (filter test all)
        → filled_up old.max (list new) (filter test ids) ≡ filled_up old.max (list old) (filter test all)
    goes list test is so =
        ap (λ xs. filled_up old.max xs (filter test ids)) is
        ∙ filled_more old.max (list now) (filter test (id ∷ [])) (filter test ids)
        ∙ ap (filled_up old.max (list now)) (sym (filter-append test (id ∷ []) ids)) ∙ so

    left_is : new.max - length new.first.items
        ≡ (if first id then now.max - length now.first.items - 1 else now.max - length now.first.items)
    left_is =
        ap (λ xs. new.max - length xs) (is_first ∙ ap (λ ys. now.first.items ++ ys) one_first) ∙ choose (first id)
      where
        choose : (b : Bool) → new.max - length (now.first.items ++ (if b then id ∷ [] else []))
            ≡ (if b then now.max - length now.first.items - 1 else now.max - length now.first.items)
        choose true = omega (arith, most, length-append now.first.items (id ∷ []))
        choose false = omega (arith, most, length-append now.first.items [])

    costs : page_cost store id + cost_of new ids ≡ cost_of now (id ∷ ids)
    costs =
        let some : 0 < now.max - length now.first.items = omega (arith, has_room) in
        ap (λ m. page_cost store id + sum_by (page_cost store) (up_to first m ids)) left_is
        ∙ sym (ap (sum_by (page_cost store)) (next_up_to first (now.max - length now.first.items) id ids some)
        ∙ sum_by-cons (page_cost store) id (up_to first
        (if first id then now.max - length now.first.items - 1 else now.max - length now.first.items) ids))

    pub one_more : Comes all old new before later ids
    one_more =
        record {
          most = most ∙ c.most;
          first = goes (λ o. o.first.items) first firsts c.first;
          second = goes (λ o. o.second.items) second seconds c.second;
          cost = omega (arith, costs, reads, c.cost);
          counted = c.counted.1;
        }

-- with these entries still to come, of which each has the sketch of its page's texts
pub record Going (store : Store) (asked : BarText) (texts : FoldedTexts) (all : List PageId) (old now : Offers)
    (before after : ℕ) (entries : List Entry) : Type 0 where
  pub comes : Comes store asked all old now before after (ids_of entries)
  pub sketched : AllByRecursion (λ (e : Entry). TellsTexts texts e.0.1 e.1) (reverse entries)

pub all_going : (store : Store) (asked : BarText) (texts : FoldedTexts) (old : Offers) (before : ℕ)
    (entries : List Entry) → All (λ (id : PageId). has_counted store id ≡ true) (ids_of entries)
    → AreSketched texts (reverse entries)
    → Going store asked texts (ids_of entries) old old before before entries
all_going store asked texts old before entries counted sketched =
    record {
      comes = comes_all store asked (ids_of entries) old before
          (recursion_from_All (λ (id : PageId). has_counted store id ≡ true) (ids_of entries) counted);
      sketched =
          recursion_from_All (λ (e : Entry). TellsTexts texts e.0.1 e.1) (reverse entries) sketched;
    }

-- the entry that comes next, and those behind it
pub record Next (store : Store) (asked : BarText) (texts : FoldedTexts) (all : List PageId) (old now : Offers)
    (before after : ℕ) (entry : Entry) (rest : List Entry) : Type 0 where
  pub comes : Comes store asked all old now before after (entry.0.1 ∷ ids_of rest)
  pub sketch : TellsTexts texts entry.0.1 entry.1
  pub sketched : AllByRecursion (λ (e : Entry). TellsTexts texts e.0.1 e.1) (reverse rest)

pub next_of : (store : Store) (asked : BarText) (texts : FoldedTexts) (all : List PageId) (old now : Offers)
    (before after : ℕ) (entries rest : List Entry) (entry : Entry) → entries ≡ rest ++ entry ∷ []
    → Going store asked texts all old now before after entries
    → Next store asked texts all old now before after entry rest
next_of store asked texts all old now before after entries rest entry is going =
    let turned : reverse entries ≡ entry ∷ reverse rest = ap reverse is ∙ reverse-append rest (entry ∷ []) in
    let told = subst (AllByRecursion (λ (e : Entry). TellsTexts texts e.0.1 e.1)) turned going.sketched in
    record {
      comes = subst (Comes store asked all old now before after) (first_entry entries rest entry is) going.comes;
      sketch = told.0;
      sketched = told.1;
    }

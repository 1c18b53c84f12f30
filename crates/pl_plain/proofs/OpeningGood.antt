-- The opening store is good and sound, whatever ids come next.
use Rattle.std.proofs.Common.{◌<◌, ◌≤◌, ℕ, [], ◌∷◌, arith}
use Rattle.std.proofs.lemmas.List.Elements.{All-from_recursion, All-nil}
use Rattle.pl_base.specs.declared.id.Ids.{Ids}
use Rattle.pl_base.specs.Good.{AreIds, IsGood, end_of_ids}
use Rattle.pl_base.specs.Rows.{IsSound, opening_with, store_of}
use Rattle.pl_base.proofs.RootsLaws.{has_roots, no_tags, roots_are_good, roots_are_tree, roots_ascend}

-- the roots have the ids 1 to 6
pub root_ids : (next : ℕ) → 7 ≤ next → next ≤ end_of_ids → AreIds 7 next (1 ∷ 2 ∷ 3 ∷ 4 ∷ 5 ∷ 6 ∷ [])
root_ids next first last =
    record {
      ascending = roots_ascend;
      given =
          All-from_recursion (λ id. (0 < id) × (id < next)) (1 ∷ 2 ∷ 3 ∷ 4 ∷ 5 ∷ 6 ∷ []) (
            (omega arith, omega arith),
            (
              (omega arith, omega arith),
              (
                (omega arith, omega arith),
                (
                  (omega arith, omega arith),
                  ((omega arith, omega arith), ((omega arith, omega arith), tt)),
                ),
              ),
            ),
          );
      next_first = first;
      next_last = last;
    }

pub no_ids : (next : ℕ) → 1 ≤ next → next ≤ end_of_ids → AreIds 1 next []
no_ids next first last =
    record { ascending = λ k h. absurd (omega arith); given = All-nil _; next_first = first; next_last = last }

opening_is_good : (ids : Ids) → 1 ≤ ids.page → 1 ≤ ids.visit → 7 ≤ ids.item → ids.page ≤ end_of_ids
    → ids.visit ≤ end_of_ids → ids.item ≤ end_of_ids → IsGood (store_of (opening_with ids))
opening_is_good ids page visit item page_last visit_last item_last =
    record {
      day = omega arith;
      page_ids = no_ids ids.page page page_last;
      visit_ids = no_ids ids.visit visit visit_last;
      item_ids = root_ids ids.item item item_last;
      pages = All-nil _;
      urls = λ i j d before within same. absurd (omega arith);
      visits = All-nil _;
      items = roots_are_good (store_of (opening_with ids));
      roots = has_roots (store_of (opening_with ids));
      tree = roots_are_tree;
      tags = no_tags (store_of (opening_with ids));
    }

-- no page has a mark or an origin
pub opening_is_sound : (ids : Ids) → 1 ≤ ids.page → 1 ≤ ids.visit → 7 ≤ ids.item → ids.page ≤ end_of_ids
    → ids.visit ≤ end_of_ids → ids.item ≤ end_of_ids → IsSound (opening_with ids)
opening_is_sound ids page visit item page_last visit_last item_last =
    record {
      good = opening_is_good ids page visit item page_last visit_last item_last;
      right = record { frecencies = All-nil _; counts = All-nil _; hidden = All-nil _ };
      totals = All-nil _;
    }

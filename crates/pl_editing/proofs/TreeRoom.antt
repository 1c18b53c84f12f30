-- What holds where neither ids nor slots are wanting for a tree.
use Rattle.std.proofs.Common.{◌≡◌, ◌≤◌, ◌∙◌, ℕ, Bool, true, false, Option, None, Some, ap, arith, nat_lt, refl, sym}
use Rattle.std.proofs.lemmas.Bool.Decides.{nat_tests}
use Rattle.std.specs.Prelude.{if◌then◌else◌}
use Rattle.pl_base.specs.declared.refusal.Refusal.{Refusal}
use Rattle.pl_base.specs.declared.id.IdKind.TheVariants.{Page as PageIds, Item as ItemIds}
use Rattle.pl_base.specs.declared.refusal.Refusal.TheVariants.{Full, NoIds, TooMany}
use Rattle.pl_base.specs.Good.{end_of_ids}
use Rattle.pl_base.specs.Live.{live_slots, slot_limit}
use Rattle.pl_base.specs.Store.{Store}
use Rattle.pl_nbread.specs.declared.tree.Tree.{Tree}
use Rattle.pl_graft.specs.Import.{most_rows, row_count}
use Rattle.pl_step.specs.Step.{import_refusal, is_full, tree_room}
use Rattle.pl_editing.proofs.BookmarkAllowed.{none_of}

pub record HasTreeRoom (tree : Tree) (after : Store) : Type 0 where
  pub few : row_count tree ≤ most_rows
  pub pages : after.ids.page ≤ end_of_ids
  pub items : after.ids.item ≤ end_of_ids
  pub live : live_slots after ≤ slot_limit

not_less : (m n : ℕ) → nat_lt m n ≡ false → n ≤ m
not_less m n is = grind (arith, nat_tests, is)

few_live : (limit before after : ℕ) → limit ≤ slot_limit → before ≤ slot_limit → is_full limit before after ≡ false
    → after ≤ slot_limit
few_live limit before after most was is = grind (arith, nat_tests, is)

pub tree_room_of : (limit : ℕ) (store : Store) (tree : Tree) (after : Store) (refused : Option Refusal)
    → refused ≡ import_refusal limit store tree after → refused ≡ None → limit ≤ slot_limit
    → live_slots store ≤ slot_limit → HasTreeRoom tree after
tree_room_of limit store tree after refused is none most was =
    choose (nat_lt most_rows (row_count tree)) refl (sym is ∙ none)
  where
    choose : (b : Bool) → nat_lt most_rows (row_count tree) ≡ b
        → (if b then Some (TooMany (row_count tree)) else tree_room limit store after) ≡ None → HasTreeRoom tree after
    choose true many no_cause = absurd (cc)
    choose false few no_cause =
        let parts =
        none_of (nat_lt end_of_ids after.ids.page) (nat_lt end_of_ids after.ids.item)
        (is_full limit (live_slots store) (live_slots after)) (NoIds PageIds) (NoIds ItemIds) (Full (live_slots after))
        no_cause in
        record {
          few = not_less most_rows (row_count tree) few;
          pages = not_less end_of_ids after.ids.page parts.0;
          items = not_less end_of_ids after.ids.item parts.1;
          live = few_live limit (live_slots store) (live_slots after) most was parts.2;
        }

not_more : (m n : ℕ) → n ≤ m → nat_lt m n ≡ false
not_more m n few = grind (arith, nat_tests, few)

-- the rows are few enough, so ids and slots decide
pub few_rows : (limit : ℕ) (store : Store) (tree : Tree) (after : Store) (count : ℕ) → count ≡ row_count tree
    → count ≤ most_rows → tree_room limit store after ≡ import_refusal limit store tree after
few_rows limit store tree after count is few =
    sym (ap (λ (b : Bool). if b then Some (TooMany (row_count tree)) else tree_room limit store after)
    (ap (nat_lt most_rows) (sym is) ∙ not_more most_rows count few))

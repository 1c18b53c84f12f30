-- The roots stay where item 1 is found as before, and the five below it but for their children.
use Rattle.std.proofs.Common.{◌≡◌, ◌≤◌, ◌∙◌, ℕ, List, [], Option, Some, None, ap, arith}
use Rattle.std.specs.List.{range_with_len}
use Rattle.std.specs.Option.{IsSomeAnd, option_map}
use Rattle.std.proofs.lemmas.List.Elements.{All-from_recursion, recursion_from_All}
use Rattle.std.proofs.lemmas.Option.{same_Some}
use Rattle.pl_base.specs.Good.{HasRoots, IsTopFolder}
use Rattle.pl_base.specs.Store.{Item, Store, item_id, root_folder}
use Rattle.pl_base.specs.Tree.{item_at}
use Rattle.pl_base.proofs.ItemLaws.{bare}
use Rattle.pl_base.proofs.Among.{In, all_from_in, at_in}

-- the numbers of the five folders below item 1
abbrev pub tops : List ℕ
tops = range_with_len 2 5

pub top_range : (n : ℕ) → In n tops → (2 ≤ n) × (n ≤ 6)
top_range n h =
    at_in (λ m. (2 ≤ m) × (m ≤ 6)) tops n (
      (omega arith, omega arith),
      (
        (omega arith, omega arith),
        (
          (omega arith, omega arith),
          (
            (omega arith, omega arith),
            ((omega arith, omega arith), tt),
          ),
        ),
      ),
    )
    h

still_top : (n : ℕ) (o p : Option Item) → option_map bare p ≡ option_map bare o
    → IsSomeAnd o (λ (i : Item). i ≡ root_folder n i.children)
    → IsSomeAnd p (λ (i : Item). i ≡ root_folder n i.children)
still_top n None p alike top = absurd top
still_top n (Some i) None alike top = absurd (cc)
still_top n (Some i) (Some j) alike top =
    let same : bare j ≡ root_folder n [] = same_Some (bare j) (bare i) alike ∙ ap bare top in
    ap (λ (k : Item). record k { children = j.children }) same

pub kept_roots : (old new : Store) → item_at new.items (item_id 1) ≡ item_at old.items (item_id 1)
    → ((n : ℕ) → In n tops
    → option_map bare (item_at new.items (item_id n)) ≡ option_map bare (item_at old.items (item_id n)))
    → HasRoots old → HasRoots new
kept_roots old new first alike roots =
    record {
      root = first ∙ roots.root;
      top =
          All-from_recursion (IsTopFolder new) tops
          (all_from_in (IsTopFolder new) tops (λ n h.
          still_top n (item_at old.items (item_id n)) (item_at new.items (item_id n)) (alike n h)
          (at_in (IsTopFolder old) tops n (recursion_from_All (IsTopFolder old) tops roots.top) h)));
    }

-- A store whose items are the six roots is good as far as its items go.
use Rattle.std.proofs.Common.{◌≡◌, ◌≢◌, ℕ, All, List, [], ◌∷◌, ap, arith, get_or, map, refl, suc, zero}
use Rattle.std.specs.Prelude.{IsTrue}
use Rattle.std.specs.List.Sorted.{IsStrictlyIncreasing}
use Rattle.std.specs.List.{AllPairs, range_with_len}
use Rattle.std.specs.Option.{IsSomeAnd}
use Rattle.std.proofs.lemmas.List.Elements.{All-cons, All-from_recursion, All-head, All-map, All-nil}
use Rattle.std.proofs.lemmas.List.Kept.{AllPairs-from_increasing}
use Rattle.std.proofs.lemmas.Str.{IsUtf8-nil}
use Rattle.pl_base.specs.declared.id.ItemId.{ItemId}
use Rattle.pl_base.specs.Good.{HasRoots, HasTags, IsGoodItem, IsTree}
use Rattle.pl_base.specs.Store.{Item, Store, item_id, root_folder, roots, top_folders}
use Rattle.pl_base.specs.Tree.{has_item, item_at}
use Rattle.pl_base.proofs.ListLaws.{All-from_map, AllPairs-map}

-- the store with the six roots as its only items
abbrev pub with_roots : Store → Store
with_roots store = record store { items = roots }

root_is_good : (store : Store) (n : ℕ) (children : List ItemId) → IsGoodItem store (root_folder n children)
root_is_good store n children =
    record {
      title = (IsUtf8-nil, omega arith);
      added = omega arith;
      modified = omega arith;
      bookmark = (λ h. absurd (cc), λ h. absurd (cc));
      page = tt;
      children = λ _. refl;
    }

-- what holds of each folder from 2 to 6, and of the root, holds of all
each_root : (P : Item → Type 0) → P (root_folder 1 top_folders) → ((n : ℕ) → P (root_folder n [])) → All P roots
each_root P root top =
    All-cons P (root_folder 1 top_folders) (map (λ n. root_folder n []) (range_with_len 2 5)) root
    (All-map P (λ n. root_folder n []) (range_with_len 2 5) (λ k d within. top (get_or (range_with_len 2 5) k d)))

pub roots_are_good : (store : Store) → All (IsGoodItem store) roots
roots_are_good store = each_root (IsGoodItem store) (root_is_good store 1 top_folders) (λ n. root_is_good store n [])

pub has_roots : (store : Store) → HasRoots (with_roots store)
has_roots store =
    record {
      root = refl;
      top =
          All-from_recursion
          (λ n. IsSomeAnd (item_at roots (item_id n)) (λ i. i ≡ root_folder n i.children))
          (range_with_len 2 5) (refl, (refl, (refl, (refl, (refl, tt)))));
    }

pub roots_ascend : IsStrictlyIncreasing (1 ∷ 2 ∷ 3 ∷ 4 ∷ 5 ∷ 6 ∷ [])
roots_ascend zero h = omega arith
roots_ascend (suc zero) h = omega arith
roots_ascend (suc (suc zero)) h = omega arith
roots_ascend (suc (suc (suc zero))) h = omega arith
roots_ascend (suc (suc (suc (suc zero)))) h = omega arith
roots_ascend (suc (suc (suc (suc (suc k))))) h = absurd (omega arith)

no_root_twice : AllPairs (λ (a b : ItemId). a ≢ b) (map item_id (1 ∷ 2 ∷ 3 ∷ 4 ∷ 5 ∷ 6 ∷ []))
no_root_twice =
    AllPairs-map (λ (a b : ItemId). a ≢ b) item_id (1 ∷ 2 ∷ 3 ∷ 4 ∷ 5 ∷ 6 ∷ [])
    (λ i j d before within same.
    let below = AllPairs-from_increasing (1 ∷ 2 ∷ 3 ∷ 4 ∷ 5 ∷ 6 ∷ []) roots_ascend i j d before within in
    omega (arith, ap (λ (c : ItemId). c.0) same))

pub roots_are_tree : IsTree roots
roots_are_tree =
    record {
      known =
          All-from_recursion (λ c. IsTrue (has_item roots c)) top_folders
          (refl, (refl, (refl, (refl, (refl, tt)))));
      once = no_root_twice;
      reached =
          λ holds first passes.
          let below =
          All-head (λ (i : Item). IsTrue (holds i.id) → All (λ c. IsTrue (holds c)) i.children)
          (root_folder 1 top_folders) (map (λ n. root_folder n []) (range_with_len 2 5)) passes first in
          All-cons (λ (i : Item). IsTrue (holds i.id)) (root_folder 1 top_folders)
          (map (λ n. root_folder n []) (range_with_len 2 5)) first
          (All-map (λ (i : Item). IsTrue (holds i.id)) (λ n. root_folder n []) (range_with_len 2 5)
          (All-from_map (λ c. IsTrue (holds c)) item_id (range_with_len 2 5) below));
    }

pub no_tags : (store : Store) → HasTags (with_roots store)
no_tags store = record { folders = All-nil _; names = λ i j d before within same. absurd (omega arith) }

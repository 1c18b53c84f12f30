-- A tree has no more children than items.
use Rattle.std.proofs.Common.{◌≡◌, ◌≢◌, ◌<◌, ◌≤◌, ◌∙◌, ◌==◌, ◌++◌, ℕ, Bool, true, false, not, List, [], ◌∷◌, ap}
use Rattle.std.proofs.Common.{Some, arith, filter, get_or, if◌then◌else◌, length, refl, rules, suc, sym, zero}
use Rattle.std.proofs.lemmas.List.{length-append}
use Rattle.std.specs.List.{All, AllByRecursion, AllPairs}
use Rattle.std.proofs.lemmas.Bool.{eqb-true, true≢false}
use Rattle.std.proofs.lemmas.List.Elements.{All-cons, All-head, All-nil, All-tail, recursion_from_All}
use Rattle.std.proofs.lemmas.List.Filters.{length-filter_both}
use Rattle.std.proofs.lemmas.List.Kept.{AllPairs-filter}
use Rattle.pl_base.specs.declared.id.ItemId.{ItemId}
use Rattle.pl_base.specs.Good.{HasRoots, IsTree, child_ids}
use Rattle.pl_base.specs.Store.{Item, Store, item_id, root_folder, top_folders}
use Rattle.pl_base.specs.Tree.{has_item, item_at}

-- ids of which no two are the same
abbrev AreDistinct : List ItemId → Type 0
AreDistinct ids = AllPairs (λ (a b : ItemId). a ≢ b) ids

passing : {X : Type 0} (P Q : X → Type 0) (p : X → Bool) (xs : List X) → ((x : X) → P x → p x ≡ true → Q x)
    → AllByRecursion P xs → AllByRecursion Q (filter p xs)
passing P Q p [] f all = tt
passing P Q p (x ∷ xs) f all = choose (p x) refl (passing P Q p xs f all.1)
  where
    choose : (b : Bool) → p x ≡ b → AllByRecursion Q (filter p xs)
        → AllByRecursion Q (if b then x ∷ filter p xs else filter p xs)
    choose true is rest = (f x all.0 is, rest)
    choose false is rest = rest

-- of distinct ids at most one is this one
one_of : (id : ItemId) (ids : List ItemId) → AreDistinct ids → AllByRecursion (λ c. c ≡ id) ids → length ids ≤ 1
one_of id [] distinct same = omega arith
one_of id (a ∷ []) distinct same = omega arith
one_of id (a ∷ b ∷ ids) distinct same =
    absurd (distinct 0 1 a (omega arith) (omega arith) (same.0 ∙ sym same.1.0))

behind_first : (id : ItemId) (ids : List ItemId) → AreDistinct (id ∷ ids) → AreDistinct ids
behind_first id ids distinct i j d before within = distinct (suc i) (suc j) d (omega arith) (omega arith)

all_ids : (ids : List ItemId) → AllByRecursion (λ _. Unit {0}) ids
all_ids [] = tt
all_ids (id ∷ ids) = (tt, all_ids ids)

-- distinct ids that items have are no more than the items
pub few_ids : (items : List Item) (ids : List ItemId) → AreDistinct ids
    → AllByRecursion (λ c. has_item items c ≡ true) ids → length ids ≤ length items
few_ids [] [] distinct known = omega arith
few_ids [] (id ∷ ids) distinct known = absurd (true≢false (sym known.0))
few_ids (i ∷ items) ids distinct known =
    let this : ItemId → Bool = λ c. i.id.0 == c.0 in
    let others : ItemId → Bool = λ c. not (i.id.0 == c.0) in
    let one : length (filter this ids) ≤ 1 =
    one_of i.id (filter this ids) (AllPairs-filter (λ (a b : ItemId). a ≢ b) this ids distinct)
    (passing (λ _. Unit {0}) (λ c. c ≡ i.id) this ids
    (λ c _ is. ap item_id (sym (eqb-true i.id.0 c.0 is))) (all_ids ids)) in
    let rest : length (filter others ids) ≤ length items =
    few_ids items (filter others ids) (AllPairs-filter (λ (a b : ItemId). a ≢ b) others ids distinct)
    (passing (λ c. has_item (i ∷ items) c ≡ true) (λ c. has_item items c ≡ true) others ids
    (λ c has is. other_has c has is) known) in
    omega (arith, one, rest, length-filter_both this others (λ _. refl) ids)
  where
    other_has : (c : ItemId) → has_item (i ∷ items) c ≡ true → not (i.id.0 == c.0) ≡ true → has_item items c ≡ true
    other_has c has is = search rules

-- the items of a tree have no more children than there are items
pub few_children : (items : List Item) → IsTree items → length (child_ids items) ≤ length items
few_children items tree =
    few_ids items (child_ids items)
    (behind_first (item_id 1) (child_ids items) tree.once)
    (recursion_from_All (λ c. has_item items c ≡ true) (child_ids items) tree.known)

-- an item has no more children than all have
pub children_within : (items : List Item) (k : ℕ) (d : Item) → k < length items
    → length (get_or items k d).children ≤ length (child_ids items)
children_within [] k d within = absurd (omega arith)
children_within (i ∷ items) zero d within = omega (arith, length-append i.children (child_ids items))
children_within (i ∷ items) (suc k) d within =
    omega (arith, length-append i.children (child_ids items), children_within items k d (omega arith))

-- what holds of all of two lists holds of each
All-parts : {A : Type 0} (P : A → Type 0) (xs ys : List A) → All P (xs ++ ys) → All P xs × All P ys
All-parts P [] ys all = (All-nil P, all)
All-parts P (x ∷ xs) ys all =
    let rest = All-parts P xs ys (All-tail P x (xs ++ ys) all) in
    (All-cons P x xs (All-head P x (xs ++ ys) all) rest.0, rest.1)

-- what holds of the children of all holds of those of one
pub children_known : (P : ItemId → Type 0) (items : List Item) (k : ℕ) (d : Item) → k < length items
    → All P (child_ids items) → All P (get_or items k d).children
children_known P [] k d within known = absurd (omega arith)
children_known P (i ∷ items) zero d within known =
    (All-parts P i.children (child_ids items) known).0
children_known P (i ∷ items) (suc k) d within known =
    children_known P items k d (omega arith) (All-parts P i.children (child_ids items) known).1

pub some_items : (store : Store) → HasRoots store → 0 < length store.items
some_items store has = some store.items has.root
  where
    some : (items : List Item) → item_at items (item_id 1) ≡ Some (root_folder 1 top_folders) → 0 < length items
    some [] at = absurd (cc)
    some (i ∷ items) at = omega arith

-- Each child of a tree has one parent.
use Rattle.std.proofs.Common.{◌≡◌, ◌≢◌, ◌∙◌, ◌++◌, ◌==◌, ◌||◌, Bool, true, false, List, [], ◌∷◌, Option, Some, None}
use Rattle.std.proofs.Common.{ap, arith, find, refl, suc, sym}
use Rattle.std.specs.List.{AllByRecursion, AllPairs, list_any}
use Rattle.std.specs.Option.{option_map}
use Rattle.std.proofs.lemmas.Bool.{false_from_ne_true}
use Rattle.std.proofs.lemmas.List.Elements.{recursion_from_All}
use Rattle.std.proofs.lemmas.List.Folds.{list_any-append}
use Rattle.pl_base.specs.declared.id.ItemId.{ItemId}
use Rattle.pl_base.specs.Good.{IsTree, child_ids}
use Rattle.pl_base.specs.Store.{Item, item_id}
use Rattle.pl_base.specs.Tree.{has_child, parent_of}
use Rattle.pl_base.proofs.ItemLookUps.{same_item}
use Rattle.pl_base.proofs.ListLaws.{weaker}
use Rattle.pl_base.proofs.LookUps.{found_some}

-- ---- ids that stand once

-- an id is among some
abbrev pub is_among : ItemId → List ItemId → Bool
is_among id ids = list_any (λ (c : ItemId). c.0 == id.0) ids

abbrev pub Once : List ItemId → Type 0
Once [] = Unit {0}
Once (c ∷ cs) = AllByRecursion (λ (d : ItemId). c ≢ d) cs × Once cs

pub once : (ids : List ItemId) → AllPairs (λ (a b : ItemId). a ≢ b) ids → Once ids
once [] pairs = tt
once (c ∷ cs) pairs = (
  recursion_from_All (λ (d : ItemId). c ≢ d) cs (λ k d within. pairs 0 (suc k) d (omega arith) (omega arith)),
  once cs (λ i j d before within. pairs (suc i) (suc j) d (omega arith) (omega arith)),
)

pub once_behind : (cs ds : List ItemId) → Once (cs ++ ds) → Once ds
once_behind [] ds one = one
once_behind (c ∷ cs) ds one = once_behind cs ds one.1

not_among : (cs ds : List ItemId) (c id : ItemId) → AllByRecursion (λ (d : ItemId). c ≢ d) (cs ++ ds) → c ≡ id
    → is_among id ds ≡ true → ⊥
not_among [] [] c id apart same some = absurd (cc)
not_among [] (d ∷ ds) c id apart same some =
    choose (d.0 == id.0) refl some (not_among [] ds c id apart.1 same)
  where
    choose : (b : Bool) → (d.0 == id.0) ≡ b → (b || is_among id ds) ≡ true → (is_among id ds ≡ true → ⊥) → ⊥
    choose true is some rest = apart.0 (same ∙ sym (same_item d id is))
    choose false is some rest = rest some
not_among (b ∷ cs) ds c id apart same some = not_among cs ds c id apart.1 same some

-- no id stands in front and behind
pub not_both : (cs ds : List ItemId) (id : ItemId) → Once (cs ++ ds) → is_among id cs ≡ true → is_among id ds ≡ true
    → ⊥
not_both [] ds id one some other = absurd (cc)
not_both (c ∷ cs) ds id one some other =
    choose (c.0 == id.0) refl some (λ there. not_both cs ds id one.1 there other)
  where
    choose : (b : Bool) → (c.0 == id.0) ≡ b → (b || is_among id cs) ≡ true → (is_among id cs ≡ true → ⊥) → ⊥
    choose true is some rest = not_among cs ds c id one.0 (same_item c id is) other
    choose false is some rest = rest some

-- ---- parents

pub any_child : (id : ItemId) (items : List Item) → list_any (has_child id) items ≡ is_among id (child_ids items)
any_child id [] = refl
any_child id (i ∷ items) =
    ap (λ (b : Bool). has_child id i || b) (any_child id items)
    ∙ sym (list_any-append (λ (c : ItemId). c.0 == id.0) i.children (child_ids items))

-- an item with the child is the one that is found
abbrev pub IsParent : List Item → Item → Type 0
IsParent items p = (id : ItemId) → has_child id p ≡ true → find (has_child id) items ≡ Some p

pub parents_found : (items : List Item) → Once (child_ids items) → AllByRecursion (IsParent items) items
parents_found [] one = tt
parents_found (q ∷ qs) one = (
  λ id has. rw has refl,
  weaker (IsParent qs) (IsParent (q ∷ qs)) qs
      (λ p found id has.
      rw (false_from_ne_true (has_child id q)
      (λ is. not_both q.children (child_ids qs) id one is
      (sym (any_child id qs) ∙ found_some (has_child id) qs p (found id has))))
      (found id has))
      (parents_found qs (once_behind q.children (child_ids qs) one)),
)

pub parents : (items : List Item) → IsTree items → AllByRecursion (IsParent items) items
parents items tree = parents_found items (once (item_id 1 ∷ child_ids items) tree.once).1

-- item 1 is no child
pub root_alone : (items : List Item) → IsTree items → parent_of items (item_id 1) ≡ None
root_alone items tree = choose (find (has_child (item_id 1)) items) refl
  where
    choose : (o : Option Item) → find (has_child (item_id 1)) items ≡ o
        → option_map (λ (i : Item). i.id) o ≡ None
    choose None is = refl
    choose (Some p) is =
        absurd (not_both (item_id 1 ∷ []) (child_ids items) (item_id 1) (once (item_id 1 ∷ child_ids items) tree.once)
        refl (sym (any_child (item_id 1) items) ∙ found_some (has_child (item_id 1)) items p is))

-- What lies in an item: the item itself, and what has a parent that lies in it.
use Rattle.std.proofs.Common.{◌≡◌, ◌≢◌, ◌==◌, ◌∙◌, Bool, true, false, List, Some, subst, sym}
use Rattle.std.proofs.lemmas.Bool.{ne_eqb}
use Rattle.std.proofs.lemmas.Option.{same_Some}
use Rattle.pl_base.specs.declared.id.ItemId.{ItemId}
use Rattle.pl_base.specs.Store.{Item}
use Rattle.pl_base.specs.Tree.{has_item, parent_of}

-- the test tells what lies in the item
pub record LiesLaws (items : List Item) (top : ItemId) (inside : ItemId → Bool) : Type 0 where
  pub itself : has_item items top ≡ true → inside top ≡ true
  pub child : (c p : ItemId) → parent_of items c ≡ Some p → inside p ≡ true → inside c ≡ true
  pub parent : (c : ItemId) → inside c ≡ true → (c.0 == top.0) ≡ false
      → (p : ItemId) × ((parent_of items c ≡ Some p) × (inside p ≡ true))

-- the parent of what lies in the item, and is not the item, lies in it
pub parent_inside : (items : List Item) (top : ItemId) {inside : ItemId → Bool} (c p : ItemId)
    → LiesLaws items top inside → inside c ≡ true → c.0 ≢ top.0 → parent_of items c ≡ Some p → inside p ≡ true
parent_inside items top {inside} c p lies within other is =
    let r = lies.parent c within (ne_eqb c.0 top.0 other) in
    let same : r.0 ≡ p = same_Some r.0 p (sym r.1.0 ∙ is) in
    subst (λ (q : ItemId). inside q ≡ true) same r.1.1

-- A preorder is the same with more generations than there are.
use Rattle.std.proofs.Common.{◌≡◌, ◌∙◌, ◌+◌, ◌++◌, ◌<◌, ◌≤◌, ◌==◌, ℕ, zero, suc, List, [], ◌∷◌, Option, Some, None}
use Rattle.std.proofs.Common.{ap, append_assoc, arith, length, refl, sym}
use Rattle.std.specs.List.{filter_map, flat_map}
use Rattle.pl_base.specs.declared.id.ItemId.{ItemId}
use Rattle.pl_base.specs.Good.{IsTree}
use Rattle.pl_base.specs.Store.{Item}
use Rattle.pl_base.specs.Tree.{ancestors, children_of, item_at, parent_of}
use Rattle.pl_base.proofs.LookUps.{found_passes}
use Rattle.pl_base.proofs.ItemLookUps.{same_item}
use Rattle.pl_base.proofs.ChildrenRun.{parent_here}
use Rattle.pl_tree.proofs.AncestorLaws.{climbed, left_above}
use Rattle.pl_outline.specs.Outline.{preorder}

-- ---- how many are above

ancestors_few : (n : ℕ) (items : List Item) (at : Option ItemId) → length (ancestors n items at) ≤ n
ancestors_few zero items at = omega arith
ancestors_few (suc n) items None = omega arith
ancestors_few (suc n) items (Some id) = omega (arith, ancestors_few n items (parent_of items id))

-- no item has more above than there are
pub few_above : (items : List Item) (at : Option ItemId) → left_above items at ≤ length items
few_above items at = ancestors_few (length items) items at

some_items : (items : List Item) (folder : ItemId) (front : List ItemId) (c : ItemId) (rest : List ItemId)
    → children_of items folder ≡ front ++ c ∷ rest → 0 < length items
some_items [] folder [] c rest whole = absurd (cc)
some_items [] folder (w ∷ front) c rest whole = absurd (cc)
some_items (i ∷ items) folder front c rest whole = omega arith

-- a child has one more above than its folder
pub child_above : (items : List Item) (folder : ItemId) (front : List ItemId) (c : ItemId) (rest : List ItemId)
    → IsTree items → children_of items folder ≡ front ++ c ∷ rest
    → left_above items (Some c) ≡ left_above items (Some folder) + 1
child_above items folder front c rest tree whole =
    omega (
      arith,
      ap length (climbed items c tree (some_items items folder front c rest whole)),
      ap (left_above items) (parent_here items folder front c rest tree whole),
    )

-- ---- generations

module _ {N : Type 0} (show : ℕ → Item → N) (items : List Item) where
  -- what is shown of an item and of so many generations below it
  abbrev pub with_below : ℕ → ℕ → Item → List N
  with_below many depth i = show depth i ∷ preorder show many items (depth + 1) i.id

  -- what is shown of the items with these ids and of all below them
  abbrev pub shown : ℕ → List ItemId → List N
  shown depth ids = flat_map (with_below (length items) depth) (filter_map (item_at items) ids)

  with_first : (many depth : ℕ) (c : ItemId) (i : Item) (cs : List ItemId) → item_at items c ≡ Some i
      → flat_map (with_below many depth) (filter_map (item_at items) (c ∷ cs))
      ≡ (show depth i ∷ preorder show many items (depth + 1) c)
      ++ flat_map (with_below many depth) (filter_map (item_at items) cs)
  with_first many depth c i cs at =
      rw at
      (ap
      (λ (id : ItemId). (show depth i ∷ preorder show many items (depth + 1) id)
      ++ flat_map (with_below many depth) (filter_map (item_at items) cs))
      (same_item i.id c (found_passes (λ (j : Item). j.id.0 == c.0) items i at)))

  -- the children of a folder, where one generation more tells no more of each
  same_children : (many depth : ℕ) (folder : ItemId) (front cs : List ItemId) → IsTree items
      → children_of items folder ≡ front ++ cs → length items ≤ suc many + left_above items (Some folder)
      → ((c : ItemId) → length items ≤ many + left_above items (Some c)
      → preorder show (suc many) items (depth + 1) c ≡ preorder show many items (depth + 1) c)
      → flat_map (with_below (suc many) depth) (filter_map (item_at items) cs)
      ≡ flat_map (with_below many depth) (filter_map (item_at items) cs)
  same_children many depth folder front [] tree whole enough same = refl
  same_children many depth folder front (c ∷ cs) tree whole enough same =
      choose (item_at items c) refl
      (same_children many depth folder (front ++ c ∷ []) cs tree
      (whole ∙ sym (append_assoc front (c ∷ []) cs)) enough same)
      (same c (omega (arith, child_above items folder front c cs tree whole)))
    where
      choose : (o : Option Item) → item_at items c ≡ o
          → flat_map (with_below (suc many) depth) (filter_map (item_at items) cs)
          ≡ flat_map (with_below many depth) (filter_map (item_at items) cs)
          → preorder show (suc many) items (depth + 1) c ≡ preorder show many items (depth + 1) c
          → flat_map (with_below (suc many) depth) (filter_map (item_at items) (c ∷ cs))
          ≡ flat_map (with_below many depth) (filter_map (item_at items) (c ∷ cs))
      choose None at rest below = rw at rest
      choose (Some i) at rest below =
          with_first (suc many) depth c i cs at
          ∙ ap (λ (xs : List N). (show depth i ∷ xs)
          ++ flat_map (with_below (suc many) depth) (filter_map (item_at items) cs)) below
          ∙ ap (λ (xs : List N). (show depth i ∷ preorder show many items (depth + 1) c) ++ xs) rest
          ∙ sym (with_first many depth c i cs at)

  -- where as many are above as there are, none is below
  none_below : (depth : ℕ) (folder : ItemId) → IsTree items → length items ≤ left_above items (Some folder)
      → preorder show (suc zero) items depth folder ≡ []
  none_below depth folder tree full = choose (children_of items folder) refl
    where
      choose : (cs : List ItemId) → children_of items folder ≡ cs → preorder show (suc zero) items depth folder ≡ []
      choose [] whole =
          ap (λ (ids : List ItemId). flat_map (with_below zero depth) (filter_map (item_at items) ids)) whole
      choose (c ∷ cs) whole =
          absurd (omega (arith, child_above items folder [] c cs tree whole, few_above items (Some c)))

  -- one generation more tells no more, once there are enough
  pub enough_generations : (many depth : ℕ) (folder : ItemId) → IsTree items
      → length items ≤ many + left_above items (Some folder)
      → preorder show (suc many) items depth folder ≡ preorder show many items depth folder
  enough_generations zero depth folder tree enough = none_below depth folder tree (omega (arith, enough))
  enough_generations (suc many) depth folder tree enough =
      same_children many depth folder [] (children_of items folder) tree refl enough
      (λ c few. enough_generations many (depth + 1) c tree few)

  -- all below a folder: its children with all below them
  pub shown_children : (depth : ℕ) (folder : ItemId) → IsTree items
      → preorder show (length items) items depth folder ≡ shown depth (children_of items folder)
  shown_children depth folder tree = sym (enough_generations (length items) depth folder tree (omega arith))

  -- the first of some ids, what is below it, and the others
  pub shown_first : (depth : ℕ) (c : ItemId) (i : Item) (cs : List ItemId) → IsTree items → item_at items c ≡ Some i
      → shown depth (c ∷ cs) ≡ show depth i ∷ shown (depth + 1) (children_of items c) ++ shown depth cs
  shown_first depth c i cs tree at =
      with_first (length items) depth c i cs at
      ∙ ap (λ (xs : List N). show depth i ∷ xs ++ shown depth cs) (shown_children (depth + 1) c tree)

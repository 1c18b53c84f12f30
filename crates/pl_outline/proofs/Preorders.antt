-- Laws of preorder: what is mapped, what is shown alike, and how many generations suffice.
use Rattle.std.proofs.Common.{◌≡◌, ◌∙◌, ◌≤◌, ◌+◌, ◌-◌, ◌++◌, ◌==◌, ℕ, List, [], ◌∷◌, Option, Some, None}
use Rattle.std.proofs.Common.{ap, append_assoc, arith, length, map, refl, suc, sym, zero}
use Rattle.std.specs.List.{AllByRecursion, filter_map, flat_map}
use Rattle.std.proofs.lemmas.List.{map-append}
use Rattle.pl_base.specs.declared.id.ItemId.{ItemId}
use Rattle.pl_base.specs.Good.{IsTree}
use Rattle.pl_base.specs.Store.{Item}
use Rattle.pl_base.specs.Tree.{child_items, children_of, item_at, parent_of}
use Rattle.pl_base.proofs.LookUps.{found_passes}
use Rattle.pl_base.proofs.ItemLookUps.{same_item}
use Rattle.pl_base.proofs.ListLaws.{everyone}
use Rattle.pl_base.proofs.ChildrenRun.{parent_here}
use Rattle.pl_outline.specs.Outline.{preorder}
use Rattle.pl_outline.proofs.Generations.{enough_generations}

-- ---- lists

-- what holds of each id wherever it stands
pub each_place : (P : ItemId → Type 0) (whole front ids : List ItemId) → whole ≡ front ++ ids
    → ((before : List ItemId) (c : ItemId) (behind : List ItemId) → whole ≡ before ++ c ∷ behind → P c)
    → AllByRecursion P ids
each_place P whole front [] is holds = tt
each_place P whole front (c ∷ cs) is holds = (
  holds front c cs is,
  each_place P whole (front ++ c ∷ []) cs (is ∙ sym (append_assoc front (c ∷ []) cs)) holds,
)

flat_alike : {X Y : Type 0} (g h : X → List Y) (xs : List X) → ((x : X) → g x ≡ h x) → flat_map g xs ≡ flat_map h xs
flat_alike g h [] alike = refl
flat_alike g h (x ∷ xs) alike = rw (alike x, flat_alike g h xs alike) refl

map_flat : {X Y Z : Type 0} (f : Y → Z) (g : X → List Y) (xs : List X)
    → map f (flat_map g xs) ≡ flat_map (λ x. map f (g x)) xs
map_flat f g [] = refl
map_flat f g (x ∷ xs) = map-append f (g x) (flat_map g xs) ∙ ap (λ zs. map f (g x) ++ zs) (map_flat f g xs)

-- items that are found alike
pub found_alike : (f g : ItemId → Option Item) (ids : List ItemId) → AllByRecursion (λ (c : ItemId). f c ≡ g c) ids
    → filter_map f ids ≡ filter_map g ids
found_alike f g [] all = refl
found_alike f g (c ∷ cs) all = rw (all.0, found_alike f g cs all.1) refl

module _ {N : Type 0} where
  -- what two functions give alike of each item that is found
  pub flat_found : (g h : Item → List N) (at : ItemId → Option Item) (ids : List ItemId)
      → AllByRecursion (λ (c : ItemId). (i : Item) → at c ≡ Some i → g i ≡ h i) ids
      → flat_map g (filter_map at ids) ≡ flat_map h (filter_map at ids)
  flat_found g h at [] all = refl
  flat_found g h at (c ∷ cs) all = choose (at c) refl (flat_found g h at cs all.1)
    where
      choose : (o : Option Item) → at c ≡ o → flat_map g (filter_map at cs) ≡ flat_map h (filter_map at cs)
          → flat_map g (filter_map at (c ∷ cs)) ≡ flat_map h (filter_map at (c ∷ cs))
      choose None is rest = rw is rest
      choose (Some i) is rest = rw is (rw (all.0 i is, rest) refl)

  -- ---- shown alike

  pub shown_alike : (a b : ℕ → Item → N) (items : List Item)
      → ((c : ItemId) (i : Item) → item_at items c ≡ Some i → (d : ℕ) → a d i ≡ b d i) → (many d : ℕ) (c : ItemId)
      → preorder a many items d c ≡ preorder b many items d c
  shown_alike a b items alike zero d c = refl
  shown_alike a b items alike (suc many) d c =
      flat_found (λ (i : Item). a d i ∷ preorder a many items (d + 1) i.id)
      (λ (i : Item). b d i ∷ preorder b many items (d + 1) i.id) (item_at items) (children_of items c)
      (everyone (λ (x : ItemId). (i : Item) → item_at items x ≡ Some i
      → (a d i ∷ preorder a many items (d + 1) i.id) ≡ (b d i ∷ preorder b many items (d + 1) i.id))
      (children_of items c) (λ x i is.
      ap (λ (n : N). n ∷ preorder a many items (d + 1) i.id) (alike x i is d)
      ∙ ap (λ (ns : List N). b d i ∷ ns) (shown_alike a b items alike many (d + 1) i.id)))

pub mapped : {M N : Type 0} (f : M → N) (show : ℕ → Item → M) (many : ℕ) (items : List Item) (d : ℕ) (c : ItemId)
    → map f (preorder show many items d c) ≡ preorder (λ e i. f (show e i)) many items d c
mapped f show zero items d c = refl
mapped f show (suc many) items d c =
    map_flat f (λ (i : Item). show d i ∷ preorder show many items (d + 1) i.id) (child_items items c)
    ∙ flat_alike (λ (i : Item). f (show d i) ∷ map f (preorder show many items (d + 1) i.id))
    (λ (i : Item). f (show d i) ∷ preorder (λ e j. f (show e j)) many items (d + 1) i.id) (child_items items c)
    (λ i. ap (λ ns. f (show d i) ∷ ns) (mapped f show many items (d + 1) i.id))

-- ---- parents

pub own_id : (items : List Item) (c : ItemId) (i : Item) → item_at items c ≡ Some i → i.id ≡ c
own_id items c i is = same_item i.id c (found_passes (λ (j : Item). j.id.0 == c.0) items i is)

-- each child has its parent
pub have_parent : (items : List Item) (c : ItemId) → IsTree items
    → AllByRecursion (λ (x : ItemId). parent_of items x ≡ Some c) (children_of items c)
have_parent items c tree =
    each_place (λ (x : ItemId). parent_of items x ≡ Some c) (children_of items c) [] (children_of items c) refl
    (λ before x behind whole. parent_here items c before x behind tree whole)

-- ---- generations

module _ {N : Type 0} (show : ℕ → Item → N) (items : List Item) (tree : IsTree items) where
  so_many_more : (k d : ℕ) (c : ItemId)
      → preorder show (k + length items) items d c ≡ preorder show (length items) items d c
  so_many_more zero d c =
      let e : 0 + length items ≡ length items = omega arith in
      ap (λ (m : ℕ). preorder show m items d c) e
  so_many_more (suc k) d c =
      let e : suc k + length items ≡ suc (k + length items) = omega arith in
      ap (λ (m : ℕ). preorder show m items d c) e
      ∙ enough_generations show items (k + length items) d c tree (omega arith) ∙ so_many_more k d c

  -- as many generations as there are items show all
  pub enough : (m d : ℕ) (c : ItemId) → length items ≤ m
      → preorder show m items d c ≡ preorder show (length items) items d c
  enough m d c le =
      let e : m ≡ (m - length items) + length items = omega arith in
      ap (λ (k : ℕ). preorder show k items d c) e ∙ so_many_more (m - length items) d c

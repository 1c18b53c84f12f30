-- What is left of a tree by the places on a pile.
use Rattle.std.proofs.Common.{◌≡◌, ◌∙◌, ◌+◌, ◌++◌, ◌^◌, ◌<◌, ◌≤◌, ◌==◌, ℕ, List, [], ◌∷◌, Option, Some, None}
use Rattle.std.proofs.Common.{ap, append_assoc, arith, eq-eqb, if◌then◌else◌, length, refl, subst, sym, true}
use Rattle.std.specs.List.{AllByRecursion}
use Rattle.std.specs.Option.{option_map}
use Rattle.std.proofs.lemmas.List.{append-nil}
use Rattle.pl_base.specs.declared.id.ItemId.{ItemId}
use Rattle.pl_base.specs.Good.{IsTree}
use Rattle.pl_base.specs.Rows.{IsWellKept, Kept}
use Rattle.pl_base.specs.Store.{Item}
use Rattle.pl_base.specs.Tree.{children_of, first_item, has_item, item_at, parent_of, sibling_behind}
use Rattle.pl_base.proofs.LookUps.{part}
use Rattle.pl_base.proofs.OneParent.{Once}
use Rattle.pl_base.proofs.ChildrenRun.{apart_numbers, children_once, parent_here, sibling_here}
use Rattle.pl_tree.proofs.AncestorLaws.{left_above}
use Rattle.pl_tree.proofs.CountedChildren.{children_known, few_items}
use Rattle.pl_outline.specs.declared.outline.Place.{Place}
use Rattle.pl_outline.specs.Outline.{all_below}
use Rattle.pl_outline.specs.Pile.{placed}
use Rattle.pl_outline.proofs.Generations.{child_above, few_above, shown, shown_children, shown_first}

-- ---- places

-- a place stands among the children of a folder, no deeper than the folders above it
pub record IsPlace (items : List Item) (p : Place) : Type 0 where
  pub folder : ItemId
  pub front : List ItemId
  pub rest : List ItemId
  pub whole : children_of items folder ≡ front ++ p.item ∷ rest
  pub deep : p.depth ≤ left_above items (Some folder)

pub ids_from : ItemId → List ItemId → List ItemId
ids_from id [] = []
ids_from id (c ∷ cs) = if c.0 == id.0 then c ∷ cs else ids_from id cs

from_here : (front : List ItemId) (c : ItemId) (rest : List ItemId) → Once (front ++ c ∷ rest)
    → ids_from c (front ++ c ∷ rest) ≡ c ∷ rest
unfolding ids_from
from_here [] c rest one = rw (eq-eqb c.0 c.0 refl) refl
from_here (w ∷ front) c rest one =
    rw (apart_numbers w c (part (λ d. w ≡ d → ⊥) front c rest one.0)) (from_here front c rest one.1)

abbrev children_in : List Item → Option ItemId → List ItemId
children_in items None = []
children_in items (Some folder) = children_of items folder

-- the item of a place and its siblings behind it
abbrev ids_at : List Item → Place → List ItemId
ids_at items p = ids_from p.item (children_in items (parent_of items p.item))

ids_here : (items : List Item) (p : Place) → IsTree items → (w : IsPlace items p) → ids_at items p ≡ p.item ∷ w.rest
ids_here items p tree w =
    ap (λ (o : Option ItemId). ids_from p.item (children_in items o))
    (parent_here items w.folder w.front p.item w.rest tree w.whole)
    ∙ ap (ids_from p.item) w.whole
    ∙ from_here w.front p.item w.rest (subst Once w.whole (children_once items w.folder tree))

-- the item of a place is there
pub place_there : (items : List Item) (p : Place) → IsTree items → IsPlace items p → has_item items p.item ≡ true
place_there items p tree w =
    part (λ (c : ItemId). has_item items c ≡ true) w.front p.item w.rest
    (subst (AllByRecursion (λ (c : ItemId). has_item items c ≡ true)) w.whole (children_known items w.folder tree))

-- one folder more around a place is a number still
pub place_deep : (kept : Kept) (p : Place) → IsWellKept kept → IsPlace kept.items p → p.depth + 1 < 2 ^ 32
place_deep kept p h w = omega (arith, w.deep, few_above kept.items (Some w.folder), few_items kept h)

-- ---- the pile

last_holds : (P : Place → Type 0) (ps : List Place) (p : Place) → AllByRecursion P ps → P p
    → AllByRecursion P (ps ++ p ∷ [])
last_holds P [] p all one = (one, tt)
last_holds P (q ∷ qs) p all one = (all.0, last_holds P qs p all.1 one)

pub above_last : (P : Place → Type 0) (ps : List Place) (p : Place) → AllByRecursion P (ps ++ p ∷ [])
    → AllByRecursion P ps
above_last P [] p all = tt
above_last P (q ∷ qs) p all = (all.0, above_last P qs p all.1)

module _ {N : Type 0} (show : ℕ → Item → N) (items : List Item) where
  -- what is left, the last place first
  abbrev pub left_in : List Place → List N
  left_in [] = []
  left_in (p ∷ ps) = left_in ps ++ shown show items p.depth (ids_at items p)

  left_last : (ps : List Place) (p : Place)
      → left_in (ps ++ p ∷ []) ≡ shown show items p.depth (ids_at items p) ++ left_in ps
  left_last [] p = sym (append-nil (shown show items p.depth (ids_at items p)))
  left_last (q ∷ qs) p =
      ap (λ (xs : List N). xs ++ shown show items q.depth (ids_at items q)) (left_last qs p)
      ∙ append_assoc (shown show items p.depth (ids_at items p)) (left_in qs)
      (shown show items q.depth (ids_at items q))

  -- a place for what is left of a folder's list, if something is
  pub record IsPut (depth : ℕ) (ids : List ItemId) (ps more : List Place) : Type 0 where
    pub places : AllByRecursion (IsPlace items) more
    pub left : left_in more ≡ shown show items depth ids ++ left_in ps

  pub put : (depth : ℕ) (folder : ItemId) (front ids : List ItemId) (next : Option ItemId) (ps more : List Place)
      → IsTree items → children_of items folder ≡ front ++ ids → depth ≤ left_above items (Some folder)
      → next ≡ first_item ids → more ≡ ps ++ placed depth next → AllByRecursion (IsPlace items) ps
      → IsPut depth ids ps more
  put depth folder front [] next ps more tree whole deep is pushed all =
      let same : more ≡ ps = pushed ∙ ap (λ (o : Option ItemId). ps ++ placed depth o) is ∙ append-nil ps in
      record { places = subst (AllByRecursion (IsPlace items)) (sym same) all; left = ap left_in same }
  put depth folder front (c ∷ cs) next ps more tree whole deep is pushed all =
      let p : Place = record { item = c; depth = depth } in
      let same : more ≡ ps ++ p ∷ [] = pushed ∙ ap (λ (o : Option ItemId). ps ++ placed depth o) is in
      let w : IsPlace items p =
      record { folder = folder; front = front; rest = cs; whole = whole; deep = deep } in
      record {
        places =
            subst (AllByRecursion (IsPlace items)) (sym same) (last_holds (IsPlace items) ps p all w);
        left =
            ap left_in same ∙ left_last ps p
            ∙ ap (λ (ids : List ItemId). shown show items depth ids ++ left_in ps) (ids_here items p tree w);
      }

  -- the last place comes off, and what is left of its list and of its item's are put in its stead
  pub left_behind : (ps more most : List Place) (p : Place) (i : Item) → IsTree items → item_at items p.item ≡ Some i
      → (w : IsPlace items p) → IsPut p.depth w.rest ps more
      → IsPut (p.depth + 1) (children_of items p.item) more most
      → left_in (ps ++ p ∷ []) ≡ show p.depth i ∷ left_in most
  left_behind ps more most p i tree at w sibling child =
      let below : List N = shown show items (p.depth + 1) (children_of items p.item) in
      let behind : List N = shown show items p.depth w.rest in
      left_last ps p
      ∙ ap (λ (ids : List ItemId). shown show items p.depth ids ++ left_in ps) (ids_here items p tree w)
      ∙ ap (λ (xs : List N). xs ++ left_in ps) (shown_first show items p.depth p.item i w.rest tree at)
      ∙ ap (λ (xs : List N). show p.depth i ∷ xs)
      (append_assoc below behind (left_in ps)
      ∙ ap (λ (xs : List N). below ++ xs) (sym sibling.left) ∙ sym child.left)

-- ---- the walk

module _ {N : Type 0} (show : ℕ → Item → N) (items : List Item) (root : ItemId) where
  -- what was shown, with what is left, is what there is to show
  pub record IsListing (nodes : List N) (ps : List Place) : Type 0 where
    pub places : AllByRecursion (IsPlace items) ps
    pub whole : nodes ++ left_in show items ps ≡ all_below show items root

  -- what a step leaves
  pub record IsStep (nodes : List N) (old new : List Place) : Type 0 where
    pub listing : IsListing nodes new
    pub shorter : length (left_in show items new) < length (left_in show items old)

  pub listing_starts : (first : Option ItemId) (ps more : List Place) (nodes : List N) → IsTree items → nodes ≡ []
      → ps ≡ [] → first ≡ first_item (children_of items root) → more ≡ ps ++ placed 0 first → IsListing nodes more
  listing_starts first ps more nodes tree none empty is pushed =
      let h : IsPut show items 0 (children_of items root) ps more =
      put show items 0 root [] (children_of items root) first ps more tree refl (omega arith) is pushed
      (subst (AllByRecursion (IsPlace items)) (sym empty) tt) in
      record {
        places = h.places;
        whole =
            ap (λ (xs : List N). xs ++ left_in show items more) none ∙ h.left
            ∙ ap (λ (qs : List Place). shown show items 0 (children_of items root) ++ left_in show items qs) empty
            ∙ append-nil (shown show items 0 (children_of items root))
            ∙ sym (shown_children show items 0 root tree);
      }

  -- the place that was taken off
  pub taken : (nodes : List N) (old ps : List Place) (p : Place) → IsListing nodes old → old ≡ ps ++ p ∷ []
      → IsPlace items p
  taken nodes old ps p h is = part (IsPlace items) ps p [] (subst (AllByRecursion (IsPlace items)) is h.places)

  pub listing_goes_on : (nodes nodes_more : List N) (old ps more most : List Place) (p : Place) (node : N)
      (sibling child : Option ItemId) → IsTree items → IsListing nodes old → old ≡ ps ++ p ∷ []
      → Some node ≡ option_map (show p.depth) (item_at items p.item) → nodes_more ≡ nodes ++ node ∷ []
      → sibling ≡ sibling_behind items p.item → more ≡ ps ++ placed p.depth sibling
      → child ≡ first_item (children_of items p.item) → most ≡ more ++ placed (p.depth + 1) child
      → IsStep nodes_more old most
  listing_goes_on nodes nodes_more old ps more most p node sibling child tree h is told added behind put_one below
      put_two =
      choose (item_at items p.item) refl told
    where
      w : IsPlace items p
      w = taken nodes old ps p h is

      again : (w.front ++ p.item ∷ []) ++ w.rest ≡ w.front ++ p.item ∷ w.rest
      again = append_assoc w.front (p.item ∷ []) w.rest

      one : IsPut show items p.depth w.rest ps more
      one =
          put show items p.depth w.folder (w.front ++ p.item ∷ []) w.rest sibling ps more tree (w.whole ∙ sym again)
          w.deep (behind ∙ sibling_here items w.folder w.front p.item w.rest tree w.whole) put_one
          (above_last (IsPlace items) ps p (subst (AllByRecursion (IsPlace items)) is h.places))

      two : IsPut show items (p.depth + 1) (children_of items p.item) more most
      two =
          put show items (p.depth + 1) p.item [] (children_of items p.item) child more most tree refl
          (omega (arith, w.deep, child_above items w.folder w.front p.item w.rest tree w.whole)) below put_two
          one.places

      choose : (o : Option Item) → item_at items p.item ≡ o → Some node ≡ option_map (show p.depth) o
          → IsStep nodes_more old most
      choose None at none = absurd (cc)
      choose (Some i) at some =
          let same : node ≡ show p.depth i = cc in
          let split : left_in show items old ≡ node ∷ left_in show items most =
          ap (left_in show items) is ∙ left_behind show items ps more most p i tree at w one two
          ∙ ap (λ (n : N). n ∷ left_in show items most) (sym same) in
          record {
            listing =
                record {
                  places = two.places;
                  whole =
                      ap (λ (ns : List N). ns ++ left_in show items most) added
                      ∙ append_assoc nodes (node ∷ []) (left_in show items most)
                      ∙ ap (λ (xs : List N). nodes ++ xs) (sym split) ∙ h.whole;
                };
            shorter = omega (arith, ap length split);
          }

-- The children of an item, as the cursor of rows runs through them.
use Rattle.std.proofs.Common.{◌≡◌, ◌≢◌, ◌∙◌, ◌++◌, ◌==◌, true, false, List, [], ◌∷◌}
use Rattle.std.proofs.Common.{Option, Some, None, ap, eq-eqb, refl, subst, sym}
use Rattle.std.specs.List.{AllByRecursion}
use Rattle.std.specs.Option.{option_and_then, option_map}
use Rattle.std.proofs.lemmas.Bool.{ne_eqb, or_left, or_right}
use Rattle.pl_base.specs.declared.id.ItemId.{ItemId}
use Rattle.pl_base.specs.Good.{IsTree, child_ids}
use Rattle.pl_base.specs.Store.{Item, item_id}
use Rattle.pl_base.specs.Tree.{children_of, first_item, has_child, item_at, item_behind, parent_of, sibling_behind}
use Rattle.pl_base.proofs.ItemLookUps.{same_item}
use Rattle.pl_base.proofs.LookUps.{found_holds, found_passes, front, part}
use Rattle.pl_base.proofs.OneParent.{IsParent, Once, is_among, once, once_behind, parents}
use Rattle.pl_base.proofs.Walk.{Names, Runs, StandsAt, Walk, goes_on}

abbrev pub child_names : Names ItemId ItemId
child_names =
    record {
      name = λ (id : ItemId). id;
      first = first_item;
      of_none = refl;
      of_some = λ id ids. refl;
    }

-- ---- ids that stand once

once_front : (cs ds : List ItemId) → Once (cs ++ ds) → Once cs
once_front [] ds one = tt
once_front (c ∷ cs) ds one = (front (λ (d : ItemId). c ≢ d) cs ds one.0, once_front cs ds one.1)

pub apart_numbers : (c d : ItemId) → c ≢ d → (c.0 == d.0) ≡ false
apart_numbers c d other = ne_eqb c.0 d.0 (λ same. other (same_item c d (eq-eqb c.0 d.0 same)))

pub behind_here : (front : List ItemId) (c : ItemId) (rest : List ItemId) → Once (front ++ c ∷ rest)
    → item_behind c (front ++ c ∷ rest) ≡ first_item rest
behind_here [] c rest one = rw (eq-eqb c.0 c.0 refl) refl
behind_here (w ∷ front) c rest one =
    rw (apart_numbers w c (part (λ (d : ItemId). w ≢ d) front c rest one.0)) (behind_here front c rest one.1)

among_here : (front : List ItemId) (c : ItemId) (rest : List ItemId) → is_among c (front ++ c ∷ rest) ≡ true
among_here [] c rest = or_left (c.0 == c.0) (is_among c rest) (eq-eqb c.0 c.0 refl)
among_here (w ∷ front) c rest = or_right (w.0 == c.0) (is_among c (front ++ c ∷ rest)) (among_here front c rest)

-- ---- the children of a folder

each_once : (items : List Item) → Once (child_ids items) → AllByRecursion (λ (i : Item). Once i.children) items
each_once [] one = tt
each_once (i ∷ items) one = (
  once_front i.children (child_ids items) one,
  each_once items (once_behind i.children (child_ids items) one),
)

pub children_once : (items : List Item) (parent : ItemId) → IsTree items → Once (children_of items parent)
children_once items parent tree = choose (item_at items parent) refl
  where
    choose : (o : Option Item) → item_at items parent ≡ o → Once (children_of items parent)
    choose None at = rw at tt
    choose (Some p) at =
        rw at (found_holds (λ (i : Item). Once i.children) (λ (i : Item). i.id.0 == parent.0) items p
        (each_once items (once (item_id 1 ∷ child_ids items) tree.once).1) at)

-- each child of an item has it as its parent
pub parent_here : (items : List Item) (parent : ItemId) (front : List ItemId) (c : ItemId) (rest : List ItemId)
    → IsTree items → children_of items parent ≡ front ++ c ∷ rest → parent_of items c ≡ Some parent
parent_here items parent front c rest tree whole = choose (item_at items parent) refl
  where
    none : (front : List ItemId) → [] ≡ front ++ c ∷ rest → parent_of items c ≡ Some parent
    none [] is = absurd (cc)
    none (w ∷ front) is = absurd (cc)

    choose : (o : Option Item) → item_at items parent ≡ o → parent_of items c ≡ Some parent
    choose None at = none front (rw at at whole)
    choose (Some p) at =
        let listed : p.children ≡ front ++ c ∷ rest = rw at at whole in
        let has : has_child c p ≡ true = ap (is_among c) listed ∙ among_here front c rest in
        ap (option_map (λ (i : Item). i.id))
        (found_holds (IsParent items) (λ (i : Item). i.id.0 == parent.0) items p (parents items tree) at c has)
        ∙ ap (λ (id : ItemId). Some id)
        (same_item p.id parent (found_passes (λ (i : Item). i.id.0 == parent.0) items p at))

pub sibling_here : (items : List Item) (parent : ItemId) (front : List ItemId) (c : ItemId) (rest : List ItemId)
    → IsTree items → children_of items parent ≡ front ++ c ∷ rest → sibling_behind items c ≡ first_item rest
sibling_here items parent front c rest tree whole =
    ap (option_and_then (λ (p : ItemId). item_behind c (children_of items p)))
    (parent_here items parent front c rest tree whole)
    ∙ ap (item_behind c) whole
    ∙ behind_here front c rest (subst Once whole (children_once items parent tree))

-- ---- the cursor

pub children_run : (items : List Item) (parent : ItemId) → IsTree items
    → Runs child_names (sibling_behind items) (children_of items parent)
children_run items parent tree before c rest whole = sibling_here items parent before c rest tree whole

module _ (items : List Item) (parent : ItemId) (P : List ItemId → Type 0) (id : ItemId)
    (w : StandsAt child_names (children_of items parent) P id) where
  -- the child that a walk stands at stands between those before and behind
  pub child_here : children_of items parent ≡ w.front ++ id ∷ w.rest
  child_here = w.whole ∙ ap (λ (c : ItemId). w.front ++ c ∷ w.rest) w.is

  pub child_goes_on : (Q : List ItemId → Type 0) (next : Option ItemId) → IsTree items
      → next ≡ sibling_behind items id → Q (w.front ++ id ∷ []) → Walk child_names (children_of items parent) Q next
  child_goes_on Q next tree is more =
      goes_on child_names (sibling_behind items) (children_of items parent) P Q id next
      (children_run items parent tree) w is
      (subst (λ (c : ItemId). Q (w.front ++ c ∷ [])) (sym w.is) more)

-- A removal of an item and of what lies in it keeps the items good but for the tags.
use Rattle.std.proofs.Common.{◌≡◌, ◌||◌, ◌∙◌, inl, inr, ℕ, Bool, true, false, List, ◌∷◌}
use Rattle.std.proofs.Common.{Some, ap, sym, subst, arith, refl, filter, map}
use Rattle.std.specs.Prelude.{not}
use Rattle.std.specs.Option.{option_map}
use Rattle.std.proofs.lemmas.Bool.{both_ways, cases_Bool, cases_eq, false_from_ne_true, ne_eqb, not-true}
use Rattle.std.proofs.lemmas.Bool.{not_from_false, or_left, or_right}
use Rattle.pl_base.specs.declared.id.ItemId.{ItemId}
use Rattle.pl_base.specs.Good.{HasRoots, IsGoodItem, IsTree, child_ids}
use Rattle.pl_base.specs.Store.{Item, Store, item_id}
use Rattle.pl_base.specs.Tree.{has_item, item_at, leaving, parent_of, without_id}
use Rattle.pl_base.proofs.ItemLaws.{bare}
use Rattle.pl_base.proofs.Among.{In, from_filter, from_map, in_filter, in_map}
use Rattle.pl_base.proofs.ItemLookUps.{has_in, same_item_number}
use Rattle.pl_base.proofs.KeyCounts.{Ascends, Once}
use Rattle.pl_tree.proofs.ChildLists.{count_kept, count_left, from_without, left_other, without_other}
use Rattle.pl_tree.proofs.GoodRows.{HasGoodRows}
use Rattle.pl_tree.proofs.Insides.{LiesLaws, parent_inside}
use Rattle.pl_tree.proofs.KeptItems.{all_good, good_children, good_item}
use Rattle.pl_tree.proofs.KeptRoots.{kept_roots, tops}
use Rattle.pl_tree.proofs.LookedUp.{from_child_ids, has_parent, id_key, in_child_ids, in_has, item_key}
use Rattle.pl_tree.proofs.LookedUp.{parent_is}
use Rattle.pl_tree.proofs.MappedItems.{at_filter, bare_at, same_at}
use Rattle.pl_tree.proofs.RootItems.{IsNoRoot, no_child_of_root, parent_of_top}
use Rattle.pl_tree.proofs.TreeLaws.{Reaches, child_known, child_once, each_once, first_no_child, is_tree, once_fewer}
use Rattle.pl_tree.proofs.TreeLaws.{reaches}

module _ (old : Store) (item : ItemId) (up : Ascends item_key old.items) (good : HasGoodRows old)
    (inside : ItemId → Bool) (there : has_item old.items item ≡ true) (no_root : IsNoRoot item)
    (lies : LiesLaws old.items item inside) where
  abbrev pub items : List Item
  items = old.items

  abbrev pub stays : Item → Bool
  stays i = not (inside i.id)

  abbrev pub staying : List Item
  staying = filter stays items

  abbrev pub left : Item → Item
  left = leaving item

  abbrev pub news : List Item
  news = map left staying

  abbrev pub store : Store
  store = record old { items = news }

  -- ---- what does not lie in the item

  one_outside : inside (item_id 1) ≡ false
  one_outside =
      false_from_ne_true (inside (item_id 1)) (λ within.
      let r = lies.parent (item_id 1) within (ne_eqb 1 item.0 (λ same. no_root 1 (inl refl) (sym same))) in
      let p = has_parent items (item_id 1) r.0 r.1.0 in
      first_no_child items good.tree p.0 p.1 p.3)

  pub top_outside : (n : ℕ) → In n tops → inside (item_id n) ≡ false
  top_outside n h =
      false_from_ne_true (inside (item_id n)) (λ within.
      both_ways (inside (item_id 1)) one_outside
      (parent_inside items item (item_id n) (item_id 1) lies within (λ same. no_root n (inr h) (sym same))
      (parent_of_top old n good.roots good.tree h)))

  -- ---- roots

  pub found_as_before : (x : ItemId) → inside x ≡ false
      → ((i : Item) → In i items → i.id ≡ x → In item i.children → ⊥) → item_at news x ≡ item_at items x
  found_as_before x outside none =
      same_at left (λ i. refl) staying x (λ i h e. left_other item i (none i (from_filter stays items i h).0 e))
      ∙ at_filter (λ (id : ItemId). not (inside id)) items x (not_from_false (inside x) outside)

  roots : HasRoots store
  roots =
      kept_roots old store
      (found_as_before (item_id 1) one_outside (λ i h e. no_child_of_root old item i up good.roots no_root h e))
      (λ n h.
      bare_at left (λ i. refl) staying (item_id n) (λ i _ _. refl)
      ∙ ap (option_map bare)
      (at_filter (λ (id : ItemId). not (inside id)) items (item_id n)
      (not_from_false (inside (item_id n)) (top_outside n h))))
      good.roots

  -- ---- the tree

  -- an item that stays
  still : (i : Item) → In i items → inside i.id ≡ false → In (left i) news
  still i h outside = in_map left staying i (in_filter stays items i h (not_from_false (inside i.id) outside))

  outside_of : (i : Item) → In i staying → inside i.id ≡ false
  outside_of i h = not-true (inside i.id) (from_filter stays items i h).1

  known : (c : ItemId) → In c (child_ids news) → has_item news c ≡ true
  known c h =
      let r = from_child_ids news c h in
      let j : Item = r.0 in
      let s = from_map left staying j r.1 in
      let i : Item = s.0 in
      let here : In i items = (from_filter stays items i s.1).0 in
      let child = from_without item i.children c (subst (λ (k : Item). In c k.children) s.2 r.2) in
      let outside : inside c ≡ false =
      false_from_ne_true (inside c) (λ within.
      both_ways (inside i.id) (outside_of i s.1)
      (parent_inside items item c i.id lies within child.1
      (parent_is items i c (child_once items good.tree) here child.0)))
      in
      let q = in_has items c (child_known items good.tree c (in_child_ids items i c here child.0)) in
      let k : Item = q.0 in
      ap (has_item news) (sym q.2) ∙ has_in news (left k) (still k q.1 (ap inside q.2 ∙ outside))

  once : Once id_key (item_id 1 ∷ child_ids news)
  once =
      once_fewer (child_ids items) (child_ids news) (each_once items good.tree)
      (λ k. omega (arith, count_left item k staying, count_kept stays k items))

  reach : Reaches news
  reach holds one closed j h =
      let whole : (i : Item) → In i items → (inside i.id || holds i.id) ≡ true =
      reaches items good.tree (λ c. inside c || holds c) (or_right (inside (item_id 1)) (holds (item_id 1)) one)
      (λ i g before c f.
      let above : parent_of items c ≡ Some i.id = parent_is items i c (child_once items good.tree) g f in
      elim (cases_Bool (inside i.id)) as (λ _. (inside c || holds c) ≡ true) [
        | inl within ↦ or_left (inside c) (holds c) (lies.child c i.id above within)
        | inr outside ↦
            elim (cases_eq c.0 item.0) as (λ _. (inside c || holds c) ≡ true) [
              | inl e ↦ or_left (inside c) (holds c) (ap inside (same_item_number c item e) ∙ lies.itself there)
              | inr other ↦
                  let held : holds i.id ≡ true = held_outside (inside i.id) (holds i.id) outside before in
                  or_right (inside c) (holds c)
                  (closed (left i) (still i g outside) held c (without_other item i.children c f other))
            ]
      ])
      in
      let s = from_map left staying j h in
      let i : Item = s.0 in
      ap (λ (k : Item). holds k.id) s.2
      ∙ held_outside (inside i.id) (holds i.id) (outside_of i s.1) (whole i (from_filter stays items i s.1).0)
    where
      held_outside : (a b : Bool) → a ≡ false → (a || b) ≡ true → b ≡ true
      held_outside true b outside some = absurd (cc)
      held_outside false b outside some = some

  tree : IsTree store.items
  tree = is_tree news known once reach

  pub removed_rows : HasGoodRows store
  removed_rows =
      record {
        items =
            all_good store (λ j h.
            let s = from_map left staying j h in
            let i : Item = s.0 in
            let before : IsGoodItem old i = good_item old i good.items (from_filter stays items i s.1).0 in
            subst (IsGoodItem store) (sym s.2)
            (good_children old store i (without_id item i.children) refl
            (λ some. before.children (λ none. some (ap (without_id item) none))) before));
        roots = roots;
        tree = tree;
      }

-- Where nothing lies below items 2 to 6 any more, the items are the roots, and all that had a page
-- are gone.
use Rattle.std.proofs.Common.{◌≡◌, ◌≢◌, ◌∙◌, ◌&&◌, ◌||◌, ◌<◌, ◌==◌, ℕ, Bool, true, false, List, [], ◌∷◌}
use Rattle.std.proofs.Common.{Option, Some, None, ap, arith, filter, inl, inr, map, refl, subst, sym}
use Rattle.std.specs.Prelude.{not}
use Rattle.std.specs.List.{list_any}
use Rattle.std.specs.Option.{IsSomeAnd}
use Rattle.std.proofs.lemmas.Bool.{both_ways, cases_eq, eq-eqb, eqb-true, false_from_ne_true, not_from_false}
use Rattle.std.proofs.lemmas.Bool.{not-true, or_cases, or_left, or_right}
use Rattle.std.proofs.lemmas.List.Elements.{recursion_from_All}
use Rattle.std.proofs.lemmas.Option.{same_Some}
use Rattle.pl_base.specs.declared.id.ItemId.{ItemId}
use Rattle.pl_base.specs.declared.id.PageId.{PageId}
use Rattle.pl_base.specs.Good.{HasGoodItems, IsGood, IsTopFolder}
use Rattle.pl_base.specs.Marks.{is_referenced}
use Rattle.pl_base.specs.Rows.{Kept, store_of, with_items}
use Rattle.pl_base.specs.Store.{Item, item_id, root_folder, roots, top_folders}
use Rattle.pl_base.specs.Tree.{children_of, first_item, has_item, is_page, item_at}
use Rattle.pl_base.proofs.Among.{In, all_from_in, any_from_in, at_in, from_any, from_filter, from_map, in_filter}
use Rattle.pl_base.proofs.Among.{in_map}
use Rattle.pl_base.proofs.ItemLookUps.{same_item_number}
use Rattle.pl_base.proofs.KeyCounts.{Ascends}
use Rattle.pl_base.proofs.ListLaws.{all_stay, any-where}
use Rattle.pl_base.proofs.RootsLaws.{has_roots, no_tags, roots_are_good, roots_are_tree, roots_ascend}
use Rattle.pl_tree.specs.LostPages.{has_lost}
use Rattle.pl_tree.proofs.ClearingSteps.{IsClearing, stays_there}
use Rattle.pl_tree.proofs.KeptRoots.{top_range, tops}
use Rattle.pl_tree.proofs.LookedUp.{at_id, children_in, found_at, item_key, parent_is}
use Rattle.pl_tree.proofs.RemovalSteps.{AreGone, no_first}
use Rattle.pl_tree.proofs.Remaining.{children_remaining, cleared, remaining}
use Rattle.pl_tree.proofs.RootItems.{parent_of_top}
use Rattle.pl_tree.proofs.TreeLaws.{child_once, ids_ascend, reaches}

-- two lists by ascending id with the same items are one
same_ascending : (xs ys : List Item) → Ascends item_key xs → Ascends item_key ys
    → ((i : Item) → In i xs → In i ys) → ((i : Item) → In i ys → In i xs) → xs ≡ ys
same_ascending [] [] up_x up_y into back = refl
same_ascending [] (y ∷ ys) up_x up_y into back = absurd (back y (inl refl))
same_ascending (x ∷ xs) [] up_x up_y into back = absurd (into x (inl refl))
same_ascending (x ∷ xs) (y ∷ ys) up_x up_y into back =
    let first : x ≡ y = meet (into x (inl refl)) (back y (inl refl)) in
    ap (λ (i : Item). i ∷ xs) first
    ∙ ap (λ (is : List Item). y ∷ is)
    (same_ascending xs ys up_x.1 up_y.1
    (λ i h.
    let above : x.id.0 < i.id.0 = at_in (λ (j : Item). x.id.0 < j.id.0) xs i up_x.0 h in
    behind i y ys (λ e. let same = ap item_key (e ∙ sym first) in omega arith) (into i (inr h)))
    (λ i h.
    let above : y.id.0 < i.id.0 = at_in (λ (j : Item). y.id.0 < j.id.0) ys i up_y.0 h in
    behind i x xs (λ e. let same = ap item_key (e ∙ first) in omega arith) (back i (inr h))))
  where
    behind : (i j : Item) (js : List Item) → i ≢ j → In i (j ∷ js) → In i js
    behind i j js other (inl e) = absurd (other e)
    behind i j js other (inr h) = h

    meet : In x (y ∷ ys) → In y (x ∷ xs) → x ≡ y
    meet (inl e) g = e
    meet (inr h) (inl e) = sym e
    meet (inr h) (inr g) =
        let after : y.id.0 < x.id.0 = at_in (λ (j : Item). y.id.0 < j.id.0) ys x up_y.0 h in
        let before : x.id.0 < y.id.0 = at_in (λ (j : Item). x.id.0 < j.id.0) xs y up_x.0 g in
        absurd (omega arith)

-- the item is one of the six
abbrev is_one : ItemId → Bool
is_one c = list_any (λ n. c.0 == n) (1 ∷ tops)

one_in : (n : ℕ) → In n (1 ∷ tops) → is_one (item_id n) ≡ true
one_in n h = any_from_in (λ m. n == m) (1 ∷ tops) n h (eq-eqb n n refl)

one_from : (c : ItemId) → is_one c ≡ true → (n : ℕ) × In n (1 ∷ tops) × (c ≡ item_id n)
one_from c is =
    let r = from_any (λ n. c.0 == n) (1 ∷ tops) is in
    (r.0, r.1, same_item_number c (item_id r.0) (eqb-true c.0 r.0 r.2))

none_in : (gone : ItemId → Bool) (ids : List ItemId) → filter (λ (c : ItemId). not (gone c)) ids ≡ []
    → (c : ItemId) → In c ids → gone c ≡ true
none_in gone ids none c h = choose (gone c) refl
  where
    choose : (b : Bool) → gone c ≡ b → b ≡ true
    choose true is = refl
    choose false is =
        absurd (subst (In c) none
        (in_filter (λ (d : ItemId). not (gone d)) ids c h (not_from_false (gone c) is)))

module _ (old now : Kept) (pages : List PageId) (up : Ascends item_key old.items)
    (good : HasGoodItems (store_of old)) (up_now : Ascends item_key now.items) (gone : ItemId → Bool)
    (w : AreGone old (item_id 1) gone pages now)
    (there : (n : ℕ) → In n tops → has_item now.items (item_id n) ≡ true)
    (emptied : (n : ℕ) → In n tops → children_of now.items (item_id n) ≡ []) where
  abbrev items : List Item
  items = old.items

  -- ---- the six stay

  top_stays : (n : ℕ) → In n tops → gone (item_id n) ≡ false
  top_stays n h =
      stays_there gone items (item_id n)
      (ap (λ (k : Kept). has_item k.items (item_id n)) (sym w.left) ∙ there n h)

  one_stays : gone (item_id 1) ≡ false
  one_stays =
      false_from_ne_true (gone (item_id 1)) (λ went.
      both_ways (gone (item_id 2)) (top_stays 2 (inl refl))
      (w.closed (item_id 2) (item_id 1) (parent_of_top (store_of old) 2 good.roots good.tree (inl refl)) went))

  six_stay : (n : ℕ) → In n (1 ∷ tops) → gone (item_id n) ≡ false
  six_stay n (inl e) = ap (λ (m : ℕ). gone (item_id m)) e ∙ one_stays
  six_stay n (inr h) = top_stays n h

  -- ---- all others are gone

  no_children : (n : ℕ) → In n tops → filter (λ (c : ItemId). not (gone c)) (children_of items (item_id n)) ≡ []
  no_children n h =
      sym (children_remaining gone items (item_id n) (top_stays n h))
      ∙ ap (λ (k : Kept). children_of k.items (item_id n)) (sym w.left) ∙ emptied n h

  children_as : (i : Item) (n : ℕ) → In i items → i.id ≡ item_id n → children_of items (item_id n) ≡ i.children
  children_as i n h e = ap children_in (at_id items i (item_id n) up h e)

  root_is : (i : Item) → In i items → i.id ≡ item_id 1 → i ≡ root_folder 1 top_folders
  root_is i h e = same_Some i (root_folder 1 top_folders) (sym (at_id items i (item_id 1) up h e) ∙ good.roots.root)

  held_below : (i : Item) → In i items → (gone i.id || is_one i.id) ≡ true → (c : ItemId) → In c i.children
      → (gone c || is_one c) ≡ true
  held_below i h held c g =
      elim (or_cases (gone i.id) (is_one i.id) held) as (λ _. (gone c || is_one c) ≡ true) [
        | inl went ↦
            or_left (gone c) (is_one c)
            (w.closed c i.id (parent_is items i c (child_once items good.tree) h g) went)
        | inr one ↦ let r = one_from i.id one in below r.0 r.1 r.2
      ]
    where
      below : (n : ℕ) → In n (1 ∷ tops) → i.id ≡ item_id n → (gone c || is_one c) ≡ true
      below n (inl e) is =
          let same : i ≡ root_folder 1 top_folders = root_is i h (is ∙ ap item_id e) in
          let r = from_map item_id tops c (subst (λ (j : Item). In c j.children) same g) in
          or_right (gone c) (is_one c) (ap is_one r.2 ∙ one_in r.0 (inr r.1))
      below n (inr top) is =
          or_left (gone c) (is_one c)
          (none_in gone (children_of items (item_id n)) (no_children n top) c
          (subst (In c) (sym (children_as i n h is)) g))

  gone_or_one : (i : Item) → In i items → (gone i.id || is_one i.id) ≡ true
  gone_or_one =
      reaches items good.tree (λ c. gone c || is_one c) (or_right (gone (item_id 1)) (is_one (item_id 1)) refl)
      held_below

  one_left : (i : Item) → In i items → gone i.id ≡ false → (n : ℕ) × In n (1 ∷ tops) × (i.id ≡ item_id n)
  one_left i h here =
      one_from i.id (elim (or_cases (gone i.id) (is_one i.id) (gone_or_one i h)) as (λ _. is_one i.id ≡ true) [
        | inl went ↦ absurd (both_ways (gone i.id) here went)
        | inr one ↦ one
      ])

  -- ---- what is left of them

  first_left : cleared gone (root_folder 1 top_folders) ≡ root_folder 1 top_folders
  first_left =
      ap (λ (cs : List ItemId). root_folder 1 cs)
      (all_stay (λ (c : ItemId). not (gone c)) top_folders
      (all_from_in (λ (c : ItemId). not (gone c) ≡ true) top_folders (λ c h.
      let r = from_map item_id tops c h in
      not_from_false (gone c) (ap gone r.2 ∙ top_stays r.0 r.1))))

  top_is : (n : ℕ) → In n tops → (i : Item) × (item_at items (item_id n) ≡ Some i) × (i ≡ root_folder n i.children)
  top_is n h =
      choose (item_at items (item_id n)) refl
      (at_in (IsTopFolder (store_of old)) tops n
      (recursion_from_All (IsTopFolder (store_of old)) tops good.roots.top) h)
    where
      choose : (o : Option Item) → item_at items (item_id n) ≡ o
          → IsSomeAnd o (λ (i : Item). i ≡ root_folder n i.children)
          → (i : Item) × (item_at items (item_id n) ≡ Some i) × (i ≡ root_folder n i.children)
      choose None is top = absurd top
      choose (Some i) is top = (i, is, top)

  top_left : (n : ℕ) → In n tops → (i : Item) → In i items → i.id ≡ item_id n → cleared gone i ≡ root_folder n []
  top_left n top i h e =
      let t = top_is n top in
      let same : i ≡ root_folder n i.children =
      subst (λ (j : Item). j ≡ root_folder n j.children)
      (same_Some t.0 i (sym t.1 ∙ at_id items i (item_id n) up h e)) t.2
      in
      ap (cleared gone) same
      ∙ ap (root_folder n)
      (ap (filter (λ (c : ItemId). not (gone c))) (sym (children_as i n h e)) ∙ no_children n top)

  into : (j : Item) → In j (remaining gone items) → In j roots
  into j h =
      let s = from_map (cleared gone) (filter (λ (i : Item). not (gone i.id)) items) j h in
      let i : Item = s.0 in
      let f = from_filter (λ (k : Item). not (gone k.id)) items i s.1 in
      let r = one_left i f.0 (not-true (gone i.id) f.1) in
      subst (λ (k : Item). In k roots) (sym s.2) (choose i f.0 r.0 r.1 r.2)
    where
      choose : (i : Item) → In i items → (n : ℕ) → In n (1 ∷ tops) → i.id ≡ item_id n → In (cleared gone i) roots
      choose i h n (inl e) is = inl (ap (cleared gone) (root_is i h (is ∙ ap item_id e)) ∙ first_left)
      choose i h n (inr top) is =
          inr (subst (λ (k : Item). In k (map (λ m. root_folder m []) tops)) (sym (top_left n top i h is))
          (in_map (λ m. root_folder m []) tops n top))

  -- an item that is one of the six remains
  remains : (n : ℕ) → In n (1 ∷ tops) → (i : Item) → item_at items (item_id n) ≡ Some i
      → In (cleared gone i) (remaining gone items)
  remains n h i found =
      let f = found_at items (item_id n) i found in
      in_map (cleared gone) (filter (λ (k : Item). not (gone k.id)) items) i
      (in_filter (λ (k : Item). not (gone k.id)) items i f.0
      (not_from_false (gone i.id) (ap gone f.1 ∙ six_stay n h)))

  back : (j : Item) → In j roots → In j (remaining gone items)
  back j (inl e) =
      subst (λ (k : Item). In k (remaining gone items)) (first_left ∙ sym e)
      (remains 1 (inl refl) (root_folder 1 top_folders) good.roots.root)
  back j (inr h) =
      let r = from_map (λ m. root_folder m []) tops j h in
      let t = top_is r.0 r.1 in
      let f = found_at items (item_id r.0) t.0 t.1 in
      subst (λ (k : Item). In k (remaining gone items)) (top_left r.0 r.1 t.0 f.0 f.1 ∙ sym r.2)
      (remains r.0 (inr r.1) t.0 t.1)

  pub cleared_rows : now ≡ with_items roots old
  cleared_rows =
      w.left
      ∙ ap (λ (is : List Item). with_items is old)
      (same_ascending (remaining gone items) roots
      (subst (λ (k : Kept). Ascends item_key k.items) w.left up_now)
      (ids_ascend roots roots_ascend) into back)

  -- ---- the pages that lost an item

  no_page : (i : Item) (n : ℕ) → In n (1 ∷ tops) → In i items → i.id ≡ item_id n → i.page ≡ None
  no_page i n (inl e) h is = ap (λ (j : Item). j.page) (root_is i h (is ∙ ap item_id e))
  no_page i n (inr top) h is = ap (λ (j : Item). j.page) (top_left n top i h is)

  pub cleared_pages : (page : PageId) → has_lost page pages ≡ is_referenced (store_of old) page
  cleared_pages page =
      w.lost page
      ∙ any-where (λ (i : Item). gone i.id && is_page page i.page) (λ (i : Item). is_page page i.page) items
      (all_from_in (λ (i : Item). (gone i.id && is_page page i.page) ≡ is_page page i.page) items (λ i h.
      choose i h (gone i.id) refl))
    where
      choose : (i : Item) → In i items → (b : Bool) → gone i.id ≡ b
          → (b && is_page page i.page) ≡ is_page page i.page
      choose i h true is = refl
      choose i h false is =
          let r = one_left i h is in
          sym (ap (is_page page) (no_page i r.0 r.1 h r.2))

-- what is left in the end
pub record HasCleared (old : Kept) (pages : List PageId) (now : Kept) : Type 0 where
  pub left : now ≡ with_items roots old
  pub lost : (page : PageId) → has_lost page pages ≡ is_referenced (store_of old) page

pub clearing_ends : (old now : Kept) (folder : ℕ) (at : ItemId) (pages : List PageId)
    → Ascends item_key old.items → HasGoodItems (store_of old) → Ascends item_key now.items
    → IsClearing old folder at pages now → None ≡ first_item (children_of now.items at)
    → at ≡ item_id folder → folder ≡ 6 → HasCleared old pages now
clearing_ends old now folder at pages up good up_now w none here last =
    record {
      left = cleared_rows old now pages up good up_now w.removing.gone w.removing.are_gone w.there emptied;
      lost = cleared_pages old now pages up good up_now w.removing.gone w.removing.are_gone w.there emptied;
    }
  where
    emptied : (n : ℕ) → In n tops → children_of now.items (item_id n) ≡ []
    emptied n h =
        elim (cases_eq n 6) as (λ _. children_of now.items (item_id n) ≡ []) [
          | inl e ↦
              ap (λ (m : ℕ). children_of now.items (item_id m)) (e ∙ sym last)
              ∙ ap (children_of now.items) (sym here) ∙ no_first (children_of now.items at) none
          | inr other ↦ let range = top_range n h in w.emptied n h (omega arith)
        ]

-- the items of a good store are good
pub good_items : (kept : Kept) → IsGood (store_of kept) → HasGoodItems (store_of kept)
good_items kept good = record { items = good.items; roots = good.roots; tree = good.tree; tags = good.tags }

-- a store whose items are the roots is good as far as its items go
pub roots_good : (old : Kept) → HasGoodItems (store_of (with_items roots old))
roots_good old =
    record {
      items = roots_are_good (store_of (with_items roots old));
      roots = has_roots (store_of old);
      tree = roots_are_tree;
      tags = no_tags (store_of old);
    }

-- All items below items 2 to 6 go, step by step: down to a first child, up from a leaf that goes, or
-- on to the next of the five.
use Rattle.std.proofs.Common.{◌≡◌, ◌≢◌, ◌∙◌, ◌+◌, ◌-◌, ◌<◌, ◌≤◌, ◌==◌, ◌||◌, ℕ, Bool, true, false, List, []}
use Rattle.std.proofs.Common.{Some, None, ap, arith, filter, inl, inr, is_some, length, refl, subst, sym}
use Rattle.std.specs.Prelude.{not}
use Rattle.std.proofs.lemmas.Bool.{cases_eq, false_from_ne_true, ne_eqb, not_from_false}
use Rattle.std.proofs.lemmas.Option.{same_Some}
use Rattle.pl_base.specs.declared.id.ItemId.{ItemId}
use Rattle.pl_base.specs.declared.id.PageId.{PageId}
use Rattle.pl_base.specs.Good.{HasGoodItems}
use Rattle.pl_base.specs.Rows.{Kept, store_of, with_items}
use Rattle.pl_base.specs.Store.{Item, item_id}
use Rattle.pl_base.specs.Tree.{children_of, first_item, has_item, leaving, lies_in, parent_of, removed, without_id}
use Rattle.pl_base.proofs.Among.{In, from_filter, from_map, in_filter, in_map}
use Rattle.pl_base.proofs.ItemLookUps.{has_in, same_item, same_item_number}
use Rattle.pl_base.proofs.KeyCounts.{Ascends}
use Rattle.pl_tree.specs.LostPages.{has_lost, has_page_of}
use Rattle.pl_tree.proofs.AncestorLaws.{child_there, left_above, lies_in_child, lies_in_parent, lies_in_self}
use Rattle.pl_tree.proofs.KeptRoots.{top_range, tops}
use Rattle.pl_tree.proofs.LookedUp.{has_parent, in_has, item_key}
use Rattle.pl_tree.proofs.Remaining.{cleared, remaining}
use Rattle.pl_tree.proofs.RemovalSteps.{IsRemoving, goes_down, less_down, less_up, one_deeper, parent_some}
use Rattle.pl_tree.proofs.RemovalSteps.{no_first, removal_starts, removing_there, up_from, work}
use Rattle.pl_tree.proofs.RemovedChildren.{children_left}
use Rattle.pl_tree.proofs.RootItems.{parent_of_top}
use Rattle.pl_tree.proofs.TreeLaws.{first_no_child}
use Rattle.pl_tree.proofs.TreeRows.{root_there, some_items}

-- the walk is at one of the five or below it, the five are there, and nothing lies below those in
-- front of it
pub record IsClearing (old : Kept) (folder : ℕ) (at : ItemId) (pages : List PageId) (now : Kept) : Type 0 where
  pub removing : IsRemoving old (item_id 1) at pages now
  pub top : In folder tops
  pub inside : lies_in old.items (item_id folder) at ≡ true
  pub there : (n : ℕ) → In n tops → has_item now.items (item_id n) ≡ true
  pub emptied : (n : ℕ) → In n tops → n < folder → children_of now.items (item_id n) ≡ []

-- how much is left to do
abbrev pub left_to_clear : Kept → Kept → ℕ → ItemId → ℕ
left_to_clear old now folder at = work old now at + (6 - folder)

-- the ids from 2 to 6 are the five
pub is_top : (n : ℕ) → 2 ≤ n → n ≤ 6 → In n tops
is_top n least most =
    elim (cases_eq n 2) as (λ _. In n tops) [
      | inl e ↦ inl e
      | inr two ↦
          elim (cases_eq n 3) as (λ _. In n tops) [
            | inl e ↦ inr (inl e)
            | inr three ↦
                elim (cases_eq n 4) as (λ _. In n tops) [
                  | inl e ↦ inr (inr (inl e))
                  | inr four ↦
                      elim (cases_eq n 5) as (λ _. In n tops) [
                        | inl e ↦ inr (inr (inr (inl e)))
                        | inr five ↦ inr (inr (inr (inr (inl (omega arith)))))
                      ]
                ]
          ]
    ]

-- an item that remains is none that is gone
pub stays_there : (gone : ItemId → Bool) (items : List Item) (id : ItemId)
    → has_item (remaining gone items) id ≡ true → gone id ≡ false
stays_there gone items id has =
    let r = in_has (remaining gone items) id has in
    let s = from_map (cleared gone) (filter (λ (i : Item). not (gone i.id)) items) r.0 r.1 in
    let passes = (from_filter (λ (i : Item). not (gone i.id)) items s.0 s.1).1 in
    let same : (s.0).id ≡ id = ap (λ (i : Item). i.id) (sym s.2) ∙ r.2 in
    subst (λ (c : ItemId). gone c ≡ false) same (stays (gone (s.0).id) passes)
  where
    stays : (b : Bool) → not b ≡ true → b ≡ false
    stays true is = absurd (cc)
    stays false is = refl

-- another item than the leaf that goes is there
still_there : (items : List Item) (at id : ItemId) → id.0 ≢ at.0 → has_item items id ≡ true
    → has_item (removed at items) id ≡ true
still_there items at id other has =
    let r = in_has items id has in
    let i : Item = r.0 in
    let apart : (i.id.0 == at.0) ≡ false = ap (λ (c : ItemId). c.0 == at.0) r.2 ∙ ne_eqb id.0 at.0 other in
    ap (has_item (removed at items)) (sym r.2)
    ∙ has_in (removed at items) (leaving at i)
    (in_map (leaving at) (filter (λ (j : Item). not (j.id.0 == at.0)) items) i
    (in_filter (λ (j : Item). not (j.id.0 == at.0)) items i r.1 (not_from_false (i.id.0 == at.0) apart)))

module _ (old : Kept) (up : Ascends item_key old.items) (good : HasGoodItems (store_of old)) where
  abbrev items : List Item
  items = old.items

  abbrev some : 0 < length items
  some = some_items old good

  -- ---- the five lie apart

  -- item 1 lies in none of them
  one_apart : (n : ℕ) → In n tops → lies_in items (item_id n) (item_id 1) ≡ true → ⊥
  one_apart n h inside =
      let range = top_range n h in
      let q = lies_in_parent items (item_id n) (item_id 1) inside (ne_eqb 1 n (λ same. omega arith)) in
      let p = has_parent items (item_id 1) q.0 q.1.0 in
      first_no_child items good.tree p.0 p.1 p.3

  -- and none of them in another one
  top_apart : (n m : ℕ) → In n tops → In m tops → lies_in items (item_id n) (item_id m) ≡ true → m ≡ n
  top_apart n m h g inside =
      elim (cases_eq m n) as (λ _. m ≡ n) [
        | inl e ↦ e
        | inr other ↦
            let q = lies_in_parent items (item_id n) (item_id m) inside (ne_eqb m n other) in
            let same : q.0 ≡ item_id 1 =
            same_Some q.0 (item_id 1) (sym q.1.0 ∙ parent_of_top (store_of old) m good.roots good.tree g) in
            absurd (one_apart n h (subst (λ (p : ItemId). lies_in items (item_id n) p ≡ true) same q.1.1))
      ]

  top_inside : (n : ℕ) → In n tops → lies_in items (item_id 1) (item_id n) ≡ true
  top_inside n h =
      lies_in_child items (item_id 1) (item_id n) (item_id 1) good.tree
      (parent_of_top (store_of old) n good.roots good.tree h)
      (lies_in_self items (item_id 1) (root_there old good))

  -- ---- the start

  top_there : (n : ℕ) → In n tops → has_item items (item_id n) ≡ true
  top_there n h =
      child_there items (item_id n) (item_id 1) good.tree (parent_of_top (store_of old) n good.roots good.tree h)

  -- the walk may be at each of the five that is there
  at_top : (n : ℕ) (at : ItemId) (pages : List PageId) (now : Kept) → In n tops
      → IsRemoving old (item_id 1) at pages now → has_item now.items (item_id n) ≡ true
      → IsRemoving old (item_id 1) (item_id n) pages now
  at_top n at pages now h w has =
      record {
        gone = w.gone;
        are_gone = w.are_gone;
        here =
            stays_there w.gone items (item_id n)
            (ap (λ (k : Kept). has_item k.items (item_id n)) (sym w.are_gone.left) ∙ has);
        inside = top_inside n h;
      }

  pub clearing_starts : IsClearing old 2 (item_id 2) [] old
  clearing_starts =
      record {
        removing =
            at_top 2 (item_id 1) [] old (inl refl) (removal_starts old (item_id 1) (root_there old good))
            (top_there 2 (inl refl));
        top = inl refl;
        inside = lies_in_self items (item_id 2) (top_there 2 (inl refl));
        there = top_there;
        emptied = λ n h before. let range = top_range n h in absurd (omega arith);
      }

  -- ---- down

  pub clearing_down : (folder : ℕ) (at child : ItemId) (pages : List PageId) (now : Kept)
      → IsClearing old folder at pages now → Some child ≡ first_item (children_of now.items at)
      → IsClearing old folder child pages now × (left_to_clear old now folder child < left_to_clear old now folder at)
  clearing_down folder at child pages now w is =
      let d = goes_down old (item_id 1) up good.tree some at child pages now w.removing is in (
        record {
          removing = d.0;
          top = w.top;
          inside = lies_in_child items (item_id folder) child at good.tree d.1 w.inside;
          there = w.there;
          emptied = w.emptied;
        },
        (let less = less_down old (item_id 1) up good.tree some at child now d.1 in omega arith),
      )

  -- ---- up

  -- below one of the five the walk is at no root
  below_one : (folder : ℕ) (at : ItemId) → In folder tops → lies_in items (item_id folder) at ≡ true
      → (at.0 == 1) ≡ false
  below_one folder at h inside =
      false_from_ne_true (at.0 == 1) (λ is.
      one_apart folder h (subst (λ (c : ItemId). lies_in items (item_id folder) c ≡ true)
      (same_item at (item_id 1) is) inside))

  below_top : (folder n : ℕ) (at : ItemId) → In folder tops → In n tops → lies_in items (item_id folder) at ≡ true
      → at.0 ≢ folder → n ≢ at.0
  below_top folder n at h g inside other same =
      other (sym same ∙ top_apart folder n h g
      (subst (λ (c : ItemId). lies_in items (item_id folder) c ≡ true) (same_item_number at (item_id n) (sym same))
      inside))

  pub clearing_there : (folder : ℕ) (at : ItemId) (pages : List PageId) (now : Kept)
      → IsClearing old folder at pages now → has_item now.items at ≡ true
  clearing_there folder at pages now w =
      removing_there old (item_id 1) up good.tree some at pages now (root_there old good) w.removing

  pub clearing_parent : (folder : ℕ) (at : ItemId) (pages : List PageId) (now : Kept)
      → IsClearing old folder at pages now → is_some (parent_of now.items at) ≡ true
  clearing_parent folder at pages now w =
      parent_some old (item_id 1) up good.tree some at pages now w.removing (below_one folder at w.top w.inside)

  pub clearing_up : (folder : ℕ) (at parent : ItemId) (pages more : List PageId) (now new : Kept)
      → IsClearing old folder at pages now → None ≡ first_item (children_of now.items at)
      → new ≡ with_items (removed at now.items) now
      → ((page : PageId) → has_lost page more ≡ (has_lost page pages || has_page_of now.items at page))
      → at.0 ≢ folder → parent_of now.items at ≡ Some parent
      → IsClearing old folder parent more new
      × (left_to_clear old new folder parent < left_to_clear old now folder at)
  clearing_up folder at parent pages more now new w none is told other up_is =
      let u = up_from old (item_id 1) up good.tree some at parent pages more now new (root_there old good) w.removing
      none is told (below_one folder at w.top w.inside) up_is
      in
      let q = lies_in_parent items (item_id folder) at w.inside (ne_eqb at.0 folder other) in
      let same : q.0 ≡ parent = same_Some q.0 parent (sym q.1.0 ∙ u.1) in (
        record {
          removing = u.0;
          top = w.top;
          inside = subst (λ (p : ItemId). lies_in items (item_id folder) p ≡ true) same q.1.1;
          there = λ n h.
              ap (λ (k : Kept). has_item k.items (item_id n)) is
              ∙ still_there now.items at (item_id n) (below_top folder n at w.top h w.inside other) (w.there n h);
          emptied = λ n h before.
              ap (λ (k : Kept). children_of k.items (item_id n)) is
              ∙ children_left now.items at (item_id n) (below_top folder n at w.top h w.inside other)
              ∙ ap (without_id at) (w.emptied n h before);
        },
        (let less =
            less_up old (item_id 1) up good.tree some at parent now new (clearing_there folder at pages now w) is u.1 in
            omega arith),
      )

  -- ---- on to the next of the five

  pub clearing_on : (folder : ℕ) (at : ItemId) (pages : List PageId) (now : Kept)
      → IsClearing old folder at pages now → None ≡ first_item (children_of now.items at)
      → at ≡ item_id folder → folder ≢ 6
      → IsClearing old (folder + 1) (item_id (folder + 1)) pages now
      × (left_to_clear old now (folder + 1) (item_id (folder + 1)) < left_to_clear old now folder at)
  clearing_on folder at pages now w none here last =
      let range = top_range folder w.top in
      let next : In (folder + 1) tops = is_top (folder + 1) (omega arith) (omega arith) in
      let above = parent_of_top (store_of old) (folder + 1) good.roots good.tree next in (
        record {
          removing = at_top (folder + 1) at pages now next w.removing (w.there (folder + 1) next);
          top = next;
          inside = lies_in_self items (item_id (folder + 1)) (top_there (folder + 1) next);
          there = w.there;
          emptied = λ n h before.
              elim (cases_eq n folder) as (λ _. children_of now.items (item_id n) ≡ []) [
                | inl e ↦
                    ap (λ (m : ℕ). children_of now.items (item_id m)) e
                    ∙ ap (children_of now.items) (sym here) ∙ no_first (children_of now.items at) none
                | inr other ↦ w.emptied n h (omega arith)
              ];
        },
        (omega (
          arith,
          one_deeper old (item_id 1) up good.tree some (item_id 1) (item_id (folder + 1)) above,
          one_deeper old (item_id 1) up good.tree some (item_id 1) (item_id folder)
              (parent_of_top (store_of old) folder good.roots good.tree w.top),
          ap (left_above items) (ap Some here),
        )),
      )

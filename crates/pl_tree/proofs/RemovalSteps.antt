-- A removal step by step: down to a first child, or up from a leaf that goes.
use Rattle.std.proofs.Common.{◌≡◌, ◌∙◌, ◌&&◌, ◌||◌, ◌+◌, ◌-◌, ◌*◌, ◌<◌, ◌≤◌, ◌==◌, ℕ, Bool, true, false, List, [], ◌∷◌}
use Rattle.std.proofs.Common.{Option, Some, None, ap, arith, eq-eqb, filter, find, inl, inr, is_some}
use Rattle.std.proofs.Common.{length, not, refl, subst, suc}
use Rattle.std.proofs.Common.{sym, zero}
use Rattle.std.specs.List.{AllByRecursion, list_any}
use Rattle.std.specs.Option.{option_map}
use Rattle.std.proofs.lemmas.Bool.{both_ways, cases_Bool, eqb-true, false_from_ne_true, false≢true, not-true, or_cases}
use Rattle.std.proofs.lemmas.Bool.{or_from, or_left, or_right, true_from_ne_false}
use Rattle.std.proofs.lemmas.List.{length-map}
use Rattle.std.proofs.lemmas.Option.{same_Some}
use Rattle.pl_base.specs.declared.id.ItemId.{ItemId}
use Rattle.pl_base.specs.declared.id.PageId.{PageId}
use Rattle.pl_base.specs.Good.{IsTree}
use Rattle.pl_base.specs.Rows.{Kept, with_items}
use Rattle.pl_base.specs.Store.{Item}
use Rattle.pl_base.specs.Tree.{ancestors, children_of, first_item, has_child, has_item, is_page}
use Rattle.pl_base.specs.Tree.{item_at, leaving, lies_in, parent_of, removed}
use Rattle.pl_base.proofs.ListLaws.{found_in as found_where, list_any-alike}
use Rattle.pl_base.proofs.LookUps.{found_some}
use Rattle.pl_base.proofs.ItemLookUps.{same_item}
use Rattle.pl_base.proofs.Among.{In, all_from_in, from_filter, from_found, in_filter}
use Rattle.pl_tree.specs.Changes.{loses_item, with_removed}
use Rattle.pl_tree.specs.LostPages.{has_lost, has_page_of, page_in}
use Rattle.pl_base.proofs.KeyCounts.{Ascends}
use Rattle.pl_tree.proofs.AncestorLaws.{child_there, climbed, left_above, less_above, lies_in_child}
use Rattle.pl_tree.proofs.AncestorLaws.{lies_in_parent, lies_in_self}
use Rattle.pl_tree.proofs.CountedChildren.{fewer}
use Rattle.pl_tree.proofs.LookedUp.{among_in, at_id, children_in, found_at, item_key, one_of_id}
use Rattle.pl_tree.proofs.LookedUp.{parent_is, parent_of_child}
use Rattle.pl_tree.proofs.Remaining.{all_remain, and_gone, at_remaining, children_remaining, cleared}
use Rattle.pl_tree.proofs.Remaining.{has_remaining, none_gone}
use Rattle.pl_tree.proofs.Remaining.{parent_remaining, remaining, remaining_as, removed_more}
use Rattle.pl_tree.proofs.TreeLaws.{child_once}

-- the page is one of an item that is gone
abbrev pub lost_by : (ItemId → Bool) → List Item → PageId → Bool
lost_by gone items page = list_any (λ (i : Item). gone i.id && is_page page i.page) items

-- the rows without the items that are gone, which lie in the item, with each also all below it; and
-- the pages that these had
pub record AreGone (old : Kept) (item : ItemId) (gone : ItemId → Bool) (pages : List PageId) (now : Kept) : Type 0 where
  pub left : now ≡ with_items (remaining gone old.items) old
  pub within : (c : ItemId) → gone c ≡ true → lies_in old.items item c ≡ true
  pub closed : (c p : ItemId) → parent_of old.items c ≡ Some p → gone p ≡ true → gone c ≡ true
  pub lost : (page : PageId) → has_lost page pages ≡ lost_by gone old.items page

-- the walk is at an item that lies in the one to be removed, and is not gone
pub record IsRemoving (old : Kept) (item at : ItemId) (pages : List PageId) (now : Kept) : Type 0 where
  pub gone : ItemId → Bool
  pub are_gone : AreGone old item gone pages now
  pub here : gone at ≡ false
  pub inside : lies_in old.items item at ≡ true

-- what is left in the end
pub record IsRemoved (old : Kept) (item : ItemId) (pages : List PageId) (now : Kept) : Type 0 where
  pub left : now ≡ with_items (with_removed item old.items) old
  pub lost : (page : PageId) → has_lost page pages ≡ loses_item old.items item page

-- how much is left to do: each item that is there counts twice, and once each that a way down may
-- still meet
abbrev pub work : Kept → Kept → ItemId → ℕ
work old now at = 2 * length now.items + (length old.items - left_above old.items (Some at))

-- ---- the start

none_lost : (items : List Item) (page : PageId) → false ≡ lost_by none_gone items page
none_lost [] page = refl
none_lost (i ∷ items) page = none_lost items page

pub removal_starts : (old : Kept) (item : ItemId) → has_item old.items item ≡ true → IsRemoving old item item [] old
removal_starts old item has =
    record {
      gone = none_gone;
      are_gone =
          record {
            left = ap (λ (items : List Item). with_items items old) (sym (all_remain old.items));
            within = λ c went. absurd (false≢true went);
            closed = λ c p up went. went;
            lost = none_lost old.items;
          };
      here = refl;
      inside = lies_in_self old.items item has;
    }

pub no_first : (ids : List ItemId) → None ≡ first_item ids → ids ≡ []
no_first [] is = refl
no_first (c ∷ ids) is = absurd (cc)

module _ (old : Kept) (item : ItemId) (up : Ascends item_key old.items) (tree : IsTree old.items)
    (some : 0 < length old.items) where
  abbrev items : List Item
  items = old.items

  -- ---- the item that the walk is at

  -- what lies in the item is there
  there : has_item items item ≡ true → (c : ItemId) → lies_in items item c ≡ true → has_item items c ≡ true
  there has c inside =
      elim (cases_Bool (c.0 == item.0)) [
        | inl is ↦ subst (λ (d : ItemId). has_item items d ≡ true) (sym (same_item c item is)) has
        | inr other ↦
            let p = lies_in_parent items item c inside other in child_there items c p.0 tree p.1.0
      ]

  pub removing_there : (at : ItemId) (pages : List PageId) (now : Kept) → has_item items item ≡ true
      → IsRemoving old item at pages now → has_item now.items at ≡ true
  removing_there at pages now has w =
      ap (λ (k : Kept). has_item k.items at) w.are_gone.left
      ∙ has_remaining w.gone items at w.here (there has at w.inside)

  -- an item that has it as a child is not gone
  parents_stay : (gone : ItemId → Bool) (c : ItemId) → gone c ≡ false
      → ((d p : ItemId) → parent_of items d ≡ Some p → gone p ≡ true → gone d ≡ true)
      → AllByRecursion (λ (i : Item). has_child c i ≡ true → gone i.id ≡ false) items
  parents_stay gone c here closed =
      all_from_in (λ (i : Item). has_child c i ≡ true → gone i.id ≡ false) items (λ i within has.
      false_from_ne_true (gone i.id) (λ went.
      both_ways (gone c) here
      (closed c i.id (parent_is items i c (child_once items tree) within (among_in i.children c has)) went)))

  same_parent : (at : ItemId) (pages : List PageId) (now : Kept) → IsRemoving old item at pages now
      → parent_of now.items at ≡ parent_of items at
  same_parent at pages now w =
      ap (λ (k : Kept). parent_of k.items at) w.are_gone.left
      ∙ parent_remaining w.gone items at w.here (parents_stay w.gone at w.here w.are_gone.closed)

  -- ---- down

  pub goes_down : (at child : ItemId) (pages : List PageId) (now : Kept) → IsRemoving old item at pages now
      → Some child ≡ first_item (children_of now.items at)
      → IsRemoving old item child pages now × (parent_of items child ≡ Some at)
  goes_down at child pages now w is =
      let kept : children_of now.items at ≡ filter (λ (c : ItemId). not (w.gone c)) (children_of items at) =
      ap (λ (k : Kept). children_of k.items at) w.are_gone.left ∙ children_remaining w.gone items at w.here in
      let among = from_filter (λ (c : ItemId). not (w.gone c)) (children_of items at) child
      (first_in (filter (λ (c : ItemId). not (w.gone c)) (children_of items at)) (is ∙ ap first_item kept)) in
      let parent : parent_of items child ≡ Some at =
      parent_of_child items at child (child_once items tree) among.0 in (
        record {
          gone = w.gone;
          are_gone = w.are_gone;
          here = not-true (w.gone child) among.1;
          inside = lies_in_child items item child at tree parent w.inside;
        },
        parent,
      )
    where
      first_in : (ids : List ItemId) → Some child ≡ first_item ids → In child ids
      first_in [] is = absurd (cc)
      first_in (c ∷ ids) is = inl (cc)

  -- one more is met on the way up
  pub one_deeper : (at child : ItemId) → parent_of items child ≡ Some at
      → left_above items (Some child) ≡ left_above items (Some at) + 1
  one_deeper at child is =
      omega (arith, ap length (climbed items child tree some), ap (left_above items) is)

  pub above_few : (at : Option ItemId) → left_above items at ≤ length items
  above_few at = few (length items) at
    where
      few : (n : ℕ) (at : Option ItemId) → length (ancestors n items at) ≤ n
      few zero at = omega arith
      few (suc n) None = omega arith
      few (suc n) (Some id) = omega (arith, few n (parent_of items id))

  -- ---- a leaf goes

  -- the parent has it as a child
  child_in : (c p : ItemId) → parent_of items c ≡ Some p → In c (children_of items p)
  child_in c p is = choose (find (has_child c) items) refl is
    where
      choose : (o : Option Item) → find (has_child c) items ≡ o → option_map (λ (i : Item). i.id) o ≡ Some p
          → In c (children_of items p)
      choose None found is = absurd (cc)
      choose (Some q) found is =
          let f = from_found (has_child c) items q found in
          let same : q.id ≡ p = cc in
          subst (In c) (sym (ap children_in (at_id items q p up f.0 same))) (among_in q.children c f.1)

  leaf_lost : (gone : ItemId → Bool) (at : ItemId) (leaf : Item) (page : PageId) → item_at items at ≡ Some leaf
      → lost_by (and_gone gone at) items page ≡ (lost_by gone items page || is_page page leaf.page)
  leaf_lost gone at leaf page found =
      both_lost items
      ∙ ap (λ (b : Bool). lost_by gone items page || b)
      (alike items
      (all_from_in (λ (i : Item). (i.id.0 == at.0) ≡ true → i ≡ leaf) items (λ i within is.
      let f = found_at items at leaf found in
      one_of_id items i leaf up within f.0 (same_item i.id at is ∙ sym f.1)))
      ∙ ap (λ (b : Bool). b && is_page page leaf.page) (found_some (λ (i : Item). i.id.0 == at.0) items leaf found))
    where
      spread : (a b c x y : Bool) → (((a || b) && c) || (x || y)) ≡ (((a && c) || x) || ((b && c) || y))
      spread true true true x y = refl
      spread true true false x y = refl
      spread true false true x y = refl
      spread true false false x y = refl
      spread false true true true y = refl
      spread false true true false y = refl
      spread false true false x y = refl
      spread false false c x y = refl

      here : Item → Bool
      here i = (i.id.0 == at.0) && is_page page i.page

      both_lost : (xs : List Item)
          → lost_by (and_gone gone at) xs page
          ≡ (lost_by gone xs page || list_any (λ (i : Item). (i.id.0 == at.0) && is_page page i.page) xs)
      both_lost [] = refl
      both_lost (x ∷ xs) =
          ap (λ (b : Bool). ((gone x.id || (x.id.0 == at.0)) && is_page page x.page) || b) (both_lost xs)
          ∙ spread (gone x.id) (x.id.0 == at.0) (is_page page x.page) (lost_by gone xs page)
          (list_any (λ (i : Item). (i.id.0 == at.0) && is_page page i.page) xs)

      alike : (xs : List Item) → AllByRecursion (λ (i : Item). (i.id.0 == at.0) ≡ true → i ≡ leaf) xs
          → list_any (λ (i : Item). (i.id.0 == at.0) && is_page page i.page) xs
          ≡ (list_any (λ (i : Item). i.id.0 == at.0) xs && is_page page leaf.page)
      alike [] all = refl
      alike (x ∷ xs) all = choose (x.id.0 == at.0) refl (alike xs all.1)
        where
          join : (a b : Bool) → (a || (b && a)) ≡ a
          join true true = refl
          join true false = refl
          join false true = refl
          join false false = refl

          choose : (b : Bool) → (x.id.0 == at.0) ≡ b
              → list_any (λ (i : Item). (i.id.0 == at.0) && is_page page i.page) xs
              ≡ (list_any (λ (i : Item). i.id.0 == at.0) xs && is_page page leaf.page)
              → ((b && is_page page x.page) || list_any (λ (i : Item). (i.id.0 == at.0) && is_page page i.page) xs)
              ≡ ((b || list_any (λ (i : Item). i.id.0 == at.0) xs) && is_page page leaf.page)
          choose true is rest =
              ap (λ (b : Bool). is_page page x.page || b) rest
              ∙ ap (λ (i : Item).
              is_page page i.page || (list_any (λ (j : Item). j.id.0 == at.0) xs && is_page page leaf.page))
              (all.0 is)
              ∙ join (is_page page leaf.page) (list_any (λ (i : Item). i.id.0 == at.0) xs)
          choose false is rest = rest

  -- the leaf is gone too
  pub leaf_goes : (at : ItemId) (pages more : List PageId) (leaf : Item) (now new : Kept)
      → (w : IsRemoving old item at pages now) → children_of now.items at ≡ [] → item_at items at ≡ Some leaf
      → new ≡ with_items (removed at now.items) now
      → ((page : PageId) → has_lost page more ≡ (has_lost page pages || is_page page leaf.page))
      → AreGone old item (and_gone w.gone at) more new
  leaf_goes at pages more leaf now new w none found is told =
      record {
        left =
            is ∙ ap (λ (k : Kept). with_items (removed at k.items) k) w.are_gone.left
            ∙ ap (λ (left : List Item). with_items left old) (removed_more w.gone at items);
        within = λ c went.
            elim (or_cases (w.gone c) (c.0 == at.0) went) [
              | inl before ↦ w.are_gone.within c before
              | inr same ↦
                  subst (λ (d : ItemId). lies_in items item d ≡ true) (sym (same_item c at same)) w.inside
            ];
        closed = λ c p parent went.
            or_left (w.gone c) (c.0 == at.0)
            (elim (or_cases (w.gone p) (p.0 == at.0) went) [
              | inl before ↦ w.are_gone.closed c p parent before
              | inr same ↦ below c (subst (λ (q : ItemId). parent_of items c ≡ Some q) (same_item p at same) parent)
            ]);
        lost = λ page.
            told page ∙ ap (λ (b : Bool). b || is_page page leaf.page) (w.are_gone.lost page)
            ∙ sym (leaf_lost w.gone at leaf page found);
      }
    where
      below : (c : ItemId) → parent_of items c ≡ Some at → w.gone c ≡ true
      below c parent =
          true_from_ne_false (w.gone c) (λ stays.
          subst (In c)
          (sym (ap (λ (k : Kept). children_of k.items at) w.are_gone.left
          ∙ children_remaining w.gone items at w.here) ∙ none)
          (in_filter (λ (d : ItemId). not (w.gone d)) (children_of items at) c (child_in c at parent)
          (ap not stays)))

  -- and the walk goes on at its parent
  pub goes_up : (at parent : ItemId) (pages more : List PageId) (leaf : Item) (now new : Kept)
      → (w : IsRemoving old item at pages now) → children_of now.items at ≡ [] → item_at items at ≡ Some leaf
      → new ≡ with_items (removed at now.items) now
      → ((page : PageId) → has_lost page more ≡ (has_lost page pages || is_page page leaf.page))
      → (at.0 == item.0) ≡ false → parent_of now.items at ≡ Some parent
      → IsRemoving old item parent more new × (parent_of items at ≡ Some parent)
  goes_up at parent pages more leaf now new w none found is told other up_is =
      let above : parent_of items at ≡ Some parent = sym (same_parent at pages now w) ∙ up_is in
      let q = lies_in_parent items item at w.inside other in
      let same : q.0 ≡ parent = same_Some q.0 parent (sym q.1.0 ∙ above) in (
        record {
          gone = and_gone w.gone at;
          are_gone = leaf_goes at pages more leaf now new w none found is told;
          here =
              or_from (w.gone parent) (parent.0 == at.0)
              (false_from_ne_true (w.gone parent) (λ went.
              both_ways (w.gone at) w.here (w.are_gone.closed at parent above went)))
              (false_from_ne_true (parent.0 == at.0) (λ itself.
              omega (
                arith,
                less_above items at tree some,
                ap (left_above items) (above ∙ ap (λ (p : ItemId). Some p) (same_item parent at itself)),
              )));
          inside = subst (λ (p : ItemId). lies_in items item p ≡ true) same q.1.1;
        },
        above,
      )

  -- where the leaf is no more the item itself, it has a parent
  pub parent_some : (at : ItemId) (pages : List PageId) (now : Kept) → IsRemoving old item at pages now
      → (at.0 == item.0) ≡ false → is_some (parent_of now.items at) ≡ true
  parent_some at pages now w other =
      let q = lies_in_parent items item at w.inside other in
      ap is_some (same_parent at pages now w ∙ q.1.0)

  -- ---- the end

  -- all that lie in the item are gone with it
  all_below : (gone : ItemId → Bool) (pages : List PageId) (now : Kept) → AreGone old item gone pages now
      → gone item ≡ true → (n : ℕ) (c : ItemId)
      → list_any (λ (a : ItemId). a.0 == item.0) (ancestors n items (Some c)) ≡ true → gone c ≡ true
  all_below gone pages now w top zero c inside = absurd (false≢true inside)
  all_below gone pages now w top (suc n) c inside =
      elim (or_cases (c.0 == item.0)
      (list_any (λ (a : ItemId). a.0 == item.0) (ancestors n items (parent_of items c))) inside) [
        | inl is ↦ subst (λ (d : ItemId). gone d ≡ true) (sym (same_item c item is)) top
        | inr rest ↦ choose n (parent_of items c) refl rest (λ p. all_below gone pages now w top n p)
      ]
    where
      choose : (n : ℕ) (o : Option ItemId) → parent_of items c ≡ o
          → list_any (λ (a : ItemId). a.0 == item.0) (ancestors n items o) ≡ true
          → ((p : ItemId) → list_any (λ (a : ItemId). a.0 == item.0) (ancestors n items (Some p)) ≡ true
          → gone p ≡ true)
          → gone c ≡ true
      choose zero None is rest later = absurd (false≢true rest)
      choose (suc m) None is rest later = absurd (false≢true rest)
      choose n (Some p) is rest later = w.closed c p is (later p rest)

  just_inside : (gone : ItemId → Bool) (pages : List PageId) (now : Kept) → AreGone old item gone pages now
      → gone item ≡ true → (c : ItemId) → gone c ≡ lies_in items item c
  just_inside gone pages now w top c =
      choose (gone c) (lies_in items item c) refl refl (w.within c)
      (all_below gone pages now w top (length items) c)
    where
      choose : (a b : Bool) → gone c ≡ a → lies_in items item c ≡ b
          → (gone c ≡ true → lies_in items item c ≡ true) → (lies_in items item c ≡ true → gone c ≡ true) → a ≡ b
      choose true true went is there back = refl
      choose true false went is there back = absurd (both_ways (lies_in items item c) is (there went))
      choose false true went is there back = absurd (both_ways (gone c) went (back is))
      choose false false went is there back = refl

  pub all_gone : (gone : ItemId → Bool) (pages : List PageId) (now : Kept) → AreGone old item gone pages now
      → gone item ≡ true → now ≡ with_items (with_removed item items) old
  all_gone gone pages now w top =
      w.left ∙ ap (λ (left : List Item). with_items left old)
      (remaining_as gone (lies_in items item) item items (just_inside gone pages now w top)
      (all_from_in (λ (i : Item). lies_in items item i.id ≡ false
      → AllByRecursion (λ (c : ItemId). gone c ≡ (c.0 == item.0)) i.children) items (λ i within outside.
      all_from_in (λ (c : ItemId). gone c ≡ (c.0 == item.0)) i.children (λ c among.
      choose i c (gone c) (c.0 == item.0) refl refl
      (parent_is items i c (child_once items tree) within among) outside))))
    where
      choose : (i : Item) (c : ItemId) (a b : Bool) → gone c ≡ a → (c.0 == item.0) ≡ b
          → parent_of items c ≡ Some i.id → lies_in items item i.id ≡ false → a ≡ b
      choose i c true true went is above outside = refl
      choose i c false false went is above outside = refl
      choose i c false true went is above outside =
          absurd (both_ways (gone c) went (subst (λ (d : ItemId). gone d ≡ true) (sym (same_item c item is)) top))
      choose i c true false went is above outside =
          let q = lies_in_parent items item c (w.within c went) is in
          let same : q.0 ≡ i.id = same_Some q.0 i.id (sym q.1.0 ∙ above) in
          absurd (both_ways (lies_in items item i.id) outside
          (subst (λ (p : ItemId). lies_in items item p ≡ true) same q.1.1))

  pub all_lost : (gone : ItemId → Bool) (pages : List PageId) (now : Kept) → AreGone old item gone pages now
      → gone item ≡ true → (page : PageId) → has_lost page pages ≡ loses_item items item page
  all_lost gone pages now w top page =
      w.lost page
      ∙ list_any-alike (λ (i : Item). gone i.id && is_page page i.page)
      (λ (i : Item). lies_in items item i.id && is_page page i.page) items
      (λ i. ap (λ (b : Bool). b && is_page page i.page) (just_inside gone pages now w top i.id))

  -- ---- the steps as the walk has them

  -- the leaf among all items, whose page is the same
  leaf_there : (at : ItemId) (pages : List PageId) (now : Kept) → has_item items item ≡ true
      → (w : IsRemoving old item at pages now)
      → (leaf : Item) × ((item_at items at ≡ Some leaf)
      × ((page : PageId) → has_page_of now.items at page ≡ is_page page leaf.page))
  leaf_there at pages now has w = choose (item_at items at) refl
    where
      choose : (o : Option Item) → item_at items at ≡ o
          → (leaf : Item) × ((item_at items at ≡ Some leaf)
          × ((page : PageId) → has_page_of now.items at page ≡ is_page page leaf.page))
      choose None found = absurd (cc (found_where (λ (i : Item). i.id.0 == at.0) items (there has at w.inside)))
      choose (Some leaf) found = (
        leaf,
        (
          found,
          λ page.
              ap (λ (o : Option Item). page_in o page)
              (ap (λ (k : Kept). item_at k.items at) w.are_gone.left ∙ at_remaining w.gone items at w.here
              ∙ ap (option_map (cleared w.gone)) found),
        ),
      )

  record_of : (pages more : List PageId) (now : Kept) (at : ItemId) (leaf : Item)
      → ((page : PageId) → has_page_of now.items at page ≡ is_page page leaf.page)
      → ((page : PageId) → has_lost page more ≡ (has_lost page pages || has_page_of now.items at page))
      → (page : PageId) → has_lost page more ≡ (has_lost page pages || is_page page leaf.page)
  record_of pages more now at leaf same told page =
      told page ∙ ap (λ (b : Bool). has_lost page pages || b) (same page)

  pub up_from : (at parent : ItemId) (pages more : List PageId) (now new : Kept) → has_item items item ≡ true
      → IsRemoving old item at pages now → None ≡ first_item (children_of now.items at)
      → new ≡ with_items (removed at now.items) now
      → ((page : PageId) → has_lost page more ≡ (has_lost page pages || has_page_of now.items at page))
      → (at.0 == item.0) ≡ false → parent_of now.items at ≡ Some parent
      → IsRemoving old item parent more new × (parent_of items at ≡ Some parent)
  up_from at parent pages more now new has w none is told other up_is =
      let l = leaf_there at pages now has w in
      goes_up at parent pages more l.0 now new w (no_first (children_of now.items at) none) l.1.0 is
      (record_of pages more now at l.0 l.1.1 told) other up_is

  pub ends_at : (at : ItemId) (pages more : List PageId) (now new : Kept) → has_item items item ≡ true
      → IsRemoving old item at pages now → None ≡ first_item (children_of now.items at)
      → new ≡ with_items (removed at now.items) now
      → ((page : PageId) → has_lost page more ≡ (has_lost page pages || has_page_of now.items at page))
      → (at.0 == item.0) ≡ true → IsRemoved old item more new
  ends_at at pages more now new has w none is told same =
      let l = leaf_there at pages now has w in
      let all : AreGone old item (and_gone w.gone at) more new =
      leaf_goes at pages more l.0 now new w (no_first (children_of now.items at) none) l.1.0 is
      (record_of pages more now at l.0 l.1.1 told) in
      let top : and_gone w.gone at item ≡ true =
      or_right (w.gone item) (item.0 == at.0) (eq-eqb item.0 at.0 (sym (eqb-true at.0 item.0 same))) in
      record {
        left = all_gone (and_gone w.gone at) more new all top;
        lost = all_lost (and_gone w.gone at) more new all top;
      }

  -- ---- how much is left to do

  pub less_down : (at child : ItemId) (now : Kept) → parent_of items child ≡ Some at
      → work old now child < work old now at
  less_down at child now is = omega (arith, one_deeper at child is, above_few (Some child))

  pub less_up : (at parent : ItemId) (now new : Kept) → has_item now.items at ≡ true
      → new ≡ with_items (removed at now.items) now → parent_of items at ≡ Some parent
      → work old new parent < work old now at
  less_up at parent now new has is up_is =
      omega (
        arith,
        ap (λ (k : Kept). length k.items) is,
        length-map (filter (λ (i : Item). not (i.id.0 == at.0)) now.items) (leaving at),
        fewer (λ (i : Item). i.id.0 == at.0) now.items has,
        one_deeper parent at up_is,
        above_few (Some at),
      )

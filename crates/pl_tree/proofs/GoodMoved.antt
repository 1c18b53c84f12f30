-- A move keeps the items those of a good store.
use Rattle.std.proofs.Common.{◌≡◌, ◌≢◌, ◌==◌, ◌||◌, ◌⊎◌, ◌∙◌, inl, inr, Bool, true, false, List}
use Rattle.std.proofs.Common.{◌∷◌, ap, sym, subst, arith, refl, if◌then◌else◌, map}
use Rattle.std.specs.Prelude.{not}
use Rattle.std.proofs.lemmas.Bool.{both_ways, cases_Bool, cases_eq, eqb-true, ne_eqb, or_cases, or_left, or_right}
use Rattle.pl_base.specs.declared.date.Micros.{Micros}
use Rattle.pl_base.specs.declared.id.ItemId.{ItemId}
use Rattle.pl_base.specs.Date.{IsDate}
use Rattle.pl_base.specs.Good.{HasGoodItems, HasRoots, HasTags, IsGoodItem, IsTree, child_ids}
use Rattle.pl_base.specs.Store.{Item, Store, item_id}
use Rattle.pl_base.specs.Tree.{has_item, leaving, lies_in, without_id}
use Rattle.pl_base.proofs.ItemLaws.{bare}
use Rattle.pl_base.proofs.ItemLookUps.{same_item_number}
use Rattle.pl_base.proofs.ListLaws.{map-map}
use Rattle.pl_base.proofs.Among.{In, from_map, in_map}
use Rattle.pl_tree.specs.declared.place.Place.{Place}
use Rattle.pl_tree.specs.Changes.{put, with_moved}
use Rattle.pl_base.proofs.KeyCounts.{Ascends, Once, count}
use Rattle.pl_tree.proofs.Causes.{MayChange, Takes}
use Rattle.pl_tree.proofs.ChildLists.{bare_grown, count_grown, count_left, from_grown, from_without, grown, grown_id}
use Rattle.pl_tree.proofs.ChildLists.{grown_new, grown_old, left_other, none_left, without_other}
use Rattle.pl_tree.proofs.Insides.{LiesLaws, parent_inside}
use Rattle.pl_tree.proofs.KeptItems.{all_good, good_again, good_item}
use Rattle.pl_tree.proofs.KeptRoots.{kept_roots, top_range}
use Rattle.pl_tree.proofs.KeptTags.{is_of_tags, kept_tags}
use Rattle.pl_tree.proofs.LookedUp.{found_at, from_child_ids, id_key, in_child_ids, item_key, one_of_id}
use Rattle.pl_tree.proofs.LookedUp.{parent_is}
use Rattle.pl_tree.proofs.MappedItems.{ascends_map, bare_at, changed_at, changed_id, changed_other, child_ids_map}
use Rattle.pl_tree.proofs.MappedItems.{has_map, same_at}
use Rattle.pl_tree.proofs.RootItems.{no_child_of_root, no_root_above}
use Rattle.pl_tree.proofs.TagItems.{change_apart, no_child_of_tags, takes_apart}
use Rattle.pl_tree.proofs.TreeLaws.{Reaches, child_known, child_once, each_once, is_tree, once_fewer}
use Rattle.pl_tree.proofs.TreeLaws.{once_more, reaches}

module _ (old : Store) (item parent : ItemId) (place : Place) (date : Micros) (up : Ascends item_key old.items)
    (good : HasGoodItems old) (may : MayChange old.items item) (t : Takes old.items parent)
    (lies : LiesLaws old.items item (lies_in old.items item)) (outside : lies_in old.items item parent ≡ false) where
  abbrev items : List Item
  items = old.items

  abbrev left : Item → Item
  left = leaving item

  abbrev grow : Item → Item
  grow = grown parent place item

  abbrev date_it : Item → Item
  date_it i = record i { modified = date }

  abbrev dated : Item → Item
  dated = changed_at item date_it

  abbrev move : Item → Item
  move i = dated (grow (left i))

  abbrev news : List Item
  news = map move items

  abbrev store : Store
  store = record old { items = news }

  same_news : with_moved item parent place date items ≡ news
  same_news =
      map-map dated grow (map left items) ∙ map-map (λ (i : Item). dated (grow i)) left items

  -- ---- an item

  dated_id : (i : Item) → (dated i).id ≡ i.id
  dated_id = changed_id item date_it (λ i. refl)

  dated_children : (i : Item) → (dated i).children ≡ i.children
  dated_children i = choose (i.id.0 == item.0)
    where
      choose : (b : Bool) → (if b then date_it i else i).children ≡ i.children
      choose true = refl
      choose false = refl

  move_id : (i : Item) → (move i).id ≡ i.id
  move_id i = dated_id (grow (left i)) ∙ grown_id parent place item (left i)

  move_old : (i : Item) (c : ItemId) → In c i.children → c.0 ≢ item.0 → In c (move i).children
  move_old i c h other =
      subst (In c) (sym (dated_children (grow (left i))))
      (grown_old parent place item (left i) c (without_other item i.children c h other))

  move_new : (i : Item) → i.id ≡ parent → In item (move i).children
  move_new i e =
      subst (In item) (sym (dated_children (grow (left i)))) (grown_new parent place item (left i) e)

  from_move : (i : Item) (c : ItemId) → In c (move i).children → In c i.children ⊎ (c ≡ item)
  from_move i c h =
      elim (from_grown parent place item (left i) c (subst (In c) (dated_children (grow (left i))) h))
      as (λ _. In c i.children ⊎ (c ≡ item)) [
        | inl g ↦ inl (from_without item i.children c g).0
        | inr e ↦ inr e
      ]

  grow_other : (i : Item) → i.id.0 ≢ parent.0 → grow i ≡ i
  grow_other i other =
      changed_other parent (λ (j : Item). record j { children = put place item j.children }) i
      (ne_eqb i.id.0 parent.0 other)

  -- neither the item nor its new parent, nor its old one
  move_other : (i : Item) → i.id.0 ≢ item.0 → i.id.0 ≢ parent.0 → (In item i.children → ⊥) → move i ≡ i
  move_other i not_item not_parent no_child =
      ap (λ (j : Item). dated (grow j)) (left_other item i no_child) ∙ ap dated (grow_other i not_parent)
      ∙ changed_other item date_it i (ne_eqb i.id.0 item.0 not_item)

  bare_move : (i : Item) → i.id.0 ≢ item.0 → bare (move i) ≡ bare i
  bare_move i other =
      let grown_other : (grow (left i)).id.0 ≢ item.0 = λ same.
      other (ap id_key (sym (grown_id parent place item (left i))) ∙ same)
      in
      ap bare (changed_other item date_it (grow (left i)) (ne_eqb (grow (left i)).id.0 item.0 grown_other))
      ∙ bare_grown parent place item (left i)

  -- ---- roots and tags

  roots : HasRoots store
  roots =
      kept_roots old store
      (same_at move move_id items (item_id 1) (λ i h e.
      move_other i (λ same. omega (arith, may.no_root, ap id_key e)) (λ same. t.not_first (sym same ∙ ap id_key e))
      (no_child_of_root old item i up good.roots (no_root_above item may.no_root) h e)))
      (λ n h.
      let range = top_range n h in
      bare_at move move_id items (item_id n) (λ i g e.
      bare_move i (λ same. omega (arith, may.no_root, ap id_key e))))
      good.roots

  tags : HasTags store
  tags =
      kept_tags old store (child_once items good.tree) (λ x is.
      same_at move move_id items x (λ i h e.
      let here : is_of_tags items i.id ≡ true = ap (is_of_tags items) e ∙ is in
      move_other i (change_apart items item i.id may here) (takes_apart old parent i.id up good.tags t here)
      (no_child_of_tags old item i up good may h here)))
      good.tags

  -- ---- the tree

  known : (c : ItemId) → In c (child_ids news) → has_item news c ≡ true
  known c h =
      let r = from_child_ids news c h in
      let j : Item = r.0 in
      let s = from_map move items j r.1 in
      let i : Item = s.0 in
      has_map move move_id items c
      ∙ elim (from_move i c (subst (λ (k : Item). In c k.children) s.2 r.2)) as (λ _. has_item items c ≡ true) [
        | inl f ↦ child_known items good.tree c (in_child_ids items i c s.1 f)
        | inr e ↦ ap (has_item items) e ∙ may.there
      ]

  once : Once id_key (item_id 1 ∷ child_ids news)
  once =
      let same : child_ids news ≡ child_ids (map grow (map left items)) =
      ap child_ids (sym (map-map dated (λ (i : Item). grow (left i)) items))
      ∙ child_ids_map dated dated_children (map (λ (i : Item). grow (left i)) items)
      ∙ ap child_ids (sym (map-map grow left items))
      in
      once_more item (child_ids (map left items)) (child_ids news)
      (once_fewer (child_ids items) (child_ids (map left items)) (each_once items good.tree)
      (λ k. count_left item k items))
      (λ same_number. omega (arith, may.no_root)) (none_left item items)
      (λ k.
      omega (
        arith,
        ap (count id_key k) same,
        count_grown parent place item k (map left items) (ascends_map left (λ i. refl) items up),
      ))

  module _ (holds : ItemId → Bool) (one : holds (item_id 1) ≡ true)
      (closed : (i : Item) → In i news → holds i.id ≡ true → (c : ItemId) → In c i.children → holds c ≡ true) where
    closed_old : (i : Item) → In i items → holds i.id ≡ true → (c : ItemId) → In c i.children → c.0 ≢ item.0
        → holds c ≡ true
    closed_old i h there c g other =
        closed (move i) (in_map move items i h) (ap holds (move_id i) ∙ there) c (move_old i c g other)

    -- what lies outside of the item
    outer : (i : Item) → In i items → (lies_in items item i.id || holds i.id) ≡ true
    outer =
        reaches items good.tree (λ c. lies_in items item c || holds c)
        (or_right (lies_in items item (item_id 1)) (holds (item_id 1)) one)
        (λ i h there c g.
        elim (or_cases (lies_in items item i.id) (holds i.id) there)
        as (λ _. (lies_in items item c || holds c) ≡ true) [
          | inl within ↦
              or_left (lies_in items item c) (holds c)
              (lies.child c i.id (parent_is items i c (child_once items good.tree) h g) within)
          | inr held ↦
              elim (cases_eq c.0 item.0) as (λ _. (lies_in items item c || holds c) ≡ true) [
                | inl e ↦
                    or_left (lies_in items item c) (holds c)
                    (ap (lies_in items item) (same_item_number c item e) ∙ lies.itself may.there)
                | inr other ↦
                    or_right (lies_in items item c) (holds c) (closed_old i h held c g other)
              ]
        ])

    item_held : holds item ≡ true
    item_held =
        let found = found_at items parent t.folder t.there in
        let held : holds t.folder.id ≡ true =
        elim (or_cases (lies_in items item t.folder.id) (holds t.folder.id) (outer t.folder found.0))
        as (λ _. holds t.folder.id ≡ true) [
          | inl within ↦
              absurd (both_ways (lies_in items item parent) outside
              (ap (lies_in items item) (sym found.1) ∙ within))
          | inr held ↦ held
        ]
        in
        closed (move t.folder) (in_map move items t.folder found.0) (ap holds (move_id t.folder) ∙ held) item
        (move_new t.folder found.1)

    -- what lies in the item
    inner : (i : Item) → In i items → (not (lies_in items item i.id) || holds i.id) ≡ true
    inner =
        reaches items good.tree (λ c. not (lies_in items item c) || holds c)
        (or_right (not (lies_in items item (item_id 1))) (holds (item_id 1)) one)
        (λ i h there c g.
        elim (cases_Bool (lies_in items item c)) as (λ _. (not (lies_in items item c) || holds c) ≡ true) [
          | inr apart ↦ or_left (not (lies_in items item c)) (holds c) (ap not apart)
          | inl within ↦
              or_right (not (lies_in items item c)) (holds c)
              (elim (cases_eq c.0 item.0) as (λ _. holds c ≡ true) [
                | inl e ↦ ap holds (same_item_number c item e) ∙ item_held
                | inr other ↦
                    let p =
                    parent_inside items item c i.id lies within other
                    (parent_is items i c (child_once items good.tree) h g)
                    in
                    elim (or_cases (not (lies_in items item i.id)) (holds i.id) there) as (λ _. holds c ≡ true) [
                      | inl apart ↦ absurd (both_ways (not (lies_in items item i.id)) (ap not p) apart)
                      | inr held ↦ closed_old i h held c g other
                    ]
              ])
        ])

    held : (i : Item) → In i items → holds i.id ≡ true
    held i h =
        elim (or_cases (lies_in items item i.id) (holds i.id) (outer i h)) as (λ _. holds i.id ≡ true) [
          | inr there ↦ there
          | inl within ↦
              elim (or_cases (not (lies_in items item i.id)) (holds i.id) (inner i h)) as (λ _. holds i.id ≡ true) [
                | inl apart ↦ absurd (both_ways (not (lies_in items item i.id)) (ap not within) apart)
                | inr there ↦ there
              ]
        ]

  reach : Reaches news
  reach holds one closed j h =
      let s = from_map move items j h in
      let i : Item = s.0 in
      ap (λ (k : Item). holds k.id) s.2 ∙ ap holds (move_id i) ∙ held holds one closed i s.1

  tree : IsTree store.items
  tree = is_tree news known once reach

  -- ---- each item

  good_move : IsDate date → (i : Item) → In i items → IsGoodItem store (move i)
  good_move is_date i h =
      let before : IsGoodItem old i = good_item old i good.items h in
      let first : IsGoodItem store (left i) =
      good_again old store i i.title i.modified (without_id item i.children) refl before before.title before.modified
      (λ some. before.children (λ none. some (ap (without_id item) none)))
      in
      let second : IsGoodItem store (grow (left i)) = choose_grow (i.id.0 == parent.0) refl first in
      choose_date (grow (left i)) ((grow (left i)).id.0 == item.0) second
    where
      choose_grow : (b : Bool) → (i.id.0 == parent.0) ≡ b → IsGoodItem store (left i)
          → IsGoodItem store (if b then record (left i) { children = put place item (left i).children } else left i)
      choose_grow true is first =
          let found = found_at items parent t.folder t.there in
          let at_parent : i.id ≡ t.folder.id =
          same_item_number i.id parent (eqb-true i.id.0 parent.0 is) ∙ sym found.1 in
          let same : i ≡ t.folder = one_of_id items i t.folder up h found.0 at_parent in
          good_again store store (left i) i.title i.modified (put place item (left i).children) refl first first.title
          first.modified (λ _. ap (λ (k : Item). k.kind) same ∙ t.kind)
      choose_grow false is first = first

      choose_date : (j : Item) (b : Bool) → IsGoodItem store j → IsGoodItem store (if b then date_it j else j)
      choose_date j true before =
          good_again store store j j.title date j.children refl before before.title is_date before.children
      choose_date j false before = before

  moved_news : IsDate date → HasGoodItems store
  moved_news is_date =
      record {
        items =
            all_good store (λ j h.
            let s = from_map move items j h in
            subst (IsGoodItem store) (sym s.2) (good_move is_date s.0 s.1));
        roots = roots;
        tree = tree;
        tags = tags;
      }

  pub moved_good : IsDate date → HasGoodItems (record old { items = with_moved item parent place date old.items })
  moved_good is_date =
      subst (λ (is : List Item). HasGoodItems (record old { items = is })) (sym same_news) (moved_news is_date)

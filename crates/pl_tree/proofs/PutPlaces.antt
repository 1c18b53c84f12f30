-- That an id put behind another one is put at a place.
use Rattle.std.proofs.Common.{◌≡◌, ◌≢◌, ◌∙◌, ◌++◌, ◌+◌, ◌==◌, ℕ, Bool, true, false, List, [], ◌∷◌, Option, Some, None}
use Rattle.std.proofs.Common.{ap, drop, eq-eqb, if◌then◌else◌, inl, inr, length, map, not, refl, subst, sym, take}
use Rattle.std.proofs.lemmas.List.{take-append-drop}
use Rattle.std.specs.List.{AllByRecursion}
use Rattle.std.specs.Option.{option_or}
use Rattle.pl_base.specs.declared.id.ItemId.{ItemId}
use Rattle.pl_base.specs.declared.item.ItemRow.{ItemRow}
use Rattle.pl_base.specs.Good.{IsTree}
use Rattle.pl_base.specs.Rows.{IsWellKept, Kept, with_item}
use Rattle.pl_base.specs.Store.{Item, item_id}
use Rattle.pl_base.specs.Tree.{adopted, adopting, children_of, last_item, leaving, moved, new_item}
use Rattle.pl_base.specs.Tree.{put_behind, without_id}
use Rattle.pl_base.proofs.ListLaws.{all-filter}
use Rattle.pl_base.proofs.ItemLookUps.{same_item}
use Rattle.pl_base.proofs.OneParent.{Once}
use Rattle.pl_base.proofs.Among.{In, all_from_in, at_in, in_front, in_take}
use Rattle.pl_tree.specs.declared.new_item.NewItem.{NewItem}
use Rattle.pl_tree.specs.declared.place.Place.{Place}
use Rattle.pl_tree.specs.declared.place.Place.TheVariants.{End}
use Rattle.pl_tree.specs.Changes.{position, put, taken_out, with_appended, with_child, with_inserted}
use Rattle.pl_tree.specs.Places.{before}
use Rattle.pl_base.proofs.KeyCounts.{Ascends}
use Rattle.pl_base.proofs.ChildrenRun.{apart_numbers, children_once}
use Rattle.pl_tree.proofs.LookedUp.{at_id, children_in, item_key}
use Rattle.pl_tree.proofs.TreeLaws.{ids_ascend}

-- the row of a new item
abbrev pub row_of_new : ItemId → NewItem → ItemRow
row_of_new parent new =
    record { kind = new.kind; parent = Some parent; page = new.page; added = new.date; modified = new.date }

-- ---- the last of some ids

last_none : (ids : List ItemId) → last_item ids ≡ None → ids ≡ []
last_none [] is = refl
last_none (c ∷ ids) is = absurd (some (last_item ids) is)
  where
    some : (o : Option ItemId) → option_or o (Some c) ≡ None → ⊥
    some None none = absurd (cc)
    some (Some d) none = absurd (cc)

-- it is one of them
last_in : (ids : List ItemId) (d : ItemId) → last_item ids ≡ Some d → In d ids
last_in [] d is = absurd (cc)
last_in (c ∷ ids) d is = choose (last_item ids) refl is (last_in ids d)
  where
    choose : (o : Option ItemId) → last_item ids ≡ o → option_or o (Some c) ≡ Some d
        → (last_item ids ≡ Some d → In d ids) → In d (c ∷ ids)
    choose None none same rest = inl (cc)
    choose (Some e) some same rest = inr (rest (some ∙ same))

pub before_in : (place : Place) (ids : List ItemId) (d : ItemId) → before place ids ≡ Some d → In d ids
before_in place ids d is =
    in_take (position place (length ids)) ids d (last_in (take (position place (length ids)) ids) d is)

-- ---- an id put behind the last of those in front

put_last : (front : List ItemId) (id : ItemId) (rest : List ItemId) → Once (front ++ rest)
    → put_behind (last_item front) id (front ++ rest) ≡ front ++ id ∷ rest
put_last [] id rest one = refl
put_last (c ∷ front) id rest one = choose (last_item front) refl (put_last front id rest one.1)
  where
    choose : (o : Option ItemId) → last_item front ≡ o
        → put_behind (last_item front) id (front ++ rest) ≡ front ++ id ∷ rest
        → put_behind (option_or (last_item front) (Some c)) id (c ∷ (front ++ rest)) ≡ c ∷ (front ++ id ∷ rest)
    choose None is later =
        let alone : front ≡ [] = last_none front is in
        rw (is, eq-eqb c.0 c.0 refl) (ap (λ (cs : List ItemId). c ∷ id ∷ (cs ++ rest)) alone
        ∙ ap (λ (cs : List ItemId). c ∷ (cs ++ id ∷ rest)) (sym alone))
    choose (Some d) is later =
        let apart : c ≢ d = at_in (λ (e : ItemId). c ≢ e) (front ++ rest) d one.0
        (in_front front rest d (last_in front d is)) in
        rw (is, apart_numbers c d apart) (ap (λ (cs : List ItemId). c ∷ cs) (rw is at later))

put_before : (place : Place) (id : ItemId) (ids : List ItemId) → Once ids
    → put_behind (before place ids) id ids ≡ put place id ids
put_before place id ids one =
    let n : ℕ = position place (length ids) in
    let whole : take n ids ++ drop n ids ≡ ids = take-append-drop n ids in
    ap (put_behind (last_item (take n ids)) id) (sym whole)
    ∙ put_last (take n ids) id (drop n ids) (subst Once (sym whole) one)

-- ---- a child more, at a place

pub child_put : (items : List Item) (parent : ItemId) (place : Place) (id : ItemId) (ids : List ItemId) → Once ids
    → AllByRecursion (λ (i : Item). (i.id.0 == parent.0) ≡ true → i.children ≡ ids) items
    → map (adopting parent (before place ids) id) items ≡ with_child parent place id items
child_put [] parent place id ids one all = refl
child_put (i ∷ items) parent place id ids one all =
    choose (i.id.0 == parent.0) refl (child_put items parent place id ids one all.1)
  where
    choose : (b : Bool) → (i.id.0 == parent.0) ≡ b
        → map (adopting parent (before place ids) id) items ≡ with_child parent place id items
        → map (adopting parent (before place ids) id) (i ∷ items) ≡ with_child parent place id (i ∷ items)
    choose true is rest =
        let children : put_behind (before place ids) id i.children ≡ put place id i.children =
        ap (put_behind (before place ids) id) (all.0 is) ∙ put_before place id ids one
        ∙ ap (put place id) (sym (all.0 is)) in
        rw is
        (ap (λ (cs : List ItemId). let j : Item = record i { children = cs } in
        j ∷ map (adopting parent (before place ids) id) items) children
        ∙ ap (λ (is : List Item). let j : Item = record i { children = put place id i.children } in j ∷ is) rest)
    choose false is rest = rw is (ap (λ (is : List Item). i ∷ is) rest)

-- an item is the one of its id
pub its_children : (items : List Item) (parent : ItemId) → Ascends item_key items
    → AllByRecursion (λ (i : Item). (i.id.0 == parent.0) ≡ true → i.children ≡ children_of items parent) items
its_children items parent ascend =
    all_from_in (λ (i : Item). (i.id.0 == parent.0) ≡ true → i.children ≡ children_of items parent) items
    (λ i within is. ap children_in (sym (at_id items i parent ascend within (same_item i.id parent is))))

-- the rows with the item of a row, at a place of this folder
abbrev pub with_put : ItemId → Place → ItemRow → List ℕ → Kept → Kept
with_put parent place row title kept =
    record kept {
      ids = record kept.ids { item = kept.ids.item + 1 };
      items =
          with_child parent place (item_id kept.ids.item) kept.items
          ++ new_item (item_id kept.ids.item) row title ∷ [];
    }

pub item_put : (kept : Kept) (parent : ItemId) (place : Place) (row : ItemRow) (title : List ℕ)
    → row.parent ≡ Some parent → IsWellKept kept → IsTree kept.items
    → with_item row title (before place (children_of kept.items parent)) kept ≡ with_put parent place row title kept
item_put kept parent place row title is h tree =
    let id : ItemId = item_id kept.ids.item in
    let ids : List ItemId = children_of kept.items parent in
    ap (λ (items : List Item).
    record kept {
      ids = record kept.ids { item = kept.ids.item + 1 };
      items = items ++ new_item id row title ∷ [];
    })
    (ap (λ (p : Option ItemId). adopted p (before place ids) id kept.items) is
    ∙ child_put kept.items parent place id ids (children_once kept.items parent tree)
    (its_children kept.items parent (ids_ascend kept.items h.item_ids.ascending)))

-- behind the last child is at the end
pub item_appended : (kept now : Kept) (parent : ItemId) (last : Option ItemId) (row : ItemRow) (title : List ℕ)
    → row.parent ≡ Some parent → last ≡ before End (children_of kept.items parent) → IsWellKept kept
    → IsTree kept.items → now ≡ with_item row title last kept → now ≡ with_appended parent row title kept
item_appended kept now parent last row title is last_is h tree made =
    made
    ∙ ap (λ (after : Option ItemId). with_item row title after kept) last_is
    ∙ item_put kept parent End row title is h tree

pub item_inserted : (kept : Kept) (parent : ItemId) (place : Place) (new : NewItem) → IsWellKept kept
    → IsTree kept.items
    → with_item (row_of_new parent new) new.title (before place (children_of kept.items parent)) kept
    ≡ with_inserted parent place new kept
item_inserted kept parent place new h tree = item_put kept parent place (row_of_new parent new) new.title refl h tree

-- ---- a move

once_without : (id : ItemId) (ids : List ItemId) → Once ids → Once (without_id id ids)
once_without id [] one = tt
once_without id (c ∷ ids) one = choose (c.0 == id.0) (once_without id ids one.1)
  where
    choose : (b : Bool) → Once (without_id id ids)
        → Once (if not b then c ∷ without_id id ids else without_id id ids)
    choose true rest = rest
    choose false rest = (all-filter (λ (d : ItemId). c ≢ d) (λ (d : ItemId). not (d.0 == id.0)) ids one.0, rest)

children_left : (id : ItemId) (items all : List Item) (parent : ItemId)
    → AllByRecursion (λ (i : Item). (i.id.0 == parent.0) ≡ true → i.children ≡ children_of all parent) items
    → AllByRecursion (λ (i : Item). (i.id.0 == parent.0) ≡ true → i.children ≡ without_id id (children_of all parent))
    (map (leaving id) items)
children_left id [] all parent each = tt
children_left id (i ∷ items) all parent each =
    (λ is. ap (without_id id) (each.0 is), children_left id items all parent each.1)

pub item_moved : (kept : Kept) (item parent : ItemId) (place : Place) → IsWellKept kept → IsTree kept.items
    → moved item parent (before place (without_id item (children_of kept.items parent))) kept.items
    ≡ with_child parent place item (taken_out item kept.items)
item_moved kept item parent place h tree =
    child_put (map (leaving item) kept.items) parent place item (without_id item (children_of kept.items parent))
    (once_without item (children_of kept.items parent) (children_once kept.items parent tree))
    (children_left item kept.items kept.items parent
    (its_children kept.items parent (ids_ascend kept.items h.item_ids.ascending)))

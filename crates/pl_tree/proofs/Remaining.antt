-- The items that remain where some are gone, one leaf after another.
use Rattle.std.proofs.Common.{◌≡◌, ◌∙◌, ◌||◌, ◌==◌, Bool, true, false, List, [], ◌∷◌, Option, Some, None}
use Rattle.std.proofs.Common.{ap, filter, find, if◌then◌else◌, map, not, refl, sym}
use Rattle.std.specs.List.{AllByRecursion}
use Rattle.std.specs.Option.{option_map}
use Rattle.std.proofs.lemmas.Bool.{both_ways}
use Rattle.pl_base.specs.declared.id.ItemId.{ItemId}
use Rattle.pl_base.specs.Store.{Item}
use Rattle.pl_base.specs.Tree.{children_of, has_child, has_item, item_at, leaving, parent_of, removed, without_id}
use Rattle.pl_base.proofs.ListLaws.{found_in}
use Rattle.pl_base.proofs.LookUps.{found_some}
use Rattle.pl_base.proofs.ItemLookUps.{same_item}
use Rattle.pl_base.proofs.OneParent.{is_among}
use Rattle.pl_tree.proofs.LookedUp.{children_in}
use Rattle.pl_tree.proofs.MappedItems.{at_filter, at_map}

-- an item without the children that are gone
abbrev pub cleared : (ItemId → Bool) → Item → Item
cleared gone i = record i { children = filter (λ (c : ItemId). not (gone c)) i.children }

-- the items without those that are gone
abbrev pub remaining : (ItemId → Bool) → List Item → List Item
remaining gone items = map (cleared gone) (filter (λ (i : Item). not (gone i.id)) items)

-- one more is gone
abbrev pub and_gone : (ItemId → Bool) → ItemId → ItemId → Bool
and_gone gone at c = gone c || (c.0 == at.0)

-- none is gone
abbrev pub none_gone : ItemId → Bool
none_gone c = false

-- ---- none is gone

all_kept : (ids : List ItemId) → filter (λ (c : ItemId). not (none_gone c)) ids ≡ ids
all_kept [] = refl
all_kept (c ∷ ids) = ap (λ (cs : List ItemId). c ∷ cs) (all_kept ids)

pub all_remain : (items : List Item) → remaining none_gone items ≡ items
all_remain [] = refl
all_remain (i ∷ items) =
    ap (λ (cs : List ItemId). let j : Item = record i { children = cs } in j ∷ remaining none_gone items)
    (all_kept i.children)
    ∙ ap (λ (is : List Item). i ∷ is) (all_remain items)

-- ---- one leaf more

fewer_kept : (gone : ItemId → Bool) (at : ItemId) (ids : List ItemId)
    → without_id at (filter (λ (c : ItemId). not (gone c)) ids) ≡ filter (λ (c : ItemId). not (and_gone gone at c)) ids
fewer_kept gone at [] = refl
fewer_kept gone at (c ∷ ids) = choose (gone c) (c.0 == at.0) refl refl (fewer_kept gone at ids)
  where
    olds : List ItemId
    olds = filter (λ (d : ItemId). not (gone d)) ids

    news : List ItemId
    news = filter (λ (d : ItemId). not (and_gone gone at d)) ids

    choose : (a b : Bool) → gone c ≡ a → (c.0 == at.0) ≡ b → without_id at olds ≡ news
        → without_id at (if not a then c ∷ olds else olds) ≡ (if not (a || b) then c ∷ news else news)
    choose true b went same rest = rest
    choose false true went same rest = rw same rest
    choose false false went same rest = rw same (ap (λ (ds : List ItemId). c ∷ ds) rest)

pub removed_more : (gone : ItemId → Bool) (at : ItemId) (items : List Item)
    → removed at (remaining gone items) ≡ remaining (and_gone gone at) items
removed_more gone at [] = refl
removed_more gone at (i ∷ items) = choose (gone i.id) (i.id.0 == at.0) refl refl (removed_more gone at items)
  where
    olds : List Item
    olds = filter (λ (j : Item). not (gone j.id)) items

    news : List Item
    news = filter (λ (j : Item). not (and_gone gone at j.id)) items

    choose : (a b : Bool) → gone i.id ≡ a → (i.id.0 == at.0) ≡ b
        → removed at (map (cleared gone) olds) ≡ map (cleared (and_gone gone at)) news
        → removed at (map (cleared gone) (if not a then i ∷ olds else olds))
        ≡ map (cleared (and_gone gone at)) (if not (a || b) then i ∷ news else news)
    choose true b went same rest = rest
    choose false true went same rest = rw same rest
    choose false false went same rest =
        rw same
        (ap (λ (cs : List ItemId). let j : Item = record i { children = cs } in
        j ∷ removed at (map (cleared gone) olds)) (fewer_kept gone at i.children)
        ∙ ap (λ (is : List Item). cleared (and_gone gone at) i ∷ is) rest)

-- ---- what is found

pub at_remaining : (gone : ItemId → Bool) (items : List Item) (id : ItemId) → gone id ≡ false
    → item_at (remaining gone items) id ≡ option_map (cleared gone) (item_at items id)
at_remaining gone items id here =
    at_map (cleared gone) (λ i. refl) (filter (λ (i : Item). not (gone i.id)) items) id
    ∙ ap (option_map (cleared gone)) (at_filter (λ (c : ItemId). not (gone c)) items id (ap not here))

pub children_remaining : (gone : ItemId → Bool) (items : List Item) (id : ItemId) → gone id ≡ false
    → children_of (remaining gone items) id ≡ filter (λ (c : ItemId). not (gone c)) (children_of items id)
children_remaining gone items id here =
    ap children_in (at_remaining gone items id here) ∙ within (item_at items id)
  where
    within : (o : Option Item)
        → children_in (option_map (cleared gone) o) ≡ filter (λ (c : ItemId). not (gone c)) (children_in o)
    within None = refl
    within (Some i) = refl

pub has_remaining : (gone : ItemId → Bool) (items : List Item) (id : ItemId) → gone id ≡ false
    → has_item items id ≡ true → has_item (remaining gone items) id ≡ true
has_remaining gone items id here has = choose (item_at items id) refl
  where
    choose : (o : Option Item) → item_at items id ≡ o → has_item (remaining gone items) id ≡ true
    choose None at = absurd (cc (found_in (λ (i : Item). i.id.0 == id.0) items has))
    choose (Some i) at =
        found_some (λ (j : Item). j.id.0 == id.0) (remaining gone items) (cleared gone i)
        (at_remaining gone items id here ∙ ap (option_map (cleared gone)) at)

-- a child that is not gone is among those that remain
still_child : (gone : ItemId → Bool) (c : ItemId) (ids : List ItemId) → gone c ≡ false
    → is_among c (filter (λ (d : ItemId). not (gone d)) ids) ≡ is_among c ids
still_child gone c [] here = refl
still_child gone c (d ∷ ids) here = choose (gone d) (d.0 == c.0) refl refl (still_child gone c ids here)
  where
    kept : List ItemId
    kept = filter (λ (e : ItemId). not (gone e)) ids

    choose : (a b : Bool) → gone d ≡ a → (d.0 == c.0) ≡ b → is_among c kept ≡ is_among c ids
        → is_among c (if not a then d ∷ kept else kept) ≡ (b || is_among c ids)
    choose true true went same rest =
        absurd (both_ways (gone c) here (ap gone (sym (same_item d c same)) ∙ went))
    choose true false went other rest = rest
    choose false b went same rest = rw same (ap (λ (e : Bool). b || e) rest)

-- the same item is found to have it as a child
still_found : (gone : ItemId → Bool) (c : ItemId) (items : List Item) → gone c ≡ false
    → AllByRecursion (λ (i : Item). has_child c i ≡ true → gone i.id ≡ false) items
    → find (has_child c) (remaining gone items) ≡ option_map (cleared gone) (find (has_child c) items)
still_found gone c [] here all = refl
still_found gone c (i ∷ items) here all =
    choose (gone i.id) (has_child c i) refl refl (still_found gone c items here all.1)
  where
    kept : List Item
    kept = filter (λ (j : Item). not (gone j.id)) items

    choose : (a b : Bool) → gone i.id ≡ a → has_child c i ≡ b
        → find (has_child c) (map (cleared gone) kept) ≡ option_map (cleared gone) (find (has_child c) items)
        → find (has_child c) (map (cleared gone) (if not a then i ∷ kept else kept))
        ≡ option_map (cleared gone) (if b then Some i else find (has_child c) items)
    choose true true went has rest = absurd (both_ways (gone i.id) (all.0 has) went)
    choose true false went other rest = rest
    choose false true went has rest = rw (still_child gone c i.children here ∙ has) refl
    choose false false went other rest = rw (still_child gone c i.children here ∙ other) rest

pub parent_remaining : (gone : ItemId → Bool) (items : List Item) (c : ItemId) → gone c ≡ false
    → AllByRecursion (λ (i : Item). has_child c i ≡ true → gone i.id ≡ false) items
    → parent_of (remaining gone items) c ≡ parent_of items c
parent_remaining gone items c here all =
    ap (option_map (λ (i : Item). i.id)) (still_found gone c items here all) ∙ bare_id (find (has_child c) items)
  where
    bare_id : (o : Option Item)
        → option_map (λ (i : Item). i.id) (option_map (cleared gone) o) ≡ option_map (λ (i : Item). i.id) o
    bare_id None = refl
    bare_id (Some i) = refl

-- ---- all that lie in an item are gone

-- where the same are gone of the items and of the children that remain
pub remaining_as : (gone : ItemId → Bool) (inside : ItemId → Bool) (top : ItemId) (items : List Item)
    → ((c : ItemId) → gone c ≡ inside c)
    → AllByRecursion (λ (i : Item). inside i.id ≡ false
    → AllByRecursion (λ (c : ItemId). gone c ≡ (c.0 == top.0)) i.children) items
    → remaining gone items ≡ map (leaving top) (filter (λ (i : Item). not (inside i.id)) items)
remaining_as gone inside top [] same all = refl
remaining_as gone inside top (i ∷ items) same all =
    choose (inside i.id) refl (same i.id) (remaining_as gone inside top items same all.1)
  where
    olds : List Item
    olds = filter (λ (j : Item). not (gone j.id)) items

    news : List Item
    news = filter (λ (j : Item). not (inside j.id)) items

    left : (ids : List ItemId) → AllByRecursion (λ (c : ItemId). gone c ≡ (c.0 == top.0)) ids
        → filter (λ (c : ItemId). not (gone c)) ids ≡ without_id top ids
    left [] each = refl
    left (c ∷ ids) each =
        ap (λ (b : Bool). if not b then c ∷ filter (λ (d : ItemId). not (gone d)) ids
        else filter (λ (d : ItemId). not (gone d)) ids) each.0
        ∙ ap (λ (ds : List ItemId). if not (c.0 == top.0) then c ∷ ds else ds) (left ids each.1)

    choose : (b : Bool) → inside i.id ≡ b → gone i.id ≡ inside i.id
        → map (cleared gone) olds ≡ map (leaving top) news
        → remaining gone (i ∷ items)
        ≡ map (leaving top) (filter (λ (j : Item). not (inside j.id)) (i ∷ items))
    choose true is agree rest = rw (agree, is) rest
    choose false is agree rest =
        rw (agree, is)
        (ap (λ (cs : List ItemId). let j : Item = record i { children = cs } in j ∷ map (cleared gone) olds)
        (left i.children (all.0 is))
        ∙ ap (λ (js : List Item). leaving top i ∷ js) rest)

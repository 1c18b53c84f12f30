-- Items that are looked up by their ids, which ascend, and by their children, each of which has one
-- parent.
use Rattle.std.proofs.Common.{◌≡◌, ◌<◌, ◌||◌, ◌==◌, ◌∙◌, inl, inr, ℕ, Bool, true, false}
use Rattle.std.proofs.Common.{List, [], ◌∷◌, Option, Some, None, ap, sym, subst, arith, refl, find}
use Rattle.std.proofs.Common.{if◌then◌else◌, eq-eqb}
use Rattle.std.specs.List.{filter_map, list_any}
use Rattle.std.specs.Option.{option_map}
use Rattle.std.proofs.lemmas.Bool.{both_ways, eqb-true, false_from_ne_true, ne_eqb, or_left, or_right}
use Rattle.std.proofs.lemmas.Option.{same_Some}
use Rattle.pl_base.specs.declared.id.ItemId.{ItemId}
use Rattle.pl_base.specs.declared.item.ItemKind.TheVariants.{Folder}
use Rattle.pl_base.specs.Good.{child_ids}
use Rattle.pl_base.specs.Store.{Item}
use Rattle.pl_base.specs.Tree.{IsFolder, children_of, has_child, has_item, item_at, parent_of}
use Rattle.pl_base.proofs.Among.{In, at_in, from_flat_map, from_found, in_flat_map}
use Rattle.pl_base.proofs.ItemLookUps.{same_item_number}
use Rattle.pl_base.proofs.KeyCounts.{Ascends, Once, count-append, counted}

abbrev pub item_key : Item → ℕ
item_key i = i.id.0

abbrev pub id_key : ItemId → ℕ
id_key id = id.0

-- ---- lists of ids

pub in_among : (ids : List ItemId) (id : ItemId) → In id ids → list_any (λ (c : ItemId). c.0 == id.0) ids ≡ true
in_among [] id h = absurd h
in_among (c ∷ cs) id (inl e) =
    or_left (c.0 == id.0) (list_any (λ (d : ItemId). d.0 == id.0) cs) (eq-eqb c.0 id.0 (ap id_key (sym e)))
in_among (c ∷ cs) id (inr h) =
    or_right (c.0 == id.0) (list_any (λ (d : ItemId). d.0 == id.0) cs) (in_among cs id h)

pub among_in : (ids : List ItemId) (id : ItemId) → list_any (λ (c : ItemId). c.0 == id.0) ids ≡ true → In id ids
among_in [] id some = absurd (both_ways false refl some)
among_in (c ∷ cs) id some = choose (c.0 == id.0) refl some (among_in cs id)
  where
    choose : (b : Bool) → (c.0 == id.0) ≡ b → (b || list_any (λ (d : ItemId). d.0 == id.0) cs) ≡ true
        → (list_any (λ (d : ItemId). d.0 == id.0) cs ≡ true → In id cs) → In id (c ∷ cs)
    choose true is some rest = inl (sym (same_item_number c id (eqb-true c.0 id.0 is)))
    choose false is some rest = inr (rest some)

-- ---- what is found

pub none_found : {X : Type 0} (test : X → Bool) (xs : List X) (x : X) → find test xs ≡ None → In x xs → test x ≡ false
none_found test [] x none h = absurd h
none_found test (y ∷ ys) x none h = choose (test y) refl none h (none_found test ys x)
  where
    choose : (b : Bool) → test y ≡ b → (if b then Some y else find test ys) ≡ None → In x (y ∷ ys)
        → (find test ys ≡ None → In x ys → test x ≡ false) → test x ≡ false
    choose true is none h rest = absurd (cc)
    choose false is none (inl e) rest = ap test e ∙ is
    choose false is none (inr g) rest = rest none g

pub found_at : (items : List Item) (id : ItemId) (i : Item) → item_at items id ≡ Some i → In i items × (i.id ≡ id)
found_at items id i is =
    let r = from_found (λ (j : Item). j.id.0 == id.0) items i is in
    (r.0, same_item_number i.id id (eqb-true i.id.0 id.0 r.1))

pub folder_at : (items : List Item) (id : ItemId) (i : Item) → item_at items id ≡ Some i → i.kind ≡ Folder
    → IsFolder items id
folder_at items id i is kind = rw is kind

pub in_has : (items : List Item) (id : ItemId) → has_item items id ≡ true → (i : Item) × In i items × (i.id ≡ id)
in_has [] id has = absurd (both_ways false refl has)
in_has (j ∷ js) id has = choose (j.id.0 == id.0) refl (in_has js id) has
  where
    choose : (b : Bool) → (j.id.0 == id.0) ≡ b → (has_item js id ≡ true → (i : Item) × In i js × (i.id ≡ id))
        → (b || has_item js id) ≡ true → (i : Item) × In i (j ∷ js) × (i.id ≡ id)
    choose true is rest some = (j, inl refl, same_item_number j.id id (eqb-true j.id.0 id.0 is))
    choose false is rest some = let r = rest some in (r.0, inr r.1, r.2)

-- ---- ids ascend

-- each item is found by its id
pub at_its_id : (items : List Item) (i : Item) → Ascends item_key items → In i items → item_at items i.id ≡ Some i
at_its_id [] i up h = absurd h
at_its_id (j ∷ js) i up (inl e) =
    rw (eq-eqb j.id.0 i.id.0 (ap item_key (sym e))) (ap (λ (k : Item). Some k) (sym e))
at_its_id (j ∷ js) i up (inr h) =
    let above : j.id.0 < i.id.0 = at_in (λ (k : Item). j.id.0 < k.id.0) js i up.0 h in
    rw (ne_eqb j.id.0 i.id.0 (λ same. omega arith)) (at_its_id js i up.1 h)

pub at_id : (items : List Item) (i : Item) (id : ItemId) → Ascends item_key items → In i items → i.id ≡ id
    → item_at items id ≡ Some i
at_id items i id up h e = subst (λ (c : ItemId). item_at items c ≡ Some i) e (at_its_id items i up h)

pub one_of_id : (items : List Item) (i j : Item) → Ascends item_key items → In i items → In j items → i.id ≡ j.id
    → i ≡ j
one_of_id items i j up h g e = same_Some i j (sym (at_id items i j.id up h e) ∙ at_its_id items j up g)

-- ---- parents

pub in_child_ids : (items : List Item) (i : Item) (c : ItemId) → In i items → In c i.children → In c (child_ids items)
in_child_ids items i c h g = in_flat_map (λ (j : Item). j.children) items i c h g

pub from_child_ids : (items : List Item) (c : ItemId) → In c (child_ids items)
    → (i : Item) × In i items × In c i.children
from_child_ids items c h = from_flat_map (λ (j : Item). j.children) items c h

pub parent_found : (items : List Item) (i : Item) (c : ItemId) → Once id_key (child_ids items) → In i items
    → In c i.children → find (has_child c) items ≡ Some i
parent_found [] i c once h g = absurd h
parent_found (j ∷ js) i c once (inl e) g =
    let has : has_child c j ≡ true = ap (has_child c) (sym e) ∙ in_among i.children c g in
    rw has (ap (λ (k : Item). Some k) (sym e))
parent_found (j ∷ js) i c once (inr h) g =
    let parts = count-append id_key c.0 j.children (child_ids js) in
    let others : has_child c j ≡ false =
    false_from_ne_true (has_child c j) (λ has.
    let here = counted id_key c.0 j.children c (among_in j.children c has) refl in
    let there = counted id_key c.0 (child_ids js) c (in_child_ids js i c h g) refl in
    omega (arith, parts, once c.0))
    in
    rw others (parent_found js i c (λ k.
    omega (arith, count-append id_key k j.children (child_ids js), once k)) h g)

pub parent_is : (items : List Item) (i : Item) (c : ItemId) → Once id_key (child_ids items) → In i items
    → In c i.children → parent_of items c ≡ Some i.id
parent_is items i c once h g = ap (option_map (λ (j : Item). j.id)) (parent_found items i c once h g)

-- as `children_of` has it
abbrev pub children_in : Option Item → List ItemId
children_in None = []
children_in (Some i) = i.children

-- an item that has a child is there
pub child_of : (items : List Item) (id c : ItemId) → In c (children_of items id)
    → (i : Item) × In i items × (i.id ≡ id) × In c i.children × (item_at items id ≡ Some i)
child_of items id c h = choose (item_at items id) refl h
  where
    choose : (o : Option Item) → item_at items id ≡ o → In c (children_in o)
        → (i : Item) × In i items × (i.id ≡ id) × In c i.children × (item_at items id ≡ Some i)
    choose None is h = absurd h
    choose (Some i) is h = let r = found_at items id i is in (i, r.0, r.1, h, is)

pub parent_of_child : (items : List Item) (id c : ItemId) → Once id_key (child_ids items)
    → In c (children_of items id) → parent_of items c ≡ Some id
parent_of_child items id c once h =
    let r = child_of items id c h in
    let i : Item = r.0 in
    parent_is items i c once r.1 r.3 ∙ ap (λ (p : ItemId). Some p) r.2

-- an item that has the child is the parent
pub one_parent : (items : List Item) (i : Item) (p c : ItemId) → Once id_key (child_ids items) → In i items
    → In c i.children → In c (children_of items p) → i.id ≡ p
one_parent items i p c once h g child =
    same_Some i.id p (sym (parent_is items i c once h g) ∙ parent_of_child items p c once child)

-- the parent is there, and has the child
pub has_parent : (items : List Item) (c p : ItemId) → parent_of items c ≡ Some p
    → (i : Item) × In i items × (i.id ≡ p) × In c i.children
has_parent items c p is = choose (find (has_child c) items) refl is
  where
    choose : (o : Option Item) → find (has_child c) items ≡ o → option_map (λ (i : Item). i.id) o ≡ Some p
        → (i : Item) × In i items × (i.id ≡ p) × In c i.children
    choose None found is = absurd (cc)
    choose (Some i) found is =
        let r = from_found (has_child c) items i found in
        (i, r.0, same_Some i.id p is, among_in i.children c r.1)

-- ---- items that were looked up

pub filter_map-alike : (f g : ItemId → Option Item) (ids : List ItemId) → ((c : ItemId) → In c ids → f c ≡ g c)
    → filter_map f ids ≡ filter_map g ids
filter_map-alike f g [] alike = refl
filter_map-alike f g (c ∷ cs) alike =
    rw (alike c (inl refl), filter_map-alike f g cs (λ d h. alike d (inr h))) refl

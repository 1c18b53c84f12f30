-- The children of an item, counted: the one at a place, the first so many, and that there are fewer
-- than ids.
use Rattle.std.proofs.Common.{◌≡◌, ◌≢◌, ◌∙◌, ◌+◌, ◌<◌, ◌≤◌, ◌++◌, ◌==◌, ◌||◌, ℕ, Bool, true, false, List, [], ◌∷◌}
use Rattle.std.proofs.Common.{Option, Some, None, ap, arith, eq-eqb, filter}
use Rattle.std.proofs.Common.{if◌then◌else◌, inl, inr, length, map, min}
use Rattle.std.proofs.Common.{not, refl, suc, sym, take, zero}
use Rattle.std.specs.List.{AllByRecursion, list_any, slice_get}
use Rattle.std.specs.Option.{is_some, option_eq}
use Rattle.std.proofs.lemmas.Bool.{eqb-true, false≢true, ne_eqb, or_cases, or_left, or_right}
use Rattle.std.proofs.lemmas.List.{append-nil, length-append, length-map, take-append-le}
use Rattle.std.proofs.lemmas.List.Elements.{filter-append, recursion_from_All}
use Rattle.std.proofs.lemmas.List.Sums.{count_by-le-length, length-filter}
use Rattle.pl_base.specs.declared.id.ItemId.{ItemId}
use Rattle.pl_base.specs.Good.{IsTree, child_ids, end_of_ids}
use Rattle.pl_base.specs.Rows.{IsWellKept, Kept}
use Rattle.pl_base.specs.Store.{Item}
use Rattle.pl_base.specs.Tree.{children_of, first_item, has_item, item_at}
use Rattle.pl_base.specs.Tree.{last_item}
use Rattle.pl_base.proofs.IdsLaws.{few_ids}
use Rattle.pl_base.proofs.LookUps.{both, found_holds, front, rest_of}
use Rattle.pl_base.proofs.ItemLookUps.{last_push, same_item}
use Rattle.pl_base.proofs.ChildrenRun.{child_names, children_once}
use Rattle.pl_base.proofs.OneParent.{Once}
use Rattle.pl_base.proofs.Walk.{Walk}
use Rattle.pl_tree.specs.declared.place.Place.TheVariants.{End}
use Rattle.pl_tree.specs.Places.{before, is_item, others}

-- ---- the child at a place

pub at_front : (front rest : List ItemId) → slice_get (front ++ rest) (length front) ≡ first_item rest
at_front [] [] = refl
at_front [] (c ∷ rest) = refl
at_front (c ∷ front) rest = at_front front rest

-- as many are in front of the next one
abbrev pub Counts : ℕ → List ItemId → Type 0
Counts n front = length front ≡ n

pub counts_more : (front : List ItemId) (c : ItemId) (n : ℕ) → Counts n front → Counts (n + 1) (front ++ c ∷ [])
counts_more front c n is = omega (arith, length-append front (c ∷ []))

pub found_at : (ids : List ItemId) (n : ℕ) (next : Option ItemId) → Walk child_names ids (Counts n) next → next ≡ slice_get ids n
found_at ids n next w =
    w.here ∙ sym (at_front w.front w.rest) ∙ ap (slice_get (w.front ++ w.rest)) w.so_far
    ∙ ap (λ (cs : List ItemId). slice_get cs n) (sym w.whole)

none_from : (ids : List ItemId) (n m : ℕ) → n ≤ m → None ≡ slice_get ids n → None ≡ slice_get ids m
none_from [] n m le is = refl
none_from (c ∷ ids) zero m le is = absurd (cc)
none_from (c ∷ ids) (suc n) zero le is = absurd (omega arith)
none_from (c ∷ ids) (suc n) (suc m) le is = none_from ids n m (omega arith) is

pub ended_before : (ids : List ItemId) (n m : ℕ) (next : Option ItemId) → Walk child_names ids (Counts n) next → next ≡ None
    → n ≤ m → None ≡ slice_get ids m
ended_before ids n m next w end le = none_from ids n m le (sym end ∙ found_at ids n next w)

-- ---- the first so many, with one left out

-- the counted ids, and the last of them
pub record AreFirst (left_out : Option ItemId) (limit count : ℕ) (last : Option ItemId) (front : List ItemId)
    : Type 0 where
  pub count_is : count ≡ length (others left_out front)
  pub last_is : last ≡ last_item (others left_out front)
  pub few : count ≤ limit

pub first_none : (left_out : Option ItemId) (limit : ℕ) → AreFirst left_out limit 0 None []
first_none left_out limit = record { count_is = refl; last_is = refl; few = omega arith }

others_more : (left_out : Option ItemId) (front : List ItemId) (c : ItemId) (b : Bool) → is_item c left_out ≡ b
    → others left_out (front ++ c ∷ []) ≡ others left_out front ++ (if not b then c ∷ [] else [])
others_more left_out front c b is =
    filter-append (λ (d : ItemId). not (is_item d left_out)) front (c ∷ [])
    ∙ ap (λ (a : Bool). others left_out front ++ (if not a then c ∷ [] else [])) is

-- the one that is left out
pub first_same : (left_out : Option ItemId) (limit count : ℕ) (last : Option ItemId) (front : List ItemId) (c : ItemId)
    → AreFirst left_out limit count last front → is_item c left_out ≡ true
    → AreFirst left_out limit count last (front ++ c ∷ [])
first_same left_out limit count last front c h is =
    let same : others left_out (front ++ c ∷ []) ≡ others left_out front =
    others_more left_out front c true is ∙ append-nil (others left_out front) in
    record {
      count_is = h.count_is ∙ ap length (sym same);
      last_is = h.last_is ∙ ap last_item (sym same);
      few = h.few;
    }

-- another one
pub first_more : (left_out : Option ItemId) (limit count : ℕ) (last : Option ItemId) (front : List ItemId) (c : ItemId)
    → AreFirst left_out limit count last front → is_item c left_out ≡ false → (count ≡ limit → ⊥)
    → AreFirst left_out limit (count + 1) (Some c) (front ++ c ∷ [])
first_more left_out limit count last front c h is below =
    let more : others left_out (front ++ c ∷ []) ≡ others left_out front ++ c ∷ [] =
    others_more left_out front c false is in
    record {
      count_is = omega (arith, h.count_is, ap length more, length-append (others left_out front) (c ∷ []));
      last_is = sym (ap last_item more ∙ last_push (others left_out front) c);
      few = omega (arith, h.few);
    }

-- what the walk tells where it ends
pub record Told (ids : List ItemId) (limit count : ℕ) (last : Option ItemId) : Type 0 where
  pub count_is : count ≡ min limit (length ids)
  pub last_is : last ≡ last_item (take limit ids)

pub is_out : (c : ItemId) (o : Option ItemId) → option_eq (λ (a b : ItemId). a.0 == b.0) (Some c) o ≡ is_item c o
is_out c None = refl
is_out c (Some id) = refl

pub take_all : (n : ℕ) (ids : List ItemId) → length ids ≤ n → take n ids ≡ ids
take_all zero [] le = refl
take_all zero (c ∷ ids) le = absurd (omega arith)
take_all (suc n) [] le = refl
take_all (suc n) (c ∷ ids) le = ap (λ (cs : List ItemId). c ∷ cs) (take_all n ids (omega arith))

pub told_all : (ids : List ItemId) (left_out : Option ItemId) (limit count : ℕ) (last : Option ItemId)
    → AreFirst left_out limit count last ids → Told (others left_out ids) limit count last
told_all ids left_out limit count last h =
    record {
      count_is = omega (arith, h.count_is, h.few);
      last_is =
          h.last_is ∙ ap last_item (sym (take_all limit (others left_out ids) (omega (arith, h.count_is, h.few))));
    }

take_front : (n : ℕ) (xs ys : List ItemId) → length xs ≡ n → take n (xs ++ ys) ≡ xs
take_front n xs ys is =
    take-append-le n xs ys (omega arith) ∙ take_all n xs (omega arith)

pub told_full : (ids : List ItemId) (left_out : Option ItemId) (limit count : ℕ) (last next : Option ItemId)
    → Walk child_names ids (AreFirst left_out limit count last) next → count ≡ limit
    → Told (others left_out ids) limit count last
told_full ids left_out limit count last next w full =
    let split : others left_out ids ≡ others left_out w.front ++ others left_out w.rest =
    ap (others left_out) w.whole ∙ filter-append (λ (c : ItemId). not (is_item c left_out)) w.front w.rest in
    let len : length (others left_out w.front) ≡ limit = sym w.so_far.count_is ∙ full in
    record {
      count_is =
          omega (
            arith,
            full,
            len,
            ap length split,
            length-append (others left_out w.front) (others left_out w.rest),
          );
      last_is =
          w.so_far.last_is
          ∙ ap last_item
          (sym (ap (take limit) split ∙ take_front limit (others left_out w.front) (others left_out w.rest) len));
    }

-- ---- there are fewer children than ids

others_there : (items : List Item) (c d : ItemId) → c ≢ d → has_item items d ≡ true
    → has_item (filter (λ (i : Item). not (i.id.0 == c.0)) items) d ≡ true
others_there [] c d apart has = absurd (false≢true has)
others_there (i ∷ items) c d apart has =
    choose (i.id.0 == c.0) refl (others_there items c d apart)
  where
    kept : List Item
    kept = filter (λ (j : Item). not (j.id.0 == c.0)) items

    choose : (b : Bool) → (i.id.0 == c.0) ≡ b → (has_item items d ≡ true → has_item kept d ≡ true)
        → has_item (if not b then i ∷ kept else kept) d ≡ true
    choose true is rest =
        rest (sym (ap (λ (a : Bool). a || has_item items d)
        (ne_eqb i.id.0 d.0 (λ same. apart (same_item c d (eq-eqb c.0 d.0 (sym (eqb-true i.id.0 c.0 is) ∙ same))))))
        ∙ has)
    choose false is rest =
        elim (or_cases (i.id.0 == d.0) (has_item items d) has) [
          | inl here ↦ or_left (i.id.0 == d.0) (has_item kept d) here
          | inr there ↦ or_right (i.id.0 == d.0) (has_item kept d) (rest there)
        ]

pub fewer : (p : Item → Bool) (items : List Item) → list_any p items ≡ true
    → length (filter (λ (i : Item). not (p i)) items) < length items
fewer p [] some = absurd (false≢true some)
fewer p (i ∷ items) some = choose (p i) some (fewer p items)
  where
    choose : (b : Bool) → (b || list_any p items) ≡ true
        → (list_any p items ≡ true → length (filter (λ (j : Item). not (p j)) items) < length items)
        → length (if not b then i ∷ filter (λ (j : Item). not (p j)) items else filter (λ (j : Item). not (p j)) items)
        < length (i ∷ items)
    choose true some rest = omega (
      arith,
      length-filter (λ (j : Item). not (p j)) items,
      count_by-le-length (λ (j : Item). not (p j)) items,
    )
    choose false some rest = omega (arith, rest some)

few_of : (ids : List ItemId) (items : List Item) → Once ids
    → AllByRecursion (λ (c : ItemId). has_item items c ≡ true) ids → length ids ≤ length items
few_of [] items one all = omega arith
few_of (c ∷ cs) items one all =
    omega (
      arith,
      fewer (λ (i : Item). i.id.0 == c.0) items all.0,
      few_of cs (filter (λ (i : Item). not (i.id.0 == c.0)) items) one.1
          (both (λ (d : ItemId). c ≢ d) (λ (d : ItemId). has_item items d ≡ true)
          (λ (d : ItemId). has_item (filter (λ (i : Item). not (i.id.0 == c.0)) items) d ≡ true) cs
          (λ d apart has. others_there items c d apart has) one.0 all.1),
    )

each_known : (all items : List Item) → AllByRecursion (λ (c : ItemId). has_item all c ≡ true) (child_ids items)
    → AllByRecursion (λ (i : Item). AllByRecursion (λ (c : ItemId). has_item all c ≡ true) i.children) items
each_known all [] known = tt
each_known all (i ∷ items) known = (
  front (λ (c : ItemId). has_item all c ≡ true) i.children (child_ids items) known,
  each_known all items (rest_of (λ (c : ItemId). has_item all c ≡ true) i.children (child_ids items) known),
)

pub children_known : (items : List Item) (parent : ItemId) → IsTree items
    → AllByRecursion (λ (c : ItemId). has_item items c ≡ true) (children_of items parent)
children_known items parent tree = choose (item_at items parent) refl
  where
    choose : (o : Option Item) → item_at items parent ≡ o
        → AllByRecursion (λ (c : ItemId). has_item items c ≡ true) (children_of items parent)
    choose None at = rw at tt
    choose (Some p) at =
        rw at
        (found_holds (λ (i : Item). AllByRecursion (λ (c : ItemId). has_item items c ≡ true) i.children)
        (λ (i : Item). i.id.0 == parent.0) items p
        (each_known items items
        (recursion_from_All (λ c. has_item items c ≡ true) (child_ids items) tree.known)) at)

pub few_items : (kept : Kept) → IsWellKept kept → length kept.items < end_of_ids
few_items kept h =
    few_ids (map (λ (i : Item). i.id.0) kept.items) kept.ids.item (length kept.items)
    (record {
      ascending = h.item_ids.ascending;
      given = h.item_ids.given;
      next_first = omega (arith, h.item_ids.next_first);
      next_last = h.item_ids.next_last;
    })
    (length-map kept.items (λ (i : Item). i.id.0))

pub few_children : (kept : Kept) (parent : ItemId) (left_out : Option ItemId) → IsWellKept kept → IsTree kept.items
    → length (others left_out (children_of kept.items parent)) < end_of_ids
few_children kept parent left_out h tree =
    omega (
      arith,
      length-filter (λ c. not (is_item c left_out)) (children_of kept.items parent),
      count_by-le-length (λ c. not (is_item c left_out)) (children_of kept.items parent),
      few_of (children_of kept.items parent) kept.items (children_once kept.items parent tree)
          (children_known kept.items parent tree),
      few_items kept h,
    )

-- ---- the end of a list

-- it lies behind the last id
pub last_before_end : (ids : List ItemId) → last_item ids ≡ before End ids
last_before_end ids = ap last_item (sym (take_all (length ids) ids (omega arith)))

pub before_end : (ids : List ItemId) (limit : ℕ) → length ids ≤ limit → last_item (take limit ids) ≡ before End ids
before_end ids limit le = ap last_item (take_all limit ids le) ∙ last_before_end ids

pub others_none : (ids : List ItemId) → others None ids ≡ ids
others_none [] = refl
others_none (c ∷ ids) = ap (λ (cs : List ItemId). c ∷ cs) (others_none ids)

-- where none is left out
pub last_of_all : (left_out last : Option ItemId) (ids : List ItemId) → is_some left_out ≡ false → last ≡ last_item ids
    → last ≡ before End (others left_out ids)
last_of_all None last ids none is = is ∙ last_before_end ids ∙ ap (before End) (sym (others_none ids))
last_of_all (Some id) last ids none is = absurd (cc)

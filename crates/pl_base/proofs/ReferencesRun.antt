-- The items that have a page, as the cursor of rows runs through them: by ascending id.
use Rattle.std.proofs.Common.{◌≡◌, ◌≢◌, ◌∙◌, ◌++◌, ◌==◌, Bool, true, false, List, [], ◌∷◌}
use Rattle.std.proofs.Common.{Option, Some, None, ap, eq-eqb, filter, if◌then◌else◌, map, refl, subst, sym}
use Rattle.std.specs.List.{AllByRecursion}
use Rattle.std.specs.Option.{option_and_then}
use Rattle.std.proofs.lemmas.Bool.{ne_eqb}
use Rattle.pl_base.specs.declared.id.ItemId.{ItemId}
use Rattle.pl_base.specs.declared.id.PageId.{PageId}
use Rattle.pl_base.specs.Rows.{IsWellKept, Kept}
use Rattle.pl_base.specs.Store.{Item}
use Rattle.pl_base.specs.Tree.{first_item, has_item, is_page, item_at, item_behind, reference_behind, references}
use Rattle.pl_base.proofs.IdsLaws.{same_page}
use Rattle.pl_base.proofs.ListLaws.{all-filter, weaker}
use Rattle.pl_base.proofs.LookUps.{Apart, apart_increasing, found_self, found_some, part, where_passes}
use Rattle.pl_base.proofs.Walk.{Names, Runs, StandsAt, holds_here}

abbrev pub item_names : Names Item ItemId
item_names =
    record {
      name = λ (i : Item). i.id;
      first = λ (items : List Item). first_item (map (λ (i : Item). i.id) items);
      of_none = refl;
      of_some = λ i items. refl;
    }

-- the items that have the page
abbrev pub having : List Item → PageId → List Item
having items page = filter (λ (i : Item). is_page page i.page) items

-- ---- each stands there, and once

apart_ids : (kept : Kept) → IsWellKept kept → Apart (λ (i : Item). i.id.0) kept.items
apart_ids kept h =
    apart_increasing (λ (i : Item). i.id.0) kept.items h.item_ids.ascending

Apart-filter : (test : Item → Bool) (items : List Item) → Apart (λ (i : Item). i.id.0) items
    → Apart (λ (i : Item). i.id.0) (filter test items)
Apart-filter test [] apart = tt
Apart-filter test (i ∷ items) apart = choose (test i) (Apart-filter test items apart.1)
  where
    choose : (b : Bool) → Apart (λ (j : Item). j.id.0) (filter test items)
        → Apart (λ (j : Item). j.id.0) (if b then i ∷ filter test items else filter test items)
    choose true rest = (all-filter (λ (j : Item). j.id.0 ≢ i.id.0) test items apart.0, rest)
    choose false rest = rest

-- each item is found by its id
pub items_found : (kept : Kept) → IsWellKept kept
    → AllByRecursion (λ (i : Item). item_at kept.items i.id ≡ Some i) kept.items
items_found kept h = found_self (λ (i : Item). i.id.0) kept.items (apart_ids kept h)

-- an item of the page, which is found by its id
abbrev pub IsItemOf : Kept → PageId → Item → Type 0
IsItemOf kept page i = (item_at kept.items i.id ≡ Some i) × (is_page page i.page ≡ true)

pub items_stand : (kept : Kept) (page : PageId) → IsWellKept kept
    → AllByRecursion (IsItemOf kept page) (having kept.items page)
items_stand kept page h =
    where_passes (IsItemOf kept page) (λ (i : Item). is_page page i.page) kept.items
    (weaker (λ (i : Item). item_at kept.items i.id ≡ Some i)
    (λ (i : Item). is_page page i.page ≡ true → IsItemOf kept page i) kept.items (λ i found of. (found, of))
    (items_found kept h))

-- ---- look-ups

behind : (front : List Item) (i : Item) (rest : List Item) → Apart (λ (j : Item). j.id.0) (front ++ i ∷ rest)
    → item_behind i.id (map (λ (j : Item). j.id) (front ++ i ∷ rest)) ≡ first_item (map (λ (j : Item). j.id) rest)
behind [] i rest apart = rw (eq-eqb i.id.0 i.id.0 refl) refl
behind (w ∷ front) i rest apart =
    let other : w.id.0 ≢ i.id.0 = λ same. part (λ (x : Item). x.id.0 ≢ w.id.0) front i rest apart.0 (sym same) in
    rw (ne_eqb w.id.0 i.id.0 other) (behind front i rest apart.1)

pub page_is : (page : PageId) (o : Option PageId) → is_page page o ≡ true → o ≡ Some page
page_is page None is = absurd (cc)
page_is page (Some other) is = ap (λ (p : PageId). Some p) (same_page other page is)

-- ---- the cursor

pub references_run : (kept : Kept) (page : PageId) → IsWellKept kept
    → Runs item_names (reference_behind kept.items) (having kept.items page)
references_run kept page h front i rest whole =
    let of : IsItemOf kept page i =
    part (IsItemOf kept page) front i rest (subst (AllByRecursion (IsItemOf kept page)) whole (items_stand kept page h))
    in
    ap (option_and_then (λ (j : Item).
    option_and_then (λ (p : PageId). item_behind i.id (references kept.items p)) j.page)) of.0
    ∙ ap (option_and_then (λ (p : PageId). item_behind i.id (references kept.items p))) (page_is page i.page of.1)
    ∙ ap (λ (items : List Item). item_behind i.id (map (λ (j : Item). j.id) items)) whole
    ∙ behind front i rest
    (subst (Apart (λ (j : Item). j.id.0)) whole
    (Apart-filter (λ (j : Item). is_page page j.page) kept.items (apart_ids kept h)))

module _ (kept : Kept) (page : PageId) (P : List Item → Type 0) (id : ItemId) (h : IsWellKept kept)
    (w : StandsAt item_names (having kept.items page) P id) where
  -- the item that a walk stands at is found by its id
  pub item_here : item_at kept.items id ≡ Some w.element
  item_here =
      ap (item_at kept.items) (sym w.is)
      ∙ (holds_here item_names (having kept.items page) P (IsItemOf kept page) id (items_stand kept page h) w).0

  pub has_item_here : has_item kept.items id ≡ true
  has_item_here = found_some (λ (i : Item). i.id.0 == id.0) kept.items w.element item_here

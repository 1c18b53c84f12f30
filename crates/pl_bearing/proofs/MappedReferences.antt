-- What items tell of their pages, where the items change and keep their ids.
use Rattle.std.proofs.Common.{◌≡◌, ◌∙◌, ◌||◌, ◌==◌, inl, inr, ℕ, Bool, true, false, not, List, [], ◌∷◌}
use Rattle.std.proofs.Common.{Option, Some, None, IfSome, ap, drop, filter, find, if◌then◌else◌, length, map, refl}
use Rattle.std.proofs.Common.{subst, sym, take}
use Rattle.std.specs.List.{list_any}
use Rattle.std.specs.Option.{option_and_then, option_map}
use Rattle.std.proofs.lemmas.Bool.{both_ways}
use Rattle.std.proofs.lemmas.List.{take-append-drop}
use Rattle.std.proofs.lemmas.List.Folds.{list_any-append}
use Rattle.pl_base.specs.declared.id.ItemId.{ItemId}
use Rattle.pl_base.specs.declared.id.PageId.{PageId}
use Rattle.pl_base.specs.Rows.{IsWellKept, Kept}
use Rattle.pl_base.specs.Store.{Item}
use Rattle.pl_base.specs.Tags.{is_tags_root}
use Rattle.pl_base.specs.Tree.{has_child, is_page, item_at, item_title, parent_of, without_id}
use Rattle.pl_base.proofs.Among.{In}
use Rattle.pl_base.proofs.IdsLaws.{same_page}
use Rattle.pl_base.proofs.ItemLookUps.{id_of_item, same_item}
use Rattle.pl_base.proofs.ListLaws.{find-map}
use Rattle.pl_base.proofs.LookUps.{find-alike}
use Rattle.pl_base.proofs.ReferencesRun.{items_found}
use Rattle.pl_base.proofs.Truths.{no_test}
use Rattle.pl_tree.specs.declared.place.Place.{Place}
use Rattle.pl_tree.specs.Changes.{position, put}
use Rattle.pl_marks.specs.Alike.{is_one_of}
use Rattle.pl_marks.specs.TagFolders.{tag_title, where_tag}
use Rattle.pl_bearing.specs.References.{AreReferencesAlike, Reference, reference}
use Rattle.pl_bearing.proofs.FoundItems.{one_item_at}

-- ---- ids with one more and without one

any_put : (test : ItemId → Bool) (place : Place) (id : ItemId) (ids : List ItemId) → test id ≡ false
    → list_any test (put place id ids) ≡ list_any test ids
any_put test place id ids other =
    let n : ℕ = position place (length ids) in
    list_any-append test (take n ids) (id ∷ drop n ids)
    ∙ ap (λ (b : Bool). list_any test (take n ids) || (b || list_any test (drop n ids))) other
    ∙ sym (list_any-append test (take n ids) (drop n ids)) ∙ ap (list_any test) (take-append-drop n ids)

pub any_without : (test : ItemId → Bool) (id : ItemId) (ids : List ItemId) → test id ≡ false
    → list_any test (without_id id ids) ≡ list_any test ids
any_without test id [] other = refl
any_without test id (c ∷ ids) other = choose (c.0 == id.0) refl (any_without test id ids other)
  where
    choose : (b : Bool) → (c.0 == id.0) ≡ b → list_any test (without_id id ids) ≡ list_any test ids
        → list_any test (if not b then c ∷ without_id id ids else without_id id ids) ≡ (test c || list_any test ids)
    choose true is rest =
        rest ∙ sym (ap (λ (b : Bool). b || list_any test ids) (ap test (same_item c id is) ∙ other))
    choose false is rest = ap (λ (b : Bool). test c || b) rest

pub none_left : (id : ItemId) (ids : List ItemId)
    → list_any (λ (c : ItemId). c.0 == id.0) (without_id id ids) ≡ false
none_left id [] = refl
none_left id (c ∷ ids) = choose (c.0 == id.0) refl (none_left id ids)
  where
    choose : (b : Bool) → (c.0 == id.0) ≡ b → list_any (λ (d : ItemId). d.0 == id.0) (without_id id ids) ≡ false
        → list_any (λ (d : ItemId). d.0 == id.0) (if not b then c ∷ without_id id ids else without_id id ids) ≡ false
    choose true is rest = rest
    choose false is rest =
        ap (λ (b : Bool). b || list_any (λ (d : ItemId). d.0 == id.0) (without_id id ids)) is ∙ rest

-- ---- what is found among changed items

pub parent_mapped : (f : Item → Item) (c : ItemId) (items : List Item) → ((i : Item) → (f i).id ≡ i.id)
    → ((i : Item) → has_child c (f i) ≡ has_child c i) → parent_of (map f items) c ≡ parent_of items c
parent_mapped f c items same has =
    ap (option_map (λ (i : Item). i.id))
    (find-map (has_child c) f items
    ∙ ap (option_map f) (find-alike (λ (i : Item). has_child c (f i)) (has_child c) items has))
    ∙ id_same (find (has_child c) items)
  where
    id_same : (o : Option Item) → option_map (λ (i : Item). i.id) (option_map f o) ≡ option_map (λ (i : Item). i.id) o
    id_same None = refl
    id_same (Some i) = ap (λ (d : ItemId). Some d) (same i)

pub title_mapped : (f : Item → Item) (c : ItemId) (items : List Item) → ((i : Item) → (f i).id ≡ i.id)
    → ((i : Item) → i.id ≡ c → (f i).title ≡ i.title) → item_title (map f items) c ≡ item_title items c
title_mapped f c items same titled =
    ap (option_map (λ (i : Item). i.title))
    (find-map (λ (i : Item). i.id.0 == c.0) f items
    ∙ ap (option_map f)
    (find-alike (λ (i : Item). (f i).id.0 == c.0) (λ (i : Item). i.id.0 == c.0) items
    (λ i. ap (λ (d : ItemId). d.0 == c.0) (same i))))
    ∙ title_same (item_at items c) refl
  where
    title_same : (o : Option Item) → item_at items c ≡ o
        → option_map (λ (i : Item). i.title) (option_map f o) ≡ option_map (λ (i : Item). i.title) o
    title_same None is = refl
    title_same (Some i) is = ap (λ (t : List ℕ). Some t) (titled i (id_of_item items c i is))

-- ---- what is told

-- the tag that an item gives is the same where its parent is, what that one is, and the title of a
-- tag folder
pub tag_title_alike : (old new : List Item) (c : ItemId) → parent_of new c ≡ parent_of old c
    → ((p : ItemId) → parent_of old c ≡ Some p → is_tags_root (parent_of new p) ≡ is_tags_root (parent_of old p))
    → ((p : ItemId) → parent_of old c ≡ Some p → is_tags_root (parent_of old p) ≡ true
    → item_title new p ≡ item_title old p)
    → tag_title new c ≡ tag_title old c
tag_title_alike old new c above root title =
    ap (λ (o : Option ItemId). option_and_then (item_title new) (where_tag new o)) above
    ∙ choose (parent_of old c) refl
  where
    folder : (p : ItemId) → parent_of old c ≡ Some p → (b : Bool) → is_tags_root (parent_of old p) ≡ b
        → option_and_then (item_title new) (if b then Some p else None)
        ≡ option_and_then (item_title old) (if b then Some p else None)
    folder p is true tag = title p is tag
    folder p is false other = refl

    choose : (o : Option ItemId) → parent_of old c ≡ o
        → option_and_then (item_title new) (where_tag new o) ≡ option_and_then (item_title old) (where_tag old o)
    choose None is = refl
    choose (Some p) is =
        ap (λ (b : Bool). option_and_then (item_title new) (if b then Some p else None)) (root p is)
        ∙ folder p is (is_tags_root (parent_of old p)) refl

pub reference_alike : (old new : List Item) (i j : Item) → j.id ≡ i.id → j.title ≡ i.title
    → j.modified ≡ i.modified → tag_title new i.id ≡ tag_title old i.id → reference new j ≡ reference old i
reference_alike old new i j id title modified tag = rw (id, title, modified, tag) refl

-- where the same items pass a test, and each of them tells the same
pub references_mapped : (r s : Item → Reference) (f : Item → Item) (test : Item → Bool) (items : List Item)
    → ((i : Item) → In i items → test (f i) ≡ test i)
    → ((i : Item) → In i items → test i ≡ true → r (f i) ≡ s i)
    → map r (filter test (map f items)) ≡ map s (filter test items)
references_mapped r s f test [] same alike = refl
references_mapped r s f test (i ∷ items) same alike =
    ap
    (λ (b : Bool). map r (if b then f i ∷ filter test (map f items) else filter test (map f items)))
    (same i (inl refl))
    ∙ choose (test i) refl
    (references_mapped r s f test items (λ j h. same j (inr h)) (λ j h. alike j (inr h)))
  where
    choose : (b : Bool) → test i ≡ b → map r (filter test (map f items)) ≡ map s (filter test items)
        → map r (if b then f i ∷ filter test (map f items) else filter test (map f items))
        ≡ map s (if b then i ∷ filter test items else filter test items)
    choose true is rest =
        ap (λ (first : Reference). first ∷ map r (filter test (map f items))) (alike i (inl refl) is)
        ∙ ap (λ (more : List Reference). s i ∷ more) rest
    choose false is rest = rest

-- ---- the pages that may change

pub other_page : (ids : List PageId) (page : PageId) (own : Option PageId) → is_one_of ids page ≡ false
    → IfSome own (λ p. is_one_of ids p ≡ true) → is_page page own ≡ false
other_page ids page None out within = refl
other_page ids page (Some p) out within =
    no_test (p.0 == page.0) (λ is.
    both_ways (is_one_of ids page) out (ap (is_one_of ids) (sym (same_page p page is)) ∙ within))

-- an item of another page is not the one whose page is one of these
pub other_item : (kept : Kept) (item : ItemId) (ids : List PageId) (page : PageId) → IsWellKept kept
    → IfSome (option_and_then (λ (i : Item). i.page) (item_at kept.items item)) (λ p. is_one_of ids p ≡ true)
    → is_one_of ids page ≡ false → (i : Item) → In i kept.items → is_page page i.page ≡ true → i.id.0 ≡ item.0 → ⊥
other_item kept item ids page h within out i here has same =
    let found : item_at kept.items item ≡ Some i = one_item_at kept.items item i (items_found kept h) here same in
    let own : IfSome i.page (λ p. is_one_of ids p ≡ true) =
    subst
    (λ (o : Option Item). IfSome (option_and_then (λ (j : Item). j.page) o) (λ p. is_one_of ids p ≡ true)) found
    within in
    both_ways (is_page page i.page) (other_page ids page i.page out own) has

-- one change after another
pub alike_then : (ids : List PageId) (old between new : List Item) → AreReferencesAlike ids old between
    → AreReferencesAlike ids between new → AreReferencesAlike ids old new
alike_then ids old between new first second page out = second page out ∙ first page out

-- ---- an item that changes, if it has this id

-- what the change does not bear on is told as before
pub changed_same : {A : Type 0} (f : Item → Item) (tell : Item → A) (n : ℕ) → ((i : Item) → tell (f i) ≡ tell i)
    → (i : Item) → tell (if i.id.0 == n then f i else i) ≡ tell i
changed_same f tell n same i = choose (i.id.0 == n)
  where
    choose : (b : Bool) → tell (if b then f i else i) ≡ tell i
    choose true = same i
    choose false = refl

module _ (parent : ItemId) (place : Place) (id : ItemId) where
  -- the item, with one more child if it is the parent
  abbrev pub grown : Item → Item
  grown i = if i.id.0 == parent.0 then record i { children = put place id i.children } else i

  -- what does not tell the children tells what it did
  pub grown_same : {A : Type 0} (tell : Item → A)
      → ((i : Item) → tell (record i { children = put place id i.children }) ≡ tell i) → (i : Item)
      → tell (grown i) ≡ tell i
  grown_same tell same i = changed_same (λ (j : Item). record j { children = put place id j.children }) tell parent.0 same i

  pub grown_child : (c : ItemId) → (id.0 == c.0) ≡ false → (i : Item) → has_child c (grown i) ≡ has_child c i
  grown_child c other i =
      grown_same (has_child c) (λ j. any_put (λ (d : ItemId). d.0 == c.0) place id j.children other) i

-- The children of a folder, as they are listed.
use Rattle.std.proofs.Common.{◌≡◌, ◌∙◌, ◌++◌, ◌==◌, ℕ, true, IsTrue, List, [], ◌∷◌}
use Rattle.std.proofs.Common.{Option, Some, None, ap, map, refl, subst, sym}
use Rattle.std.specs.List.{AllByRecursion, filter_map}
use Rattle.std.specs.Option.{option_and_then, option_map}
use Rattle.std.proofs.lemmas.List.{map_push}
use Rattle.std.proofs.lemmas.List.Elements.{recursion_from_All}
use Rattle.pl_base.specs.declared.id.ItemId.{ItemId}
use Rattle.pl_base.specs.declared.item.ItemRow.{ItemRow}
use Rattle.pl_base.specs.Good.{IsGood, child_ids}
use Rattle.pl_base.specs.Rows.{Kept, store_of}
use Rattle.pl_base.specs.Store.{Item, Store, page_url}
use Rattle.pl_base.specs.Tree.{children_of, has_item, item_at, item_row, item_title}
use Rattle.pl_base.proofs.LookUps.{found_holds, found_passes, front as in_front, part, rest_of}
use Rattle.pl_base.proofs.ItemLookUps.{same_item}
use Rattle.pl_base.proofs.ChildrenRun.{child_here, child_names}
use Rattle.pl_base.proofs.Walk.{StandsAt}
use Rattle.pl_step.specs.declared.reply.ListRow.{ListRow}
use Rattle.pl_step.specs.Step.{list_row}

-- what is listed of the items with these ids
abbrev pub AreListed : Store → List ListRow → List ItemId → Type 0
AreListed store rows ids = rows ≡ map (list_row store) (filter_map (item_at store.items) ids)

-- ---- the children

-- as `children_of` has it
abbrev children_in : Option Item → List ItemId
children_in None = []
children_in (Some i) = i.children

-- what holds of all children holds of those of each
each_child : (P : ItemId → Type 0) (items : List Item) → AllByRecursion P (child_ids items)
    → AllByRecursion (λ (i : Item). AllByRecursion P i.children) items
each_child P [] all = tt
each_child P (i ∷ items) all =
    (in_front P i.children (child_ids items) all, each_child P items (rest_of P i.children (child_ids items) all))

of_found : (P : List ItemId → Type 0) (items : List Item) (id : ItemId)
    → AllByRecursion (λ (i : Item). P i.children) items → P [] → P (children_of items id)
of_found P items id all none = choose (item_at items id) refl
  where
    choose : (o : Option Item) → item_at items id ≡ o → P (children_in o)
    choose None at = none
    choose (Some i) at = found_holds (λ (j : Item). P j.children) (λ (j : Item). j.id.0 == id.0) items i all at

-- each child is an item
pub child_there : (kept : Kept) (P : List ItemId → Type 0) (id child : ItemId) → IsGood (store_of kept)
    → StandsAt child_names (children_of kept.items id) P child → has_item kept.items child ≡ true
child_there kept P id child good w =
    let There : ItemId → Type 0 = λ c. IsTrue (has_item kept.items c) in
    part There w.front child w.rest
    (subst (AllByRecursion There) (child_here kept.items id P child w)
    (of_found (AllByRecursion There) kept.items id
    (each_child There kept.items (recursion_from_All There (child_ids kept.items) good.tree.known)) tt))

-- ---- a row

-- what the rows tell of an item is what is listed of it
pub row_told : (kept : Kept) (id : ItemId) (row : ItemRow) (title : List ℕ) (url : Option (List ℕ))
    → Some row ≡ option_map (item_row kept.items) (item_at kept.items id) → Some title ≡ item_title kept.items id
    → url ≡ option_and_then (page_url (store_of kept)) row.page
    → ◌≡◌ {A = Option ListRow} (Some (record { kind = row.kind; id = id; title = title; url = url }))
    (option_map (list_row (store_of kept)) (item_at kept.items id))
row_told kept id row title url rows titles urls = choose (item_at kept.items id) refl rows titles
  where
    choose : (o : Option Item) → item_at kept.items id ≡ o → Some row ≡ option_map (item_row kept.items) o
        → Some title ≡ option_map (λ (i : Item). i.title) o
        → ◌≡◌ {A = Option ListRow} (Some (record { kind = row.kind; id = id; title = title; url = url }))
        (option_map (list_row (store_of kept)) o)
    choose None at none other = absurd (cc)
    choose (Some i) at some text =
        let same : i.id ≡ id = same_item i.id id (found_passes (λ (j : Item). j.id.0 == id.0) kept.items i at) in
        let row_is : row ≡ item_row kept.items i = cc in
        let title_is : title ≡ i.title = cc in
        let url_is : url ≡ option_and_then (page_url (store_of kept)) i.page =
        urls ∙ ap (λ (r : ItemRow). option_and_then (page_url (store_of kept)) r.page) row_is in
        rw (ap (λ (r : ItemRow). r.kind) row_is, ← same, title_is, url_is) refl

-- ---- the list

with_last : (at : ItemId → Option Item) (ids : List ItemId) (id : ItemId) (i : Item) → at id ≡ Some i
    → filter_map at (ids ++ id ∷ []) ≡ filter_map at ids ++ i ∷ []
with_last at [] id i is = rw is refl
with_last at (c ∷ cs) id i is = choose (at c) refl (with_last at cs id i is)
  where
    choose : (o : Option Item) → at c ≡ o → filter_map at (cs ++ id ∷ []) ≡ filter_map at cs ++ i ∷ []
        → filter_map at ((c ∷ cs) ++ id ∷ []) ≡ filter_map at (c ∷ cs) ++ i ∷ []
    choose None here rest = rw here rest
    choose (Some j) here rest = rw here (ap (λ (is : List Item). j ∷ is) rest)

pub listed_more : (store : Store) (rows more : List ListRow) (ids : List ItemId) (id : ItemId) (row : ListRow)
    → more ≡ rows ++ row ∷ [] → Some row ≡ option_map (list_row store) (item_at store.items id)
    → AreListed store rows ids → AreListed store more (ids ++ id ∷ [])
listed_more store rows more ids id row pushed is before = choose (item_at store.items id) refl is
  where
    choose : (o : Option Item) → item_at store.items id ≡ o → Some row ≡ option_map (list_row store) o
        → AreListed store more (ids ++ id ∷ [])
    choose None at none = absurd (cc)
    choose (Some i) at some =
        let same : row ≡ list_row store i = cc in
        pushed
        ∙ ap (λ (rs : List ListRow). rs ++ row ∷ []) before
        ∙ ap (λ (r : ListRow). map (list_row store) (filter_map (item_at store.items) ids) ++ r ∷ []) same
        ∙ sym (map_push (list_row store) (filter_map (item_at store.items) ids) i)
        ∙ ap (map (list_row store)) (sym (with_last (item_at store.items) ids id i at))

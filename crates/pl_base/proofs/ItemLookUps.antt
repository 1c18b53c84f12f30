-- Items that are looked up by their ids, and what is told of them.
use Rattle.std.proofs.Common.{◌≡◌, ◌∙◌, ◌++◌, ◌==◌, ℕ, Bool, true, false, inl, inr, List, [], ◌∷◌}
use Rattle.std.proofs.Common.{Option, Some, None, ap, eq-eqb, refl, sym}
use Rattle.std.specs.List.{AllByRecursion, filter_map}
use Rattle.std.specs.Option.{option_map, option_or}
use Rattle.std.proofs.lemmas.Bool.{eqb-true, or_left, or_right}
use Rattle.std.proofs.lemmas.Option.{same_Some}
use Rattle.pl_base.specs.declared.id.ItemId.{ItemId}
use Rattle.pl_base.specs.declared.item.ItemKind.{ItemKind}
use Rattle.pl_base.specs.declared.item.ItemKind.TheVariants.{Bookmark, Folder, Separator}
use Rattle.pl_base.specs.declared.item.ItemRow.{ItemRow}
use Rattle.pl_base.specs.Store.{Item}
use Rattle.pl_base.specs.Tree.{has_item, item_at, item_row, item_title, last_item, parent_of}
use Rattle.pl_base.proofs.Among.{In}
use Rattle.pl_base.proofs.ListLaws.{found_in}
use Rattle.pl_base.proofs.LookUps.{found_passes, there_told}
use Rattle.pl_base.proofs.Truths.{some_there}

-- ---- ids and kinds

pub same_item_number : (a b : ItemId) → a.0 ≡ b.0 → a ≡ b
same_item_number a b same = ap (λ (n : ℕ). record { 0 = n }) same

pub same_item : (a b : ItemId) → (a.0 == b.0) ≡ true → a ≡ b
same_item a b same = same_item_number a b (eqb-true a.0 b.0 same)

-- an item of which its row is told is there
pub item_there : (items : List Item) (id : ItemId) (row : ItemRow)
    → Some row ≡ option_map (item_row items) (item_at items id) → has_item items id ≡ true
item_there items id row told = there_told (λ (i : Item). i.id.0 == id.0) (item_row items) items row told

pub item_found : (items : List Item) (id : ItemId) → has_item items id ≡ true
    → (i : Item) × (item_at items id ≡ Some i)
item_found items id has =
    some_there (item_at items id) (found_in (λ (i : Item). i.id.0 == id.0) items has)

-- the item that is found has the id
pub id_of_item : (items : List Item) (id : ItemId) (i : Item) → item_at items id ≡ Some i → i.id ≡ id
id_of_item items id i found = same_item i.id id (found_passes (λ (j : Item). j.id.0 == id.0) items i found)

-- a test of kinds that only folders pass
pub folder_kind : (test : ItemKind → Bool) → test Bookmark ≡ false → test Separator ≡ false → (kind : ItemKind)
    → test kind ≡ true → kind ≡ Folder
folder_kind test not_bookmark not_separator Bookmark is = absurd (cc)
folder_kind test not_bookmark not_separator Folder is = refl
folder_kind test not_bookmark not_separator Separator is = absurd (cc)

-- the last of some ids and one more
pub last_push : (ids : List ItemId) (id : ItemId) → last_item (ids ++ id ∷ []) ≡ Some id
last_push [] id = refl
last_push (c ∷ ids) id = ap (λ (o : Option ItemId). option_or o (Some c)) (last_push ids id)

-- ---- what is there

pub has_in : (items : List Item) (i : Item) → In i items → has_item items i.id ≡ true
has_in [] i within = absurd within
has_in (j ∷ items) i (inl same) =
    or_left (j.id.0 == i.id.0) (has_item items i.id)
    (eq-eqb j.id.0 i.id.0 (ap (λ (k : Item). k.id.0) (sym same)))
has_in (j ∷ items) i (inr within) = or_right (j.id.0 == i.id.0) (has_item items i.id) (has_in items i within)

-- what holds of each item that is looked up holds of all of them
pub hold_all : (P : Item → Type 0) (at : ItemId → Option Item) (ids : List ItemId)
    → AllByRecursion (λ (id : ItemId). (i : Item) → at id ≡ Some i → P i) ids → AllByRecursion P (filter_map at ids)
hold_all P at [] all = tt
hold_all P at (c ∷ cs) all = choose (at c) refl (hold_all P at cs all.1)
  where
    choose : (o : Option Item) → at c ≡ o → AllByRecursion P (filter_map at cs)
        → AllByRecursion P (filter_map at (c ∷ cs))
    choose None here rest = rw here rest
    choose (Some i) here rest = rw here (all.0 i here, rest)

-- ---- what is told

-- the row of an item tells its parent
pub parent_told : (items : List Item) (id : ItemId) (row : ItemRow)
    → Some row ≡ option_map (item_row items) (item_at items id) → row.parent ≡ parent_of items id
parent_told items id row told = choose (item_at items id) refl told
  where
    choose : (o : Option Item) → item_at items id ≡ o → Some row ≡ option_map (item_row items) o
        → row.parent ≡ parent_of items id
    choose None at none = absurd (cc)
    choose (Some i) at some =
        let same : row ≡ item_row items i = cc in
        ap (λ (r : ItemRow). r.parent) same
        ∙ ap (parent_of items) (same_item i.id id (found_passes (λ (j : Item). j.id.0 == id.0) items i at))

-- the title that is told is the item's
pub item_title_is : (items : List Item) (id : ItemId) (i : Item) (title : List ℕ) → item_at items id ≡ Some i
    → Some title ≡ item_title items id → title ≡ i.title
item_title_is items id i title at told =
    same_Some title i.title (told ∙ ap (option_map (λ (j : Item). j.title)) at)

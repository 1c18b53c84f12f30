-- The look-up of tags as it is read from the rows.
use Rattle.std.proofs.Common.{◌≡◌, ◌≢◌, ◌∙◌, ◌++◌, ◌==◌, ◌&&◌, ◌||◌, ℕ, Bool, true, false, List, [], ◌∷◌}
use Rattle.std.proofs.Common.{Option, Some, None, ap, arith, bytes_eq, map, refl, subst, sym}
use Rattle.std.proofs.Common.{unwrap_or}
use Rattle.std.specs.BTreeSet.{BTreeSet}
use Rattle.std.specs.List.{AllByRecursion, AllPairs, filter_map}
use Rattle.std.specs.Option.{option_and_then, option_map}
use Rattle.std.proofs.lemmas.Bool.{false_from_ne_true}
use Rattle.std.proofs.lemmas.List.{map-append}
use Rattle.std.proofs.lemmas.List.Elements.{All-from_recursion, filter_map-append, recursion_from_All}
use Rattle.std.proofs.lemmas.List.Folds.{list_any-append}
use Rattle.std.proofs.lemmas.Option.{same_Some}
use Rattle.std.proofs.lemmas.Slice.Eq.{bytes_eq-Decides}
use Rattle.pl_base.specs.declared.id.ItemId.{ItemId}
use Rattle.pl_base.specs.declared.id.PageId.{PageId}
use Rattle.pl_base.specs.Fold.{folded}
use Rattle.pl_base.specs.Good.{HasGoodItems, IsTagFolder, IsTree}
use Rattle.pl_base.specs.Store.{Item, Store}
use Rattle.pl_base.specs.Tags.{tags_of, tags_root}
use Rattle.pl_base.specs.Tree.{children_of, has_item, item_at, is_page}
use Rattle.pl_base.proofs.ListLaws.{to_map}
use Rattle.pl_base.proofs.LookUps.{both, part}
use Rattle.pl_base.proofs.ItemLookUps.{id_of_item, item_found}
use Rattle.pl_base.proofs.ChildrenRun.{child_here, child_names}
use Rattle.pl_base.proofs.Walk.{StandsAt}
use Rattle.pl_keyed.specs.declared.tags.TagFolder.{TagFolder}
use Rattle.pl_keyed.specs.declared.tags.Tags.{Tags}
use Rattle.pl_keyed.specs.KnownTags.{HasPairs, IsOther, KnowsTags, has_entry, has_pair, last_id, last_of}
use Rattle.pl_keyed.specs.TagRows.{TagEntry, TagRow, entries_of, entry_row, row_with, tag_row}
use Rattle.pl_tree.proofs.CountedChildren.{children_known}
use Rattle.pl_tree.proofs.LookedUp.{children_in}
use Rattle.pl_keyed.proofs.TagLookups.{Apart, FoldersPut, apart, knows_push, last_push}

-- ---- items that are there

-- a child that a walk stands at is an item
pub child_there : (items : List Item) (parent : ItemId) (P : List ItemId → Type 0) (id : ItemId) → IsTree items
    → StandsAt child_names (children_of items parent) P id → has_item items id ≡ true
child_there items parent P id tree w =
    part (λ (c : ItemId). has_item items c ≡ true) w.front id w.rest
    (subst (AllByRecursion (λ (c : ItemId). has_item items c ≡ true)) (child_here items parent P id w)
    (children_known items parent tree))

filter_map_push : (items : List Item) (front : List ItemId) (id : ItemId) (i : Item) → item_at items id ≡ Some i
    → filter_map (item_at items) (front ++ id ∷ []) ≡ filter_map (item_at items) front ++ i ∷ []
filter_map_push items front id i at =
    filter_map-append (item_at items) front (id ∷ [])
    ∙ ap (λ (is : List Item). filter_map (item_at items) front ++ is) (rw at refl)

-- ---- the entries of a tag folder

-- the entries by these ids
abbrev pub entries_by : List Item → List ItemId → List TagEntry
entries_by items ids = map entry_row (filter_map (item_at items) ids)

-- the pairs of these entries are put
pub record ArePut (items : List Item) (folder : ℕ) (old new : BTreeSet (ℕ × ℕ)) (last : ℕ) (front : List ItemId)
    : Type 0 where
  pub pairs : HasPairs folder (λ (q : PageId). has_entry q (entries_by items front)) old new
  pub last_is : last ≡ last_id (entries_by items front)

pub put_none : (items : List Item) (folder : ℕ) (old : BTreeSet (ℕ × ℕ)) → ArePut items folder old old 0 []
put_none items folder old = record { pairs = λ q n. none (has_pair old q n) (folder == n); last_is = refl }
  where
    none : (b d : Bool) → b ≡ (b || (d && false))
    none true d = refl
    none false true = refl
    none false false = refl

pub put_more : (items : List Item) (folder : ℕ) (old mid new : BTreeSet (ℕ × ℕ)) (last : ℕ) (front : List ItemId)
    (id : ItemId) (page : Option PageId) (now : ℕ) → has_item items id ≡ true
    → page ≡ option_and_then (λ (i : Item). i.page) (item_at items id) → now ≡ id.0
    → ArePut items folder old mid last front → HasPairs folder (λ (q : PageId). is_page q page) mid new
    → ArePut items folder old new now (front ++ id ∷ [])
put_more items folder old mid new last front id page now there page_is now_is p pairs =
    record {
      pairs =
          λ q n.
          pairs q n
          ∙ ap (λ (o : Option PageId). has_pair mid q n || ((folder == n) && is_page q o))
          (page_is ∙ ap (option_and_then (λ (j : Item). j.page)) at)
          ∙ ap (λ (b : Bool). b || ((folder == n) && is_page q i.page)) (p.pairs q n)
          ∙ joined (has_pair old q n) (folder == n) (has_entry q (entries_by items front)) (is_page q i.page)
          ∙ ap (λ (b : Bool). has_pair old q n || ((folder == n) && b))
          (sym (list_any-append (λ (e : TagEntry). is_page q e.page) (entries_by items front) (entry_row i ∷ []))
          ∙ ap (has_entry q) (sym more));
      last_is =
          now_is ∙ ap (λ (c : ItemId). c.0) (sym (id_of_item items id i at))
          ∙ sym (ap last_id more
          ∙ ap (λ (o : Option TagEntry). unwrap_or (option_map (λ (e : TagEntry). e.id) o) 0)
          (last_push (entries_by items front) (entry_row i)));
    }
  where
    found : (i : Item) × (item_at items id ≡ Some i)
    found = item_found items id there

    i : Item
    i = found.0

    at : item_at items id ≡ Some found.0
    at = found.1

    more : entries_by items (front ++ id ∷ []) ≡ entries_by items front ++ entry_row found.0 ∷ []
    more =
        ap (map entry_row) (filter_map_push items front id found.0 found.1)
        ∙ map-append entry_row (filter_map (item_at items) front) (found.0 ∷ [])

    joined : (a f h b : Bool) → ((a || (f && h)) || (f && b)) ≡ (a || (f && (h || (b || false))))
    joined true f h b = refl
    joined false false h b = refl
    joined false true true b = refl
    joined false true false true = refl
    joined false true false false = refl

-- ---- the tag folders

-- the tags by these ids
abbrev pub rows_by : List Item → List ItemId → List TagRow
rows_by items ids = map (tag_row items) (filter_map (item_at items) ids)

pub rows_push : (items : List Item) (front : List ItemId) (id : ItemId) (i : Item) → item_at items id ≡ Some i
    → rows_by items (front ++ id ∷ []) ≡ rows_by items front ++ tag_row items i ∷ []
rows_push items front id i at =
    ap (map (tag_row items)) (filter_map_push items front id i at)
    ∙ map-append (tag_row items) (filter_map (item_at items) front) (i ∷ [])

apart_front : {X : Type 0} (R : X → X → Type 0) (xs : List X) (y : X) (ys : List X) → Apart R (xs ++ y ∷ ys)
    → AllByRecursion (λ (x : X). R x y) xs
apart_front R [] y ys apart = tt
apart_front R (x ∷ xs) y ys apart = (part (R x) xs y ys apart.0, apart_front R xs y ys apart.1)

-- each was found by its own id
found_selves : (items : List Item) (ids : List ItemId)
    → AllByRecursion (λ (i : Item). item_at items i.id ≡ Some i) (filter_map (item_at items) ids)
found_selves items [] = tt
found_selves items (id ∷ ids) = choose (item_at items id) refl (found_selves items ids)
  where
    choose : (o : Option Item) → item_at items id ≡ o
        → AllByRecursion (λ (i : Item). item_at items i.id ≡ Some i) (filter_map (item_at items) ids)
        → AllByRecursion (λ (i : Item). item_at items i.id ≡ Some i) (filter_map (item_at items) (id ∷ ids))
    choose None at rest = rw at rest
    choose (Some i) at rest = rw at (ap (item_at items) (id_of_item items id i at) ∙ at, rest)

none_with : (items : List Item) (folds : List ℕ) (is : List Item)
    → AllByRecursion (λ (i : Item). folded i.title ≢ folds) is → row_with folds (map (tag_row items) is) ≡ None
none_with items folds [] all = refl
none_with items folds (i ∷ is) all =
    rw (false_from_ne_true (bytes_eq (folded i.title) folds)
    (λ same. all.0 ((bytes_eq-Decides (folded i.title) folds).0 same))) (none_with items folds is all.1)

some_entry : (items : List Item) (ids : List ItemId) → AllByRecursion (λ (c : ItemId). has_item items c ≡ true) ids
    → ids ≢ [] → entries_by items ids ≢ []
some_entry items [] known some = λ _. some refl
some_entry items (id ∷ ids) known some =
    let found = item_found items id known.0 in
    λ none. absurd (is_some_entry found.0 found.1 none)
  where
    is_some_entry : (i : Item) → item_at items id ≡ Some i → entries_by items (id ∷ ids) ≡ [] → ⊥
    is_some_entry i at none = absurd (let h = rw at at none in cc)

-- a tag folder that the walk comes to
pub other_row : (store : Store) (front : List ItemId) (id : ItemId) (rest : List ItemId) (t : Item)
    → HasGoodItems store → children_of store.items tags_root ≡ front ++ id ∷ rest → item_at store.items id ≡ Some t
    → IsOther (tag_row store.items t) (rows_by store.items front)
other_row store front id rest t good whole at =
    record {
      id =
          All-from_recursion (λ (r : TagRow). r.id ≢ t.id.0) (rows_by items front)
          (to_map (λ (r : TagRow). r.id ≢ t.id.0) (tag_row items) firsts
          (both (λ (i : Item). folded i.title ≢ folded t.title) (λ (i : Item). item_at items i.id ≡ Some i)
          (λ (i : Item). i.id.0 ≢ t.id.0) firsts unlike_id unlike (found_selves items front)));
      name = none_with items (folded t.title) firsts unlike;
      used =
          some_entry items (children_of items t.id) (children_known items t.id good.tree)
          (subst (λ (ids : List ItemId). ids ≢ []) (sym (ap children_in here)) folder.used);
    }
  where
    items : List Item
    items = store.items

    firsts : List Item
    firsts = filter_map (item_at store.items) front

    all : tags_of store ≡ filter_map (item_at store.items) front ++ t ∷ filter_map (item_at store.items) rest
    all =
        ap (filter_map (item_at store.items)) whole
        ∙ filter_map-append (item_at store.items) front (id ∷ rest)
        ∙ ap (λ (is : List Item). filter_map (item_at store.items) front ++ is) (rw at refl)

    unlike : AllByRecursion (λ (i : Item). folded i.title ≢ folded t.title) (filter_map (item_at store.items) front)
    unlike =
        apart_front (λ (a b : Item). folded a.title ≢ folded b.title) (filter_map (item_at store.items) front) t
        (filter_map (item_at store.items) rest)
        (apart (λ (a b : Item). folded a.title ≢ folded b.title)
        (filter_map (item_at store.items) front ++ t ∷ filter_map (item_at store.items) rest)
        (subst (AllPairs (λ (a b : Item). folded a.title ≢ folded b.title)) all good.tags.names))

    here : item_at store.items t.id ≡ Some t
    here = ap (item_at store.items) (id_of_item store.items id t at) ∙ at

    unlike_id : (i : Item) → folded i.title ≢ folded t.title → item_at store.items i.id ≡ Some i → i.id.0 ≢ t.id.0
    unlike_id i other own same =
        other (ap (λ (j : Item). folded j.title) (same_Some i t
        (sym own ∙ ap (item_at store.items) (ap (λ (n : ℕ). record { 0 = n }) same) ∙ here)))

    folder : IsTagFolder store t
    folder =
        part (IsTagFolder store) (filter_map (item_at store.items) front) t (filter_map (item_at store.items) rest)
        (subst (AllByRecursion (IsTagFolder store)) all
        (recursion_from_All (IsTagFolder store) (tags_of store) good.tags.folders))

-- ---- the last entry

last_some : {X : Type 0} (x : X) (xs : List X) → (y : X) × (last_of (x ∷ xs) ≡ Some y)
last_some x [] = (x, refl)
last_some x (y ∷ ys) = last_some y ys

pub last_known : (entries : List TagEntry) → entries ≢ []
    → option_map (λ (e : TagEntry). e.id) (last_of entries) ≡ Some (last_id entries)
last_known [] some = absurd (some refl)
last_known (e ∷ es) some =
    let last = last_some e es in
    is_last last.0 last.1
  where
    is_last : (y : TagEntry) → last_of (e ∷ es) ≡ Some y
        → option_map (λ (e : TagEntry). e.id) (last_of (e ∷ es)) ≡ Some (last_id (e ∷ es))
    is_last y at =
        ap (option_map (λ (e : TagEntry). e.id)) at
        ∙ sym (ap (λ (o : Option TagEntry). Some (unwrap_or (option_map (λ (e : TagEntry). e.id) o) 0)) at)

-- the look-up with a tag folder of the rows more
pub knows_folder : (old new : Tags) (items : List Item) (before : List TagRow) (folder : ItemId) (t : Item)
    (made : TagFolder) → KnowsTags old before → item_at items folder ≡ Some t → IsOther (tag_row items t) before
    → FoldersPut old new (folded t.title) made → made.id ≡ folder.0 → made.last ≡ last_id (entries_of items folder)
    → new.last ≡ Some folder.0
    → HasPairs folder.0 (λ (q : PageId). has_entry q (entries_of items folder)) old.entries new.entries
    → KnowsTags new (before ++ tag_row items t ∷ [])
knows_folder old new items before folder t made k at other put id last new_last pairs =
    knows_push old new before (tag_row items t) made k other.id other.name
    (record {
      id = id ∙ ap (λ (c : ItemId). c.0) same;
      last = last_known (entries_of items t.id) other.used
          ∙ ap (λ (n : ℕ). Some n) (ap (λ (c : ItemId). last_id (entries_of items c)) (sym same) ∙ sym last);
    })
    put (new_last ∙ ap (λ (c : ItemId). Some c.0) same)
    (subst (λ (c : ItemId).
    HasPairs c.0 (λ (q : PageId). has_entry q (entries_of items c)) old.entries new.entries) same pairs)
  where
    same : folder ≡ t.id
    same = sym (id_of_item items folder t at)

-- the look-up of no tags
pub knows_none : (known : Tags) → known.folders.entries ≡ [] → known.entries.keys ≡ [] → known.last ≡ None
    → KnowsTags known []
knows_none known folders entries last =
    record {
      ids = λ i j d before within. absurd (omega arith);
      names = λ i j d before within. absurd (omega arith);
      folders = λ q. rw folders refl;
      last = last;
      entries = λ q n. rw entries refl;
    }

-- the look-up stands for the tags by these ids
abbrev pub KnowsFront : List Item → Tags → List ItemId → Type 0
KnowsFront items known front = KnowsTags known (rows_by items front)

-- one tag folder more than those in front of it
pub folder_step : (store : Store) (old new : Tags) (id : ItemId) → HasGoodItems store
    → (w : StandsAt child_names (children_of store.items tags_root) (KnowsFront store.items old) id)
    → ((before : List TagRow) (t : Item) → KnowsTags old before → item_at store.items id ≡ Some t
    → IsOther (tag_row store.items t) before → KnowsTags new (before ++ tag_row store.items t ∷ []))
    → KnowsFront store.items new (w.front ++ id ∷ [])
folder_step store old new id good w more =
    let found = item_found store.items id
    (child_there store.items tags_root (KnowsFront store.items old) id good.tree w) in
    subst (KnowsTags new) (sym (rows_push store.items w.front id found.0 found.1))
    (more (rows_by store.items w.front) found.0 w.so_far found.1
    (other_row store w.front id w.rest found.0 good
    (child_here store.items tags_root (KnowsFront store.items old) id w) found.1))

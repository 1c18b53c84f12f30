-- The rows of the children of folders, one folder behind the other: they are all rows of a query that
-- asks for bookmarks in these folders.
use Rattle.std.proofs.Common.{◌≡◌, ◌≢◌, ◌∙◌, ◌&&◌, ◌||◌, ◌==◌, ℕ, Bool, true, false, List, [], ◌∷◌, Option, Some}
use Rattle.std.proofs.Common.{None, ap, eq-eqb, filter, find, if◌then◌else◌, length, not, refl, subst, sym}
use Rattle.std.specs.List.{flat_map, list_any}
use Rattle.std.specs.List.Sorted.{IsPermutation}
use Rattle.std.specs.Option.{option_and_then, option_map, option_to_list}
use Rattle.std.proofs.lemmas.Bool.{and_parts, eqb-true, false≢true, ne_eqb, not-true}
use Rattle.std.proofs.lemmas.List.{append-nil}
use Rattle.std.proofs.lemmas.List.Sorted.{IsPermutation-trans}
use Rattle.pl_base.specs.declared.id.ItemId.{ItemId}
use Rattle.pl_base.specs.declared.id.PageId.{PageId}
use Rattle.pl_base.specs.Good.{IsTree}
use Rattle.pl_base.specs.Rows.{IsWellKept, Kept, KeptPage, page_at, store_of}
use Rattle.pl_base.specs.Store.{Item, Page}
use Rattle.pl_base.specs.Tags.{is_tag_entry}
use Rattle.pl_base.specs.Tree.{children_of, has_child, item_at, parent_of}
use Rattle.pl_base.proofs.ChildrenRun.{children_once}
use Rattle.pl_base.proofs.ItemLookUps.{id_of_item, same_item_number}
use Rattle.pl_base.proofs.ListLaws.{everyone, filter-where, find-map, list_any-alike, weaker}
use Rattle.pl_base.proofs.LookUps.{Apart, any_none, apart_increasing, found_holds, found_passes, none_kept}
use Rattle.pl_base.proofs.OneParent.{IsParent, Once, is_among, parents}
use Rattle.pl_base.proofs.ReferencesRun.{items_found}
use Rattle.pl_base.proofs.Truths.{same_tests}
use Rattle.pl_conditions.specs.Conditions.{in_times, is_in_parents, is_one_of, page_holds}
use Rattle.pl_place.specs.declared.query.Query.{Query}
use Rattle.pl_place.specs.QueryForm.{is_same_item}
use Rattle.pl_query.specs.Candidates.{is_wanted, wanted_marks}
use Rattle.pl_query.specs.Order.{Row}
use Rattle.pl_query.specs.QueryAnswer.{bookmark_row, bookmark_row_of, bookmark_rows, marked_page, page_with}
use Rattle.pl_query.specs.Subjects.{row_of_mark}
use Rattle.pl_query.proofs.PageParts.{one_mark}
use Rattle.pl_query.proofs.PartLists.{AreExclusive, flat_is, flat_moves, grouped, passing, same_moves}
use Rattle.pl_words.specs.TagLists.{each_once}
use Rattle.pl_marked.specs.declared.found.Found.{Found}
use Rattle.pl_marked.specs.Found.{AreFound, HaveViews}
use Rattle.pl_marked.specs.Listed.{Lists, child_rows, folder_rows, item_row}

-- ---- one item

module _ (kept : Kept) (q : Query) where
  page_is : (id : PageId) → page_with (store_of kept) id ≡ option_map (λ (p : KeptPage). p.page) (page_at kept id)
  page_is id = find-map (λ (p : Page). p.id.0 == id.0) (λ (p : KeptPage). p.page) kept.pages

  -- without a page it has no row
  unlisted : (i : Item) → option_and_then (page_with (store_of kept)) i.page ≡ None → item_row kept q i ≡ None
  unlisted i none =
      ap (λ (o : Option Page).
      option_and_then (bookmark_row_of (store_of kept) q i) (if is_tag_entry (store_of kept) i.id then None else o))
      none
      ∙ choose (is_tag_entry (store_of kept) i.id)
    where
      choose : (entry : Bool)
          → option_and_then (bookmark_row_of (store_of kept) q i) (if entry then None else None) ≡ None
      choose true = refl
      choose false = refl

  -- with one it is listed where it is wanted, and the conditions hold of the page
  listed : (i : Item) (p : Page) → option_and_then (page_with (store_of kept)) i.page ≡ Some p
      → item_row kept q i
      ≡ (if is_wanted (store_of kept) q i && page_holds (store_of kept) q p
      then Some (bookmark_row (store_of kept) p i) else None)
  listed i p at =
      ap (λ (o : Option Page).
      option_and_then (bookmark_row_of (store_of kept) q i) (if is_tag_entry (store_of kept) i.id then None else o)) at
      ∙ choose (is_tag_entry (store_of kept) i.id)
    where
      choose : (e : Bool)
          → option_and_then (bookmark_row_of (store_of kept) q i) (if e then None else Some p)
          ≡ (if not e && in_times (store_of kept) q i.added && is_in_parents (store_of kept) q.parents i
          && page_holds (store_of kept) q p
          then Some (bookmark_row (store_of kept) p i) else None)
      choose true = refl
      choose false = refl

  module _ (item : ItemId) (i : Item) (at : item_at kept.items item ≡ Some i) where
    one_child : child_rows kept q item ≡ option_to_list (item_row kept q i)
    one_child = ap (λ (o : Option Item). option_to_list (option_and_then (item_row kept q) o)) at

    pub without_page : i.page ≡ None → child_rows kept q item ≡ []
    without_page none =
        one_child
        ∙ ap (λ (o : Option Row). option_to_list o)
        (unlisted i (ap (option_and_then (page_with (store_of kept))) none))

    module _ (id : PageId) (has : i.page ≡ Some id) where
      pub without_view : page_at kept id ≡ None → child_rows kept q item ≡ []
      without_view none =
          one_child
          ∙ ap (λ (o : Option Row). option_to_list o)
          (unlisted i
          (ap (option_and_then (page_with (store_of kept))) has ∙ page_is id
          ∙ ap (option_map (λ (p : KeptPage). p.page)) none))

      pub child_if : (p : KeptPage) (holds : Bool) → page_at kept id ≡ Some p
          → holds ≡ page_holds (store_of kept) q p.page
          → child_rows kept q item ≡ (if holds then wanted_marks kept q p (i ∷ []) else [])
      child_if p holds page_at is =
          one_child
          ∙ ap (λ (o : Option Row). option_to_list o)
          (listed i p.page
          (ap (option_and_then (page_with (store_of kept))) has ∙ page_is id
          ∙ ap (option_map (λ (k : KeptPage). k.page)) page_at))
          ∙ ap (λ (b : Bool).
          option_to_list (if is_wanted (store_of kept) q i && b then Some (row_of_mark kept i p) else None)) (sym is)
          ∙ choose (is_wanted (store_of kept) q i) holds
          ∙ ap (λ (rows : List Row). if holds then rows else [])
          (sym (one_mark kept q p i (is_wanted (store_of kept) q i) refl))
        where
          choose : (a b : Bool)
              → option_to_list (if a && b then Some (row_of_mark kept i p) else None)
              ≡ (if b then (if a then row_of_mark kept i p ∷ [] else []) else [])
          choose true true = refl
          choose true false = refl
          choose false true = refl
          choose false false = refl

-- ---- the folder of an item

-- the folder is there, and is this one
abbrev is_folder : ItemId → Option ItemId → Bool
is_folder folder None = false
is_folder folder (Some other) = folder.0 == other.0

one_of : (folders : List ItemId) (o : Option ItemId)
    → list_any (λ (folder : ItemId). is_folder folder o) folders ≡ is_one_of folders o
one_of folders None = any_none (λ _. false) folders (everyone (λ _. false ≡ false) folders (λ _. refl))
one_of folders (Some other) = refl

turned : (a b : ℕ) → (a == b) ≡ (b == a)
turned a b = same_tests (a == b) (b == a) (λ is. eq-eqb b a (sym (eqb-true a b is))) (λ is. eq-eqb a b (sym (eqb-true b a is)))

folders_apart : (at : Item → Option ItemId) (folders : List ItemId) → each_once is_same_item folders ≡ true
    → AreExclusive (λ (folder : ItemId) (i : Item). is_folder folder (at i)) folders
folders_apart at [] once = tt
folders_apart at (f ∷ fs) once = (λ i is. choose (at i) is, folders_apart at fs parts.1)
  where
    parts : (not (list_any (is_same_item f) fs) ≡ true) × (each_once is_same_item fs ≡ true)
    parts = and_parts (not (list_any (is_same_item f) fs)) (each_once is_same_item fs) once

    choose : (o : Option ItemId) → is_folder f o ≡ true
        → list_any (λ (folder : ItemId). is_folder folder o) fs ≡ false
    choose None is = absurd (cc)
    choose (Some other) is =
        list_any-alike (λ (folder : ItemId). folder.0 == other.0) (is_same_item f) fs
        (λ folder.
        ap (λ (n : ℕ). folder.0 == n) (sym (eqb-true f.0 other.0 is)) ∙ turned folder.0 f.0)
        ∙ not-true (list_any (is_same_item f) fs) parts.0

children_apart : (ids : List ItemId) → Once ids
    → AreExclusive (λ (id : ItemId) (i : Item). id.0 == i.id.0) ids
children_apart [] once = tt
children_apart (c ∷ cs) once = (
  λ i is.
      any_none (λ (d : ItemId). d.0 == i.id.0) cs
      (weaker (λ (d : ItemId). c ≢ d) (λ (d : ItemId). (d.0 == i.id.0) ≡ false) cs
      (λ d other.
      ne_eqb d.0 i.id.0 (λ same. other (same_item_number c d (eqb-true c.0 i.id.0 is ∙ sym same))))
      once.0),
  children_apart cs once.1,
)

-- one with a number at most
one_with : {X : Type 0} (key : X → ℕ) (n : ℕ) (xs : List X) → Apart key xs
    → filter (λ x. n == key x) xs ≡ option_to_list (find (λ x. key x == n) xs)
one_with key n [] apart = refl
one_with {X = X} key n (x ∷ xs) apart = choose (n == key x) (key x == n) refl (turned n (key x)) (one_with key n xs apart.1)
  where
    choose : (a b : Bool) → (n == key x) ≡ a → a ≡ b
        → filter (λ y. n == key y) xs ≡ option_to_list (find (λ y. key y == n) xs)
        → (if a then x ∷ filter (λ y. n == key y) xs else filter (λ y. n == key y) xs)
        ≡ option_to_list (if b then Some x else find (λ y. key y == n) xs)
    choose true true is same rest =
        ap (λ (ys : List X). x ∷ ys)
        (none_kept (λ y. n == key y) xs
        (weaker (λ y. key y ≢ key x) (λ y. (n == key y) ≡ false) xs
        (λ y other. ne_eqb n (key y) (λ is_y. other (sym is_y ∙ eqb-true n (key x) is))) apart.0))
    choose true false is same rest = absurd (cc)
    choose false true is same rest = absurd (cc)
    choose false false is same rest = rest

-- ---- the children of a folder

module _ (kept : Kept) (q : Query) (h : IsWellKept kept) (tree : IsTree kept.items) where
  abbrev items : List Item
  items = kept.items

  abbrev there : Item → List Row
  there i = option_to_list (item_row kept q i)

  -- an item is in the folder where it is one of its children
  child_told : (folder id : ItemId) → is_folder folder (parent_of items id) ≡ is_among id (children_of items folder)
  child_told folder id =
      same_tests (is_folder folder (parent_of items id)) (is_among id (children_of items folder))
      (λ is. down (find (has_child id) items) refl is) (λ among. up (item_at items folder) refl among)
    where
      down : (o : Option Item) → find (has_child id) items ≡ o
          → is_folder folder (option_map (λ (i : Item). i.id) o) ≡ true
          → is_among id (children_of items folder) ≡ true
      down None found is = absurd (cc)
      down (Some p) found is =
          let own : item_at items p.id ≡ Some p =
          found_holds (λ (i : Item). item_at items i.id ≡ Some i) (has_child id) items p (items_found kept h) found in
          let same : p.id ≡ folder = sym (same_item_number folder p.id (eqb-true folder.0 p.id.0 is)) in
          let at : item_at items folder ≡ Some p = subst (λ (f : ItemId). item_at items f ≡ Some p) same own in
          rw at (found_passes (has_child id) items p found)

      up : (o : Option Item) → item_at items folder ≡ o → is_among id (children_of items folder) ≡ true
          → is_folder folder (parent_of items id) ≡ true
      up None at among = absurd (false≢true (rw at at among))
      up (Some p) at among =
          let has : has_child id p ≡ true = rw at at among in
          let found : find (has_child id) items ≡ Some p =
          found_holds (IsParent items) (λ (i : Item). i.id.0 == folder.0) items p (parents items tree) at id has in
          ap (λ (o : Option Item). is_folder folder (option_map (λ (i : Item). i.id) o)) found
          ∙ ap (λ (f : ItemId). folder.0 == f.0) (id_of_item items folder p at) ∙ eq-eqb folder.0 folder.0 refl

  one_row : (id : ItemId) → flat_map there (filter (λ (i : Item). id.0 == i.id.0) items) ≡ child_rows kept q id
  one_row id =
      ap (flat_map there)
      (one_with (λ (i : Item). i.id.0) id.0 items
      (apart_increasing (λ (i : Item). i.id.0) items h.item_ids.ascending))
      ∙ choose (item_at items id)
    where
      choose : (o : Option Item)
          → flat_map there (option_to_list o) ≡ option_to_list (option_and_then (item_row kept q) o)
      choose None = refl
      choose (Some i) = append-nil (there i)

  folder_moved : (folder : ItemId)
      → IsPermutation (flat_map there (filter (λ (i : Item). is_folder folder (parent_of items i.id)) items))
      (folder_rows kept q folder)
  folder_moved folder =
      subst (λ (is : List Item). IsPermutation (flat_map there is) (folder_rows kept q folder))
      (sym (filter-where (λ (i : Item). is_folder folder (parent_of items i.id))
      (λ (i : Item). is_among i.id (children_of items folder)) items
      (everyone
      (λ (i : Item). is_folder folder (parent_of items i.id) ≡ is_among i.id (children_of items folder)) items
      (λ i. child_told folder i.id))))
      (IsPermutation-trans
      (flat_map there (filter (λ (i : Item). is_among i.id (children_of items folder)) items))
      (flat_map (λ (id : ItemId). flat_map there (filter (λ (i : Item). id.0 == i.id.0) items))
      (children_of items folder))
      (folder_rows kept q folder)
      (grouped there (λ (id : ItemId) (i : Item). id.0 == i.id.0) (children_of items folder) items
      (children_apart (children_of items folder) (children_once items folder tree)))
      (flat_moves (λ (id : ItemId). flat_map there (filter (λ (i : Item). id.0 == i.id.0) items)) (child_rows kept q)
      (children_of items folder)
      (everyone
      (λ (id : ItemId).
      IsPermutation (flat_map there (filter (λ (i : Item). id.0 == i.id.0) items)) (child_rows kept q id))
      (children_of items folder)
      (λ id.
      same_moves (flat_map there (filter (λ (i : Item). id.0 == i.id.0) items)) (child_rows kept q id) (one_row id)))))

  -- ---- the folders

  -- an item elsewhere has no row
  elsewhere : (length q.parents == 0) ≡ false → (i : Item)
      → list_any (λ (folder : ItemId). is_folder folder (parent_of items i.id)) q.parents ≡ false → there i ≡ []
  elsewhere some i out =
      choose (marked_page (store_of kept) i)
    where
      outside : is_in_parents (store_of kept) q.parents i ≡ false
      outside =
          ap (λ (b : Bool). b || is_one_of q.parents (parent_of items i.id)) some
          ∙ sym (one_of q.parents (parent_of items i.id)) ∙ out

      choose : (o : Option Page) → option_to_list (option_and_then (bookmark_row_of (store_of kept) q i) o) ≡ []
      choose None = refl
      choose (Some p) =
          ap (λ (b : Bool).
          option_to_list (if in_times (store_of kept) q i.added && b && page_holds (store_of kept) q p
          then Some (bookmark_row (store_of kept) p i) else None)) outside
          ∙ none (in_times (store_of kept) q i.added)
        where
          none : (a : Bool)
              → option_to_list (if a && false && page_holds (store_of kept) q p
              then Some (bookmark_row (store_of kept) p i) else None) ≡ []
          none true = refl
          none false = refl

  folders_moved : (length q.parents == 0) ≡ false
      → IsPermutation (bookmark_rows (store_of kept) q) (flat_map (folder_rows kept q) q.parents)
  folders_moved some =
      subst (λ (rows : List Row). IsPermutation rows (flat_map (folder_rows kept q) q.parents))
      (passing there (λ (i : Item). list_any (λ (folder : ItemId). is_folder folder (parent_of items i.id)) q.parents)
      items (elsewhere some)
      ∙ sym (flat_is (item_row kept q) items))
      (IsPermutation-trans
      (flat_map there
      (filter (λ (i : Item). list_any (λ (folder : ItemId). is_folder folder (parent_of items i.id)) q.parents) items))
      (flat_map (λ (folder : ItemId).
      flat_map there (filter (λ (i : Item). is_folder folder (parent_of items i.id)) items)) q.parents)
      (flat_map (folder_rows kept q) q.parents)
      (grouped there (λ (folder : ItemId) (i : Item). is_folder folder (parent_of items i.id)) q.parents items
      (folders_apart (λ (i : Item). parent_of items i.id) q.parents q.parents_form))
      (flat_moves (λ (folder : ItemId).
      flat_map there (filter (λ (i : Item). is_folder folder (parent_of items i.id)) items)) (folder_rows kept q) q.parents
      (everyone
      (λ (folder : ItemId).
      IsPermutation (flat_map there (filter (λ (i : Item). is_folder folder (parent_of items i.id)) items))
      (folder_rows kept q folder)) q.parents folder_moved)))

  pub folders_listed : (length q.parents == 0) ≡ false → (found : List Found)
      → AreFound kept q (flat_map (folder_rows kept q) q.parents) found → HaveViews kept found → Lists kept q found
  folders_listed some found are own =
      record { rows = flat_map (folder_rows kept q) q.parents; moves = folders_moved some; are = are; views = own }

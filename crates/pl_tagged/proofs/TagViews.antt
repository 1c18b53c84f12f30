-- The views of the pages of the entries in a tag folder are those of the pages that have the tag.
use Rattle.std.proofs.Common.{◌≡◌, ◌≢◌, ◌∙◌, ◌==◌, ◌&&◌, inl, inr, ℕ, Bool, true, false, List, [], ◌∷◌, Option, Some, None}
use Rattle.std.proofs.Common.{ap, arith, bytes_eq, eqb-true, find, refl, subst, suc, sym}
use Rattle.std.specs.List.{AllByRecursion, AllPairs, filter_map}
use Rattle.std.specs.Option.{option_map}
use Rattle.std.proofs.lemmas.Bool.{and_parts, false≢true}
use Rattle.std.proofs.lemmas.List.Elements.{recursion_from_All}
use Rattle.std.proofs.lemmas.Slice.Eq.{bytes_eq-Decides}
use Rattle.pl_base.specs.declared.id.ItemId.{ItemId}
use Rattle.pl_base.specs.declared.id.PageId.{PageId}
use Rattle.pl_base.specs.declared.view.View.{View}
use Rattle.pl_base.specs.Fold.{folded}
use Rattle.pl_base.specs.Good.{HasTags, IsTagFolder}
use Rattle.pl_base.specs.Store.{Item, Store}
use Rattle.pl_base.specs.Tags.{has_tag, tags_of}
use Rattle.pl_base.specs.Tree.{child_items, children_of, is_page, item_at}
use Rattle.pl_base.proofs.Among.{In, at_in, from_any, from_filter_map, from_found, in_filter_map}
use Rattle.pl_base.proofs.LookUps.{Apart, found_passes}
use Rattle.pl_base.proofs.IdsLaws.{same_page_number}
use Rattle.pl_conditions.specs.Conditions.{has_tag_named}
use Rattle.pl_known.specs.Known.{view_of}
use Rattle.pl_marks.proofs.TagEntries.{Differ, differ_named}
use Rattle.pl_tree.specs.Tagged.{tag_named}
use Rattle.pl_words.specs.TagLists.{is_same_tag}
use Rattle.pl_tagged.specs.Entered.{entered_in, entry_view, tagged}

-- ---- pages and views

-- the page whose view was found
record Entry (items : List Item) (views : List View) (id : ItemId) (v : View) : Type 0 where
  item : Item
  there : item_at items id ≡ Some item
  page : item.page ≡ Some v.id
  view : view_of v.id views ≡ Some v

entry_of : (items : List Item) (views : List View) (id : ItemId) (v : View) → entry_view items views id ≡ Some v
    → Entry items views id v
entry_of items views id v is = choose (item_at items id) refl is
  where
    at : (i : Item) → item_at items id ≡ Some i → (p : PageId) → i.page ≡ Some p → view_of p views ≡ Some v
        → Entry items views id v
    at i there p of found =
        let same : v.id ≡ p =
        same_page_number v.id p (eqb-true v.id.0 p.0 (found_passes (λ (w : View). w.id.0 == p.0) views v found)) in
        record {
          item = i;
          there = there;
          page = of ∙ ap (λ (r : PageId). Some r) (sym same);
          view = ap (λ (r : PageId). view_of r views) same ∙ found;
        }

    of_item : (i : Item) → item_at items id ≡ Some i → (o : Option PageId) → i.page ≡ o
        → entry_view items views id ≡ Some v → Entry items views id v
    of_item i there None none is =
        let never : None ≡ Some v = rw (there, none) at is in
        absurd (cc)
    of_item i there (Some p) of is = at i there p of (rw (there, of) at is)

    choose : (o : Option Item) → item_at items id ≡ o → entry_view items views id ≡ Some v → Entry items views id v
    choose None none is =
        let never : None ≡ Some v = rw none at is in
        absurd (cc)
    choose (Some i) there is = of_item i there i.page refl is

-- the view of the page of an entry is one of those that are known
pub known_entry : (items : List Item) (views : List View) (id : ItemId) (v : View)
    → Some v ≡ entry_view items views id → view_of v.id views ≡ Some v
known_entry items views id v is =
    let e : Entry items views id v = entry_of items views id v (sym is) in
    e.view

view_at : (items : List Item) (views : List View) (id : ItemId) (i : Item) (v : View) → item_at items id ≡ Some i
    → i.page ≡ Some v.id → view_of v.id views ≡ Some v → entry_view items views id ≡ Some v
view_at items views id i v there of found = rw (there, of) found

-- ---- each once

-- each entry is of another page
abbrev Others : List Item → Type 0
Others [] = Unit {0}
Others (i ∷ items) = AllByRecursion (λ (j : Item). j.page ≢ i.page) items × Others items

others : (items : List Item) → AllPairs (λ (i j : Item). i.page ≢ j.page) items → Others items
others [] pairs = tt
others (i ∷ items) pairs = (
  recursion_from_All (λ (j : Item). j.page ≢ i.page) items
      (λ k d within same. pairs 0 (suc k) d (omega arith) (omega (arith, within)) (sym same)),
  others items (λ j k d before within. pairs (suc j) (suc k) d (omega (arith, before)) (omega (arith, within))),
)

module _ (items : List Item) (views : List View) where
  -- none of these entries has the page of the view
  none_of : (i : Item) (v : View) → i.page ≡ Some v.id → (ids : List ItemId)
      → AllByRecursion (λ (j : Item). j.page ≢ i.page) (filter_map (item_at items) ids)
      → AllByRecursion (λ (w : View). w.id.0 ≢ v.id.0) (filter_map (entry_view items views) ids)
  none_of i v of [] all = tt
  none_of i v of (id ∷ ids) all =
      choose (entry_view items views id) refl (none_of i v of ids (behind (item_at items id) refl))
    where
      behind : (o : Option Item) → item_at items id ≡ o
          → AllByRecursion (λ (j : Item). j.page ≢ i.page) (filter_map (item_at items) ids)
      behind None none = rw none at all
      behind (Some j) there = (rw there at all).1

      first : (j : Item) → item_at items id ≡ Some j → j.page ≢ i.page
      first j there = (rw there at all).0

      choose : (o : Option View) → entry_view items views id ≡ o
          → AllByRecursion (λ (w : View). w.id.0 ≢ v.id.0) (filter_map (entry_view items views) ids)
          → AllByRecursion (λ (w : View). w.id.0 ≢ v.id.0) (filter_map (entry_view items views) (id ∷ ids))
      choose None none rest = rw none rest
      choose (Some w) is rest =
          let e : Entry items views id w = entry_of items views id w is in
          rw is (
            (λ same. first e.item e.there (e.page ∙ ap (λ (p : PageId). Some p) (same_page_number w.id v.id same) ∙ sym of)),
            rest,
          )

  entries_apart : (ids : List ItemId) → Others (filter_map (item_at items) ids)
      → Apart (λ (v : View). v.id.0) (filter_map (entry_view items views) ids)
  entries_apart [] apart = tt
  entries_apart (id ∷ ids) apart =
      choose (entry_view items views id) refl (entries_apart ids (behind (item_at items id) refl))
    where
      behind : (o : Option Item) → item_at items id ≡ o → Others (filter_map (item_at items) ids)
      behind None none = rw none at apart
      behind (Some j) there = (rw there at apart).1

      first : (j : Item) → item_at items id ≡ Some j
          → AllByRecursion (λ (k : Item). k.page ≢ j.page) (filter_map (item_at items) ids)
      first j there = (rw there at apart).0

      choose : (o : Option View) → entry_view items views id ≡ o
          → Apart (λ (v : View). v.id.0) (filter_map (entry_view items views) ids)
          → Apart (λ (v : View). v.id.0) (filter_map (entry_view items views) (id ∷ ids))
      choose None none rest = rw none rest
      choose (Some v) is rest =
          let e : Entry items views id v = entry_of items views id v is in
          rw is (none_of e.item v e.page ids (first e.item e.there), rest)

-- ---- the folder of a tag

-- a folder with this fold is the one that is found
found_fold : (k : List ℕ) (ts : List Item) (t : Item) → Differ ts → In t ts → folded t.title ≡ k
    → find (λ (u : Item). bytes_eq (folded u.title) k) ts ≡ Some t
found_fold k [] t differ h same = absurd h
found_fold k (u ∷ ts) t differ (inl e) same =
    let here : bytes_eq (folded u.title) k ≡ true =
    (bytes_eq-Decides (folded u.title) k).1 (ap (λ (i : Item). folded i.title) (sym e) ∙ same) in
    rw here (ap (λ (i : Item). Some i) (sym e))
found_fold k (u ∷ ts) t differ (inr h) same =
    choose (bytes_eq (folded u.title) k) refl (found_fold k ts t differ.1 h same)
  where
    choose : (b : Bool) → bytes_eq (folded u.title) k ≡ b
        → find (λ (i : Item). bytes_eq (folded i.title) k) ts ≡ Some t
        → find (λ (i : Item). bytes_eq (folded i.title) k) (u ∷ ts) ≡ Some t
    choose true is rest =
        absurd (at_in (λ (i : Item). folded i.title ≢ folded u.title) ts t differ.0 h
        (same ∙ sym ((bytes_eq-Decides (folded u.title) k).0 is)))
    choose false is rest = rw is rest

-- a tag of this name that the page has
abbrev is_tag_of : Store → PageId → List ℕ → Item → Bool
is_tag_of store page name t = is_same_tag name t.title && has_tag store page t

module _ (store : Store) (views : List View) (name : List ℕ) (good : HasTags store) where
  -- no two of them are of one page
  pub tagged_apart : Apart (λ (v : View). v.id.0) (tagged store.items views name)
  tagged_apart = choose (tag_named name store.items) refl
    where
      choose : (o : Option Item) → tag_named name store.items ≡ o
          → Apart (λ (v : View). v.id.0) (entered_in store.items views (option_map (λ (t : Item). t.id) o))
      choose None none = tt
      choose (Some t) is =
          entries_apart store.items views (children_of store.items t.id)
          (others (child_items store.items t.id)
          (at_in (IsTagFolder store) (tags_of store) t
          (recursion_from_All (IsTagFolder store) (tags_of store) good.folders)
          (from_found (λ (u : Item). bytes_eq (folded u.title) (folded name)) (tags_of store) t is).0).pages)

  -- each is one of all
  pub tagged_known : (v : View) → In v (tagged store.items views name) → In v views
  tagged_known v h = choose (tag_named name store.items) h
    where
      choose : (o : Option Item) → In v (entered_in store.items views (option_map (λ (t : Item). t.id) o)) → In v views
      choose None h = absurd h
      choose (Some t) h =
          let r = from_filter_map (entry_view store.items views) (children_of store.items t.id) v h in
          let e : Entry store.items views r.0 v = entry_of store.items views r.0 v r.2 in
          (from_found (λ (w : View). w.id.0 == v.id.0) views v e.view).0

  -- a page that has the tag is among them
  pub tagged_there : (v : View) → view_of v.id views ≡ Some v → has_tag_named store v.id name ≡ true
      → In v (tagged store.items views name)
  tagged_there v known has =
      subst (λ (o : Option Item). In v (entered_in store.items views (option_map (λ (t : Item). t.id) o)))
      (sym folder) (in_filter_map (entry_view store.items views) (children_of store.items tag.0.id) at.0 v at.1 shown)
    where
      tag : (t : Item) × In t (tags_of store) × (is_tag_of store v.id name t ≡ true)
      tag = from_any (is_tag_of store v.id name) (tags_of store) has

      both : (is_same_tag name tag.0.title ≡ true) × (has_tag store v.id tag.0 ≡ true)
      both = and_parts (is_same_tag name tag.0.title) (has_tag store v.id tag.0) tag.2

      folder : tag_named name store.items ≡ Some tag.0
      folder =
          found_fold (folded name) (tags_of store) tag.0 (differ_named (tags_of store) good.names) tag.1
          (sym ((bytes_eq-Decides (folded name) (folded tag.0.title)).0 both.0))

      entry : (i : Item) × In i (child_items store.items tag.0.id) × (is_page v.id i.page ≡ true)
      entry = from_any (λ (i : Item). is_page v.id i.page) (child_items store.items tag.0.id) both.1

      at : (id : ItemId) × In id (children_of store.items tag.0.id) × (item_at store.items id ≡ Some entry.0)
      at = from_filter_map (item_at store.items) (children_of store.items tag.0.id) entry.0 entry.1

      page : (o : Option PageId) → is_page v.id o ≡ true → o ≡ Some v.id
      page None is = absurd (false≢true is)
      page (Some p) is = ap (λ (r : PageId). Some r) (same_page_number p v.id (eqb-true p.0 v.id.0 is))

      shown : entry_view store.items views at.0 ≡ Some v
      shown = view_at store.items views at.0 entry.0 v at.2 (page entry.0.page entry.2) known

-- The tags of a page, by what the items that have it tell.
use Rattle.std.proofs.Common.{◌≡◌, ◌==◌, ◌∙◌, Bool, true, false, inl, inr, ℕ, List, [], ◌∷◌}
use Rattle.std.proofs.Common.{Option, Some, None, ap, eq-eqb, filter, if◌then◌else◌, is_some, map, refl}
use Rattle.std.proofs.Common.{subst, sym}
use Rattle.std.specs.List.{AllByRecursion}
use Rattle.std.specs.List.Sorted.{IsStrictlySortedBy}
use Rattle.std.specs.Map.{values_of}
use Rattle.std.specs.Option.{option_and_then, option_map}
use Rattle.std.proofs.lemmas.Bool.{false≢true}
use Rattle.std.proofs.lemmas.Option.{same_Some}
use Rattle.pl_base.specs.declared.id.ItemId.{ItemId}
use Rattle.pl_base.specs.declared.id.PageId.{PageId}
use Rattle.pl_base.specs.Fold.{folded}
use Rattle.pl_base.specs.Good.{IsGood, IsTree}
use Rattle.pl_base.specs.Store.{Item, Store}
use Rattle.pl_base.specs.Tags.{has_tag, is_tags_root, page_tags, tags_of, tags_root}
use Rattle.pl_base.specs.Tree.{child_items, children_of, has_child, is_page, item_at, item_title, parent_of}
use Rattle.pl_base.proofs.Among.{In, all_from_in, at_in, from_filter, in_filter}
use Rattle.pl_base.proofs.Among.{any_from_in, from_any, from_filter_map, from_found, in_filter_map}
use Rattle.pl_base.proofs.ItemLookUps.{id_of_item, same_item}
use Rattle.pl_base.proofs.LookUps.{apart_increasing, found_self}
use Rattle.pl_base.proofs.OneParent.{IsParent, is_among, parents}
use Rattle.pl_base.proofs.ReferencesRun.{having}
use Rattle.pl_tree.proofs.LookedUp.{children_in}
use Rattle.pl_marks.specs.TagFolders.{tag_title, where_tag, with_tag}
use Rattle.pl_marks.proofs.PageTags.{ascending_with}
use Rattle.pl_marks.proofs.TagEntries.{AreOfTags, Ascending, Differ, differ_filter, differ_named, entries_are, look}
use Rattle.pl_marks.proofs.TagEntries.{of_tags_insert, tag_entry, tags_found, there_insert, there_new, titles_are}
use Rattle.pl_bearing.specs.References.{Reference, reference, references_of}
use Rattle.pl_bearing.proofs.FoundItems.{AreFound, at_its_id}
use Rattle.pl_bearing.proofs.FoundItems.{parent_there}

-- ---- parents and children

pub are_found : (store : Store) → IsGood store → AreFound store.items
are_found store good =
    found_self (λ (i : Item). i.id.0) store.items
    (apart_increasing (λ (i : Item). i.id.0) store.items good.item_ids.ascending)

-- a parent is an item that has the child
pub above : (items : List Item) (id parent : ItemId) → AreFound items → parent_of items id ≡ Some parent
    → (q : Item) × (item_at items parent ≡ Some q) × (has_child id q ≡ true)
above items id parent found is =
    let q = parent_there items id parent is in
    (q.0, subst (λ (p : ItemId). item_at items p ≡ Some q.0) q.2 (at_its_id items q.0 found q.1), q.3)

among_in : (id : ItemId) (ids : List ItemId) → is_among id ids ≡ true → In id ids
among_in id ids some =
    let r = from_any (λ (c : ItemId). c.0 == id.0) ids some in
    subst (λ (c : ItemId). In c ids) (same_item r.0 id r.2) r.1

child_in : (items : List Item) (parent : ItemId) (i : Item) → AreFound items → In i items
    → parent_of items i.id ≡ Some parent → In i (child_items items parent)
child_in items parent i found there is =
    let q = above items i.id parent found is in
    in_filter_map (item_at items) (children_of items parent) i.id i
    (subst (In i.id) (sym (ap children_in q.1)) (among_in i.id q.0.children q.2)) (at_its_id items i found there)

in_child : (items : List Item) (parent : ItemId) (i : Item) → IsTree items → In i (child_items items parent)
    → (In i items) × (parent_of items i.id ≡ Some parent)
in_child items parent i tree there =
    let c = from_filter_map (item_at items) (children_of items parent) i there in
    choose c.0 c.2 (item_at items parent) refl c.1
  where
    choose : (c : ItemId) → item_at items c ≡ Some i → (o : Option Item) → item_at items parent ≡ o
        → In c (children_in o) → (In i items) × (parent_of items i.id ≡ Some parent)
    choose c at None none within = absurd within
    choose c at (Some q) q_at within =
        let has : has_child c q ≡ true =
        any_from_in (λ (d : ItemId). d.0 == c.0) q.children c within (eq-eqb c.0 c.0 refl) in
        let own : IsParent items q =
        at_in (IsParent items) items q (parents items tree)
        (from_found (λ (j : Item). j.id.0 == parent.0) items q q_at).0 in (
          (from_found (λ (j : Item). j.id.0 == c.0) items i at).0,
          ap (parent_of items) (id_of_item items c i at)
              ∙ ap (option_map (λ (j : Item). j.id)) (own c has)
              ∙ ap (λ (p : ItemId). Some p) (id_of_item items parent q q_at),
        )

-- ---- the tag that an item gives

tags_root_is : (o : Option ItemId) → is_tags_root o ≡ true → o ≡ Some tags_root
tags_root_is None is = absurd (false≢true is)
tags_root_is (Some id) is = ap (λ (i : ItemId). Some i) (same_item id tags_root is)

-- the item is in a tag folder of this title
record GivesTag (store : Store) (i : Item) (title : List ℕ) : Type 0 where
  pub tag : Item
  pub there : In tag (tags_of store)
  pub holds : In i (child_items store.items tag.id)
  pub is : tag.title ≡ title

gives_tag : (store : Store) (i : Item) (title : List ℕ) → AreFound store.items → In i store.items
    → tag_title store.items i.id ≡ Some title → GivesTag store i title
gives_tag store i title found there is = choose (parent_of items i.id) refl is
  where
    items : List Item
    items = store.items

    titled : (f : ItemId) → parent_of items i.id ≡ Some f → is_tags_root (parent_of items f) ≡ true
        → (o : Option Item) → item_at items f ≡ o → option_map (λ (t : Item). t.title) o ≡ Some title
        → GivesTag store i title
    titled f within below None at is = absurd (cc)
    titled f within below (Some t) at is =
        let id : t.id ≡ f = id_of_item items f t at in
        record {
          tag = t;
          there =
              child_in items tags_root t found (from_found (λ (j : Item). j.id.0 == f.0) items t at).0
              (ap (parent_of items) id ∙ tags_root_is (parent_of items f) below);
          holds = child_in items t.id i found there (within ∙ ap (λ (j : ItemId). Some j) (sym id));
          is = same_Some t.title title is;
        }

    at_root : (f : ItemId) → parent_of items i.id ≡ Some f → (b : Bool) → is_tags_root (parent_of items f) ≡ b
        → option_and_then (item_title items) (if b then Some f else None) ≡ Some title → GivesTag store i title
    at_root f within true below is = titled f within below (item_at items f) refl is
    at_root f within false below is = absurd (cc)

    choose : (o : Option ItemId) → parent_of items i.id ≡ o
        → option_and_then (item_title items) (where_tag items o) ≡ Some title → GivesTag store i title
    choose None within is = absurd (cc)
    choose (Some f) within is = at_root f within (is_tags_root (parent_of items f)) refl is

-- an item in a tag folder gives its title
in_folder : (store : Store) (tag i : Item) → AreFound store.items → In tag store.items
    → parent_of store.items tag.id ≡ Some tags_root → parent_of store.items i.id ≡ Some tag.id
    → tag_title store.items i.id ≡ Some tag.title
in_folder store tag i found there below within =
    ap (λ (o : Option ItemId). option_and_then (item_title store.items) (where_tag store.items o)) within
    ∙ ap (λ (o : Option ItemId). option_and_then (item_title store.items)
    (if is_tags_root o then Some tag.id else None)) below
    ∙ ap (option_map (λ (j : Item). j.title)) (at_its_id store.items tag found there)

-- ---- the tags that items tell

-- titles by their folds
abbrev pub tags_from : List Reference → List (List ℕ × List ℕ)
tags_from [] = []
tags_from (r ∷ rs) = with_tag r.tag (tags_from rs)

ascending_from : (rs : List Reference) → Ascending (tags_from rs)
unfolding IsStrictlySortedBy
ascending_from [] = tt
ascending_from (r ∷ rs) = ascending_with r.tag (tags_from rs) (ascending_from rs)

-- a title that an item gives is told
is_told : (items front : List Item) (i : Item) (title : List ℕ) → In i front → tag_title items i.id ≡ Some title
    → is_some (look (folded title) (tags_from (map (reference items) front))) ≡ true
is_told items [] i title there is = absurd there
is_told items (j ∷ js) i title (inl same) is =
    let es : List (List ℕ × List ℕ) = tags_from (map (reference items) js) in
    subst (λ (o : Option (List ℕ)). is_some (look (folded title) (with_tag o es)) ≡ true)
    (sym (ap (λ (k : Item). tag_title items k.id) (sym same) ∙ is)) (there_new (folded title) title es)
is_told items (j ∷ js) i title (inr there) is =
    still (tag_title items j.id) (tags_from (map (reference items) js)) (is_told items js i title there is)
  where
    still : (o : Option (List ℕ)) (es : List (List ℕ × List ℕ)) → is_some (look (folded title) es) ≡ true
        → is_some (look (folded title) (with_tag o es)) ≡ true
    still None es told = told
    still (Some other) es told = there_insert (folded title) (folded other) other es told

module _ (store : Store) (page : PageId) (good : IsGood store) where
  abbrev items : List Item
  items = store.items

  -- the tag folders of the page
  abbrev tags : List Item
  tags = filter (has_tag store page) (tags_of store)

  found : AreFound items
  found = are_found store good

  differ : Differ tags
  differ = differ_filter (has_tag store page) (tags_of store) (differ_named (tags_of store) good.tags.names)

  -- an item of the page
  abbrev IsOf : Item → Type 0
  IsOf i = (In i items) × (is_page page i.page ≡ true)

  title_found : (i : Item) (title : List ℕ) → IsOf i → tag_title items i.id ≡ Some title
      → look (folded title) (map tag_entry tags) ≡ Some title
  title_found i title of is =
      let g : GivesTag store i title = gives_tag store i title found of.0 is in
      let has : has_tag store page g.tag ≡ true =
      any_from_in (λ (j : Item). is_page page j.page) (child_items items g.tag.id) i g.holds of.1 in
      subst (λ (text : List ℕ). look (folded text) (map tag_entry tags) ≡ Some text) g.is
      (at_in (λ (t : Item). look (folded t.title) (map tag_entry tags) ≡ Some t.title) tags g.tag
      (tags_found tags differ) (in_filter (has_tag store page) (tags_of store) g.tag g.there has))

  of_tags : (front : List Item) → AllByRecursion IsOf front
      → AreOfTags tags (tags_from (map (reference items) front))
  of_tags [] all = λ q. tt
  of_tags (i ∷ front) all = choose (tag_title items i.id) refl (of_tags front all.1)
    where
      es : List (List ℕ × List ℕ)
      es = tags_from (map (reference items) front)

      choose : (o : Option (List ℕ)) → tag_title items i.id ≡ o → AreOfTags tags es
          → AreOfTags tags (with_tag o es)
      choose None is rest = rest
      choose (Some title) is rest = of_tags_insert tags es title rest (title_found i title all.0 is)

  tag_told : (t : Item) → In t tags → is_some (look (folded t.title) (tags_from (references_of items page))) ≡ true
  tag_told t there =
      let tag = from_filter (has_tag store page) (tags_of store) t there in
      let root = in_child items tags_root t good.tree tag.0 in
      let entry = from_any (λ (j : Item). is_page page j.page) (child_items items t.id) tag.1 in
      let within = in_child items t.id entry.0 good.tree entry.1 in
      is_told items (having items page) entry.0 t.title
      (in_filter (λ (j : Item). is_page page j.page) items entry.0 within.0 entry.2)
      (in_folder store t entry.0 found root.0 root.1 within.1)

  -- the tags of the page are those that its items tell
  pub tags_are : page_tags store page ≡ values_of (tags_from (references_of store.items page))
  tags_are =
      let es : List (List ℕ × List ℕ) = tags_from (references_of items page) in
      let own : AllByRecursion IsOf (having items page) =
      all_from_in IsOf (having items page) (λ i there. from_filter (λ (j : Item). is_page page j.page) items i there) in
      sym (titles_are tags es
      (entries_are tags es differ (ascending_from (references_of items page)) (of_tags (having items page) own)
      (all_from_in (λ (t : Item). is_some (look (folded t.title) es) ≡ true) tags tag_told)))

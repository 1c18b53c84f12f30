-- Tag folders in the tree: the items of a page that are in one, and the tags that a page has.
use Rattle.std.proofs.Common.{◌≡◌, ◌∙◌, ◌==◌, ◌||◌, ℕ, Bool, true, false, List, [], ◌∷◌, Option, Some, None}
use Rattle.std.proofs.Common.{IfSome, ap, eq-eqb, filter, find, if◌then◌else◌, is_some, map, refl}
use Rattle.std.proofs.Common.{subst, sym}
use Rattle.std.specs.List.{AllByRecursion, filter_map, list_any}
use Rattle.std.specs.Option.{option_and_then, option_map}
use Rattle.std.proofs.lemmas.Bool.{false≢true}
use Rattle.pl_base.specs.declared.id.ItemId.{ItemId}
use Rattle.pl_base.specs.declared.id.PageId.{PageId}
use Rattle.pl_base.specs.Fold.{folded}
use Rattle.pl_base.specs.Good.{IsGood}
use Rattle.pl_base.specs.Rows.{IsWellKept, Kept, store_of}
use Rattle.pl_base.specs.Store.{Item}
use Rattle.pl_base.specs.Tags.{has_tag, is_tags_root, tags_of, tags_root}
use Rattle.pl_base.specs.Tree.{has_child, has_item, is_page, item_at, item_title, parent_of}
use Rattle.pl_base.proofs.ListLaws.{weaker}
use Rattle.pl_base.proofs.LookUps.{found_holds, found_passes, found_some, none_pass, where_passes}
use Rattle.pl_base.proofs.ItemLookUps.{hold_all, same_item}
use Rattle.pl_base.proofs.LookUps.{where_passed}
use Rattle.pl_base.proofs.OneParent.{IsParent, is_among, parents}
use Rattle.pl_base.proofs.ReferencesRun.{IsItemOf, having, items_found}
use Rattle.pl_marks.specs.TagFolders.{tag_folder, tag_title, where_tag}
use Rattle.pl_marks.proofs.TagEntries.{differ_filter, differ_named, look, tag_entry, tags_found}

-- ---- lists that are looked up one by one

among_push : (a b : Bool) → b ≡ true → (a || b) ≡ true
among_push true b is = refl
among_push false b is = is

all_among : (ids : List ItemId) → AllByRecursion (λ (id : ItemId). is_among id ids ≡ true) ids
all_among [] = tt
all_among (c ∷ cs) = (
  ap (λ (b : Bool). b || is_among c cs) (eq-eqb c.0 c.0 refl),
  weaker (λ (id : ItemId). is_among id cs ≡ true) (λ (id : ItemId). is_among id (c ∷ cs) ≡ true) cs
      (λ id some. among_push (c.0 == id.0) (is_among id cs) some) (all_among cs),
)

-- what holds of all that were looked up holds of the one at an id
held_at : (P : Item → Type 0) (at : ItemId → Option Item) (ids : List ItemId) (id : ItemId) (i : Item)
    → AllByRecursion P (filter_map at ids) → is_among id ids ≡ true → at id ≡ Some i → P i
held_at P at [] id i all some is = absurd (cc)
held_at P at (c ∷ cs) id i all some is =
    choose (c.0 == id.0) refl some (λ each there. held_at P at cs id i each there is)
  where
    first : (o : Option Item) → at c ≡ o → o ≡ Some i → P i
    first None here same = absurd (cc)
    first (Some j) here same =
        let one : j ≡ i = cc in
        subst P one (rw here at all).0

    rest : (o : Option Item) → at c ≡ o → AllByRecursion P (filter_map at cs)
    rest None here = rw here at all
    rest (Some j) here = (rw here at all).1

    choose : (b : Bool) → (c.0 == id.0) ≡ b → (b || is_among id cs) ≡ true
        → (AllByRecursion P (filter_map at cs) → is_among id cs ≡ true → P i) → P i
    choose true same some later = first (at c) refl (ap at (same_item c id same) ∙ is)
    choose false other some later = later (rest (at c) refl) some

some_at : (test : Item → Bool) (at : ItemId → Option Item) (ids : List ItemId) (id : ItemId) (i : Item)
    → is_among id ids ≡ true → at id ≡ Some i → test i ≡ true → list_any test (filter_map at ids) ≡ true
some_at test at ids id i some is passes = choose (list_any test (filter_map at ids)) refl
  where
    choose : (b : Bool) → list_any test (filter_map at ids) ≡ b → b ≡ true
    choose true any = refl
    choose false any =
        absurd (false≢true (sym (held_at (λ (j : Item). test j ≡ false) at ids id i
        (none_pass test (filter_map at ids) any) some is) ∙ passes))

-- one that was looked up and passes
record Passes (test : Item → Bool) (at : ItemId → Option Item) (ids : List ItemId) : Type 0 where
  pub id : ItemId
  pub item : Item
  pub among : is_among id ids ≡ true
  pub there : at id ≡ Some item
  pub passes : test item ≡ true

passing : (test : Item → Bool) (at : ItemId → Option Item) (ids : List ItemId)
    → list_any test (filter_map at ids) ≡ true → Passes test at ids
passing test at [] some = absurd (cc)
passing test at (c ∷ cs) some = choose (at c) refl (passing test at cs)
  where
    later : Passes test at cs → Passes test at (c ∷ cs)
    later p =
        record {
          id = p.id;
          item = p.item;
          among = among_push (c.0 == p.id.0) (is_among p.id cs) p.among;
          there = p.there;
          passes = p.passes;
        }

    split : (i : Item) → at c ≡ Some i → (b : Bool) → test i ≡ b → (b || list_any test (filter_map at cs)) ≡ true
        → (list_any test (filter_map at cs) ≡ true → Passes test at cs) → Passes test at (c ∷ cs)
    split i here true is some rest =
        record {
          id = c;
          item = i;
          among = ap (λ (b : Bool). b || is_among c cs) (eq-eqb c.0 c.0 refl);
          there = here;
          passes = is;
        }
    split i here false is some rest = later (rest some)

    choose : (o : Option Item) → at c ≡ o → (list_any test (filter_map at cs) ≡ true → Passes test at cs)
        → Passes test at (c ∷ cs)
    choose None here rest = later (rest (rw here at some))
    choose (Some i) here rest = split i here (test i) refl (rw here at some) rest

-- as `children_of` has it
abbrev children_in : Option Item → List ItemId
children_in None = []
children_in (Some i) = i.children

-- ---- the tag folder of an item

-- the item is in this tag folder, a child of the tags root
record IsInTag (items : List Item) (id : ItemId) : Type 0 where
  pub tag : Item
  pub root : Item
  pub within : find (has_child id) items ≡ Some tag
  pub below : find (has_child tag.id) items ≡ Some root
  pub root_is : root.id ≡ tags_root

in_tag : (items : List Item) (id folder : ItemId) → tag_folder items id ≡ Some folder
    → (t : IsInTag items id) × (t.tag.id ≡ folder)
in_tag items id folder is = choose (find (has_child id) items) refl is
  where
    at_root : (t r : Item) → find (has_child id) items ≡ Some t → find (has_child t.id) items ≡ Some r
        → (b : Bool) → (r.id.0 == tags_root.0) ≡ b → (if b then Some t.id else None) ≡ Some folder
        → (t : IsInTag items id) × (t.tag.id ≡ folder)
    at_root t r within below true same is =
        (record { tag = t; root = r; within = within; below = below; root_is = same_item r.id tags_root same }, cc)
    at_root t r within below false other is = absurd (cc)

    above : (t : Item) → find (has_child id) items ≡ Some t → (o : Option Item) → find (has_child t.id) items ≡ o
        → (if is_tags_root (option_map (λ (i : Item). i.id) o) then Some t.id else None) ≡ Some folder
        → (t : IsInTag items id) × (t.tag.id ≡ folder)
    above t within None below is = absurd (cc)
    above t within (Some r) below is = at_root t r within below (r.id.0 == tags_root.0) refl is

    choose : (o : Option Item) → find (has_child id) items ≡ o
        → where_tag items (option_map (λ (i : Item). i.id) o) ≡ Some folder
        → (t : IsInTag items id) × (t.tag.id ≡ folder)
    choose None within is = absurd (cc)
    choose (Some t) within is = above t within (find (has_child t.id) items) refl is

found_itself : (kept : Kept) → IsWellKept kept → (test : Item → Bool) (i : Item) → find test kept.items ≡ Some i
    → item_at kept.items i.id ≡ Some i
found_itself kept h test i is =
    found_holds (λ (j : Item). item_at kept.items j.id ≡ Some j) test kept.items i (items_found kept h) is

-- a parent is an item
pub has_parent : (kept : Kept) (id parent : ItemId) → IsWellKept kept → parent_of kept.items id ≡ Some parent
    → has_item kept.items parent ≡ true
has_parent kept id parent h is = choose (find (has_child id) kept.items) refl is
  where
    choose : (o : Option Item) → find (has_child id) kept.items ≡ o
        → option_map (λ (i : Item). i.id) o ≡ Some parent → has_item kept.items parent ≡ true
    choose None found is = absurd (cc)
    choose (Some p) found is =
        let same : p.id ≡ parent = cc in
        found_some (λ (i : Item). i.id.0 == parent.0) kept.items p
        (ap (item_at kept.items) (sym same) ∙ found_itself kept h (has_child id) p found)

pub has_folder : (kept : Kept) (id folder : ItemId) → IsWellKept kept → tag_folder kept.items id ≡ Some folder
    → has_item kept.items folder ≡ true
has_folder kept id folder h is =
    let t = in_tag kept.items id folder is in
    has_parent kept id folder h (ap (option_map (λ (i : Item). i.id)) t.0.within ∙ ap (λ (f : ItemId). Some f) t.1)

-- the title of a tag folder that an item of the page is in is found among the tags of the page
pub tag_is_one : (kept : Kept) (page : PageId) (i : Item) (title : List ℕ) → IsWellKept kept → IsGood (store_of kept)
    → IsItemOf kept page i → tag_title kept.items i.id ≡ Some title
    → look (folded title) (map tag_entry (filter (has_tag (store_of kept) page) (tags_of (store_of kept)))) ≡ Some title
tag_is_one kept page i title h good of is = choose (tag_folder kept.items i.id) refl is
  where
    tags : List Item
    tags = tags_of (store_of kept)

    Found : Item → Type 0
    Found t = look (folded t.title) (map tag_entry (filter (has_tag (store_of kept) page) tags)) ≡ Some t.title

    choose : (o : Option ItemId) → tag_folder kept.items i.id ≡ o
        → option_and_then (item_title kept.items) o ≡ Some title
        → look (folded title) (map tag_entry (filter (has_tag (store_of kept) page) tags)) ≡ Some title
    choose None folder is = absurd (cc)
    choose (Some f) folder is =
        let both = in_tag kept.items i.id f folder in
        let t : IsInTag kept.items i.id = both.0 in
        let there : item_at kept.items t.tag.id ≡ Some t.tag = found_itself kept h (has_child i.id) t.tag t.within in
        let titled : Some t.tag.title ≡ Some title =
        sym (ap (option_map (λ (j : Item). j.title)) there)
        ∙ ap (item_title kept.items) both.1 ∙ is in
        let one : t.tag.title ≡ title = cc in
        let root : item_at kept.items tags_root ≡ Some t.root =
        ap (item_at kept.items) (sym t.root_is) ∙ found_itself kept h (has_child t.tag.id) t.root t.below in
        let all : AllByRecursion (λ (u : Item). has_tag (store_of kept) page u ≡ true → Found u) tags =
        where_passed Found (has_tag (store_of kept) page) tags
        (tags_found (filter (has_tag (store_of kept) page) tags)
        (differ_filter (has_tag (store_of kept) page) tags (differ_named tags good.tags.names))) in
        let passes : has_tag (store_of kept) page t.tag ≡ true =
        ap (λ (o : Option Item). list_any (λ (j : Item). is_page page j.page)
        (filter_map (item_at kept.items) (children_in o))) there
        ∙ some_at (λ (j : Item). is_page page j.page) (item_at kept.items) t.tag.children i.id i
        (found_passes (has_child i.id) kept.items t.tag t.within) of.0 of.1 in
        subst (λ (text : List ℕ). look (folded text)
        (map tag_entry (filter (has_tag (store_of kept) page) tags)) ≡ Some text) one
        (held_at (λ (u : Item). has_tag (store_of kept) page u ≡ true → Found u) (item_at kept.items) t.root.children
        t.tag.id t.tag
        (subst (λ (o : Option Item). AllByRecursion (λ (u : Item). has_tag (store_of kept) page u ≡ true → Found u)
        (filter_map (item_at kept.items) (children_in o))) root all)
        (found_passes (has_child t.tag.id) kept.items t.root t.below) there passes)

-- ---- each tag of the page is that of an item

-- the tags of the items are among the entries
abbrev pub HaveTags : List Item → List (List ℕ × List ℕ) → List Item → Type 0
HaveTags items es front =
    AllByRecursion
    (λ (i : Item). IfSome (tag_title items i.id) (λ title. is_some (look (folded title) es) ≡ true)) front

-- a child of a child of the tags root is in a tag folder
title_at : (items : List Item) (root tag : Item) (id : ItemId) → find (has_child id) items ≡ Some tag
    → find (has_child tag.id) items ≡ Some root → (root.id.0 == tags_root.0) ≡ true
    → item_at items tag.id ≡ Some tag → tag_title items id ≡ Some tag.title
title_at items root tag id within below is there =
    let folder : tag_folder items id ≡ Some tag.id =
    ap (λ (o : Option Item). where_tag items (option_map (λ (i : Item). i.id) o)) within
    ∙ ap (λ (o : Option Item).
    if is_tags_root (option_map (λ (i : Item). i.id) o) then Some tag.id else None) below
    ∙ ap (λ (b : Bool). if b then Some tag.id else None) is in
    ap (option_and_then (item_title items)) folder ∙ ap (option_map (λ (i : Item). i.title)) there

pub tags_there : (kept : Kept) (page : PageId) (es : List (List ℕ × List ℕ)) → IsWellKept kept
    → IsGood (store_of kept) → HaveTags kept.items es (having kept.items page)
    → AllByRecursion (λ (t : Item). is_some (look (folded t.title) es) ≡ true)
    (filter (has_tag (store_of kept) page) (tags_of (store_of kept)))
tags_there kept page es h good have =
    where_passes There (has_tag (store_of kept) page) (tags_of (store_of kept))
    (choose (item_at kept.items tags_root) refl)
  where
    There : Item → Type 0
    There t = is_some (look (folded t.title) es) ≡ true

    items : List Item
    items = kept.items

    child_there : (root tag i : Item) (id child : ItemId) → item_at items tags_root ≡ Some root
        → has_child id root ≡ true → item_at items id ≡ Some tag → is_among child tag.children ≡ true
        → item_at items child ≡ Some i → is_page page i.page ≡ true → There tag
    child_there root tag i id child root_at has tag_at within child_at of =
        let tag_id : tag.id ≡ id = same_item tag.id id (found_passes (λ (j : Item). j.id.0 == id.0) items tag tag_at) in
        let child_id : i.id ≡ child =
        same_item i.id child (found_passes (λ (j : Item). j.id.0 == child.0) items i child_at) in
        let below : find (has_child tag.id) items ≡ Some root =
        found_holds (IsParent items) (λ (j : Item). j.id.0 == tags_root.0) items root (parents items good.tree) root_at
        tag.id
        (ap (λ (c : ItemId). has_child c root) tag_id ∙ has) in
        let in_it : find (has_child i.id) items ≡ Some tag =
        found_holds (IsParent items) (λ (j : Item). j.id.0 == id.0) items tag (parents items good.tree) tag_at i.id
        (ap (λ (c : ItemId). has_child c tag) child_id ∙ within) in
        let title : tag_title items i.id ≡ Some tag.title =
        title_at items root tag i.id in_it below
        (found_passes (λ (j : Item). j.id.0 == tags_root.0) items root root_at)
        (ap (item_at items) tag_id ∙ tag_at) in
        subst (λ o. IfSome o (λ title. is_some (look (folded title) es) ≡ true)) title
        (found_holds
        (λ (j : Item). is_page page j.page ≡ true
        → IfSome (tag_title items j.id) (λ title. is_some (look (folded title) es) ≡ true))
        (λ (j : Item). j.id.0 == child.0) items i
        (where_passed (λ (j : Item). IfSome (tag_title items j.id) (λ title. is_some (look (folded title) es) ≡ true))
        (λ (j : Item). is_page page j.page) items have) child_at of)

    tag_there : (root : Item) (id : ItemId) → item_at items tags_root ≡ Some root → is_among id root.children ≡ true
        → (tag : Item) → item_at items id ≡ Some tag → has_tag (store_of kept) page tag ≡ true → There tag
    tag_there root id root_at has tag tag_at tagged =
        let tag_id : tag.id ≡ id = same_item tag.id id (found_passes (λ (j : Item). j.id.0 == id.0) items tag tag_at) in
        let p : Passes (λ (j : Item). is_page page j.page) (item_at items) tag.children =
        passing (λ (j : Item). is_page page j.page) (item_at items) tag.children
        (sym (ap (λ (o : Option Item). list_any (λ (j : Item). is_page page j.page)
        (filter_map (item_at items) (children_in o))) (ap (item_at items) tag_id ∙ tag_at)) ∙ tagged) in
        child_there root tag p.item id p.id root_at has tag_at p.among p.there p.passes

    choose : (o : Option Item) → item_at items tags_root ≡ o
        → AllByRecursion (λ (t : Item). has_tag (store_of kept) page t ≡ true → There t)
        (filter_map (item_at items) (children_in (item_at items tags_root)))
    choose None root_at = rw root_at tt
    choose (Some root) root_at =
        rw root_at
        (hold_all (λ (t : Item). has_tag (store_of kept) page t ≡ true → There t) (item_at items) root.children
        (weaker (λ (id : ItemId). is_among id root.children ≡ true)
        (λ (id : ItemId). (t : Item) → item_at items id ≡ Some t → has_tag (store_of kept) page t ≡ true → There t)
        root.children (λ id some t at tagged. tag_there root id root_at some t at tagged) (all_among root.children)))

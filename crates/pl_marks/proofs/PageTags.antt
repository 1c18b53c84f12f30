-- What a walk over the items of a page tells: whether it is bookmarked, and its tags.
use Rattle.std.proofs.Common.{◌≡◌, ◌≢◌, ◌∙◌, ◌++◌, ◌==◌, ◌&&◌, ◌||◌, ℕ, Bool, true, false, not, List, [], ◌∷◌}
use Rattle.std.proofs.Common.{Option, Some, None}
use Rattle.std.proofs.Common.{IfSome, ap, append_assoc, filter, if◌then◌else◌, is_some, refl, subst, sym}
use Rattle.std.specs.List.{AllByRecursion, list_any}
use Rattle.std.specs.Map.{values_of}
use Rattle.std.specs.Option.{is_none}
use Rattle.std.proofs.lemmas.Bool.{false≢true, or_from}
use Rattle.std.proofs.lemmas.List.{append-nil}
use Rattle.std.proofs.lemmas.List.Folds.{list_any-append}
use Rattle.pl_base.specs.declared.id.ItemId.{ItemId}
use Rattle.pl_base.specs.declared.id.PageId.{PageId}
use Rattle.pl_base.specs.Fold.{folded}
use Rattle.pl_base.specs.Good.{IsGood}
use Rattle.pl_base.specs.Rows.{IsWellKept, Kept, store_of}
use Rattle.pl_base.specs.Store.{Item, Store}
use Rattle.pl_base.specs.Tags.{comma_joined, has_tag, is_bookmarked, is_tag_entry, is_tags_root, page_tags, tags_of}
use Rattle.pl_base.specs.Tags.{tags_root}
use Rattle.pl_base.specs.Tree.{is_page, parent_of}
use Rattle.pl_base.proofs.ListLaws.{weaker}
use Rattle.pl_base.proofs.PagesRun.{there}
use Rattle.pl_base.proofs.ReferencesRun.{IsItemOf, having, item_names, items_stand}
use Rattle.pl_base.proofs.Walk.{StandsAt, Walk, ends, holds_here}
use Rattle.pl_marks.specs.TagFolders.{tag_folder, tag_title, where_tag, with_tag}
use Rattle.pl_marks.proofs.TagEntries.{AreOfTags, Ascending, ascending_insert, differ_filter, differ_named}
use Rattle.pl_marks.proofs.TagEntries.{entries_are}
use Rattle.pl_marks.proofs.TagEntries.{look}
use Rattle.pl_marks.proofs.TagEntries.{of_tags_insert, there_insert, there_new, titles_are}
use Rattle.pl_marks.proofs.TagTree.{HaveTags, tag_is_one, tags_there}

-- ---- bookmarks

-- the item is in no tag folder
abbrev pub is_outside : List Item → Item → Bool
is_outside items i = is_none (tag_folder items i.id)

pub outside_is : (store : Store) (id : ItemId) → is_none (tag_folder store.items id) ≡ not (is_tag_entry store id)
outside_is store id = choose (parent_of store.items id) refl
  where
    at_root : (f : ItemId) (b : Bool) → is_none (if b then Some f else None) ≡ not b
    at_root f true = refl
    at_root f false = refl

    above : (f : ItemId) (o : Option ItemId) → parent_of store.items f ≡ o → parent_of store.items id ≡ Some f
        → is_none (if is_tags_root o then Some f else None) ≡ not (is_tag_entry store id)
    above f None below within = rw within (rw below refl)
    above f (Some r) below within = at_root f (r.0 == tags_root.0) ∙ rw within (rw below refl)

    choose : (o : Option ItemId) → parent_of store.items id ≡ o
        → is_none (where_tag store.items o) ≡ not (is_tag_entry store id)
    choose None within = rw within refl
    choose (Some f) within = above f (parent_of store.items f) refl within

pub any_filter : (p q r : Item → Bool) (items : List Item) → ((i : Item) → r i ≡ q i)
    → list_any (λ (i : Item). p i && q i) items ≡ list_any r (filter p items)
any_filter p q r [] same = refl
any_filter p q r (i ∷ items) same = choose (p i) (any_filter p q r items same)
  where
    choose : (b : Bool) → list_any (λ (j : Item). p j && q j) items ≡ list_any r (filter p items)
        → ((b && q i) || list_any (λ (j : Item). p j && q j) items)
        ≡ list_any r (if b then i ∷ filter p items else filter p items)
    choose true rest =
        ap (λ (a : Bool). a || list_any (λ (j : Item). p j && q j) items) (sym (same i))
        ∙ ap (λ (a : Bool). r i || a) rest
    choose false rest = rest

bookmarked_if : (store : Store) (page : PageId)
    → is_bookmarked store page ≡ list_any (is_outside store.items) (having store.items page)
bookmarked_if store page =
    any_filter (λ (i : Item). is_page page i.page) (λ (i : Item). not (is_tag_entry store i.id))
    (is_outside store.items) store.items (λ i. outside_is store i.id)

-- all items so far are in tag folders
abbrev pub NoneOutside : List Item → List Item → Type 0
NoneOutside items front = list_any (is_outside items) front ≡ false

pub none_more : (items front : List Item) (i : Item) → NoneOutside items front → is_outside items i ≡ false
    → NoneOutside items (front ++ i ∷ [])
none_more items front i none inside =
    list_any-append (is_outside items) front (i ∷ [])
    ∙ or_from (list_any (is_outside items) front) (is_outside items i || false) none
    (or_from (is_outside items i) false inside refl)

pub outside_here : (kept : Kept) (page : PageId) (id : ItemId) (P : List Item → Type 0)
    → (w : StandsAt item_names (having kept.items page) P id) → is_none (tag_folder kept.items id) ≡ true
    → true ≡ is_bookmarked (store_of kept) page
outside_here kept page id P w outside =
    sym (bookmarked_if (store_of kept) page
    ∙ ap (list_any (is_outside kept.items)) w.whole
    ∙ there (is_outside kept.items) w.front w.element w.rest
    (ap (λ (i : ItemId). is_none (tag_folder kept.items i)) w.is ∙ outside))

pub none_outside : (kept : Kept) (page : PageId) (next : Option ItemId)
    → Walk item_names (having kept.items page) (NoneOutside kept.items) next → ((id : ItemId) → next ≢ Some id)
    → false ≡ is_bookmarked (store_of kept) page
none_outside kept page next w none =
    sym (bookmarked_if (store_of kept) page ∙ ends item_names (having kept.items page) (NoneOutside kept.items) next w
    none)

-- ---- texts joined

-- the commas and texts that come behind the first
abbrev pub joined_on : List (List ℕ) → List ℕ
joined_on [] = []
joined_on (t ∷ ts) = 44 ∷ t ++ joined_on ts

-- what comes behind what was joined
abbrev pub joined_from : Bool → List (List ℕ) → List ℕ
joined_from true ts = comma_joined ts
joined_from false ts = joined_on ts

first_joined : (t : List ℕ) (ts : List (List ℕ)) → comma_joined (t ∷ ts) ≡ t ++ joined_on ts
first_joined t [] = sym (append-nil t)
first_joined t (u ∷ us) = ap (λ (rest : List ℕ). t ++ 44 ∷ rest) (first_joined u us)

-- the first text joins as it is
pub join_first : (is_first : Bool) (so_far joined t : List ℕ) (ts rest : List (List ℕ)) (whole : List ℕ)
    → is_first ≡ true → so_far ++ joined_from is_first ts ≡ whole → ts ≡ t ∷ rest → joined ≡ so_far ++ t
    → joined ++ joined_on rest ≡ whole
join_first false so_far joined t ts rest whole first is here joins = absurd (false≢true first)
join_first true so_far joined t ts rest whole first is here joins =
    ap (λ (text : List ℕ). text ++ joined_on rest) joins
    ∙ append_assoc so_far t (joined_on rest)
    ∙ ap (λ (text : List ℕ). so_far ++ text) (sym (first_joined t rest))
    ∙ ap (λ (all : List (List ℕ)). so_far ++ comma_joined all) (sym here) ∙ is

-- any other behind a comma
pub join_next : (is_first : Bool) (so_far text joined t : List ℕ) (ts rest : List (List ℕ)) (whole : List ℕ)
    → is_first ≡ false → so_far ++ joined_from is_first ts ≡ whole → ts ≡ t ∷ rest → text ≡ so_far ++ 44 ∷ []
    → joined ≡ text ++ t → joined ++ joined_on rest ≡ whole
join_next true so_far text joined t ts rest whole other is here pushed joins = absurd (false≢true (sym other))
join_next false so_far text joined t ts rest whole other is here pushed joins =
    ap (λ (all : List ℕ). all ++ joined_on rest) (joins ∙ ap (λ (all : List ℕ). all ++ t) pushed)
    ∙ append_assoc (so_far ++ 44 ∷ []) t (joined_on rest)
    ∙ append_assoc so_far (44 ∷ []) (t ++ joined_on rest)
    ∙ ap (λ (all : List (List ℕ)). so_far ++ joined_on all) (sym here) ∙ is

-- ---- tags

-- the tag folders of the page
abbrev pub tags_with : Kept → PageId → List Item
tags_with kept page = filter (has_tag (store_of kept) page) (tags_of (store_of kept))

pub ascending_with : (o : Option (List ℕ)) (es : List (List ℕ × List ℕ)) → Ascending es → Ascending (with_tag o es)
ascending_with None es ordered = ordered
ascending_with (Some title) es ordered = ascending_insert (folded title) title es ordered

pub of_tags_with : (kept : Kept) (page : PageId) (P : List Item → Type 0) (id : ItemId)
    (es : List (List ℕ × List ℕ)) → IsWellKept kept → IsGood (store_of kept) → StandsAt item_names
    (having kept.items page) P id
    → AreOfTags (tags_with kept page) es
    → AreOfTags (tags_with kept page) (with_tag (tag_title kept.items id) es)
of_tags_with kept page P id es h good w of =
    subst (λ (i : ItemId). AreOfTags (tags_with kept page) (with_tag (tag_title kept.items i) es)) w.is
    (choose (tag_title kept.items w.element.id) refl)
  where
    choose : (o : Option (List ℕ)) → tag_title kept.items w.element.id ≡ o
        → AreOfTags (tags_with kept page) (with_tag o es)
    choose None is = of
    choose (Some title) is =
        of_tags_insert (tags_with kept page) es title of
        (tag_is_one kept page w.element title h good (holds_here item_names (having kept.items page) P
        (IsItemOf kept page) id (items_stand kept page h) w) is)

still_there : (items : List Item) (o : Option (List ℕ)) (es : List (List ℕ × List ℕ)) (front : List Item)
    → HaveTags items es front → HaveTags items (with_tag o es) front
still_there items None es front have = have
still_there items (Some title) es front have =
    weaker (λ (i : Item). IfSome (tag_title items i.id) (λ t. is_some (look (folded t) es) ≡ true))
    (λ (i : Item). IfSome (tag_title items i.id)
    (λ t. is_some (look (folded t) (with_tag (Some title) es)) ≡ true)) front
    (λ i has. more (tag_title items i.id) has) have
  where
    more : (o : Option (List ℕ)) → IfSome o (λ t. is_some (look (folded t) es) ≡ true)
        → IfSome o (λ t. is_some (look (folded t) (with_tag (Some title) es)) ≡ true)
    more None has = tt
    more (Some t) has = there_insert (folded t) (folded title) title es has

new_there : (o : Option (List ℕ)) (es : List (List ℕ × List ℕ))
    → IfSome o (λ t. is_some (look (folded t) (with_tag o es)) ≡ true)
new_there None es = tt
new_there (Some title) es = there_new (folded title) title es

push : (P : Item → Type 0) (front : List Item) (i : Item) → AllByRecursion P front → P i
    → AllByRecursion P (front ++ i ∷ [])
push P [] i all here = (here, tt)
push P (j ∷ front) i all here = (all.0, push P front i all.1 here)

pub have_more : (kept : Kept) (page : PageId) (id : ItemId) (es : List (List ℕ × List ℕ))
    → (w : StandsAt item_names (having kept.items page) (HaveTags kept.items es) id)
    → HaveTags kept.items (with_tag (tag_title kept.items id) es) (w.front ++ w.element ∷ [])
have_more kept page id es w =
    let items : List Item = kept.items in
    let now : List (List ℕ × List ℕ) = with_tag (tag_title items id) es in
    push (λ (i : Item). IfSome (tag_title items i.id) (λ t. is_some (look (folded t) now) ≡ true)) w.front w.element
    (still_there items (tag_title items id) es w.front w.so_far)
    (subst (λ (i : ItemId). IfSome (tag_title items i) (λ t. is_some (look (folded t) now) ≡ true)) (sym w.is)
    (new_there (tag_title items id) es))

-- the titles are the page's tags
pub tags_told : (kept : Kept) (page : PageId) (next : Option ItemId) (es : List (List ℕ × List ℕ)) → IsWellKept kept
    → IsGood (store_of kept) → Ascending es → AreOfTags (tags_with kept page) es
    → Walk item_names (having kept.items page) (HaveTags kept.items es) next → ((id : ItemId) → next ≢ Some id)
    → values_of es ≡ page_tags (store_of kept) page
tags_told kept page next es h good ordered of w none =
    titles_are (tags_with kept page) es
    (entries_are (tags_with kept page) es
    (differ_filter (has_tag (store_of kept) page) (tags_of (store_of kept))
    (differ_named (tags_of (store_of kept)) good.tags.names))
    ordered of
    (tags_there kept page es h good (ends item_names (having kept.items page) (HaveTags kept.items es) next w none)))

-- The folds of the tags of a page, as a walk over its items finds them.
use Rattle.std.proofs.Common.{◌≡◌, ◌≢◌, ◌∙◌, ◌++◌, ◌&&◌, ◌||◌, ℕ, Bool, true, false, List, [], ◌∷◌}
use Rattle.std.proofs.Common.{IfSome, Option, Some, None, ap, bytes_eq, filter, if◌then◌else◌, is_some, map, refl}
use Rattle.std.proofs.Common.{subst, sym}
use Rattle.std.specs.List.{AllByRecursion, filter_map, list_any}
use Rattle.std.specs.Option.{option_map}
use Rattle.std.proofs.lemmas.Bool.{and_from, or_left, or_right}
use Rattle.std.proofs.lemmas.Cmp.{nat_list_eq_equiv}
use Rattle.std.proofs.lemmas.List.{append-nil}
use Rattle.std.proofs.lemmas.List.Elements.{filter_map-append}
use Rattle.std.proofs.lemmas.Slice.Eq.{bytes_eq-Decides}
use Rattle.pl_base.specs.declared.id.ItemId.{ItemId}
use Rattle.pl_base.specs.declared.id.PageId.{PageId}
use Rattle.pl_base.specs.Fold.{folded}
use Rattle.pl_base.specs.Good.{IsGood}
use Rattle.pl_base.specs.Rows.{IsWellKept, Kept, store_of}
use Rattle.pl_base.specs.Store.{Item}
use Rattle.pl_base.specs.Tags.{has_tag, tags_of}
use Rattle.pl_base.proofs.ListLaws.{weaker}
use Rattle.pl_base.proofs.Truths.{same_tests}
use Rattle.pl_base.proofs.ReferencesRun.{IsItemOf, having, item_names, items_stand}
use Rattle.pl_base.proofs.Walk.{StandsAt, Walk, ends}
use Rattle.pl_marks.specs.TagFolders.{tag_title}
use Rattle.pl_marks.proofs.TagEntries.{look, tag_entry}
use Rattle.pl_marks.proofs.TagTree.{HaveTags, tag_is_one, tags_there}
use Rattle.pl_conditions.specs.AskedParts.{is_among, with_fold}
use Rattle.pl_conditions.specs.Conditions.{has_tag_named}

-- a fold is this one
abbrev is_fold : List ℕ → List ℕ → Bool
is_fold k fold = bytes_eq fold k

itself : (k : List ℕ) → bytes_eq k k ≡ true
itself k = (bytes_eq-Decides k k).1 refl

same : (a b : List ℕ) → bytes_eq a b ≡ true → a ≡ b
same a b = (bytes_eq-Decides a b).0

-- ---- the walk

-- the folds of the tags that these items give
abbrev pub folds_of : List Item → List Item → List (List ℕ)
folds_of items front = filter_map (λ (i : Item). option_map folded (tag_title items i.id)) front

-- these are the folds so far
abbrev pub AreFolds : List Item → List (List ℕ) → List Item → Type 0
AreFolds items folds front = folds ≡ folds_of items front

pub folds_more : (kept : Kept) (page : PageId) (id : ItemId) (folds more : List (List ℕ))
    → (w : StandsAt item_names (having kept.items page) (AreFolds kept.items folds) id) → more ≡ with_fold
    (tag_title kept.items id) folds
    → AreFolds kept.items more (w.front ++ w.element ∷ [])
folds_more kept page id folds more w is =
    is ∙ ap (λ (fs : List (List ℕ)). with_fold (tag_title kept.items id) fs) w.so_far
    ∙ ap (λ (i : ItemId). with_fold (tag_title kept.items i) (folds_of kept.items w.front)) (sym w.is)
    ∙ choose (tag_title kept.items w.element.id) refl
    ∙ sym (filter_map-append (λ (i : Item). option_map folded (tag_title kept.items i.id)) w.front (w.element ∷ []))
  where
    choose : (o : Option (List ℕ)) → tag_title kept.items w.element.id ≡ o
        → with_fold o (folds_of kept.items w.front)
        ≡ folds_of kept.items w.front ++ folds_of kept.items (w.element ∷ [])
    choose None at = rw at (sym (append-nil (folds_of kept.items w.front)))
    choose (Some title) at = rw at refl

folds-none : (items : List Item) (i : Item) (xs : List Item) → tag_title items i.id ≡ None
    → folds_of items (i ∷ xs) ≡ folds_of items xs
folds-none items i xs is = rw is refl

folds-some : (items : List Item) (i : Item) (xs : List Item) (title : List ℕ) → tag_title items i.id ≡ Some title
    → folds_of items (i ∷ xs) ≡ folded title ∷ folds_of items xs
folds-some items i xs title is = rw is refl

-- ---- each fold is that of a tag of the page

-- an entry that is found among those of tags is that of one that passes
found_passes : (test : Item → Bool) (tags : List Item) (k title : List ℕ)
    → look k (map tag_entry (filter test tags)) ≡ Some title
    → list_any (λ (t : Item). bytes_eq k (folded t.title) && test t) tags ≡ true
found_passes test [] k title found = absurd (cc)
found_passes test (t ∷ tags) k title found = choose (test t) refl found (found_passes test tags k title)
  where
    choose : (b : Bool) → test t ≡ b
        → look k (map tag_entry (if b then t ∷ filter test tags else filter test tags)) ≡ Some title
        → (look k (map tag_entry (filter test tags)) ≡ Some title
        → list_any (λ (u : Item). bytes_eq k (folded u.title) && test u) tags ≡ true)
        → ((bytes_eq k (folded t.title) && test t)
        || list_any (λ (u : Item). bytes_eq k (folded u.title) && test u) tags) ≡ true
    choose true is found rest = at (bytes_eq (folded t.title) k) refl found
      where
        at : (e : Bool) → bytes_eq (folded t.title) k ≡ e
            → (if e then Some t.title else look k (map tag_entry (filter test tags))) ≡ Some title
            → ((bytes_eq k (folded t.title) && test t)
            || list_any (λ (u : Item). bytes_eq k (folded u.title) && test u) tags) ≡ true
        at true here _ =
            or_left (bytes_eq k (folded t.title) && test t)
            (list_any (λ (u : Item). bytes_eq k (folded u.title) && test u) tags)
            (and_from (bytes_eq k (folded t.title)) (test t)
            (nat_list_eq_equiv.symm k (folded t.title) ∙ here) is)
        at false here behind =
            or_right (bytes_eq k (folded t.title) && test t)
            (list_any (λ (u : Item). bytes_eq k (folded u.title) && test u) tags) (rest behind)
    choose false is found rest =
        or_right (bytes_eq k (folded t.title) && test t)
        (list_any (λ (u : Item). bytes_eq k (folded u.title) && test u) tags) (rest found)

one_named : (kept : Kept) (page : PageId) (name : List ℕ) (xs : List Item) → IsWellKept kept → IsGood (store_of kept)
    → AllByRecursion (IsItemOf kept page) xs → list_any (is_fold (folded name)) (folds_of kept.items xs) ≡ true
    → has_tag_named (store_of kept) page name ≡ true
one_named kept page name [] h good all some = absurd (cc)
one_named kept page name (i ∷ xs) h good all some =
    choose (tag_title kept.items i.id) refl (one_named kept page name xs h good all.1)
  where
    at : (title : List ℕ) → tag_title kept.items i.id ≡ Some title → (b : Bool)
        → bytes_eq (folded title) (folded name) ≡ b
        → (b || list_any (is_fold (folded name)) (folds_of kept.items xs)) ≡ true
        → (list_any (is_fold (folded name)) (folds_of kept.items xs) ≡ true
        → has_tag_named (store_of kept) page name ≡ true)
        → has_tag_named (store_of kept) page name ≡ true
    at title is true here _ rest =
        found_passes (has_tag (store_of kept) page) (tags_of (store_of kept)) (folded name) title
        (ap (λ (k : List ℕ). look k (map tag_entry (filter (has_tag (store_of kept) page) (tags_of (store_of kept)))))
        (sym (same (folded title) (folded name) here))
        ∙ tag_is_one kept page i title h good all.0 is)
    at title is false here behind rest = rest behind

    choose : (o : Option (List ℕ)) → tag_title kept.items i.id ≡ o
        → (list_any (is_fold (folded name)) (folds_of kept.items xs) ≡ true
        → has_tag_named (store_of kept) page name ≡ true)
        → has_tag_named (store_of kept) page name ≡ true
    choose None is rest = rest (rw is at some)
    choose (Some title) is rest = at title is (bytes_eq (folded title) (folded name)) refl (rw is at some) rest

-- ---- each tag of the page is among them

-- the folds, each with itself
pairs : List (List ℕ) → List (List ℕ × List ℕ)
pairs folds = map (λ (f : List ℕ). (f, f)) folds

looked : (k : List ℕ) (folds : List (List ℕ)) → is_some (look k (pairs folds)) ≡ list_any (is_fold k) folds
unfolding pairs
looked k [] = refl
looked k (f ∷ folds) = choose (bytes_eq f k) (looked k folds)
  where
    choose : (b : Bool) → is_some (look k (map (λ (g : List ℕ). (g, g)) folds)) ≡ list_any (is_fold k) folds
        → is_some (if b then Some f else look k (map (λ (g : List ℕ). (g, g)) folds))
        ≡ (b || list_any (is_fold k) folds)
    choose true rest = refl
    choose false rest = rest

-- the fold of the item's tag is among these
abbrev IsAmong : List Item → List (List ℕ) → Item → Type 0
IsAmong items folds i = IfSome (tag_title items i.id) (λ t. list_any (is_fold (folded t)) folds ≡ true)

longer : (items : List Item) (f : List ℕ) (folds : List (List ℕ)) (i : Item) → IsAmong items folds i
    → IsAmong items (f ∷ folds) i
longer items f folds i among = more (tag_title items i.id) among
  where
    more : (o : Option (List ℕ)) → IfSome o (λ t. list_any (is_fold (folded t)) folds ≡ true)
        → IfSome o (λ t. list_any (is_fold (folded t)) (f ∷ folds) ≡ true)
    more None has = tt
    more (Some t) has = or_right (bytes_eq f (folded t)) (list_any (is_fold (folded t)) folds) has

first_among : (items : List Item) (folds : List (List ℕ)) (i : Item) (title : List ℕ)
    → tag_title items i.id ≡ Some title → IsAmong items (folded title ∷ folds) i
first_among items folds i title is =
    rw is (or_left (bytes_eq (folded title) (folded title)) (list_any (is_fold (folded title)) folds)
    (itself (folded title)))

-- the fold of each item's tag is among those of all
all_there : (items xs : List Item) → AllByRecursion (IsAmong items (folds_of items xs)) xs
all_there items [] = tt
all_there items (i ∷ xs) = choose (tag_title items i.id) refl (all_there items xs)
  where
    none_among : tag_title items i.id ≡ None → IsAmong items (folds_of items xs) i
    none_among is = rw is tt

    choose : (o : Option (List ℕ)) → tag_title items i.id ≡ o → AllByRecursion (IsAmong items (folds_of items xs)) xs
        → AllByRecursion (IsAmong items (folds_of items (i ∷ xs))) (i ∷ xs)
    choose None is rest =
        subst (λ (folds : List (List ℕ)). AllByRecursion (IsAmong items folds) (i ∷ xs))
        (sym (folds-none items i xs is)) (none_among is, rest)
    choose (Some title) is rest =
        subst (λ (folds : List (List ℕ)). AllByRecursion (IsAmong items folds) (i ∷ xs))
        (sym (folds-some items i xs title is)) (
          first_among items (folds_of items xs) i title is,
          weaker (IsAmong items (folds_of items xs)) (IsAmong items (folded title ∷ folds_of items xs)) xs
              (longer items (folded title) (folds_of items xs)) rest,
        )

-- a tag of this fold that passes is among those of which all are
named_there : (test : Item → Bool) (tags : List Item) (k : List ℕ) (folds : List (List ℕ))
    → AllByRecursion (λ (t : Item). list_any (is_fold (folded t.title)) folds ≡ true) (filter test tags)
    → list_any (λ (t : Item). bytes_eq k (folded t.title) && test t) tags ≡ true → list_any (is_fold k) folds ≡ true
named_there test [] k folds all some = absurd (cc)
named_there test (t ∷ tags) k folds all some =
    choose (test t) (bytes_eq k (folded t.title)) refl refl all some (named_there test tags k folds)
  where
    There : Item → Type 0
    There u = list_any (is_fold (folded u.title)) folds ≡ true

    Some_there : Type 0
    Some_there = list_any (λ (u : Item). bytes_eq k (folded u.title) && test u) tags ≡ true

    choose : (a b : Bool) → test t ≡ a → bytes_eq k (folded t.title) ≡ b
        → AllByRecursion There (if a then t ∷ filter test tags else filter test tags)
        → ((b && a) || list_any (λ (u : Item). bytes_eq k (folded u.title) && test u) tags) ≡ true
        → (AllByRecursion There (filter test tags) → Some_there → list_any (is_fold k) folds ≡ true)
        → list_any (is_fold k) folds ≡ true
    choose true true passes here all some rest =
        ap (λ (j : List ℕ). list_any (is_fold j) folds) (same k (folded t.title) here) ∙ all.0
    choose true false passes here all some rest = rest all.1 some
    choose false true passes here all some rest = rest all some
    choose false false passes here all some rest = rest all some

tag_there : (kept : Kept) (page : PageId) (name : List ℕ) → IsWellKept kept → IsGood (store_of kept)
    → has_tag_named (store_of kept) page name ≡ true
    → list_any (is_fold (folded name)) (folds_of kept.items (having kept.items page)) ≡ true
tag_there kept page name h good has =
    named_there (has_tag (store_of kept) page) (tags_of (store_of kept)) (folded name) folds
    (weaker (λ (t : Item). is_some (look (folded t.title) (pairs folds)) ≡ true)
    (λ (t : Item). list_any (is_fold (folded t.title)) folds ≡ true)
    (filter (has_tag (store_of kept) page) (tags_of (store_of kept)))
    (λ t is. sym (looked (folded t.title) folds) ∙ is) (tags_there kept page (pairs folds) h good entries)) has
  where
    folds : List (List ℕ)
    folds = folds_of kept.items (having kept.items page)

    as_looked : (o : Option (List ℕ)) → IfSome o (λ t. list_any (is_fold (folded t)) folds ≡ true)
        → IfSome o (λ t. is_some (look (folded t) (pairs folds)) ≡ true)
    as_looked None among = tt
    as_looked (Some t) among = looked (folded t) folds ∙ among

    entries : HaveTags kept.items (pairs folds) (having kept.items page)
    entries =
        weaker
        (λ (i : Item). IfSome (tag_title kept.items i.id) (λ t. list_any (is_fold (folded t)) folds ≡ true))
        (λ (i : Item). IfSome (tag_title kept.items i.id) (λ t. is_some (look (folded t) (pairs folds)) ≡ true))
        (having kept.items page) (λ i among. as_looked (tag_title kept.items i.id) among)
        (all_there kept.items (having kept.items page))

-- ---- the law

pub folds_tell : (kept : Kept) (page : PageId) (next : Option ItemId) (folds : List (List ℕ)) (name : List ℕ)
    → IsWellKept kept → IsGood (store_of kept) → Walk item_names (having kept.items page) (AreFolds kept.items folds)
    next
    → ((id : ItemId) → next ≢ Some id)
    → is_among folds (folded name) ≡ has_tag_named (store_of kept) page name
folds_tell kept page next folds name h good w none =
    ap (list_any (is_fold (folded name))) (ends item_names (having kept.items page) (AreFolds kept.items folds) next w
    none)
    ∙ same_tests (list_any (is_fold (folded name)) (folds_of kept.items (having kept.items page)))
    (has_tag_named (store_of kept) page name)
    (one_named kept page name (having kept.items page) h good (items_stand kept page h))
    (tag_there kept page name h good)

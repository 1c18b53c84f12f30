-- The tags of a page of a good store, told by the text that joins them.
use Rattle.std.proofs.Common.{◌≡◌, ◌∙◌, ◌==◌, ◌&&◌, ◌||◌, not, ℕ, Bool, true, false, List, [], ◌∷◌}
use Rattle.std.proofs.Common.{ap, arith, filter, if◌then◌else◌, length, map, refl, sym}
use Rattle.std.specs.List.{AllByRecursion, list_any}
use Rattle.std.proofs.Math.Bool.{and_comm}
use Rattle.std.proofs.lemmas.Bool.{ne_eqb}
use Rattle.std.proofs.lemmas.List.Elements.{recursion_from_All}
use Rattle.pl_base.specs.declared.id.PageId.{PageId}
use Rattle.pl_base.specs.Good.{HasTags, IsTagFolder, IsTagName}
use Rattle.pl_base.specs.Sorting.{put_in_place, sorted_by}
use Rattle.pl_base.specs.Store.{Item, Store}
use Rattle.pl_base.specs.Tags.{by_fold, comma_joined, has_tag, is_before, page_tags, tag_text}
use Rattle.pl_base.specs.Tags.{tags_of}
use Rattle.pl_base.proofs.ListLaws.{list_any-alike, list_any-map}
use Rattle.pl_base.proofs.LookUps.{where_passes}
use Rattle.pl_base.proofs.SortLaws.{all_sorted}
use Rattle.pl_words.specs.TagLists.{is_same_tag}
use Rattle.pl_words.proofs.JoinedTags.{cut_again}
use Rattle.pl_marks.proofs.PageTags.{any_filter}
use Rattle.pl_conditions.specs.Conditions.{has_tag_named}
use Rattle.pl_query.specs.Decides.{comma_split, is_tag_in}

-- ---- lists in order

module _ {A : Type 0} (p : A → Bool) (before : A → A → Bool) where
  any_placed : (x : A) (ys : List A)
      → list_any p (put_in_place before x ys) ≡ (p x || list_any p ys)
  any_placed x [] = refl
  any_placed x (y ∷ ys) = choose (before x y) (any_placed x ys)
    where
      turned : (a b c : Bool) → (b || (a || c)) ≡ (a || (b || c))
      turned true true c = refl
      turned true false c = refl
      turned false b c = refl

      choose : (b : Bool) → list_any p (put_in_place before x ys) ≡ (p x || list_any p ys)
          → list_any p (if b then x ∷ y ∷ ys else y ∷ put_in_place before x ys)
          ≡ (p x || (p y || list_any p ys))
      choose true rest = refl
      choose false rest = ap (λ (b : Bool). p y || b) rest ∙ turned (p x) (p y) (list_any p ys)

  -- what passes among members passes among them in order
  any_sorted : (xs : List A) → list_any p (sorted_by before xs) ≡ list_any p xs
  any_sorted [] = refl
  any_sorted (x ∷ xs) =
      any_placed x (sorted_by before xs) ∙ ap (λ (b : Bool). p x || b) (any_sorted xs)

-- ---- names that are joined

some_joined : (name : List ℕ) (names : List (List ℕ)) → IsTagName name
    → (length (comma_joined (name ∷ names)) == 0) ≡ false
some_joined [] names is = absurd (let some = is.some in omega arith)
some_joined (b ∷ name) [] is = ne_eqb _ _ (λ none. omega arith)
some_joined (b ∷ name) (next ∷ names) is = ne_eqb _ _ (λ none. omega arith)

-- a tag is in the text that joins names where it is one of them
in_joined : (names : List (List ℕ)) (name : List ℕ) → AllByRecursion IsTagName names
    → is_tag_in (comma_joined names) name ≡ list_any (is_same_tag name) names
in_joined [] name all = refl
in_joined (first ∷ names) name all =
    let cut : List (List ℕ) = comma_split (comma_joined (first ∷ names)) in
    ap (λ (b : Bool). not b && list_any (is_same_tag name) cut) (some_joined first names all.0)
    ∙ ap (list_any (is_same_tag name)) (cut_again first names all)

-- ---- the tags of a page

titles : (P : List ℕ → Type 0) (items : List Item) → AllByRecursion (λ (t : Item). P t.title) items
    → AllByRecursion P (map (λ (t : Item). t.title) items)
titles P [] all = tt
titles P (t ∷ items) all = (all.0, titles P items all.1)

names_of : (tags : List Item) (store : Store) → AllByRecursion (IsTagFolder store) tags
    → AllByRecursion (λ (t : Item). IsTagName t.title) tags
names_of [] store all = tt
names_of (t ∷ tags) store all = (all.0.name, names_of tags store all.1)

always : (P : Item → Type 0) (test : Item → Bool) (items : List Item) → AllByRecursion P items
    → AllByRecursion (λ (t : Item). test t ≡ true → P t) items
always P test [] all = tt
always P test (t ∷ items) all = ((λ _. all.0), always P test items all.1)

names_are : (store : Store) (page : PageId) → HasTags store
    → AllByRecursion IsTagName (page_tags store page)
names_are store page good =
    let named = names_of (tags_of store) store
    (recursion_from_All (IsTagFolder store) (tags_of store) good.folders) in
    let P : Item → Type 0 = λ t. IsTagName t.title in
    titles IsTagName (by_fold (filter (has_tag store page) (tags_of store)))
    (all_sorted is_before P (filter (has_tag store page) (tags_of store))
    (where_passes P (has_tag store page) (tags_of store)
    (always P (has_tag store page) (tags_of store) named)))

-- a page of a good store has a tag where that is in the text of its tags
pub tag_told : (store : Store) (page : PageId) → HasTags store → (name : List ℕ)
    → is_tag_in (tag_text store page) name ≡ has_tag_named store page name
tag_told store page good name =
    let own : Item → Bool = λ t. is_same_tag name t.title in
    let of_page : List Item = filter (has_tag store page) (tags_of store) in
    in_joined (page_tags store page) name (names_are store page good)
    ∙ list_any-map (is_same_tag name) (λ (t : Item). t.title) (by_fold of_page)
    ∙ any_sorted own is_before of_page
    ∙ sym (any_filter (has_tag store page) own own (tags_of store) (λ t. refl))
    ∙ list_any-alike (λ t. has_tag store page t && own t) (λ t. own t && has_tag store page t)
    (tags_of store)
    (λ t. and_comm (has_tag store page t) (own t))

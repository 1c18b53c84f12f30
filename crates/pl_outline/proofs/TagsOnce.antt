-- The tags of a page are names of tags, and no two of them the same.
use Rattle.std.proofs.Common.{◌≡◌, ◌≢◌, ◌||◌, ◌∙◌, ℕ, suc, Bool, true, false, not, List, [], ◌∷◌, ap, arith}
use Rattle.std.proofs.Common.{filter, if◌then◌else◌, map, refl, sym}
use Rattle.std.specs.List.{AllPairs, list_all, list_any}
use Rattle.std.proofs.lemmas.Bool.{and_from, and_parts, false_from_ne_true, not-true, or_from, or_parts, true≢false}
use Rattle.std.proofs.lemmas.List.Elements.{All-weaker}
use Rattle.std.proofs.lemmas.List.Folds.{list_any_none}
use Rattle.std.proofs.lemmas.List.Sums.{list_all-from_AllPass}
use Rattle.std.proofs.lemmas.Slice.Eq.{bytes_eq-Decides}
use Rattle.pl_base.specs.declared.id.PageId.{PageId}
use Rattle.pl_base.specs.Fold.{folded}
use Rattle.pl_base.specs.Good.{HasTags, IsTagName}
use Rattle.pl_base.specs.Sorting.{put_in_place, sorted_by}
use Rattle.pl_base.specs.Store.{Item, Store}
use Rattle.pl_base.specs.Tags.{by_fold, has_tag, is_before, page_tags, tags_of}
use Rattle.pl_base.proofs.ListLaws.{list_any-map}
use Rattle.pl_words.proofs.TagListLaws.{once_less}
use Rattle.pl_marks.proofs.TagNames.{names_of_tags}
use Rattle.pl_words.specs.TagLists.{each_once, is_same_tag}
use Rattle.pl_words.specs.TagName.{is_tag_name}
use Rattle.pl_words.proofs.TagTests.{test_of_name}

-- ---- lists in which each member stands once

module _ {A : Type 0} (same : A → A → Bool) where
  once_apart : (xs : List A) → AllPairs (λ a b. same a b ≡ false) xs → each_once same xs ≡ true
  once_apart [] apart = refl
  once_apart (x ∷ xs) apart =
      and_from (not (list_any (same x) xs)) (each_once same xs)
      (ap not (list_any_none (same x) xs (λ k d within. apart 0 (suc k) d (omega arith) (omega arith))))
      (once_apart xs (λ i j d before within. apart (suc i) (suc j) d (omega arith) (omega arith)))

  none_placed : (p : A → Bool) (before : A → A → Bool) (x : A) (ys : List A) → p x ≡ false → list_any p ys ≡ false
      → list_any p (put_in_place before x ys) ≡ false
  none_placed p before x [] here none = or_from (p x) false here refl
  none_placed p before x (y ∷ ys) here none =
      let parts = or_parts (p y) (list_any p ys) none in
      choose (before x y) parts.0 (none_placed p before x ys here parts.1)
    where
      choose : (b : Bool) → p y ≡ false → list_any p (put_in_place before x ys) ≡ false
          → list_any p (if b then x ∷ y ∷ ys else y ∷ put_in_place before x ys) ≡ false
      choose true there rest = or_from (p x) (p y || list_any p ys) here none
      choose false there rest = or_from (p y) (list_any p (put_in_place before x ys)) there rest

  none_sorted : (p : A → Bool) (before : A → A → Bool) (xs : List A) → list_any p xs ≡ false
      → list_any p (sorted_by before xs) ≡ false
  none_sorted p before [] none = refl
  none_sorted p before (x ∷ xs) none =
      let parts = or_parts (p x) (list_any p xs) none in
      none_placed p before x (sorted_by before xs) parts.0 (none_sorted p before xs parts.1)

  module _ (turned : (a b : A) → same a b ≡ false → same b a ≡ false) (before : A → A → Bool) where
    once_placed : (x : A) (ys : List A) → list_any (same x) ys ≡ false → each_once same ys ≡ true
        → each_once same (put_in_place before x ys) ≡ true
    once_placed x [] none once = refl
    once_placed x (y ∷ ys) none once =
        let apart = or_parts (same x y) (list_any (same x) ys) none in
        let parts = and_parts (not (list_any (same y) ys)) (each_once same ys) once in
        choose (before x y)
        (none_placed (same y) before x ys (turned x y apart.0) (not-true (list_any (same y) ys) parts.0))
        (once_placed x ys apart.1 parts.1)
      where
        choose : (b : Bool) → list_any (same y) (put_in_place before x ys) ≡ false
            → each_once same (put_in_place before x ys) ≡ true
            → each_once same (if b then x ∷ y ∷ ys else y ∷ put_in_place before x ys) ≡ true
        choose true there rest =
            and_from (not (list_any (same x) (y ∷ ys))) (each_once same (y ∷ ys)) (ap not none) once
        choose false there rest =
            and_from (not (list_any (same y) (put_in_place before x ys))) (each_once same (put_in_place before x ys))
            (ap not there) rest

    once_sorted : (xs : List A) → each_once same xs ≡ true → each_once same (sorted_by before xs) ≡ true
    once_sorted [] once = refl
    once_sorted (x ∷ xs) once =
        let parts = and_parts (not (list_any (same x) xs)) (each_once same xs) once in
        once_placed x (sorted_by before xs)
        (none_sorted (same x) before xs (not-true (list_any (same x) xs) parts.0)) (once_sorted xs parts.1)

once_map : {A B : Type 0} (same : B → B → Bool) (f : A → B) (xs : List A)
    → each_once same (map f xs) ≡ each_once (λ a b. same (f a) (f b)) xs
once_map same f [] = refl
once_map same f (x ∷ xs) =
    rw (list_any-map (same (f x)) f xs, once_map same f xs) refl

-- ---- tags

differ : (a b : List ℕ) → folded a ≢ folded b → is_same_tag a b ≡ false
differ a b apart =
    false_from_ne_true (is_same_tag a b) (λ is. apart ((bytes_eq-Decides (folded a) (folded b)).0 is))

turned_tags : (a b : List ℕ) → is_same_tag a b ≡ false → is_same_tag b a ≡ false
turned_tags a b apart =
    differ b a
    (λ same. true≢false (sym ((bytes_eq-Decides (folded a) (folded b)).1 (sym same)) ∙ apart))

module _ (store : Store) (page : PageId) (tags : HasTags store) where
  abbrev alike : Item → Item → Bool
  alike a b = is_same_tag a.title b.title

  pub tags_once : each_once is_same_tag (page_tags store page) ≡ true
  tags_once =
      let own : List Item = filter (has_tag store page) (tags_of store) in
      once_map is_same_tag (λ (t : Item). t.title) (by_fold own)
      ∙ once_sorted alike (λ a b. turned_tags a.title b.title) is_before own
      (once_less alike (has_tag store page) (tags_of store)
      (once_apart alike (tags_of store)
      (λ i j d before within. differ _ _ (tags.names i j d before within))))

  pub tags_named : list_all is_tag_name (page_tags store page) ≡ true
  tags_named =
      list_all-from_AllPass is_tag_name (page_tags store page)
      (All-weaker IsTagName (λ t. is_tag_name t ≡ true) test_of_name (page_tags store page)
      (names_of_tags store page tags))

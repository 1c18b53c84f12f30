-- What a query asks of the texts of a view, where it is made ready.
use Rattle.std.proofs.Common.{◌≡◌, ◌∙◌, ◌&&◌, ◌==◌, ℕ, Bool, true, false, List, [], ◌∷◌, ap, length, not, refl}
use Rattle.std.proofs.Common.{sym}
use Rattle.std.specs.List.{list_all}
use Rattle.std.proofs.lemmas.List.{length-map}
use Rattle.pl_base.specs.declared.view.View.{View}
use Rattle.pl_base.specs.Fold.{folded}
use Rattle.pl_base.proofs.Truths.{no_length}
use Rattle.pl_place.specs.declared.query.Query.{Query}
use Rattle.pl_conditions.specs.Conditions.{words_asked}
use Rattle.pl_query.specs.Decides.{are_tags_in, decides, has_word_in, holds_unfolded, is_tag_in}
use Rattle.pl_indexed.specs.declared.asked.Asked.{Asked}
use Rattle.pl_indexed.specs.Asked.{IsAsked}

-- ---- tags

-- no tag is asked for
pub all_have : (not_tags : Bool) (text : List ℕ) → are_tags_in [] not_tags text ≡ true
all_have true text = refl
all_have false text = refl

-- a page has no tag
pub none_has : (tags : List (List ℕ)) (not_tags : Bool) → (length tags == 0) ≡ false
    → are_tags_in tags not_tags [] ≡ not_tags
none_has [] not_tags some = absurd (cc)
none_has (name ∷ tags) false some = refl
none_has (name ∷ tags) true some = none tags
  where
    none : (names : List (List ℕ)) → list_all (λ tag. not (is_tag_in [] tag)) names ≡ true
    none [] = refl
    none (tag ∷ names) = none names

pub no_tags : (q : Query) (asked : Asked) → IsAsked q asked → (length asked.tags.items == 0) ≡ true → q.tags ≡ []
no_tags q asked is none =
    no_length q.tags
    (ap (λ (n : ℕ). n == 0) (sym (length-map q.tags folded))
    ∙ ap (λ (folds : List (List ℕ)). length folds == 0) (sym is.tags) ∙ none)

pub some_tags : (q : Query) (asked : Asked) → IsAsked q asked → (length asked.tags.items == 0) ≡ false
    → (length q.tags == 0) ≡ false
some_tags q asked is some =
    ap (λ (n : ℕ). n == 0) (sym (length-map q.tags folded))
    ∙ ap (λ (folds : List (List ℕ)). length folds == 0) (sym is.tags) ∙ some

-- ---- words and tags

-- nothing is asked of the texts
pub no_texts : (q : Query) (asked : Asked) → IsAsked q asked → (length asked.words.items == 0) ≡ true
    → (length asked.tags.items == 0) ≡ true → (v : View) → decides q v ≡ holds_unfolded q v
no_texts q asked is no_words none v =
    let tags : are_tags_in q.tags q.not_tags v.tags ≡ true =
    ap (λ (names : List (List ℕ)). are_tags_in names q.not_tags v.tags) (no_tags q asked is none)
    ∙ all_have q.not_tags v.tags in
    let words : list_all (has_word_in v) (words_asked q.terms) ≡ true =
    ap (list_all (has_word_in v)) (sym is.words ∙ no_length asked.words.items no_words) in
    rw (tags, words) (both (holds_unfolded q v))
  where
    both : (b : Bool) → ((b && true) && true) ≡ b
    both true = refl
    both false = refl

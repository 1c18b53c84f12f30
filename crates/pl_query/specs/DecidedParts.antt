-- The conditions on the texts of a view, in the parts in which they are asked.
use Rattle.std.specs.Prelude.{ℕ, ◌==◌, ◌&&◌, ◌||◌, not, Bool, true, false, List, bytes_eq, length}
use Rattle.std.specs.List.{list_all, list_any}
use Rattle.pl_base.specs.declared.view.View.{View}
use Rattle.pl_base.specs.Fold.{folded}
use Rattle.pl_words.specs.Pieces.{occurs, searched}
use Rattle.pl_query.specs.declared.decided.words.ViewTexts.{ViewTexts}
use Rattle.pl_query.specs.Decides.{comma_split}

-- the fold of a tag is one of those that a text joins by commas; the empty text joins none
abbrev pub is_fold_in : List ℕ → List ℕ → Bool
is_fold_in text fold = not (length text == 0) && list_any (bytes_eq fold) (comma_split text)

-- all folds of tags are in the text, or none of them where that is asked
abbrev pub are_folds_in : List (List ℕ) → Bool → List ℕ → Bool
are_folds_in folds false text = list_all (is_fold_in text) folds
are_folds_in folds true text = not (list_any (is_fold_in text) folds)

-- the texts of a view in which words are looked for
abbrev pub texts_of : View → ViewTexts
texts_of v =
    record { title = folded v.title; address = searched v.url v.prefix; tags = folded v.tags }

-- the word stands in one of the texts
abbrev pub is_in_texts : ViewTexts → List ℕ → Bool
is_in_texts texts word =
    occurs word texts.title || occurs word texts.address || occurs word texts.tags

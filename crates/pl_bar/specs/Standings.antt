-- How well words stand in the folded texts of a page.
use Rattle.std.specs.Prelude.{ℕ, ◌&&◌, ◌||◌, Bool, true, false, List, if◌then◌else◌}
use Rattle.std.specs.List.{list_all}
use Rattle.pl_follow.specs.declared.texts.Folded.{Folded}
use Rattle.pl_words.specs.declared.bar_text.Marks.{Marks}
use Rattle.pl_words.specs.declared.stands.Standing.{Standing}
use Rattle.pl_words.specs.declared.stands.Standing.TheVariants.{Boundary, Inside, Nowhere}
use Rattle.pl_words.specs.Pieces.{found}

-- the word stands in the title or the tags, on a boundary where that is asked
abbrev pub in_titles : Folded → Bool → List ℕ → Bool
in_titles texts boundary word = found boundary word texts.title || found boundary word texts.tags

-- the word stands where the marks ask for it
abbrev pub word_in : Folded → Marks → Bool → List ℕ → Bool
word_in texts marks boundary word =
    if marks.title && marks.address
    then in_titles texts boundary word && found boundary word texts.address else
    if marks.title then in_titles texts boundary word else
    if marks.address then found boundary word texts.address else
    in_titles texts boundary word || found boundary word texts.address

-- each of the words does
abbrev pub all_in : Folded → Marks → List (List ℕ) → Bool → Bool
all_in texts marks words boundary = list_all (word_in texts marks boundary) words

-- how well something stands, where it is known whether it stands on a boundary, and whether at all
abbrev pub standing_by : (Bool → Bool) → Standing
standing_by stands = if stands true then Boundary else if stands false then Inside else Nowhere

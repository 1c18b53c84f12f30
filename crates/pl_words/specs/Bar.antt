-- What is typed into the address bar: marks, and words.
use Rattle.std.specs.Prelude.{◌≡◌, ℕ, not, Bool, List, [], ◌∷◌, codes, bytes_eq}
use Rattle.std.specs.List.{filter, list_any}
use Rattle.pl_words.specs.declared.bar_text.BarText.{BarText}
use Rattle.pl_words.specs.declared.bar_text.Marks.{Marks}
use Rattle.pl_words.specs.Pieces.{pieces}

-- the marks: history, bookmark, tag, title and address
abbrev pub marks : List (List ℕ)
marks = codes "^" ∷ codes "*" ∷ codes "+" ∷ codes "#" ∷ codes "$" ∷ []

-- a piece that is one of the marks and nothing else
abbrev pub is_mark : List ℕ → Bool
is_mark piece = list_any (bytes_eq piece) marks

-- the mark is one of the pieces of a text
abbrev pub has_mark : List ℕ → List ℕ → Bool
has_mark mark text = list_any (bytes_eq mark) (pieces text)

-- the marks of a text
abbrev pub marks_of : List ℕ → Marks
marks_of text =
    record {
      history = has_mark (codes "^") text;
      bookmark = has_mark (codes "*") text;
      tag = has_mark (codes "+") text;
      title = has_mark (codes "#") text;
      address = has_mark (codes "$") text;
    }

-- the words of a text: its other pieces
abbrev pub words_of : List ℕ → List (List ℕ)
words_of text = filter (λ (piece : List ℕ). not (is_mark piece)) (pieces text)

-- the marks and the words are those of the text
pub record AreTokens (text : List ℕ) (tokens : BarText) : Type 0 where
  pub marks : tokens.marks ≡ marks_of text
  pub words : tokens.words ≡ words_of text

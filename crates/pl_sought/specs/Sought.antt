-- Words that are looked for in the folded texts of pages.
use Rattle.std.specs.Prelude.{ℕ, List, [], ◌∷◌}
use Rattle.pl_sketch.specs.declared.sketch.Sketch.{Sketch}
use Rattle.pl_sketch.specs.Pairs.{nothing, sketch_of, union}

-- the sketch of words
abbrev pub sketch_of_words : List (List ℕ) → Sketch
sketch_of_words [] = nothing
sketch_of_words (word ∷ words) = union (sketch_of word) (sketch_of_words words)

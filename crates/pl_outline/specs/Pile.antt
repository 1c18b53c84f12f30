-- The pile of places where the lists of a tree go on.
use Rattle.std.specs.Prelude.{ℕ, List, [], ◌∷◌, Option, Some, None}
use Rattle.pl_base.specs.declared.id.ItemId.{ItemId}
use Rattle.pl_outline.specs.declared.outline.Place.{Place}

-- the place of an item at a depth, if there is one
abbrev pub placed : ℕ → Option ItemId → List Place
placed depth None = []
placed depth (Some item) = record { item = item; depth = depth } ∷ []

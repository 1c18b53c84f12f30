-- Where a place lies among the children of a folder.
use Rattle.std.specs.Prelude.{not, Bool, false, List, [], ◌∷◌, length, take, ◌==◌}
use Rattle.std.specs.Prelude.{Option, Some, None}
use Rattle.std.specs.List.{filter}
use Rattle.std.specs.Option.{option_or}
use Rattle.pl_base.specs.declared.id.ItemId.{ItemId}
use Rattle.pl_tree.specs.declared.place.Place.{Place}
use Rattle.pl_tree.specs.Changes.{position}

-- the item is there, and is this one
abbrev pub is_item : ItemId → Option ItemId → Bool
is_item id None = false
is_item id (Some other) = id.0 == other.0

-- ids but for the one that is left out, if any
abbrev pub others : Option ItemId → List ItemId → List ItemId
others left_out ids = filter (λ c. not (is_item c left_out)) ids

-- the last of some ids
abbrev pub last_item : List ItemId → Option ItemId
last_item [] = None
last_item (c ∷ cs) = option_or (last_item cs) (Some c)

-- the id behind which one more is put at a place, and none at the front
abbrev pub before : Place → List ItemId → Option ItemId
before place ids = last_item (take (position place (length ids)) ids)

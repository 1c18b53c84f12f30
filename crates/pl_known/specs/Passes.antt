-- Changes of views that are made in two passes: first pages go, and then new views come.
use Rattle.std.specs.Prelude.{◌==◌, ◌<◌, not, Bool, false, List, [], ◌∷◌, Option, Some, None}
use Rattle.std.specs.List.{AllPairs, filter, find}
use Rattle.std.specs.Option.{is_none, option_map_or}
use Rattle.pl_base.specs.declared.change.Change.{Change}
use Rattle.pl_base.specs.declared.id.PageId.{PageId}
use Rattle.pl_base.specs.declared.view.View.{View}
use Rattle.pl_follow.specs.Changes.{with_view, without_id}
use Rattle.pl_known.specs.Changes.{id_of}

-- the changes stand in the order of the ids of their pages
abbrev pub AscendById : List Change → Type 0
AscendById changes = AllPairs (λ (c d : Change). id_of c < id_of d) changes

-- the change of the page with this id
abbrev pub change_of : PageId → List Change → Option Change
change_of id changes = find (λ (c : Change). id_of c == id.0) changes

-- the page with this id goes
abbrev pub goes : List Change → PageId → Bool
goes changes id = option_map_or (λ (c : Change). is_none c.new) (change_of id changes) false

-- the views of the pages that stay
abbrev pub staying : List Change → List View → List View
staying changes views = filter (λ (v : View). not (goes changes v.id)) views

-- the views with the new one, if there is one, in place of that of its page
abbrev pub put : Option View → List View → List View
put None views = views
put (Some new) views = with_view new (without_id new.id views)

-- the views with each new one
abbrev pub all_put : List Change → List View → List View
all_put [] views = views
all_put (c ∷ cs) views = all_put cs (put c.new views)

-- The latest of some visits.
use Rattle.std.specs.Prelude.{◌&&◌, ◌==◌, Bool, List, [], ◌∷◌, Option, Some, None, if◌then◌else◌}
use Rattle.pl_base.specs.declared.id.PageId.{PageId}
use Rattle.pl_base.specs.Store.{Visit}
use Rattle.pl_base.specs.Visits.{is_later}

-- the first of some visits, if there is one
abbrev pub first_of : List Visit → Option Visit
first_of [] = None
first_of (v ∷ vs) = Some v

-- the later of a visit and another one, if there is another
abbrev pub later_of : Visit → Option Visit → Visit
later_of v None = v
later_of v (Some w) = if is_later v w then v else w

-- a visit of the page, and if a limit is given an earlier one than it
abbrev pub is_within : PageId → Option Visit → Visit → Bool
is_within page None v = v.page.0 == page.0
is_within page (Some limit) v = (v.page.0 == page.0) && is_later limit v

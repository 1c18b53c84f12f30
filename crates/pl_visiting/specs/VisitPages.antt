-- How many pages of its file a visit may change.
use Rattle.std.specs.Prelude.{ℕ, ◌+◌, List, Option, is_none, if◌then◌else◌}
use Rattle.pl_base.specs.Live.{chunks}
use Rattle.pl_base.specs.Store.{Store}
use Rattle.pl_base.specs.Touched.{IsAtMostMore}
use Rattle.pl_base.specs.Visiting.{find_page}
use Rattle.pl_step.specs.declared.command.Command.{Command}
use Rattle.pl_step.specs.declared.command.Command.TheVariants.{Visit as VisitCommand}

-- the most pages that a visit adds to those to be listed, but for those of its URL's text: a commit
-- of a visit writes at most 64, and before it one page may have changed already
abbrev pub most_visit_pages : ℕ
most_visit_pages = 63

-- those of the text of a URL that no page has yet
abbrev pub text_pages : List ℕ → Store → ℕ
text_pages url store = if is_none (find_page url store.pages) then chunks url else 0

-- a visit adds few pages to those that are to be listed
abbrev pub AddsFewPages : Command → Store → Option ℕ → Option ℕ → Type 0
AddsFewPages (VisitCommand url transition date source) store old new =
    IsAtMostMore (most_visit_pages + text_pages url store) old new
AddsFewPages other store old new = Unit {0}

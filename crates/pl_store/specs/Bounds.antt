-- How much the commit of a command writes at most, where that is told beforehand: of a visit, of
-- what is refused, and of the kinds that change nothing.
use Rattle.std.specs.Prelude.{ℕ, ◌+◌, ◌||◌, not, List, Option, Some, None, if◌then◌else◌}
use Rattle.std.specs.Option.{option_map}
use Rattle.pl_base.specs.Store.{Store}
use Rattle.pl_visiting.specs.VisitPages.{most_visit_pages, text_pages}
use Rattle.pl_gate.specs.Gate.{commit_bytes}
use Rattle.pl_gate.specs.Recovery.{recovery_bytes}
use Rattle.pl_step.specs.declared.command.Command.{Command}
use Rattle.pl_step.specs.declared.command.Command.TheVariants.{Visit as VisitCommand}
use Rattle.pl_step.specs.declared.reply.Reply.{Reply}
use Rattle.pl_step.specs.Commands.{is_change}
use Rattle.pl_step.specs.Refused.{is_refused}

-- the most pages that a commit of a visit writes: 64, as one may have changed before the visit, and
-- those of the text of a URL that no page has yet
abbrev pub visit_pages : List ℕ → Store → ℕ
visit_pages url store = 1 + most_visit_pages + text_pages url store

-- the most pages that the commit of a command writes
abbrev pub most_pages : Command → Store → Option ℕ
most_pages (VisitCommand url transition date source) store = Some (visit_pages url store)
most_pages other store = None

-- the most bytes that it writes, by the command's reply: none where it is refused or of a kind that
-- changes nothing
abbrev pub most_bytes : Store → Command → Reply → Option ℕ
most_bytes store command reply =
    if is_refused reply || not (is_change command) then Some 0
    else option_map commit_bytes (most_pages command store)

-- the most bytes that the opening of a file writes: those of its recovery
abbrev pub reopening_bytes : List ℕ → ℕ
reopening_bytes file = recovery_bytes file

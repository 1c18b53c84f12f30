use Rattle.std.proofs.Common.{◌≡◌, ◌+◌, ◌*◌, ◌≤◌, ℕ, List}
use Rattle.pl_base.specs.Rows.{most_reads}
use Rattle.pl_calendar.specs.Days.{due_pages}
use Rattle.pl_history.specs.Aging.{page_reads}
use Rattle.pl_visiting.proofs.DayChanges.{AreAged}
use Rattle.pl_visiting.proofs.days.set_day.Given as goal

abbrev pub invariant-loop-page : goal.invariant-loop-page
invariant-loop-page g l =
    record {
      due : l.page-items ≡ due_pages l.fn.day l.known.views.items;
      aged :
          AreAged l.fn.day l.page-items l.known.views.items (g.R.Rows.kept l.fn.rows) (g.R.Rows.kept l.rows)
          l.page-index l.changes.items;
      base : (bytes : List ℕ) → g.R.Rows.base l.fn.rows bytes → g.R.Rows.base l.rows bytes;
      cost : l.steps ≤ l.fn.steps + most_reads + page_reads * l.page-index;
    }

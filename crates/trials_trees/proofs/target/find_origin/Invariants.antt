use Rattle.std.proofs.Common.{ℕ, List, length}
use Rattle.pl_base.specs.Address.{same_origin}
use Rattle.pl_base.proofs.PagesRun.{following, page_names}
use Rattle.pl_base.proofs.Walk.{Walk, left}
use Rattle.pl_marks.specs.UrlParts.{HasParts}
use Rattle.trials_trees.proofs.SearchedPages.{NonePasses}
use Rattle.trials_trees.proofs.target.find_origin.Given as goal

abbrev pub invariant-loop-next : goal.invariant-loop-next
invariant-loop-next g l =
    record {
      at_a_page : Walk page_names (g.R.Rows.kept l.rows).pages (λ _. Unit {0}) l.next;
      origins_differ : (url : List ℕ) → HasParts url l.parts
          → Walk page_names (g.R.Rows.kept l.rows).pages (NonePasses (λ text. same_origin text url)) l.next;
    }

abbrev pub decreases-loop-next : goal.decreases-loop-next
decreases-loop-next g l = left (following (g.R.Rows.kept l.rows)) (length (g.R.Rows.kept l.rows).pages) l.next

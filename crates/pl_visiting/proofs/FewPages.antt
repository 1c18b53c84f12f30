-- How many pages a visit adds to those to be listed.
use Rattle.std.proofs.Common.{◌+◌, ◌≤◌, ℕ, List, Option, arith}
use Rattle.pl_base.specs.Rows.{Kept, store_of}
use Rattle.pl_base.specs.Touched.{IsAtMostMore}
use Rattle.pl_base.proofs.PagesMore.{more_and_more, more_at_most}
use Rattle.pl_history.specs.declared.find.Target.{Target}
use Rattle.pl_history.specs.declared.find.Target.TheVariants.{Known, New}
use Rattle.pl_history.specs.Added.{visit_pages}
use Rattle.pl_history.specs.Target.{IsTargetOf, target_pages}
use Rattle.pl_visiting.specs.VisitPages.{most_visit_pages, text_pages}

-- those of a new page, and those of the visit
within : (kept : Kept) (url : List ℕ) (target : Target) → IsTargetOf kept url target
    → target_pages url target + visit_pages ≤ most_visit_pages + text_pages url (store_of kept)
within kept url (Known page) is = omega arith
within kept url (New origin) is = rw is.0 (omega arith)

pub few_pages : (kept : Kept) (url : List ℕ) (target : Target) (old mid new : Option ℕ) → IsTargetOf kept url target
    → IsAtMostMore (target_pages url target) old mid → IsAtMostMore visit_pages mid new
    → IsAtMostMore (most_visit_pages + text_pages url (store_of kept)) old new
few_pages kept url target old mid new is first next =
    more_at_most (target_pages url target + visit_pages) (most_visit_pages + text_pages url (store_of kept)) old new
    (within kept url target is) (more_and_more (target_pages url target) visit_pages old mid new first next)

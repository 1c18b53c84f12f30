use Rattle.std.proofs.Common.{◌≡◌, ◌≤◌, ◌-◌, IfSome, drop}
use Rattle.pl_base.specs.Touched.{page_numbers}
use Rattle.pl_desk.specs.Calls.{OnlyReads}
use Rattle.pl_gate.specs.Gate.{journal}
use Rattle.pl_gate.proofs.JournalFiles.{numbers_fit}
use Rattle.pl_gate.proofs.journal.check_journal.Given as goal

-- all numbers are right exactly where those that are left are, behind the last one
abbrev pub invariant-loop-index : goal.invariant-loop-index
invariant-loop-index g l =
    let desk = g.D.Desk in let old = l.initial.desk in
    record {
      within : l.index ≤ l.told.count;
      numbers : IfSome (desk.held old)
          (λ file. numbers_fit 0 l.told.after (page_numbers (journal file))
          ≡ numbers_fit l.last l.told.after (page_numbers (drop l.index (journal file))));
      reads : OnlyReads desk old l.desk;
      no_fault : desk.device_faults l.desk ≡ desk.device_faults old;
    }

abbrev pub decreases-loop-index : goal.decreases-loop-index
decreases-loop-index g l = l.told.count - l.index

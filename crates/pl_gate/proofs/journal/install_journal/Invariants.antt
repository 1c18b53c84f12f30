use Rattle.std.proofs.Common.{◌≡◌, ◌≤◌, ◌+◌, ◌*◌, ◌-◌, true, List, ℕ, Some, None, drop, take}
use Rattle.pl_base.specs.Touched.{page_numbers, page_size}
use Rattle.pl_desk.specs.Desk.{Follows}
use Rattle.pl_desk.specs.Shown.{ShowsStep}
use Rattle.pl_desk.specs.Calls.{KeepsLine}
use Rattle.pl_gate.specs.Device.{image_ranges, with_images, TornIn}
use Rattle.pl_gate.specs.Gate.{journal}
use Rattle.pl_gate.proofs.JournalFiles.{numbers_fit}
use Rattle.pl_gate.proofs.journal.install_journal.Given as goal

-- the first images are in their places
abbrev pub invariant-loop-index : goal.invariant-loop-index
invariant-loop-index g l =
    let desk = g.D.Desk in let old = l.initial.desk in
    record {
      within : l.index ≤ l.told.count;
      held : (file : List ℕ) → desk.held old ≡ Some file
          → desk.held l.desk ≡ Some (with_images (take l.index (journal file)) file);
      none : desk.held old ≡ None → desk.held l.desk ≡ None;
      numbers : (file : List ℕ) → desk.held old ≡ Some file
          → numbers_fit l.last l.told.after (page_numbers (drop l.index (journal file))) ≡ true;
      leaves : (file : List ℕ) → desk.held old ≡ Some file
          → Follows (TornIn (image_ranges (take l.index (journal file)))) (desk.may_leave old) (desk.may_leave l.desk);
      moments : (file : List ℕ) → desk.held old ≡ Some file
          → ShowsStep desk old l.desk (TornIn (image_ranges (journal file)));
      line : KeepsLine desk old l.desk;
      written : desk.written l.desk ≡ desk.written old + page_size * l.index;
      no_fault : desk.device_faults l.desk ≡ desk.device_faults old;
    }

abbrev pub decreases-loop-index : goal.decreases-loop-index
decreases-loop-index g l = l.told.count - l.index

use Rattle.std.specs.Option.{option_map}
use Rattle.std.proofs.Common.{◌≡◌, ◌≤◌, ◌+◌, ◌*◌, ◌-◌, length, take}
use Rattle.pl_desk.specs.Desk.{Follows}
use Rattle.pl_desk.specs.Shown.{ShowsStep}
use Rattle.pl_desk.specs.Calls.{KeepsLine}
use Rattle.pl_gate.specs.Gate.{entry_size}
use Rattle.pl_gate.specs.Device.{entry_ranges, with_entries, TornIn}
use Rattle.pl_gate.proofs.device.write_entries.Given as goal

-- the first entries are written
abbrev pub invariant-loop-index : goal.invariant-loop-index
invariant-loop-index g l =
    let desk = g.D.Desk in let old = l.initial.desk in let pages = l.touched.pages in
    let ranges = entry_ranges l.start pages in
    record {
      within : l.index ≤ length pages;
      held : desk.held l.desk ≡ option_map (with_entries l.start (take l.index pages)) (desk.held old);
      leaves : Follows (TornIn (entry_ranges l.start (take l.index pages))) (desk.may_leave old)
          (desk.may_leave l.desk);
      moments : ShowsStep desk old l.desk (TornIn ranges);
      line : KeepsLine desk old l.desk;
      written : desk.written l.desk ≡ desk.written old + entry_size * l.index;
      no_fault : desk.device_faults l.desk ≡ desk.device_faults old;
    }

abbrev pub decreases-loop-index : goal.decreases-loop-index
decreases-loop-index g l = length l.touched.pages - l.index

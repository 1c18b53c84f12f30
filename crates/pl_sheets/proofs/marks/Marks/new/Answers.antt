use Rattle.pl_sheets.proofs.Flags.{marked_zeros}
use Rattle.pl_sheets.proofs.Levels.{levels_of_zeros}
use Rattle.pl_sheets.proofs.marks.Marks.new.Goals as goal

pub invariant_of-result : goal.invariant_of-result
invariant_of-result c =
    rw (
      c.in_ok-zeros.ensures,
      c.in_ok-zeros-2.ensures,
      c.in_ok-zeros-3.ensures,
      c.in_ok-zeros-4.ensures,
    ) (levels_of_zeros c.args.count c.requires)

pub returns : goal.returns
returns c = rw c.in_ok-zeros.ensures (marked_zeros c.args.count _)

use Rattle.std.proofs.Common.{take}
use Rattle.pl_base.specs.Due.{IsFirstDay, some_weighs_anew}
use Rattle.pl_score.specs.Sample.{dates_of}
use Rattle.pl_score.proofs.due.next_due.Given as goal

abbrev pub invariant-loop-visit : goal.invariant-loop-visit
invariant-loop-visit l = IsFirstDay (some_weighs_anew (dates_of (take l.visit-index l.sample))) l.day l.due

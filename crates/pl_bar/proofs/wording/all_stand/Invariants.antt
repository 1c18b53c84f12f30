use Rattle.std.proofs.Common.{◌≡◌, take}
use Rattle.pl_bar.specs.Standings.{all_in, standing_by}
use Rattle.pl_bar.proofs.wording.all_stand.Given as goal

abbrev pub invariant-loop-word : goal.invariant-loop-word
invariant-loop-word l = l.worst ≡ standing_by (all_in l.texts l.asked.marks (take l.word-index l.word-items))

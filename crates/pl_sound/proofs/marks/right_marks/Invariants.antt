use Rattle.std.proofs.Common.{◌≡◌, map, take}
use Rattle.pl_sound.specs.Marks.{right_mark}
use Rattle.pl_sound.proofs.marks.right_marks.Given as goal

abbrev pub invariant-loop-page : goal.invariant-loop-page
invariant-loop-page l = l.marks.items ≡ map (right_mark l.rows) (take l.page-index l.rows.pages)

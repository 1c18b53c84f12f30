use Rattle.std.proofs.Common.{◌≡◌, ◌<◌, ◌≤◌, true, ℕ}
use Rattle.pl_sheets.specs.Marks.{is_empty}
use Rattle.pl_sheets.proofs.level.Level.next_word.Given as goal

abbrev pub invariant-loop-word : goal.invariant-loop-word
invariant-loop-word l = (w : ℕ) → l.from ≤ w → w < l.word → is_empty w l.self.words.items ≡ true

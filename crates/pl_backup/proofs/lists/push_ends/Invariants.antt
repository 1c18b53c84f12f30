use Rattle.std.proofs.Common.{◌≡◌, ◌++◌, List, length, map}
use Rattle.std.specs.String.{string_bytes}
use Rattle.pl_backup.specs.BackupText.{Placed}
use Rattle.pl_backup.specs.Written.{Starts, to_come}
use Rattle.pl_backup.proofs.lists.push_ends.Given as goal

abbrev pub invariant-loop-folder : goal.invariant-loop-folder
invariant-loop-folder l =
    (left : List Placed) → Starts l.depth left
    → string_bytes l.file ++ to_come l.after (map (λ n. n.now) l.around.items) left
    ≡ string_bytes l.fn.file ++ to_come l.later (map (λ n. n.now) l.fn.around.items) left

abbrev pub decreases-loop-folder : goal.decreases-loop-folder
decreases-loop-folder l = length l.around.items

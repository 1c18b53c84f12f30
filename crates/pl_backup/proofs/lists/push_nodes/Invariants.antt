use Rattle.std.proofs.Common.{◌≡◌, ◌++◌, false, length, map}
use Rattle.std.specs.String.{string_bytes}
use Rattle.pl_backup.specs.BackupText.{items, values}
use Rattle.pl_backup.specs.Written.{to_come}
use Rattle.pl_backup.proofs.lists.push_nodes.Given as goal
use Rattle.serde_json.specs.Written.{items_text}

abbrev pub invariant-loop-node : goal.invariant-loop-node
invariant-loop-node l =
    string_bytes l.file ++ to_come l.later (map (λ n. n.now) l.around.items) (values l.left)
    ≡ string_bytes l.fn.file ++ items_text false (items (values l.nodes))

abbrev pub decreases-loop-node : goal.decreases-loop-node
decreases-loop-node l = length l.left

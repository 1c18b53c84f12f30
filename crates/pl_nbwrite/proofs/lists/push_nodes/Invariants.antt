use Rattle.std.proofs.Common.{◌≡◌, ◌++◌, length}
use Rattle.std.specs.String.{string_bytes}
use Rattle.pl_nbwrite.specs.BookmarkText.{nodes_text}
use Rattle.pl_nbwrite.proofs.lists.push_nodes.Given as goal

abbrev pub invariant-loop-node : goal.invariant-loop-node
invariant-loop-node l =
    string_bytes l.file ++ nodes_text l.level l.left ≡ string_bytes l.fn.file ++ nodes_text l.level l.nodes

abbrev pub decreases-loop-node : goal.decreases-loop-node
decreases-loop-node l = length l.left
